use Rattle.std.proofs.Common.{◌<◌, ◌^◌, length, refl, sym, ap, ◌∙◌, inl, inr, arith, subst, ◌∷◌, []}
use Rattle.std.proofs.lemmas.Result.{err_from_is_err_and}
use Rattle.std.proofs.lemmas.Str.{length-le-encodes}
use Rattle.yaml_text.specs.declared.types.yaml_encoding_t.{yaml_encoding_t}
use Rattle.yaml_text.specs.Decoding.{refusal_seen}
use Rattle.yaml_text.specs.Fault.{fault_of}
use Rattle.yaml_text.specs.Text.{Text}
use Rattle.yaml_text.specs.TextBytes.{AreChars}
use Rattle.yaml_scan.specs.Groups.Token.{StreamStart}
use Rattle.yaml_scan.specs.inside.Queue.{IsQueue}
use Rattle.yaml_scan.specs.inside.Scanner.{scanner_of}
use Rattle.yaml_scan.specs.inside.Scanning.{IsNearOf}
use Rattle.yaml_scan.proofs.RunningStep.FirstStep.{new_stopped, new_ended, begins, begun_in}
use Rattle.yaml_scan.proofs.scanner.begin_over.Goals as goal

pub put_stream_start-requires-clause-empty : goal.put_stream_start-requires-clause-empty
put_stream_start-requires-clause-empty c = let n = c.requires c.args.text.now in n.queue

pub put_stream_start-requires-clause-none : goal.put_stream_start-requires-clause-none
put_stream_start-requires-clause-none c = let n = c.requires c.args.text.now in n.early

pub returns-in-Some : goal.returns-in-Some
returns-in-Some c = λ setting input q r X.
    let s = scanner_of X c.args.state.now in
    let z = new_stopped setting input s (c.requires X) in
    let e = new_ended setting input s (c.requires X) c.args.text.now q (refusal_seen c.args.refusal) r c.near_of-near.result c.near_of-near.ensures.near (fault_of c.in-Some.fault) (sym c.near_start.ensures ∙ ap refusal_seen c.in-Some.is) in (
      inr (record { none = e.none; fault = e.fault; made = e.made }),
      record { limit = z.limit; taken = z.taken; done = z.done; least = z.least; most = z.most; unsettled = z.unsettled; reach = z.reach; last = s; ready = inl (c.requires X); halts = record { text = refl; near = refl; limit = refl; outer = refl; empty = refl; top = refl; awaited = refl; allowed = refl; levels = refl; groups = refl; done = refl; early = refl; early_mark = refl; reach = refl; taken = refl; made = refl } },
    )

pub returns-in_err-put_stream_start : goal.returns-in_err-put_stream_start
returns-in_err-put_stream_start c = λ setting input q r X.
    let s = scanner_of X c.args.state.now in
    let p = err_from_is_err_and c.from_residual.result c.from_residual.ensures.1 in
    let z = new_stopped setting input s (c.requires X) in
    let k = c.in_err-put_stream_start.ensures in
    rw (p.1, p.2) (
      inl (record { fault = refl; in_utf8 = λ u. begun_in c.args.state.now.limit setting input c.args.text.now q (refusal_seen c.args.refusal) r c.near_of-near.result c.near_of-near.ensures.near (sym c.near_start.ensures ∙ ap refusal_seen c.in_default.is) }),
      record { limit = z.limit; taken = z.taken; done = k.done; least = z.least; most = z.most; unsettled = z.unsettled; reach = z.reach; last = s; ready = inl (c.requires X); halts = record { text = refl; near = refl; limit = refl; outer = refl; empty = refl; top = refl; awaited = refl; allowed = refl; levels = refl; groups = k.same; done = k.done; early = k.early; early_mark = k.mark; reach = refl; taken = refl; made = refl } },
    )

pub returns : goal.returns
returns c = λ setting input e r X.
    let V = c.args.text.now in
    let n = c.near_of-near.ensures in
    begins setting input (scanner_of X c.args.state.now) _ (c.requires X) refl
    (subst (λ (z : Text). AreChars z.chars) e n.text)
    (subst (λ (z : Text). length z.chars < 2 ^ 63) e (omega (arith, length-le-encodes V.chars, n.small)))
    r
    (subst (λ (z : Text). IsNearOf (refusal_seen c.args.refusal) z.chars c.near_of-near.result) e n.near)
    refl refl refl refl
    (subst (λ (x : yaml_encoding_t). IsQueue x c.put_stream_start.new.self.early c.put_stream_start.new.self.early_mark c.put_stream_start.new.self.groups.items (StreamStart ∷ [])) (c.encoding-encoding.ensures.is ∙ ap (λ (z : Text). z.encoding) e) c.in_ok-put_stream_start.ensures.queue)
    c.in_ok-put_stream_start.ensures.long c.in_ok-put_stream_start.ensures.early c.in_ok-put_stream_start.ensures.done refl refl refl (sym c.near_start.ensures ∙ ap refusal_seen c.in_default.is)

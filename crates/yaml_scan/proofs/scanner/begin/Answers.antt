use Rattle.std.proofs.Common.{refl, sym, ◌∙◌, inl}
use Rattle.std.proofs.lemmas.Bool.{false≢true}
use Rattle.yaml_text.specs.Decode.{front}
use Rattle.yaml_scan.specs.inside.Scanner.{scanner_of}
use Rattle.yaml_scan.proofs.RunningStep.FirstStep.{new_stopped, encoding_in}
use Rattle.yaml_scan.proofs.scanner.begin.Goals as goal

-- the text of UTF-8 takes no memory
pub returns-in-Err : goal.returns-in-Err
returns-in-Err c = λ X. let z = new_stopped c.args.setting c.args.input.now (scanner_of X c.args.state.now) (c.requires X) in (inl (record { fault = c.in-Err.ensures.memory; in_utf8 = λ u. absurd (false≢true (c.in-Err.ensures.borrowed (sym (encoding_in c.args.setting c.args.input.now) ∙ u))) }), record { limit = z.limit; taken = z.taken; done = z.done; least = z.least; most = z.most; unsettled = z.unsettled; reach = z.reach; last = scanner_of X c.args.state.now; ready = inl (c.requires X); halts = record { text = refl; near = refl; limit = refl; outer = refl; empty = refl; top = refl; awaited = refl; allowed = refl; levels = refl; groups = refl; done = refl; early = refl; early_mark = refl; reach = refl; taken = refl; made = refl } })

pub returns : goal.returns
returns c = λ X. (c.in-Ok.ensures.front, c.in_ok-begun.ensures c.args.setting c.args.input.now (c.view-text.ensures (front c.args.setting c.args.input.now) c.in-Ok.ensures.front) c.in-Ok.ensures.refusal X)

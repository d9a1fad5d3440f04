use Rattle.std.proofs.Common.{[], sym, subst, ◌∙◌, inl}
use Rattle.std.proofs.lemmas.Result.{err_from_is_err_and}
use Rattle.yaml_text.specs.Decode.{front}
use Rattle.yaml_text.specs.Text.{Text}
use Rattle.yaml_scan.specs.inside.Ready.{Begins}
use Rattle.yaml_scan.specs.inside.Scanner.{scanner_of}
use Rattle.yaml_scan.proofs.RunningCalls.GivenToEnd.{finished, none_made, words_then}
use Rattle.yaml_scan.proofs.give.give_all.Goals as goal

pub returns-in_err-kept : goal.returns-in_err-kept
returns-in_err-kept g c =
    let x = front c.args.setting c.args.input.now in
    let n = c.requires x in
    let p = err_from_is_err_and c.from_residual.result c.from_residual.ensures.1 in
    rw (p.1, p.2) (inl (record {
      tokens = [];
      given = g.met.S.yaml_token_sink_t.took_none c.args.sink.now;
      reads = none_made c.args.setting c.args.input.now (scanner_of x c.args.state.now) (scanner_of x c.begin.new.state) _ n.taken (c.in_err-kept.ensures x).0;
    }))

pub view-text-requires : goal.view-text-requires
view-text-requires g c = let x = front c.args.setting c.args.input.now in (x, (c.in_ok-kept.ensures x).0)

pub give_rest-requires-clause-runs : goal.give_rest-requires-clause-runs
give_rest-requires-clause-runs g c = let x = front c.args.setting c.args.input.now in let k = c.in_ok-kept.ensures x in
    let b = subst (λ (z : Text). Begins c.args.setting c.args.input.now (scanner_of x c.args.state.now) (scanner_of z c.begin.new.state)) (sym (c.view-text.ensures x k.0)) k.1 in b.stands.runs

pub give_rest-requires-clause-still_open : goal.give_rest-requires-clause-still_open
give_rest-requires-clause-still_open g c = let x = front c.args.setting c.args.input.now in let k = c.in_ok-kept.ensures x in
    let b = subst (λ (z : Text). Begins c.args.setting c.args.input.now (scanner_of x c.args.state.now) (scanner_of z c.begin.new.state)) (sym (c.view-text.ensures x k.0)) k.1 in b.still_open

pub give_rest-requires-clause-words : goal.give_rest-requires-clause-words
give_rest-requires-clause-words g c = let x = front c.args.setting c.args.input.now in let k = c.in_ok-kept.ensures x in
    let b = subst (λ (z : Text). Begins c.args.setting c.args.input.now (scanner_of x c.args.state.now) (scanner_of z c.begin.new.state)) (sym (c.view-text.ensures x k.0)) k.1 in
    words_then c.args.state.now.limit c.args.setting c.args.input.now (scanner_of c.view-text.result c.begin.new.state) b.stands b.limit

pub returns : goal.returns
returns g c =
    let x = front c.args.setting c.args.input.now in
    let n = c.requires x in
    let k = c.in_ok-kept.ensures x in
    let b = subst (λ (z : Text). Begins c.args.setting c.args.input.now (scanner_of x c.args.state.now) (scanner_of z c.begin.new.state)) (sym (c.view-text.ensures x k.0)) k.1 in
    finished c.args.state.now.limit c.args.setting c.args.input.now (scanner_of c.view-text.result c.begin.new.state) b.stands b.limit (b.taken ∙ n.taken)
    (λ tokens. g.S.yaml_token_sink_t.took c.args.sink.now tokens c.give_rest.new.sink) c.give_rest.new.state.fault g.S.yaml_token_sink_t.may_refuse c.give_rest.result c.give_rest.ensures

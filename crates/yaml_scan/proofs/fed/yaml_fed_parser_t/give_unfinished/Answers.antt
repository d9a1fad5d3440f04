use Rattle.std.proofs.Common.{ℕ, List, sym, subst}
use Rattle.yaml_text.specs.Decode.{front}
use Rattle.yaml_text.specs.Kept.{IsKeptOf}
use Rattle.yaml_text.specs.Token.{Token}
use Rattle.yaml_scan.specs.inside.Feeding.{IsReadyFed, held}
use Rattle.yaml_scan.proofs.RunningCalls.FedGives.{gives_over, over_of}
use Rattle.yaml_scan.proofs.fed.yaml_fed_parser_t.give_unfinished.Goals as goal

pub give_over-requires-clause-at : goal.give_over-requires-clause-at
give_over-requires-clause-at g c =
    let r = c.requires.at in
    let k = c.args.self.now in
    let R : IsReadyFed r.0 k r.0.given = subst (λ (x : List ℕ). IsReadyFed r.0 k x) (sym r.1) r.2 in
    (front r.0.setting r.0.given, subst (λ (x : List ℕ). IsKeptOf (front r.0.setting r.0.given) x k.scanner.text) r.1 (R.unfinished c.requires.uncertain).2, (held r.0.given k, over_of r.0 k R c.requires.uncertain))

pub returns-clause-gives : goal.returns-clause-gives
returns-clause-gives g c = λ p e r.
    let k = c.args.self.now in
    let R : IsReadyFed p k p.given = subst (λ (x : List ℕ). IsReadyFed p k x) (sym e) r in
    let n = R.unfinished c.requires.uncertain in
    gives_over p k R c.requires.uncertain (λ (ts : List Token). g.S.yaml_token_sink_t.took c.args.sink.now ts c.give_over.new.sink) (g.S.yaml_token_sink_t.lacks c.give_over.new.sink) c.give_over.new.scanner c.give_over.result
    (c.give_over.ensures.gives (front p.setting p.given) (subst (λ (x : List ℕ). IsKeptOf (front p.setting p.given) x k.scanner.text) e n.2) (held p.given k) (over_of p k R c.requires.uncertain))

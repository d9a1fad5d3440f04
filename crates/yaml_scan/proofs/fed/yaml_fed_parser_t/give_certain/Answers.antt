use Rattle.std.proofs.Common.{◌≡◌, ℕ, List, Ok, Err, take, refl, sym, ◌∙◌, subst}
use Rattle.yaml_text.specs.Fault.{Fault, fault_of}
use Rattle.yaml_text.specs.Token.{Token}
use Rattle.yaml_scan.specs.Fed.{Fed}
use Rattle.yaml_scan.specs.declared.fed.yaml_fed_parser_t.{yaml_fed_parser_t}
use Rattle.yaml_scan.specs.inside.Feeding.{IsReadyFed}
use Rattle.yaml_scan.specs.inside.Kept.{scan_of}
use Rattle.yaml_scan.specs.inside.KeptEnds.{Gives}
use Rattle.yaml_scan.specs.inside.KeptParts.{StopsAfter}
use Rattle.yaml_scan.proofs.RunningCalls.FedGives.{came_first, gives_fault, gives_over_end, gives_room}
use Rattle.yaml_scan.proofs.fed.yaml_fed_parser_t.give_certain.Goals as goal

-- the bytes that had come by the last call
came_is : (p : Fed) (k : yaml_fed_parser_t) (came input : List ℕ) → p.given ≡ input → IsReadyFed p k came → take k.came input ≡ came
came_is p k came input e R = let F = R.is in came_first came input k.came (record { rest = F.begins.rest; is = sym e ∙ F.begins.is }) F.came_is

pub returns-then-self-clause-gives : goal.returns-then-self-clause-gives
returns-then-self-clause-gives g c = λ p e came R.
    let k = c.args.self.now in
    let l = c.give.new.self in
    let took : List Token → Type 0 = λ ts. g.S.yaml_token_sink_t.took c.args.sink.now ts c.give.new.sink in
    let lacks = g.S.yaml_token_sink_t.lacks c.give.new.sink in
    let w = subst (λ (x : List ℕ). Gives x k.scanner l took lacks (Ok tt)) (came_is p k came c.args.input.now e R) c.in-Ok.ensures.gives in
    gives_over_end p k came R c.requires.certain took lacks l w.0 w.1.0 w.1.1 w.1.2 w.1.3 c.if-self.true

pub returns-else-self-clause-gives : goal.returns-else-self-clause-gives
returns-else-self-clause-gives g c = λ p e came R.
    let k = c.args.self.now in
    let l = c.give.new.self in
    let took : List Token → Type 0 = λ ts. g.S.yaml_token_sink_t.took c.args.sink.now ts c.give.new.sink in
    let lacks = g.S.yaml_token_sink_t.lacks c.give.new.sink in
    let w = subst (λ (x : List ℕ). Gives x k.scanner l took lacks (Ok tt)) (came_is p k came c.args.input.now e R) c.in-Ok.ensures.gives in
    gives_room p k came R c.requires.certain took lacks l w.0 w.1.0 w.1.1 w.1.2 w.1.3 c.if-self.false

pub returns-in-Err-clause-gives : goal.returns-in-Err-clause-gives
returns-in-Err-clause-gives g c = λ p e came R.
    let k = c.args.self.now in
    let l = c.give.new.self in
    let took : List Token → Type 0 = λ ts. g.S.yaml_token_sink_t.took c.args.sink.now ts c.give.new.sink in
    let lacks = g.S.yaml_token_sink_t.lacks c.give.new.sink in
    let w = subst (λ (x : List ℕ). Gives x k.scanner l took lacks (Err c.in-Err.stop)) (came_is p k came c.args.input.now e R) c.in-Err.ensures.gives in
    let n = c.close.ensures in
    gives_fault p k came R c.requires.certain took lacks l w.2.setting w.0 w.1 (fault_of n.0) (subst (λ (f : Fault). StopsAfter (scan_of came k.scanner) l.session w.0 f) (sym n.1) w.2.stops) n.0 refl c.close.new.self n.2

use Rattle.std.proofs.Common.{◌≡◌, List, ℕ, Bool, true, false, length, ap, ◌∙◌, sym, subst}
use Rattle.std.specs.Prelude.{MatchOption}
use Rattle.yaml_text.specs.Decode.{front, refusal}
use Rattle.yaml_text.specs.Kept.{IsKeptOf}
use Rattle.yaml_text.specs.Pieces.{IsBegunOf, is_broken}
use Rattle.yaml_scan.specs.Fed.{Fed}
use Rattle.yaml_scan.specs.inside.Feeding.{CanDecode, GoesOnOver, IsReadyFed}
use Rattle.yaml_scan.proofs.RunningCalls.MoreCame.{ready_fed}
use Rattle.yaml_scan.proofs.fed.yaml_fed_parser_t.decode.Goals as goal

pub returns : goal.returns
returns c = λ p e w C known. subst (λ (x : List ℕ). IsReadyFed p (record { scanner = c.go_on-self.new.scanner; came = length x; known = c.args.self.now.known; certain = c.go_on-self.result }) x) e
    (go p e w C known)
  where
    go : (p : Fed) → p.given ≡ c.args.input.now → p.whole ≡ c.args.last → CanDecode p c.args.self.now → c.args.self.now.known ≡ true
        → IsReadyFed p (record { scanner = c.go_on-self.new.scanner; came = length p.given; known = c.args.self.now.known; certain = c.go_on-self.result }) p.given
    go p e w C known =
        let b : IsBegunOf p.setting c.args.input.now c.args.self.now.scanner.text = subst (λ (x : List ℕ). IsBegunOf p.setting x c.args.self.now.scanner.text) e C.part in
        let d = c.decode_on-refused.ensures in
        let n = d.kept p.setting b in
        let k = c.args.self.now.scanner in
        let text = c.decode_on-refused.new.self in
        let G : List ℕ → Bool → Type 0 = λ x b. GoesOnOver (front p.setting x) (record { setting = k.setting; text = text; session = k.session }) c.decode_on-refused.result b c.go_on-self.new.scanner c.go_on-self.result in
        ready_fed p c.args.self.now C known text
        (subst (λ (x : List ℕ). IsKeptOf (front p.setting x) x text) (sym e) n.0)
        (subst (λ (x : List ℕ). IsBegunOf p.setting x text) (sym e) n.1)
        c.decode_on-refused.result
        (d.refusal p.setting b ∙ ap (λ (x : List ℕ). refusal p.setting x) (sym e))
        (subst (λ (x : List ℕ). MatchOption c.decode_on-refused.result (is_broken p.setting x ≡ false) (λ r. r.1 ≡ is_broken p.setting x)) (sym e) (d.broken p.setting b))
        c.go_on-self.result c.go_on-self.new.scanner
        (subst (λ (b : Bool). G p.given b) (sym w) (subst (λ (x : List ℕ). G x c.args.last) (sym e) (c.go_on-self.ensures (front p.setting c.args.input.now) n.0)))

-- More of an input comes between two calls.
use Rattle.std.proofs.Common.{◌≡◌, ◌++◌, ℕ, Bool, true, false, List, sym, ◌∙◌, subst, arith, inl, inr, length-append, append_assoc}
use Rattle.yaml_scan.specs.Begins.{Begins}
use Rattle.yaml_scan.specs.Fed.{Fed, MayBe, comes}
use Rattle.yaml_scan.proofs.RunningCalls.FedGives.{more_comes}
use Rattle.yaml_c.specs.Ahead.{Ahead}
use Rattle.yaml_c.specs.Ahead.Ahead.{NONE, READ_FAULT, ALL_GIVEN}
use Rattle.yaml_c.specs.PiecesHeld.{PiecesCome, Stands}

-- what may be the whole input once more came, may have been it before
begins_before : (given bytes input : List ℕ) (last : Bool) → MayBe last (given ++ bytes) input → Begins given input
begins_before given bytes input true m = record { rest = bytes; is = m }
begins_before given bytes input false m = record { rest = bytes ++ m.rest; is = m.is ∙ append_assoc given bytes m.rest }

may_be_before : (p : Fed) (bytes input : List ℕ) (last : Bool) → p.whole ≡ false → MayBe last (p.given ++ bytes) input → MayBe p.whole p.given input
may_be_before p bytes input last e m = subst (λ (b : Bool). MayBe b p.given input) (sym e) (begins_before p.given bytes input last m)

-- what was read ahead is still so
stands_on : (p : Fed) (bytes : List ℕ) (last : Bool) → p.whole ≡ false → (a : Ahead) → Stands p a → Stands (comes p bytes last) a
stands_on p bytes last e NONE w = w
stands_on p bytes last e (READ_FAULT f) (over, fault, inl refused) = (over, fault, inl refused)
stands_on p bytes last e (READ_FAULT f) (over, fault, inr all) = (over, fault, inr (λ input m. all input (may_be_before p bytes input last e m)))
stands_on p bytes last e ALL_GIVEN w = (w.0, λ none. absurd (let k = sym e ∙ (w.1 none).0 in cc))

pub pieces_come : PiecesCome
pieces_come s h bytes last e at = record {
  keeps = record {
    is = more_comes s.fed h.parser bytes last e at.keeps.is;
    ahead = at.keeps.ahead;
    stands = stands_on s.fed bytes last e s.ahead at.keeps.stands;
  };
  came = omega (arith, at.came, length-append s.fed.given bytes);
  whole = λ w. absurd (let k = sym e ∙ (at.whole w).0 in cc);
}

-- Names are good.
use Rattle.std.proofs.Common.{ℕ, ◌&&◌, nat_lt, if◌then◌else◌, List, length, refl, arith}
use Rattle.yaml_lexeme.proofs.CountedMarks.WholePlaces.{sure_alpha}
use Rattle.yaml_lexeme.proofs.Locality.ComposedReaders.{IsLike, found_here, refuse_here, like_if, like_run, Good}
use Rattle.yaml_lexeme.specs.Name.{is_after_name, name}
use Rattle.yaml_lexeme.specs.Place.{Place, first, run, after_run}
use Rattle.yaml_lexeme.specs.Reading.{Read, found, refuse}
use Rattle.yaml_lexeme.specs.declared.problem.yaml_problem_t.TheVariants.{NO_NAME}
use Rattle.yaml_text.specs.Classes.{is_alpha}

-- after the letters
abbrev name_then : List ℕ → Place → Read (List ℕ)
name_then letters end = if nat_lt 0 (length letters) && is_after_name (first end) then found letters end else refuse NO_NAME end

name_then_like : (letters : List ℕ) → IsLike (name_then letters)
name_then_like letters n p q a =
    like_if (nat_lt 0 (length letters) && is_after_name (first p)) (nat_lt 0 (length letters) && is_after_name (first q)) (λ h. rw (a.same 0 (omega arith)) refl) found_here refuse_here

abbrev named_at : Place → Read (List ℕ)
named_at p = name_then (run is_alpha p) (after_run is_alpha p)

pub name_good : Good name
unfolding name
name_good = record { next = named_at; is = λ p. refl; like = λ n p q a. like_run name_then name_then_like is_alpha sure_alpha n p q a }

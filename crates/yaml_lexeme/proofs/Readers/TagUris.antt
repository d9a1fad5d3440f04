-- A tag whose letters are no handle is a uri from its letters on.
use Rattle.std.proofs.Common.{◌≡◌, ℕ, ◌<◌, ◌==◌, false, List, [], ◌∷◌, ◌++◌, length, Ok, Err, refl, sym, ap, ◌∙◌, arith, codes}
use Rattle.yaml_lexeme.proofs.Readers.UriRuns.{from_letters}
use Rattle.yaml_lexeme.specs.declared.problem.yaml_refusal_t.{yaml_refusal_t}
use Rattle.yaml_lexeme.specs.declared.problem.yaml_refusal_t.TheVariants as errors
use Rattle.yaml_lexeme.specs.inside.Gives.{Refuses}
use Rattle.yaml_lexeme.specs.Place.{Place, first, run, after_run}
use Rattle.yaml_lexeme.specs.Reading.{Read, found, with_front, ◌>>=◌}
use Rattle.yaml_lexeme.specs.Tag.{handled, lone}
use Rattle.yaml_lexeme.specs.Uri.{uri}
use Rattle.yaml_text.specs.Classes.{is_alpha}
use Rattle.yaml_text.specs.Token.{TokenData}
use Rattle.yaml_text.specs.Token.TokenData.{TAG}

abbrev pub NoHandle : Place → Type 0
NoHandle p = (first (after_run is_alpha p) == 0x21) ≡ false

join : (letters : List ℕ) (r : Read (List ℕ)) → (r >>= λ x. found (lone (letters ++ x.value)) x.end) ≡ (with_front letters r >>= λ x. found (lone x.value) x.end)
join letters (Ok x) = refl
join letters (Err e) = refl

alone : (p : Place) → NoHandle p → handled p ≡ (uri false p >>= λ x. found (lone x.value) x.end)
unfolding handled
alone p h =
    let whole : Read (List ℕ) → Read TokenData = λ r. r >>= λ x. found (lone x.value) x.end in
    rw h (join (run is_alpha p) (uri false (after_run is_alpha p)) ∙ ap whole (sym (from_letters p)))

pub tag_found : (p q : Place) (suffix : List ℕ) → NoHandle p → uri false p ≡ found suffix q → handled p ≡ found (lone suffix) q
tag_found p q suffix h e = alone p h ∙ rw e refl

pub tag_refused : (error : yaml_refusal_t) (p q : Place) → NoHandle p → Refuses error q (uri false p) → Refuses error q (handled p)
tag_refused errors.MEMORY p q h r = tt
tag_refused (errors.OFFENCE problem) p q h r = alone p h ∙ rw r refl

pub lone_sign : (suffix : List ℕ) → length suffix ≡ 0 → lone suffix ≡ TAG suffix (codes "!")
lone_sign [] h = refl
lone_sign (c ∷ cs) h = absurd (omega arith)

pub lone_suffix : (suffix : List ℕ) → 0 < length suffix → lone suffix ≡ TAG (codes "!") suffix
lone_suffix [] h = absurd (omega arith)
lone_suffix (c ∷ cs) h = refl

-- A list of parts can be gathered into a state one part at a time.
use Rattle.std.proofs.Common.{◌≡◌, ◌<◌, List, [], ◌∷◌, length, Some, None, Ok, Err, refl, sym, ap, ◌∙◌}
use Rattle.std.specs.List.{fold}
use Rattle.yaml_lexeme.proofs.Parts.PartByPart.{Shortens, many_turn}
use Rattle.yaml_lexeme.specs.Place.{Place}
use Rattle.yaml_lexeme.specs.Reading.{Offence, Found, Read, found, ◌>>=◌, Part, with_front, go_on, many}

-- what a list of parts makes of the state s
abbrev pub gather : {S A : Type 0} → (S → A → S) → S → Read (List A) → Read S
gather step s parts = parts >>= λ r. found (fold step s r.value) r.end

turn : {S A : Type 0} → (step : S → A → S) (s : S) (a : A) (r : Read (List A)) → gather step s (with_front (a ∷ []) r) ≡ gather step (step s a) r
turn step s a (Ok r) = refl
turn step s a (Err e) = refl

-- one more part was read
pub gathers_more : {S A : Type 0} → (step : S → A → S) (one : Place → Part A) → Shortens one → (p : Place) (s : S) (f : Found A) (whole : Read S)
    → one p ≡ Ok (Some f) → gather step s (many one p) ≡ whole → (length f.end.rest < length p.rest) × (gather step (step s f.value) (many one f.end) ≡ whole)
gathers_more step one short p s f whole e so_far =
    let more = many_turn one short p ∙ ap (λ r. r >>= λ a. go_on (many one) p a) e in
    (rw e at (short p), sym (turn step s f.value (many one f.end)) ∙ ap (gather step s) (sym more) ∙ so_far)

-- the list is over
pub gathers_all : {S A : Type 0} → (step : S → A → S) (one : Place → Part A) → Shortens one → (p : Place) (s : S) (whole : Read S)
    → one p ≡ Ok None → gather step s (many one p) ≡ whole → whole ≡ found s p
gathers_all step one short p s whole e so_far = sym so_far ∙ ap (gather step s) (many_turn one short p ∙ ap (λ r. r >>= λ a. go_on (many one) p a) e)

-- a part could not be read
pub gathers_none : {S A : Type 0} → (step : S → A → S) (one : Place → Part A) → Shortens one → (p : Place) (s : S) (whole : Read S) (o : Offence)
    → one p ≡ Err o → gather step s (many one p) ≡ whole → whole ≡ Err o
gathers_none step one short p s whole o e so_far = sym so_far ∙ ap (gather step s) (many_turn one short p ∙ ap (λ r. r >>= λ a. go_on (many one) p a) e)

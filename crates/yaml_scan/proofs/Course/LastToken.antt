-- The token of the stream end is the last one, and no fault comes after it.
use Rattle.std.proofs.Common.{◌≡◌, ℕ, zero, suc, ◌+◌, Bool, true, false, List, [], ◌∷◌, ◌++◌, length, slice_get, Option}
use Rattle.std.proofs.Common.{Some, None, refl, ap, sym, ◌∙◌, subst, arith, inl, inr, append_assoc}
use Rattle.std.specs.Prelude.{option_map, if◌then◌else◌}
use Rattle.std.proofs.lemmas.Bool.{cases_Bool, false≢true}
use Rattle.yaml_scan.specs.Course.{ended, Input, course, course_from, next}
use Rattle.yaml_scan.specs.Laid.{Laid}
use Rattle.yaml_scan.specs.Order.{IsHistory}
use Rattle.yaml_scan.specs.Groups.{Token, offline, groups, group, block_ends, inserted}
use Rattle.yaml_scan.specs.Settled.{before, tokens_of}
use Rattle.yaml_scan.specs.Groups.Token.{OfLexeme}
use Rattle.yaml_scan.specs.Source.{Offence}
use Rattle.yaml_scan.specs.Cut.{EndsWith, KeepsOrder}
use Rattle.yaml_scan.specs.Near.{starts_near}
use Rattle.yaml_scan.specs.Session.{is_last}
use Rattle.yaml_scan.proofs.TokenList.EveryToken.{Every, HoldsPutIn, every_append, every_front, every_lead}
use Rattle.yaml_scan.proofs.TokenList.SettledStays.{before-offline}
use Rattle.yaml_scan.proofs.TokenList.OneLexemeMore.{all_is_handed_out}
use Rattle.yaml_scan.proofs.Course.CourseSteps.{course_is_history, steps_of, steps_are}

-- none is that of the stream end
abbrev pub IsOn : Token → Type 0
IsOn x = is_last x ≡ false

abbrev pub AllOn : List Token → Type 0
AllOn xs = Every IsOn xs

put_in_on : HoldsPutIn IsOn
put_in_on = record { start = refl; ends = λ m. refl; sequence = λ m. refl; mapping = λ m. refl; key = λ m. refl }

on_at : (xs : List Token) (n : ℕ) (x : Token) → AllOn xs → slice_get xs n ≡ Some x → is_last x ≡ false
on_at [] n x a e = absurd (cc)
on_at (y ∷ xs) zero x a e = let q : y ≡ x = cc in subst (λ (z : Token). is_last z ≡ false) q a.0
on_at (y ∷ xs) (suc n) x a e = on_at xs n x a.1 e

-- what comes before the token of i
abbrev lead : List Laid → Laid → List Token
lead W i = block_ends i ++ inserted W i

group_is : (W : List Laid) (i : Laid) → group W i ≡ lead W i ++ (OfLexeme i.lexeme ∷ [])
unfolding group
group_is W i = sym (append_assoc (block_ends i) (inserted W i) (OfLexeme i.lexeme ∷ []))

on_groups : (limit : ℕ) (W B : List Laid) → IsHistory limit B → ended B ≡ false → AllOn (groups W B)
unfolding groups
on_groups limit W [] h e = (refl, tt)
on_groups limit W (i ∷ B) h e = every_append IsOn (groups W B) (group W i) (on_groups limit W B h.2 h.3)
    (subst (λ (l : List Token). AllOn l) (sym (group_is W i)) (every_append IsOn (lead W i) (OfLexeme i.lexeme ∷ []) (every_lead IsOn put_in_on W i) (e, tt)))

-- after others that are not, the one at the end
at_end : (xs : List Token) (y : Token) (n : ℕ) (x : Token) → AllOn xs → slice_get (xs ++ y ∷ []) n ≡ Some x → is_last x ≡ true → n + 1 ≡ length (xs ++ y ∷ [])
at_end [] y zero x a e l = refl
at_end [] y (suc n) x a e l = absurd (cc)
at_end (z ∷ xs) y zero x a e l = let q : z ≡ x = cc in absurd (false≢true (sym a.0 ∙ ap is_last q ∙ l))
at_end (z ∷ xs) y (suc n) x a e l = let r = at_end xs y n x a.1 e l in omega arith

-- while the stream has not ended
pub settled_on : (limit : ℕ) (H : List Laid) → IsHistory limit H → ended H ≡ false → AllOn (before limit H)
unfolding offline
settled_on limit H h w = let b = before-offline limit H h in every_front IsOn (before limit H) b.rest (subst (λ (z : List Token). AllOn z) b.is (on_groups limit H H h w))

end_of_history : (limit : ℕ) (H : List Laid) → IsHistory limit H → (n : ℕ) (x : Token) → slice_get (before limit H) n ≡ Some x → is_last x ≡ true → (ended H ≡ true) × (n + 1 ≡ length (before limit H))
unfolding offline groups
end_of_history limit H h n x e l = elim (cases_Bool (ended H)) [
  | inl w ↦ (w, whole H h w e)
  | inr w ↦ absurd (false≢true (sym (on_at (before limit H) n x (settled_on limit H h w) e) ∙ l))
]
  where
    last_of_all : (i : Laid) (B : List Laid) → offline (i ∷ B) ≡ (groups (i ∷ B) B ++ lead (i ∷ B) i) ++ OfLexeme i.lexeme ∷ []
    last_of_all i B = ap (λ (z : List Token). groups (i ∷ B) B ++ z) (group_is (i ∷ B) i) ∙ sym (append_assoc (groups (i ∷ B) B) (lead (i ∷ B) i) (OfLexeme i.lexeme ∷ []))

    whole : (G : List Laid) → IsHistory limit G → ended G ≡ true → slice_get (before limit G) n ≡ Some x → n + 1 ≡ length (before limit G)
    whole [] g w q = absurd (false≢true w)
    whole (i ∷ B) g w q =
        let a = (all_is_handed_out limit (i ∷ B) g w).1 ∙ last_of_all i B in
        subst (λ (z : List Token). slice_get z n ≡ Some x → n + 1 ≡ length z) (sym a)
        (λ r. at_end (groups (i ∷ B) B ++ lead (i ∷ B) i) (OfLexeme i.lexeme) n x (every_append IsOn (groups (i ∷ B) B) (lead (i ∷ B) i) (on_groups limit (i ∷ B) B g.2 g.3) (every_lead IsOn put_in_on (i ∷ B) i)) r l) q

-- after the stream end there is no fault
ends_well : (limit : ℕ) (input : Input) → KeepsOrder input.source → (course limit input).begun ≡ true → ended (course limit input).read ≡ true → (course limit input).fault ≡ None
unfolding course
ends_well limit input k b e = go (starts_near input.source.size input.refusal) b e
  where
    no_offence : (o : Option Offence) → EndsWith (next input limit) (steps_of limit input k).read o → ended (steps_of limit input k).read ≡ true → option_map (λ o. o.fault) o ≡ None
    no_offence None w q = refl
    no_offence (Some o) w q = absurd (false≢true (sym w.0 ∙ q))

    go : (z : Bool) → (course_from z input.refusal (steps_of limit input k)).begun ≡ true → ended (course_from z input.refusal (steps_of limit input k)).read ≡ true → (course_from z input.refusal (steps_of limit input k)).fault ≡ None
    go true p q = absurd (false≢true p)
    go false p q = no_offence (steps_of limit input k).fault (steps_are limit input k).1 q

pub stream_end_is_last : (limit : ℕ) (input : Input) → KeepsOrder input.source → (n : ℕ) (x : Token) → slice_get (tokens_of limit (course limit input)) n ≡ Some x → is_last x ≡ true
    → (n + 1 ≡ length (tokens_of limit (course limit input))) × ((course limit input).fault ≡ None)
stream_end_is_last limit input k n x e l = go (course limit input).begun refl e
  where
    go : (b : Bool) → (course limit input).begun ≡ b → slice_get (if b then before limit (course limit input).read else []) n ≡ Some x
        → (n + 1 ≡ length (if b then before limit (course limit input).read else [])) × ((course limit input).fault ≡ None)
    go false q r = absurd (cc)
    go true q r = let z = end_of_history limit (course limit input).read (course_is_history limit input k) n x r l in (z.1, ends_well limit input k q z.0)

-- What is taken if memory is refused: the tokens that the steps which were made settle.
use Rattle.std.proofs.Common.{◌≡◌, ℕ, zero, suc, ◌+◌, ◌-◌, ◌≤◌, ◌<◌, Bool, true, false, List, [], ◌∷◌, ◌++◌, map, take, length, slice_get, Some, None, refl, ap, sym, ◌∙◌, subst, arith, inl, inr, ltb, ltb-true}
use Rattle.std.specs.Prelude.{nat_lt, if◌then◌else◌}
use Rattle.std.proofs.lemmas.Bool.{cases_Bool, cases_lt, and_parts, false≢true}
use Rattle.yaml_text.specs.declared.types.yaml_encoding_t.{yaml_encoding_t}
use Rattle.yaml_scan.specs.Course.{oldest, Input, Course, course}
use Rattle.yaml_scan.specs.Laid.{Laid}
use Rattle.yaml_scan.specs.Order.{IsHistory}
use Rattle.yaml_scan.specs.Begins.{Begins}
use Rattle.yaml_scan.specs.Groups.{Token, handed_out}
use Rattle.yaml_scan.specs.Settled.{before}
use Rattle.yaml_scan.specs.Cut.{KeepsOrder}
use Rattle.yaml_scan.specs.AnswerLaws.{AreFollowed}
use Rattle.yaml_scan.specs.TokenLaws.{KeysHaveValues}
use Rattle.yaml_scan.specs.Settled.{settled, pace, first_steps, tokens_of}
use Rattle.yaml_scan.specs.Session.{all_steps}
use Rattle.yaml_scan.specs.Sessions.{settled_tokens}
use Rattle.yaml_scan.proofs.Course.AnswerOrder.{TokensFit, fit_front, fit_course, followed}
use Rattle.yaml_scan.proofs.Course.CourseSteps.{course_is_history}
use Rattle.yaml_scan.proofs.TokenList.SettledStays.{before-before}
use Rattle.yaml_scan.proofs.TokenList.KeyValues.{keys_are_followed}
use Rattle.yaml_scan.proofs.Course.StepsNeeded.{split, at_most, older, settled_from, pace_settles}

begun_of : (c : Course) (s : ℕ) → 0 < s → s ≤ all_steps c → c.begun ≡ true
begun_of c s p l = elim (cases_Bool c.begun) [
  | inl q ↦ q
  | inr q ↦ (let z : all_steps c ≡ 0 = rw q refl in absurd (omega arith))
]

begun_some : (limit : ℕ) (c : Course) (t : ℕ) (x : Token) → slice_get (tokens_of limit c) t ≡ Some x → c.begun ≡ true
begun_some limit c t x e = elim (cases_Bool c.begun) [
  | inl q ↦ q
  | inr q ↦ (let z : slice_get [] t ≡ Some x = rw q at e in absurd (let n : None ≡ Some x = z in cc))
]

tokens_begun : (limit : ℕ) (c : Course) → c.begun ≡ true → tokens_of limit c ≡ before limit c.read
tokens_begun limit c e = rw e refl

steps_begun : (c : Course) → c.begun ≡ true → all_steps c ≡ length c.read + 1
steps_begun c e = rw e refl

steps_few : (c : Course) → all_steps c ≤ length c.read + 1
steps_few c = elim (cases_Bool c.begun) [
  | inl q ↦ (let z = steps_begun c q in omega arith)
  | inr q ↦ (let z : all_steps c ≡ 0 = rw q refl in omega arith)
]

get_within : (xs : List Token) (n : ℕ) (x : Token) → slice_get xs n ≡ Some x → n < length xs
get_within [] n x e = absurd (cc)
get_within (y ∷ xs) zero x e = omega arith
get_within (y ∷ xs) (suc n) x e = let r = get_within xs n x e in omega arith

take_front : (xs ys : List Token) → take (length xs) (xs ++ ys) ≡ xs
take_front [] ys = refl
take_front (x ∷ xs) ys = ap (λ (z : List Token). x ∷ z) (take_front xs ys)

take_beginning : (xs ys : List Token) → Begins xs ys → take (length xs) ys ≡ xs
take_beginning xs ys g = ap (λ (z : List Token). take (length xs) z) g.is ∙ take_front xs g.rest

module _ (limit : ℕ) (input : Input) (k : KeepsOrder input.source) where
  abbrev C : Course
  C = course limit input

  history : IsHistory limit C.read
  history = course_is_history limit input k

  -- they are a beginning of all tokens
  pub settled_begin : (s : ℕ) → s ≤ all_steps C → Begins (settled_tokens limit C s) (tokens_of limit C)
  settled_begin s w = go (ltb 0 s) refl
    where
      go : (b : Bool) → ltb 0 s ≡ b → Begins (if b then before limit (first_steps s C.read) else []) (tokens_of limit C)
      go false q = record { rest = tokens_of limit C; is = refl }
      go true q =
          let p = ltb-true 0 s q in
          let few = steps_few C in
          let r = split C.read (s - 1) (omega arith) in
          let b = before-before limit r.0 (oldest (s - 1) C.read) (subst (λ (X : List Laid). IsHistory limit X) r.1 history) in
          subst (λ (z : List Token). Begins (before limit (first_steps s C.read)) z) (sym (tokens_begun limit C (begun_of C s p w)))
          (subst (λ (X : List Laid). Begins (before limit (first_steps s C.read)) (before limit X)) (sym r.1) b)

  -- each key among them is followed by its `:`
  settled_keys : (s : ℕ) → s ≤ all_steps C → KeysHaveValues limit (settled_tokens limit C s)
  settled_keys s w = go (ltb 0 s) refl
    where
      go : (b : Bool) → ltb 0 s ≡ b → KeysHaveValues limit (if b then before limit (first_steps s C.read) else [])
      go false q = tt
      go true q =
          let p = ltb-true 0 s q in
          let few = steps_few C in
          let r = split C.read (s - 1) (omega arith) in
          (keys_are_followed limit (oldest (s - 1) C.read) (older limit r.0 (oldest (s - 1) C.read) (subst (λ (X : List Laid). IsHistory limit X) r.1 history))).1

  pub settled_followed : (e : yaml_encoding_t) (s : ℕ) → s ≤ all_steps C → AreFollowed limit (map (handed_out e) (settled_tokens limit C s))
  settled_followed e s w = let b = settled_begin s w in
      followed limit e (settled_tokens limit C s) (fit_front (settled_tokens limit C s) b.rest (subst (λ (z : List Token). TokensFit z) b.is (fit_course limit input k))) (settled_keys s w)

  settled_count : (t s : ℕ) → settled limit C.read t s ≡ true → t < length (settled_tokens limit C s)
  settled_count t s e = let p = and_parts (nat_lt 0 s) (nat_lt t (length (before limit (first_steps s C.read)))) e in
      let l = ltb-true t (length (before limit (first_steps s C.read))) p.1 in
      rw p.0 l

  -- a token that is requested is settled, by steps that there are
  pub asked_settled : (t s : ℕ) (x : Token) → slice_get (tokens_of limit C) t ≡ Some x → t < length (settled_tokens limit C (pace limit C.read t s))
  asked_settled t s x e =
      let g = get_within (tokens_of limit C) t x e in
      let b = ap (λ (z : List Token). length z) (tokens_begun limit C (begun_some limit C t x e)) in
      settled_count t (pace limit C.read t s) (pace_settles limit C.read t s history (omega arith))

  pub asked_within : (t s : ℕ) (x : Token) → slice_get (tokens_of limit C) t ≡ Some x → s ≤ all_steps C → pace limit C.read t s ≤ all_steps C
  unfolding pace
  asked_within t s x e w = let a = steps_begun C (begun_some limit C t x e) in let m = at_most limit C.read t in omega arith

  -- if the next token is not settled, all that are were taken
  pub all_taken : (t s r : ℕ) → s ≤ all_steps C → s ≤ r → t ≤ length (settled_tokens limit C s) → settled limit C.read t r ≡ false → take t (tokens_of limit C) ≡ settled_tokens limit C s
  all_taken t s r w m a u =
      let n = no_more (ltb 0 s) refl in
      let e : t ≡ length (settled_tokens limit C s) = omega arith in
      ap (λ (z : ℕ). take z (tokens_of limit C)) e ∙ take_beginning (settled_tokens limit C s) (tokens_of limit C) (settled_begin s w)
    where
      no_more : (b : Bool) → ltb 0 s ≡ b → length (if b then before limit (first_steps s C.read) else []) ≤ t
      no_more false q = omega arith
      no_more true q =
          let p = ltb-true 0 s q in
          let few = steps_few C in
          elim (cases_lt t (length (before limit (first_steps s C.read)))) [
            | inl l ↦ absurd (false≢true (sym u ∙ settled_from limit C.read t (s - 1) r history (omega arith) (omega arith) l (omega arith)))
            | inr l ↦ l
          ]

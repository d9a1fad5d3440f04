-- How many steps are queued can be counted in the queue, since each has one token of its own lexeme.
use Rattle.std.proofs.Common.{◌≡◌, ℕ, zero, suc, ◌+◌, ◌-◌, ◌≤◌, ◌<◌, List, [], ◌∷◌, ◌++◌, length, length-append, zero-le, filter, take, drop, take-append-drop, refl, ap, sym, ◌∙◌, arith, inl, inr, append_assoc, ltb, lt-ltb, le-ltb}
use Rattle.std.specs.Prelude.{if◌then◌else◌}
use Rattle.std.proofs.lemmas.Bool.{cases_lt}
use Rattle.std.proofs.lemmas.List.{drop-append-le, drop_all}
use Rattle.std.proofs.lemmas.List.Elements.{filter-append}
use Rattle.yaml_scan.specs.Sessions.{queued}
use Rattle.yaml_scan.specs.Groups.{Token, group, groups, block_ends, inserted}
use Rattle.yaml_scan.specs.Groups.Token.{OfLexeme}
use Rattle.yaml_scan.specs.Laws.{is_of_lexeme}
use Rattle.yaml_scan.specs.Laid.{Laid}
use Rattle.yaml_scan.proofs.TokenList.QueueBound.{queued_none}
use Rattle.yaml_scan.proofs.TokenList.BlockEnds.{inserted_no_lexeme, ends_no_lexeme, group_lexeme}

drop_past : (G g : List Token) (n : ℕ) → length G ≤ n → drop n (G ++ g) ≡ drop (n - length G) g
drop_past [] g n l = let e : n - 0 ≡ n = omega arith in rw e refl
drop_past (x ∷ G) g zero l = absurd (omega arith)
drop_past (x ∷ G) g (suc n) l = let e : suc n - suc (length G) ≡ n - length G = omega arith in rw e (drop_past G g n (omega arith))

-- what comes before the lexeme's own token
abbrev before_lexeme : List Laid → Laid → List Token
before_lexeme W i = block_ends i ++ inserted W i

group_is : (W : List Laid) (i : Laid) → group W i ≡ before_lexeme W i ++ OfLexeme i.lexeme ∷ []
unfolding group
group_is W i = sym (append_assoc (block_ends i) (inserted W i) (OfLexeme i.lexeme ∷ []))

before_plain : (W : List Laid) (i : Laid) → filter is_of_lexeme (before_lexeme W i) ≡ []
unfolding block_ends
before_plain W i = rw (filter-append is_of_lexeme (block_ends i) (inserted W i), ends_no_lexeme i.lexeme i.closed, inserted_no_lexeme W i) refl

filter_drop : (l : List Token) (n : ℕ) → filter is_of_lexeme l ≡ [] → filter is_of_lexeme (drop n l) ≡ []
filter_drop l n e = right (filter is_of_lexeme (take n l)) (filter is_of_lexeme (drop n l))
    (sym (filter-append is_of_lexeme (take n l) (drop n l)) ∙ ap (λ (x : List Token). filter is_of_lexeme x) (take-append-drop n l) ∙ e)
  where
    right : (a b : List Token) → a ++ b ≡ [] → b ≡ []
    right [] b q = q
    right (x ∷ a) b q = cc

-- in the rest of a group its lexeme's token is left
rest_one : (W : List Laid) (i : Laid) (m : ℕ) → m < length (group W i) → length (filter is_of_lexeme (drop m (group W i))) ≡ 1
rest_one W i m l =
    let a = ap (λ (x : List Token). length x) (group_is W i) in
    let b = length-append (before_lexeme W i) (OfLexeme i.lexeme ∷ []) in
    let c : m ≤ length (before_lexeme W i) = omega arith in
    rw (group_is W i, drop-append-le m (before_lexeme W i) (OfLexeme i.lexeme ∷ []) c, filter-append is_of_lexeme (drop m (before_lexeme W i)) (OfLexeme i.lexeme ∷ []), filter_drop (before_lexeme W i) m (before_plain W i)) refl

one_more : (X Y : List Token) (n : ℕ) → n ≡ length X → length Y ≡ 1 → 1 + n ≡ length (X ++ Y)
one_more X Y n e f = let a = length-append X Y in omega arith

more : (W : List Laid) (i : Laid) (B : List Laid) (t : ℕ) → queued W t B ≡ length (filter is_of_lexeme (drop t (groups W B)))
    → (if ltb t (length (groups W B ++ group W i)) then 1 else 0) + queued W t B ≡ length (filter is_of_lexeme (drop t (groups W B ++ group W i)))
more W i B t ih =
    let a = length-append (groups W B) (group W i) in
    elim (cases_lt t (length (groups W B))) [
      | inl l ↦ rw (lt-ltb t (length (groups W B ++ group W i)) (omega arith), drop-append-le t (groups W B) (group W i) (omega arith), filter-append is_of_lexeme (drop t (groups W B)) (group W i))
          (one_more (filter is_of_lexeme (drop t (groups W B))) (filter is_of_lexeme (group W i)) (queued W t B) ih (ap (λ (x : List Token). length x) (group_lexeme W i)))
      | inr l ↦ (let z = queued_none W t B l in
          elim (cases_lt (t - length (groups W B)) (length (group W i))) [
            | inl m ↦ rw (lt-ltb t (length (groups W B ++ group W i)) (omega arith), drop_past (groups W B) (group W i) t l, rest_one W i (t - length (groups W B)) m, z) (omega arith)
            | inr m ↦ rw (le-ltb t (length (groups W B ++ group W i)) (omega arith), drop_past (groups W B) (group W i) t l, drop_all (t - length (groups W B)) (group W i) m, z) (omega arith)
          ])
    ]

pub queued-count : (W B : List Laid) (t : ℕ) → queued W t B ≡ length (filter is_of_lexeme (drop t (groups W B)))
unfolding queued groups
queued-count W [] zero = refl
queued-count W [] (suc t) = let e : drop {A = Token} t [] ≡ [] = drop_all {X = Token} t [] (zero-le {n = t}) in rw (le-ltb (suc t) 1 (omega arith), e) refl
queued-count W (i ∷ B) t = more W i B t (queued-count W B t)

-- The lexemes' own tokens are in order; block ends never outnumber block starts.
use Rattle.std.proofs.Common.{◌≡◌, ℕ, zero, suc, ◌+◌, ◌-◌, ◌≤◌, not, ◌&&◌, ◌||◌, Bool, true, false, List, [], ◌∷◌, ◌++◌, map, reverse, length, length-append, filter, take, drop, take-append-drop, Option, Some, None, refl, ap, sym, ◌∙◌, arith, inl, inr, append_assoc}
use Rattle.std.specs.Prelude.{if◌then◌else◌, nat_eq}
use Rattle.std.proofs.lemmas.Bool.{cases_Bool, cases_lt, false≢true, or_right}
use Rattle.std.proofs.lemmas.List.{map-append, reverse-append, take-append-le}
use Rattle.std.proofs.lemmas.List.Elements.{filter-append}
use Rattle.yaml_scan.specs.Kind.{is_block_entry, is_stream_end, closes_all}
use Rattle.yaml_scan.specs.Groups.{Token, inserted, group, groups, block_ends, block_start, end_mark, offline}
use Rattle.yaml_scan.specs.Groups.Token.{StreamStart, BlockEnd, BlockSequenceStart, BlockMappingStart, InsertedKey, OfLexeme}
use Rattle.yaml_scan.specs.Laws.{is_of_lexeme, is_block_end, is_block_start, ends_in, starts_in, key_tokens}
use Rattle.yaml_scan.specs.Laid.{is_none, Laid, column, Lexeme}
use Rattle.yaml_scan.specs.Depth.{depth}
use Rattle.yaml_scan.specs.Order.{IsHistory}
use Rattle.yaml_scan.specs.Levels.{opens, is_completed, open_columns, staying_columns, keeps, is_opener, is_above}
use Rattle.yaml_scan.proofs.History.KindTests.{end_not_value, end_closes, end_opens_nothing}
use Rattle.yaml_scan.proofs.History.HistoryOrder.{laid_closed, completed_is, IsCompletion}
use Rattle.yaml_scan.proofs.TokenList.GroupInsertion.{IsInsertion, offline-more_some, offline-more_none, and_false}
use Rattle.yaml_scan.proofs.History.LevelColumns.{open_columns-none, open_columns-some, opens_itself, completes_not_opener, opens_self}

not_block_start : (i : Laid) → is_of_lexeme (block_start i) ≡ false
not_block_start i = cases (is_block_entry i.lexeme.kind)
  where
    cases : (b : Bool) → is_of_lexeme (if b then BlockSequenceStart i.lexeme.start else BlockMappingStart i.lexeme.start) ≡ false
    cases true = refl
    cases false = refl

pub ends_no_lexeme : (x : Lexeme) (cs : List ℕ) → filter is_of_lexeme (map (λ c. BlockEnd (end_mark x c)) cs) ≡ []
ends_no_lexeme x [] = refl
ends_no_lexeme x (c ∷ cs) = ends_no_lexeme x cs

pub inserted_no_lexeme : (W : List Laid) (i : Laid) → filter is_of_lexeme (inserted W i) ≡ []
unfolding inserted
inserted_no_lexeme W i = cases (opens W i) (is_completed W i)
  where
    cases : (a b : Bool) → filter is_of_lexeme ((if a then block_start i ∷ [] else []) ++ (if b then InsertedKey i.lexeme.start ∷ [] else [])) ≡ []
    cases true true = rw (not_block_start i) refl
    cases true false = rw (not_block_start i) refl
    cases false true = refl
    cases false false = refl

pub group_lexeme : (W : List Laid) (i : Laid) → filter is_of_lexeme (group W i) ≡ OfLexeme i.lexeme ∷ []
unfolding group block_ends
group_lexeme W i = rw (filter-append is_of_lexeme (block_ends i) (inserted W i ++ (OfLexeme i.lexeme ∷ [])), ends_no_lexeme i.lexeme i.closed, filter-append is_of_lexeme (inserted W i) (OfLexeme i.lexeme ∷ []), inserted_no_lexeme W i) refl

-- without what the layout puts in, the tokens are STREAM-START and those of the lexemes in order
pub lexeme_tokens : (W B : List Laid) → filter is_of_lexeme (groups W B) ≡ StreamStart ∷ map (λ i. OfLexeme i.lexeme) (reverse B)
unfolding groups
lexeme_tokens W [] = refl
lexeme_tokens W (i ∷ B) = rw (filter-append is_of_lexeme (groups W B) (group W i), lexeme_tokens W B, group_lexeme W i) (push B i)
  where
    push : (B : List Laid) (i : Laid) → (StreamStart ∷ map (λ j. OfLexeme j.lexeme) (reverse B)) ++ (OfLexeme i.lexeme ∷ []) ≡ StreamStart ∷ map (λ j. OfLexeme j.lexeme) (reverse (i ∷ B))
    push B i = let e : reverse (i ∷ B) ≡ reverse B ++ i ∷ [] = reverse-append (i ∷ []) B in
        ap (λ (X : List Token). StreamStart ∷ X) (sym (ap (λ (X : List Laid). map (λ j. OfLexeme j.lexeme) X) e ∙ map-append (λ (j : Laid). OfLexeme j.lexeme) (reverse B) (i ∷ [])))

-- BLOCK ENDS AND BLOCK STARTS
abbrev pub one_if : Bool → ℕ
one_if true = 1
one_if false = 0

pub ends_in-append : (a b : List Token) → ends_in (a ++ b) ≡ ends_in a + ends_in b
unfolding ends_in
ends_in-append a b = rw (filter-append is_block_end a b) (length-append (filter is_block_end a) (filter is_block_end b))

pub starts_in-append : (a b : List Token) → starts_in (a ++ b) ≡ starts_in a + starts_in b
unfolding starts_in
starts_in-append a b = rw (filter-append is_block_start a b) (length-append (filter is_block_start a) (filter is_block_start b))

ends_in-ends : (x : Lexeme) (cs : List ℕ) → ends_in (map (λ c. BlockEnd (end_mark x c)) cs) ≡ length cs
unfolding ends_in
ends_in-ends x [] = refl
ends_in-ends x (c ∷ cs) = ap suc (ends_in-ends x cs)

starts_in-ends : (x : Lexeme) (cs : List ℕ) → starts_in (map (λ c. BlockEnd (end_mark x c)) cs) ≡ 0
unfolding starts_in
starts_in-ends x [] = refl
starts_in-ends x (c ∷ cs) = starts_in-ends x cs

block_start_is : (i : Laid) → (is_block_start (block_start i) ≡ true) × (is_block_end (block_start i) ≡ false)
block_start_is i = cases (is_block_entry i.lexeme.kind)
  where
    cases : (b : Bool) → (is_block_start (if b then BlockSequenceStart i.lexeme.start else BlockMappingStart i.lexeme.start) ≡ true) × (is_block_end (if b then BlockSequenceStart i.lexeme.start else BlockMappingStart i.lexeme.start) ≡ false)
    cases true = (refl, refl)
    cases false = (refl, refl)

-- what a group has
rest_counts : (W : List Laid) (i : Laid) → (starts_in (inserted W i ++ (OfLexeme i.lexeme ∷ [])) ≡ (one_if (opens W i))) × (ends_in (inserted W i ++ (OfLexeme i.lexeme ∷ [])) ≡ 0)
unfolding inserted starts_in ends_in
rest_counts W i = cases (opens W i) (is_completed W i)
  where
    b : (is_block_start (block_start i) ≡ true) × (is_block_end (block_start i) ≡ false)
    b = block_start_is i

    cases : (o k : Bool) → (length (filter is_block_start (((if o then block_start i ∷ [] else []) ++ (if k then InsertedKey i.lexeme.start ∷ [] else [])) ++ (OfLexeme i.lexeme ∷ []))) ≡ (one_if (o)))
        × (length (filter is_block_end (((if o then block_start i ∷ [] else []) ++ (if k then InsertedKey i.lexeme.start ∷ [] else [])) ++ (OfLexeme i.lexeme ∷ []))) ≡ 0)
    cases true true = (rw b.0 refl, rw b.1 refl)
    cases true false = (rw b.0 refl, rw b.1 refl)
    cases false true = (refl, refl)
    cases false false = (refl, refl)

pub group_starts : (W : List Laid) (i : Laid) → starts_in (group W i) ≡ (one_if (opens W i))
unfolding group block_ends
group_starts W i = let a = starts_in-append (block_ends i) (inserted W i ++ (OfLexeme i.lexeme ∷ [])) in let b = starts_in-ends i.lexeme i.closed in let r = (rest_counts W i).0 in omega arith

pub group_ends : (W : List Laid) (i : Laid) → ends_in (group W i) ≡ length i.closed
unfolding group block_ends
group_ends W i = let a = ends_in-append (block_ends i) (inserted W i ++ (OfLexeme i.lexeme ∷ [])) in let b = ends_in-ends i.lexeme i.closed in let r = (rest_counts W i).1 in omega arith

-- what is kept and what is closed
split_length : (t : ℕ → Bool) (cs : List ℕ) → length cs ≡ length (filter t cs) + length (filter (λ c. not (t c)) cs)
split_length t [] = refl
split_length t (c ∷ cs) = let r = split_length t cs in elim (cases_Bool (t c)) [
  | inl q ↦ rw q (omega arith)
  | inr q ↦ rw q (omega arith)
]

pub open_and_closed : (limit : ℕ) (i : Laid) (H : List Laid) → IsHistory limit (i ∷ H) → length (open_columns H) ≡ length (staying_columns H i.lexeme.kind i.lexeme.start) + length i.closed
unfolding staying_columns
open_and_closed limit i H h =
    let c : i.closed ≡ filter (λ c. not (keeps (depth H) i.lexeme.kind i.lexeme.start c)) (open_columns H) = ap (λ (p : Laid). p.closed) h.0 ∙ laid_closed limit H i.lexeme in
    let l = ap (λ (x : List ℕ). length x) c in
    let s = split_length (keeps (depth H) i.lexeme.kind i.lexeme.start) (open_columns H) in
    omega arith

opened_length : (b : Bool) (c : ℕ) (cs : List ℕ) → length ((if b then c ∷ [] else []) ++ cs) ≡ (one_if (b)) + length cs
opened_length true c cs = omega arith
opened_length false c cs = omega arith

key_starts : (c : Laid) → starts_in (key_tokens c) ≡ (one_if (nat_eq c.depth 0 && is_above (column c) c.level))
unfolding starts_in
key_starts c = cases (nat_eq c.depth 0 && is_above (column c) c.level)
  where
    cases : (b : Bool) → length (filter is_block_start ((if b then BlockMappingStart c.lexeme.start ∷ [] else []) ++ (InsertedKey c.lexeme.start ∷ []))) ≡ (one_if (b))
    cases true = refl
    cases false = refl

key_ends : (c : Laid) → ends_in (key_tokens c) ≡ 0
unfolding ends_in
key_ends c = cases (nat_eq c.depth 0 && is_above (column c) c.level)
  where
    cases : (b : Bool) → length (filter is_block_end ((if b then BlockMappingStart c.lexeme.start ∷ [] else []) ++ (InsertedKey c.lexeme.start ∷ []))) ≡ 0
    cases true = refl
    cases false = refl

starts_none : starts_in (offline []) ≡ ends_in (offline []) + length (open_columns [])
unfolding offline groups starts_in ends_in open_columns
starts_none = refl

starts_more_none : (limit : ℕ) (i : Laid) (H : List Laid) → IsHistory limit (i ∷ H) → i.completed ≡ None → starts_in (offline H) ≡ ends_in (offline H) + length (open_columns H)
    → starts_in (offline (i ∷ H)) ≡ ends_in (offline (i ∷ H)) + length (open_columns (i ∷ H))
starts_more_none limit i H h e ih =
    let a = starts_in-append (offline H) (group (i ∷ H) i) in
    let b = ends_in-append (offline H) (group (i ∷ H) i) in
    let c = group_starts (i ∷ H) i in
    let d = group_ends (i ∷ H) i in
    let o : (one_if (opens (i ∷ H) i)) ≡ (one_if (opens_itself i)) = ap one_if (opens_self limit i H h) in
    let l = opened_length (opens_itself i) (column i) (staying_columns H i.lexeme.kind i.lexeme.start) in
    let k = open_and_closed limit i H h in
    rw (offline-more_none limit i H h e, open_columns-none limit i H h e) (omega arith)

starts_more_some : (limit : ℕ) (i : Laid) (H : List Laid) (c : Laid) → IsHistory limit (i ∷ H) → IsCompletion limit H i.lexeme c → i.completed ≡ Some c.number → starts_in (offline H) ≡ ends_in (offline H) + length (open_columns H)
    → starts_in (offline (i ∷ H)) ≡ ends_in (offline (i ∷ H)) + length (open_columns (i ∷ H))
starts_more_some limit i H c h s e ih = go (offline-more_some limit i H c h s.candidate e)
  where
    go : IsInsertion i H c → starts_in (offline (i ∷ H)) ≡ ends_in (offline (i ∷ H)) + length (open_columns (i ∷ H))
    go r =
        let R : List Token = OfLexeme c.lexeme ∷ r.rest in
        let w = ap starts_in r.was in
        let x = ap ends_in r.was in
        let a1 = starts_in-append r.front R in
        let a2 = ends_in-append r.front R in
        let b1 = starts_in-append (r.front ++ (key_tokens c ++ R)) (group (i ∷ H) i) in
        let b2 = ends_in-append (r.front ++ (key_tokens c ++ R)) (group (i ∷ H) i) in
        let c1 = starts_in-append r.front (key_tokens c ++ R) in
        let c2 = ends_in-append r.front (key_tokens c ++ R) in
        let d1 = starts_in-append (key_tokens c) R in
        let d2 = ends_in-append (key_tokens c) R in
        let k1 = key_starts c in
        let k2 = key_ends c in
        let g1 = group_starts (i ∷ H) i in
        let g2 = group_ends (i ∷ H) i in
        let n : opens_itself i ≡ false = rw (completes_not_opener i c.number s.value e) (and_false (nat_eq i.depth 0) (is_above (column i) i.level)) in
        let o : (one_if (opens (i ∷ H) i)) ≡ 0 = ap one_if (opens_self limit i H h ∙ n) in
        let l = opened_length (nat_eq c.depth 0 && is_above (column c) c.level) (column c) (staying_columns H i.lexeme.kind i.lexeme.start) in
        let k = open_and_closed limit i H h in
        rw (r.now, open_columns-some limit i H c h s e) (omega arith)

-- each start that is not ended yet is a column still open
pub starts_are : (limit : ℕ) (H : List Laid) → IsHistory limit H → starts_in (offline H) ≡ ends_in (offline H) + length (open_columns H)
starts_are limit [] h = starts_none
starts_are limit (i ∷ H) h = go (starts_are limit H h.2) i.completed refl
  where
    go : starts_in (offline H) ≡ ends_in (offline H) + length (open_columns H) → (o : Option ℕ) → i.completed ≡ o → starts_in (offline (i ∷ H)) ≡ ends_in (offline (i ∷ H)) + length (open_columns (i ∷ H))
    go ih None e = starts_more_none limit i H h e ih
    go ih (Some n) e = let r = completed_is limit H i n h.0 e in starts_more_some limit i H r.candidate h r.is (e ∙ ap Some (sym r.number)) ih

-- a longer history opens more
is_completed-more : (i : Laid) (W : List Laid) (c : Laid) → is_completed W c ≡ true → is_completed (i ∷ W) c ≡ true
unfolding is_completed
is_completed-more i W c e = or_right _ _ e

opens-more : (i : Laid) (W : List Laid) (c : Laid) → (one_if (opens W c)) ≤ (one_if (opens (i ∷ W) c))
unfolding opens
opens-more i W c = elim (cases_Bool (is_completed W c)) [
  | inl q ↦ rw (q, is_completed-more i W c q) (omega arith)
  | inr q ↦ rw q (cases (nat_eq c.depth 0) (is_above (column c) c.level) (is_opener c) (is_completed (i ∷ W) c))
]
  where
    cases : (a b d x : Bool) → (one_if (a && (b && (d || false)))) ≤ (one_if (a && (b && (d || x))))
    cases false b d x = omega arith
    cases true false d x = omega arith
    cases true true true x = omega arith
    cases true true false true = omega arith
    cases true true false false = omega arith

starts-more : (i : Laid) (W B : List Laid) → starts_in (groups W B) ≤ starts_in (groups (i ∷ W) B)
unfolding groups
starts-more i W [] = omega arith
starts-more i W (c ∷ B) =
    let r = starts-more i W B in
    let a = starts_in-append (groups W B) (group W c) in
    let b = starts_in-append (groups (i ∷ W) B) (group (i ∷ W) c) in
    let d = group_starts W c in
    let e = group_starts (i ∷ W) c in
    let o = opens-more i W c in
    omega arith

ends-more : (i : Laid) (W B : List Laid) → ends_in (groups (i ∷ W) B) ≡ ends_in (groups W B)
unfolding groups
ends-more i W [] = refl
ends-more i W (c ∷ B) =
    let r = ends-more i W B in
    let a = ends_in-append (groups W B) (group W c) in
    let b = ends_in-append (groups (i ∷ W) B) (group (i ∷ W) c) in
    let d = group_ends W c in
    let e = group_ends (i ∷ W) c in
    omega arith

starts_enough : (limit : ℕ) (N B : List Laid) → IsHistory limit B → ends_in (groups (N ++ B) B) + length (open_columns B) ≤ starts_in (groups (N ++ B) B)
unfolding offline
starts_enough limit [] B h = let s = starts_are limit B h in omega arith
starts_enough limit (i ∷ N) B h = let r = starts_enough limit N B h in let a = starts-more i (N ++ B) B in let b = ends-more i (N ++ B) B in omega arith

take_past : (G g : List Token) (n : ℕ) → length G ≤ n → take n (G ++ g) ≡ G ++ take (n - length G) g
take_past [] g n l = let e : n - 0 ≡ n = omega arith in rw e refl
take_past (x ∷ G) g zero l = absurd (omega arith)
take_past (x ∷ G) g (suc n) l = let e : suc n - suc (length G) ≡ n - length G = omega arith in rw e (ap (λ (X : List Token). x ∷ X) (take_past G g n (omega arith)))

ends_in-take : (n : ℕ) (g : List Token) → ends_in (take n g) ≤ ends_in g
ends_in-take n g = let a = ends_in-append (take n g) (drop n g) in let b = ap ends_in (take-append-drop n g) in omega arith

none_yet : ends_in [] ≤ starts_in []
unfolding ends_in starts_in
none_yet = omega arith

started : (n : ℕ) → ends_in (take (suc n) (StreamStart ∷ [])) ≤ starts_in (take (suc n) (StreamStart ∷ []))
unfolding ends_in starts_in
started zero = omega arith
started (suc n) = omega arith

-- in every beginning
balanced : (limit : ℕ) (W N B : List Laid) → W ≡ N ++ B → IsHistory limit B → (n : ℕ) → ends_in (take n (groups W B)) ≤ starts_in (take n (groups W B))
unfolding groups
balanced limit W N [] e h zero = none_yet
balanced limit W N [] e h (suc n) = started n
balanced limit W N (i ∷ B) e h n = elim (cases_lt n (length (groups W B))) [
  | inl l ↦ rw (take-append-le n (groups W B) (group W i) (omega arith)) (balanced limit W (N ++ i ∷ []) B (e ∙ sym (append_assoc N (i ∷ []) B)) h.2 n)
  | inr l ↦ (let m = n - length (groups W B) in
      let a = ends_in-append (groups W B) (take m (group W i)) in
      let b = starts_in-append (groups W B) (take m (group W i)) in
      let c = ends_in-take m (group W i) in
      let d = group_ends W i in
      let k = open_and_closed limit i B h in
      let q : ends_in (groups W B) + length (open_columns B) ≤ starts_in (groups W B) = rw (e ∙ sym (append_assoc N (i ∷ []) B)) (starts_enough limit (N ++ i ∷ []) B h.2) in
      rw (take_past (groups W B) (group W i) n l) (omega arith))
]

pub never_more_ends : (limit : ℕ) (H : List Laid) (n : ℕ) → IsHistory limit H → ends_in (take n (offline H)) ≤ starts_in (take n (offline H))
unfolding offline
never_more_ends limit H n h = balanced limit H [] H refl h n

closes_everything : (x : Lexeme) → closes_all x.kind ≡ true → (cs : List ℕ) → filter (keeps 0 x.kind x.start) cs ≡ []
closes_everything x q [] = refl
closes_everything x q (c ∷ cs) = rw q (closes_everything x q cs)

open_at_end : (H : List Laid) (x : Lexeme) → depth H ≡ 0 → closes_all x.kind ≡ true → staying_columns H x.kind x.start ≡ []
unfolding staying_columns
open_at_end H x d q = rw d (closes_everything x q (open_columns H))

pub end_completes_nothing : (limit : ℕ) (i : Laid) (H : List Laid) → IsHistory limit (i ∷ H) → is_stream_end i.lexeme.kind ≡ true → i.completed ≡ None
end_completes_nothing limit i H h q = go i.completed refl
  where
    go : (o : Option ℕ) → i.completed ≡ o → o ≡ None
    go None e = refl
    go (Some n) e = let r = completed_is limit H i n h.0 e in absurd (false≢true (sym (end_not_value i.lexeme.kind q) ∙ r.is.value))

-- and at the stream end, read at depth 0, equally many
pub as_many_ends : (limit : ℕ) (i : Laid) (H : List Laid) → IsHistory limit (i ∷ H) → is_stream_end i.lexeme.kind ≡ true → depth H ≡ 0 → starts_in (offline (i ∷ H)) ≡ ends_in (offline (i ∷ H))
as_many_ends limit i H h e d =
    let q = end_closes i.lexeme.kind e in
    let n = end_completes_nothing limit i H h e in
    let o : is_opener i ≡ false = end_opens_nothing i.lexeme.kind (is_none i.completed) e in
    let p : opens_itself i ≡ false = rw o (and_false (nat_eq i.depth 0) (is_above (column i) i.level)) in
    let z : open_columns (i ∷ H) ≡ [] = open_columns-none limit i H h n ∙ (rw (p, open_at_end H i.lexeme d q) refl) in
    let l = ap (λ (x : List ℕ). length x) z in
    let s = starts_are limit (i ∷ H) h in
    omega arith

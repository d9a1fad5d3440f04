-- The open columns after one lexeme more.
use Rattle.std.proofs.Common.{◌≡◌, ℕ, suc, ◌≤◌, ◌<◌, cond, not, ◌&&◌, ◌||◌, Bool, true, false, List, [], ◌∷◌, ◌++◌, map, length, length-append, filter, Some, None, refl, ap, sym, ◌∙◌, subst, arith, eqb, leb, eq-eqb, eqb-true, inl, inr, append_assoc}
use Rattle.std.specs.Prelude.{if◌then◌else◌, nat_eq}
use Rattle.std.proofs.lemmas.Bool.{cases_Bool, and_parts, and_from, eqb-false, false≢true, or_from, lt-leb, le-leb, lt-ltb, or_left, or_right}
use Rattle.std.proofs.lemmas.List.{map-append}
use Rattle.std.proofs.lemmas.List.Elements.{filter-append}
use Rattle.yaml_scan.specs.Kind.{is_value, closes_all}
use Rattle.yaml_text.specs.declared.types.yaml_mark_t.{yaml_mark_t}
use Rattle.yaml_scan.specs.Laid.{Laid, column, reach, Lexeme}
use Rattle.yaml_scan.specs.Depth.{depth}
use Rattle.yaml_scan.specs.Keys.{live, is_candidate}
use Rattle.yaml_scan.specs.Order.{IsHistory, IsNotBefore}
use Rattle.yaml_scan.specs.Levels.{is_opener, is_above, is_completed, opens, still_open, keeps, open_columns}
use Rattle.yaml_scan.specs.Levels.{staying_columns}
use Rattle.yaml_scan.proofs.History.KindTests.{candidate_not_closer, value_not_closer, value_opens_nothing}
use Rattle.yaml_scan.proofs.History.KeyCandidates.{candidate_split, IsSaved, IsKept, AllKept}
use Rattle.yaml_scan.proofs.History.HistoryOrder.{to_start, to_reach, start_to_reach, IsNotBefore-trans, IsHistory-older, number_at, depth_at, completed_is, IsCompletion}
use Rattle.yaml_scan.proofs.TokenList.SettledStays.{same_laid}
use Rattle.yaml_scan.proofs.TokenList.NeverRevised.{AllOther, opens-other, other_below, number_in}
use Rattle.yaml_scan.proofs.TokenList.GroupInsertion.{names_not, completed_below, candidate_not_opener, other_above, is_completed_above, candidate_not_completed, and_true, and_false}

-- the columns that these lexemes of W opened, and that are still open
unfoldable pub columns : List Laid → List Laid → List ℕ
columns W B = map column (filter (λ j. opens W j && still_open W j) B)

abbrev pub AllBelow : ℕ → List Laid → Type 0
AllBelow n [] = Unit {0}
AllBelow n (j ∷ B) = (j.number < n) × AllBelow n B

pub below_history : (limit : ℕ) (B : List Laid) (n : ℕ) → IsHistory limit B → length B ≤ n → AllBelow n B
below_history limit [] n h l = tt
below_history limit (j ∷ B) n h l = let a = number_at limit [] j B h in (omega arith, below_history limit B n h.2 (omega arith))

AllBelow-left : (n : ℕ) (A B : List Laid) → AllBelow n (A ++ B) → AllBelow n A
AllBelow-left n [] B h = tt
AllBelow-left n (j ∷ A) B h = (h.0, AllBelow-left n A B h.1)

still_open-more : (i : Laid) (H : List Laid) (j : Laid) → j.number < i.number → still_open (i ∷ H) j ≡ (keeps i.depth i.lexeme.kind i.lexeme.start (column j) && still_open H j)
unfolding still_open
still_open-more i H j l = rw (lt-leb i.number j.number l) refl

step_columns : (t : ℕ → Bool) (o s : Bool) (j : Laid) (X Y : List Laid) → map column X ≡ filter t (map column Y)
    → map column (cond (o && (t (column j) && s)) (j ∷ X) X) ≡ filter t (map column (cond (o && s) (j ∷ Y) Y))
step_columns t true true j X Y e = elim (cases_Bool (t (column j))) [
  | inl q ↦ rw q (ap (λ (l : List ℕ). column j ∷ l) e)
  | inr q ↦ rw q e
]
step_columns t true false j X Y e = elim (cases_Bool (t (column j))) [
  | inl q ↦ rw q e
  | inr q ↦ rw q e
]
step_columns t false s j X Y e = e

-- if i completes none of them, the columns that it keeps
pub columns-more : (i : Laid) (H B : List Laid) → AllOther i B → AllBelow i.number B → columns (i ∷ H) B ≡ filter (λ c. keeps i.depth i.lexeme.kind i.lexeme.start c) (columns H B)
unfolding columns
columns-more i H [] a b = refl
columns-more i H (j ∷ B) a b =
    rw (opens-other i H j a.0, still_open-more i H j b.0) (step_columns (λ c. keeps i.depth i.lexeme.kind i.lexeme.start c) (opens H j) (still_open H j) j _ _ (columns-more i H B a.1 b.1))

-- SMALL FACTS
or_false : (b : Bool) → (b || false) ≡ b
or_false true = refl
or_false false = refl

columns-append : (W A B : List Laid) → columns W (A ++ B) ≡ columns W A ++ columns W B
unfolding columns
columns-append W A B = rw (filter-append (λ j. opens W j && still_open W j) A B) (map-append column _ _)

-- NOTHING IS COMPLETED
-- i opens its column at once
abbrev pub opens_itself : Laid → Bool
opens_itself i = nat_eq i.depth 0 && (is_above (column i) i.level && is_opener i)

pub completed_self : (limit : ℕ) (i : Laid) (H : List Laid) → IsHistory limit (i ∷ H) → is_completed (i ∷ H) i ≡ false
unfolding is_completed
completed_self limit i H h =
    let n = number_at limit [] i H h in
    or_from _ _ (names_not i.number i.completed (λ m e q. let b = completed_below limit i H m h e in omega arith)) (is_completed_above limit H i h.2 (omega arith))

pub opens_self : (limit : ℕ) (i : Laid) (H : List Laid) → IsHistory limit (i ∷ H) → opens (i ∷ H) i ≡ opens_itself i
unfolding opens
opens_self limit i H h = rw (completed_self limit i H h) (rw (or_false (is_opener i)) refl)

stays_below : (H : List Laid) (j : Laid) → AllBelow (suc j.number) H → still_open H j ≡ true
unfolding still_open
stays_below [] j a = refl
stays_below (i ∷ H) j a = rw (le-leb i.number j.number (omega arith)) (stays_below H j a.1)

-- a lexeme alone, and its tail
columns_self : (limit : ℕ) (i : Laid) (H : List Laid) → IsHistory limit (i ∷ H) → columns (i ∷ H) (i ∷ H) ≡ (if opens_itself i then column i ∷ [] else []) ++ columns (i ∷ H) H
unfolding columns
columns_self limit i H h =
    let n = number_at limit [] i H h in
    let a : AllBelow (suc i.number) (i ∷ H) = below_history limit (i ∷ H) (suc i.number) h (omega arith) in
    rw (opens_self limit i H h, stays_below (i ∷ H) i a) (cases (opens_itself i))
  where
    cases : (b : Bool) → map column (cond (b && true) (i ∷ filter (λ j. opens (i ∷ H) j && still_open (i ∷ H) j) H) (filter (λ j. opens (i ∷ H) j && still_open (i ∷ H) j) H))
        ≡ (if b then column i ∷ [] else []) ++ map column (filter (λ j. opens (i ∷ H) j && still_open (i ∷ H) j) H)
    cases true = refl
    cases false = refl

pub open_columns-none : (limit : ℕ) (i : Laid) (H : List Laid) → IsHistory limit (i ∷ H) → i.completed ≡ None
    → open_columns (i ∷ H) ≡ (if opens_itself i then column i ∷ [] else []) ++ staying_columns H i.lexeme.kind i.lexeme.start
unfolding open_columns columns staying_columns
open_columns-none limit i H h e =
    let n = number_at limit [] i H h in
    let d : i.depth ≡ depth H = depth_at limit [] i H h in
    let o : AllOther i H = other_below limit i H h.2 (λ m f. absurd (none_some m (sym e ∙ f))) in
    let b : AllBelow i.number H = below_history limit H i.number h.2 (omega arith) in
    rw (← d) (columns_self limit i H h ∙ ap (λ (l : List ℕ). (if opens_itself i then column i ∷ [] else []) ++ l) (columns-more i H H o b))
  where
    none_some : (n : ℕ) → None ≡ Some n → ⊥
    none_some n f = cc

-- A CANDIDATE IS COMPLETED
-- of lexemes with no key allowed none is completed
pub not_allowed_not_completed : (limit : ℕ) (N : List Laid) (n : Laid) (O : List Laid) → IsHistory limit (N ++ n ∷ O) → n.key_allowed ≡ false → is_completed (N ++ n ∷ O) n ≡ false
unfolding is_completed
not_allowed_not_completed limit [] n O h a = completed_self limit n O h
not_allowed_not_completed limit (i ∷ N) n O h a =
    or_from _ _ (names_not n.number i.completed not_it) (not_allowed_not_completed limit N n O h.2 a)
  where
    not_it : (m : ℕ) → i.completed ≡ Some m → m ≡ n.number → ⊥
    not_it m e q =
        let r = completed_is limit (N ++ n ∷ O) i m h.0 e in
        let b = candidate_split (N ++ n ∷ O) (depth (N ++ n ∷ O)) r.candidate r.is.candidate in
        let u = number_at limit N n O h.2 in
        let v = number_in limit (N ++ n ∷ O) b.newer r.candidate b.older b.is h.2 in
        let w : r.candidate ≡ n = (same_laid N n O b.newer r.candidate b.older b.is (omega (arith, r.number))).0 in
        false≢true (sym a ∙ ap (λ (x : Laid). x.key_allowed) (sym w) ∙ b.saved.allowed)

opens_kept : (limit : ℕ) (W M : List Laid) (n : Laid) (R : List Laid) → W ≡ M ++ n ∷ R → IsHistory limit W → IsKept 0 n → opens W n ≡ false
unfolding opens
opens_kept limit W M n R e h k = elim (cases_Bool (nat_eq n.depth 0)) [
  | inr q ↦ rw q refl
  | inl q ↦ (let d : n.depth ≡ 0 = eqb-true _ _ q in
      let a : is_completed W n ≡ false = subst (λ (X : List Laid). IsHistory limit X → is_completed X n ≡ false) (sym e) (λ g. not_allowed_not_completed limit M n R g (k.not_allowed d)) h in
      let b : is_opener n ≡ false = candidate_not_opener n (k.candidate d) in
      rw (a, b) (and_false (nat_eq n.depth 0) (is_above (column n) n.level)))
]

-- between a candidate of depth 0 and the end nothing opens a column
kept_open_nothing : (limit : ℕ) (W M N R : List Laid) → W ≡ M ++ (N ++ R) → IsHistory limit W → AllKept 0 N → columns W N ≡ []
unfolding columns
kept_open_nothing limit W M [] R e h k = refl
kept_open_nothing limit W M (n ∷ N) R e h k =
    rw (opens_kept limit W M n (N ++ R) e h k.0) (kept_open_nothing limit W (M ++ n ∷ []) N R (e ∙ sym (append_assoc M (n ∷ []) (N ++ R))) h k.1)

-- what follows on the line of a lexeme is to its right
abbrev pub AllRight : ℕ → List Laid → Type 0
AllRight c [] = Unit {0}
AllRight c (j ∷ N) = (c ≤ column j) × AllRight c N

pub right_of : (limit : ℕ) (N : List Laid) (c : Laid) (O : List Laid) (m : yaml_mark_t) → IsHistory limit (N ++ c ∷ O) → IsNotBefore (reach (N ++ c ∷ O)) m → m.line ≡ c.lexeme.start.line → AllRight (column c) N
right_of limit [] c O m h b l = tt
right_of limit (j ∷ N) c O m h b l =
    let a = start_to_reach limit N c O h.2 in
    let x = IsNotBefore-trans _ _ _ a (to_start h.1) in
    let y = IsNotBefore-trans _ _ _ (to_reach h.1) b in
    let e : j.lexeme.start.line ≡ c.lexeme.start.line = omega (arith, x.line, y.line) in
    (x.column (sym e), right_of limit N c O j.lexeme.start h.2 (to_start h.1) e)

pub keeps_kept : (n : Laid) (c : ℕ) → IsKept 0 n → c ≤ column n → keeps n.depth n.lexeme.kind n.lexeme.start c ≡ true
keeps_kept n c k l = elim (cases_Bool (nat_eq n.depth 0)) [
  | inl q ↦ (let d : n.depth ≡ 0 = eqb-true _ _ q in
      let f : closes_all n.lexeme.kind ≡ false = candidate_not_closer n.lexeme.kind (k.candidate d) in
      let g : (not (closes_all n.lexeme.kind) && leb c (column n)) ≡ true = rw f (le-leb _ _ l) in
      or_right _ _ g)
  | inr q ↦ (let d : 0 < n.depth = omega (arith, eqb-false _ _ q) in or_left _ _ (lt-ltb _ _ d))
]

stays_kept : (N : List Laid) (c : Laid) (O : List Laid) → AllKept 0 N → AllRight (column c) N → AllBelow (suc c.number) (c ∷ O) → still_open (N ++ c ∷ O) c ≡ true
unfolding still_open
stays_kept [] c O k r a = stays_below (c ∷ O) c a
stays_kept (n ∷ N) c O k r a = and_from _ _ (or_right _ _ (keeps_kept n (column c) k.0 r.0)) (stays_kept N c O k.1 r.1 a)

-- i completes c
pub completes_not_opener : (i : Laid) (n : ℕ) → is_value i.lexeme.kind ≡ true → i.completed ≡ Some n → is_opener i ≡ false
completes_not_opener i n v e = rw e (value_opens_nothing i.lexeme.kind v)

columns_candidate : (W : List Laid) (c : Laid) (O : List Laid) → columns W (c ∷ O) ≡ (if opens W c && still_open W c then column c ∷ [] else []) ++ columns W O
unfolding columns
columns_candidate W c O = cases (opens W c && still_open W c)
  where
    cases : (b : Bool) → map column (cond b (c ∷ filter (λ j. opens W j && still_open W j) O) (filter (λ j. opens W j && still_open W j) O))
        ≡ (if b then column c ∷ [] else []) ++ map column (filter (λ j. opens W j && still_open W j) O)
    cases true = refl
    cases false = refl

opens_plain : (W : List Laid) (c : Laid) → is_candidate c ≡ true → is_completed W c ≡ false → opens W c ≡ false
unfolding opens
opens_plain W c k e = rw (candidate_not_opener c k, e) (and_false (nat_eq c.depth 0) (is_above (column c) c.level))

opens_keyed : (W : List Laid) (c : Laid) → is_candidate c ≡ true → is_completed W c ≡ true → opens W c ≡ (nat_eq c.depth 0 && is_above (column c) c.level)
unfolding opens
opens_keyed W c k e = rw (candidate_not_opener c k, e) (rw (and_true (is_above (column c) c.level)) refl)

arrange : (b : Bool) (X Y Z : List ℕ) → (b ≡ true → X ≡ []) → X ++ ((if b then Y else []) ++ Z) ≡ (if b then Y else []) ++ (X ++ Z)
arrange true X Y Z e = rw (e refl) refl
arrange false X Y Z e = refl

pub some_same : (x z : ℕ) → Some x ≡ Some z → x ≡ z
some_same x z f = cc

open_columns-columns : (W : List Laid) → open_columns W ≡ columns W W
unfolding open_columns columns
open_columns-columns W = refl

staying_columns-columns : (W : List Laid) (x : Lexeme) → staying_columns W x.kind x.start ≡ filter (λ c. keeps (depth W) x.kind x.start c) (columns W W)
unfolding staying_columns open_columns columns
staying_columns-columns W x = refl

module _ (limit : ℕ) (i : Laid) (N : List Laid) (c : Laid) (O : List Laid)
    (h : IsHistory limit (i ∷ (N ++ c ∷ O))) (v : is_value i.lexeme.kind ≡ true) (l : live limit c i.lexeme.start ≡ true)
    (e : i.completed ≡ Some c.number) (s : IsSaved (depth (N ++ c ∷ O)) c) (k : AllKept (depth (N ++ c ∷ O)) N) (p : is_completed (N ++ c ∷ O) c ≡ false) where
  line_is : i.lexeme.start.line ≡ c.lexeme.start.line
  line_is = eqb-true _ _ (and_parts _ _ l).0

  completed_now : is_completed (i ∷ (N ++ c ∷ O)) c ≡ true
  unfolding is_completed
  completed_now = let q : eqb c.number c.number ≡ true = eq-eqb c.number c.number refl in rw e (rw q refl)

  number_below : c.number < i.number
  number_below = let a = number_at limit [] i (N ++ c ∷ O) h in let b = number_at limit N c O h.2 in let d = length-append N (c ∷ O) in omega arith

  stays_now : depth (N ++ c ∷ O) ≡ 0 → still_open (i ∷ (N ++ c ∷ O)) c ≡ true
  stays_now z =
      let r : AllRight (column c) N = right_of limit N c O i.lexeme.start h.2 (to_start h.1) line_is in
      let x = IsNotBefore-trans _ _ _ (start_to_reach limit N c O h.2) (to_start h.1) in
      let y : column c ≤ column i = x.column (sym line_is) in
      let f : closes_all i.lexeme.kind ≡ false = value_not_closer i.lexeme.kind v in
      let g : (not (closes_all i.lexeme.kind) && leb (column c) (column i)) ≡ true = rw f (le-leb _ _ y) in
      let kk : AllKept 0 N = rw z at k in
      let n = number_at limit N c O h.2 in
      let a : AllBelow (suc c.number) (c ∷ O) = below_history limit (c ∷ O) (suc c.number) (IsHistory-older limit N (c ∷ O) h.2) (omega arith) in
      rw (still_open-more i (N ++ c ∷ O) c number_below) (and_from _ _ (or_right _ _ g) (stays_kept N c O kk r a))

  opened_now : (opens (i ∷ (N ++ c ∷ O)) c && still_open (i ∷ (N ++ c ∷ O)) c) ≡ (nat_eq c.depth 0 && is_above (column c) c.level)
  opened_now = rw (opens_keyed (i ∷ (N ++ c ∷ O)) c s.candidate completed_now) (elim (cases_Bool (nat_eq c.depth 0)) [
    | inl q ↦ (let z : depth (N ++ c ∷ O) ≡ 0 = sym s.depth ∙ eqb-true _ _ q in rw (stays_now z) (and_true _))
    | inr q ↦ rw q refl
  ])

  now_is : columns (i ∷ (N ++ c ∷ O)) (N ++ c ∷ O)
      ≡ filter (λ x. keeps i.depth i.lexeme.kind i.lexeme.start x) (columns (N ++ c ∷ O) N) ++ ((if nat_eq c.depth 0 && is_above (column c) c.level then column c ∷ [] else []) ++ filter (λ x. keeps i.depth i.lexeme.kind i.lexeme.start x) (columns (N ++ c ∷ O) O))
  now_is =
      let n = number_at limit [] i (N ++ c ∷ O) h in
      let g : IsHistory limit O = (IsHistory-older limit N (c ∷ O) h.2).2 in
      let m = number_at limit N c O h.2 in
      let below : AllBelow i.number (N ++ c ∷ O) = below_history limit (N ++ c ∷ O) i.number h.2 (omega arith) in
      let b : AllBelow i.number O = below_history limit O i.number g (omega (arith, number_below)) in
      let a : AllOther i O = other_below limit i O g (λ x f. let y : x ≡ c.number = some_same x c.number (sym f ∙ e) in omega arith) in
      rw (
        columns-append (i ∷ (N ++ c ∷ O)) N (c ∷ O),
        columns_candidate (i ∷ (N ++ c ∷ O)) c O,
        opened_now,
        columns-more i (N ++ c ∷ O) N (other_above limit i N c O h.2 e) (AllBelow-left i.number N (c ∷ O) below),
        columns-more i (N ++ c ∷ O) O a b,
      ) refl

  was_is : columns (N ++ c ∷ O) (N ++ c ∷ O) ≡ columns (N ++ c ∷ O) N ++ columns (N ++ c ∷ O) O
  was_is = rw (columns-append (N ++ c ∷ O) N (c ∷ O), columns_candidate (N ++ c ∷ O) c O, opens_plain (N ++ c ∷ O) c s.candidate p) refl

  nothing_between : (nat_eq c.depth 0 && is_above (column c) c.level) ≡ true → columns (N ++ c ∷ O) N ≡ []
  nothing_between q =
      let z : depth (N ++ c ∷ O) ≡ 0 = sym s.depth ∙ eqb-true _ _ (and_parts _ _ q).0 in
      let kk : AllKept 0 N = rw z at k in
      kept_open_nothing limit (N ++ c ∷ O) [] N (c ∷ O) refl h.2 kk

  still_open_now : open_columns (i ∷ (N ++ c ∷ O)) ≡ (if nat_eq c.depth 0 && is_above (column c) c.level then column c ∷ [] else []) ++ staying_columns (N ++ c ∷ O) i.lexeme.kind i.lexeme.start
  still_open_now =
      let d : i.depth ≡ depth (N ++ c ∷ O) = depth_at limit [] i (N ++ c ∷ O) h in
      let o : opens_itself i ≡ false = rw (completes_not_opener i c.number v e) (and_false (nat_eq i.depth 0) (is_above (column i) i.level)) in
      let f = filter-append (λ x. keeps i.depth i.lexeme.kind i.lexeme.start x) (columns (N ++ c ∷ O) N) (columns (N ++ c ∷ O) O) in
      rw (open_columns-columns (i ∷ (N ++ c ∷ O)), columns_self limit i (N ++ c ∷ O) h, o, now_is, staying_columns-columns (N ++ c ∷ O) i.lexeme, ← d, was_is)
      (rw f (arrange (nat_eq c.depth 0 && is_above (column c) c.level) (filter (λ x. keeps i.depth i.lexeme.kind i.lexeme.start x) (columns (N ++ c ∷ O) N)) (column c ∷ []) (filter (λ x. keeps i.depth i.lexeme.kind i.lexeme.start x) (columns (N ++ c ∷ O) O))
      (λ q. rw (nothing_between q) refl)))

pub open_columns-some : (limit : ℕ) (i : Laid) (H : List Laid) (c : Laid) → IsHistory limit (i ∷ H) → IsCompletion limit H i.lexeme c → i.completed ≡ Some c.number
    → open_columns (i ∷ H) ≡ (if nat_eq c.depth 0 && is_above (column c) c.level then column c ∷ [] else []) ++ staying_columns H i.lexeme.kind i.lexeme.start
open_columns-some limit i H c h s e =
    let a = candidate_split H (depth H) c s.candidate in
    go a.newer a.older a.is h a.saved a.kept (candidate_not_completed limit H (depth H) c h.2 s.candidate)
  where
    go : (N O : List Laid) → H ≡ N ++ c ∷ O → IsHistory limit (i ∷ H) → IsSaved (depth H) c → AllKept (depth H) N → is_completed H c ≡ false
        → open_columns (i ∷ H) ≡ (if nat_eq c.depth 0 && is_above (column c) c.level then column c ∷ [] else []) ++ staying_columns H i.lexeme.kind i.lexeme.start
    go N O q = subst (λ (X : List Laid). IsHistory limit (i ∷ X) → IsSaved (depth X) c → AllKept (depth X) N → is_completed X c ≡ false
        → open_columns (i ∷ X) ≡ (if nat_eq c.depth 0 && is_above (column c) c.level then column c ∷ [] else []) ++ staying_columns X i.lexeme.kind i.lexeme.start) (sym q)
        (λ hh ss kk pp. still_open_now limit i N c O hh s.value s.live e ss kk pp)

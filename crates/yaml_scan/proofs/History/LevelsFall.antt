-- Open columns fall, so that closing pops a stack; the level at a candidate is the level where it is completed.
use Rattle.std.proofs.Common.{◌≡◌, ℕ, ◌≤◌, ◌<◌, max, not, ◌&&◌, Bool, true, false, List, [], ◌∷◌, ◌++◌, filter, Option, Some, None, refl, ap, sym, ◌∙◌, subst, le_trans, arith, leb, ne_eqb, eqb-true, ltb-true, inl, inr}
use Rattle.std.specs.Prelude.{if◌then◌else◌, nat_eq}
use Rattle.std.proofs.lemmas.Bool.{cases_Bool, and_parts, false≢true, leb-true, le-leb, lt-ltb, or_right}
use Rattle.yaml_scan.specs.Kind.{is_value, closes_all}
use Rattle.yaml_scan.specs.Levels.{is_opener, is_above, keeps, open_columns, staying_columns, level}
use Rattle.yaml_scan.specs.Falling.{AllLess, IsFalling}
use Rattle.yaml_scan.specs.Levels.{greatest_level, greater_of}
use Rattle.yaml_scan.specs.Laid.{Laid, column, Lexeme}
use Rattle.yaml_scan.specs.Depth.{depth}
use Rattle.yaml_scan.specs.Keys.{is_candidate}
use Rattle.yaml_scan.specs.Order.{IsHistory}
use Rattle.yaml_scan.proofs.History.KindTests.{value_not_candidate, value_not_closer}
use Rattle.yaml_scan.proofs.History.KeyCandidates.{candidate_split, IsSaved, IsKept, AllKept}
use Rattle.yaml_scan.proofs.History.HistoryOrder.{to_start, IsHistory-older, depth_at, laid_level, completed_is, IsCompletion, start_to_reach, IsNotBefore-trans}
use Rattle.yaml_scan.proofs.TokenList.GroupInsertion.{candidate_not_opener, and_false}
use Rattle.yaml_scan.proofs.History.LevelColumns.{opens_itself, open_columns-none, open_columns-some, AllRight, right_of, keeps_kept}

abbrev pub AllLe : ℕ → List ℕ → Type 0
AllLe c [] = Unit {0}
AllLe c (l ∷ ls) = (l ≤ c) × AllLe c ls

-- what is kept at depth 0 is not above the lexeme's column
kept_le : (x : Lexeme) (cs : List ℕ) → AllLe x.start.column (filter (λ c. keeps 0 x.kind x.start c) cs)
kept_le x [] = tt
kept_le x (c ∷ cs) = elim (cases_Bool (keeps 0 x.kind x.start c)) [
  | inl q ↦ rw q (leb-true _ _ (and_parts (not (closes_all x.kind)) (leb c x.start.column) q).1, kept_le x cs)
  | inr q ↦ rw q (kept_le x cs)
]

-- a test that all pass keeps all
filter_all : (t : ℕ → Bool) (c : ℕ) (cs : List ℕ) → AllLe c cs → ((l : ℕ) → l ≤ c → t l ≡ true) → filter t cs ≡ cs
filter_all t c [] a k = refl
filter_all t c (l ∷ ls) a k = rw (k l a.0) (ap (λ (x : List ℕ). l ∷ x) (filter_all t c ls a.1 k))

le_more : (c d : ℕ) (cs : List ℕ) → c ≤ d → AllLe c cs → AllLe d cs
le_more c d [] l a = tt
le_more c d (x ∷ cs) l a = (omega (arith, a.0), le_more c d cs l a.1)

opens_itself_kept : (n : Laid) → IsKept 0 n → opens_itself n ≡ false
opens_itself_kept n k = elim (cases_Bool (nat_eq n.depth 0)) [
  | inl q ↦ rw (candidate_not_opener n (k.candidate (eqb-true _ _ q))) (and_false (nat_eq n.depth 0) (is_above (column n) n.level))
  | inr q ↦ rw q refl
]

pub candidate_completes_nothing : (limit : ℕ) (i : Laid) (H : List Laid) → IsHistory limit (i ∷ H) → is_candidate i ≡ true → i.completed ≡ None
candidate_completes_nothing limit i H h k = go i.completed refl
  where
    go : (o : Option ℕ) → i.completed ≡ o → o ≡ None
    go None e = refl
    go (Some n) e = let r = completed_is limit H i n h.0 e in absurd (false≢true (sym (value_not_candidate i.lexeme.kind r.is.value) ∙ k))

open_at_le : (O : List Laid) (x : Lexeme) → depth O ≡ 0 → AllLe x.start.column (staying_columns O x.kind x.start)
unfolding staying_columns
open_at_le O x z = rw z (kept_le x (open_columns O))

staying_columns-all : (H : List Laid) (x : Lexeme) (ls : List ℕ) (c : ℕ) → open_columns H ≡ ls → AllLe c ls → ((l : ℕ) → l ≤ c → keeps (depth H) x.kind x.start l ≡ true) → staying_columns H x.kind x.start ≡ ls
unfolding staying_columns
staying_columns-all H x ls c e a k = rw e (filter_all (λ l. keeps (depth H) x.kind x.start l) c ls a k)

-- between a candidate of depth 0 and the end of its line the open columns stay as they were at it
pub open_columns-after : (limit : ℕ) (N : List Laid) (c : Laid) (O : List Laid) → IsHistory limit (N ++ c ∷ O) → IsSaved 0 c → AllKept 0 N → AllRight (column c) N
    → open_columns (N ++ c ∷ O) ≡ staying_columns O c.lexeme.kind c.lexeme.start
open_columns-after limit [] c O h s k r =
    let e : c.completed ≡ None = candidate_completes_nothing limit c O h s.candidate in
    let o : opens_itself c ≡ false = opens_itself_kept' c s.candidate in
    open_columns-none limit c O h e ∙ (rw o refl)
  where
    opens_itself_kept' : (n : Laid) → is_candidate n ≡ true → opens_itself n ≡ false
    opens_itself_kept' n k = rw (candidate_not_opener n k) (and_false (nat_eq n.depth 0) (is_above (column n) n.level))
open_columns-after limit (n ∷ N) c O h s k r = go (open_columns-after limit N c O h.2 s k.1 r.1) n.completed refl
  where
    d : n.depth ≡ depth (N ++ c ∷ O)
    d = depth_at limit [] n (N ++ c ∷ O) h

    z : depth O ≡ 0
    z = sym (depth_at limit N c O h.2) ∙ s.depth

    low : AllLe (column c) (staying_columns O c.lexeme.kind c.lexeme.start)
    low = open_at_le O c.lexeme z

    same : open_columns (N ++ c ∷ O) ≡ staying_columns O c.lexeme.kind c.lexeme.start → staying_columns (N ++ c ∷ O) n.lexeme.kind n.lexeme.start ≡ staying_columns O c.lexeme.kind c.lexeme.start
    same ih = staying_columns-all (N ++ c ∷ O) n.lexeme (staying_columns O c.lexeme.kind c.lexeme.start) (column c) ih low (λ l b. let w = keeps_kept n l k.0 (omega (arith, r.0)) in rw d at w)

    go : open_columns (N ++ c ∷ O) ≡ staying_columns O c.lexeme.kind c.lexeme.start → (o : Option ℕ) → n.completed ≡ o → open_columns (n ∷ (N ++ c ∷ O)) ≡ staying_columns O c.lexeme.kind c.lexeme.start
    go ih None e = open_columns-none limit n (N ++ c ∷ O) h e ∙ (rw (opens_itself_kept n k.0) (same ih))
    go ih (Some m) e =
        let f = completed_is limit (N ++ c ∷ O) n m h.0 e in
        let a = candidate_split (N ++ c ∷ O) (depth (N ++ c ∷ O)) f.candidate f.is.candidate in
        let g : n.completed ≡ Some f.candidate.number = e ∙ ap Some (sym f.number) in
        let x : nat_eq f.candidate.depth 0 ≡ false = ne_eqb _ _ (λ q. deep f.is.value (d ∙ sym a.saved.depth ∙ q)) in
        open_columns-some limit n (N ++ c ∷ O) f.candidate h f.is g ∙ (rw x (same ih))
      where
        deep : is_value n.lexeme.kind ≡ true → n.depth ≡ 0 → ⊥
        deep v q = false≢true (sym (value_not_candidate n.lexeme.kind v) ∙ k.0.candidate q)

-- what is open when the candidate is completed is what was open at the candidate
open_after : (limit : ℕ) (i : Laid) (N : List Laid) (c : Laid) (O : List Laid) → IsHistory limit (i ∷ (N ++ c ∷ O)) → IsCompletion limit (N ++ c ∷ O) i.lexeme c → IsSaved 0 c → AllKept 0 N
    → staying_columns (N ++ c ∷ O) i.lexeme.kind i.lexeme.start ≡ staying_columns O c.lexeme.kind c.lexeme.start
open_after limit i N c O h r s k =
    let e : i.lexeme.start.line ≡ c.lexeme.start.line = eqb-true _ _ (and_parts _ _ r.live).0 in
    let a : AllRight (column c) N = right_of limit N c O i.lexeme.start h.2 (to_start h.1) e in
    let x = IsNotBefore-trans _ _ _ (start_to_reach limit N c O h.2) (to_start h.1) in
    let y : column c ≤ column i = x.column (sym e) in
    let z : depth O ≡ 0 = sym (depth_at limit N c O h.2) ∙ s.depth in
    let f : closes_all i.lexeme.kind ≡ false = value_not_closer i.lexeme.kind r.value in
    staying_columns-all (N ++ c ∷ O) i.lexeme (staying_columns O c.lexeme.kind c.lexeme.start) (column c) (open_columns-after limit N c O h.2 s k a) (open_at_le O c.lexeme z)
    (λ l b. let g : (not (closes_all i.lexeme.kind) && leb l (column i)) ≡ true = rw f (le-leb _ _ (le_trans b y)) in or_right _ _ g)

-- and it is all that is open
pub open_whole : (limit : ℕ) (i : Laid) (N : List Laid) (c : Laid) (O : List Laid) → IsHistory limit (i ∷ (N ++ c ∷ O)) → IsCompletion limit (N ++ c ∷ O) i.lexeme c → IsSaved 0 c → AllKept 0 N
    → staying_columns (N ++ c ∷ O) i.lexeme.kind i.lexeme.start ≡ open_columns (N ++ c ∷ O)
open_whole limit i N c O h r s k =
    let e : i.lexeme.start.line ≡ c.lexeme.start.line = eqb-true _ _ (and_parts _ _ r.live).0 in
    let a : AllRight (column c) N = right_of limit N c O i.lexeme.start h.2 (to_start h.1) e in
    open_after limit i N c O h r s k ∙ sym (open_columns-after limit N c O h.2 s k a)

pub staying_columns-whole : (limit : ℕ) (i : Laid) (H : List Laid) (c : Laid) → IsHistory limit (i ∷ H) → IsCompletion limit H i.lexeme c → c.depth ≡ 0 → staying_columns H i.lexeme.kind i.lexeme.start ≡ open_columns H
staying_columns-whole limit i H c h r z =
    let a = candidate_split H (depth H) c r.candidate in
    let d : depth H ≡ 0 = sym a.saved.depth ∙ z in
    let s : IsSaved 0 c = rw d at a.saved in
    let k : AllKept 0 a.newer = subst (λ (n : ℕ). AllKept n a.newer) d a.kept in
    subst (λ (X : List Laid). IsHistory limit (i ∷ X) → IsCompletion limit X i.lexeme c → staying_columns X i.lexeme.kind i.lexeme.start ≡ open_columns X) (sym a.is) (λ hh rr. open_whole limit i a.newer c a.older hh rr s k) h r

pub staying_columns-candidate : (limit : ℕ) (i : Laid) (H N : List Laid) (c : Laid) (O : List Laid) → H ≡ N ++ c ∷ O → IsHistory limit (i ∷ H) → IsCompletion limit H i.lexeme c → IsSaved 0 c → AllKept 0 N
    → staying_columns H i.lexeme.kind i.lexeme.start ≡ staying_columns O c.lexeme.kind c.lexeme.start
staying_columns-candidate limit i H N c O q h r s k =
    subst (λ (X : List Laid). IsHistory limit (i ∷ X) → IsCompletion limit X i.lexeme c → staying_columns X i.lexeme.kind i.lexeme.start ≡ staying_columns O c.lexeme.kind c.lexeme.start) (sym q) (λ hh rr. open_after limit i N c O hh rr s k) h r

level_at : (limit : ℕ) (N : List Laid) (c : Laid) (O : List Laid) → IsHistory limit (N ++ c ∷ O) → c.level ≡ greatest_level (staying_columns O c.lexeme.kind c.lexeme.start)
unfolding level
level_at limit N c O h = let r : IsHistory limit (c ∷ O) = IsHistory-older limit N (c ∷ O) h in ap (λ (x : Laid). x.level) r.0 ∙ laid_level limit O c.lexeme

pub level-candidate : (limit : ℕ) (i : Laid) (H : List Laid) (c : Laid) → IsHistory limit (i ∷ H) → IsCompletion limit H i.lexeme c → c.depth ≡ 0 → c.level ≡ level H i.lexeme.kind i.lexeme.start
unfolding level
level-candidate limit i H c h r z =
    let a = candidate_split H (depth H) c r.candidate in
    let d : depth H ≡ 0 = sym a.saved.depth ∙ z in
    let s : IsSaved 0 c = rw d at a.saved in
    let k : AllKept 0 a.newer = subst (λ (n : ℕ). AllKept n a.newer) d a.kept in
    let g : IsHistory limit (a.newer ++ c ∷ a.older) = subst (λ (X : List Laid). IsHistory limit X) a.is h.2 in
    level_at limit a.newer c a.older g ∙ ap greatest_level (sym (staying_columns-candidate limit i H a.newer c a.older a.is h r s k))

pub level-candidate' : (limit : ℕ) (i : Laid) (H : List Laid) (c : Laid) → IsHistory limit (i ∷ H) → IsCompletion limit H i.lexeme c → c.depth ≡ 0 → c.level ≡ greatest_level (staying_columns H i.lexeme.kind i.lexeme.start)
unfolding level
level-candidate' limit i H c h r z = level-candidate limit i H c h r z

-- the open columns fall
above_less : (c : ℕ) (cs : List ℕ) → is_above c (greatest_level cs) ≡ true → AllLess c cs
above_less c [] e = tt
above_less c (l ∷ ls) e = go (greatest_level ls) (above_less c ls) e
  where
    go : (o : Option ℕ) → (is_above c o ≡ true → AllLess c ls) → is_above c (greater_of l o) ≡ true → AllLess c (l ∷ ls)
    go None ih f = (ltb-true l c f, ih refl)
    go (Some g) ih f = let x : max l g < c = ltb-true (max l g) c f in (omega arith, ih (lt-ltb g c (omega arith)))

less_filter : (t : ℕ → Bool) (c : ℕ) (cs : List ℕ) → AllLess c cs → AllLess c (filter t cs)
less_filter t c [] a = tt
less_filter t c (l ∷ ls) a = elim (cases_Bool (t l)) [
  | inl q ↦ rw q (a.0, less_filter t c ls a.1)
  | inr q ↦ rw q (less_filter t c ls a.1)
]

pub falling_filter : (t : ℕ → Bool) (cs : List ℕ) → IsFalling cs → IsFalling (filter t cs)
falling_filter t [] f = tt
falling_filter t (c ∷ cs) f = elim (cases_Bool (t c)) [
  | inl q ↦ rw q (less_filter t c cs f.0, falling_filter t cs f.1)
  | inr q ↦ rw q (falling_filter t cs f.1)
]

falling_cons : (b : Bool) (c : ℕ) (cs : List ℕ) → IsFalling cs → (b ≡ true → AllLess c cs) → IsFalling ((if b then c ∷ [] else []) ++ cs)
falling_cons true c cs f a = (a refl, f)
falling_cons false c cs f a = f

falling_at : (H : List Laid) (x : Lexeme) → IsFalling (open_columns H) → IsFalling (staying_columns H x.kind x.start)
unfolding staying_columns
falling_at H x f = falling_filter (keeps (depth H) x.kind x.start) (open_columns H) f

falling_none : IsFalling (open_columns [])
unfolding open_columns
falling_none = tt

level_is : (limit : ℕ) (i : Laid) (H : List Laid) → IsHistory limit (i ∷ H) → i.level ≡ greatest_level (staying_columns H i.lexeme.kind i.lexeme.start)
level_is limit i H h = level_at limit [] i H h

pub open_columns-falls : (limit : ℕ) (H : List Laid) → IsHistory limit H → IsFalling (open_columns H)
open_columns-falls limit [] h = falling_none
open_columns-falls limit (i ∷ H) h = go (falling_at H i.lexeme (open_columns-falls limit H h.2)) i.completed refl
  where
    go : IsFalling (staying_columns H i.lexeme.kind i.lexeme.start) → (o : Option ℕ) → i.completed ≡ o → IsFalling (open_columns (i ∷ H))
    go f None e = rw (open_columns-none limit i H h e) (falling_cons (opens_itself i) (column i) (staying_columns H i.lexeme.kind i.lexeme.start) f
        (λ b. let q : (is_above (column i) i.level && is_opener i) ≡ true = (and_parts _ _ b).1 in let p : is_above (column i) i.level ≡ true = (and_parts _ _ q).0 in above_less (column i) (staying_columns H i.lexeme.kind i.lexeme.start) (rw (level_is limit i H h) at p)))
    go f (Some n) e =
        let r = completed_is limit H i n h.0 e in
        let c = r.candidate in
        let g : i.completed ≡ Some c.number = e ∙ ap Some (sym r.number) in
        rw (open_columns-some limit i H c h r.is g) (falling_cons (nat_eq c.depth 0 && is_above (column c) c.level) (column c) (staying_columns H i.lexeme.kind i.lexeme.start) f (below c r.is))
      where
        below : (c : Laid) → IsCompletion limit H i.lexeme c → (nat_eq c.depth 0 && is_above (column c) c.level) ≡ true → AllLess (column c) (staying_columns H i.lexeme.kind i.lexeme.start)
        below c s b =
            let p = and_parts (nat_eq c.depth 0) (is_above (column c) c.level) b in
            above_less (column c) (staying_columns H i.lexeme.kind i.lexeme.start) (subst (λ (o : Option ℕ). is_above (column c) o ≡ true) (level_eq c s (eqb-true _ _ p.0)) p.1)
          where
            level_eq : (c : Laid) → IsCompletion limit H i.lexeme c → c.depth ≡ 0 → c.level ≡ greatest_level (staying_columns H i.lexeme.kind i.lexeme.start)
            level_eq c s z = level-candidate' limit i H c h s z

-- so the level is the first of them
pub level_first : (c : ℕ) (cs : List ℕ) → IsFalling (c ∷ cs) → greatest_level (c ∷ cs) ≡ Some c
level_first c [] f = refl
level_first c (l ∷ ls) f = rw (level_first l ls f.1) (let m : max c l ≡ c = omega (arith, f.0.0) in ap Some m)

-- and what a column closes is popped
pub pops : (d c : ℕ) (cs : List ℕ) → IsFalling (c ∷ cs) → c ≤ d → filter (λ l. leb l d) (c ∷ cs) ≡ c ∷ cs
pops d c cs f l = rw (le-leb c d l) (ap (λ (x : List ℕ). c ∷ x) (filter_all (λ x. leb x d) c cs (less_le c cs f.0) (λ x b. le-leb x d (le_trans b l))))
  where
    less_le : (c : ℕ) (cs : List ℕ) → AllLess c cs → AllLe c cs
    less_le c [] a = tt
    less_le c (l ∷ ls) a = (omega (arith, a.0), less_le c ls a.1)

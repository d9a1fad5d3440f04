-- The list with one lexeme more is the list so far with at most one insertion, and then the lexeme's group.
use Rattle.std.proofs.Common.{◌≡◌, ℕ, ◌≤◌, ◌<◌, ◌&&◌, Bool, true, false, List, [], ◌∷◌, ◌++◌, length, length-append, Option, Some, None, refl, ap, sym, ◌∙◌, subst, arith, eqb, eq-eqb, ne_eqb, eqb-true, inl, inr, append_assoc, append-nil}
use Rattle.std.specs.Prelude.{nat_eq}
use Rattle.std.proofs.lemmas.Bool.{false≢true, or_from}
use Rattle.yaml_scan.specs.Groups.{Token, inserted, group, groups, block_ends, block_start, offline}
use Rattle.yaml_scan.specs.Settled.{up_to}
use Rattle.yaml_scan.specs.Groups.Token.{BlockMappingStart, OfLexeme}
use Rattle.yaml_scan.specs.Laws.{key_tokens}
use Rattle.yaml_scan.specs.Laid.{is_none, Laid, column, names}
use Rattle.yaml_scan.specs.Keys.{candidate, is_candidate}
use Rattle.yaml_scan.specs.Depth.{depth}
use Rattle.yaml_scan.specs.Order.{IsHistory}
use Rattle.yaml_scan.specs.Levels.{is_opener, is_above, is_completed, opens}
use Rattle.yaml_scan.proofs.History.KindTests.{value_not_candidate, candidate_opens_nothing, candidate_not_entry}
use Rattle.yaml_scan.proofs.History.KeyCandidates.{candidate-is, candidate_split, IsCandidateOf, IsKept}
use Rattle.yaml_scan.proofs.History.HistoryOrder.{IsHistory-older, number_at, depth_at, completed_is}
use Rattle.yaml_scan.proofs.TokenList.SettledStays.{same_laid}
use Rattle.yaml_scan.proofs.TokenList.NeverRevised.{AllOther, groups-other, group-other, other_below, number_in, completed_waits, up_to-split}

-- what a lexeme completes is before it
pub completed_below : (limit : ℕ) (i : Laid) (H : List Laid) (n : ℕ) → IsHistory limit (i ∷ H) → i.completed ≡ Some n → n < length H
completed_below limit i H n h e =
    let r = completed_waits limit H i n h e in
    let a = number_in limit H r.1 r.0 r.2 r.3 h.2 in
    let b = ap (λ (X : List Laid). length X) r.3 in
    let d = length-append r.1 (r.0 ∷ r.2) in
    omega (arith, r.4)

pub names_not : (n : ℕ) (o : Option ℕ) → ((m : ℕ) → o ≡ Some m → m ≡ n → ⊥) → names n o ≡ false
names_not n None k = refl
names_not n (Some m) k = ne_eqb _ _ (k m refl)

names_is : (n : ℕ) (o : Option ℕ) → names n o ≡ true → o ≡ Some n
names_is n None e = absurd (false≢true e)
names_is n (Some m) e = ap Some (eqb-true _ _ e)

pub is_completed_above : (limit : ℕ) (H : List Laid) (c : Laid) → IsHistory limit H → length H ≤ c.number → is_completed H c ≡ false
unfolding is_completed
is_completed_above limit [] c h l = refl
is_completed_above limit (i ∷ H) c h l =
    or_from _ _ (names_not c.number i.completed (λ m e q. let b = completed_below limit i H m h e in omega arith)) (is_completed_above limit H c h.2 (omega arith))

-- the candidate of a depth is not completed yet
pub candidate_not_completed : (limit : ℕ) (H : List Laid) (k : ℕ) (c : Laid) → IsHistory limit H → candidate H k ≡ Some c → is_completed H c ≡ false
unfolding is_completed
candidate_not_completed limit [] k c h s = refl
candidate_not_completed limit (i ∷ H) k c h s = elim (candidate-is i H k c s) [
  | inl r ↦ (let n : c.number ≡ length H = ap (λ (x : Laid). x.number) r.0 ∙ number_at limit [] i H h in
      or_from _ _ (names_not c.number i.completed (λ m e q. let b = completed_below limit i H m h e in omega arith)) (is_completed_above limit H c h.2 (omega arith)))
  | inr r ↦ or_from _ _ (names_not c.number i.completed (λ m e q. not_again m e q r.0 r.1)) (candidate_not_completed limit H k c h.2 r.0)
]
  where
    not_again : (m : ℕ) → i.completed ≡ Some m → m ≡ c.number → candidate H k ≡ Some c → IsKept k i → ⊥
    not_again m e q s' kept =
        let r = completed_is limit H i m h.0 e in
        let a = candidate_split H k c s' in
        let b = candidate_split H (depth H) r.candidate r.is.candidate in
        let u = number_in limit H a.newer c a.older a.is h.2 in
        let v = number_in limit H b.newer r.candidate b.older b.is h.2 in
        let w : c ≡ r.candidate = sym (same_laid a.newer c a.older b.newer r.candidate b.older (sym a.is ∙ b.is) (omega (arith, r.number))).0 in
        let x : c.depth ≡ k = a.saved.depth in
        let y : r.candidate.depth ≡ depth H = b.saved.depth in
        let z : i.depth ≡ depth H = depth_at limit [] i H h in
        let t : r.candidate.depth ≡ c.depth = ap (λ (p : Laid). p.depth) (sym w) in
        let p : i.depth ≡ k = omega arith in
        false≢true (sym (value_not_candidate i.lexeme.kind r.is.value) ∙ kept.candidate p)

-- the groups of lexemes, without what comes before them
unfoldable pub groups_from : List Laid → List Laid → List Token
groups_from W [] = []
groups_from W (i ∷ N) = groups_from W N ++ group W i

pub groups-split : (W N B : List Laid) → groups W (N ++ B) ≡ groups W B ++ groups_from W N
unfolding groups groups_from
groups-split W [] B = sym (append-nil _)
groups-split W (i ∷ N) B = rw (groups-split W N B) (append_assoc (groups W B) (groups_from W N) (group W i))

pub groups_from-other : (i : Laid) (W N : List Laid) → AllOther i N → groups_from (i ∷ W) N ≡ groups_from W N
unfolding groups_from
groups_from-other i W [] h = refl
groups_from-other i W (c ∷ N) h = rw (groups_from-other i W N h.1, group-other i W c h.0) refl

-- what i completes is not among the lexemes after it
pub other_above : (limit : ℕ) (i : Laid) (N : List Laid) (c : Laid) (O : List Laid) → IsHistory limit (N ++ c ∷ O) → i.completed ≡ Some c.number → AllOther i N
other_above limit i [] c O h e = tt
other_above limit i (n ∷ N) c O h e =
    let a = number_at limit [] n (N ++ c ∷ O) h in
    let b = number_at limit N c O h.2 in
    let l = length-append N (c ∷ O) in
    let f : eqb c.number n.number ≡ false = ne_eqb _ _ (λ q. omega arith) in
    (rw e f, other_above limit i N c O h.2 e)

pub candidate_not_opener : (i : Laid) → is_candidate i ≡ true → is_opener i ≡ false
candidate_not_opener i e = candidate_opens_nothing i.lexeme.kind (is_none i.completed) e

candidate_block_start : (i : Laid) → is_candidate i ≡ true → block_start i ≡ BlockMappingStart i.lexeme.start
candidate_block_start i e = rw (candidate_not_entry i.lexeme.kind e) refl

pub and_false : (a b : Bool) → (a && (b && false)) ≡ false
and_false true true = refl
and_false true false = refl
and_false false b = refl

pub and_true : (a : Bool) → (a && true) ≡ a
and_true true = refl
and_true false = refl

-- before it is completed, a candidate has only its token
pub group_plain : (W : List Laid) (c : Laid) → is_candidate c ≡ true → is_completed W c ≡ false → group W c ≡ block_ends c ++ (OfLexeme c.lexeme ∷ [])
unfolding group inserted opens
group_plain W c k e = rw (candidate_not_opener c k, e) (rw (and_false (nat_eq c.depth 0) (is_above (column c) c.level)) refl)

-- and then its key
group_keyed : (W : List Laid) (c : Laid) → is_candidate c ≡ true → is_completed W c ≡ true → group W c ≡ block_ends c ++ (key_tokens c ++ (OfLexeme c.lexeme ∷ []))
unfolding group inserted opens
group_keyed W c k e = rw (candidate_not_opener c k, e) (rw (and_true (is_above (column c) c.level)) (rw (candidate_block_start c k) refl))

pub groups_was : (W N : List Laid) (c : Laid) (O : List Laid) → is_candidate c ≡ true → is_completed W c ≡ false
    → groups W (N ++ c ∷ O) ≡ (groups W O ++ block_ends c) ++ (OfLexeme c.lexeme ∷ groups_from W N)
unfolding groups
groups_was W N c O k e = groups-split W N (c ∷ O) ∙ (rw (group_plain W c k e) (
    append_assoc (groups W O) (block_ends c ++ (OfLexeme c.lexeme ∷ [])) (groups_from W N)
    ∙ ap (λ (l : List Token). groups W O ++ l) (append_assoc (block_ends c) (OfLexeme c.lexeme ∷ []) (groups_from W N))
    ∙ sym (append_assoc (groups W O) (block_ends c) (OfLexeme c.lexeme ∷ groups_from W N))))

groups_now : (i : Laid) (W N : List Laid) (c : Laid) (O : List Laid) → is_candidate c ≡ true → is_completed (i ∷ W) c ≡ true → AllOther i O → AllOther i N
    → groups (i ∷ W) (N ++ c ∷ O) ≡ (groups W O ++ block_ends c) ++ (key_tokens c ++ (OfLexeme c.lexeme ∷ groups_from W N))
unfolding groups
groups_now i W N c O k e a b = groups-split (i ∷ W) N (c ∷ O) ∙ (rw (group_keyed (i ∷ W) c k e, groups-other i W O a, groups_from-other i W N b) (
    append_assoc (groups W O) (block_ends c ++ (key_tokens c ++ (OfLexeme c.lexeme ∷ []))) (groups_from W N)
    ∙ ap (λ (l : List Token). groups W O ++ l) (append_assoc (block_ends c) (key_tokens c ++ (OfLexeme c.lexeme ∷ [])) (groups_from W N)
    ∙ ap (λ (l : List Token). block_ends c ++ l) (append_assoc (key_tokens c) (OfLexeme c.lexeme ∷ []) (groups_from W N)))
    ∙ sym (append_assoc (groups W O) (block_ends c) (key_tokens c ++ (OfLexeme c.lexeme ∷ groups_from W N)))))

-- the offline list, one lexeme on
-- nothing is completed: the list so far, and then the group
pub offline-more_none : (limit : ℕ) (i : Laid) (H : List Laid) → IsHistory limit (i ∷ H) → i.completed ≡ None → offline (i ∷ H) ≡ offline H ++ group (i ∷ H) i
unfolding offline groups
offline-more_none limit i H h e = ap (λ (l : List Token). l ++ group (i ∷ H) i) (groups-other i H H (other_below limit i H h.2 (λ n f. absurd (none_some n (sym e ∙ f)))))
  where
    none_some : (n : ℕ) → None ≡ Some n → ⊥
    none_some n f = cc

-- the candidate c is completed: its key is inserted before its token
pub record IsInsertion (i : Laid) (H : List Laid) (c : Laid) : Type 0 where
  pub front : List Token
  pub rest : List Token
  pub at : front ≡ up_to H (Some c)
  pub was : offline H ≡ front ++ (OfLexeme c.lexeme ∷ rest)
  pub now : offline (i ∷ H) ≡ (front ++ (key_tokens c ++ (OfLexeme c.lexeme ∷ rest))) ++ group (i ∷ H) i

pub offline-more_some : (limit : ℕ) (i : Laid) (H : List Laid) (c : Laid) → IsHistory limit (i ∷ H) → candidate H (depth H) ≡ Some c → i.completed ≡ Some c.number → IsInsertion i H c
unfolding offline groups is_completed
offline-more_some limit i H c h s e = record {
  front = groups H a.older ++ block_ends c;
  rest = groups_from H a.newer;
  at = sym (up_to-split limit H a.newer c a.older a.is h.2);
  was = subst (λ (X : List Laid). groups H X ≡ (groups H a.older ++ block_ends c) ++ (OfLexeme c.lexeme ∷ groups_from H a.newer)) (sym a.is) (groups_was H a.newer c a.older k n);
  now = ap (λ (l : List Token). l ++ group (i ∷ H) i) (subst (λ (X : List Laid). groups (i ∷ H) X ≡ (groups H a.older ++ block_ends c) ++ (key_tokens c ++ (OfLexeme c.lexeme ∷ groups_from H a.newer))) (sym a.is) (groups_now i H a.newer c a.older k y o b));
}
  where
    a : IsCandidateOf H (depth H) c
    a = candidate_split H (depth H) c s

    k : is_candidate c ≡ true
    k = a.saved.candidate

    n : is_completed H c ≡ false
    n = candidate_not_completed limit H (depth H) c h.2 s

    g : IsHistory limit (a.newer ++ c ∷ a.older)
    g = subst (λ (X : List Laid). IsHistory limit X) a.is h.2

    u : c.number ≡ length a.older
    u = number_at limit a.newer c a.older g

    y : is_completed (i ∷ H) c ≡ true
    y = rw e (rw (eq-eqb c.number c.number refl) refl)

    o : AllOther i a.older
    o = other_below limit i a.older (IsHistory-older limit a.newer (c ∷ a.older) g).2 (λ m f. let q : m ≡ c.number = some_same m c.number (sym f ∙ e) in omega (arith, u))
      where
        some_same : (x z : ℕ) → Some x ≡ Some z → x ≡ z
        some_same x z f = cc

    b : AllOther i a.newer
    b = other_above limit i a.newer c a.older g e

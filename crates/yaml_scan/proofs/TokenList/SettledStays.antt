-- So what is handed out stays, whatever lexemes follow.
use Rattle.std.proofs.Common.{◌≡◌, ℕ, ◌≤◌, Bool, true, List, [], ◌∷◌, ◌++◌, length, length-append, filter, Option, Some, None, refl, ap, sym, ◌∙◌, subst, arith, eq-eqb, eqb-true, inl, inr}
use Rattle.std.specs.Prelude.{option_map}
use Rattle.std.proofs.lemmas.Bool.{and_parts, and_from, false≢true}
use Rattle.yaml_scan.specs.Groups.{groups, block_ends, offline}
use Rattle.yaml_scan.specs.Settled.{is_current, waiting, before, up_to}
use Rattle.yaml_scan.specs.Laid.{Laid, reach, names}
use Rattle.yaml_scan.specs.Keys.{candidate, live}
use Rattle.yaml_scan.specs.Order.{IsHistory}
use Rattle.yaml_scan.proofs.History.KeyCandidates.{candidate-is}
use Rattle.yaml_scan.proofs.History.HistoryOrder.{to_start, to_reach, IsHistory-older, number_at, live_earlier, IsNotBefore-trans}
use Rattle.yaml_scan.specs.Begins.{Begins}
use Rattle.yaml_scan.proofs.TokenList.NeverRevised.{Begins-refl, Begins-more, Begins-trans, Begins-eq, groups-append, groups-ends, AllOther, groups-other, other_below, is_live_candidate, number_in, start_in, completed_waits, IsEarliest, last_of_none, earliest, passes_in, tails, earliest_first, up_to-split}

-- the earliest live candidate of H, and the lexemes before and after it
pub waiting_is : (limit : ℕ) (H : List Laid) (w : Laid) → waiting limit H ≡ Some w → IsEarliest (is_live_candidate limit H) H w
unfolding waiting
waiting_is limit H w e = earliest (is_live_candidate limit H) H w e

waiting_none : (limit : ℕ) (H : List Laid) → waiting limit H ≡ None → filter (is_live_candidate limit H) H ≡ []
unfolding waiting
waiting_none limit H e = last_of_none _ e

pub none_in : (limit : ℕ) (H A : List Laid) (c : Laid) (B : List Laid) → waiting limit H ≡ None → H ≡ A ++ c ∷ B → is_live_candidate limit H c ≡ true → ⊥
none_in limit H A c B q e t =
    let p : Laid → Bool = is_live_candidate limit H in
    let f : filter p (A ++ c ∷ B) ≡ [] = sym (ap (λ (X : List Laid). filter p X) e) ∙ waiting_none limit H q in
    passes_in p A c B f t

-- a step completes nothing that is before the earliest live candidate
pub other_none : (limit : ℕ) (i : Laid) (H : List Laid) → IsHistory limit (i ∷ H) → waiting limit H ≡ None → AllOther i H
other_none limit i H h q = other_below limit i H h.2 (λ n e. let r = completed_waits limit H i n h e in absurd (none_in limit H r.1 r.0 r.2 q r.3 r.5))

pub other_before : (limit : ℕ) (i : Laid) (H : List Laid) (w : Laid) → IsHistory limit (i ∷ H) → (r : IsEarliest (is_live_candidate limit H) H w) → AllOther i r.older
other_before limit i H w h r = other_below limit i r.older o (λ n e. at_least n (completed_waits limit H i n h e))
  where
    g : IsHistory limit (r.newer ++ w ∷ r.older)
    g = subst (λ (X : List Laid). IsHistory limit X) r.is h.2

    o : IsHistory limit r.older
    o = (IsHistory-older limit r.newer (w ∷ r.older) g).2

    at_least : (n : ℕ) → (c : Laid) × (A : List Laid) × (B : List Laid) × (H ≡ A ++ c ∷ B) × (c.number ≡ n) × (is_live_candidate limit H c ≡ true) → length r.older ≤ n
    at_least n k =
        let f = earliest_first (is_live_candidate limit H) r.newer w r.older k.1 k.0 k.2 (sym r.is ∙ k.3) r.none_older k.5 in
        let m = number_in limit H k.1 k.0 k.2 k.3 h.2 in
        omega (arith, k.4)

-- what is handed out of H, within the groups of a longer history
pub before_none : (limit : ℕ) (i : Laid) (H : List Laid) → IsHistory limit (i ∷ H) → waiting limit H ≡ None → groups (i ∷ H) H ≡ before limit H
unfolding before up_to offline
before_none limit i H h q = groups-other i H H (other_none limit i H h q) ∙ (rw q refl)

pub before_some : (limit : ℕ) (i : Laid) (H : List Laid) (w : Laid) → IsHistory limit (i ∷ H) → waiting limit H ≡ Some w → (r : IsEarliest (is_live_candidate limit H) H w)
    → groups (i ∷ H) r.older ++ block_ends w ≡ before limit H
unfolding before
before_some limit i H w h q r =
    rw (groups-other i H r.older (other_before limit i H w h r)) (rw q (sym (up_to-split limit H r.newer w r.older r.is h.2)))

-- it begins the offline list one lexeme on
pub before-offline_more : (limit : ℕ) (i : Laid) (H : List Laid) → IsHistory limit (i ∷ H) → Begins (before limit H) (offline (i ∷ H))
unfolding offline
before-offline_more limit i H h = go (waiting limit H) refl
  where
    go : (o : Option Laid) → waiting limit H ≡ o → Begins (before limit H) (groups (i ∷ H) (i ∷ H))
    go None q = Begins-trans _ _ _ (Begins-eq _ _ (sym (before_none limit i H h q))) (groups-append (i ∷ H) (i ∷ []) H)
    go (Some w) q =
        let r = waiting_is limit H w q in
        let b : Begins (groups (i ∷ H) r.older ++ block_ends w) (groups (i ∷ H) (i ∷ H)) = subst (λ (X : List Laid). Begins (groups (i ∷ H) r.older ++ block_ends w) (groups (i ∷ H) (i ∷ X))) (sym r.is) (groups-ends (i ∷ H) (i ∷ r.newer) w r.older) in
        Begins-trans _ _ _ (Begins-eq _ _ (sym (before_some limit i H w h q r))) b

-- a number that an optional lexeme has
pub named_is : (n : ℕ) (o : Option Laid) → names n (option_map (λ c. c.number) o) ≡ true → (c : Laid) × (o ≡ Some c) × (c.number ≡ n)
named_is n None e = absurd (false≢true e)
named_is n (Some c) e = (c, refl, eqb-true _ _ e)

-- a live candidate one lexeme on was one before, unless it is the new one
older_candidate : (limit : ℕ) (i : Laid) (H A : List Laid) (c : Laid) (B : List Laid) → IsHistory limit (i ∷ H) → H ≡ A ++ c ∷ B
    → is_live_candidate limit (i ∷ H) c ≡ true → is_live_candidate limit H c ≡ true
unfolding is_current
older_candidate limit i H A c B h e t =
    let p = and_parts _ _ t in
    let r = named_is c.number (candidate (i ∷ H) c.depth) p.0 in
    let o = start_in limit H A c B e h.2 in
    let l : live limit c (reach H) ≡ true = live_earlier limit c (reach H) i.lexeme.reach o (IsNotBefore-trans _ _ _ (to_start h.1) (to_reach h.1)) p.1 in
    let u : names c.number (option_map (λ c. c.number) (candidate H c.depth)) ≡ true = elim (candidate-is i H c.depth r.0 r.1) [
      | inl k ↦ (let a = number_in limit H A c B e h.2 in
          let b = number_at limit [] i H h in
          let d = ap (λ (X : List Laid). length X) e in
          let f = length-append A (c ∷ B) in
          let g : r.0.number ≡ i.number = ap (λ (x : Laid). x.number) k.0 in
          absurd (omega (arith, r.2)))
      | inr k ↦ rw k.0 (eq-eqb _ _ r.2)
    ] in
    and_from _ _ u l

-- of two lexemes of one list, the one with no fewer before it has the other's before it, or is it
pub data Order (w : Laid) (O : List Laid) (v : Laid) (U : List Laid) : Type 0 where
  same : v ≡ w → U ≡ O → Order w O v U
  later : (M : List Laid) → U ≡ M ++ w ∷ O → Order w O v U

heads : (i j : Laid) (H G : List Laid) → i ∷ H ≡ j ∷ G → i ≡ j
heads i j H G e = cc

pub order : (N : List Laid) (w : Laid) (O V : List Laid) (v : Laid) (U : List Laid) → N ++ w ∷ O ≡ V ++ v ∷ U → length O ≤ length U → Order w O v U
order [] w O [] v U e l = same (sym (heads _ _ _ _ e)) (sym (tails _ _ _ _ e))
order [] w O (a ∷ V) v U e l =
    let f : O ≡ V ++ v ∷ U = tails _ _ _ _ e in let g = ap (λ (X : List Laid). length X) f in let k = length-append V (v ∷ U) in absurd (omega arith)
order (m ∷ N) w O [] v U e l = later N (sym (tails _ _ _ _ e))
order (m ∷ N) w O (a ∷ V) v U e l = order N w O V v U (tails _ _ _ _ e) l

-- two lexemes of one list with equally many before them are one
pub same_laid : (A : List Laid) (a : Laid) (B C : List Laid) (d : Laid) (D : List Laid) → A ++ a ∷ B ≡ C ++ d ∷ D → length B ≡ length D → (d ≡ a) × (D ≡ B)
same_laid A a B C d D e l = go (order A a B C d D e (omega arith))
  where
    go : Order a B d D → (d ≡ a) × (D ≡ B)
    go (same p q) = (p, q)
    go (later M q) = let m = ap (λ (X : List Laid). length X) q in let n = length-append M (a ∷ B) in absurd (omega arith)

pub Begins-ends : (W : List Laid) (w : Laid) (O : List Laid) (v : Laid) (U : List Laid) → Order w O v U → Begins (groups W O ++ block_ends w) (groups W U ++ block_ends v)
Begins-ends W w O v U (same e f) = rw (e, f) (Begins-refl _)
Begins-ends W w O v U (later M f) =
    let b : Begins (groups W O ++ block_ends w) (groups W U) = rw f (groups-ends W M w O) in
    Begins-trans _ _ _ b (Begins-more _ _)

pub before_all : (limit : ℕ) (H : List Laid) → waiting limit H ≡ None → before limit H ≡ groups H H
unfolding before up_to offline
before_all limit H q = rw q refl

pub before_part : (limit : ℕ) (H : List Laid) (v : Laid) (V U : List Laid) → waiting limit H ≡ Some v → H ≡ V ++ v ∷ U → IsHistory limit H
    → before limit H ≡ groups H U ++ block_ends v
unfolding before
before_part limit H v V U q e h = rw q (up_to-split limit H V v U e h)

-- and what is handed out one lexeme on
pub before-before_more : (limit : ℕ) (i : Laid) (H : List Laid) → IsHistory limit (i ∷ H) → Begins (before limit H) (before limit (i ∷ H))
unfolding offline
before-before_more limit i H h = go (waiting limit (i ∷ H)) refl
  where
    within : (v : Laid) (V U : List Laid) → i ∷ H ≡ V ++ v ∷ U → is_live_candidate limit (i ∷ H) v ≡ true → Begins (before limit H) (groups (i ∷ H) U ++ block_ends v)
    within v [] U e t = (let f : H ≡ U = tails _ _ _ _ e in
        Begins-trans _ _ _ (begins_groups f) (Begins-more _ _))
      where
        begins_groups : H ≡ U → Begins (before limit H) (groups (i ∷ H) U)
        begins_groups f = go' (waiting limit H) refl
          where
            go' : (o : Option Laid) → waiting limit H ≡ o → Begins (before limit H) (groups (i ∷ H) U)
            go' None q = Begins-trans _ _ _ (Begins-eq _ _ (sym (before_none limit i H h q))) (rw f (Begins-refl _))
            go' (Some w) q =
                let r = waiting_is limit H w q in
                Begins-trans _ _ _ (Begins-eq _ _ (sym (before_some limit i H w h q r))) (rw (sym f ∙ r.is) (groups-ends (i ∷ H) r.newer w r.older))
    within v (a ∷ V) U e t = go' (waiting limit H) refl
      where
        f : H ≡ V ++ v ∷ U
        f = tails _ _ _ _ e

        s : is_live_candidate limit H v ≡ true
        s = older_candidate limit i H V v U h f t

        go' : (o : Option Laid) → waiting limit H ≡ o → Begins (before limit H) (groups (i ∷ H) U ++ block_ends v)
        go' None q = absurd (none_in limit H V v U q f s)
        go' (Some w) q =
            let r = waiting_is limit H w q in
            let l = earliest_first (is_live_candidate limit H) r.newer w r.older V v U (sym r.is ∙ f) r.none_older s in
            Begins-trans _ _ _ (Begins-eq _ _ (sym (before_some limit i H w h q r))) (Begins-ends (i ∷ H) w r.older v U (order r.newer w r.older V v U (sym r.is ∙ f) l))

    go : (o : Option Laid) → waiting limit (i ∷ H) ≡ o → Begins (before limit H) (before limit (i ∷ H))
    go None q = rw (before_all limit (i ∷ H) q) (before-offline_more limit i H h)
    go (Some v) q = let r = waiting_is limit (i ∷ H) v q in rw (before_part limit (i ∷ H) v r.newer r.older q r.is h) (within v r.newer r.older r.is r.passes)

-- over any lexemes that follow
pub before-before : (limit : ℕ) (Y H : List Laid) → IsHistory limit (Y ++ H) → Begins (before limit H) (before limit (Y ++ H))
before-before limit [] H h = Begins-refl _
before-before limit (i ∷ Y) H h = Begins-trans _ _ _ (before-before limit Y H h.2) (before-before_more limit i (Y ++ H) h)

-- what is handed out begins the offline list
pub before-offline : (limit : ℕ) (H : List Laid) → IsHistory limit H → Begins (before limit H) (offline H)
unfolding offline
before-offline limit H h = go (waiting limit H) refl
  where
    within : (v : Laid) (V U : List Laid) → H ≡ V ++ v ∷ U → Begins (groups H U ++ block_ends v) (groups H H)
    within v V U e = subst (λ (X : List Laid). Begins (groups H U ++ block_ends v) (groups H X)) (sym e) (groups-ends H V v U)

    go : (o : Option Laid) → waiting limit H ≡ o → Begins (before limit H) (groups H H)
    go None q = Begins-eq _ _ (before_all limit H q)
    go (Some v) q = let r = waiting_is limit H v q in rw (before_part limit H v r.newer r.older q r.is h) (within v r.newer r.older r.is)

-- with the lexemes that follow
pub before-offline_of_more : (limit : ℕ) (Y H : List Laid) → IsHistory limit (Y ++ H) → Begins (before limit H) (offline (Y ++ H))
before-offline_of_more limit Y H h = Begins-trans _ _ _ (before-before limit Y H h) (before-offline limit (Y ++ H) h)

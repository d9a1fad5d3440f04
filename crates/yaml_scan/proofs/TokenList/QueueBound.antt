-- At most key limit + 1 lexemes are queued.
use Rattle.std.proofs.Common.{◌≡◌, ℕ, ◌+◌, ◌≤◌, ◌<◌, Bool, true, false, List, [], ◌∷◌, ◌++◌, length, length-append, Option, Some, None, refl, ap, sym, subst, arith, eqb, leb, leb-true, le-ltb, ltb, append_assoc}
use Rattle.std.specs.Prelude.{if◌then◌else◌}
use Rattle.std.proofs.lemmas.Bool.{and_parts}
use Rattle.yaml_scan.specs.Course.{ended}
use Rattle.yaml_scan.specs.Settled.{is_current, waiting, before}
use Rattle.yaml_scan.specs.Sessions.{queued}
use Rattle.yaml_scan.specs.Groups.{Token, groups, block_ends}
use Rattle.yaml_scan.specs.Laid.{Laid, reach}
use Rattle.yaml_scan.specs.Keys.{live}
use Rattle.yaml_scan.specs.Order.{IsHistory}
use Rattle.yaml_scan.proofs.History.HistoryOrder.{to_start, byte_taken}
use Rattle.yaml_scan.specs.Begins.{Begins}
use Rattle.yaml_scan.proofs.TokenList.NeverRevised.{groups-append, is_live_candidate, IsEarliest}
use Rattle.yaml_scan.proofs.TokenList.SettledStays.{waiting_is, before_none, before_some, before_all, before_part}

one_at_most : (b : Bool) → (if b then 1 else 0) ≤ 1
one_at_most true = omega arith
one_at_most false = omega arith

pub length-begins : (xs ys : List Token) → Begins xs ys → length xs ≤ length ys
length-begins xs ys b = let e = ap (λ (l : List Token). length l) b.is in let l = length-append xs b.rest in omega arith

-- none if the groups end at t or before it
pub queued_none : (W : List Laid) (t : ℕ) (B : List Laid) → length (groups W B) ≤ t → queued W t B ≡ 0
unfolding queued
queued_none W t [] l = rw (le-ltb _ _ l) refl
queued_none W t (c ∷ B) l =
    let k = length-begins _ _ (groups-append W (c ∷ []) B) in
    let n : length (groups W B) ≤ t = omega arith in
    rw (le-ltb _ _ l, queued_none W t B n) (omega arith)

-- at most one each
queued_some : (W : List Laid) (t : ℕ) (N O : List Laid) → queued W t (N ++ O) ≤ length N + queued W t O
unfolding queued
queued_some W t [] O = omega arith
queued_some W t (n ∷ N) O = let r = queued_some W t N O in let b = one_at_most (ltb t (length (groups W (n ∷ N ++ O)))) in omega arith

-- lexemes take bytes
bytes_taken : (limit : ℕ) (N : List Laid) (w : Laid) (O : List Laid) → IsHistory limit (N ++ w ∷ O) → ended (N ++ w ∷ O) ≡ false
    → w.lexeme.start.index + length N < (reach (N ++ w ∷ O)).index
bytes_taken limit [] w O h e = let b = byte_taken h.1 e in omega arith
bytes_taken limit (n ∷ N) w O h e =
    let r = bytes_taken limit N w O h.2 h.3 in
    let f = (to_start h.1).index in
    let b = byte_taken h.1 e in
    omega arith

-- fewer than limit lexemes come after the earliest live candidate
held_few : (limit : ℕ) (H : List Laid) (w : Laid) → IsHistory limit H → ended H ≡ false → (r : IsEarliest (is_live_candidate limit H) H w) → length r.newer < limit
held_few limit H w h e r =
    let p : live limit w (reach H) ≡ true = (and_parts (is_current H w) (live limit w (reach H)) r.passes).1 in
    let q : leb (reach H).index (w.lexeme.start.index + limit) ≡ true = (and_parts (eqb (reach H).line w.lexeme.start.line) (leb (reach H).index (w.lexeme.start.index + limit)) p).1 in
    let l : (reach H).index ≤ w.lexeme.start.index + limit = leb-true (reach H).index (w.lexeme.start.index + limit) q in
    let b = subst (λ (X : List Laid). IsHistory limit X → ended X ≡ false → w.lexeme.start.index + length r.newer < (reach X).index) (sym r.is) (bytes_taken limit r.newer w r.older) h e in
    omega (arith, l, b)

-- with the step that was made for token t, at most limit + 1 steps have a token at t or after it
pub queued_few : (limit : ℕ) (i : Laid) (H : List Laid) (t : ℕ) → IsHistory limit (i ∷ H) → length (before limit H) ≤ t → queued (i ∷ H) t (i ∷ H) ≤ limit + 1
queued_few limit i H t h l = go (waiting limit H) refl
  where
    go : (o : Option Laid) → waiting limit H ≡ o → queued (i ∷ H) t (i ∷ H) ≤ limit + 1
    go None q =
        let g : length (groups (i ∷ H) H) ≤ t = rw (before_none limit i H h q) l in
        let n = queued_none (i ∷ H) t H g in
        let s = queued_some (i ∷ H) t (i ∷ []) H in
        omega arith
    go (Some w) q =
        let r = waiting_is limit H w q in
        let b = ap (λ (x : List Token). length x) (before_some limit i H w h q r) in
        let a = length-append (groups (i ∷ H) r.older) (block_ends w) in
        let g : length (groups (i ∷ H) r.older) ≤ t = omega arith in
        let n = queued_none (i ∷ H) t r.older g in
        let s : queued (i ∷ H) t (i ∷ (r.newer ++ w ∷ r.older)) ≤ length (i ∷ (r.newer ++ w ∷ [])) + queued (i ∷ H) t r.older
        = rw (← append_assoc r.newer (w ∷ []) r.older) (queued_some (i ∷ H) t (i ∷ (r.newer ++ w ∷ [])) r.older) in
        let k = length-append r.newer (w ∷ []) in
        let f = held_few limit H w h.2 h.3 r in
        subst (λ (X : List Laid). queued (i ∷ H) t (i ∷ X) ≤ limit + 1) (sym r.is) (omega arith)

-- without a further step, as when the next one is a fault, at most limit
pub queued_fewer : (limit : ℕ) (H : List Laid) (t : ℕ) → IsHistory limit H → ended H ≡ false → length (before limit H) ≤ t → queued H t H ≤ limit
queued_fewer limit H t h e l = go (waiting limit H) refl
  where
    go : (o : Option Laid) → waiting limit H ≡ o → queued H t H ≤ limit
    go None q =
        let g : length (groups H H) ≤ t = rw (← before_all limit H q) l in
        let n = queued_none H t H g in
        omega arith
    go (Some w) q =
        let r = waiting_is limit H w q in
        let b = ap (λ (x : List Token). length x) (before_part limit H w r.newer r.older q r.is h) in
        let a = length-append (groups H r.older) (block_ends w) in
        let g : length (groups H r.older) ≤ t = omega arith in
        let n = queued_none H t r.older g in
        let s : queued H t (r.newer ++ w ∷ r.older) ≤ length (r.newer ++ w ∷ []) + queued H t r.older
        = rw (← append_assoc r.newer (w ∷ []) r.older) (queued_some H t (r.newer ++ w ∷ []) r.older) in
        let k = length-append r.newer (w ∷ []) in
        let f = held_few limit H w h e r in
        subst (λ (X : List Laid). queued H t X ≤ limit) (sym r.is) (omega arith)

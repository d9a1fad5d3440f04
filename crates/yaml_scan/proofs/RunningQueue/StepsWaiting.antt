-- How many steps wait, as more steps are made and tokens are taken.
use Rattle.std.proofs.Common.{◌≡◌, ℕ, zero, suc, ◌+◌, ◌-◌, ◌≤◌, ◌<◌, Bool, true, false, List, [], ◌∷◌, ◌++◌, reverse, filter, take, drop, take-append-drop, length, length-append, refl, ap, sym, ◌∙◌, subst, arith, inl, inr, eqb, eqb-true, ltb, ltb-true, ltb-false}
use Rattle.std.specs.Prelude.{if◌then◌else◌, nat_eq}
use Rattle.std.proofs.lemmas.Bool.{cases_Bool, cases_eq, cases_lt}
use Rattle.std.proofs.lemmas.List.{take-append-le, drop_all, length-map, length-reverse}
use Rattle.std.proofs.lemmas.List.Elements.{filter-append}
use Rattle.yaml_scan.specs.Course.{oldest}
use Rattle.yaml_scan.specs.inside.Scanner.{Scanner}
use Rattle.yaml_scan.specs.Laid.{Laid}
use Rattle.yaml_scan.specs.Laws.{is_of_lexeme}
use Rattle.yaml_scan.specs.Begins.{Begins}
use Rattle.yaml_scan.specs.Order.{IsHistory}
use Rattle.yaml_scan.specs.Groups.{Token, offline, groups}
use Rattle.yaml_scan.specs.Settled.{before}
use Rattle.yaml_scan.specs.Sessions.{queued}
use Rattle.yaml_scan.specs.Groups.Token.{OfLexeme}
use Rattle.yaml_scan.specs.Settled.{steps_for, pace, first_steps}
use Rattle.yaml_scan.specs.inside.Scanning.{IsRunning, history}
use Rattle.yaml_scan.proofs.TokenList.QueueBound.{queued_few}
use Rattle.yaml_scan.proofs.RunningQueue.StepsInQueue.{queued-count}
use Rattle.yaml_scan.proofs.TokenList.SettledStays.{before-before, before-offline}
use Rattle.yaml_scan.proofs.TokenList.OneLexemeMore.{lexemes_come_in_order}
use Rattle.yaml_scan.proofs.Course.NextStep.{oldest_all, oldest_tail}
use Rattle.yaml_scan.proofs.Course.StepsNeeded.{split, at_most, enough, oldest_length, oldest_twice, older}
use Rattle.yaml_scan.proofs.RunningQueue.CandidateGroup.{groups_count}
use Rattle.yaml_scan.proofs.RunningCalls.NextOfInput.{history_length}

-- OF THE LIST
all_in : (H : List Laid) → length (filter is_of_lexeme (offline H)) ≡ length H + 1
all_in H = let a = ap (λ (l : List Token). length l) (lexemes_come_in_order H) in let b = length-map (reverse H) (λ (i : Laid). OfLexeme i.lexeme) in let c = length-reverse H in omega arith

-- those that wait and those whose token was taken are all
parts : (H : List Laid) (t : ℕ) → queued H t H + length (filter is_of_lexeme (take t (offline H))) ≡ length H + 1
unfolding offline
parts H t =
    let a = queued-count H H t in
    let b = ap (λ (l : List Token). length (filter is_of_lexeme l)) (take-append-drop t (groups H H)) in
    let c = ap (λ (l : List Token). length l) (filter-append is_of_lexeme (take t (groups H H)) (drop t (groups H H))) in
    let d = length-append (filter is_of_lexeme (take t (groups H H))) (filter is_of_lexeme (drop t (groups H H))) in
    let e = all_in H in
    omega arith

pub queued_most : (H : List Laid) (t : ℕ) → queued H t H ≤ length H + 1
queued_most H t = let p = parts H t in omega arith

pub queued_all : (H : List Laid) → queued H 0 H ≡ length H + 1
queued_all H = let p = parts H 0 in omega arith

take_begins : (xs ys : List Token) (t : ℕ) → Begins xs ys → t ≤ length xs → take t ys ≡ take t xs
take_begins xs ys t b l = ap (λ (z : List Token). take t z) b.is ∙ take-append-le t xs b.rest l

-- what was taken stays, so each step more is one more that waits
pub queued_more : (limit : ℕ) (Y P : List Laid) (t : ℕ) → IsHistory limit (Y ++ P) → t ≤ length (before limit P) → queued (Y ++ P) t (Y ++ P) ≡ length Y + queued P t P
queued_more limit Y P t h l =
    let g = older limit Y P h in
    let a = take_begins (before limit P) (offline P) t (before-offline limit P g) l in
    let b = before-before limit Y P h in
    let m : t ≤ length (before limit (Y ++ P)) = rw b.is (let n = length-append (before limit P) b.rest in omega arith) in
    let c = take_begins (before limit (Y ++ P)) (offline (Y ++ P)) t (before-offline limit (Y ++ P) h) m in
    let d = take_begins (before limit P) (before limit (Y ++ P)) t b l in
    let e = ap (λ (x : List Token). length (filter is_of_lexeme x)) (c ∙ d ∙ sym a) in
    let p = parts (Y ++ P) t in
    let q = parts P t in
    let n = length-append Y P in
    omega arith

-- fewer wait once one more token is taken
if_less : (t n k m : ℕ) → k ≤ m → (if ltb (t + 1) n then 1 else 0) + k ≤ (if ltb t n then 1 else 0) + m
if_less t n k m l = go (ltb (t + 1) n) (ltb t n) refl refl
  where
    go : (a b : Bool) → ltb (t + 1) n ≡ a → ltb t n ≡ b → (if a then 1 else 0) + k ≤ (if b then 1 else 0) + m
    go true true e f = omega arith
    go false true e f = omega arith
    go false false e f = omega arith
    go true false e f = absurd (let a = ltb-true (t + 1) n e in let b = ltb-false t n f in omega arith)

pub queued_fewer : (H B : List Laid) (t : ℕ) → queued H (t + 1) B ≤ queued H t B
unfolding queued
queued_fewer H [] t = let r = if_less t (length (groups H [])) 0 0 (omega arith) in omega arith
queued_fewer H (i ∷ B) t = if_less t (length (groups H (i ∷ B))) _ _ (queued_fewer H B t)

-- OF A SESSION
-- of the first n steps of H, those that have a token after the first t
abbrev pub waiting_at : List Laid → ℕ → ℕ → ℕ
waiting_at H n t = if nat_eq n 0 then 0 else queued (first_steps n H) t (first_steps n H)

pub some_made : (H : List Laid) (n t : ℕ) → 0 < n → waiting_at H n t ≡ queued (first_steps n H) t (first_steps n H)
some_made H n t l = elim (cases_Bool (eqb n 0)) [ inl q ↦ (let e = eqb-true n 0 q in absurd (omega arith)) | inr q ↦ rw q refl ]

pub waiting_fewer : (H : List Laid) (n t : ℕ) → waiting_at H n (t + 1) ≤ waiting_at H n t
waiting_fewer H n t = elim (cases_Bool (eqb n 0)) [ inl q ↦ rw q (omega arith) | inr q ↦ rw q (queued_fewer (first_steps n H) (first_steps n H) t) ]

pub waiting_later : (H : List Laid) (n t k : ℕ) → waiting_at H n (t + k) ≤ waiting_at H n t
waiting_later H n t zero = let e = ap (λ (x : ℕ). waiting_at H n x) (let z : t + 0 ≡ t = omega arith in z) in omega arith
waiting_later H n t (suc k) =
    let e = ap (λ (x : ℕ). waiting_at H n x) (let z : t + suc k ≡ t + k + 1 = omega arith in z) in
    let f = waiting_fewer H n (t + k) in
    let r = waiting_later H n t k in
    omega arith

module _ (limit : ℕ) (H : List Laid) (h : IsHistory limit H) where
  first_history : (n : ℕ) → n ≤ length H + 1 → IsHistory limit (first_steps n H)
  first_history n l = let s = split H (n - 1) (omega arith) in older limit s.0 (first_steps n H) (subst (λ (X : List Laid). IsHistory limit X) s.1 h)

  pub waiting_new : (n : ℕ) → n ≤ length H + 1 → waiting_at H n 0 ≡ n
  waiting_new zero l = refl
  waiting_new (suc n) l = let x = some_made H (suc n) 0 (omega arith) in let a = queued_all (first_steps (suc n) H) in let b = oldest_length H (suc n - 1) (omega arith) in omega arith

  -- n steps of which some token waits, and m steps
  pub waiting_more : (n m t : ℕ) → 0 < n → n ≤ m → m ≤ length H + 1 → t ≤ length (before limit (first_steps n H)) → waiting_at H m t + n ≡ waiting_at H n t + m
  waiting_more n m t z l k b =
      let W = first_steps m H in
      let e = oldest_length H (m - 1) (omega arith) in
      let f = oldest_length H (n - 1) (omega arith) in
      let s = split W (n - 1) (omega arith) in
      let o : oldest (n - 1) W ≡ first_steps n H = oldest_twice H (n - 1) (m - 1) (omega arith) (omega arith) in
      let w : W ≡ s.0 ++ first_steps n H = s.1 ∙ ap (λ (X : List Laid). s.0 ++ X) o in
      let g : IsHistory limit (s.0 ++ first_steps n H) = subst (λ (X : List Laid). IsHistory limit X) w (first_history m k) in
      let q = queued_more limit s.0 (first_steps n H) t g b in
      let r = ap (λ (X : List Laid). queued X t X) w in
      let u = ap (λ (X : List Laid). length X) w in
      let v = length-append s.0 (first_steps n H) in
      let x = some_made H m t (omega arith) in
      let y = some_made H n t z in
      omega arith

  few_one : (t : ℕ) → queued [] t [] ≤ limit + 1
  few_one t = let q = queued_most [] t in omega arith

  last_of_them : (k : ℕ) → k < length H → (i : Laid) × (oldest (k + 1) H ≡ i ∷ oldest k H)
  last_of_them k l = go H l
    where
      go : (H : List Laid) → k < length H → (i : Laid) × (oldest (k + 1) H ≡ i ∷ oldest k H)
      go [] l = absurd (omega arith)
      go (i ∷ H) l = elim (cases_eq k (length H)) [
        | inl e ↦ (i, oldest_all (i ∷ H) (k + 1) (omega arith) ∙ ap (λ (X : List Laid). i ∷ X) (sym (oldest_tail i H k (omega arith) ∙ oldest_all H k e)))
        | inr e ↦ (let r = go H (omega arith) in (r.0, oldest_tail i H (k + 1) (omega arith) ∙ r.1 ∙ ap (λ (X : List Laid). r.0 ∷ X) (sym (oldest_tail i H k (omega arith)))))
      ]

  -- as many steps as a look needs, or fewer: few wait
  few_made_for : (t m : ℕ) → 0 < m → m ≤ steps_for limit H t → waiting_at H m t ≤ limit + 1
  few_made_for t m z l = elim (cases_eq m 1) [
    | inl e ↦ (let f = few_one t in let o : first_steps m H ≡ [] = drop_all (length H - (m - 1)) H (omega arith) in rw (some_made H m t z, o) f)
    | inr e ↦ (let a = at_most limit H t in
        let r = last_of_them (m - 2) (omega arith) in
        let n : (m - 2) + 1 ≡ m - 1 = omega arith in
        let o : first_steps m H ≡ r.0 ∷ oldest (m - 2) H = ap (λ (x : ℕ). oldest x H) (sym n) ∙ r.1 in
        let g : IsHistory limit (r.0 ∷ oldest (m - 2) H) = subst (λ (X : List Laid). IsHistory limit X) o (first_history m (omega arith)) in
        let b : length (before limit (oldest (m - 2) H)) ≤ t = elim (cases_lt t (length (before limit (oldest (m - 2) H)))) [
          | inr x ↦ x
          | inl x ↦ (let y = enough limit H t (m - 2) (omega arith) x in absurd (omega arith))
        ] in
        rw (some_made H m t z, o) (queued_few limit r.0 (oldest (m - 2) H) t g b))
  ]

  pub few_wait_on : (n m t : ℕ) → n ≤ m → m ≤ pace limit H t n → waiting_at H n t ≤ limit + 1 → waiting_at H m t ≤ limit + 1
  unfolding pace
  few_wait_on n m t l k f = elim (cases_eq n m) [
    | inl e ↦ subst (λ (x : ℕ). waiting_at H x t ≤ limit + 1) e f
    | inr e ↦ few_made_for t m (omega arith) (omega arith)
  ]

-- OF A SCANNER
-- those that wait have a group, and those that do not are counted
pub done_is : (s : Scanner) → IsRunning s → queued (history s) s.taken (history s) + s.layout.queue.done ≡ s.made
unfolding offline
done_is s r =
    let g = r.holds in
    let a = groups_count s.text.encoding s.layout.queue.early s.layout.queue.early_mark s.layout.queue.groups.items (drop s.taken (offline (history s))) g.queue.tokens in
    let b = queued-count (history s) (history s) s.taken in
    let c = g.queue.count in
    let d = history_length s r in
    let e = r.begun in
    omega arith

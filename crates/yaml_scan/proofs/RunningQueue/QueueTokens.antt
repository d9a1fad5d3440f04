-- The queue in the words of the definitions: which tokens are in it, and which are settled.
use Rattle.std.proofs.Common.{◌≡◌, ℕ, ◌-◌, ◌≤◌, ◌<◌, true, List, ◌∷◌, ◌++◌, length, length-append, length-drop, drop, Option, Some, None, refl, ap, sym, ◌∙◌, subst, arith, eq-eqb, inl, inr}
use Rattle.std.specs.Prelude.{◌≢◌, option_map}
use Rattle.std.proofs.lemmas.Bool.{cases_lt, and_parts, and_from}
use Rattle.std.proofs.lemmas.List.{drop-append-le, take_at, drop_at}
use Rattle.yaml_scan.specs.Groups.{Token, group, block_ends, offline}
use Rattle.yaml_scan.specs.Settled.{waiting, before, up_to, is_current}
use Rattle.yaml_scan.specs.Groups.Token.{OfLexeme}
use Rattle.yaml_scan.specs.Laws.{put_in}
use Rattle.yaml_scan.specs.Laws.{key_tokens}
use Rattle.yaml_scan.specs.Laid.{Laid, reach, names}
use Rattle.yaml_scan.specs.Keys.{candidate, live}
use Rattle.yaml_scan.specs.Depth.{depth}
use Rattle.yaml_scan.specs.Order.{IsHistory}
use Rattle.yaml_scan.proofs.History.KeyCandidates.{candidate_split}
use Rattle.yaml_scan.proofs.History.HistoryOrder.{IsHistory-older}
use Rattle.yaml_scan.proofs.TokenList.NeverRevised.{AllOther, groups-other, other_below, is_live_candidate, number_in, up_to-split, earliest_first}
use Rattle.yaml_scan.proofs.TokenList.SettledStays.{same_laid, named_is, order, Begins-ends, waiting_is, none_in}
use Rattle.yaml_scan.proofs.TokenList.QueueBound.{length-begins}
use Rattle.yaml_scan.proofs.TokenList.GroupInsertion.{IsInsertion, offline-more_some, offline-more_none}

-- what is queued after a step
put_in-drop : (t : ℕ) (front ts rest : List Token) → t ≤ length front → drop t (front ++ (ts ++ rest)) ≡ put_in (length front - t) ts (drop t (front ++ rest))
put_in-drop t front ts rest l =
    let a = drop-append-le t front (ts ++ rest) l in
    let b = drop-append-le t front rest l in
    let n : length (drop t front) ≡ length front - t = length-drop t front in
    rw (a, b) (rw (take_at (drop t front) rest (length front - t) n, drop_at (drop t front) rest (length front - t) n) refl)

pub queue-more_none : (limit : ℕ) (i : Laid) (H : List Laid) (t : ℕ) → IsHistory limit (i ∷ H) → i.completed ≡ None → t ≤ length (offline H)
    → drop t (offline (i ∷ H)) ≡ drop t (offline H) ++ group (i ∷ H) i
queue-more_none limit i H t h e l = rw (offline-more_none limit i H h e) (drop-append-le t (offline H) (group (i ∷ H) i) l)

pub queue-more_some : (limit : ℕ) (i : Laid) (H : List Laid) (c : Laid) (t : ℕ) → IsHistory limit (i ∷ H) → candidate H (depth H) ≡ Some c → i.completed ≡ Some c.number → t ≤ length (up_to H (Some c))
    → drop t (offline (i ∷ H)) ≡ put_in (length (up_to H (Some c)) - t) (key_tokens c) (drop t (offline H)) ++ group (i ∷ H) i
queue-more_some limit i H c t h s e l = go (offline-more_some limit i H c h s e)
  where
    go : IsInsertion i H c → drop t (offline (i ∷ H)) ≡ put_in (length (up_to H (Some c)) - t) (key_tokens c) (drop t (offline H)) ++ group (i ∷ H) i
    go r =
        let f : t ≤ length r.front = rw r.at l in
        let m : t ≤ length (r.front ++ (key_tokens c ++ (OfLexeme c.lexeme ∷ r.rest))) = (let a = length-append r.front (key_tokens c ++ (OfLexeme c.lexeme ∷ r.rest)) in omega arith) in
        rw (r.now, r.was, ← r.at) (drop-append-le t (r.front ++ (key_tokens c ++ (OfLexeme c.lexeme ∷ r.rest))) (group (i ∷ H) i) m
        ∙ ap (λ (x : List Token). x ++ group (i ∷ H) i) (put_in-drop t r.front (key_tokens c) (OfLexeme c.lexeme ∷ r.rest) f))

-- the place of a candidate's token does not move
pub up_to-more : (limit : ℕ) (i : Laid) (H : List Laid) (k : ℕ) (c : Laid) → IsHistory limit (i ∷ H) → candidate H k ≡ Some c → ((n : ℕ) → i.completed ≡ Some n → c.number ≤ n)
    → up_to (i ∷ H) (Some c) ≡ up_to H (Some c)
up_to-more limit i H k c h s o =
    let a = candidate_split H k c s in
    let u = number_in limit H a.newer c a.older a.is h.2 in
    let g : IsHistory limit (a.newer ++ c ∷ a.older) = subst (λ (X : List Laid). IsHistory limit X) a.is h.2 in
    let b : AllOther i a.older = other_below limit i a.older (IsHistory-older limit a.newer (c ∷ a.older) g).2 (λ n f. let q = o n f in omega arith) in
    up_to-split limit (i ∷ H) (i ∷ a.newer) c a.older (ap (λ (X : List Laid). i ∷ X) a.is) h
    ∙ ap (λ (x : List Token). x ++ block_ends c) (groups-other i H a.older b)
    ∙ sym (up_to-split limit H a.newer c a.older a.is h.2)

-- the head is settled exactly if it is not the token of a live candidate
pub up_to-mono : (limit : ℕ) (H A : List Laid) (c : Laid) (B V : List Laid) (v : Laid) (U : List Laid) → IsHistory limit H → H ≡ A ++ c ∷ B → H ≡ V ++ v ∷ U → c.number ≤ v.number
    → length (up_to H (Some c)) ≤ length (up_to H (Some v))
up_to-mono limit H A c B V v U h e f l =
    let a = number_in limit H A c B e h in
    let b = number_in limit H V v U f h in
    let o = order A c B V v U (sym e ∙ f) (omega arith) in
    rw (up_to-split limit H A c B e h, up_to-split limit H V v U f h) (length-begins _ _ (Begins-ends H c B v U o))

before_is : (limit : ℕ) (H : List Laid) (w : Laid) → waiting limit H ≡ Some w → before limit H ≡ up_to H (Some w)
unfolding before
before_is limit H w q = rw q refl

before_is_all : (limit : ℕ) (H : List Laid) → waiting limit H ≡ None → before limit H ≡ offline H
unfolding before up_to
before_is_all limit H q = rw q refl

candidate_is_live : (limit : ℕ) (H : List Laid) (k : ℕ) (c : Laid) → candidate H k ≡ Some c → live limit c (reach H) ≡ true → is_live_candidate limit H c ≡ true
unfolding is_current
candidate_is_live limit H k c s l =
    let a = candidate_split H k c s in
    let q : candidate H c.depth ≡ Some c = ap (λ (n : ℕ). candidate H n) a.saved.depth ∙ s in
    let u : names c.number (option_map (λ c. c.number) (candidate H c.depth)) ≡ true = rw q (eq-eqb _ _ refl) in
    and_from _ _ u l

pub current_candidate : (limit : ℕ) (H A : List Laid) (w : Laid) (B : List Laid) → H ≡ A ++ w ∷ B → IsHistory limit H → is_current H w ≡ true → candidate H w.depth ≡ Some w
unfolding is_current
current_candidate limit H A w B e h t =
    let r = named_is w.number (candidate H w.depth) t in
    let a = candidate_split H w.depth r.0 r.1 in
    let u = number_in limit H A w B e h in
    let v = number_in limit H a.newer r.0 a.older a.is h in
    let x : r.0 ≡ w = (same_laid A w B a.newer r.0 a.older (sym e ∙ a.is) (omega (arith, r.2))).0 in
    r.1 ∙ ap Some x

pub not_settled : (limit : ℕ) (H : List Laid) (k : ℕ) (c : Laid) → IsHistory limit H → candidate H k ≡ Some c → live limit c (reach H) ≡ true → length (before limit H) ≤ length (up_to H (Some c))
not_settled limit H k c h s l = go (waiting limit H) refl
  where
    current : is_live_candidate limit H c ≡ true
    current = candidate_is_live limit H k c s l

    go : (o : Option Laid) → waiting limit H ≡ o → length (before limit H) ≤ length (up_to H (Some c))
    go None q = let a = candidate_split H k c s in absurd (none_in limit H a.newer c a.older q a.is current)
    go (Some w) q =
        let r = waiting_is limit H w q in
        let a = candidate_split H k c s in
        let b = earliest_first (is_live_candidate limit H) r.newer w r.older a.newer c a.older (sym r.is ∙ a.is) r.none_older current in
        let u = number_in limit H a.newer c a.older a.is h in
        let v = number_in limit H r.newer w r.older r.is h in
        rw (before_is limit H w q) (up_to-mono limit H r.newer w r.older a.newer c a.older h r.is a.is (omega arith))

pub settled : (limit : ℕ) (H : List Laid) (t : ℕ) → IsHistory limit H → t ≤ length (before limit H) → t < length (offline H)
    → ((k : ℕ) (c : Laid) → candidate H k ≡ Some c → live limit c (reach H) ≡ true → t ≢ length (up_to H (Some c))) → t < length (before limit H)
settled limit H t h l m k = elim (cases_lt t (length (before limit H))) [
  | inl x ↦ x
  | inr x ↦ absurd (go (waiting limit H) refl (omega arith))
]
  where
    go : (o : Option Laid) → waiting limit H ≡ o → t ≡ length (before limit H) → ⊥
    go None q e = let f = ap (λ (x : List Token). length x) (before_is_all limit H q) in omega arith
    go (Some w) q e =
        let r = waiting_is limit H w q in
        let p = and_parts _ _ r.passes in
        let f = ap (λ (x : List Token). length x) (before_is limit H w q) in
        k w.depth w (current_candidate limit H r.newer w r.older r.is h p.0) p.1 (omega arith)

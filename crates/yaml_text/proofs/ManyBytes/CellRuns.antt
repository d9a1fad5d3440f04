-- Cells that are joined make what was read of UTF-16 grow by the units that they spell.
use Rattle.std.proofs.Common.{◌≡◌, ℕ, zero, suc, ◌+◌, ◌*◌, ◌<◌, ◌≤◌, Bool, true, List, [], ◌∷◌, ◌++◌, length, get_or, take, drop, refl, sym, ap, ap₂, ◌∙◌, subst, append_assoc, add-one, arith}
use Rattle.std.proofs.lemmas.List.{append-nil, get_or-drop, get_or-take, drop-drop, take-take, take-set-le, take-append-le, length-take-le}
use Rattle.std.proofs.Math.Seq.{drop-cons, take-append-add, take-append_seam, drop-append_seam}
use Rattle.std.proofs.Math.ListN.{set}
use lib.Utf8.{encode}
use Rattle.yaml_text.specs.Chars.{is_char}
use Rattle.yaml_text.specs.Utf16.{unit_at}
use Rattle.yaml_text.specs.inside.Cells.{count_of, packed, IsCellOf, Spells}
use Rattle.yaml_text.specs.inside.Units.{Reads16}
use Rattle.yaml_text.proofs.Characters.Utf16Spelling.{AreBytes}
use Rattle.yaml_text.proofs.ManyBytes.UnitRuns.{unit_read, unit_after, written_three}

-- ---- a cell that is copied

three_at : (l : List ℕ) (i : ℕ) → i + 3 ≤ length l → drop i l ≡ (get_or l i 0 ∷ get_or l (i + 1) 0 ∷ get_or l (i + 2) 0 ∷ []) ++ drop (i + 3) l
three_at l i le =
    let e : suc i ≡ i + 1 = omega arith in
    let f : suc (i + 1) ≡ i + 2 = omega arith in
    let g : suc (i + 2) ≡ i + 3 = omega arith in
    drop-cons l i 0 (omega arith) ∙ ap (λ j. get_or l i 0 ∷ drop j l) e
    ∙ ap (λ (t : List ℕ). get_or l i 0 ∷ t) (drop-cons l (i + 1) 0 (omega arith) ∙ ap (λ j. get_or l (i + 1) 0 ∷ drop j l) f)
    ∙ ap (λ (t : List ℕ). get_or l i 0 ∷ get_or l (i + 1) 0 ∷ t) (drop-cons l (i + 2) 0 (omega arith) ∙ ap (λ j. get_or l (i + 2) 0 ∷ drop j l) g)

written_some : (l : List ℕ) (to r a b c n : ℕ) → to + 3 < length l → r ≤ 3
    → take (to + r) (set (set (set (set l to a) (to + 1) b) (to + 2) c) (to + 3) n) ≡ take to l ++ take r (a ∷ b ∷ c ∷ [])
written_some l to r a b c n lt few =
    let three = set (set (set l to a) (to + 1) b) (to + 2) c in
    let size : length (take to l) ≡ to = length-take-le to l (omega arith) in
    take-set-le (to + r) three (to + 3) n (omega arith) ∙ sym (take-take (to + r) (to + 3) three (omega arith))
    ∙ ap (take (to + r)) (written_three l to a b c (omega arith)) ∙ ap (λ k. take (k + r) (take to l ++ (a ∷ b ∷ c ∷ []))) (sym size) ∙ take-append-add (take to l) (a ∷ b ∷ c ∷ []) r

pub copied : (l : List ℕ) (from to r n : ℕ) → to ≤ from → from + 4 ≤ length l → r ≤ 3
    → take (to + r) (set (set (set (set l to (get_or l from 0)) (to + 1) (get_or l (from + 1) 0)) (to + 2) (get_or l (from + 2) 0)) (to + 3) n) ≡ take to l ++ take r (drop from l)
copied l from to r n before room few =
    let three = get_or l from 0 ∷ get_or l (from + 1) 0 ∷ get_or l (from + 2) 0 ∷ [] in
    written_some l to r _ _ _ n (omega arith) few
    ∙ ap (λ (x : List ℕ). take to l ++ x) (sym (ap (take r) (three_at l from (omega arith)) ∙ take-append-le r three (drop (from + 3) l) few))

-- ---- cells that are joined, from a place on

pub count_at : (old items : List ℕ) (start k : ℕ) → drop (start + 4 * k) items ≡ drop (start + 4 * k) old → get_or items (start + 4 * k + 3) 0 ≡ count_of (drop start old) k
count_at old items start k after =
    let m = start + 4 * k in
    let e : m + 3 ≡ start + (4 * k + 3) = omega arith in
    sym (get_or-drop m items 3 0) ∙ ap (λ (l : List ℕ). get_or l 3 0) after ∙ get_or-drop m old 3 0 ∙ ap (λ i. get_or old i 0) e ∙ sym (get_or-drop start old (4 * k + 3) 0)

pub joined_more : (old items new : List ℕ) (start end k r : ℕ) → take end items ≡ take start old ++ packed k (drop start old) → drop (start + 4 * k) items ≡ drop (start + 4 * k) old
    → r ≡ count_of (drop start old) k → take (end + r) new ≡ take end items ++ take r (drop (start + 4 * k) items) → take (end + r) new ≡ take start old ++ packed (k + 1) (drop start old)
joined_more old items new start end k r before after is copied-is =
    let s = drop start old in
    let cell : drop (start + 4 * k) items ≡ drop (4 * k) s = after ∙ sym (drop-drop (4 * k) start old) in
    copied-is ∙ ap₂ (λ (x y : List ℕ). x ++ take r y) before cell ∙ append_assoc (take start old) (packed k s) (take r (drop (4 * k) s))
    ∙ ap (λ i. take start old ++ (packed k s ++ take i (drop (4 * k) s))) is ∙ ap (λ i. take start old ++ packed i s) (sym (add-one k))

pub after_more : (old items new : List ℕ) (start k : ℕ) → drop (start + 4 * k) items ≡ drop (start + 4 * k) old → drop (start + 4 * k + 4) new ≡ drop (start + 4 * k + 4) items
    → drop (start + 4 * (k + 1)) new ≡ drop (start + 4 * (k + 1)) old
after_more old items new start k after same =
    let m = start + 4 * k in
    let e : start + 4 * (k + 1) ≡ m + 4 = omega arith in
    ap (λ i. drop i new) e ∙ same ∙ sym (drop-drop 4 m items) ∙ ap (drop 4) after ∙ drop-drop 4 m old ∙ ap (λ i. drop i old) (sym e)

-- ---- what was read, with the units that cells spell

pub packed_read : (big : Bool) (bytes text cells : List ℕ) (at n : ℕ) → AreBytes bytes → Reads16 big bytes text at → at + 32 ≤ length bytes → n ≤ 16
    → ((k : ℕ) → k < n → is_char (unit_at big bytes (at + 2 * k)) ≡ true) → ((k : ℕ) → k < 16 → IsCellOf (unit_at big (drop at bytes) (2 * k)) cells k)
    → Reads16 big bytes (text ++ packed n cells) (at + 2 * n)
packed_read big bytes text cells at zero fits r room most chars spelled =
    let e : at + 2 * 0 ≡ at = omega arith in
    rw (append-nil text, e) r
packed_read big bytes text cells at (suc n) fits r room most chars spelled =
    let before = packed_read big bytes text cells at n fits r room (omega arith) (λ k lt. chars k (omega arith)) spelled in
    let place = at + 2 * n in
    let u = unit_at big bytes place in
    let cell = spelled n (omega arith) in
    let last = take (count_of cells n) (drop (4 * n) cells) in
    let is : last ≡ encode u = cell.bytes ∙ ap encode (unit_after big bytes at (2 * n)) in
    let more = unit_read big bytes (text ++ packed n cells) place u fits before (omega arith) refl (chars n (omega arith)) in
    let text-is : (text ++ packed n cells) ++ encode u ≡ text ++ packed (suc n) cells =
    ap (λ (x : List ℕ). (text ++ packed n cells) ++ x) (sym is) ∙ append_assoc text (packed n cells) last in
    let place-is : place + 2 ≡ at + 2 * suc n = omega arith in
    subst (λ (x : List ℕ). Reads16 big bytes x (at + 2 * suc n)) text-is (subst (λ p. Reads16 big bytes ((text ++ packed n cells) ++ encode u) p) place-is more)

-- ---- a cell that spells a unit

pub cell_of : (u a b c n : ℕ) (cells : List ℕ) (k : ℕ) → Spells u a b c n → take 4 (drop (4 * k) cells) ≡ a ∷ b ∷ c ∷ n ∷ [] → IsCellOf u cells k
cell_of u a b c n cells k s is =
    let here = drop (4 * k) cells in
    let last : count_of cells k ≡ n = sym (get_or-drop (4 * k) cells 3 0) ∙ sym (get_or-take 4 here 3 0 (omega arith)) ∙ ap (λ (l : List ℕ). get_or l 3 0) is in
    let some : count_of cells k ≤ 3 = omega (arith, last, s.few) in
    record {
      few = some;
      bytes = sym (take-take (count_of cells k) 4 here (omega arith)) ∙ ap₂ (λ i (l : List ℕ). take i l) last is ∙ take-append-le n (a ∷ b ∷ c ∷ []) (n ∷ []) s.few ∙ s.bytes;
    }

-- ---- a Vec that cells were joined in

pub kept : (L end : ℕ) (items z : List ℕ) → L ≡ length items → take end (take L (items ++ z)) ≡ take end items
kept L end items z is = ap (λ k. take end (take k (items ++ z))) is ∙ ap (take end) (take-append_seam items z)

pub joined_on : (text cells items : List ℕ) (before end : ℕ) → before ≡ length text → take end items ≡ take before (text ++ cells) ++ packed 16 (drop before (text ++ cells)) → take end items ≡ text ++ packed 16 cells
joined_on text cells items before end is joined =
    let front : take before (text ++ cells) ≡ text = ap (λ k. take k (text ++ cells)) is ∙ take-append_seam text cells in
    let rest : drop before (text ++ cells) ≡ cells = ap (λ k. drop k (text ++ cells)) is ∙ drop-append_seam text cells in
    joined ∙ ap₂ (λ (x y : List ℕ). x ++ packed 16 y) front rest

-- Closing levels: a stack whose top stays keeps all, and its last level is the greatest.
use Rattle.std.proofs.lemmas.Bool.{and_parts, and_from, leb-true, cases_Bool}
use Rattle.yaml_scan.specs.Kind.{Kind, closes_all, is_stream_end}
use Rattle.yaml_text.specs.declared.types.yaml_mark_t.{yaml_mark_t}
use Rattle.std.proofs.Common.{◌≡◌, ℕ, Bool, true, false, ◌≤◌, ◌-◌, not, length, length-append, slice_get, Option, Some, sym}
use Rattle.std.proofs.Common.{◌∙◌, subst, List, [], ◌∷◌, ◌++◌, reverse, filter, leb, le-leb, refl, ap, arith, ◌+◌, map}
use Rattle.std.proofs.Common.{le-ltb, ltb-false, None, inl, inr, take, ◌<◌, MatchOption}
use Rattle.std.specs.Option.{is_some}
use Rattle.std.proofs.lemmas.List.{reverse-append, reverse-reverse}
use Rattle.yaml_scan.specs.Levels.{stays, greatest_level}
use Rattle.yaml_scan.specs.Falling.{IsFalling, AllLess}
use Rattle.yaml_scan.proofs.History.LevelsFall.{level_first}
use Rattle.yaml_scan.specs.inside.Queue.{closing, ends_at}
use Rattle.yaml_scan.specs.Groups.{Token, end_at}
use Rattle.yaml_scan.specs.Groups.Token.{BlockEnd}
use Rattle.std.specs.Prelude.{◌&&◌, nat_lt, if◌then◌else◌}

stays_less : (f : Bool) (k : Kind) (m : yaml_mark_t) (c d : ℕ) → d ≤ c → stays f k m c ≡ true → stays f k m d ≡ true
stays_less true k m c d l e = refl
stays_less false k m c d l e =
    let p = and_parts (not (closes_all k)) (leb c m.column) e in
    let q : c ≤ m.column = leb-true _ _ p.1 in
    and_from _ _ p.0 (le-leb d m.column (omega arith))

module _ (f : Bool) (k : Kind) (m : yaml_mark_t) where
  kept : (c : ℕ) (cs : List ℕ) → AllLess c cs → stays f k m c ≡ true → filter (stays f k m) cs ≡ cs
  kept c [] a l = refl
  kept c (x ∷ cs) a l = rw (stays_less f k m c x (omega (arith, a.0)) l) (ap (λ (y : List ℕ). x ∷ y) (kept c cs a.1 l))

  gone : (c : ℕ) (cs : List ℕ) → AllLess c cs → stays f k m c ≡ true → filter (λ l. not (stays f k m l)) cs ≡ []
  gone c [] a l = refl
  gone c (x ∷ cs) a l = rw (stays_less f k m c x (omega (arith, a.0)) l) (gone c cs a.1 l)

  top_stays : (c : ℕ) (cs : List ℕ) → closing f k m (c ∷ cs) ≡ None → stays f k m c ≡ true
  top_stays c cs e = elim (cases_Bool (stays f k m c)) [ inl s ↦ s | inr s ↦ (let g : Some c ≡ None = rw s at e in absurd (cc)) ]

  pub all_kept : (cs : List ℕ) → IsFalling cs → closing f k m cs ≡ None → filter (stays f k m) cs ≡ cs
  all_kept [] g e = refl
  all_kept (c ∷ cs) g e = let l = top_stays c cs e in rw l (ap (λ (y : List ℕ). c ∷ y) (kept c cs g.0 l))

  pub none_closed : (cs : List ℕ) → IsFalling cs → closing f k m cs ≡ None → filter (λ l. not (stays f k m l)) cs ≡ []
  none_closed [] g e = refl
  none_closed (c ∷ cs) g e = let l = top_stays c cs e in rw l (gone c cs g.0 l)

-- what starts no further left closes none either, unless it closes all
pub closing_on : (f : Bool) (k j : Kind) (m n : yaml_mark_t) (cs : List ℕ) → closing f k m cs ≡ None → m.column ≤ n.column → closes_all j ≡ false → closing f j n cs ≡ None
closing_on f k j m n [] e l q = refl
closing_on true k j m n (c ∷ cs) e l q = refl
closing_on false k j m n (c ∷ cs) e l q =
    let p = and_parts (not (closes_all k)) (leb c m.column) (top_stays false k m c cs e) in
    let t : c ≤ m.column = leb-true _ _ p.1 in
    rw (q, le-leb c n.column (omega arith)) refl

-- THE ENDS
-- those of the columns above the end of the gap come first
module _ (k : Kind) (gap_end start : yaml_mark_t) where
  abbrev pub ends_early : ℕ → Bool
  ends_early c = is_stream_end k && nat_lt gap_end.column c

  no_more : (c : ℕ) (cs : List ℕ) → AllLess c cs → ends_early c ≡ false → filter ends_early cs ≡ []
  no_more c [] a e = refl
  no_more c (d ∷ cs) a e = let f : ends_early d ≡ false = less (is_stream_end k) e in rw f (no_more c cs a.1 e)
    where
      less : (b : Bool) → (b && nat_lt gap_end.column c) ≡ false → (b && nat_lt gap_end.column d) ≡ false
      less false e = refl
      less true e = let l = a.0 in let m = ltb-false gap_end.column c e in le-ltb gap_end.column d (omega arith)

  one_start : (c : ℕ) → ends_early c ≡ false → end_at k gap_end start c ≡ start
  one_start c e = rw e refl

  all_late : (cs : List ℕ) → filter ends_early cs ≡ [] → map (λ c. BlockEnd (end_at k gap_end start c)) cs ≡ ends_at (length (filter (λ c. not (ends_early c)) cs)) start
  all_late [] e = refl
  all_late (c ∷ cs) e = elim (cases_Bool (ends_early c)) [
    | inl q ↦ (let f : c ∷ filter ends_early cs ≡ [] = rw q at e in absurd (let n = ap (λ (l : List ℕ). length l) f in omega arith))
    | inr q ↦ (let f : filter ends_early cs ≡ [] = rw q at e in rw (one_start c q, q) (ap (λ (l : List Token). BlockEnd start ∷ l) (all_late cs f)))
  ]

  pub ends_split : (cs : List ℕ) → IsFalling cs → ends_at (length (filter ends_early cs)) gap_end ++ ends_at (length (filter (λ c. not (ends_early c)) cs)) start ≡ map (λ c. BlockEnd (end_at k gap_end start c)) cs
  ends_split [] g = refl
  ends_split (c ∷ cs) g = elim (cases_Bool (ends_early c)) [
    | inl q ↦ rw q (ap (λ (l : List Token). BlockEnd gap_end ∷ l) (ends_split cs g.1))
    | inr q ↦ (let n = no_more c cs g.0 q in rw (q, n) (ap (λ (l : List Token). BlockEnd start ∷ l) (sym (all_late cs n))))
  ]

  pub none_early : (cs : List ℕ) → is_stream_end k ≡ false → length (filter ends_early cs) ≡ 0
  none_early [] e = refl
  none_early (c ∷ cs) e = let f : ends_early c ≡ false = rw e refl in rw f (none_early cs e)

falling_some : (t : ℕ → Bool) (n : ℕ) (cs : List ℕ) → AllLess n cs → AllLess n (filter t cs)
falling_some t n [] a = tt
falling_some t n (c ∷ cs) a = elim (cases_Bool (t c)) [ inl q ↦ rw q (a.0, falling_some t n cs a.1) | inr q ↦ rw q (falling_some t n cs a.1) ]

pub filter_falls : (t : ℕ → Bool) (cs : List ℕ) → IsFalling cs → IsFalling (filter t cs)
filter_falls t [] g = tt
filter_falls t (c ∷ cs) g = elim (cases_Bool (t c)) [ inl q ↦ rw q (falling_some t c cs g.0, filter_falls t cs g.1) | inr q ↦ rw q (filter_falls t cs g.1) ]

-- one column more is closed
pub one_closed : (f : Bool) (k : Kind) (m : yaml_mark_t) (u : ℕ → Bool) (c : ℕ) (cs : List ℕ) → closing f k m (c ∷ cs) ≡ Some c → length (filter u (filter (λ l. not (stays f k m l)) (c ∷ cs))) ≡ (if u c then 1 else 0) + length (filter u (filter (λ l. not (stays f k m l)) cs))
one_closed f k m u c cs e = elim (cases_Bool (stays f k m c)) [
  | inl s ↦ (let g : None ≡ Some c = rw s at e in absurd (cc))
  | inr s ↦ rw s (elim (cases_Bool (u c)) [ inl q ↦ rw q (omega arith) | inr q ↦ rw q (omega arith) ])
]

pub kept_without : (f : Bool) (k : Kind) (m : yaml_mark_t) (c : ℕ) (cs : List ℕ) → closing f k m (c ∷ cs) ≡ Some c → filter (stays f k m) (c ∷ cs) ≡ filter (stays f k m) cs
kept_without f k m c cs e = elim (cases_Bool (stays f k m c)) [
  | inl s ↦ (let g : None ≡ Some c = rw s at e in absurd (cc))
  | inr s ↦ rw s refl
]

-- THE LAST LEVEL
get_last : (a : List ℕ) (y : ℕ) → slice_get (a ++ y ∷ []) (length a) ≡ Some y
get_last [] y = refl
get_last (x ∷ a) y = get_last a y

-- the level is the last of the stack
pub last_level : (xs : List ℕ) → IsFalling (reverse xs) → slice_get xs (length xs - 1) ≡ greatest_level (reverse xs)
last_level xs f = go (reverse xs) refl
  where
    go : (ys : List ℕ) → reverse xs ≡ ys → slice_get xs (length xs - 1) ≡ greatest_level (reverse xs)
    go [] q = (let z : xs ≡ [] = sym (reverse-reverse xs) ∙ ap (λ (l : List ℕ). reverse l) q in rw z refl)
    go (y ∷ zs) q =
        let z : xs ≡ reverse zs ++ y ∷ [] = sym (reverse-reverse xs) ∙ ap (λ (l : List ℕ). reverse l) q ∙ reverse-append (y ∷ []) zs in
        let l = ap (λ (l : List ℕ). length l) z in
        let a = length-append (reverse zs) (y ∷ []) in
        let n : length xs - 1 ≡ length (reverse zs) = omega arith in
        let w : slice_get xs (length xs - 1) ≡ Some y = subst (λ (k : ℕ). slice_get xs k ≡ Some y) (sym n) (subst (λ (l : List ℕ). slice_get l (length (reverse zs)) ≡ Some y) (sym z) (get_last (reverse zs) y)) in
        let g : IsFalling (y ∷ zs) = subst (λ (l : List ℕ). IsFalling l) q f in
        w ∙ sym (rw q (level_first y zs g))

-- without the top
all_but_last : (a : List ℕ) (y : ℕ) → take (length a) (a ++ y ∷ []) ≡ a
all_but_last [] y = refl
all_but_last (x ∷ a) y = ap (λ (l : List ℕ). x ∷ l) (all_but_last a y)

pub without_top : (xs : List ℕ) (y : ℕ) (ys : List ℕ) → reverse xs ≡ y ∷ ys → reverse (take (length xs - 1) xs) ≡ ys
without_top xs y ys q =
    let z : xs ≡ reverse ys ++ y ∷ [] = sym (reverse-reverse xs) ∙ ap (λ (l : List ℕ). reverse l) q ∙ reverse-append (y ∷ []) ys in
    let l = ap (λ (l : List ℕ). length l) z in
    let a = length-append (reverse ys) (y ∷ []) in
    let n : length xs - 1 ≡ length (reverse ys) = omega arith in
    let w : take (length xs - 1) xs ≡ reverse ys = ap (λ (k : ℕ). take k xs) n ∙ ap (λ (l : List ℕ). take (length (reverse ys)) l) z ∙ all_but_last (reverse ys) y in
    ap (λ (l : List ℕ). reverse l) w ∙ reverse-reverse ys

-- where the top is closed, what is kept is in the rest
pub record Shorter (f : Bool) (k : Kind) (m : yaml_mark_t) (xs ys : List ℕ) : Type 0 where
  pub falls : IsFalling (reverse ys)
  pub same : filter (stays f k m) (reverse ys) ≡ filter (stays f k m) (reverse xs)

pub closed_top : (f : Bool) (k : Kind) (m : yaml_mark_t) (xs : List ℕ) → IsFalling (reverse xs) → is_some (closing f k m (reverse xs)) ≡ true → Shorter f k m xs (take (length xs - 1) xs)
closed_top f k m xs g e = go (reverse xs) refl
  where
    closes : (c : ℕ) (cs : List ℕ) → is_some (closing f k m (c ∷ cs)) ≡ true → closing f k m (c ∷ cs) ≡ Some c
    closes c cs q = elim (cases_Bool (stays f k m c)) [
      | inl s ↦ (let v : false ≡ true = rw s at q in absurd (cc))
      | inr s ↦ rw s refl
    ]

    go : (ys : List ℕ) → reverse xs ≡ ys → Shorter f k m xs (take (length xs - 1) xs)
    go [] q = (let v : is_some (closing f k m []) ≡ true = rw q at e in absurd (cc))
    go (c ∷ cs) q =
        let w = without_top xs c cs q in
        let h : IsFalling (c ∷ cs) = rw q at g in
        let s = closes c cs (rw q at e) in
        record { falls = subst (λ (l : List ℕ). IsFalling l) (sym w) h.1; same = ap (λ (l : List ℕ). filter (stays f k m) l) w ∙ sym (kept_without f k m c cs s) ∙ ap (λ (l : List ℕ). filter (stays f k m) l) (sym q) }

-- where the top is closed, it is counted with the rest
pub counted_top : (f : Bool) (k : Kind) (m : yaml_mark_t) (u : ℕ → Bool) (c : ℕ) (xs : List ℕ) → closing f k m (reverse xs) ≡ Some c → length (filter u (filter (λ l. not (stays f k m l)) (reverse xs))) ≡ (if u c then 1 else 0) + length (filter u (filter (λ l. not (stays f k m l)) (reverse (take (length xs - 1) xs))))
counted_top f k m u c xs e = go (reverse xs) refl
  where
    top_is : (d : ℕ) (ds : List ℕ) → closing f k m (d ∷ ds) ≡ Some c → d ≡ c
    top_is d ds q = elim (cases_Bool (stays f k m d)) [
      | inl s ↦ (let g : None ≡ Some c = rw s at q in absurd (cc))
      | inr s ↦ (let g : Some d ≡ Some c = rw s at q in cc)
    ]

    go : (ys : List ℕ) → reverse xs ≡ ys → length (filter u (filter (λ l. not (stays f k m l)) (reverse xs))) ≡ (if u c then 1 else 0) + length (filter u (filter (λ l. not (stays f k m l)) (reverse (take (length xs - 1) xs))))
    go [] q = (let v : closing f k m [] ≡ Some c = rw q at e in absurd (cc))
    go (d ∷ ds) q =
        let h : closing f k m (d ∷ ds) ≡ Some c = rw q at e in
        let t = top_is d ds h in
        let h2 : closing f k m (d ∷ ds) ≡ Some d = h ∙ ap (λ (x : ℕ). Some x) (sym t) in
        ap (λ (l : List ℕ). length (filter u (filter (λ z. not (stays f k m z)) l))) q ∙ one_closed f k m u d ds h2
        ∙ ap (λ (x : ℕ). (if u x then 1 else 0) + length (filter u (filter (λ z. not (stays f k m z)) ds))) t
        ∙ ap (λ (l : List ℕ). (if u c then 1 else 0) + length (filter u (filter (λ z. not (stays f k m z)) l))) (sym (without_top xs d ds q))

-- a stack whose top is closed is not empty, so one level is taken from it
pub closes_one : (f : Bool) (k : Kind) (m : yaml_mark_t) (c : ℕ) (xs : List ℕ) → closing f k m (reverse xs) ≡ Some c → 0 < length xs
closes_one f k m c [] e = (let v : None ≡ Some c = e in absurd (cc))
closes_one f k m c (x ∷ xs) e = omega arith

pub one_popped : (o : Option ℕ) (a b : ℕ) → MatchOption o ((a ≡ 0) × (b ≡ 0)) (λ _. b + 1 ≡ a) → 0 < a → b + 1 ≡ a
one_popped None a b q l = (let e = q.0 in absurd (omega arith))
one_popped (Some x) a b q l = q

pub none_is : (o : Option ℕ) → is_some o ≡ false → o ≡ None
none_is None e = refl
none_is (Some n) e = cc

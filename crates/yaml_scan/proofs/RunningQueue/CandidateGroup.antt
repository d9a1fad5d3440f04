-- Where in the queue the group of a candidate is.
use Rattle.std.proofs.Common.{◌≡◌, ℕ, zero, suc, ◌+◌, ◌-◌, ◌≤◌, ◌<◌, not, ◌&&◌, Bool, true, false, List, [], ◌∷◌, ◌++◌, map, filter, take, drop, take-append-drop, length, length-append, length-drop, Some, refl, ap, sym, ◌∙◌, subst, arith, inl, inr, eqb, eq-eqb, ne_eqb, append_assoc, append-nil}
use Rattle.std.specs.Prelude.{if◌then◌else◌}
use Rattle.std.proofs.lemmas.Bool.{cases_Bool, cases_eq, cases_lt, false≢true}
use Rattle.std.proofs.lemmas.List.{drop-append-le, drop_all, take-append-le}
use Rattle.std.proofs.lemmas.List.Elements.{filter-append}
use Rattle.yaml_text.specs.declared.types.yaml_encoding_t.{yaml_encoding_t}
use Rattle.yaml_text.specs.declared.types.yaml_mark_t.{yaml_mark_t}
use Rattle.yaml_scan.specs.declared.groups.block_t.{block_t}
use Rattle.yaml_scan.specs.declared.groups.block_t.TheVariants.{NONE, SEQUENCE, MAPPING}
use Rattle.yaml_scan.specs.declared.groups.group_t.{group_t}
use Rattle.yaml_scan.specs.Laid.{Laid, Lexeme}
use Rattle.yaml_scan.specs.Keys.{candidate}
use Rattle.yaml_scan.specs.Levels.{opens, is_completed}
use Rattle.yaml_scan.specs.Laws.{is_of_lexeme, is_block_end}
use Rattle.yaml_scan.specs.Order.{IsHistory}
use Rattle.yaml_scan.specs.Groups.{Token, end_mark, group, groups, inserted, block_ends, block_start, offline}
use Rattle.yaml_scan.specs.Groups.{handed_out}
use Rattle.yaml_scan.specs.Settled.{up_to}
use Rattle.yaml_scan.specs.Groups.Token.{StreamStart, BlockEnd, BlockSequenceStart, BlockMappingStart, InsertedKey, OfLexeme}
use Rattle.yaml_scan.specs.inside.Queue.{IsQueue, ends_at, starts_at, leads, early_before, pending, begins_with_end}
use Rattle.yaml_scan.specs.inside.Queue.{keyed, keyed_at}
use Rattle.yaml_scan.proofs.History.KeyCandidates.{IsCandidateOf, candidate_split}
use Rattle.yaml_scan.proofs.TokenList.GroupInsertion.{groups_from, groups_was, candidate_not_completed}
use Rattle.yaml_scan.proofs.TokenList.NeverRevised.{number_in, up_to-split}

-- how many tokens of a list are those of lexemes
abbrev pub count : List Token → ℕ
count xs = length (filter is_of_lexeme xs)

pub count-append : (a b : List Token) → count (a ++ b) ≡ count a + count b
count-append a b = ap (λ (l : List Token). length l) (filter-append is_of_lexeme a b) ∙ length-append (filter is_of_lexeme a) (filter is_of_lexeme b)

-- no token of these is that of a lexeme
abbrev pub AreMade : List Token → Type 0
AreMade [] = Unit {0}
AreMade (x ∷ xs) = (is_of_lexeme x ≡ false) × AreMade xs

-- these are block ends
abbrev pub AreEnds : List Token → Type 0
AreEnds [] = Unit {0}
AreEnds (x ∷ xs) = (is_block_end x ≡ true) × AreEnds xs

-- a list ends with the token of a lexeme, or is empty
abbrev pub IsWhole : List Token → Type 0
IsWhole [] = Unit {0}
IsWhole (x ∷ []) = is_of_lexeme x ≡ true
IsWhole (x ∷ (y ∷ xs)) = IsWhole (y ∷ xs)

made-append : (a b : List Token) → AreMade a → AreMade b → AreMade (a ++ b)
made-append [] b p q = q
made-append (x ∷ a) b p q = (p.0, made-append a b p.1 q)

made_none : (a : List Token) → AreMade a → count a ≡ 0
made_none [] p = refl
made_none (x ∷ a) p = rw p.0 (made_none a p.1)

end_made : (x : Token) → is_block_end x ≡ true → is_of_lexeme x ≡ false
end_made StreamStart e = absurd (false≢true e)
end_made (BlockEnd m) e = refl
end_made (BlockSequenceStart m) e = absurd (false≢true e)
end_made (BlockMappingStart m) e = absurd (false≢true e)
end_made (InsertedKey m) e = absurd (false≢true e)
end_made (OfLexeme x) e = absurd (false≢true e)

ends_made : (a : List Token) → AreEnds a → AreMade a
ends_made [] p = tt
ends_made (x ∷ a) p = (end_made x p.0, ends_made a p.1)

ends_at_made : (n : ℕ) (m : yaml_mark_t) → AreMade (ends_at n m)
ends_at_made zero m = tt
ends_at_made (suc n) m = (refl, ends_at_made n m)

pub leads_made : (y : group_t) → AreMade (leads y)
leads_made y = made-append (ends_at y.ends y.token.start_mark) _ (ends_at_made y.ends y.token.start_mark) (go y.opens y.key)
  where
    go : (o : block_t) (k : Bool) → AreMade (starts_at o y.token.start_mark ++ (if k then InsertedKey y.token.start_mark ∷ [] else []))
    go NONE true = (refl, tt)
    go NONE false = tt
    go SEQUENCE true = (refl, (refl, tt))
    go SEQUENCE false = (refl, tt)
    go MAPPING true = (refl, (refl, tt))
    go MAPPING false = (refl, tt)

early_made : (n : ℕ) (m : yaml_mark_t) (ys : List group_t) → AreMade (early_before n m ys)
early_made n m [] = ends_at_made n m
early_made n m (y ∷ ys) = tt

pub pending_made : (n : ℕ) (m : yaml_mark_t) (ys : List group_t) → AreMade (pending n m ys)
pending_made n m [] = tt
pending_made n m (y ∷ ys) = made-append (early_before n m ys) (leads y) (early_made n m ys) (leads_made y)

-- AS MANY GROUPS AS TOKENS OF LEXEMES
pub groups_count : (e : yaml_encoding_t) (n : ℕ) (m : yaml_mark_t) (ys : List group_t) (xs : List Token) → IsQueue e n m ys xs → length ys ≡ count xs
groups_count e n m [] xs i = rw i refl
groups_count e n m (y ∷ ys) xs i =
    let a = count-append (pending n m (y ∷ ys)) (i.0 ∷ i.1) in
    let b = made_none (pending n m (y ∷ ys)) (pending_made n m (y ∷ ys)) in
    let c : count (i.0 ∷ i.1) ≡ suc (count i.1) = rw i.4 refl in
    let d = groups_count e n m ys i.1 i.5 in
    let f = ap count i.2 in
    omega arith

-- WHOLE LISTS
whole_tail : (x : Token) (xs : List Token) → IsWhole (x ∷ xs) → IsWhole xs
whole_tail x [] w = tt
whole_tail x (y ∷ xs) w = w

pub whole-drop : (n : ℕ) (xs : List Token) → IsWhole xs → IsWhole (drop n xs)
whole-drop zero xs w = w
whole-drop (suc n) [] w = tt
whole-drop (suc n) (x ∷ xs) w = whole-drop n xs (whole_tail x xs w)

whole-append : (a : List Token) (x : Token) → is_of_lexeme x ≡ true → IsWhole (a ++ x ∷ [])
whole-append [] x l = l
whole-append (y ∷ []) x l = l
whole-append (y ∷ (z ∷ a)) x l = whole-append (z ∷ a) x l

-- without a token of a lexeme it is empty
whole_none : (a : List Token) → IsWhole a → count a ≡ 0 → a ≡ []
whole_none [] w c = refl
whole_none (x ∷ []) w c = let d : count (x ∷ []) ≡ 1 = rw w refl in absurd (omega (arith, c))
whole_none (x ∷ (y ∷ a)) w c = elim (cases_Bool (is_of_lexeme x)) [
  | inl l ↦ (let d : count (x ∷ (y ∷ a)) ≡ suc (count (y ∷ a)) = rw l refl in absurd (omega (arith, c)))
  | inr l ↦ (let d : count (x ∷ (y ∷ a)) ≡ count (y ∷ a) = rw l refl in let e : y ∷ a ≡ [] = whole_none (y ∷ a) w (sym d ∙ c) in absurd (let n = ap (λ (z : List Token). length z) e in omega arith))
]

pub groups_whole : (W B : List Laid) → IsWhole (groups W B)
unfolding groups group
groups_whole W [] = refl
groups_whole W (i ∷ B) = subst (λ (l : List Token). IsWhole l) (assoc (groups W B) (block_ends i) (inserted W i) (OfLexeme i.lexeme ∷ [])) (whole-append (groups W B ++ (block_ends i ++ inserted W i)) (OfLexeme i.lexeme) refl)
  where
    assoc : (a b c d : List Token) → (a ++ (b ++ c)) ++ d ≡ a ++ (b ++ (c ++ d))
    assoc a b c d = append_assoc a (b ++ c) d ∙ ap (λ (l : List Token). a ++ l) (append_assoc b c d)

ends_map : (f : ℕ → yaml_mark_t) (cs : List ℕ) → AreEnds (map (λ c. BlockEnd (f c)) cs)
ends_map f [] = tt
ends_map f (c ∷ cs) = (refl, ends_map f cs)

pub block_ends_are : (i : Laid) → AreEnds (block_ends i)
unfolding block_ends
block_ends_are i = ends_map (λ c. end_mark i.lexeme c) i.closed

ends-drop : (n : ℕ) (xs : List Token) → AreEnds xs → AreEnds (drop n xs)
ends-drop zero xs p = p
ends-drop (suc n) [] p = tt
ends-drop (suc n) (x ∷ xs) p = ends-drop n xs p.1

inserted_made : (W : List Laid) (i : Laid) → AreMade (inserted W i)
unfolding inserted
inserted_made W i = go (opens W i) (is_completed W i)
  where
    start_made : (b : Bool) → is_of_lexeme (if b then BlockSequenceStart i.lexeme.start else BlockMappingStart i.lexeme.start) ≡ false
    start_made true = refl
    start_made false = refl

    go : (a b : Bool) → AreMade ((if a then block_start i ∷ [] else []) ++ (if b then InsertedKey i.lexeme.start ∷ [] else []))
    go true true = (start_made _, (refl, tt))
    go true false = (start_made _, tt)
    go false true = (refl, tt)
    go false false = tt

pub count_groups : (W B : List Laid) → count (groups W B) ≡ length B + 1
unfolding groups group
count_groups W [] = refl
count_groups W (i ∷ B) =
    let r = count_groups W B in
    let a = count-append (groups W B) (block_ends i ++ (inserted W i ++ (OfLexeme i.lexeme ∷ []))) in
    let b = count-append (block_ends i) (inserted W i ++ (OfLexeme i.lexeme ∷ [])) in
    let c = count-append (inserted W i) (OfLexeme i.lexeme ∷ []) in
    let d = made_none (block_ends i) (ends_made (block_ends i) (block_ends_are i)) in
    let e = made_none (inserted W i) (inserted_made W i) in
    omega arith

-- so the list does not end before the token of a lexeme
pub drop_count : (xs : List Token) (t : ℕ) → IsWhole xs → t < length xs → 0 < count (drop t xs)
drop_count xs t w l = elim (cases_lt 0 (count (drop t xs))) [
  | inl m ↦ m
  | inr m ↦ (let e = ap (λ (z : List Token). length z) (whole_none (drop t xs) (whole-drop t xs w) (omega arith)) in let d = length-drop t xs in absurd (omega arith))
]

pub offline_whole : (H : List Laid) → IsWhole (offline H)
unfolding offline
offline_whole H = groups_whole H H

-- WHERE A CANDIDATE STANDS
-- after t tokens of the list: whole groups, block ends of its own, and its token
pub record Stands (H : List Laid) (t : ℕ) (c : Laid) (front rest : List Token) : Type 0 where
  pub whole : List Token
  pub ends : List Token
  pub front_is : drop t front ≡ whole ++ ends
  pub is_whole : IsWhole whole
  pub are_ends : AreEnds ends
  pub place : count whole + count (take t (offline H)) ≡ c.number + 1
  pub far : length whole + length ends + t ≡ length front

drop-both : (n : ℕ) (a b : List Token) → drop n (a ++ b) ≡ drop n a ++ drop (n - length a) b
drop-both zero [] b = refl
drop-both (suc n) [] b = let e : suc n - 0 ≡ suc n = omega arith in rw e refl
drop-both zero (x ∷ a) b = let e : 0 - suc (length a) ≡ 0 = omega arith in rw e refl
drop-both (suc n) (x ∷ a) b = let e : suc n - suc (length a) ≡ n - length a = omega arith in rw e (drop-both n a b)

pub stands : (limit : ℕ) (H : List Laid) (k : ℕ) (c : Laid) (t : ℕ) (front rest : List Token) → IsHistory limit H → candidate H k ≡ Some c → front ≡ up_to H (Some c) → offline H ≡ front ++ (OfLexeme c.lexeme ∷ rest) → t ≤ length front → Stands H t c front rest
stands limit H k c t front rest h s f o l = record {
  whole = drop t (groups H a.older);
  ends = drop (t - length (groups H a.older)) (block_ends c);
  front_is = parts;
  is_whole = whole-drop t (groups H a.older) (groups_whole H a.older);
  are_ends = ends-drop _ (block_ends c) (block_ends_are c);
  place = placed;
  far = (let x = ap (λ (l : List Token). length l) parts in let y = length-append (drop t (groups H a.older)) (drop (t - length (groups H a.older)) (block_ends c)) in let z = length-drop t front in omega arith);
}
  where
    a : IsCandidateOf H k c
    a = candidate_split H k c s

    front_is : front ≡ groups H a.older ++ block_ends c
    front_is = f ∙ up_to-split limit H a.newer c a.older a.is h

    parts : drop t front ≡ drop t (groups H a.older) ++ drop (t - length (groups H a.older)) (block_ends c)
    parts = ap (λ (l : List Token). drop t l) front_is ∙ drop-both t (groups H a.older) (block_ends c)

    number : c.number ≡ length a.older
    number = number_in limit H a.newer c a.older a.is h

    placed : count (drop t (groups H a.older)) + count (take t (offline H)) ≡ c.number + 1
    placed =
        let u : take t (offline H) ≡ take t front = ap (λ (l : List Token). take t l) o ∙ take-append-le t front (OfLexeme c.lexeme ∷ rest) l in
        let v = ap count u in
        let w = ap count (take-append-drop t front) in
        let x = count-append (take t front) (drop t front) in
        let y = ap count parts in
        let z = count-append (drop t (groups H a.older)) (drop (t - length (groups H a.older)) (block_ends c)) in
        let p = made_none _ (ends_made _ (ends-drop (t - length (groups H a.older)) (block_ends c) (block_ends_are c))) in
        let q = ap count front_is in
        let r = count-append (groups H a.older) (block_ends c) in
        let g = count_groups H a.older in
        let e = made_none _ (ends_made _ (block_ends_are c)) in
        let n = number in
        omega arith

-- THE GROUP OF A CANDIDATE
-- what is made before the first token of a lexeme
same_made : (a b : List Token) (x y : Token) (r s : List Token) → AreMade a → AreMade b → is_of_lexeme x ≡ true → is_of_lexeme y ≡ true → a ++ x ∷ r ≡ b ++ y ∷ s → (a ≡ b) × ((x ≡ y) × (r ≡ s))
same_made [] [] x y r s p q l m e = (refl, (cc, cc))
same_made [] (b ∷ bs) x y r s p q l m e = absurd (let z : x ≡ b = cc in false≢true (sym q.0 ∙ ap is_of_lexeme (sym z) ∙ l))
same_made (a ∷ cs) [] x y r s p q l m e = absurd (let z : a ≡ y = cc in false≢true (sym p.0 ∙ ap is_of_lexeme z ∙ m))
same_made (a ∷ cs) (b ∷ bs) x y r s p q l m e = let t : cs ++ x ∷ r ≡ bs ++ y ∷ s = cc in let u : a ≡ b = cc in let v = same_made cs bs x y r s p.1 q.1 l m t in (ap (λ (z : Token). z ∷ cs) u ∙ ap (λ (z : List Token). b ∷ z) v.0, v.1)

-- a whole list that begins otherwise than with nothing begins with what is made and that token
pub record Splits (a : List Token) (x : Token) (r w q : List Token) : Type 0 where
  pub more : List Token
  pub is : w ≡ a ++ x ∷ more
  is_whole : IsWhole more
  rest : r ≡ more ++ q

pub split_made : (a : List Token) (x : Token) (r : List Token) (w q : List Token) → AreMade a → is_of_lexeme x ≡ true → IsWhole w → 0 < count w → a ++ x ∷ r ≡ w ++ q → Splits a x r w q
split_made a x r [] q p l u n e = absurd (omega arith)
split_made [] x r (y ∷ w) q p l u n e = record { more = w; is = (let z : y ≡ x = cc in ap (λ (t : Token). t ∷ w) z); is_whole = whole_tail y w u; rest = cc }
split_made (a ∷ cs) x r (y ∷ w) q p l u n e =
    let z : a ≡ y = cc in
    let t : cs ++ x ∷ r ≡ w ++ q = cc in
    let m : is_of_lexeme y ≡ false = ap is_of_lexeme (sym z) ∙ p.0 in
    let c : 0 < count w = (let d : count (y ∷ w) ≡ count w = rw m refl in omega arith) in
    let s = split_made cs x r w q p.1 l (whole_tail y w u) c t in
    record { more = s.more; is = ap (λ (v : Token). v ∷ w) (sym z) ∙ ap (λ (v : List Token). a ∷ v) s.is; is_whole = s.is_whole; rest = s.rest }

-- a group with nothing but block ends before its token
ends_only : (y : group_t) → AreEnds (leads y) → (y.opens ≡ NONE) × (y.key ≡ false)
ends_only y p = go y.opens y.key (skip y.ends p) refl refl
  where
    skip : (n : ℕ) → AreEnds (ends_at n y.token.start_mark ++ (starts_at y.opens y.token.start_mark ++ (if y.key then InsertedKey y.token.start_mark ∷ [] else []))) → AreEnds (starts_at y.opens y.token.start_mark ++ (if y.key then InsertedKey y.token.start_mark ∷ [] else []))
    skip zero p = p
    skip (suc n) p = skip n p.1

    go : (o : block_t) (k : Bool) → AreEnds (starts_at o y.token.start_mark ++ (if k then InsertedKey y.token.start_mark ∷ [] else [])) → y.opens ≡ o → y.key ≡ k → (y.opens ≡ NONE) × (y.key ≡ false)
    go NONE false p e f = (e, f)
    go NONE true p e f = absurd (false≢true p.0)
    go SEQUENCE k p e f = absurd (false≢true p.0)
    go MAPPING k p e f = absurd (false≢true p.0)

-- the key of a candidate that starts at m
abbrev pub key_at : Bool → yaml_mark_t → List Token
key_at new m = (if new then BlockMappingStart m ∷ [] else []) ++ (InsertedKey m ∷ [])

keyed_leads : (y : group_t) (b : Bool) (m : yaml_mark_t) → y.opens ≡ NONE → y.key ≡ false → y.token.start_mark ≡ m → leads (keyed b y) ≡ leads y ++ key_at b m
keyed_leads y b m o k e = rw (o, k, ← e) (go b)
  where
    go : (b : Bool) → ends_at y.ends y.token.start_mark ++ (starts_at (if b then MAPPING else NONE) y.token.start_mark ++ (InsertedKey y.token.start_mark ∷ [])) ≡ (ends_at y.ends y.token.start_mark ++ []) ++ key_at b y.token.start_mark
    go true = rw (append-nil (ends_at y.ends y.token.start_mark)) refl
    go false = rw (append-nil (ends_at y.ends y.token.start_mark)) refl

early_none : (m : yaml_mark_t) (ys : List group_t) → early_before 0 m ys ≡ []
early_none m [] = refl
early_none m (y ∷ ys) = refl

-- a key goes before the token of a candidate
pub key_put : (e : yaml_encoding_t) (m : yaml_mark_t) (ys : List group_t) (w ends : List Token) (x : Lexeme) (rest : List Token) (b : Bool) → IsQueue e 0 m ys (w ++ (ends ++ OfLexeme x ∷ rest)) → IsWhole w → AreEnds ends
    → IsQueue e 0 m (keyed_at (count w) b ys) (w ++ (ends ++ (key_at b x.start ++ OfLexeme x ∷ rest)))
key_put e m [] w ends x rest b i p q = absurd (let z = ap (λ (l : List Token). length l) i in let a = length-append w (ends ++ OfLexeme x ∷ rest) in let c = length-append ends (OfLexeme x ∷ rest) in omega arith)
key_put e m (y ∷ ys) w ends x rest b i p q = elim (cases_eq (count w) 0) [
  | inl z ↦ (let n : w ≡ [] = whole_none w p z in
      let f : leads y ++ i.0 ∷ i.1 ≡ ends ++ OfLexeme x ∷ rest = ap (λ (l : List Token). (l ++ leads y) ++ i.0 ∷ i.1) (sym (early_none m ys)) ∙ sym i.2 ∙ ap (λ (l : List Token). l ++ (ends ++ OfLexeme x ∷ rest)) n in
      let s = same_made (leads y) ends i.0 (OfLexeme x) i.1 rest (leads_made y) (ends_made ends q) i.4 refl f in
      let o = ends_only y (subst AreEnds (sym s.0) q) in
      let t : y.token.start_mark ≡ x.start = ap (λ (u : Rattle.yaml_scan.specs.Token.yaml_token_t). u.start_mark) (i.3 ∙ ap (handed_out e) s.1.0) in
      rw (z, n) (i.0, i.1, here ys i.1 i.0 s.0 s.1.0 s.1.1 (keyed_leads y b x.start o.0 o.1 t), i.3, i.4, i.5))
  | inr z ↦ (let f : leads y ++ i.0 ∷ i.1 ≡ w ++ (ends ++ OfLexeme x ∷ rest) = ap (λ (l : List Token). (l ++ leads y) ++ i.0 ∷ i.1) (sym (early_none m ys)) ∙ sym i.2 in
      let s = split_made (leads y) i.0 i.1 w (ends ++ OfLexeme x ∷ rest) (leads_made y) i.4 p (omega arith) f in
      let r = key_put e m ys s.more ends x rest b (subst (λ (l : List Token). IsQueue e 0 m ys l) s.rest i.5) s.is_whole q in
      let c : count w ≡ suc (count s.more) = counted s.more s.is in
      rw c (i.0, s.more ++ (ends ++ (key_at b x.start ++ OfLexeme x ∷ rest)), there s.more s.is, i.3, i.4, r))
]
  where
    here : (zs : List group_t) (r : List Token) (u : Token) → leads y ≡ ends → u ≡ OfLexeme x → r ≡ rest → leads (keyed b y) ≡ leads y ++ key_at b x.start → ends ++ (key_at b x.start ++ OfLexeme x ∷ rest) ≡ (early_before 0 m zs ++ leads (keyed b y)) ++ u ∷ r
    here zs r u f g h k = rw (early_none m zs, k, f, g, h) (sym (append_assoc ends (key_at b x.start) (OfLexeme x ∷ rest)))

    counted : (more : List Token) → w ≡ leads y ++ i.0 ∷ more → count w ≡ suc (count more)
    counted more g = let c = ap count g in let d = count-append (leads y) (i.0 ∷ more) in let f = made_none (leads y) (leads_made y) in let k : count (i.0 ∷ more) ≡ suc (count more) = rw i.4 refl in omega arith

    there : (more : List Token) → w ≡ leads y ++ i.0 ∷ more → w ++ (ends ++ (key_at b x.start ++ OfLexeme x ∷ rest)) ≡ (early_before 0 m (keyed_at (count more) b ys) ++ leads y) ++ i.0 ∷ (more ++ (ends ++ (key_at b x.start ++ OfLexeme x ∷ rest)))
    there more g = rw (early_none m (keyed_at (count more) b ys), g) (append_assoc (leads y) (i.0 ∷ more) _)

-- the head is the token of a candidate
begins_none : (a : List Token) → AreEnds a → begins_with_end a ≡ false → a ≡ []
begins_none [] p e = refl
begins_none (x ∷ a) p e = absurd (false≢true (sym e ∙ p.0))

pub head_is_candidate : (e : yaml_encoding_t) (n : ℕ) (m : yaml_mark_t) (ys : List group_t) (w ends : List Token) (x : Lexeme) (rest : List Token) → IsQueue e n m ys (w ++ (ends ++ OfLexeme x ∷ rest)) → IsWhole w → AreEnds ends
    → (eqb (count w) 0 && not (begins_with_end (pending n m ys))) ≡ eqb (length w + length ends) 0
head_is_candidate e n m [] w ends x rest i p q = absurd (let z = ap (λ (l : List Token). length l) i in let a = length-append w (ends ++ OfLexeme x ∷ rest) in let c = length-append ends (OfLexeme x ∷ rest) in omega arith)
head_is_candidate e n m (y ∷ ys) w ends x rest i p q = elim (cases_eq (count w) 0) [
  | inr z ↦ (let a : length w + length ends ≡ 0 → ⊥ = (λ f. z (let g = counted_less w in omega arith)) in rw (ne_eqb _ _ z, ne_eqb _ _ a) refl)
  | inl z ↦ (let g : w ≡ [] = whole_none w p z in
      let f : pending n m (y ∷ ys) ++ i.0 ∷ i.1 ≡ ends ++ OfLexeme x ∷ rest = sym i.2 ∙ ap (λ (l : List Token). l ++ (ends ++ OfLexeme x ∷ rest)) g in
      let s = same_made (pending n m (y ∷ ys)) ends i.0 (OfLexeme x) i.1 rest (pending_made n m (y ∷ ys)) (ends_made ends q) i.4 refl f in
      let o : length w + length ends ≡ length ends = (let k = ap (λ (l : List Token). length l) g in omega arith) in
      rw (z, s.0, o) (go ends q))
]
  where
    counted_less : (a : List Token) → count a ≤ length a
    counted_less [] = omega arith
    counted_less (u ∷ a) = let r = counted_less a in elim (cases_Bool (is_of_lexeme u)) [ inl l ↦ rw l (omega arith) | inr l ↦ rw l (omega arith) ]

    go : (a : List Token) → AreEnds a → (eqb 0 0 && not (begins_with_end a)) ≡ eqb (length a) 0
    go [] r = refl
    go (u ∷ a) r = rw r.0 (sym (ne_eqb (suc (length a)) 0 (λ z. absurd (omega arith))))

-- as many groups were taken as tokens of lexemes
pub taken_count : (H : List Laid) (t : ℕ) (e : yaml_encoding_t) (n : ℕ) (m : yaml_mark_t) (ys : List group_t) → IsQueue e n m ys (drop t (offline H)) → (d : ℕ) → d + length ys ≡ length H + 1 → d ≡ count (take t (offline H))
unfolding offline
taken_count H t e n m ys Q d D =
    let a = groups_count e n m ys (drop t (groups H H)) Q in
    let b = ap count (take-append-drop t (groups H H)) in
    let f = count-append (take t (groups H H)) (drop t (groups H H)) in
    let g = count_groups H H in
    omega arith

same_test : (a b c d : ℕ) → (a ≡ b → c ≡ d) → (c ≡ d → a ≡ b) → eqb a b ≡ eqb c d
same_test a b c d f g = elim (cases_eq a b) [ inl e ↦ eq-eqb a b e ∙ sym (eq-eqb c d (f e)) | inr e ↦ ne_eqb a b e ∙ sym (ne_eqb c d (λ h. e (g h))) ]

-- the list goes on after the tokens before a candidate's own
pub offline_split : (limit : ℕ) (H : List Laid) (k : ℕ) (c : Laid) → IsHistory limit H → candidate H k ≡ Some c → (rest : List Token) × (offline H ≡ up_to H (Some c) ++ (OfLexeme c.lexeme ∷ rest))
unfolding offline
offline_split limit H k c h s =
    let a = candidate_split H k c s in
    let f = up_to-split limit H a.newer c a.older a.is h in (
      groups_from H a.newer,
      ap (λ (X : List Laid). groups H X) a.is ∙ groups_was H a.newer c a.older a.saved.candidate (candidate_not_completed limit H k c h s) ∙ ap (λ (x : List Token). x ++ (OfLexeme c.lexeme ∷ groups_from H a.newer)) (sym f),
    )

pub head_awaited : (limit : ℕ) (H : List Laid) (k : ℕ) (c : Laid) (t : ℕ) (e : yaml_encoding_t) (n : ℕ) (m : yaml_mark_t) (ys : List group_t) (d : ℕ) → IsHistory limit H → IsQueue e n m ys (drop t (offline H)) → d + length ys ≡ length H + 1 → candidate H k ≡ Some c → t ≤ length (up_to H (Some c))
    → (eqb (c.number + 2) (d + 1) && not (begins_with_end (pending n m ys))) ≡ eqb t (length (up_to H (Some c)))
head_awaited limit H k c t e n m ys d h Q D s l =
    let o = offline_split limit H k c h s in
    let p = stands limit H k c t (up_to H (Some c)) o.0 h s refl o.1 l in
    let q : drop t (offline H) ≡ p.whole ++ (p.ends ++ OfLexeme c.lexeme ∷ o.0) =
    ap (λ (x : List Token). drop t x) o.1 ∙ drop-append-le t (up_to H (Some c)) (OfLexeme c.lexeme ∷ o.0) l
    ∙ ap (λ (x : List Token). x ++ OfLexeme c.lexeme ∷ o.0) p.front_is ∙ append_assoc p.whole p.ends (OfLexeme c.lexeme ∷ o.0) in
    let r = head_is_candidate e n m ys p.whole p.ends c.lexeme o.0 (subst (λ (x : List Token). IsQueue e n m ys x) q Q) p.is_whole p.are_ends in
    let u = taken_count H t e n m ys Q d D in
    let v = p.place in
    let w = p.far in
    ap (λ (b : Bool). b && not (begins_with_end (pending n m ys))) (same_test (c.number + 2) (d + 1) (count p.whole) 0 (λ z. omega arith) (λ z. omega arith))
    ∙ r ∙ same_test (length p.whole + length p.ends) 0 t (length (up_to H (Some c))) (λ z. omega arith) (λ z. omega arith)

-- no groups are left where no tokens are
pub none_left : (H : List Laid) (t : ℕ) (e : yaml_encoding_t) (n : ℕ) (m : yaml_mark_t) (ys : List group_t) → IsQueue e n m ys (drop t (offline H)) → eqb (length ys) 0 ≡ eqb (length (offline H) - t) 0
none_left H t e n m ys q = same_test (length ys) 0 (length (offline H) - t) 0 (λ z. there z) (λ z. back z)
  where
    d : length (drop t (offline H)) ≡ length (offline H) - t
    d = length-drop t (offline H)

    c : length ys ≡ count (drop t (offline H))
    c = groups_count e n m ys (drop t (offline H)) q

    there : length ys ≡ 0 → length (offline H) - t ≡ 0
    there z = elim (cases_lt t (length (offline H))) [ inl l ↦ (let f = drop_count (offline H) t (offline_whole H) l in absurd (omega (arith, c))) | inr l ↦ omega arith ]

    back : length (offline H) - t ≡ 0 → length ys ≡ 0
    back z = let a = ap count (drop_all t (offline H) (omega arith)) in omega (arith, c)

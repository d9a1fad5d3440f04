-- Tokens are in order by their marks.
use Rattle.std.proofs.Common.{◌≡◌, ℕ, ◌≤◌, Bool, true, false, List, [], ◌∷◌, ◌++◌, map, refl, sym, subst, arith, ltb}
use Rattle.std.specs.Prelude.{if◌then◌else◌, ◌&&◌}
use Rattle.yaml_text.specs.declared.types.yaml_mark_t.{yaml_mark_t}
use Rattle.yaml_scan.specs.Kind.{is_stream_end, is_block_entry}
use Rattle.yaml_scan.specs.Laid.{Laid, reach, Lexeme}
use Rattle.yaml_scan.specs.Levels.{opens, is_completed}
use Rattle.yaml_scan.specs.Groups.{Token, block_ends, block_start, end_mark, inserted, group, groups, offline}
use Rattle.yaml_scan.specs.Settled.{before}
use Rattle.yaml_scan.specs.Groups.Token.{BlockEnd, BlockSequenceStart, BlockMappingStart, InsertedKey, OfLexeme}
use Rattle.yaml_scan.specs.Order.{Follows, IsHistory}
use Rattle.yaml_scan.specs.TokenLaws.{end_of, AreInOrder, TokensStandInOrder}
use Rattle.yaml_scan.proofs.TokenList.SettledStays.{before-offline}

in_order_from : (n m l : ℕ) (ts : List Token) → n ≤ m → AreInOrder m ts l → AreInOrder n ts l
in_order_from n m l [] k o = omega arith
in_order_from n m l (t ∷ ts) k o = (omega (arith, o.0), o.1, o.2)

in_order_length : (n m : ℕ) (ts : List Token) → AreInOrder n ts m → n ≤ m
in_order_length n m [] o = o
in_order_length n m (t ∷ ts) o = let r = in_order_length (end_of t).index m ts o.2 in omega (arith, o.0, o.1)

-- one list after another
in_order_append : (n m l : ℕ) (a b : List Token) → AreInOrder n a m → AreInOrder m b l → AreInOrder n (a ++ b) l
in_order_append n m l [] b o p = in_order_from n m l b o p
in_order_append n m l (t ∷ a) b o p = (o.0, o.1, in_order_append (end_of t).index m l a b o.2 p)

in_order_front : (n l : ℕ) (a b : List Token) → AreInOrder n (a ++ b) l → AreInOrder n a l
in_order_front n l [] b o = in_order_length n l b o
in_order_front n l (t ∷ a) b o = (o.0, o.1, in_order_front (end_of t).index l a b o.2)

-- tokens of one mark
module _ (x : Lexeme) (e : x.start.index ≡ x.gap_end.index) where
  end_index : (c : ℕ) → (end_mark x c).index ≡ x.start.index
  end_index c = cases (is_stream_end x.kind && ltb x.gap_end.column c)
    where
      cases : (b : Bool) → (if b then x.gap_end else x.start).index ≡ x.start.index
      cases true = sym e
      cases false = refl

  ends_in_order : (cs : List ℕ) → AreInOrder x.start.index (map (λ c. BlockEnd (end_mark x c)) cs) x.start.index
  ends_in_order [] = omega arith
  ends_in_order (c ∷ cs) =
      let q = end_index c in
      (omega arith, omega arith, in_order_from (end_mark x c).index x.start.index x.start.index (map (λ d. BlockEnd (end_mark x d)) cs) (omega arith) (ends_in_order cs))

starts_there : (i : Laid) → AreInOrder i.lexeme.start.index (block_start i ∷ []) i.lexeme.start.index
starts_there i = cases (is_block_entry i.lexeme.kind)
  where
    cases : (b : Bool) → AreInOrder i.lexeme.start.index ((if b then BlockSequenceStart i.lexeme.start else BlockMappingStart i.lexeme.start) ∷ []) i.lexeme.start.index
    cases true = (omega arith, omega arith, omega arith)
    cases false = (omega arith, omega arith, omega arith)

inserted_in_order : (W : List Laid) (i : Laid) → AreInOrder i.lexeme.start.index (inserted W i) i.lexeme.start.index
unfolding inserted
inserted_in_order W i = in_order_append i.lexeme.start.index i.lexeme.start.index i.lexeme.start.index (if opens W i then block_start i ∷ [] else []) (if is_completed W i then InsertedKey i.lexeme.start ∷ [] else []) (starts (opens W i)) (keys (is_completed W i))
  where
    starts : (b : Bool) → AreInOrder i.lexeme.start.index (if b then block_start i ∷ [] else []) i.lexeme.start.index
    starts true = starts_there i
    starts false = omega arith

    keys : (b : Bool) → AreInOrder i.lexeme.start.index (if b then InsertedKey i.lexeme.start ∷ [] else []) i.lexeme.start.index
    keys true = (omega arith, omega arith, omega arith)
    keys false = omega arith

group_in_order : (m : yaml_mark_t) (W : List Laid) (i : Laid) → Follows m i.lexeme → AreInOrder m.index (group W i) i.lexeme.reach.index
unfolding group block_ends
group_in_order m W i f =
    let a = f.gap_end.index in
    let b = f.at_once in
    let c = f.end.index in
    let d = f.reach.index in
    in_order_append m.index i.lexeme.start.index i.lexeme.reach.index (map (λ c. BlockEnd (end_mark i.lexeme c)) i.closed) (inserted W i ++ (OfLexeme i.lexeme ∷ []))
    (in_order_from m.index i.lexeme.start.index i.lexeme.start.index (map (λ c. BlockEnd (end_mark i.lexeme c)) i.closed) (omega arith) (ends_in_order i.lexeme b i.closed))
    (in_order_append i.lexeme.start.index i.lexeme.start.index i.lexeme.reach.index (inserted W i) (OfLexeme i.lexeme ∷ []) (inserted_in_order W i) (omega arith, c, d))

groups_in_order : (limit : ℕ) (W B : List Laid) → IsHistory limit B → AreInOrder 0 (groups W B) (reach B).index
unfolding groups
groups_in_order limit W [] h = (omega arith, omega arith, omega arith)
groups_in_order limit W (i ∷ B) h = in_order_append 0 (reach B).index i.lexeme.reach.index (groups W B) (group W i) (groups_in_order limit W B h.2) (group_in_order (reach B) W i h.1)

pub tokens_stand_in_order : TokensStandInOrder
unfolding offline
tokens_stand_in_order limit H h =
    let o : AreInOrder 0 (offline H) (reach H).index = groups_in_order limit H H h in
    let b = before-offline limit H h in
    (o, in_order_front 0 (reach H).index (before limit H) b.rest (subst (λ (l : List Token). AreInOrder 0 l (reach H).index) b.is o))

-- What holds of the tokens that the layout puts in, and of the lexemes' own tokens, holds of every token of their groups.
use Rattle.std.proofs.Common.{Bool, true, false, List, [], ◌∷◌, ◌++◌, map}
use Rattle.std.specs.Prelude.{ℕ, if◌then◌else◌}
use Rattle.yaml_text.specs.declared.types.yaml_mark_t.{yaml_mark_t}
use Rattle.yaml_scan.specs.Kind.{is_block_entry}
use Rattle.yaml_scan.specs.Laid.{Laid, Lexeme}
use Rattle.yaml_scan.specs.Levels.{opens, is_completed}
use Rattle.yaml_scan.specs.Groups.{Token, group, block_ends, inserted, end_mark}
use Rattle.yaml_scan.specs.Groups.Token.{StreamStart, BlockEnd, BlockSequenceStart, BlockMappingStart, InsertedKey}
use Rattle.yaml_scan.specs.Groups.Token.{OfLexeme}

abbrev pub Every : (Token → Type 0) → List Token → Type 0
Every P [] = Unit {0}
Every P (x ∷ xs) = P x × Every P xs

-- P holds of the tokens that are no lexeme's
pub record HoldsPutIn (P : Token → Type 0) : Type 0 where
  pub start : P StreamStart
  pub ends : (m : yaml_mark_t) → P (BlockEnd m)
  pub sequence : (m : yaml_mark_t) → P (BlockSequenceStart m)
  pub mapping : (m : yaml_mark_t) → P (BlockMappingStart m)
  pub key : (m : yaml_mark_t) → P (InsertedKey m)

module _ (P : Token → Type 0) where
  pub every_append : (xs ys : List Token) → Every P xs → Every P ys → Every P (xs ++ ys)
  every_append [] ys a b = b
  every_append (x ∷ xs) ys a b = (a.0, every_append xs ys a.1 b)

  pub every_front : (xs ys : List Token) → Every P (xs ++ ys) → Every P xs
  every_front [] ys a = tt
  every_front (x ∷ xs) ys a = (a.0, every_front xs ys a.1)

  every_end : HoldsPutIn P → (x : Lexeme) (cs : List ℕ) → Every P (map (λ c. BlockEnd (end_mark x c)) cs)
  every_end h x [] = tt
  every_end h x (c ∷ cs) = (h.ends (end_mark x c), every_end h x cs)

  pub every_inserted : HoldsPutIn P → (W : List Laid) (i : Laid) → Every P (inserted W i)
  unfolding inserted
  every_inserted h W i = cases (opens W i) (is_completed W i) (is_block_entry i.lexeme.kind)
    where
      m : yaml_mark_t
      m = i.lexeme.start

      cases : (o k b : Bool) → Every P ((if o then (if b then BlockSequenceStart m else BlockMappingStart m) ∷ [] else [])
          ++ (if k then InsertedKey m ∷ [] else []))
      cases true true true = (h.sequence m, (h.key m, tt))
      cases true true false = (h.mapping m, (h.key m, tt))
      cases true false true = (h.sequence m, tt)
      cases true false false = (h.mapping m, tt)
      cases false true b = (h.key m, tt)
      cases false false b = tt

  pub every_block_end : HoldsPutIn P → (i : Laid) → Every P (block_ends i)
  unfolding block_ends
  every_block_end h i = every_end h i.lexeme i.closed

  -- what comes before the token of i
  pub every_lead : HoldsPutIn P → (W : List Laid) (i : Laid) → Every P (block_ends i ++ inserted W i)
  every_lead h W i = every_append (block_ends i) (inserted W i) (every_block_end h i) (every_inserted h W i)

  pub every_of_group : HoldsPutIn P → (W : List Laid) (i : Laid) → P (OfLexeme i.lexeme) → Every P (group W i)
  unfolding group
  every_of_group h W i p = every_append (block_ends i) (inserted W i ++ (OfLexeme i.lexeme ∷ [])) (every_block_end h i)
      (every_append (inserted W i) (OfLexeme i.lexeme ∷ []) (every_inserted h W i) (p, tt))

-- There are at most four tokens a step.
use Rattle.std.proofs.Common.{◌≡◌, ℕ, suc, ◌+◌, ◌*◌, ◌≤◌, Bool, true, false, List, [], ◌∷◌, ◌++◌, map, length, length-append, refl, ap, arith}
use Rattle.std.specs.Prelude.{if◌then◌else◌}
use Rattle.std.proofs.lemmas.List.{take_all}
use Rattle.yaml_scan.specs.Laid.{Laid}
use Rattle.yaml_scan.specs.Levels.{opens, is_completed}
use Rattle.yaml_scan.specs.Groups.{Token, end_mark, block_ends, block_start, inserted, group, groups, offline}
use Rattle.yaml_scan.specs.Groups.Token.{BlockEnd, InsertedKey, OfLexeme}
use Rattle.yaml_scan.specs.Laws.{ends_in, starts_in}
use Rattle.yaml_scan.specs.TokenLaws.{FourTokensAStep}
use Rattle.yaml_scan.proofs.TokenList.BlockEnds.{ends_in-append, starts_in-append, group_starts, group_ends, one_if, never_more_ends}

length-map_ends : (f : ℕ → Token) (cs : List ℕ) → length (map f cs) ≡ length cs
length-map_ends f [] = refl
length-map_ends f (c ∷ cs) = ap suc (length-map_ends f cs)

one_at_most : (b : Bool) → one_if b ≤ 1
one_at_most true = omega arith
one_at_most false = omega arith

inserted_two : (W : List Laid) (i : Laid) → length (inserted W i) ≤ 2
unfolding inserted
inserted_two W i = cases (opens W i) (is_completed W i)
  where
    cases : (a b : Bool) → length ((if a then block_start i ∷ [] else []) ++ (if b then InsertedKey i.lexeme.start ∷ [] else [])) ≤ 2
    cases true true = omega arith
    cases true false = omega arith
    cases false true = omega arith
    cases false false = omega arith

group_length : (W : List Laid) (i : Laid) → length (group W i) ≤ ends_in (group W i) + 3
unfolding group block_ends
group_length W i =
    let a = length-append (block_ends i) (inserted W i ++ (OfLexeme i.lexeme ∷ [])) in
    let b = length-append (inserted W i) (OfLexeme i.lexeme ∷ []) in
    let c = inserted_two W i in
    let d = group_ends W i in
    let e : length (block_ends i) ≡ length i.closed = length-map_ends (λ c. BlockEnd (end_mark i.lexeme c)) i.closed in
    omega arith

groups_length : (W B : List Laid) → length (groups W B) ≤ ends_in (groups W B) + 3 * length B + 1
unfolding groups
groups_length W [] = omega arith
groups_length W (i ∷ B) =
    let r = groups_length W B in
    let a = length-append (groups W B) (group W i) in
    let b = ends_in-append (groups W B) (group W i) in
    let c = group_length W i in
    omega arith

starts_at_most : (W B : List Laid) → starts_in (groups W B) ≤ length B
unfolding groups starts_in
starts_at_most W [] = omega arith
starts_at_most W (i ∷ B) =
    let r = starts_at_most W B in
    let b = starts_in-append (groups W B) (group W i) in
    let c = group_starts W i in
    let d = one_at_most (opens W i) in
    omega arith

pub four_tokens_a_step : FourTokensAStep
unfolding offline
four_tokens_a_step limit H h =
    let a = groups_length H H in
    let b = starts_at_most H H in
    let c = never_more_ends limit H (length (offline H)) h in
    let t = take_all (length (offline H)) (offline H) (omega arith) in
    let d : ends_in (offline H) ≤ starts_in (offline H) = rw t at c in
    omega arith

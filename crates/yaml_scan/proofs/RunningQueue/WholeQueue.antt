-- If no candidate is awaited, all tokens that were made are settled, and the groups of the queue hand them out.
use Rattle.std.proofs.Common.{◌≡◌, ℕ, zero, suc, ◌+◌, ◌≤◌, Bool, true, false, List, [], ◌∷◌, ◌++◌, map, length, length-append, append-nil, append_assoc, refl, ap, sym, ◌∙◌, arith, inl, inr}
use Rattle.std.specs.Prelude.{◌⊎◌, if◌then◌else◌}
use Rattle.std.proofs.lemmas.Bool.{cases_lt}
use Rattle.std.proofs.lemmas.List.{map-append}
use Rattle.yaml_text.specs.declared.types.yaml_encoding_t.{yaml_encoding_t}
use Rattle.yaml_text.specs.declared.types.yaml_mark_t.{yaml_mark_t}
use Rattle.yaml_text.specs.Token.{token_of}
use Rattle.yaml_scan.specs.declared.groups.block_t.{block_t}
use Rattle.yaml_scan.specs.declared.groups.block_t.TheVariants.{NONE, SEQUENCE, MAPPING}
use Rattle.yaml_scan.specs.declared.groups.group_t.{group_t}
use Rattle.yaml_scan.specs.inside.Scanner.{Scanner}
use Rattle.yaml_scan.specs.Begins.{Begins}
use Rattle.yaml_scan.specs.Depth.{depth}
use Rattle.yaml_scan.specs.Groups.{Token, handed_out, offline}
use Rattle.yaml_scan.specs.Groups.Token.{BlockEnd, InsertedKey}
use Rattle.yaml_scan.specs.Laid.{Laid}
use Rattle.yaml_scan.specs.Settled.{before}
use Rattle.yaml_scan.specs.Token.{yaml_token_t}
use Rattle.yaml_scan.specs.inside.Handed.{groups_tokens, told_leads}
use Rattle.yaml_scan.specs.inside.Queue.{IsQueue, ends_at, leads, pending, starts_at}
use Rattle.yaml_scan.specs.inside.Scanning.{HoldsWith}
use Rattle.yaml_scan.specs.inside.Slots.{Held, lowest, outer_to, held_step}
use Rattle.yaml_scan.proofs.TokenList.SettledStays.{before-offline}
use Rattle.yaml_scan.proofs.RunningQueue.HeadIsNext.{none_open}
use Rattle.yaml_scan.proofs.RunningQueue.SlotOrder.{IsLowest, IsNone, held_is, lowest_is, awaited_is}

-- WHAT GROUPS HAND OUT
-- the leads of a group are the same in every encoding
module _ (e : yaml_encoding_t) where
  abbrev hand_out : List Token → List yaml_token_t
  hand_out xs = map (handed_out e) xs

  ends_told : (n : ℕ) (m : yaml_mark_t) → hand_out (ends_at n m) ≡ told_leads (ends_at n m)
  ends_told zero m = refl
  ends_told (suc n) m = ap (λ (z : List yaml_token_t). handed_out e (BlockEnd m) ∷ z) (ends_told n m)

  start_told : (o : block_t) (m : yaml_mark_t) → hand_out (starts_at o m) ≡ told_leads (starts_at o m)
  start_told NONE m = refl
  start_told SEQUENCE m = refl
  start_told MAPPING m = refl

  abbrev key_in : Bool → yaml_mark_t → List Token
  key_in b m = if b then InsertedKey m ∷ [] else []

  key_told : (b : Bool) (m : yaml_mark_t) → hand_out (key_in b m) ≡ told_leads (key_in b m)
  key_told true m = refl
  key_told false m = refl

  pub leads_told : (y : group_t) → hand_out (leads y) ≡ told_leads (leads y)
  leads_told y =
      let m = y.token.start_mark in
      let start = starts_at y.opens m in
      let key = key_in y.key m in
      rw (map-append (handed_out e) (ends_at y.ends m) (start ++ key), map-append (handed_out e) start key, ends_told y.ends m, start_told y.opens m, key_told y.key m) (
      ap (λ (z : List yaml_token_t). told_leads (ends_at y.ends m) ++ z) (sym (map-append _ start key)) ∙ sym (map-append _ (ends_at y.ends m) (start ++ key))
      )

  pub none_early : (early_mark : yaml_mark_t) (ys : List group_t) (y : group_t) → pending 0 early_mark (y ∷ ys) ≡ leads y
  none_early early_mark [] y = refl
  none_early early_mark (z ∷ ys) y = refl

  -- so those of a queue are all that its groups hand out
  pub queue_told : (early_mark : yaml_mark_t) (ys : List group_t) (xs : List Token) → IsQueue e 0 early_mark ys xs → hand_out xs ≡ groups_tokens ys
  queue_told early_mark [] xs q = ap hand_out q
  queue_told early_mark (y ∷ ys) xs q =
      let x : Token = q.0 in
      let rest : List Token = q.1 in
      let is : xs ≡ leads y ++ x ∷ rest = q.2 ∙ ap (λ (z : List Token). z ++ x ∷ rest) (none_early early_mark ys y) in
      ap hand_out is
      ∙ map-append (handed_out e) (leads y) (x ∷ rest)
      ∙ ap (λ (z : List yaml_token_t). z ++ handed_out e x ∷ hand_out rest) (leads_told y)
      ∙ ap (λ (z : List yaml_token_t). told_leads (leads y) ++ handed_out e x ∷ z) (queue_told early_mark ys rest q.5)
      ∙ ap (λ (z : yaml_token_t). told_leads (leads y) ++ z ∷ groups_tokens ys) (sym q.3)
      ∙ sym (append_assoc (told_leads (leads y)) (token_of y.token ∷ []) (groups_tokens ys))

-- WHAT IS SETTLED
no_rest : (r : List Token) → length r ≤ 0 → r ≡ []
no_rest [] l = refl
no_rest (x ∷ r) l = absurd (omega arith)

pub whole_front : (xs ys : List Token) → Begins xs ys → length ys ≤ length xs → ys ≡ xs
whole_front xs ys b l =
    let n = ap (λ (z : List Token). length z) b.is in
    let k = length-append xs b.rest in
    b.is ∙ ap (λ (z : List Token). xs ++ z) (no_rest b.rest (omega arith)) ∙ append-nil xs

module _ (H : List Laid) (n : ℕ) (s : Scanner) (ys : List group_t) (h : HoldsWith H n s ys) (z : s.slots.awaited ≡ 0) where
  none_awaits : IsNone s.limit H (depth H + 1)
  none_awaits = go (lowest_is s.limit H (depth H + 1))
    where
      lowest_zero : held_step (lowest (outer_to s.limit H (depth H + 1))) ≡ 0
      lowest_zero = sym (awaited_is s.limit H s.slots s.allowed h.keys) ∙ z

      go : IsLowest s.limit H (depth H + 1) ⊎ IsNone s.limit H (depth H + 1) → IsNone s.limit H (depth H + 1)
      go (inr r) = r
      go (inl r) =
          let g = held_is s.limit H r.at r.here r.is in
          let a : g.laid.number + 2 ≡ 0 = sym (ap (λ (x : Held). x.step) g.told) ∙ sym (ap held_step r.told) ∙ lowest_zero in
          absurd (omega arith)

  pub all_are_settled : before s.limit H ≡ offline H
  all_are_settled = sym (whole_front (before s.limit H) (offline H) (before-offline s.limit H h.is_history) (elim (cases_lt (length (before s.limit H)) (length (offline H))) [
    | inr l ↦ l
    | inl l ↦ (let x = none_open s.limit H h.is_history (length (before s.limit H)) (omega arith) none_awaits l in absurd (omega arith))
  ]))

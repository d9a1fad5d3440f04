-- What the key slots, the open levels and the queue of a running scanner hold after the lexemes H.
use Rattle.std.specs.Prelude.{◌≡◌, ℕ, ◌+◌, Bool, false, List, [], ◌∷◌, ◌++◌, reverse, drop, length, None}
use Rattle.yaml_text.specs.declared.types.yaml_encoding_t.{yaml_encoding_t}
use Rattle.yaml_scan.specs.declared.slots.slots_t.{slots_t}
use Rattle.yaml_scan.specs.declared.groups.group_t.{group_t}
use Rattle.yaml_scan.specs.declared.queue.queue_t.{queue_t}
use Rattle.yaml_scan.specs.Course.{ended}
use Rattle.yaml_scan.specs.Laid.{Laid, reach}
use Rattle.yaml_scan.specs.Depth.{depth}
use Rattle.yaml_scan.specs.Allowed.{allowed_after}
use Rattle.yaml_scan.specs.Levels.{open_columns}
use Rattle.yaml_scan.specs.Falling.{AllLess}
use Rattle.yaml_scan.specs.Groups.{offline}
use Rattle.yaml_scan.specs.Step.{stale}
use Rattle.yaml_scan.specs.inside.Slots.{held, outer_to, empty_slots, lowest, held_step}
use Rattle.yaml_scan.specs.inside.Queue.{IsQueue}

-- The slots hold the candidate of each depth while it is live, no required one is stale, and `may` says whether a key
-- is allowed after H.
pub record HoldsKeys (limit : ℕ) (H : List Laid) (slots : slots_t) (may : Bool) : Type 0 where
  pub fresh : stale limit H (reach H) ≡ None
  pub outer : slots.outer.items ≡ outer_to limit H (depth H)
  pub empty : slots.not_simple_keys ≡ empty_slots slots.outer.items
  pub top : slots.top ≡ held limit H (depth H)
  pub awaited : slots.awaited ≡ held_step (lowest (slots.outer.items ++ slots.top ∷ []))
  pub allowed : may ≡ allowed_after H

-- The stack of levels has the columns of the open block collections, all of them in a text of `size` characters.
pub record HoldsLevels (size : ℕ) (H : List Laid) (levels : List ℕ) : Type 0 where
  pub are_open : reverse levels ≡ open_columns H
  pub columns : AllLess (size + 1) (open_columns H)

-- With the groups ys the queue hands out all tokens of H but the first `taken` ones, and each step has its group, which
-- is queued or done. Until the stream has ended, no early block end waits.
pub record HoldsQueue (e : yaml_encoding_t) (taken : ℕ) (H : List Laid) (q : queue_t) (ys : List group_t) : Type 0 where
  pub tokens : IsQueue e q.early q.early_mark ys (drop taken (offline H))
  pub count : q.done + length ys ≡ length H + 1
  pub early : ended H ≡ false → q.early ≡ 0

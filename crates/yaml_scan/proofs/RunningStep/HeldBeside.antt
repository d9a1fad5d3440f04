-- What a scanner holds is held by another one with the same parts, or with more room.
use Rattle.std.proofs.Common.{◌≡◌, ℕ, ◌≤◌, List, length, refl, subst, sym}
use Rattle.yaml_text.specs.declared.types.yaml_mark_t.{yaml_mark_t}
use Rattle.yaml_scan.specs.declared.groups.group_t.{group_t}
use Rattle.yaml_scan.specs.inside.Scanner.{Scanner}
use Rattle.yaml_scan.specs.Laid.{Laid}
use Rattle.yaml_scan.specs.Order.{IsHistory}
use Rattle.yaml_scan.specs.Settled.{before}
use Rattle.yaml_scan.specs.inside.Holding.{HoldsKeys, HoldsLevels, HoldsQueue}
use Rattle.yaml_scan.specs.inside.Scanning.{Beside, Halts, Holds, HoldsWith, Stays, at_marks, counted, groups_in}

-- one whose queue is another
pub holds_as : (H : List Laid) (n : ℕ) (s t : Scanner) {ys zs : List group_t} → HoldsWith H n s ys → t.text ≡ s.text → t.limit ≡ s.limit → t.slots ≡ s.slots → t.allowed ≡ s.allowed
    → t.layout.levels ≡ s.layout.levels → t.reach ≡ s.reach → HoldsQueue t.text.encoding t.taken H t.layout.queue zs → t.taken ≤ length (before t.limit H) → HoldsWith H n t zs
holds_as H n s t h text limit slots allowed levels reach queue taken = record {
  text = rw text h.text;
  is_history = subst (λ (k : ℕ). IsHistory k H) (sym limit) h.is_history;
  number = h.number;
  keys = rw (limit, slots, allowed) h.keys;
  levels = rw (text, levels) h.levels;
  queue = queue;
  reach = rw reach h.reach;
  taken = taken;
  place = rw (text, reach) h.place;
}

-- one that has made a step more
pub counted_holds : (H : List Laid) (n : ℕ) (s : Scanner) (ys : List group_t) → HoldsWith H n s ys → HoldsWith H n (counted s) ys
counted_holds H n s ys h = holds_as H n s (counted s) h refl refl refl refl refl refl h.queue h.taken

-- one that was given room: its keys, its levels and its queue
keys_beside : (H : List Laid) (s t : Scanner) → Beside s t → HoldsKeys s.limit H s.slots s.allowed → HoldsKeys t.limit H t.slots t.allowed
keys_beside H s t b k = record {
  fresh = rw b.limit k.fresh;
  outer = rw (b.outer, b.limit) k.outer;
  empty = rw (b.empty, b.outer) k.empty;
  top = rw (b.top, b.limit) k.top;
  awaited = rw (b.awaited, b.outer, b.top) k.awaited;
  allowed = rw b.allowed k.allowed;
}

levels_beside : (H : List Laid) (s t : Scanner) → Beside s t → HoldsLevels (length s.text.chars) H s.layout.levels.items → HoldsLevels (length t.text.chars) H t.layout.levels.items
levels_beside H s t b k = rw (b.text, b.levels) k

queue_beside : (H : List Laid) (s t : Scanner) → Beside s t → HoldsQueue s.text.encoding s.taken H s.layout.queue (groups_in s) → HoldsQueue t.text.encoding t.taken H t.layout.queue (groups_in t)
queue_beside H s t b k = record { tokens = rw (b.text, b.early, b.early_mark, b.groups, b.taken) k.tokens; count = rw (b.done, b.groups) k.count; early = rw b.early k.early }

pub holds_beside : (H : List Laid) (n : ℕ) (s t : Scanner) → Beside s t → Holds H n s → Holds H n t
holds_beside H n s t b h = record {
  text = rw b.text h.text;
  is_history = rw b.limit h.is_history;
  number = h.number;
  keys = keys_beside H s t b h.keys;
  levels = levels_beside H s t b h.levels;
  queue = queue_beside H s t b h.queue;
  reach = rw b.reach h.reach;
  taken = rw (b.taken, b.limit) h.taken;
  place = rw (b.text, b.reach) h.place;
}

-- another gap's end, or another place of an offence, changes nothing else
pub marks_stay : (s : Scanner) (gap_end there : yaml_mark_t) → Stays s (at_marks s gap_end there)
marks_stay s gap_end there = record {
  same = record { text = refl; refusal = refl; near = refl; limit = refl; taken = refl; done = refl };
  halts = record { text = refl; near = refl; limit = refl; outer = refl; empty = refl; top = refl; awaited = refl; allowed = refl; levels = refl; groups = refl; done = refl; early = refl; early_mark = refl; reach = refl; taken = refl; made = refl };
}

-- what a scanner that has stopped has left is held
pub holds_halted : (H : List Laid) (n : ℕ) (s t : Scanner) → Halts s t → Holds H n s → Holds H n t
holds_halted H n s t b h = let k = h.keys in let q = h.queue in record {
  text = rw b.text h.text;
  is_history = rw b.limit h.is_history;
  number = h.number;
  keys = record {
    fresh = rw b.limit k.fresh;
    outer = rw (b.outer, b.limit) k.outer;
    empty = rw (b.empty, b.outer) k.empty;
    top = rw (b.top, b.limit) k.top;
    awaited = rw (b.awaited, b.outer, b.top) k.awaited;
    allowed = rw b.allowed k.allowed;
  };
  levels = rw (b.text, b.levels) h.levels;
  queue = record { tokens = rw (b.text, b.early, b.early_mark, b.groups, b.taken) q.tokens; count = rw (b.done, b.groups) q.count; early = rw b.early q.early };
  reach = rw b.reach h.reach;
  taken = rw (b.taken, b.limit) h.taken;
  place = rw (b.text, b.reach) h.place;
}

-- A lexeme that was read is laid if levels, queue and slots change as its definition says.
use Rattle.std.proofs.Common.{◌≡◌, ℕ, ◌+◌, ◌<◌, not, Bool, false, List, [], ◌∷◌, ◌++◌, reverse, map, filter, length, Option, vec_len, refl, ap, sym, ◌∙◌}
use Rattle.std.specs.Option.{is_some}
use Rattle.std.specs.Prelude.{nat_lt}
use Rattle.yaml_text.specs.Token.{token_of}
use Rattle.yaml_lexeme.specs.Lexeme.{Lexeme as yaml_lexeme_t}
use Rattle.yaml_scan.specs.declared.groups.group_t.{group_t}
use Rattle.yaml_scan.specs.declared.slots.slots_t.{slots_t}
use Rattle.yaml_scan.specs.declared.layout.layout_t.{layout_t}
use Rattle.yaml_scan.specs.inside.Scanning.{Met}
use Rattle.yaml_scan.specs.inside.Scanner.{Scanner}
use Rattle.yaml_scan.specs.Allowed.{allows}
use Rattle.yaml_scan.specs.Groups.{end_at}
use Rattle.yaml_scan.specs.Groups.Token.{BlockEnd}
use Rattle.yaml_scan.specs.Kind.{is_stream_end}
use Rattle.yaml_scan.specs.Laid.{Laid}
use Rattle.yaml_scan.specs.Levels.{greatest_level, stays}
use Rattle.yaml_scan.specs.inside.Opened.{opened}
use Rattle.yaml_scan.specs.inside.Queue.{ends_at, completed_in, opened_by}
use Rattle.yaml_scan.specs.inside.Handed.{IsLaidAs}
use Rattle.yaml_scan.specs.inside.Scanning.{CanPut}
use Rattle.yaml_scan.specs.inside.Slots.{Held, completed_held, still_held, slot_after, nested_outer, nested_top}
use Rattle.yaml_scan.specs.inside.Slots.{empty_slots, lowest, held_step}
use Rattle.yaml_scan.proofs.RunningStep.StepLaid.{put_in, place_within, index_is, levels_then, queue_then, keys_then, step_reads, holds_then}

-- These are the slots, whether a key is allowed, the layout and the groups after the lexeme x, of which `new` is kept. The groups
-- before it are ys.
pub record IsPut (s : Scanner) (ys : List group_t) (m : Met) (in_flow : Bool) (new : Held) (x : yaml_lexeme_t) (S : slots_t) (a : Bool) (L : layout_t) (zs : List group_t) : Type 0 where
  pub left : List ℕ
  pub left_is : reverse left ≡ filter (stays in_flow m.kind new.start) (reverse s.layout.levels.items)
  pub early : is_stream_end m.kind ≡ false → L.queue.early ≡ 0
  pub early_mark : 0 < L.queue.early → L.queue.early_mark ≡ m.gap_end
  pub completed : Option Held
  pub completed_is : completed ≡ completed_held m.kind s.limit new.start s.slots.top
  pub none : Bool
  pub none_is : is_some completed ≡ not none
  pub group : group_t
  pub ends_are : ends_at L.queue.early m.gap_end ++ ends_at group.ends new.start
      ≡ map (λ c. BlockEnd (end_at m.kind m.gap_end new.start c)) (filter (λ c. not (stays in_flow m.kind new.start c)) (reverse s.layout.levels.items))
  pub token : token_of group.token ≡ record { token_data = x.token_data; start_mark = new.start; end_mark = x.end_mark }
  pub key : group.key ≡ false
  pub opens : group.opens ≡ opened_by in_flow completed m.kind new.start.column (reverse left)
  pub levels : reverse L.levels.items ≡ opened in_flow completed m.kind new.start (reverse left)
  pub groups : zs ≡ completed_in in_flow completed (reverse left) s.layout.queue.done ys ++ group ∷ []
  pub long : length zs ≡ length ys + 1
  pub done : L.queue.done ≡ s.layout.queue.done
  pub outer : S.outer.items ≡ nested_outer m.kind (map (still_held s.limit x.reach) s.slots.outer.items) (still_held s.limit x.reach (slot_after m.kind m.allowed new s.slots.top))
  pub top : S.top ≡ nested_top m.kind (map (still_held s.limit x.reach) s.slots.outer.items) (still_held s.limit x.reach (slot_after m.kind m.allowed new s.slots.top))
  pub empty : S.not_simple_keys ≡ empty_slots S.outer.items
  pub awaited : S.awaited ≡ held_step (lowest (S.outer.items ++ S.top ∷ []))
  pub allows : (d : ℕ) → in_flow ≡ nat_lt 0 d → a ≡ allows m.kind d none x.passed_break

pub put_advances : (H : List Laid) (s : Scanner) (ys : List group_t) (m : Met) (in_flow : Bool) (new : Held) (x : yaml_lexeme_t) → CanPut H s ys m in_flow new x
    → (S : slots_t) (a : Bool) (L : layout_t) (zs : List group_t) → IsPut s ys m in_flow new x S a L zs → IsLaidAs H s m.kind (put_in s S a L x.reach) zs
put_advances H s ys m in_flow new x p S a L zs q = record {
  kind = refl;
  advances = record {
    lexeme = _;
    step = step_reads H (s.made + 1) s p.can.holds p.can.running m p.can.met in_flow p.is_new.flow new.start p.is_new.start q.left q.left_is p.level (p.is_new.is_greatest ∙ ap greatest_level (sym q.left_is)) (vec_len s.slots.outer) refl x p.read q.completed q.completed_is new p.is_new.step refl p.is_new.required m.allowed p.can.met.allowed _ refl _ s.slots.outer.items refl refl _ refl p.none_lost;
    holds = holds_then H (s.made + 1) s p.can.holds p.can.running m p.can.met in_flow p.is_new.flow new.start p.is_new.start q.left q.left_is p.level (p.is_new.is_greatest ∙ ap greatest_level (sym q.left_is)) (vec_len s.slots.outer) refl x p.read S a L zs
        (keys_then H (s.made + 1) s p.can.holds p.can.running m p.can.met in_flow p.is_new.flow new.start p.is_new.start q.left q.left_is p.level (p.is_new.is_greatest ∙ ap greatest_level (sym q.left_is)) (vec_len s.slots.outer) refl x p.read q.completed q.completed_is new p.is_new.step refl p.is_new.required m.allowed p.can.met.allowed _ refl p.none_lost S q.outer q.top q.empty q.awaited q.none q.none_is a q.allows)
        (levels_then H (s.made + 1) s p.can.holds p.can.running m p.can.met in_flow p.is_new.flow new.start p.is_new.start q.left q.left_is p.level (p.is_new.is_greatest ∙ ap greatest_level (sym q.left_is)) (vec_len s.slots.outer) refl x p.read q.completed q.completed_is L.levels.items q.levels)
        (queue_then H (s.made + 1) s p.can.holds p.can.running m p.can.met in_flow p.is_new.flow new.start p.is_new.start q.left q.left_is p.level (p.is_new.is_greatest ∙ ap greatest_level (sym q.left_is)) (vec_len s.slots.outer) refl x p.read q.completed q.completed_is L.queue q.group m.gap_end q.early q.early_mark q.done q.ends_are q.token q.key q.opens zs q.groups q.long);
    index = index_is H (s.made + 1) s p.can.holds p.can.running m p.can.met in_flow p.is_new.flow new.start p.is_new.start q.left q.left_is p.level (p.is_new.is_greatest ∙ ap greatest_level (sym q.left_is)) (vec_len s.slots.outer) refl x p.read;
    within = place_within H (s.made + 1) s p.can.holds p.can.running m p.can.met in_flow p.is_new.flow new.start p.is_new.start q.left q.left_is p.level (p.is_new.is_greatest ∙ ap greatest_level (sym q.left_is)) (vec_len s.slots.outer) refl x p.read;
    same = record { text = refl; refusal = refl; near = refl; limit = refl; taken = refl; done = q.done };
    made = refl;
  };
}

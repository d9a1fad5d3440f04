use Rattle.std.proofs.Common.{◌≡◌, ◌+◌, ◌++◌, ◌∷◌, [], false, not, reverse, List, Option, None, length, length-append, vec_len, subst, ap, ◌∙◌, refl, sym, arith}
use Rattle.std.specs.declared.alloc.Global.{Global}
use Rattle.std.specs.declared.collections.VecDeque.{VecDeque}
use Rattle.yaml_scan.specs.declared.groups.group_t.{group_t}
use Rattle.yaml_scan.specs.Levels.{greatest_level}
use Rattle.yaml_scan.specs.inside.Scanner.{scanner_of}
use Rattle.yaml_scan.specs.inside.Scanning.{groups_in, met_in}
use Rattle.yaml_scan.specs.inside.Slots.{Held, AreNested}
use Rattle.yaml_scan.specs.inside.Handed.{read_to}
use Rattle.yaml_scan.proofs.RunningStep.StepLaid.{levels_fall, l_falls, fitting}
use Rattle.yaml_scan.proofs.RunningStep.StepPut.{put_advances}
use Rattle.yaml_scan.proofs.RunningQueue.SlotOrder.{outer_nested}
use Rattle.yaml_scan.specs.Groups.{end_at}
use Rattle.yaml_scan.specs.Groups.Token.{BlockEnd}
use Rattle.yaml_scan.specs.Levels.{stays}
use Rattle.yaml_scan.specs.inside.Queue.{completed_in}
use Rattle.yaml_scan.proofs.RunningQueue.GroupTokens.{ends_few}
use Rattle.yaml_scan.proofs.RunningQueue.NoCandidates.{none_where_none_awaited}
use Rattle.yaml_scan.proofs.RunningQueue.NoneAwaited.{none_awaited, none_completed}
use Rattle.yaml_scan.proofs.laid.lay_lexeme.Goals as goal

pub close_levels-closed-requires : goal.close_levels-closed-requires
close_levels-closed-requires g c = levels_fall g.before (c.args.state.now.made + 1) (scanner_of c.requires.0.0 c.args.state.now) c.requires.0.2.1.can.holds c.requires.0.2.1.can.running (met_in (scanner_of c.requires.0.0 c.args.state.now) c.args.read.met) c.requires.0.2.1.can.met c.args.read.met.in_flow c.requires.0.2.1.is_new.flow c.args.read.met.new.start c.requires.0.2.1.is_new.start

pub keep_candidates-requires-clause-nested : goal.keep_candidates-requires-clause-nested
keep_candidates-requires-clause-nested g c = let r = c.requires.0.2.1.can.holds in subst (λ (hs : List (Option Held)). AreNested hs) (sym r.keys.outer) (outer_nested c.args.state.now.limit g.before r.is_history)

pub keep_candidates-requires-clause-none : goal.keep_candidates-requires-clause-none
keep_candidates-requires-clause-none g c = λ e. none_where_none_awaited g.before (c.args.state.now.made + 1) (scanner_of c.requires.0.0 c.args.state.now) c.requires.0.2.1.can.holds e

pub put_key-opens-requires-clause-falls : goal.put_key-opens-requires-clause-falls
put_key-opens-requires-clause-falls g c = l_falls g.before (c.args.state.now.made + 1) (scanner_of c.requires.0.0 c.args.state.now) c.requires.0.2.1.can.holds c.requires.0.2.1.can.running (met_in (scanner_of c.requires.0.0 c.args.state.now) c.args.read.met) c.requires.0.2.1.can.met c.args.read.met.in_flow c.requires.0.2.1.is_new.flow c.args.read.met.new.start c.requires.0.2.1.is_new.start c.close_levels-closed.new.levels.items c.close_levels-closed.ensures.levels

pub put_key-opens-requires-clause-fits : goal.put_key-opens-requires-clause-fits
put_key-opens-requires-clause-fits g c = fitting g.before (c.args.state.now.made + 1) (scanner_of c.requires.0.0 c.args.state.now) c.requires.0.2.1.can.holds c.requires.0.2.1.can.running (met_in (scanner_of c.requires.0.0 c.args.state.now) c.args.read.met) c.requires.0.2.1.can.met c.args.read.met.in_flow c.requires.0.2.1.is_new.flow c.args.read.met.new.start c.requires.0.2.1.is_new.start c.close_levels-closed.new.levels.items c.close_levels-closed.ensures.levels c.requires.0.2.1.level (c.requires.0.2.1.is_new.is_greatest ∙ ap greatest_level (sym c.close_levels-closed.ensures.levels)) (vec_len c.args.state.now.slots.outer) refl c.requires.0.1 c.requires.0.2.1.read c.completed_by-completed.result c.completed_by-completed.ensures

pub keep_early-requires : goal.keep_early-requires
keep_early-requires g c = let k = c.put_key-opens.ensures.rest in record { none = k.early ∙ c.requires.0.2.1.can.holds.queue.early c.requires.0.2.1.can.running }

pub returns-clause-laid : goal.returns-clause-laid
returns-clause-laid g c = λ X d b e t p T.
    let k = c.put_key-opens.ensures.rest in
    let y = c.keep_early.ensures in
    let new : group_t = record { ends = c.close_levels-closed.result.ends; opens = c.put_key-opens.result; key = false; token = t } in
    let same_groups : c.keep_early.new.self.groups.items ≡ c.put_key-opens.new.self.queue.groups.items = ap (λ (q : VecDeque group_t Global). q.items) y.groups in
    put_advances g.before (scanner_of X c.args.state.now) (groups_in (scanner_of X c.args.state.now)) (met_in (scanner_of X c.args.state.now) c.args.read.met) c.args.read.met.in_flow c.args.read.met.new (read_to d b e c.args.read.reach c.args.read.passed_break) p c.keep_candidates.new.self c.is_allowed_after-state.result
    record { levels = c.put_key-opens.new.self.levels; queue = c.keep_early.new.self } (c.keep_early.new.self.groups.items ++ new ∷ []) record {
      left = c.close_levels-closed.new.levels.items;
      left_is = c.close_levels-closed.ensures.levels;
      early = λ e. y.early ∙ c.close_levels-closed.ensures.none e;
      early_mark = λ l. y.early_mark (let e = y.early in omega arith);
      completed = c.completed_by-completed.result;
      completed_is = c.completed_by-completed.ensures;
      none = c.is_none.result;
      none_is = c.is_none.ensures;
      group = new;
      ends_are = rw y.early c.close_levels-closed.ensures.ends;
      token = T;
      key = refl;
      opens = c.put_key-opens.ensures.opens;
      levels = c.put_key-opens.ensures.levels;
      groups = ap (λ (ys : List group_t). ys ++ new ∷ []) (same_groups ∙ c.put_key-opens.ensures.groups);
      long = (let l = k.long in
          let m = ap (λ (ys : List group_t). length ys) same_groups in
          let o = length-append c.keep_early.new.self.groups.items (new ∷ []) in
          omega arith);
      done = y.done ∙ k.done;
      outer = c.keep_candidates.ensures.outer;
      top = c.keep_candidates.ensures.top;
      empty = c.keep_candidates.ensures.empty;
      awaited = c.keep_candidates.ensures.awaited;
      allows = c.is_allowed_after-state.ensures;
    }

pub returns-clause-few : goal.returns-clause-few
returns-clause-few g c =
    let r = c.args.read.met in
    ends_few c.close_levels-closed.result.early c.close_levels-closed.result.ends c.args.state.now.gap_end r.new.start (λ z. BlockEnd (end_at r.kind c.args.state.now.gap_end r.new.start z)) (λ z. not (stays r.in_flow r.kind r.new.start z)) c.args.state.now.layout.levels.items c.close_levels-closed.ensures.ends

pub returns-clause-queued : goal.returns-clause-queued
returns-clause-queued g c = λ q.
    let r = c.args.read.met in
    let y = c.keep_early.ensures in
    let same : c.keep_early.new.self.groups.items ≡ c.put_key-opens.new.self.queue.groups.items = ap (λ (v : VecDeque group_t Global). v.items) y.groups in
    let none : c.completed_by-completed.result ≡ None = c.completed_by-completed.ensures ∙ none_completed r.kind c.args.state.now.limit r.new.start c.args.state.now.slots.top q in
    same ∙ c.put_key-opens.ensures.groups ∙ ap (λ (h : Option Held). completed_in r.in_flow h (reverse c.close_levels-closed.new.levels.items) c.args.state.now.layout.queue.done c.args.state.now.layout.queue.groups.items) none

pub returns-clause-none : goal.returns-clause-none
returns-clause-none g c = λ low q s dead.
    let r = c.args.read.met in
    let k = c.keep_candidates.ensures in
    none_awaited r.kind r.allowed r.new c.args.state.now.limit c.args.read.reach c.args.state.now.slots.outer.items c.args.state.now.slots.top low q s dead _ _ _ k.outer k.top k.awaited

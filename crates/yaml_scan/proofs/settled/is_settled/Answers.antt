use Rattle.std.proofs.Common.{◌≡◌, ℕ, ◌+◌, true, false, not, length, deque_len, ap, sym, ◌∙◌, arith}
use Rattle.std.specs.Prelude.{nat_eq}
use Rattle.yaml_scan.specs.inside.Scanner.{scanner_of}
use Rattle.yaml_scan.specs.inside.Scanning.{groups_in, history}
use Rattle.yaml_scan.proofs.RunningCalls.NextOfInput.{few_made, history_length}
use Rattle.yaml_scan.proofs.RunningQueue.HeadIsNext.{head_tested}
use Rattle.yaml_scan.proofs.settled.is_settled.Goals as goal

pub is_awaited-requires : goal.is_awaited-requires
is_awaited-requires c = let r = c.requires.1 in let s = (scanner_of c.requires.0 c.args.state.now) in let a = r.holds.queue.count in let b = history_length s r in let d = few_made s r in let e = r.begun in omega arith

pub returns-then-not-is_empty : goal.returns-then-not-is_empty
returns-then-not-is_empty c = λ text r. let s = (scanner_of text c.args.state.now) in let q = s.layout.queue in let n : deque_len q.groups ≡ length q.groups.items = omega arith in
    ap not c.is_awaited.ensures ∙ head_tested (history s) (s.made + 1) s (groups_in s) r.holds false (sym c.if-not-is_empty.true ∙ c.is_empty.ensures ∙ ap (λ (k : ℕ). nat_eq k 0) n)

pub returns-else-not-is_empty : goal.returns-else-not-is_empty
returns-else-not-is_empty c = λ text r. let s = (scanner_of text c.args.state.now) in let q = s.layout.queue in let n : deque_len q.groups ≡ length q.groups.items = omega arith in
    ap not c.if-not-is_empty.false ∙ head_tested (history s) (s.made + 1) s (groups_in s) r.holds true (sym c.if-not-is_empty.false ∙ c.is_empty.ensures ∙ ap (λ (k : ℕ). nat_eq k 0) n)

use Rattle.std.proofs.Common.{◌≡◌, ◌++◌, replicate}
use Rattle.yaml_lexeme.proofs.block.push_feeds.Given as goal

abbrev pub invariant-feeds : goal.invariant-feeds
invariant-feeds l = l.out.items ≡ l.fn.out.items ++ replicate l.counter 0x0A

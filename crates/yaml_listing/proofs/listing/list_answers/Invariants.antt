use Rattle.std.proofs.Common.{◌≡◌, ◌++◌, map, take}
use Rattle.yaml_scan.specs.Seen.{seen_of}
use Rattle.yaml_listing.specs.Listing.{answer_lines}
use Rattle.yaml_listing.proofs.listing.list_answers.Given as goal

-- the lines so far are those of the answers so far
abbrev pub invariant-loop-answer : goal.invariant-loop-answer
invariant-loop-answer l = l.out.items ≡ l.fn.out.items ++ answer_lines (map seen_of (take l.answer-index l.answers))

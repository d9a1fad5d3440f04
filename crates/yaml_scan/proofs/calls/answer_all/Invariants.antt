use Rattle.std.proofs.Common.{◌+◌, ◌≤◌, map, take, length}
use Rattle.std.specs.Prelude.{vec_len}
use Rattle.std.specs.Vec.{vec_capacity}
use Rattle.yaml_scan.specs.ParserCalls.{call_of}
use Rattle.yaml_scan.specs.Decoded.{decoded_input}
use Rattle.yaml_scan.specs.Headline.{PutsAnswers}
use Rattle.yaml_scan.proofs.calls.answer_all.Given as goal

abbrev pub invariant-loop-call : goal.invariant-loop-call
invariant-loop-call l = record {
  room : vec_len l.out + length l.calls ≤ vec_capacity l.out + l.call-index;
  so_far : PutsAnswers decoded_input l.fn.parser (map call_of (take l.call-index l.calls)) l.fn.out.items l.out.items l.parser;
}

use Rattle.std.proofs.Common.{sym, subst, arith}
use Rattle.yaml_scan.specs.declared.calls.yaml_answer_t.{yaml_answer_t}
use Rattle.yaml_scan.specs.Seen.{seen_of}
use Rattle.yaml_scan.specs.CallWords.{SeenHasLine}
use Rattle.yaml_listing.proofs.LineOfEach.{line_at}
use Rattle.yaml_listing.proofs.listing.list_answers.Goals as goal

pub list_answer-requires : goal.list_answer-requires
list_answer-requires c =
    let answers = c.args.answers.now in
    let line = line_at seen_of answers c.loop-answer.answer-index c.answer-item.result c.requires (omega arith) in
    subst (λ (a : yaml_answer_t). SeenHasLine (seen_of a)) (sym c.answer-item.is) line

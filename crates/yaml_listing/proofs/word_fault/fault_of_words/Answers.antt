use Rattle.std.proofs.Common.{ℕ, List}
use Rattle.std.specs.Prelude.{string_bytes}
use Rattle.yaml_listing.specs.WordFault.{HasFault}
use Rattle.yaml_listing.proofs.WordFaults.{begins_so}
use Rattle.yaml_listing.proofs.word_fault.fault_of_words.Goals as goal

pub returns-in-Some-clause-some : goal.returns-in-Some-clause-some
returns-in-Some-clause-some c =
    begins_so string_bytes (λ (words : List (List ℕ)). HasFault words c.in-Some.fault) c.args.words.now
    c.command-item-2.result c.setting-item-2.result c.word-item-2.result
    c.as_str-in-len4-up.result.now c.as_str-in-len4-up-2.result.now c.as_str-in-len4-up-3.result.now
    c.in-len4-up.len_at_least c.command-item-2.is c.setting-item-2.is c.word-item-2.is
    c.as_str-in-len4-up.ensures.value c.as_str-in-len4-up-2.ensures.value c.as_str-in-len4-up-3.ensures.value
    c.in-Some.ensures.some

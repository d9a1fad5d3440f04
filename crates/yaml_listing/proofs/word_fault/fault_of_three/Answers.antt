use Rattle.std.proofs.Common.{◌∷◌, sym, ◌∙◌, inl}
use Rattle.yaml_listing.proofs.WordFaults.{limit_spells}
use Rattle.yaml_listing.specs.declared.args.yaml_command_t.TheVariants.{Calls}
use Rattle.yaml_listing.proofs.word_fault.fault_of_three.Goals as goal

pub returns-in-Some-clause-some : goal.returns-in-Some-clause-some
returns-in-Some-clause-some c = λ rest. c.in-Some.ensures.some (c.args.word.now ∷ rest)

pub returns-in-Some-parse_limit-clause-none : goal.returns-in-Some-parse_limit-clause-none
returns-in-Some-parse_limit-clause-none c =
    let start = c.in_default.ensures.none in
    let read = c.in-Some-parse_limit.ensures.some in
    limit_spells c.args.command.now c.args.setting.now c.args.word.now c.in-scan.is start.1
    (c.in-Some-parse_limit.field-0, read.1, read.0)

pub returns-in-calls-clause-none : goal.returns-in-calls-clause-none
returns-in-calls-clause-none c =
    let setting = c.in_default.ensures.none.1 in
    let named = setting.1 in
    let calls = c.in-calls.is in
    inl (Calls setting.0 c.args.word, record { words_are = cc; right = sym c.are_letters.ensures ∙ c.if-are_letters.true })

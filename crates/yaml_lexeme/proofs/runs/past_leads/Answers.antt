use Rattle.std.proofs.Common.{length, ◌≡◌, ◌+◌, ◌-◌, true, arith, sym, ap, ◌∙◌, take, drop, ℕ, List}
use Rattle.std.proofs.lemmas.List.{take_all, length-drop}
use Rattle.std.specs.List.{prefix_len, count_by}
use Rattle.yaml_lexeme.specs.inside.Runs.{begins, is_quiet, is_false_lead_of}
use Rattle.yaml_lexeme.proofs.ManyBytes.CharacterCounts.{count_small}
use Rattle.yaml_lexeme.proofs.ManyBytes.ClearRuns.{past_lead}
use Rattle.yaml_lexeme.proofs.runs.past_leads.Goals as goal

pub leads-preserved : goal.leads-preserved
leads-preserved c =
    let d = c.args.text.now in
    let i = c.leads.i in
    let lead : is_false_lead_of (drop i d) ≡ true = sym c.is_false_lead.ensures ∙ c.leads-test.true in
    let q = c.quiet_bytes-more in
    let rest = drop (i + 1) d in
    let whole : take (length d - (i + 1)) rest ≡ rest = take_all (length d - (i + 1)) rest (omega (arith, length-drop (i + 1) d)) in
    let more = q.ensures.bytes ∙ ap (prefix_len (is_quiet c.args.class)) whole in
    let count = q.ensures.chars ∙ ap (λ (xs : List ℕ). count_by begins (take q.result.0 xs)) whole in
    let p = past_lead c.args.class d i c.leads.n q.result.0 q.result.1 c.requires.line c.leads.invariant.clear c.leads.invariant.chars lead more count in
    record { clear = p.clear; within = p.within; chars = p.chars; fewer = omega (arith, c.leads.invariant.fewer, count, count_small begins q.result.0 rest) }

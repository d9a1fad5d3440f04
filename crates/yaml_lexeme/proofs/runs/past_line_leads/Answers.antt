use Rattle.std.proofs.Common.{rules, length, ◌≡◌, ◌<◌, ◌+◌, ◌-◌, ◌^◌, true, arith, sym, ap, ◌∙◌, refl, take, drop}
use Rattle.std.proofs.lemmas.List.{take_all, length-drop}
use Rattle.std.specs.List.{prefix_len, count_by}
use Rattle.yaml_lexeme.specs.declared.runs.class_t.TheVariants.{IN_LINE}
use Rattle.yaml_lexeme.specs.inside.Runs.{begins, is_quiet, is_false_lead_of}
use Rattle.yaml_lexeme.proofs.ManyBytes.ClearRuns.{PastLead, past_lead}
use Rattle.yaml_lexeme.proofs.runs.past_line_leads.Goals as goal
use Rattle.yaml_lexeme.proofs.runs.past_line_leads.Goals.{After-line_run}

past : (c : After-line_run) → PastLead IN_LINE c.args.text.now c.leads.i (count_by begins (take c.leads.i c.args.text.now)) c.line_run.result (count_by begins (take c.line_run.result (drop (c.leads.i + 1) c.args.text.now)))
past c =
    let d = c.args.text.now in
    let i = c.leads.i in
    let lead : is_false_lead_of (drop i d) ≡ true = sym c.is_false_lead.ensures ∙ c.leads-test.true in
    let rest = drop (i + 1) d in
    let whole : take (length d - (i + 1)) rest ≡ rest = take_all (length d - (i + 1)) rest (omega (arith, length-drop (i + 1) d)) in
    let more = c.line_run.ensures ∙ ap (prefix_len (is_quiet IN_LINE)) whole in
    past_lead IN_LINE d i (count_by begins (take i d)) c.line_run.result (count_by begins (take c.line_run.result rest)) refl c.leads.invariant.clear refl lead more refl

pub overflow_add-i-in-leads : goal.overflow_add-i-in-leads
overflow_add-i-in-leads c =
    let room : length c.args.text.now < 2 ^ 63 = search rules in
    omega (arith, (past (goal.at.overflow_add-i-in-leads c).After-line_run).within, room)

pub overflow_add-i-in-leads-2 : goal.overflow_add-i-in-leads-2
overflow_add-i-in-leads-2 c =
    let room : length c.args.text.now < 2 ^ 63 = search rules in
    omega (arith, (past (goal.at.overflow_add-i-in-leads-2 c).After-line_run).within, room)

pub leads-preserved : goal.leads-preserved
leads-preserved c = let p = past (goal.at.leads-preserved c).After-line_run in record { clear = p.clear; within = p.within }

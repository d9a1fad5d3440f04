use Rattle.std.proofs.Common.{◌≡◌, true, length, get_or, Some, ap, sym, ◌∙◌, arith, ltb-true, ltb-false}
use Rattle.std.proofs.lemmas.Bool.{false≢true}
use Rattle.yaml_text.specs.Token.{token_of}
use Rattle.yaml_scan.specs.declared.session.session_t.{session_t}
use Rattle.yaml_scan.specs.inside.Queue.{pending}
use Rattle.yaml_scan.specs.inside.Ready.{parser_of}
use Rattle.yaml_scan.proofs.RunningCalls.KeptCalls.{group_shown, lead_shown, shown_some}
use Rattle.yaml_scan.proofs.RunningCalls.KeptGoesOn.{is_shown, none_shown}
use Rattle.yaml_scan.proofs.session.session_t.shown.Goals as goal

pub returns-then-not-self : goal.returns-then-not-self
returns-then-not-self c = λ i e v. sym (none_shown (parser_of i) (ap (λ (z : session_t). z.peeked) e ∙ c.if-not-self.true))

pub returns-then-has_lead : goal.returns-then-has_lead
returns-then-has_lead c = λ i e v.
    let d : i.session.peeked ≡ true = ap (λ (z : session_t). z.peeked) e ∙ c.if-not-self.false in
    let l = ltb-true _ _ (sym c.has_lead.ensures ∙ c.if-has_lead.true) in
    let m = ap (λ (z : session_t). length (pending z.state.layout.queue.early z.state.layout.queue.early_mark z.state.layout.queue.groups.items)) e in
    ap (λ (z : session_t). Some (token_of z.lead)) (sym e) ∙ ap Some (lead_shown i v d (omega (arith, l, m))) ∙ sym (is_shown (parser_of i) d)

pub returns-in-Some : goal.returns-in-Some
returns-in-Some c = λ i e v.
    let d : i.session.peeked ≡ true = ap (λ (z : session_t). z.peeked) e ∙ c.if-not-self.false in
    let l = ltb-false _ _ (sym c.has_lead.ensures ∙ c.if-has_lead.false) in
    let m = ap (λ (z : session_t). length (pending z.state.layout.queue.early z.state.layout.queue.early_mark z.state.layout.queue.groups.items)) e in
    let y = c.in-Some.ensures.lookup ∙ ap (λ (z : session_t). get_or z.state.layout.queue.groups.items 0 c.in-Some.head.now) (sym e) in
    ap Some (group_shown i v d c.in-Some.head.now y (omega (arith, l, m))) ∙ sym (is_shown (parser_of i) d)

pub returns-in-None : goal.returns-in-None
returns-in-None c = λ i e v.
    let d : i.session.peeked ≡ true = ap (λ (z : session_t). z.peeked) e ∙ c.if-not-self.false in
    let m = ap (λ (z : session_t). length z.state.layout.queue.groups.items) e in
    let l = shown_some i v d in
    absurd (false≢true (c.in-None.ensures.variant.1 (omega (arith, l, m))))

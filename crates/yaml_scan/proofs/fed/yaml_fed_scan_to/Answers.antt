use Rattle.std.proofs.Common.{List, ap, sym, ◌∙◌, subst}
use Rattle.std.proofs.lemmas.Bool.{false≢true}
use Rattle.yaml_text.specs.Token.{Token}
use Rattle.yaml_scan.specs.declared.fed.yaml_fed_parser_t.{yaml_fed_parser_t}
use Rattle.yaml_scan.specs.inside.Feeding.{IsReadyFed}
use Rattle.yaml_scan.proofs.RunningCalls.FedGives.{gives_later, gives_no_more, ready_still}
use Rattle.yaml_scan.proofs.fed.yaml_fed_scan_to.Goals as goal
use Rattle.yaml_scan.proofs.fed.yaml_fed_scan_to.Goals.{then-not-fed+in_default, else-not-fed}

pub returns-then-fed-clause-gives : goal.returns-then-fed-clause-gives
returns-then-fed-clause-gives g c = λ p e w F.
    gives_no_more p c.args.fed.now (λ (ts : List Token). g.S.yaml_token_sink_t.took c.args.sink.now ts c.args.sink.now) (g.S.yaml_token_sink_t.lacks c.args.sink.now) F c.if-fed.true (g.met.S.yaml_token_sink_t.took_none c.args.sink.now)

pub returns-in-Some-clause-gives : goal.returns-in-Some-clause-gives
returns-in-Some-clause-gives g c = λ p e w F. let n = c.in-Some.ensures p e w F in
    gives_later p c.feed.new.self c.in-Some.why (λ (ts : List Token). g.S.yaml_token_sink_t.took c.args.sink.now ts c.args.sink.now) (g.S.yaml_token_sink_t.lacks c.args.sink.now) n.0 n.1 (g.met.S.yaml_token_sink_t.took_none c.args.sink.now)

pub give_certain-requires-clause-at : goal.give_certain-requires-clause-at
give_certain-requires-clause-at g c = let r = c.requires.at in (
  r.0,
  r.1,
  elim c.if-not-fed.branch [
    | then-not-fed+in_default w ↦ (c.args.input.now, subst (λ (x : yaml_fed_parser_t). IsReadyFed r.0 x c.args.input.now) (sym w.fed-is) (w.in_default.ensures r.0 r.1 r.2 r.3))
    | else-not-fed w ↦ (r.3.came, subst (λ (x : yaml_fed_parser_t). IsReadyFed r.0 x r.3.came) (sym w.fed-is) (ready_still r.0 c.args.fed.now r.3 c.if-fed.false w.if-not-fed.false))
  ],
)

pub returns-then-fed-2-clause-gives : goal.returns-then-fed-2-clause-gives
returns-then-fed-2-clause-gives g c = λ p e v F. elim c.if-not-fed.branch [
  | then-not-fed+in_default w ↦ c.give_certain.ensures.gives p e c.args.input.now (subst (λ (x : yaml_fed_parser_t). IsReadyFed p x c.args.input.now) (sym w.fed-is) (w.in_default.ensures p e v F))
  | else-not-fed w ↦ c.give_certain.ensures.gives p e F.came (subst (λ (x : yaml_fed_parser_t). IsReadyFed p x F.came) (sym w.fed-is) (ready_still p c.args.fed.now F c.if-fed.false w.if-not-fed.false))
]

pub returns-else-fed-2-clause-gives : goal.returns-else-fed-2-clause-gives
returns-else-fed-2-clause-gives g c = λ p e v F. c.give_unfinished.ensures.gives p e (elim c.if-not-fed.branch [
  | then-not-fed+in_default w ↦ subst (λ (x : yaml_fed_parser_t). IsReadyFed p x c.args.input.now) (sym w.fed-is) (w.in_default.ensures p e v F)
  | else-not-fed w ↦ absurd (false≢true (sym c.if-fed-2.false ∙ ap (λ (x : yaml_fed_parser_t). x.certain) w.fed-is ∙ w.if-not-fed.false))
])

use Rattle.std.proofs.Common.{List, refl, sym, ◌∙◌, subst, inl, inr}
use Rattle.yaml_text.specs.Fault.{fault_of}
use Rattle.yaml_scan.specs.KeptCalls.{GivesMore, GivesToFault}
use Rattle.yaml_scan.specs.Parser.{Parser}
use Rattle.yaml_scan.specs.Session.Call.{SCAN}
use Rattle.yaml_scan.specs.Token.{yaml_token_t}
use Rattle.yaml_scan.specs.inside.Kept.{scan_of}
use Rattle.yaml_scan.specs.inside.Ready.{parser_of}
use Rattle.yaml_scan.proofs.RunningCalls.KeptCalls.{fault_is, gives_more, gives_none, gives_to_fault, is_kept, is_left_so, over_is, over_this, stopped_left}
use Rattle.yaml_scan.proofs.scanner.yaml_kept_scan_to.Goals as goal
use Rattle.yaml_scan.proofs.scanner.yaml_kept_scan_to.Goals.{then-kept-via-then-kept, then-kept-via-else-kept+then-not-has_room}

pub returns-then-kept-clause-more : goal.returns-then-kept-clause-more
returns-then-kept-clause-more g c = λ result p e k. (
  p,
  k,
  gives_none p (λ ts. g.S.yaml_token_sink_t.took c.args.sink.now ts c.args.sink.now) (g.met.S.yaml_token_sink_t.took_none c.args.sink.now),
  elim c.then-kept.branch [
    | then-kept-via-then-kept w ↦ inl (sym (over_is p c.args.kept.now k) ∙ w.if-kept.true)
    | then-kept-via-else-kept+then-not-has_room w ↦ inr (inl (w.has_room.ensures.lack w.if-not-has_room.true))
  ],
)

pub give-requires-clause-is : goal.give-requires-clause-is
give-requires-clause-is g c = let r = c.requires.at in (over_this r.0 c.args.input.now c.args.kept.now r.1 r.2).0

pub returns-in-Ok-clause-more : goal.returns-in-Ok-clause-more
returns-in-Ok-clause-more g c = λ result p e k.
    let i = scan_of c.args.input.now c.args.kept.now in
    let l = c.give.new.self in
    let w = c.in-Ok.ensures.gives in
    let z = w.0 in
    let t = w.1 in
    let took : List yaml_token_t → Type 0 = λ ts. g.S.yaml_token_sink_t.took c.args.sink.now ts c.give.new.sink in (
      parser_of (scan_of c.args.input.now l),
      is_kept c.args.input.now l (is_left_so c.args.input.now c.args.kept.now l z t.2.sound),
      subst (λ (q : Parser). GivesMore q (parser_of (scan_of c.args.input.now l)) took) (over_this p c.args.input.now c.args.kept.now e k).1 (gives_more i (scan_of c.args.input.now l) t.0 took refl c.if-kept.false t.2 t.1),
      t.3,
    )

pub returns-in-Err-clause-fault : goal.returns-in-Err-clause-fault
returns-in-Err-clause-fault g c = λ result p e k.
    let x = c.args.input.now in
    let a = c.args.kept.now in
    let l = c.give.new.self in
    let w = c.in-Err.ensures.gives in
    let h = w.2 in
    let s = h.stops in
    let f = c.close.ensures.1 in
    let d = c.close.ensures.2 in
    let took : List yaml_token_t → Type 0 = λ ts. g.S.yaml_token_sink_t.took c.args.sink.now ts c.give.new.sink in
    let j = scan_of x (record { setting = l.setting; text = l.text; session = c.close.new.self }) in (
      parser_of j,
      is_kept x _ (stopped_left x a l h.setting s.last c.close.ensures.0 _ f s.stops c.close.new.self d),
      fault_of c.close.ensures.0,
      fault_is x a l h.setting s.last c.close.ensures.0 _ f s.stops c.close.new.self d,
      subst (λ (q : Parser). GivesToFault SCAN q (parser_of j) took (fault_of c.close.ensures.0)) (over_this p x a e k).1 (gives_to_fault x a l h.setting s.last c.close.ensures.0 _ f s.stops c.close.new.self d w.0 s.on s.first c.if-kept.false took w.1),
    )

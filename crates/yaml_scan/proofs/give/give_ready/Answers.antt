use Rattle.std.proofs.Common.{◌∷◌, [], ◌++◌, List, sym, subst}
use Rattle.yaml_text.specs.Token.{token_of}
use Rattle.yaml_scan.specs.Groups.{Token}
use Rattle.yaml_scan.specs.inside.Scanner.{scanner_of}
use Rattle.yaml_scan.specs.inside.Handed.{Gives, told_leads}
use Rattle.yaml_scan.specs.inside.Scanning.{groups_in}
use Rattle.yaml_scan.proofs.give.give_ready.Goals as goal

pub returns-then-is_bare : goal.returns-then-is_bare
returns-then-is_bare g c = let t = c.take_group-group.ensures in let y = c.take_group-group.result in
    let none = c.is_bare.ensures c.if-is_bare.true y (groups_in (scanner_of c.args.text.now c.take_group-group.new.state)) t.head in (
      y,
      t.head,
      t.drains,
      subst (λ (ls : List Token). Gives (λ ts. g.S.yaml_token_sink_t.took c.args.sink.now ts c.give.new.sink) g.S.yaml_token_sink_t.may_refuse (told_leads ls ++ token_of y.token ∷ []) c.give.result) (sym none) c.give.ensures,
    )

pub returns-else-is_bare : goal.returns-else-is_bare
returns-else-is_bare g c = let t = c.take_group-group-else-is_bare.ensures in (c.take_group-group-else-is_bare.result, t.head, t.drains, c.give_group.ensures)

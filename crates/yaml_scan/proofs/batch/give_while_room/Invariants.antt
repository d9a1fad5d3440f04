use Rattle.std.proofs.Common.{◌≡◌, ◌⊎◌, ◌+◌, ◌-◌, true, false, List, [], length}
use Rattle.std.specs.Prelude.{if◌then◌else◌}
use Rattle.yaml_text.specs.Token.{Token}
use Rattle.yaml_scan.specs.KeptCalls.{HasNoMoreRoom}
use Rattle.yaml_scan.specs.inside.Given.{all_in}
use Rattle.yaml_scan.specs.inside.KeptParts.{GoesOnTo, HasBegun}
use Rattle.yaml_scan.specs.inside.Ready.{Scan, parser_of, with_session}
use Rattle.yaml_scan.specs.inside.Scanner.{scanner_of}
use Rattle.yaml_scan.proofs.batch.give_while_room.Given as goal

abbrev pub invariant-tokens : goal.invariant-tokens
invariant-tokens g l = ((i : Scan) → HasBegun i l.fn.text l.fn.session
    → (l.more ≡ true → (HasBegun i l.text l.session × g.S.yaml_token_sink_t.took l.fn.sink [] l.sink)
    ⊎ ((tokens : List Token) × g.S.yaml_token_sink_t.took l.fn.sink tokens l.sink × GoesOnTo i (with_session i l.session) tokens × (l.session.over ≡ false)))
    × (l.more ≡ false → (tokens : List Token) × g.S.yaml_token_sink_t.took l.fn.sink tokens l.sink × GoesOnTo i (with_session i l.session) tokens
    × HasNoMoreRoom (g.S.yaml_token_sink_t.lacks l.sink) (parser_of (with_session i l.session))))
    × (g.S.yaml_token_sink_t.within l.fn.sink → g.S.yaml_token_sink_t.within l.sink)

abbrev pub decreases-tokens : goal.decreases-tokens
decreases-tokens g l = if l.more then 1 + (length (all_in (scanner_of l.text l.session.state)) - l.session.state.taken) else 0

-- What holds of a parser once the token that it showed is released.
use Rattle.std.specs.Prelude.{⊤, []}
use Rattle.std.specs.Borrow.{MutBor, Fml}
use mathlib.Core.Option.{none}
use denote.Follow.{follows_so}
use mir.Syntax.{named}
use Rattle.yaml_scan.specs.contracts.parser.yaml_parser_t.{the_row}
use Rattle.yaml_scan.specs.Parser.{Parser}

-- while the token is held, nothing is said of the parser that was lent; once it is released, P holds of it
abbrev pub OnceLetGo : MutBor Parser → (Parser → Type 0) → Fml
OnceLetGo parser P =
    let parsers = the_row (record { mir = named 1; lft = [] }) in
    follows_so parsers parsers parser.ghost_name none (λ _ _. ⊤) P

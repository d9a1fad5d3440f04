use Rattle.std.proofs.Common.{refl, ap, ◌∙◌}
use Rattle.yaml_text.specs.Token.{token_of}
use Rattle.yaml_scan.specs.Parser.{Parser}
use Rattle.yaml_scan.specs.ParserCalls.{token_shown}
use Rattle.yaml_scan.specs.inside.Kept.{parser_in, scan_of}
use Rattle.yaml_scan.proofs.RunningCalls.KeptGoesOn.{none_peeked, some_peeked}
use Rattle.yaml_scan.proofs.parser.yaml_parser_t.shown.Goals as goal

pub returns-in-Some : goal.returns-in-Some
returns-in-Some c = let P = c.self.inside in
    some_peeked (parser_in P) (token_of c.in-Some.token.now) (ap (λ o. o) (rw c.in-Some.is at c.shown.ensures (scan_of P.input.now P.scanner) refl c.self.invariant.scanner.sound)) ∙ ap (λ (z : Parser). token_shown z) c.self.view_is

pub returns-in-None : goal.returns-in-None
returns-in-None c = let P = c.self.inside in
    c.self.invariant.empty ∙ none_peeked (parser_in P) (rw c.in-None.is at c.shown.ensures (scan_of P.input.now P.scanner) refl c.self.invariant.scanner.sound) ∙ ap (λ (z : Parser). token_shown z) c.self.view_is

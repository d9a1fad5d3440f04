-- A scanner without an input, and a parser, which has both.
use Rattle.std.specs.Prelude.{◌≡◌, ◌<◌, ℕ, List, Option, false}
use Rattle.std.specs.Option.{IfSome}
use Rattle.yaml_text.specs.Decode.{front}
use Rattle.yaml_text.specs.Kept.{IsKeptOf}
use Rattle.yaml_text.specs.Text.{Text}
use Rattle.yaml_text.specs.Token.{token_of}
use Rattle.yaml_scan.specs.declared.scanner.scanner_t.{scanner_t}
use Rattle.yaml_scan.specs.declared.parser.yaml_parser_t.TheInside.{Inside}
use Rattle.yaml_scan.specs.Parser.{Parser}
use Rattle.yaml_scan.specs.Token.{empty}
use Rattle.yaml_scan.specs.inside.Ready.{Scan, Sound, parser_of}

-- its scan of this input
abbrev pub scan_of : List ℕ → scanner_t → Scan
scan_of input k = record { setting = k.setting; input = input; session = k.session }

-- It is a scanner of this input. Before the first step and after the last no text is needed.
pub record IsScannerOf (input : List ℕ) (k : scanner_t) : Type 0 where
  pub sound : Sound (scan_of input k)
  pub text : k.session.over ≡ false → 0 < k.session.state.made → IsKeptOf (front k.setting input) input k.text

-- If it is there, it is the text of this input, whose first step was made.
abbrev pub IsPartOf : List ℕ → scanner_t → Option Text → Type 0
IsPartOf input k part = IfSome part (λ text. (text ≡ front k.setting input) × (0 < k.session.state.made))

-- It was kept of this parser.
pub record IsKept (p : Parser) (k : scanner_t) : Type 0 where
  pub is : IsScannerOf p.input k
  pub seen_as : parser_of (scan_of p.input k) ≡ p

-- THE PARSER
-- as its calls see it
abbrev pub parser_in : Inside → Parser
parser_in p = parser_of (scan_of p.input.now p.scanner)

pub record IsSound (p : Inside) : Type 0 where
  pub scanner : IsScannerOf p.input.now p.scanner
  pub part : IsPartOf p.input.now p.scanner p.part
  pub empty : token_of p.empty ≡ empty

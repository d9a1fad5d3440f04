-- What is read of the characters of a text.
use Rattle.std.specs.Prelude.{ℕ, ◌-◌, List, length, Some, Result, Ok, Err}
use Rattle.yaml_text.specs.Fault.{scanner_fault}
use Rattle.yaml_lexeme.specs.Lexeme.{Lexeme as yaml_lexeme_t}
use Rattle.yaml_lexeme.specs.Place.{Place, place_at}
use Rattle.yaml_lexeme.specs.Reading as lexemes
use Rattle.yaml_lexeme.specs.Gap.{gap}
use Rattle.yaml_lexeme.specs.Kind.{kind_at}
use Rattle.yaml_lexeme.specs.Lex.{lex}
use Rattle.yaml_lexeme.specs.FaultTexts.{problem_text, context_text}
use Rattle.yaml_scan.specs.Kind.{Kind}
use Rattle.yaml_scan.specs.Source.{Source, Reading, Offence}

-- how many of n characters are before a place
abbrev pub count_to : ℕ → Place → ℕ
count_to n p = n - length p.rest

abbrev pub reading : yaml_lexeme_t → ℕ → Reading
reading l place = record {
  token_data = l.token_data;
  end = l.end_mark;
  reach = l.reach;
  place = place;
  passed_break = l.passed_break;
}

-- an offence of a lexeme of kind k that starts at p
abbrev pub offence : Kind → Place → lexemes.Offence → ℕ → Offence
offence k p e place = record {
  fault = scanner_fault (problem_text e.problem) e.at.mark
      (Some (context_text k e.problem)) p.mark;
  place = place;
}

abbrev pub reading_of : ℕ → Kind → Place → lexemes.Read yaml_lexeme_t → Result Reading Offence
reading_of n k p (Ok f) = Ok (reading f.value (count_to n f.end))
reading_of n k p (Err e) = Err (offence k p e (count_to n e.at))

unfoldable pub source_of : List ℕ → Source
source_of cs = record {
  size = length cs;
  mark = λ p. (place_at cs p).mark;
  gap = λ flow allowed p. count_to (length cs) (gap flow allowed (place_at cs p)).0;
  kind = λ flow p. kind_at flow (place_at cs p);
  read = λ k d l p. reading_of (length cs) k (place_at cs p) (lex k (record { depth = d; level = l }) (place_at cs p));
}

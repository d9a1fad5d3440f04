-- A scalar that stands in the text is laid as the token that it is.
use Rattle.std.proofs.Common.{◌≡◌, ℕ, ◌<◌, ◌^◌, List, length, None, refl, le_refl, sym, subst}
use Rattle.std.specs.declared.alloc.Global.{Global}
use denote.RawPtr.{null_ptr}
use Rattle.yaml_text.specs.declared.types.yaml_mark_t.{yaml_mark_t}
use Rattle.yaml_text.specs.declared.types.yaml_scalar_style_t.{yaml_scalar_style_t}
use Rattle.yaml_text.specs.declared.token.yaml_token_t.{yaml_token_t as code_token_t}
use Rattle.yaml_text.specs.declared.token.unnamed_yaml_token_t_data.TheVariants as code
use Rattle.yaml_lexeme.specs.Counted.{IsMarkOf}
use Rattle.yaml_lexeme.specs.LexemeOf.{part_from}
use Rattle.yaml_lexeme.specs.declared.lexeme.yaml_part_t.{yaml_part_t}
use Rattle.yaml_scan.specs.Kind.{Kind}
use Rattle.yaml_scan.specs.Laid.{Laid}
use Rattle.yaml_scan.specs.declared.met.met_t.{met_t}
use Rattle.yaml_scan.specs.inside.Scanner.{Scanner}
use Rattle.yaml_scan.specs.inside.Scanning.{CanLayAll, CanRead, lost_after, met_in}
use Rattle.yaml_scan.specs.inside.TextReads.{IsRead}

-- a token of the code that says what the scalar says
abbrev pub scalar_with : Global → (value : List ℕ) → length value < 2 ^ 63 → yaml_scalar_style_t → yaml_mark_t → yaml_mark_t → code_token_t
scalar_with heap value small style start end = record {
  token_data = code.SCALAR (record { ptr = null_ptr; len = length value; cap = length value; alloc = heap; items = value; ok = (refl, le_refl (length value)); small = small }) style;
  start_mark = start;
  end_mark = end;
}

-- a scalar that was read can be laid, if it is not near the fault and no candidate is lost
pub part_can : (H : List Laid) (s : Scanner) (r : met_t) (k : Kind) (part : yaml_part_t) → CanRead H s r → r.kind ≡ k → ((start : yaml_mark_t) (p : ℕ) → IsMarkOf s.text.chars s.gap_end p → IsRead s.text.chars k r.context.depth r.context.level p (part_from start part))
    → lost_after s.limit s.slots (met_in s r) r.new part.reach ≡ None → part.reach.index < s.near → (start : yaml_mark_t) → CanLayAll H s r (part_from start part)
part_can H s r k part can e read lost far start = record {
  can = can;
  read = λ p i. subst (λ (z : Kind). IsRead s.text.chars z r.context.depth r.context.level p (part_from start part)) (sym e) (read start p i);
  none_lost = lost;
  far = far;
}

use Rattle.std.proofs.Common.{◌≡◌, ◌∙◌, sym, ℕ, true, leb, leb-true, inl, inr}
use Rattle.std.proofs.lemmas.Bool.{cases_Bool, and_parts}
use Rattle.std.specs.Char.{is_ascii_alphanumeric, IsAsciiAlphanumeric}
use Rattle.std.specs.Int.{is_in_range, IsInRange}
use Rattle.yaml_lexeme.specs.declared.kind.TheConstants.{LETTERS_AND_DIGITS}
use Rattle.yaml_lexeme.proofs.Places.AsciiTables.{table_tells}
use Rattle.yaml_lexeme.proofs.kind.is_letter_or_digit.Goals as goal

in_range : (a b c : ℕ) → is_in_range a b c ≡ true → IsInRange a b c
in_range a b c h = let parts = and_parts (leb a c) (leb c b) h in (leb-true a c parts.0, leb-true c b parts.1)

ranges : (c : ℕ) → is_ascii_alphanumeric c ≡ true → IsAsciiAlphanumeric c
ranges c h = elim (cases_Bool (is_in_range 48 57 c)) [
  | inl digit ↦ inl (inl (in_range 48 57 c digit))
  | inr none ↦ elim (cases_Bool (is_in_range 65 90 c)) [
    | inl capital ↦ inl (inr (in_range 65 90 c capital))
    | inr other ↦ inr (in_range 97 122 c (rw (none, other) at h))
  ]
]

pub returns-then-c-lt128-clause-value : goal.returns-then-c-lt128-clause-value
returns-then-c-lt128-clause-value c = table_tells LETTERS_AND_DIGITS is_ascii_alphanumeric c.args.c c.if-c-lt128.true tt

pub returns-then-c-lt128-clause-ranges : goal.returns-then-c-lt128-clause-ranges
returns-then-c-lt128-clause-ranges c = λ yes. ranges c.args.c (sym (table_tells LETTERS_AND_DIGITS is_ascii_alphanumeric c.args.c c.if-c-lt128.true tt) ∙ yes)

-- Directives (YAML 1.1, 7.1 Directives).
use Rattle.std.specs.Prelude.{ℕ, pos, true, not, ◌==◌, nat_lt, if◌then◌else◌, List, ◌++◌, length, codes}
use Rattle.std.specs.Str.{bytes_eq}
use Rattle.std.specs.Str.Parse.{digits_value}
use Rattle.yaml_text.specs.Classes.{is_alpha, is_blank, is_digit}
use Rattle.yaml_text.specs.Token.{TokenData}
use Rattle.yaml_text.specs.Token.TokenData.{VERSION_DIRECTIVE, TAG_DIRECTIVE}
use Rattle.yaml_lexeme.specs.declared.problem.yaml_problem_t.TheVariants as problem
use Rattle.yaml_lexeme.specs.Lexeme.{Directive}
use Rattle.yaml_lexeme.specs.Classes.{ends}
use Rattle.yaml_lexeme.specs.Place.{Place, first, skip, run, run_len, after_run}
use Rattle.yaml_lexeme.specs.Block.{after_line}
use Rattle.yaml_lexeme.specs.Uri.{some_uri}
use Rattle.yaml_lexeme.specs.Reading.{Read, found, refuse, ◌>>=◌}

-- one to nine digits
unfoldable pub number : Place → Read ℕ
number p =
    if run_len is_digit p == 0 then refuse problem.NO_NUMBER p
    else if nat_lt 9 (run_len is_digit p) then refuse problem.LONG_NUMBER (skip 9 p)
    else found (digits_value 10 (run is_digit p)) (after_run is_digit p)

-- after `YAML`
unfoldable pub version_at : Place → Read TokenData
version_at p =
    number (after_run is_blank p) >>= λ major.
    if not (first major.end == 0x2E) then refuse problem.NO_DOT major.end
    else number (skip 1 major.end) >>= λ minor. found (VERSION_DIRECTIVE (pos major.value) (pos minor.value)) minor.end

-- `!`, or `!`, a name and `!`
unfoldable pub handle_at : Place → Read (List ℕ)
handle_at p =
    let letters = run is_alpha (skip 1 p) in
    let end = after_run is_alpha (skip 1 p) in
    if not (first p == 0x21) then refuse problem.NO_HANDLE p
    else if first end == 0x21 then found (codes "!" ++ letters ++ codes "!") (skip 1 end)
    else if nat_lt 0 (length letters) then refuse problem.OPEN_HANDLE end
    else found (codes "!") end

-- after `TAG`
unfoldable pub tag_directive_at : Place → Read TokenData
tag_directive_at p =
    handle_at (after_run is_blank p) >>= λ handle.
    if not (is_blank (first handle.end)) then refuse problem.NO_BLANK handle.end
    else some_uri true (after_run is_blank handle.end) >>= λ prefix.
    if not (ends (first prefix.end)) then refuse problem.NO_BLANK_OR_BREAK prefix.end
    else found (TAG_DIRECTIVE handle.value prefix.value) prefix.end

-- by the name
unfoldable pub named : List ℕ → Place → Read TokenData
named letters p =
    if bytes_eq letters (codes "YAML") then version_at p
    else if bytes_eq letters (codes "TAG") then tag_directive_at p
    else refuse problem.UNKNOWN_DIRECTIVE p

-- at `%`: what the directive says, and the mark after that. The rest of its line is read with it.
unfoldable pub directive : Place → Read Directive
directive p =
    let letters = run is_alpha (skip 1 p) in
    let end = after_run is_alpha (skip 1 p) in
    if length letters == 0 then refuse problem.NO_DIRECTIVE_NAME end
    else if not (ends (first end)) then refuse problem.DIRECTIVE_NAME_GOES_ON end
    else named letters end >>= λ d.
    after_line d.end >>= λ next. found (record { says = d.value; end = d.end.mark }) next

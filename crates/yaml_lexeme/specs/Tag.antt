-- Tags (YAML 1.1, 8.2 Node Tags).
use Rattle.std.specs.Prelude.{Bool, true, false, ◌&&◌, ◌||◌, ◌==◌, if◌then◌else◌, ℕ, List, [], ◌∷◌, ◌++◌, codes}
use Rattle.yaml_text.specs.Classes.{is_alpha}
use Rattle.yaml_text.specs.Token.{TokenData}
use Rattle.yaml_text.specs.Token.TokenData.{TAG}
use Rattle.yaml_lexeme.specs.declared.problem.yaml_problem_t.TheVariants.{NO_BLANK_OR_BREAK, NO_CLOSING_ANGLE}
use Rattle.yaml_lexeme.specs.Classes.{ends}
use Rattle.yaml_lexeme.specs.Place.{Place, first, skip, run, after_run}
use Rattle.yaml_lexeme.specs.Uri.{uri, some_uri}
use Rattle.yaml_lexeme.specs.Reading.{Read, found, refuse, ◌>>=◌}

-- the tag of a `!` with a suffix; a lone `!` is itself the suffix
abbrev pub lone : List ℕ → TokenData
lone [] = TAG [] (codes "!")
lone (c ∷ cs) = TAG (codes "!") (c ∷ cs)

-- after `!`, at `<`
unfoldable pub angled : Place → Read TokenData
angled p =
    some_uri true (skip 1 p) >>= λ r.
    if first r.end == 0x3E then found (TAG [] r.value) (skip 1 r.end) else refuse NO_CLOSING_ANGLE r.end

-- the tag of a handle with a name, and a suffix
abbrev pub with_handle : List ℕ → List ℕ → TokenData
with_handle letters suffix = TAG (codes "!" ++ letters ++ codes "!") suffix

-- after `!`
unfoldable pub handled : Place → Read TokenData
handled p =
    let letters = run is_alpha p in
    let end = after_run is_alpha p in
    if first end == 0x21 then (some_uri false (skip 1 end) >>= λ r. found (with_handle letters r.value) r.end)
    else uri false end >>= λ r. found (lone (letters ++ r.value)) r.end

abbrev pub tag_parts : Place → Read TokenData
tag_parts p = if first (skip 1 p) == 0x3C then angled (skip 1 p) else handled (skip 1 p)

-- handle and suffix, at `!`
unfoldable pub tag : Bool → Place → Read TokenData
tag flow p = tag_parts p >>= λ t.
    if ends (first t.end) || (flow && first t.end == 0x2C) then found t.value t.end else refuse NO_BLANK_OR_BREAK t.end

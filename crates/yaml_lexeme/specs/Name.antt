-- Anchors and aliases (YAML 1.1, 8.1 Node Anchors and 8.4 Alias Nodes).
use Rattle.std.specs.Prelude.{ℕ, Bool, ◌&&◌, ◌||◌, nat_lt, if◌then◌else◌, List, length, codes}
use Rattle.yaml_text.specs.Classes.{is_alpha}
use Rattle.yaml_lexeme.specs.declared.problem.yaml_problem_t.TheVariants.{NO_NAME}
use Rattle.yaml_lexeme.specs.Classes.{ends, is_one_of}
use Rattle.yaml_lexeme.specs.Place.{Place, first, skip, run, after_run}
use Rattle.yaml_lexeme.specs.Reading.{Read, found, refuse}

-- what is allowed after a name
abbrev pub is_after_name : ℕ → Bool
is_after_name c = ends c || is_one_of (codes "?:,]}%@`") c

-- the name after `&` or `*`
unfoldable pub name : Place → Read (List ℕ)
name p =
    let letters = run is_alpha (skip 1 p) in
    let end = after_run is_alpha (skip 1 p) in
    if nat_lt 0 (length letters) && is_after_name (first end) then found letters end
    else refuse NO_NAME end

-- Uris of tags, and their escapes (YAML 1.1, 5.5 Miscellaneous Characters).
use Rattle.std.specs.Prelude.{ℕ, zero, suc, ◌-◌, Bool, ◌&&◌, ◌||◌, ◌==◌, if◌then◌else◌, List, []}
use Rattle.std.specs.Prelude.{◌∷◌, length, codes, not}
use Rattle.std.specs.List.{concat}
use Rattle.std.specs.Str.Parse.{digits_value}
use Rattle.yaml_text.specs.Classes.{is_alpha, is_hex}
use Rattle.yaml_text.specs.Utf8.{width_of, continues}
use Rattle.yaml_lexeme.specs.declared.problem.yaml_problem_t.TheVariants as problem
use Rattle.yaml_lexeme.specs.Classes.{is_one_of}
use Rattle.yaml_lexeme.specs.Place.{Place, peek, first, skip}
use Rattle.yaml_lexeme.specs.Reading.{Read, found, refuse, ◌>>=◌, Part, part, over, many}

-- the characters of a uri; commas and brackets only if they are `listed`
abbrev pub is_uri : Bool → ℕ → Bool
is_uri listed c = is_alpha c || (is_one_of (codes ";/?:@&=+$.!~*'()") c || (listed && is_one_of (codes ",[]") c))

-- `%` and two hex digits
abbrev pub is_octet : Place → Bool
is_octet p = first p == 0x25 && (is_hex (peek p 1) && is_hex (peek p 2))

-- what these digits spell
abbrev pub octet_value : Place → ℕ
octet_value p = digits_value 16 (peek p 1 ∷ peek p 2 ∷ [])

unfoldable pub octet : Place → Read ℕ
octet p = if is_octet p then found (octet_value p) (skip 3 p) else refuse problem.NO_OCTET p

unfoldable pub next_octets : ℕ → Place → Read (List ℕ)
next_octets zero p = found [] p
next_octets (suc n) p =
    octet p >>= λ c.
    if not (continues c.value) then refuse problem.BAD_NEXT_OCTET p
    else next_octets n c.end >>= λ more. found (c.value ∷ more.value) more.end

-- a lead octet and as many later ones as it needs
unfoldable pub uri_escape : Place → Read (List ℕ)
uri_escape p =
    octet p >>= λ lead.
    if width_of lead.value == 0 then refuse problem.BAD_LEAD_OCTET p
    else next_octets (width_of lead.value - 1) lead.end >>= λ more. found (lead.value ∷ more.value) more.end

unfoldable pub uri_part : Bool → Place → Part (List ℕ)
uri_part listed p =
    if first p == 0x25 then (uri_escape p >>= λ r. part r.value r.end)
    else if is_uri listed (first p) then part (first p ∷ []) (skip 1 p)
    else over

-- the longest list of its characters and escapes
unfoldable pub uri : Bool → Place → Read (List ℕ)
uri listed p = many (uri_part listed) p >>= λ parts. found (concat parts.value) parts.end

-- a uri of a character or more
unfoldable pub some_uri : Bool → Place → Read (List ℕ)
some_uri listed p =
    uri listed p >>= λ r. if length r.value == 0 then refuse problem.NO_URI r.end else found r.value r.end

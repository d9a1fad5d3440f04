-- Decoding: the characters that an input spells, or what is wrong after them (YAML 1.1, sections 5.1 and 5.2).
use Rattle.std.specs.Prelude.{ℕ, zero, suc, ◌+◌, Bool, ◌&&◌, ◌==◌, slice_index, if◌then◌else◌}
use Rattle.std.specs.Prelude.{List, [], ◌∷◌, length, take, drop, encode_utf8, Option, Some, None}
use Rattle.std.specs.Prelude.{false, true}
use Rattle.std.specs.Str.{bytes_eq}
use Rattle.yaml_text.specs.declared.types.yaml_encoding_t.{yaml_encoding_t}
use Rattle.yaml_text.specs.declared.types.yaml_encoding_t.TheVariants.{YAML_ANY_ENCODING, YAML_UTF8_ENCODING}
use Rattle.yaml_text.specs.declared.types.yaml_encoding_t.TheVariants.{YAML_UTF16LE_ENCODING, YAML_UTF16BE_ENCODING}
use Rattle.yaml_text.specs.declared.offence.offence_t.{offence_t}
use Rattle.yaml_text.specs.Chars.{is_char, utf8}
use Rattle.yaml_text.specs.Utf8.{value8, offence8}
use Rattle.yaml_text.specs.Utf16.{spelling16, utf16, value16, offence16}
use Rattle.yaml_text.specs.Fault.{Fault, reader_fault}
use Rattle.yaml_text.specs.Text.{Text}

-- How a character is spelled.
abbrev pub spelling : yaml_encoding_t → ℕ → List ℕ
spelling YAML_UTF16LE_ENCODING c = spelling16 false c
spelling YAML_UTF16BE_ENCODING c = spelling16 true c
spelling e c = encode_utf8 c

-- The spellings of characters, joined.
abbrev pub spellings : yaml_encoding_t → List ℕ → List ℕ
spellings YAML_UTF16LE_ENCODING cs = utf16 false cs
spellings YAML_UTF16BE_ENCODING cs = utf16 true cs
spellings e cs = utf8 cs

-- The value that the first octets or units have, whether it is a character's or not.
abbrev pub value_in_front : yaml_encoding_t → List ℕ → ℕ
value_in_front YAML_UTF16LE_ENCODING bytes = value16 false bytes
value_in_front YAML_UTF16BE_ENCODING bytes = value16 true bytes
value_in_front e bytes = value8 bytes

-- The character c, if the bytes begin with its spelling.
abbrev pub if_begins : yaml_encoding_t → ℕ → List ℕ → Option ℕ
if_begins e c bytes = if is_char c && bytes_eq (take (length (spelling e c)) bytes) (spelling e c) then Some c else None

-- The character whose spelling begins the bytes.
unfoldable pub first : yaml_encoding_t → List ℕ → Option ℕ
first e bytes = if_begins e (value_in_front e bytes) bytes

abbrev pub and_then_list : Option ℕ → (ℕ → List ℕ) → List ℕ
and_then_list None more = []
and_then_list (Some c) more = c ∷ more c

-- At most n characters from the front on.
unfoldable pub first_chars : yaml_encoding_t → ℕ → List ℕ → List ℕ
first_chars e zero bytes = []
first_chars e (suc n) bytes = and_then_list (first e bytes) (λ c. first_chars e n (drop (length (spelling e c)) bytes))

-- The bytes begin with these two. A place past the end reads as 0.
abbrev pub begins_with : ℕ → ℕ → List ℕ → Bool
begins_with a b bytes = slice_index bytes 0 == a && slice_index bytes 1 == b

-- The encoding that is set; if none is, the one of the byte order mark at the beginning; without one it is UTF-8.
abbrev pub encoding_of : yaml_encoding_t → List ℕ → yaml_encoding_t
encoding_of YAML_ANY_ENCODING input =
    if begins_with 0xFF 0xFE input then YAML_UTF16LE_ENCODING
    else if begins_with 0xFE 0xFF input then YAML_UTF16BE_ENCODING
    else YAML_UTF8_ENCODING
encoding_of setting input = setting

-- How many bytes the byte order mark has that is dropped. None is, if an encoding is set.
abbrev pub bom_len : yaml_encoding_t → List ℕ → ℕ
bom_len YAML_ANY_ENCODING input =
    if begins_with 0xFF 0xFE input then 2
    else if begins_with 0xFE 0xFF input then 2
    else if begins_with 0xEF 0xBB input && slice_index input 2 == 0xBF then 3
    else 0
bom_len setting input = 0

-- What follows it.
abbrev pub after_bom : yaml_encoding_t → List ℕ → List ℕ
after_bom setting input = drop (bom_len setting input) input

-- What is wrong with bytes that begin with no character.
abbrev pub offence : yaml_encoding_t → List ℕ → offence_t
offence YAML_UTF16LE_ENCODING bytes = offence16 false bytes
offence YAML_UTF16BE_ENCODING bytes = offence16 true bytes
offence e bytes = offence8 bytes

-- The front of an input, as a text.
unfoldable pub front : yaml_encoding_t → List ℕ → Text
front setting input = record {
  encoding = encoding_of setting input;
  chars = first_chars (encoding_of setting input) (length (after_bom setting input)) (after_bom setting input);
}

-- How many bytes of the input the byte order mark and the front take.
abbrev pub front_len : yaml_encoding_t → List ℕ → ℕ
front_len setting input =
    bom_len setting input + length (spellings (encoding_of setting input) (front setting input).chars)

abbrev pub refusal_of : yaml_encoding_t → ℕ → List ℕ → Option Fault
refusal_of e before [] = None
refusal_of e before (b ∷ bytes) = Some (reader_fault before (offence e (b ∷ bytes)))

-- The fault of what follows the front, if anything does.
unfoldable pub refusal : yaml_encoding_t → List ℕ → Option Fault
refusal setting input =
    refusal_of (encoding_of setting input) (front_len setting input) (drop (front_len setting input) input)

-- The words of a command line.
use Rattle.std.specs.Prelude.{ℕ, ◌≡◌, ◌==◌, ◌&&◌, ◌||◌, Bool, true, List, [], ◌∷◌, nat_le, codes}
use Rattle.std.specs.List.{list_all}
use Rattle.std.specs.Fmt.{decimal}
use Rattle.yaml_text.specs.declared.types.yaml_encoding_t.{yaml_encoding_t}
use Rattle.yaml_text.specs.declared.types.yaml_encoding_t.TheVariants.{
  YAML_ANY_ENCODING,
  YAML_UTF8_ENCODING,
  YAML_UTF16LE_ENCODING,
  YAML_UTF16BE_ENCODING,
}
use Rattle.yaml_listing.specs.declared.args.yaml_command_t.{yaml_command_t}
use Rattle.yaml_listing.specs.declared.args.yaml_command_t.TheVariants.{Decode, Scan, ScanLimit, Calls}

-- the word of an encoding setting
abbrev pub setting_word : yaml_encoding_t → List ℕ
setting_word YAML_ANY_ENCODING = codes "any"
setting_word YAML_UTF8_ENCODING = codes "utf8"
setting_word YAML_UTF16LE_ENCODING = codes "utf16le"
setting_word YAML_UTF16BE_ENCODING = codes "utf16be"

-- the words that spell a command
abbrev pub words_of : yaml_command_t → List (List ℕ)
words_of (Decode setting) = codes "decode" ∷ setting_word setting ∷ []
words_of (Scan setting) = codes "scan" ∷ setting_word setting ∷ []
words_of (ScanLimit setting limit) = codes "scan" ∷ setting_word setting ∷ decimal limit ∷ []
words_of (Calls setting word) = codes "calls" ∷ setting_word setting ∷ word.now ∷ []

-- the usual key limit, in bytes
abbrev pub usual_key_limit : ℕ
usual_key_limit = 1024

-- the greatest key limit, in bytes
abbrev pub most_key_limit : ℕ
most_key_limit = 65536

-- a key limit is from 1 to the greatest
abbrev pub is_limit : ℕ → Bool
is_limit limit = nat_le 1 limit && nat_le limit most_key_limit

-- `s`, `p` and `k` stand for calls
abbrev pub is_letter : ℕ → Bool
is_letter c = c == 0x73 || (c == 0x70 || c == 0x6B)

-- a word over these letters
abbrev pub are_letters : List ℕ → Bool
are_letters word = list_all is_letter word

-- the command's own words are such as it takes
abbrev pub is_right : yaml_command_t → Bool
is_right (Decode setting) = true
is_right (Scan setting) = true
is_right (ScanLimit setting limit) = is_limit limit
is_right (Calls setting word) = are_letters word.now

-- these words spell that command
pub record AreWordsOf (words : List (List ℕ)) (command : yaml_command_t) : Type 0 where
  pub words_are : words ≡ words_of command
  pub right : is_right command ≡ true

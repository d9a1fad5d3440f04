-- What the program says of itself.
use Rattle.std.specs.Prelude.{ℕ, ◌≡◌, ◌<◌, ◌⊎◌, List, [], ◌∷◌, ◌++◌, Option, length, take, codes}
use Rattle.std.specs.Io.KnownBytes.{Appends}
use Rattle.yaml_listing.specs.declared.note.yaml_note_t.{yaml_note_t}
use Rattle.yaml_listing.specs.declared.note.yaml_note_t.TheVariants.{Help, Version}

-- These words ask for the note.
abbrev pub AsksFor : List (List ℕ) → yaml_note_t → Type 0
AsksFor words Help = (words ≡ codes "--help" ∷ []) ⊎ (words ≡ codes "-h" ∷ [])
AsksFor words Version = words ≡ codes "--version" ∷ []

-- the lines of the commands
abbrev pub command_lines : List ℕ
command_lines =
    codes "  scan ENC [LIMIT]  list all tokens, with a key limit of 1 to 65536 bytes\n"
    ++ codes "  follow ENC        list each token as soon as no more input can change it\n"
    ++ codes "  calls ENC WORD    list the answers to calls: s (scan), p (peek), k (skip)\n"
    ++ codes "  decode ENC        say what text the input is\n"
    ++ codes "  -h, --help        print this\n"
    ++ codes "  --version         print the version\n"

-- the lines of what the words are and how the program ends
abbrev pub last_lines : List ℕ
last_lines =
    codes "ENC is any, utf8, utf16le or utf16be. The exit status is 0; 1 if a line is a\n"
    ++ codes "fault; 2 for wrong words; 3 if a read or a write fails or memory is refused.\n"

-- the text of a note
abbrev pub note_text : yaml_note_t → List ℕ
note_text Help =
    codes "usage: yamltok COMMAND ENC [WORD] < FILE\n\n" ++ command_lines ++ codes "\n" ++ last_lines
note_text Version = codes "yamltok (Bogzhami) 1.1.0\n"

-- A beginning of the note, which is not all of it, was written, and nothing else.
pub record WritesPartOf (note : yaml_note_t) (sink sink_after : Option (List ℕ)) : Type 0 where
  pub count : ℕ
  pub is_part : count < length (note_text note)
  pub written : Appends sink sink_after (take count (note_text note))

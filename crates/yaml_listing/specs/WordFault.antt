-- What is wrong with words that spell no command.
use Rattle.std.specs.Prelude.{ℕ, ◌≡◌, ◌⊎◌, true, false, List, [], ◌∷◌, length, take, drop, codes}
use Rattle.std.specs.Fmt.{decimal}
use Rattle.yaml_text.specs.declared.types.yaml_encoding_t.{yaml_encoding_t}
use Rattle.yaml_listing.specs.Args.{setting_word, is_limit, are_letters, AreWordsOf}
use Rattle.yaml_listing.specs.Follow.{AskToFollow}
use Rattle.yaml_listing.specs.Note.{AsksFor}
use Rattle.yaml_listing.specs.declared.args.yaml_command_t.{yaml_command_t}
use Rattle.yaml_listing.specs.declared.note.yaml_note_t.{yaml_note_t}
use Rattle.yaml_listing.specs.declared.word_fault.yaml_word_fault_t.{yaml_word_fault_t}
use Rattle.yaml_listing.specs.declared.word_fault.yaml_word_fault_t.TheVariants.{
  NoCommand,
  Command,
  NoEncoding,
  Encoding,
  Limit,
  NoCalls,
  Calls,
  Extra,
}

-- the words that commands begin with
abbrev pub IsCommand : List ℕ → Type 0
IsCommand word = (word ≡ codes "scan") ⊎ ((word ≡ codes "calls") ⊎ ((word ≡ codes "decode") ⊎ (word ≡ codes "follow")))

-- the word of an encoding setting
abbrev pub IsSetting : List ℕ → Type 0
IsSetting word = (setting : yaml_encoding_t) × (word ≡ setting_word setting)

-- a key limit, in decimal digits
abbrev pub IsLimit : List ℕ → Type 0
IsLimit word = (limit : ℕ) × (is_limit limit ≡ true) × (word ≡ decimal limit)

-- a word that asks for a note
abbrev pub IsNote : List ℕ → Type 0
IsNote word = (note : yaml_note_t) × AsksFor (word ∷ []) note

-- So many words stand before this one.
abbrev pub StandsAt : ℕ → List (List ℕ) → List ℕ → Type 0
StandsAt count words word = take 1 (drop count words) ≡ word ∷ []

-- No command takes a word where this one stands: a note stands alone, `decode` and `follow` have two words, and no
-- command has four.
abbrev pub IsExtra : List (List ℕ) → List ℕ → Type 0
IsExtra words word =
    ((note : List ℕ) × (StandsAt 0 words note × (IsNote note × StandsAt 1 words word)))
    ⊎ (((StandsAt 0 words (codes "decode") ⊎ StandsAt 0 words (codes "follow")) × StandsAt 2 words word)
    ⊎ StandsAt 3 words word)

-- These words have that fault.
abbrev pub HasFault : List (List ℕ) → yaml_word_fault_t → Type 0
HasFault words NoCommand = words ≡ []
HasFault words (Command word) = StandsAt 0 words word.now × (IsCommand word.now → ⊥)
HasFault words (NoEncoding word) = words ≡ word.now ∷ []
HasFault words (Encoding word) = StandsAt 1 words word.now × (IsSetting word.now → ⊥)
HasFault words (Limit word) =
    StandsAt 0 words (codes "scan") × (StandsAt 2 words word.now × (IsLimit word.now → ⊥))
HasFault words NoCalls = StandsAt 0 words (codes "calls") × (length words ≡ 2)
HasFault words (Calls word) =
    StandsAt 0 words (codes "calls") × (StandsAt 2 words word.now × (are_letters word.now ≡ false))
HasFault words (Extra word) = IsExtra words word.now

-- these words spell a command, or ask for an input to be followed
abbrev pub Spells : List (List ℕ) → Type 0
Spells words = ((command : yaml_command_t) × AreWordsOf words command)
    ⊎ ((setting : yaml_encoding_t) × AskToFollow words setting)

-- The place of an offset of an input: the line and the column there.
use Rattle.std.specs.Prelude.{◌≡◌, ◌⊎◌, ℕ, List, take}
use Rattle.yaml_text.specs.declared.types.yaml_encoding_t.{yaml_encoding_t}
use Rattle.yaml_text.specs.declared.types.yaml_mark_t.{yaml_mark_t}
use Rattle.yaml_text.specs.Decode.{front}
use Rattle.yaml_text.specs.Fault.{zero_mark}
use Rattle.yaml_text.specs.Mark as marks
use Rattle.yaml_c.specs.Record.{mark_of}
use Rattle.yaml_c.specs.Status as status
use Rattle.yaml_c.specs.declared.record.bogzhami_mark.{bogzhami_mark}

-- The mark after the characters that an input spells before an offset: whole ones, up to the first bytes that spell
-- none. A byte order mark that is dropped is none of them, and a part of one spells none.
abbrev pub mark_before : yaml_encoding_t → List ℕ → ℕ → yaml_mark_t
mark_before setting input offset = marks.mark_of (front setting (take offset input)).chars

-- What a call with a right setting leaves: that mark, or zeros if memory was refused.
abbrev pub TellsPlace : yaml_encoding_t → List ℕ → ℕ → bogzhami_mark → ℕ → Type 0
TellsPlace setting input offset mark code =
    ((code ≡ status.done) × (mark ≡ mark_of (mark_before setting input offset)))
    ⊎ ((code ≡ status.no_memory) × (mark ≡ mark_of zero_mark))

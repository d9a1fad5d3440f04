-- The course of an input: steps, one after the other, up to the stream end or a fault.
use Rattle.std.specs.Prelude.{ℕ, zero, suc, ◌+◌, ◌-◌, Bool, true, false, List, [], ◌∷◌, length, drop, Option, Some}
use Rattle.std.specs.Prelude.{None, option_map, if◌then◌else◌}
use Rattle.yaml_text.specs.Fault.{Fault}
use Rattle.yaml_text.specs.declared.types.yaml_encoding_t.{yaml_encoding_t}
use Rattle.yaml_scan.specs.Kind.{is_stream_end}
use Rattle.yaml_scan.specs.Laid.{Laid}
use Rattle.yaml_scan.specs.Levels.{laid}
use Rattle.yaml_scan.specs.Source.{Source, Offence}
use Rattle.yaml_scan.specs.Step.{Outcome, step}
use Rattle.yaml_scan.specs.Step.Outcome.{Reads, Faults}
use Rattle.yaml_scan.specs.Near.{unless_near, starts_near}

-- STEPS
-- the stream end was read
abbrev pub ended : List Laid → Bool
ended [] = false
ended (i ∷ H) = is_stream_end i.lexeme.kind

-- lexemes, and the fault of the step after them, or none if they end with the stream end
pub record Cut : Type 0 where
  pub read : List Laid
  pub fault : Option Offence

-- a lexeme goes on the list, and a fault ends it
abbrev pub cut_on : (ℕ → List Laid → Cut) → ℕ → List Laid → Outcome → Cut
cut_on next limit H (Faults o) = record { read = H; fault = Some o }
cut_on next limit H (Reads x) = next limit (laid limit H x ∷ H)

-- at most n steps more, by what the step after a list is
abbrev pub cut_from : (List Laid → Outcome) → ℕ → ℕ → List Laid → Cut
cut_from step zero limit H = record { read = H; fault = None }
cut_from step (suc n) limit H = if ended H then record { read = H; fault = None }
    else cut_on (cut_from step n) limit H (step H)

-- the longest list of steps of a text of n characters: each lexeme but the stream end takes a character, so there are
-- n + 1 of them at most
abbrev pub longest : (List Laid → Outcome) → ℕ → ℕ → Cut
longest step n limit = cut_from step (n + 1) limit []

-- the first n lexemes
abbrev pub oldest : ℕ → List Laid → List Laid
oldest n H = drop (length H - n) H

-- THE INPUT
-- the text that the input spells, or its longest front that is text, and then the reader's fault after it
pub record Input : Type 0 where
  pub encoding : yaml_encoding_t
  pub source : Source
  pub refusal : Option Fault

-- the step after H in an input
unfoldable pub next : Input → ℕ → List Laid → Outcome
next input limit H = unless_near input.source.size input.refusal (step input.source limit H)

-- the steps before the fault: STREAM-START, if that is one, and lexemes; and the fault
pub record Course : Type 0 where
  pub begun : Bool
  pub read : List Laid
  pub fault : Option Fault

-- the reader's fault comes at once if even STREAM-START is near the end
abbrev pub course_from : Bool → Option Fault → Cut → Course
course_from true refusal c = record { begun = false; read = []; fault = refusal }
course_from false refusal c = record { begun = true; read = c.read; fault = option_map (λ o. o.fault) c.fault }

-- the course of an input
unfoldable pub course : ℕ → Input → Course
course limit input = course_from (starts_near input.source.size input.refusal) input.refusal
    (longest (next input limit) input.source.size limit)

-- What holds of the tokens that are returned.
use Rattle.std.specs.Prelude.{◌≡◌, ◌⊎◌, ℕ, ◌+◌, ◌≤◌, Bool, true, false, not, ◌&&◌, ◌||◌, List, [], ◌∷◌, map, reverse}
use Rattle.std.specs.Prelude.{take, filter, length, nat_eq, nat_le, Option, Some, None, if◌then◌else◌}
use Rattle.std.specs.List.{list_any}
use Rattle.yaml_text.specs.Fault.{Fault}
use Rattle.yaml_text.specs.declared.types.yaml_mark_t.{yaml_mark_t}
use Rattle.yaml_scan.specs.Course.{ended, Input, course}
use Rattle.yaml_scan.specs.Token.{yaml_token_t, type_of}
use Rattle.yaml_scan.specs.TokenTypes.{is_end_type, is_start_type, is_key_type, is_value_type}
use Rattle.yaml_scan.specs.Groups.{handed_out}
use Rattle.yaml_scan.specs.Groups.Token.{StreamStart, OfLexeme}
use Rattle.yaml_scan.specs.Depth.{depth}
use Rattle.yaml_scan.specs.Begins.{Begins}
use Rattle.yaml_scan.specs.Source.{Offence}
use Rattle.yaml_scan.specs.Step.{step}
use Rattle.yaml_scan.specs.Step.Outcome.{Faults}
use Rattle.yaml_scan.specs.Cut.{KeepsOrder, cut}
use Rattle.yaml_scan.specs.Near.{is_near}
use Rattle.yaml_scan.specs.Answers.{answers}

-- from index n on none starts after its end, or ends after the start of the next
abbrev pub StandInOrder : ℕ → List yaml_token_t → Type 0
StandInOrder n [] = Unit {0}
StandInOrder n (t ∷ ts) = (n ≤ t.start_mark.index) × (t.start_mark.index ≤ t.end_mark.index)
    × StandInOrder t.end_mark.index ts

abbrev pub AnswersStandInOrder : Type 0
AnswersStandInOrder = (limit : ℕ) (input : Input) → KeepsOrder input.source
    → StandInOrder 0 (answers limit input).tokens

unfoldable pub ends_among : List yaml_token_t → ℕ
ends_among ts = length (filter (λ t. is_end_type (type_of t.token_data)) ts)

unfoldable pub starts_among : List yaml_token_t → ℕ
starts_among ts = length (filter (λ t. is_start_type (type_of t.token_data)) ts)

-- in every beginning
abbrev pub AnswersEndFewer : Type 0
AnswersEndFewer = (limit : ℕ) (input : Input) (n : ℕ) → KeepsOrder input.source
    → ends_among (take n (answers limit input).tokens) ≤ starts_among (take n (answers limit input).tokens)

-- if the stream ends at depth 0
abbrev pub AnswersEndAll : Type 0
AnswersEndAll = (limit : ℕ) (input : Input) → KeepsOrder input.source → (answers limit input).fault ≡ None
    → depth (course limit input).read ≡ 0
    → ends_among (answers limit input).tokens ≡ starts_among (answers limit input).tokens

abbrev pub same_mark : yaml_mark_t → yaml_mark_t → Bool
same_mark a b = nat_eq a.index b.index && (nat_eq a.line b.line && nat_eq a.column b.column)

-- a key with equal marks is one that the layout inserted
abbrev pub is_put_in : yaml_token_t → Bool
is_put_in t = is_key_type (type_of t.token_data) && same_mark t.start_mark t.end_mark

-- a VALUE that starts on the line of m, at most limit bytes further
abbrev pub is_near_value : ℕ → yaml_mark_t → yaml_token_t → Bool
is_near_value limit m t = is_value_type (type_of t.token_data)
    && (nat_eq t.start_mark.line m.line && nat_le t.start_mark.index (m.index + limit))

abbrev pub AreFollowed : ℕ → List yaml_token_t → Type 0
AreFollowed limit [] = Unit {0}
AreFollowed limit (t ∷ ts) = (is_put_in t ≡ true → list_any (is_near_value limit t.start_mark) ts ≡ true)
    × AreFollowed limit ts

abbrev pub AnswersFollowKeys : Type 0
AnswersFollowKeys = (limit : ℕ) (input : Input) → KeepsOrder input.source
    → AreFollowed limit (answers limit input).tokens

-- STREAM-START, or the token of a lexeme: all but block ends, block starts and the keys that the layout inserted
abbrev pub is_of_text : yaml_token_t → Bool
is_of_text t = not (is_end_type (type_of t.token_data) || (is_start_type (type_of t.token_data) || is_put_in t))

-- those among some tokens, in order
unfoldable pub of_text_among : List yaml_token_t → List yaml_token_t
of_text_among ts = filter is_of_text ts

-- the tokens of STREAM-START and of the lexemes of an input's text, in order
unfoldable pub tokens_of_cut : ℕ → Input → List yaml_token_t
tokens_of_cut limit input = map (handed_out input.encoding)
    (StreamStart ∷ map (λ i. OfLexeme i.lexeme) (reverse (cut input.source limit).read))

-- without what the layout inserted, the tokens are in order those of STREAM-START and of the first lexemes of the text,
-- or of the front of a refused input
abbrev pub AnswersTellLexemes : Type 0
AnswersTellLexemes = (limit : ℕ) (input : Input) → KeepsOrder input.source
    → Begins (of_text_among (answers limit input).tokens) (tokens_of_cut limit input)

-- if there is no fault, they are those of STREAM-START and of all lexemes
abbrev pub AnswersTellAll : Type 0
AnswersTellAll = (limit : ℕ) (input : Input) → KeepsOrder input.source → (answers limit input).fault ≡ None
    → of_text_among (answers limit input).tokens ≡ tokens_of_cut limit input

-- the steps of the cut do not end with the stream end, and f is the fault of the step after them
abbrev pub IsFaultAfterCut : ℕ → Input → Fault → Type 0
IsFaultAfterCut limit input f = (ended (cut input.source limit).read ≡ false)
    × (o : Offence) × (step input.source limit (cut input.source limit).read ≡ Faults o) × (f ≡ o.fault)

-- an input with no fault is accepted, and its cut ends with the stream end; a fault is the reader's, or that of the
-- step after the cut of the text, or of the front of a refused input
abbrev pub EndsAs : ℕ → Input → Option Fault → Type 0
EndsAs limit input None = (input.refusal ≡ None) × (ended (cut input.source limit).read ≡ true)
EndsAs limit input (Some f) = (input.refusal ≡ Some f) ⊎ IsFaultAfterCut limit input f

abbrev pub AnswersTellFault : Type 0
AnswersTellFault = (limit : ℕ) (input : Input) → KeepsOrder input.source
    → EndsAs limit input (answers limit input).fault

-- the fault after the cut of a refused front, if its place is eight or more characters before the front's end; else the
-- reader's
abbrev pub fault_of_front : ℕ → Fault → Option Offence → Fault
fault_of_front size f None = f
fault_of_front size f (Some o) = if is_near size o.place then f else o.fault

-- if the input is refused, this is its fault
abbrev pub EndsAsFront : ℕ → Input → Option Fault → Type 0
EndsAsFront limit input fault = (f : Fault) → input.refusal ≡ Some f
    → fault ≡ Some (fault_of_front input.source.size f (cut input.source limit).fault)

abbrev pub RefusedTellFault : Type 0
RefusedTellFault = (limit : ℕ) (input : Input) → KeepsOrder input.source
    → EndsAsFront limit input (answers limit input).fault

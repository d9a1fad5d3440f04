-- A parser of which only tokens were taken.
use Rattle.std.specs.Prelude.{◌≡◌, ℕ, ◌≤◌, ◌<◌, Bool, true, false, List, [], ◌∷◌, ◌++◌, map, take, length, Option, None}
use Rattle.std.specs.Prelude.{Some, Result, MatchResult, option_map}
use Rattle.std.specs.List.{list_any}
use Rattle.yaml_text.specs.declared.fault.yaml_fault_t.{yaml_fault_t}
use Rattle.yaml_text.specs.declared.types.yaml_encoding_t.{yaml_encoding_t}
use Rattle.yaml_text.specs.declared.token.yaml_token_t.{yaml_token_t as code_token_t}
use Rattle.yaml_text.specs.Token.{token_of}
use Rattle.yaml_scan.specs.Settled.{tokens_of}
use Rattle.yaml_scan.specs.Token.{yaml_token_t, empty, type_of}
use Rattle.yaml_scan.specs.TokenTypes.{is_last_type}
use Rattle.yaml_scan.specs.Groups.{handed_out}
use Rattle.yaml_scan.specs.Decoded.{decoded_input}
use Rattle.yaml_scan.specs.Session.{Call, all_steps}
use Rattle.yaml_scan.specs.Sessions.{settled_tokens, new_session, after_all}
use Rattle.yaml_scan.specs.Parser.{Parser}
use Rattle.yaml_scan.specs.All.{course_to}

-- A parser of an input that returned these tokens, and nothing else. The last flag says whether the stream end is among
-- them.
pub record Scanned
    (limit : ℕ) (setting : yaml_encoding_t) (input : List ℕ) (q : Parser) (tokens : List yaml_token_t) (last : Bool)
    : Type 0 where
  pub input_is : q.input ≡ input
  pub setting_is : q.setting ≡ setting
  pub limit_is : q.limit ≡ limit
  pub calls : List Call
  pub calls_are : q.session ≡ after_all limit (course_to limit setting input) calls new_session
  pub over : q.session.over ≡ last
  pub tokens_are : tokens ≡ map (handed_out (decoded_input setting input).encoding)
      (take q.session.taken (tokens_of limit (course_to limit setting input)))
  pub within : q.session.taken ≤ length (tokens_of limit (course_to limit setting input))
  pub steps_within : q.session.steps ≤ all_steps (course_to limit setting input)
  pub are_settled : q.session.taken ≤ length (settled_tokens limit (course_to limit setting input) q.session.steps)
  pub no_end : last ≡ false → list_any (λ t. is_last_type (type_of t.token_data)) tokens ≡ false
  pub whole : last ≡ true → (q.session.taken ≡ length (tokens_of limit (course_to limit setting input)))
      × ((course_to limit setting input).fault ≡ None)

-- It has gone on by these tokens. The last flag says whether the stream end is among them.
abbrev pub GoesOnBy : Parser → List yaml_token_t → Parser → Bool → Type 0
GoesOnBy p tokens q last = (given : List yaml_token_t) → Scanned p.limit p.setting p.input p given false
    → Scanned p.limit p.setting p.input q (given ++ tokens) last

-- The next tokens went to a sink, which took them, or the next one was returned and the sink took none.
abbrev pub ReadsNext : Parser → Parser → (List yaml_token_t → Type 0) → Option code_token_t → Type 0
ReadsNext p q took None = (tokens : List yaml_token_t) × (0 < length tokens) × took tokens × GoesOnBy p tokens q false
ReadsNext p q took (Some t) = took []
    × GoesOnBy p (token_of t ∷ []) q (is_last_type (type_of (token_of t).token_data))

-- After the end of its session a parser stays as it is: a sink takes no token, and the empty one is returned.
abbrev pub ReadsNone
    : Parser → Parser → (List yaml_token_t → Type 0) → Result (Option code_token_t) yaml_fault_t → Type 0
ReadsNone p q took result = p.session.over ≡ true
    → MatchResult result (λ o. (option_map token_of o ≡ Some empty) × took [] × (q ≡ p)) (λ _. ⊥)

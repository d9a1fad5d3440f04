-- A scanner that is given its input in pieces, between its calls.
use Rattle.std.specs.Prelude.{◌≡◌, ◌≢◌, ◌⊎◌, ℕ, ◌<◌, Bool, true, false, List, length, Option, None, Some, MatchOption}
use Rattle.std.specs.Prelude.{◌^◌, IfSome, option_map}
use Rattle.yaml_text.specs.Decode.{encoding_of, front, refusal}
use Rattle.yaml_text.specs.Fault.{Fault, fault_of}
use Rattle.yaml_text.specs.Text.{Text}
use Rattle.yaml_text.specs.declared.fault.yaml_fault_t.{yaml_fault_t}
use Rattle.yaml_text.specs.Kept.{IsKeptOf, KeptText}
use Rattle.yaml_text.specs.Chars.{utf8}
use Rattle.yaml_text.specs.Decoding.{refusal_seen}
use Rattle.yaml_text.specs.TextBytes.{AreChars}
use Rattle.yaml_text.specs.Pieces.{IsBegunOf, fault_to_come, is_broken, is_known, stand_in}
use Rattle.yaml_text.specs.declared.types.yaml_encoding_t.{yaml_encoding_t}
use Rattle.yaml_text.specs.declared.types.yaml_encoding_t.TheVariants.{YAML_UTF8_ENCODING}
use Rattle.yaml_scan.specs.Begins.{Begins}
use Rattle.yaml_text.specs.declared.types.yaml_error_type_t.TheVariants.{YAML_READER_ERROR}
use Rattle.yaml_scan.specs.Fed.{EndsBy, Fed, HasTakenAll}
use Rattle.yaml_scan.specs.Fed.Why.{MORE, WHOLE}
use Rattle.yaml_scan.specs.declared.fed.yaml_fed_parser_t.{yaml_fed_parser_t}
use Rattle.yaml_scan.specs.declared.fed.yaml_fed_t.{yaml_fed_t}
use Rattle.yaml_scan.specs.declared.fed.yaml_fed_t.TheVariants as code
use Rattle.yaml_scan.specs.declared.session.session_t.{session_t}
use Rattle.yaml_scan.specs.declared.scanner.scanner_t.{scanner_t}
use Rattle.yaml_scan.specs.declared.state.state_t.{state_t}
use Rattle.yaml_scan.specs.KeptCalls.{HasNoMoreRoom}
use Rattle.yaml_scan.specs.Token.{yaml_token_t}
use Rattle.yaml_scan.specs.inside.KeptParts.{GoesOnTo, StopsAfter}
use Rattle.yaml_scan.specs.inside.Ready.{Scan, Sound, ended_by, parser_of, with_session}
use Rattle.yaml_scan.specs.inside.Scanning.{IsNearOf}

-- What it scans: all that came, if nothing to come can change how that is read, and else the characters that came, with
-- a byte that stands for what is to come.
abbrev pub held_setting : Bool → yaml_encoding_t → yaml_encoding_t
held_setting true setting = setting
held_setting false setting = YAML_UTF8_ENCODING

abbrev pub held_input : Bool → yaml_encoding_t → List ℕ → List ℕ
held_input true setting came = came
held_input false setting came = stand_in (front setting came).chars

-- its scan of what came
abbrev pub held_by : Bool → yaml_encoding_t → List ℕ → session_t → Scan
held_by certain setting came s = record {
  setting = held_setting certain setting;
  input = held_input certain setting came;
  session = s;
}

abbrev pub held : List ℕ → yaml_fed_parser_t → Scan
held came k = held_by k.certain k.scanner.setting came k.scanner.session

-- Nothing to come can change how these bytes are read: they are all, or something is wrong that no bytes can mend.
abbrev pub IsCertain : Fed → List ℕ → Type 0
IsCertain p came = ((p.whole ≡ true) × (p.given ≡ came))
    ⊎ ((is_known p.setting came ≡ true) × (is_broken p.setting came ≡ true))

-- It is the scanner p, as its calls see it. By its last call these bytes had come.
pub record IsFedBy (p : Fed) (k : yaml_fed_parser_t) (came : List ℕ) : Type 0 where
  pub begins : Begins came p.given
  pub came_is : k.came ≡ length came
  pub setting : k.scanner.setting ≡ p.setting
  pub limit : k.scanner.session.state.limit ≡ p.limit
  pub session : (parser_of (held came k)).session ≡ p.session
  pub sound : Sound (held came k)
  pub certain : k.certain ≡ true → IsCertain p came
  -- what is kept of the text
  pub part : k.certain ≡ false → k.known ≡ true → (is_known p.setting came ≡ true) × IsBegunOf p.setting came k.scanner.text
  pub unknown : k.certain ≡ false → k.known ≡ false → k.scanner.session.state.made ≡ 0
  pub text : k.certain ≡ true → k.scanner.session.over ≡ false → 0 < k.scanner.session.state.made
      → IsKeptOf (front p.setting came) came k.scanner.text
  -- the stream end was taken
  pub all : p.session.over ≡ true → p.session.fault ≡ None → (p.whole ≡ true) × HasTakenAll p None

pub record IsFed (p : Fed) (k : yaml_fed_parser_t) : Type 0 where
  pub came : List ℕ
  pub is : IsFedBy p k came

-- THE PARTS OF A CALL
-- What came can be decoded: a beginning of its front is known. The session is that of the bytes that had come before.
pub record CanDecode (p : Fed) (k : yaml_fed_parser_t) : Type 0 where
  pub came : List ℕ
  pub begins : Begins came p.given
  pub setting : k.scanner.setting ≡ p.setting
  pub limit : k.scanner.session.state.limit ≡ p.limit
  pub session : (parser_of (held_by false p.setting came k.scanner.session)).session ≡ p.session
  pub sound : Sound (held_by false p.setting came k.scanner.session)
  pub still_open : k.scanner.session.over ≡ false
  pub known : is_known p.setting p.given ≡ true
  pub part : IsBegunOf p.setting p.given k.scanner.text
  pub before : 0 < k.scanner.session.state.made
      → (is_known p.setting came ≡ true) × (encoding_of p.setting came ≡ YAML_UTF8_ENCODING)

-- All that came is taken into account, and tokens can be given.
pub record IsReadyFed (p : Fed) (k : yaml_fed_parser_t) (came : List ℕ) : Type 0 where
  pub is : IsFedBy p k came
  pub still_open : k.scanner.session.over ≡ false
  pub known : k.certain ≡ false → k.known ≡ true
  pub unfinished : k.certain ≡ false → (came ≡ p.given) × (p.whole ≡ false)
      × IsKeptOf (front p.setting p.given) p.given k.scanner.text × (is_broken p.setting p.given ≡ false)

-- no token can be given before more comes
abbrev pub Awaits : Fed → yaml_fed_t → Type 0
Awaits p result = ((result ≡ code.MORE) × EndsBy p p MORE) ⊎ ((result ≡ code.WHOLE) × EndsBy p p WHOLE)

-- The text is begun, if its encoding is known and is UTF-8.
abbrev pub BeginsText : yaml_fed_parser_t → List ℕ → yaml_fed_parser_t → Option yaml_fed_t → Type 0
BeginsText k given l result = MatchOption result
    ((is_known k.scanner.setting given ≡ true) × ((text : KeptText) × IsBegunOf k.scanner.setting given text
    × (l ≡ record k { scanner = record k.scanner { text = text }; known = true })))
    (λ r. (l ≡ k) × (((r ≡ code.MORE) × (is_known k.scanner.setting given ≡ false))
    ⊎ ((r ≡ code.WHOLE) × (is_known k.scanner.setting given ≡ true)
    × (encoding_of k.scanner.setting given ≢ YAML_UTF8_ENCODING))))

-- The session is that of the scan i, which is not over, in a text that is refused for this fault.
pub record IsOver (i : Scan) (text : Text) (s : session_t) (refused : Fault) : Type 0 where
  pub sound : Sound i
  pub still_open : i.session.over ≡ false
  pub same : s ≡ i.session
  pub is_front : text ≡ front i.setting i.input
  pub is_refused : refusal i.setting i.input ≡ Some refused

-- the session once more has to come
abbrev pub waiting : session_t → yaml_fault_t → session_t
waiting s to_come = record s { state = record s.state { fault = Some to_come } }

-- A sink took the next tokens of the scan i, and this is why no more go there: it has no room, or more has to come, or a
-- fault has closed the session.
abbrev pub GivesOn : Scan → session_t → (List yaml_token_t → Type 0) → (ℕ → ℕ → Type 0) → yaml_fed_t → Type 0
GivesOn i s took lacks code.ROOM = (tokens : List yaml_token_t) × took tokens × GoesOnTo i (with_session i s) tokens
    × HasNoMoreRoom lacks (parser_of (with_session i s))
GivesOn i s took lacks code.MORE = (tokens : List yaml_token_t) × took tokens × ((t : session_t) × (f : Fault)
    × StopsAfter i t tokens f × (f.error ≡ YAML_READER_ERROR) × ((to_come : yaml_fault_t)
    × (refusal i.setting i.input ≡ Some (fault_of to_come)) × (s ≡ waiting t to_come)))
GivesOn i s took lacks code.FAULT = (tokens : List yaml_token_t) × took tokens × ((t : session_t)
    × (fault : yaml_fault_t) × StopsAfter i t tokens (fault_of fault) × ((fault_of fault).error ≢ YAML_READER_ERROR)
    × (s ≡ ended_by t fault))
GivesOn i s took lacks result = ⊥

abbrev pub GivesOver
    : Scan → scanner_t → scanner_t → (List yaml_token_t → Type 0) → (ℕ → ℕ → Type 0) → yaml_fed_t → Type 0
GivesOver i k l took lacks result = (s : session_t) × (l ≡ record k { session = s }) × GivesOn i s took lacks result

-- This refusal is in the place of the one before, if the first step was made.
pub record IsRenewed (text : Text) (s : state_t) (refused : Option yaml_fault_t) (t : state_t) : Type 0 where
  pub near : ℕ
  pub small : 0 < s.made → length (utf8 text.chars) < 2 ^ 63
  pub near_from : 0 < s.made → IsNearOf (refusal_seen refused) text.chars near
  pub on : 0 < s.made → t ≡ record s { fault = refused; near = near }
  pub stays : s.made ≡ 0 → t ≡ s

-- The scanner goes on over the text of all that came.
pub record GoesOnOver
    (text : Text) (k : scanner_t) (refused : Option (yaml_fault_t × Bool)) (last : Bool) (l : scanner_t) (certain : Bool)
    : Type 0 where
  pub refusal : Option yaml_fault_t
  pub state : state_t
  pub chars : AreChars text.chars
  pub renewed : IsRenewed text k.session.state refusal state
  pub is : l ≡ record k { session = record k.session { state = state } }
  pub sure : certain ≡ true → ((last ≡ true) ⊎ MatchOption refused ⊥ (λ r. r.1 ≡ true))
      × (refusal_seen refusal ≡ refusal_seen (option_map (λ r. r.0) refused))
  pub unsure : certain ≡ false → (last ≡ false) × IfSome refused (λ r. r.1 ≡ false)
      × (refusal_seen refusal ≡ Some (fault_to_come (length (utf8 text.chars))))

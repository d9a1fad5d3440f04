-- What the definitions give for lexemes that are written as data.
use Rattle.std.specs.Prelude.{◌≡◌, ℕ, ◌+◌, ◌-◌, pos, Bool, true, false, List, [], ◌∷◌, Option, Some, None, Result, Ok, Err, codes, nat_eq, nat_le, if◌then◌else◌}
use Rattle.std.proofs.Common.{refl}
use Rattle.yaml_text.specs.Fault.{Fault, scanner_fault}
use Rattle.yaml_text.specs.declared.types.yaml_mark_t.{yaml_mark_t}
use Rattle.yaml_text.specs.declared.types.yaml_encoding_t.TheVariants.{YAML_UTF8_ENCODING}
use Rattle.yaml_text.specs.declared.types.yaml_error_type_t.TheVariants.{YAML_READER_ERROR}
use Rattle.yaml_text.specs.declared.types.yaml_scalar_style_t.TheVariants.{YAML_PLAIN_SCALAR_STYLE, YAML_DOUBLE_QUOTED_SCALAR_STYLE}
use Rattle.yaml_text.specs.Token.{TokenData as token}
use Rattle.yaml_scan.specs.inside.StepParts.{read_step}
use Rattle.yaml_scan.specs.Course.{next, course, oldest}
use Rattle.yaml_scan.specs.Kind.{Kind}
use Rattle.yaml_lexeme.specs.declared.kind.yaml_lexeme_kind_t.TheVariants.{STREAM_END, FLOW_SEQUENCE_START, FLOW_MAPPING_START, FLOW_SEQUENCE_END, FLOW_MAPPING_END, FLOW_ENTRY, BLOCK_ENTRY, KEY, VALUE, ANCHOR, TAG, DOUBLE_QUOTED, PLAIN}
use Rattle.yaml_scan.specs.Token.{yaml_token_t, unnamed_yaml_token_t_data, zero_mark, at_mark, empty}
use Rattle.yaml_scan.specs.Source.{Source, Reading, Offence}
use Rattle.yaml_scan.specs.Depth.{depth}
use Rattle.yaml_scan.specs.Allowed.{allowed}
use Rattle.yaml_scan.specs.Keys.{candidate, completed_by}
use Rattle.yaml_scan.specs.Levels.{is_completed, opens, still_open, open_columns, staying_columns, level, laid}
use Rattle.yaml_scan.specs.Groups.{block_ends, inserted, group, groups, offline}
use Rattle.yaml_scan.specs.Settled.{is_current, waiting, up_to, before}
use Rattle.yaml_scan.specs.Sessions.{queued}
use Rattle.yaml_scan.specs.Step.{required, stale, refused, clears, step, end_of}
use Rattle.yaml_scan.specs.Answers.{Answers, answers}
use Rattle.yaml_scan.specs.Session.{Call, Answer}
use Rattle.yaml_scan.specs.Sessions.{new_session, session, after_all, session_queued, session_reach}
use Rattle.yaml_scan.specs.Settled.{least, steps_for, pace}
use Rattle.yaml_scan.specs.inside.Slots.{outer_to, empty_slots}
use Rattle.yaml_scan.specs.Session.Call.{SCAN, PEEK, SKIP}
use Rattle.yaml_scan.specs.Session.Answer.{TOKEN, PEEKED, SKIPPED, NOTHING, FAULT}

abbrev m : ℕ → ℕ → ℕ → yaml_mark_t
m i l c = record { index = i; line = l; column = c }

-- the mark of a place of a text of one-byte characters, by where the lines after the first one start
abbrev mark_from : ℕ → ℕ → List ℕ → ℕ → yaml_mark_t
mark_from line start [] p = m p line (p - start)
mark_from line start (s ∷ starts) p = if nat_le s p then mark_from (line + 1) s starts p else m p line (p - start)

-- what follows a place, from which the gap ends at another: a lexeme with its end, its reach and whether it passed a break; the
-- stream end; a lexeme with a problem and a context; or nothing that is a lexeme
data Entry : Type 0 where
  Lexed : ℕ → ℕ → Kind → unnamed_yaml_token_t_data → ℕ → ℕ → Bool → Entry
  Ends : ℕ → ℕ → Entry
  Offends : ℕ → ℕ → Kind → List ℕ → ℕ → List ℕ → Entry
  Empty : ℕ → ℕ → Entry

abbrev after_call : Entry → ℕ
after_call (Lexed q p k d e r b) = q
after_call (Ends q p) = q
after_call (Offends q p k problem at context) = q
after_call (Empty q p) = q

abbrev gap_end : Entry → ℕ
gap_end (Lexed q p k d e r b) = p
gap_end (Ends q p) = p
gap_end (Offends q p k problem at context) = p
gap_end (Empty q p) = p

abbrev kind_of : Entry → Option Kind
kind_of (Lexed q p k d e r b) = Some k
kind_of (Ends q p) = Some STREAM_END
kind_of (Offends q p k problem at context) = Some k
kind_of (Empty q p) = None

abbrev read_of : List ℕ → Entry → Result Reading Offence
read_of starts (Lexed q p k d e r b) = Ok (record { token_data = d; end = mark_from 0 0 starts e; reach = mark_from 0 0 starts r; place = r; passed_break = b })
read_of starts (Ends q p) = Ok (record { token_data = token.STREAM_END; end = end_of (mark_from 0 0 starts p); reach = end_of (mark_from 0 0 starts p); place = p; passed_break = false })
read_of starts (Offends q p k problem at context) = Err (record { fault = scanner_fault problem (mark_from 0 0 starts at) (Some context) (mark_from 0 0 starts p); place = at })
read_of starts (Empty q p) = Err (record { fault = scanner_fault [] zero_mark None zero_mark; place = p })

abbrev gap_from : List Entry → ℕ → ℕ
gap_from [] q = q
gap_from (e ∷ es) q = if nat_eq (after_call e) q then gap_end e else gap_from es q

abbrev kind_from : List Entry → ℕ → Option Kind
kind_from [] p = None
kind_from (e ∷ es) p = if nat_eq (gap_end e) p then kind_of e else kind_from es p

abbrev read_from : List ℕ → List Entry → ℕ → Result Reading Offence
read_from starts [] p = Err (record { fault = scanner_fault [] zero_mark None zero_mark; place = p })
read_from starts (e ∷ es) p = if nat_eq (gap_end e) p then read_of starts e else read_from starts es p

abbrev source : ℕ → List ℕ → List Entry → Source
source size starts es = record {
  size = size;
  mark = mark_from 0 0 starts;
  gap = λ flow allowed q. gap_from es q;
  kind = λ flow p. kind_from es p;
  read = λ k d l p. read_from starts es p;
}

abbrev tok : unnamed_yaml_token_t_data → yaml_mark_t → yaml_mark_t → yaml_token_t
tok d s e = record { token_data = d; start_mark = s; end_mark = e }

abbrev reader_says : ℕ → ℕ → List ℕ → Fault
reader_says offset value problem = record { error = YAML_READER_ERROR; problem = Some problem; offset = offset; value = pos value; problem_mark = zero_mark; context = None; context_mark = zero_mark }

scan : ℕ → ℕ → List ℕ → Option Fault → List Entry → Answers
unfolding answers course next step read_step required stale refused clears before up_to waiting is_current offline groups group inserted block_ends laid level staying_columns open_columns still_open opens is_completed completed_by candidate allowed depth
scan limit size starts refusal es = answers limit (record { encoding = YAML_UTF8_ENCODING; source = source size starts es; refusal = refusal })

-- `a: 1`
a_mapping : scan 1024 4 [] None
    (Lexed 0 0 PLAIN (token.SCALAR (97 ∷ []) YAML_PLAIN_SCALAR_STYLE) 1 1 false
    ∷ Lexed 1 1 VALUE token.VALUE 2 2 false
    ∷ Lexed 2 3 PLAIN (token.SCALAR (49 ∷ []) YAML_PLAIN_SCALAR_STYLE) 4 4 false
    ∷ Ends 4 4 ∷ [])
    ≡ record {
      tokens = at_mark (token.STREAM_START YAML_UTF8_ENCODING) (m 0 0 0)
          ∷ at_mark token.BLOCK_MAPPING_START (m 0 0 0)
          ∷ at_mark token.KEY (m 0 0 0)
          ∷ tok (token.SCALAR (97 ∷ []) YAML_PLAIN_SCALAR_STYLE) (m 0 0 0) (m 1 0 1)
          ∷ tok token.VALUE (m 1 0 1) (m 2 0 2)
          ∷ tok (token.SCALAR (49 ∷ []) YAML_PLAIN_SCALAR_STYLE) (m 3 0 3) (m 4 0 4)
          ∷ at_mark token.BLOCK_END (m 4 1 0)
          ∷ at_mark token.STREAM_END (m 4 1 0) ∷ [];
      fault = None;
    }
unfolding scan
a_mapping = refl

-- `- a\n- b\n`
a_sequence : scan 1024 8 (4 ∷ 8 ∷ []) None
    (Lexed 0 0 BLOCK_ENTRY token.BLOCK_ENTRY 1 1 false
    ∷ Lexed 1 2 PLAIN (token.SCALAR (97 ∷ []) YAML_PLAIN_SCALAR_STYLE) 3 4 true
    ∷ Lexed 4 4 BLOCK_ENTRY token.BLOCK_ENTRY 5 5 false
    ∷ Lexed 5 6 PLAIN (token.SCALAR (98 ∷ []) YAML_PLAIN_SCALAR_STYLE) 7 8 true
    ∷ Ends 8 8 ∷ [])
    ≡ record {
      tokens = at_mark (token.STREAM_START YAML_UTF8_ENCODING) (m 0 0 0)
          ∷ at_mark token.BLOCK_SEQUENCE_START (m 0 0 0)
          ∷ tok token.BLOCK_ENTRY (m 0 0 0) (m 1 0 1)
          ∷ tok (token.SCALAR (97 ∷ []) YAML_PLAIN_SCALAR_STYLE) (m 2 0 2) (m 3 0 3)
          ∷ tok token.BLOCK_ENTRY (m 4 1 0) (m 5 1 1)
          ∷ tok (token.SCALAR (98 ∷ []) YAML_PLAIN_SCALAR_STYLE) (m 6 1 2) (m 7 1 3)
          ∷ at_mark token.BLOCK_END (m 8 2 0)
          ∷ at_mark token.STREAM_END (m 8 2 0) ∷ [];
      fault = None;
    }
unfolding scan
a_sequence = refl

-- `a:\n- b\n`
a_sequence_without_indent : scan 1024 7 (3 ∷ 7 ∷ []) None
    (Lexed 0 0 PLAIN (token.SCALAR (97 ∷ []) YAML_PLAIN_SCALAR_STYLE) 1 1 false
    ∷ Lexed 1 1 VALUE token.VALUE 2 2 false
    ∷ Lexed 2 3 BLOCK_ENTRY token.BLOCK_ENTRY 4 4 false
    ∷ Lexed 4 5 PLAIN (token.SCALAR (98 ∷ []) YAML_PLAIN_SCALAR_STYLE) 6 7 true
    ∷ Ends 7 7 ∷ [])
    ≡ record {
      tokens = at_mark (token.STREAM_START YAML_UTF8_ENCODING) (m 0 0 0)
          ∷ at_mark token.BLOCK_MAPPING_START (m 0 0 0)
          ∷ at_mark token.KEY (m 0 0 0)
          ∷ tok (token.SCALAR (97 ∷ []) YAML_PLAIN_SCALAR_STYLE) (m 0 0 0) (m 1 0 1)
          ∷ tok token.VALUE (m 1 0 1) (m 2 0 2)
          ∷ tok token.BLOCK_ENTRY (m 3 1 0) (m 4 1 1)
          ∷ tok (token.SCALAR (98 ∷ []) YAML_PLAIN_SCALAR_STYLE) (m 5 1 2) (m 6 1 3)
          ∷ at_mark token.BLOCK_END (m 7 2 0)
          ∷ at_mark token.STREAM_END (m 7 2 0) ∷ [];
      fault = None;
    }
unfolding scan
a_sequence_without_indent = refl

-- `&a b: c`
key_before_the_anchor : scan 1024 7 [] None
    (Lexed 0 0 ANCHOR (token.ANCHOR (97 ∷ [])) 2 2 false
    ∷ Lexed 2 3 PLAIN (token.SCALAR (98 ∷ []) YAML_PLAIN_SCALAR_STYLE) 4 4 false
    ∷ Lexed 4 4 VALUE token.VALUE 5 5 false
    ∷ Lexed 5 6 PLAIN (token.SCALAR (99 ∷ []) YAML_PLAIN_SCALAR_STYLE) 7 7 false
    ∷ Ends 7 7 ∷ [])
    ≡ record {
      tokens = at_mark (token.STREAM_START YAML_UTF8_ENCODING) (m 0 0 0)
          ∷ at_mark token.BLOCK_MAPPING_START (m 0 0 0)
          ∷ at_mark token.KEY (m 0 0 0)
          ∷ tok (token.ANCHOR (97 ∷ [])) (m 0 0 0) (m 2 0 2)
          ∷ tok (token.SCALAR (98 ∷ []) YAML_PLAIN_SCALAR_STYLE) (m 3 0 3) (m 4 0 4)
          ∷ tok token.VALUE (m 4 0 4) (m 5 0 5)
          ∷ tok (token.SCALAR (99 ∷ []) YAML_PLAIN_SCALAR_STYLE) (m 6 0 6) (m 7 0 7)
          ∷ at_mark token.BLOCK_END (m 7 1 0)
          ∷ at_mark token.STREAM_END (m 7 1 0) ∷ [];
      fault = None;
    }
unfolding scan
key_before_the_anchor = refl

-- `[a]: b`
key_before_the_flow_start : scan 1024 6 [] None
    (Lexed 0 0 FLOW_SEQUENCE_START token.FLOW_SEQUENCE_START 1 1 false
    ∷ Lexed 1 1 PLAIN (token.SCALAR (97 ∷ []) YAML_PLAIN_SCALAR_STYLE) 2 2 false
    ∷ Lexed 2 2 FLOW_SEQUENCE_END token.FLOW_SEQUENCE_END 3 3 false
    ∷ Lexed 3 3 VALUE token.VALUE 4 4 false
    ∷ Lexed 4 5 PLAIN (token.SCALAR (98 ∷ []) YAML_PLAIN_SCALAR_STYLE) 6 6 false
    ∷ Ends 6 6 ∷ [])
    ≡ record {
      tokens = at_mark (token.STREAM_START YAML_UTF8_ENCODING) (m 0 0 0)
          ∷ at_mark token.BLOCK_MAPPING_START (m 0 0 0)
          ∷ at_mark token.KEY (m 0 0 0)
          ∷ tok token.FLOW_SEQUENCE_START (m 0 0 0) (m 1 0 1)
          ∷ tok (token.SCALAR (97 ∷ []) YAML_PLAIN_SCALAR_STYLE) (m 1 0 1) (m 2 0 2)
          ∷ tok token.FLOW_SEQUENCE_END (m 2 0 2) (m 3 0 3)
          ∷ tok token.VALUE (m 3 0 3) (m 4 0 4)
          ∷ tok (token.SCALAR (98 ∷ []) YAML_PLAIN_SCALAR_STYLE) (m 5 0 5) (m 6 0 6)
          ∷ at_mark token.BLOCK_END (m 6 1 0)
          ∷ at_mark token.STREAM_END (m 6 1 0) ∷ [];
      fault = None;
    }
unfolding scan
key_before_the_flow_start = refl

-- `a:\n  b: 1\n"x\ny": z`
lost_key_at_reach : scan 1024 18 (3 ∷ 10 ∷ 13 ∷ []) None
    (Lexed 0 0 PLAIN (token.SCALAR (97 ∷ []) YAML_PLAIN_SCALAR_STYLE) 1 1 false
    ∷ Lexed 1 1 VALUE token.VALUE 2 2 false
    ∷ Lexed 2 5 PLAIN (token.SCALAR (98 ∷ []) YAML_PLAIN_SCALAR_STYLE) 6 6 false
    ∷ Lexed 6 6 VALUE token.VALUE 7 7 false
    ∷ Lexed 7 8 PLAIN (token.SCALAR (49 ∷ []) YAML_PLAIN_SCALAR_STYLE) 9 10 true
    ∷ Lexed 10 10 DOUBLE_QUOTED (token.SCALAR (120 ∷ 32 ∷ 121 ∷ []) YAML_DOUBLE_QUOTED_SCALAR_STYLE) 15 15 false ∷ [])
    ≡ record {
      tokens = at_mark (token.STREAM_START YAML_UTF8_ENCODING) (m 0 0 0)
          ∷ at_mark token.BLOCK_MAPPING_START (m 0 0 0)
          ∷ at_mark token.KEY (m 0 0 0)
          ∷ tok (token.SCALAR (97 ∷ []) YAML_PLAIN_SCALAR_STYLE) (m 0 0 0) (m 1 0 1)
          ∷ tok token.VALUE (m 1 0 1) (m 2 0 2)
          ∷ at_mark token.BLOCK_MAPPING_START (m 5 1 2)
          ∷ at_mark token.KEY (m 5 1 2)
          ∷ tok (token.SCALAR (98 ∷ []) YAML_PLAIN_SCALAR_STYLE) (m 5 1 2) (m 6 1 3)
          ∷ tok token.VALUE (m 6 1 3) (m 7 1 4)
          ∷ tok (token.SCALAR (49 ∷ []) YAML_PLAIN_SCALAR_STYLE) (m 8 1 5) (m 9 1 6) ∷ [];
      fault = (Some (scanner_fault (codes "could not find expected ':'") (m 15 3 2) (Some (codes "while scanning a simple key")) (m 10 2 0)));
    }
unfolding scan
lost_key_at_reach = refl

-- `a: 1\n[b`
lost_key_in_flow : scan 1024 7 (5 ∷ []) None
    (Lexed 0 0 PLAIN (token.SCALAR (97 ∷ []) YAML_PLAIN_SCALAR_STYLE) 1 1 false
    ∷ Lexed 1 1 VALUE token.VALUE 2 2 false
    ∷ Lexed 2 3 PLAIN (token.SCALAR (49 ∷ []) YAML_PLAIN_SCALAR_STYLE) 4 5 true
    ∷ Lexed 5 5 FLOW_SEQUENCE_START token.FLOW_SEQUENCE_START 6 6 false
    ∷ Lexed 6 6 PLAIN (token.SCALAR (98 ∷ []) YAML_PLAIN_SCALAR_STYLE) 7 7 false
    ∷ Ends 7 7 ∷ [])
    ≡ record {
      tokens = at_mark (token.STREAM_START YAML_UTF8_ENCODING) (m 0 0 0)
          ∷ at_mark token.BLOCK_MAPPING_START (m 0 0 0)
          ∷ at_mark token.KEY (m 0 0 0)
          ∷ tok (token.SCALAR (97 ∷ []) YAML_PLAIN_SCALAR_STYLE) (m 0 0 0) (m 1 0 1)
          ∷ tok token.VALUE (m 1 0 1) (m 2 0 2)
          ∷ tok (token.SCALAR (49 ∷ []) YAML_PLAIN_SCALAR_STYLE) (m 3 0 3) (m 4 0 4) ∷ [];
      fault = (Some (scanner_fault (codes "could not find expected ':'") (m 7 2 0) (Some (codes "while scanning a simple key")) (m 5 1 0)));
    }
unfolding scan
lost_key_in_flow = refl

-- `a: 1\nb`
lost_key_at_end : scan 1024 6 (5 ∷ []) None
    (Lexed 0 0 PLAIN (token.SCALAR (97 ∷ []) YAML_PLAIN_SCALAR_STYLE) 1 1 false
    ∷ Lexed 1 1 VALUE token.VALUE 2 2 false
    ∷ Lexed 2 3 PLAIN (token.SCALAR (49 ∷ []) YAML_PLAIN_SCALAR_STYLE) 4 5 true
    ∷ Lexed 5 5 PLAIN (token.SCALAR (98 ∷ []) YAML_PLAIN_SCALAR_STYLE) 6 6 false
    ∷ Ends 6 6 ∷ [])
    ≡ record {
      tokens = at_mark (token.STREAM_START YAML_UTF8_ENCODING) (m 0 0 0)
          ∷ at_mark token.BLOCK_MAPPING_START (m 0 0 0)
          ∷ at_mark token.KEY (m 0 0 0)
          ∷ tok (token.SCALAR (97 ∷ []) YAML_PLAIN_SCALAR_STYLE) (m 0 0 0) (m 1 0 1)
          ∷ tok token.VALUE (m 1 0 1) (m 2 0 2)
          ∷ tok (token.SCALAR (49 ∷ []) YAML_PLAIN_SCALAR_STYLE) (m 3 0 3) (m 4 0 4) ∷ [];
      fault = (Some (scanner_fault (codes "could not find expected ':'") (m 6 2 0) (Some (codes "while scanning a simple key")) (m 5 1 0)));
    }
unfolding scan
lost_key_at_end = refl

-- `a:\n  b: 1\n `
two_marks_of_the_end : scan 1024 11 (3 ∷ 10 ∷ []) None
    (Lexed 0 0 PLAIN (token.SCALAR (97 ∷ []) YAML_PLAIN_SCALAR_STYLE) 1 1 false
    ∷ Lexed 1 1 VALUE token.VALUE 2 2 false
    ∷ Lexed 2 5 PLAIN (token.SCALAR (98 ∷ []) YAML_PLAIN_SCALAR_STYLE) 6 6 false
    ∷ Lexed 6 6 VALUE token.VALUE 7 7 false
    ∷ Lexed 7 8 PLAIN (token.SCALAR (49 ∷ []) YAML_PLAIN_SCALAR_STYLE) 9 11 true
    ∷ Ends 11 11 ∷ [])
    ≡ record {
      tokens = at_mark (token.STREAM_START YAML_UTF8_ENCODING) (m 0 0 0)
          ∷ at_mark token.BLOCK_MAPPING_START (m 0 0 0)
          ∷ at_mark token.KEY (m 0 0 0)
          ∷ tok (token.SCALAR (97 ∷ []) YAML_PLAIN_SCALAR_STYLE) (m 0 0 0) (m 1 0 1)
          ∷ tok token.VALUE (m 1 0 1) (m 2 0 2)
          ∷ at_mark token.BLOCK_MAPPING_START (m 5 1 2)
          ∷ at_mark token.KEY (m 5 1 2)
          ∷ tok (token.SCALAR (98 ∷ []) YAML_PLAIN_SCALAR_STYLE) (m 5 1 2) (m 6 1 3)
          ∷ tok token.VALUE (m 6 1 3) (m 7 1 4)
          ∷ tok (token.SCALAR (49 ∷ []) YAML_PLAIN_SCALAR_STYLE) (m 8 1 5) (m 9 1 6)
          ∷ at_mark token.BLOCK_END (m 11 2 1)
          ∷ at_mark token.BLOCK_END (m 11 3 0)
          ∷ at_mark token.STREAM_END (m 11 3 0) ∷ [];
      fault = None;
    }
unfolding scan
two_marks_of_the_end = refl

-- `{a:}`
colon_in_flow : scan 1024 4 [] None
    (Lexed 0 0 FLOW_MAPPING_START token.FLOW_MAPPING_START 1 1 false
    ∷ Offends 1 1 PLAIN (codes "found unexpected ':'") 2 (codes "while scanning a plain scalar") ∷ [])
    ≡ record {
      tokens = at_mark (token.STREAM_START YAML_UTF8_ENCODING) (m 0 0 0) ∷ [];
      fault = (Some (scanner_fault (codes "found unexpected ':'") (m 2 0 2) (Some (codes "while scanning a plain scalar")) (m 1 0 1)));
    }
unfolding scan
colon_in_flow = refl

-- `[!!str]`
tag_in_flow : scan 1024 7 [] None
    (Lexed 0 0 FLOW_SEQUENCE_START token.FLOW_SEQUENCE_START 1 1 false
    ∷ Offends 1 1 TAG (codes "did not find expected whitespace or line break") 6 (codes "while scanning a tag") ∷ [])
    ≡ record {
      tokens = at_mark (token.STREAM_START YAML_UTF8_ENCODING) (m 0 0 0) ∷ [];
      fault = (Some (scanner_fault (codes "did not find expected whitespace or line break") (m 6 0 6) (Some (codes "while scanning a tag")) (m 1 0 1)));
    }
unfolding scan
tag_in_flow = refl

-- `"\\x4g"`
no_hex_digit : scan 1024 6 [] None
    (Offends 0 0 DOUBLE_QUOTED (codes "did not find expected hexadecimal number") 3 (codes "while parsing a quoted scalar") ∷ [])
    ≡ record {
      tokens = at_mark (token.STREAM_START YAML_UTF8_ENCODING) (m 0 0 0) ∷ [];
      fault = (Some (scanner_fault (codes "did not find expected hexadecimal number") (m 3 0 3) (Some (codes "while parsing a quoted scalar")) (m 0 0 0)));
    }
unfolding scan
no_hex_digit = refl

-- `] a: 1`
extra_closer : scan 1024 6 [] None
    (Lexed 0 0 FLOW_SEQUENCE_END token.FLOW_SEQUENCE_END 1 1 false
    ∷ Lexed 1 2 PLAIN (token.SCALAR (97 ∷ []) YAML_PLAIN_SCALAR_STYLE) 3 3 false
    ∷ Lexed 3 3 VALUE token.VALUE 4 4 false ∷ [])
    ≡ record {
      tokens = at_mark (token.STREAM_START YAML_UTF8_ENCODING) (m 0 0 0)
          ∷ tok token.FLOW_SEQUENCE_END (m 0 0 0) (m 1 0 1)
          ∷ tok (token.SCALAR (97 ∷ []) YAML_PLAIN_SCALAR_STYLE) (m 2 0 2) (m 3 0 3) ∷ [];
      fault = (Some (scanner_fault (codes "mapping values are not allowed in this context") (m 3 0 3) None (m 3 0 3)));
    }
unfolding scan
extra_closer = refl

-- `a:\n\tb`
tab_that_starts_no_token : scan 1024 5 (3 ∷ []) None
    (Lexed 0 0 PLAIN (token.SCALAR (97 ∷ []) YAML_PLAIN_SCALAR_STYLE) 1 1 false
    ∷ Lexed 1 1 VALUE token.VALUE 2 2 false
    ∷ Empty 2 3 ∷ [])
    ≡ record {
      tokens = at_mark (token.STREAM_START YAML_UTF8_ENCODING) (m 0 0 0)
          ∷ at_mark token.BLOCK_MAPPING_START (m 0 0 0)
          ∷ at_mark token.KEY (m 0 0 0)
          ∷ tok (token.SCALAR (97 ∷ []) YAML_PLAIN_SCALAR_STYLE) (m 0 0 0) (m 1 0 1)
          ∷ tok token.VALUE (m 1 0 1) (m 2 0 2) ∷ [];
      fault = (Some (scanner_fault (codes "found character that cannot start any token") (m 3 1 0) (Some (codes "while scanning for the next token")) (m 3 1 0)));
    }
unfolding scan
tab_that_starts_no_token = refl

-- `a: b\n\tc`
tab_in_indentation : scan 1024 7 (5 ∷ []) None
    (Lexed 0 0 PLAIN (token.SCALAR (97 ∷ []) YAML_PLAIN_SCALAR_STYLE) 1 1 false
    ∷ Lexed 1 1 VALUE token.VALUE 2 2 false
    ∷ Offends 2 3 PLAIN (codes "found a tab character that violates indentation") 5 (codes "while scanning a plain scalar") ∷ [])
    ≡ record {
      tokens = at_mark (token.STREAM_START YAML_UTF8_ENCODING) (m 0 0 0)
          ∷ at_mark token.BLOCK_MAPPING_START (m 0 0 0)
          ∷ at_mark token.KEY (m 0 0 0)
          ∷ tok (token.SCALAR (97 ∷ []) YAML_PLAIN_SCALAR_STYLE) (m 0 0 0) (m 1 0 1)
          ∷ tok token.VALUE (m 1 0 1) (m 2 0 2) ∷ [];
      fault = (Some (scanner_fault (codes "found a tab character that violates indentation") (m 5 1 0) (Some (codes "while scanning a plain scalar")) (m 3 0 3)));
    }
unfolding scan
tab_in_indentation = refl

-- `{a: 1, b: 2}`
flow_mapping : scan 1024 12 [] None
    (Lexed 0 0 FLOW_MAPPING_START token.FLOW_MAPPING_START 1 1 false
    ∷ Lexed 1 1 PLAIN (token.SCALAR (97 ∷ []) YAML_PLAIN_SCALAR_STYLE) 2 2 false
    ∷ Lexed 2 2 VALUE token.VALUE 3 3 false
    ∷ Lexed 3 4 PLAIN (token.SCALAR (49 ∷ []) YAML_PLAIN_SCALAR_STYLE) 5 5 false
    ∷ Lexed 5 5 FLOW_ENTRY token.FLOW_ENTRY 6 6 false
    ∷ Lexed 6 7 PLAIN (token.SCALAR (98 ∷ []) YAML_PLAIN_SCALAR_STYLE) 8 8 false
    ∷ Lexed 8 8 VALUE token.VALUE 9 9 false
    ∷ Lexed 9 10 PLAIN (token.SCALAR (50 ∷ []) YAML_PLAIN_SCALAR_STYLE) 11 11 false
    ∷ Lexed 11 11 FLOW_MAPPING_END token.FLOW_MAPPING_END 12 12 false
    ∷ Ends 12 12 ∷ [])
    ≡ record {
      tokens = at_mark (token.STREAM_START YAML_UTF8_ENCODING) (m 0 0 0)
          ∷ tok token.FLOW_MAPPING_START (m 0 0 0) (m 1 0 1)
          ∷ at_mark token.KEY (m 1 0 1)
          ∷ tok (token.SCALAR (97 ∷ []) YAML_PLAIN_SCALAR_STYLE) (m 1 0 1) (m 2 0 2)
          ∷ tok token.VALUE (m 2 0 2) (m 3 0 3)
          ∷ tok (token.SCALAR (49 ∷ []) YAML_PLAIN_SCALAR_STYLE) (m 4 0 4) (m 5 0 5)
          ∷ tok token.FLOW_ENTRY (m 5 0 5) (m 6 0 6)
          ∷ at_mark token.KEY (m 7 0 7)
          ∷ tok (token.SCALAR (98 ∷ []) YAML_PLAIN_SCALAR_STYLE) (m 7 0 7) (m 8 0 8)
          ∷ tok token.VALUE (m 8 0 8) (m 9 0 9)
          ∷ tok (token.SCALAR (50 ∷ []) YAML_PLAIN_SCALAR_STYLE) (m 10 0 10) (m 11 0 11)
          ∷ tok token.FLOW_MAPPING_END (m 11 0 11) (m 12 0 12)
          ∷ at_mark token.STREAM_END (m 12 1 0) ∷ [];
      fault = None;
    }
unfolding scan
flow_mapping = refl

-- `? a\n: b`
complex_key : scan 1024 7 (4 ∷ []) None
    (Lexed 0 0 KEY token.KEY 1 1 false
    ∷ Lexed 1 2 PLAIN (token.SCALAR (97 ∷ []) YAML_PLAIN_SCALAR_STYLE) 3 4 true
    ∷ Lexed 4 4 VALUE token.VALUE 5 5 false
    ∷ Lexed 5 6 PLAIN (token.SCALAR (98 ∷ []) YAML_PLAIN_SCALAR_STYLE) 7 7 false
    ∷ Ends 7 7 ∷ [])
    ≡ record {
      tokens = at_mark (token.STREAM_START YAML_UTF8_ENCODING) (m 0 0 0)
          ∷ at_mark token.BLOCK_MAPPING_START (m 0 0 0)
          ∷ tok token.KEY (m 0 0 0) (m 1 0 1)
          ∷ tok (token.SCALAR (97 ∷ []) YAML_PLAIN_SCALAR_STYLE) (m 2 0 2) (m 3 0 3)
          ∷ tok token.VALUE (m 4 1 0) (m 5 1 1)
          ∷ tok (token.SCALAR (98 ∷ []) YAML_PLAIN_SCALAR_STYLE) (m 6 1 2) (m 7 1 3)
          ∷ at_mark token.BLOCK_END (m 7 2 0)
          ∷ at_mark token.STREAM_END (m 7 2 0) ∷ [];
      fault = None;
    }
unfolding scan
complex_key = refl

-- `- - a\n  - b\n- c`
nested_sequences : scan 1024 15 (6 ∷ 12 ∷ []) None
    (Lexed 0 0 BLOCK_ENTRY token.BLOCK_ENTRY 1 1 false
    ∷ Lexed 1 2 BLOCK_ENTRY token.BLOCK_ENTRY 3 3 false
    ∷ Lexed 3 4 PLAIN (token.SCALAR (97 ∷ []) YAML_PLAIN_SCALAR_STYLE) 5 8 true
    ∷ Lexed 8 8 BLOCK_ENTRY token.BLOCK_ENTRY 9 9 false
    ∷ Lexed 9 10 PLAIN (token.SCALAR (98 ∷ []) YAML_PLAIN_SCALAR_STYLE) 11 12 true
    ∷ Lexed 12 12 BLOCK_ENTRY token.BLOCK_ENTRY 13 13 false
    ∷ Lexed 13 14 PLAIN (token.SCALAR (99 ∷ []) YAML_PLAIN_SCALAR_STYLE) 15 15 false
    ∷ Ends 15 15 ∷ [])
    ≡ record {
      tokens = at_mark (token.STREAM_START YAML_UTF8_ENCODING) (m 0 0 0)
          ∷ at_mark token.BLOCK_SEQUENCE_START (m 0 0 0)
          ∷ tok token.BLOCK_ENTRY (m 0 0 0) (m 1 0 1)
          ∷ at_mark token.BLOCK_SEQUENCE_START (m 2 0 2)
          ∷ tok token.BLOCK_ENTRY (m 2 0 2) (m 3 0 3)
          ∷ tok (token.SCALAR (97 ∷ []) YAML_PLAIN_SCALAR_STYLE) (m 4 0 4) (m 5 0 5)
          ∷ tok token.BLOCK_ENTRY (m 8 1 2) (m 9 1 3)
          ∷ tok (token.SCALAR (98 ∷ []) YAML_PLAIN_SCALAR_STYLE) (m 10 1 4) (m 11 1 5)
          ∷ at_mark token.BLOCK_END (m 12 2 0)
          ∷ tok token.BLOCK_ENTRY (m 12 2 0) (m 13 2 1)
          ∷ tok (token.SCALAR (99 ∷ []) YAML_PLAIN_SCALAR_STYLE) (m 14 2 2) (m 15 2 3)
          ∷ at_mark token.BLOCK_END (m 15 3 0)
          ∷ at_mark token.STREAM_END (m 15 3 0) ∷ [];
      fault = None;
    }
unfolding scan
nested_sequences = refl

-- `a: - b`
entry_not_allowed_here : scan 1024 6 [] None
    (Lexed 0 0 PLAIN (token.SCALAR (97 ∷ []) YAML_PLAIN_SCALAR_STYLE) 1 1 false
    ∷ Lexed 1 1 VALUE token.VALUE 2 2 false
    ∷ Lexed 2 3 BLOCK_ENTRY token.BLOCK_ENTRY 4 4 false ∷ [])
    ≡ record {
      tokens = at_mark (token.STREAM_START YAML_UTF8_ENCODING) (m 0 0 0)
          ∷ at_mark token.BLOCK_MAPPING_START (m 0 0 0)
          ∷ at_mark token.KEY (m 0 0 0)
          ∷ tok (token.SCALAR (97 ∷ []) YAML_PLAIN_SCALAR_STYLE) (m 0 0 0) (m 1 0 1)
          ∷ tok token.VALUE (m 1 0 1) (m 2 0 2) ∷ [];
      fault = (Some (scanner_fault (codes "block sequence entries are not allowed in this context") (m 3 0 3) None (m 3 0 3)));
    }
unfolding scan
entry_not_allowed_here = refl

-- `"a" ? b`
key_not_allowed_here : scan 1024 7 [] None
    (Lexed 0 0 DOUBLE_QUOTED (token.SCALAR (97 ∷ []) YAML_DOUBLE_QUOTED_SCALAR_STYLE) 3 3 false
    ∷ Lexed 3 4 KEY token.KEY 5 5 false ∷ [])
    ≡ record {
      tokens = at_mark (token.STREAM_START YAML_UTF8_ENCODING) (m 0 0 0) ∷ [];
      fault = (Some (scanner_fault (codes "mapping keys are not allowed in this context") (m 4 0 4) None (m 4 0 4)));
    }
unfolding scan
key_not_allowed_here = refl

-- `a: [b`
open_at_the_end : scan 1024 5 [] None
    (Lexed 0 0 PLAIN (token.SCALAR (97 ∷ []) YAML_PLAIN_SCALAR_STYLE) 1 1 false
    ∷ Lexed 1 1 VALUE token.VALUE 2 2 false
    ∷ Lexed 2 3 FLOW_SEQUENCE_START token.FLOW_SEQUENCE_START 4 4 false
    ∷ Lexed 4 4 PLAIN (token.SCALAR (98 ∷ []) YAML_PLAIN_SCALAR_STYLE) 5 5 false
    ∷ Ends 5 5 ∷ [])
    ≡ record {
      tokens = at_mark (token.STREAM_START YAML_UTF8_ENCODING) (m 0 0 0)
          ∷ at_mark token.BLOCK_MAPPING_START (m 0 0 0)
          ∷ at_mark token.KEY (m 0 0 0)
          ∷ tok (token.SCALAR (97 ∷ []) YAML_PLAIN_SCALAR_STYLE) (m 0 0 0) (m 1 0 1)
          ∷ tok token.VALUE (m 1 0 1) (m 2 0 2)
          ∷ tok token.FLOW_SEQUENCE_START (m 3 0 3) (m 4 0 4)
          ∷ tok (token.SCALAR (98 ∷ []) YAML_PLAIN_SCALAR_STYLE) (m 4 0 4) (m 5 0 5)
          ∷ at_mark token.STREAM_END (m 5 1 0) ∷ [];
      fault = None;
    }
unfolding scan
open_at_the_end = refl

-- `[a\nb: c]`
stale_in_flow : scan 1024 8 (3 ∷ []) None
    (Lexed 0 0 FLOW_SEQUENCE_START token.FLOW_SEQUENCE_START 1 1 false
    ∷ Lexed 1 1 PLAIN (token.SCALAR (97 ∷ 32 ∷ 98 ∷ []) YAML_PLAIN_SCALAR_STYLE) 4 4 false
    ∷ Lexed 4 4 VALUE token.VALUE 5 5 false
    ∷ Lexed 5 6 PLAIN (token.SCALAR (99 ∷ []) YAML_PLAIN_SCALAR_STYLE) 7 7 false
    ∷ Lexed 7 7 FLOW_SEQUENCE_END token.FLOW_SEQUENCE_END 8 8 false
    ∷ Ends 8 8 ∷ [])
    ≡ record {
      tokens = at_mark (token.STREAM_START YAML_UTF8_ENCODING) (m 0 0 0)
          ∷ tok token.FLOW_SEQUENCE_START (m 0 0 0) (m 1 0 1)
          ∷ tok (token.SCALAR (97 ∷ 32 ∷ 98 ∷ []) YAML_PLAIN_SCALAR_STYLE) (m 1 0 1) (m 4 1 1)
          ∷ tok token.VALUE (m 4 1 1) (m 5 1 2)
          ∷ tok (token.SCALAR (99 ∷ []) YAML_PLAIN_SCALAR_STYLE) (m 6 1 3) (m 7 1 4)
          ∷ tok token.FLOW_SEQUENCE_END (m 7 1 4) (m 8 1 5)
          ∷ at_mark token.STREAM_END (m 8 2 0) ∷ [];
      fault = None;
    }
unfolding scan
stale_in_flow = refl

-- `? - a`
sequence_in_a_key : scan 1024 5 [] None
    (Lexed 0 0 KEY token.KEY 1 1 false
    ∷ Lexed 1 2 BLOCK_ENTRY token.BLOCK_ENTRY 3 3 false
    ∷ Lexed 3 4 PLAIN (token.SCALAR (97 ∷ []) YAML_PLAIN_SCALAR_STYLE) 5 5 false
    ∷ Ends 5 5 ∷ [])
    ≡ record {
      tokens = at_mark (token.STREAM_START YAML_UTF8_ENCODING) (m 0 0 0)
          ∷ at_mark token.BLOCK_MAPPING_START (m 0 0 0)
          ∷ tok token.KEY (m 0 0 0) (m 1 0 1)
          ∷ at_mark token.BLOCK_SEQUENCE_START (m 2 0 2)
          ∷ tok token.BLOCK_ENTRY (m 2 0 2) (m 3 0 3)
          ∷ tok (token.SCALAR (97 ∷ []) YAML_PLAIN_SCALAR_STYLE) (m 4 0 4) (m 5 0 5)
          ∷ at_mark token.BLOCK_END (m 5 1 0)
          ∷ at_mark token.BLOCK_END (m 5 1 0)
          ∷ at_mark token.STREAM_END (m 5 1 0) ∷ [];
      fault = None;
    }
unfolding scan
sequence_in_a_key = refl

-- `["x\ny", z: w]`
later_candidate_of_a_depth : scan 1024 13 (4 ∷ []) None
    (Lexed 0 0 FLOW_SEQUENCE_START token.FLOW_SEQUENCE_START 1 1 false
    ∷ Lexed 1 1 DOUBLE_QUOTED (token.SCALAR (120 ∷ 32 ∷ 121 ∷ []) YAML_DOUBLE_QUOTED_SCALAR_STYLE) 6 6 false
    ∷ Lexed 6 6 FLOW_ENTRY token.FLOW_ENTRY 7 7 false
    ∷ Lexed 7 8 PLAIN (token.SCALAR (122 ∷ []) YAML_PLAIN_SCALAR_STYLE) 9 9 false
    ∷ Lexed 9 9 VALUE token.VALUE 10 10 false
    ∷ Lexed 10 11 PLAIN (token.SCALAR (119 ∷ []) YAML_PLAIN_SCALAR_STYLE) 12 12 false
    ∷ Lexed 12 12 FLOW_SEQUENCE_END token.FLOW_SEQUENCE_END 13 13 false
    ∷ Ends 13 13 ∷ [])
    ≡ record {
      tokens = at_mark (token.STREAM_START YAML_UTF8_ENCODING) (m 0 0 0)
          ∷ tok token.FLOW_SEQUENCE_START (m 0 0 0) (m 1 0 1)
          ∷ tok (token.SCALAR (120 ∷ 32 ∷ 121 ∷ []) YAML_DOUBLE_QUOTED_SCALAR_STYLE) (m 1 0 1) (m 6 1 2)
          ∷ tok token.FLOW_ENTRY (m 6 1 2) (m 7 1 3)
          ∷ at_mark token.KEY (m 8 1 4)
          ∷ tok (token.SCALAR (122 ∷ []) YAML_PLAIN_SCALAR_STYLE) (m 8 1 4) (m 9 1 5)
          ∷ tok token.VALUE (m 9 1 5) (m 10 1 6)
          ∷ tok (token.SCALAR (119 ∷ []) YAML_PLAIN_SCALAR_STYLE) (m 11 1 7) (m 12 1 8)
          ∷ tok token.FLOW_SEQUENCE_END (m 12 1 8) (m 13 1 9)
          ∷ at_mark token.STREAM_END (m 13 2 0) ∷ [];
      fault = None;
    }
unfolding scan
later_candidate_of_a_depth = refl

-- `a: 1\nb: 2\n`, and then the byte FF
refused_after_a_mapping : scan 1024 10 (5 ∷ 10 ∷ []) (Some (reader_says 10 255 (codes "invalid leading UTF-8 octet")))
    (Lexed 0 0 PLAIN (token.SCALAR (97 ∷ []) YAML_PLAIN_SCALAR_STYLE) 1 1 false
    ∷ Lexed 1 1 VALUE token.VALUE 2 2 false
    ∷ Lexed 2 3 PLAIN (token.SCALAR (49 ∷ []) YAML_PLAIN_SCALAR_STYLE) 4 5 true
    ∷ Lexed 5 5 PLAIN (token.SCALAR (98 ∷ []) YAML_PLAIN_SCALAR_STYLE) 6 6 false
    ∷ Lexed 6 6 VALUE token.VALUE 7 7 false
    ∷ Lexed 7 8 PLAIN (token.SCALAR (50 ∷ []) YAML_PLAIN_SCALAR_STYLE) 9 10 true
    ∷ Ends 10 10 ∷ [])
    ≡ record {
      tokens = at_mark (token.STREAM_START YAML_UTF8_ENCODING) (m 0 0 0)
          ∷ at_mark token.BLOCK_MAPPING_START (m 0 0 0)
          ∷ at_mark token.KEY (m 0 0 0)
          ∷ tok (token.SCALAR (97 ∷ []) YAML_PLAIN_SCALAR_STYLE) (m 0 0 0) (m 1 0 1)
          ∷ tok token.VALUE (m 1 0 1) (m 2 0 2) ∷ [];
      fault = (Some (reader_says 10 255 (codes "invalid leading UTF-8 octet")));
    }
unfolding scan
refused_after_a_mapping = refl

-- `a: b: cdefgh`, and then the byte FF
scanner_fault_in_time : scan 1024 12 [] (Some (reader_says 12 255 (codes "invalid leading UTF-8 octet")))
    (Lexed 0 0 PLAIN (token.SCALAR (97 ∷ []) YAML_PLAIN_SCALAR_STYLE) 1 1 false
    ∷ Lexed 1 1 VALUE token.VALUE 2 2 false
    ∷ Lexed 2 3 PLAIN (token.SCALAR (98 ∷ []) YAML_PLAIN_SCALAR_STYLE) 4 4 false
    ∷ Lexed 4 4 VALUE token.VALUE 5 5 false ∷ [])
    ≡ record {
      tokens = at_mark (token.STREAM_START YAML_UTF8_ENCODING) (m 0 0 0)
          ∷ at_mark token.BLOCK_MAPPING_START (m 0 0 0)
          ∷ at_mark token.KEY (m 0 0 0)
          ∷ tok (token.SCALAR (97 ∷ []) YAML_PLAIN_SCALAR_STYLE) (m 0 0 0) (m 1 0 1)
          ∷ tok token.VALUE (m 1 0 1) (m 2 0 2)
          ∷ tok (token.SCALAR (98 ∷ []) YAML_PLAIN_SCALAR_STYLE) (m 3 0 3) (m 4 0 4) ∷ [];
      fault = (Some (scanner_fault (codes "mapping values are not allowed in this context") (m 4 0 4) None (m 4 0 4)));
    }
unfolding scan
scanner_fault_in_time = refl

-- `a: b: cdefg`, and then the byte FF
scanner_fault_too_near : scan 1024 11 [] (Some (reader_says 11 255 (codes "invalid leading UTF-8 octet")))
    (Lexed 0 0 PLAIN (token.SCALAR (97 ∷ []) YAML_PLAIN_SCALAR_STYLE) 1 1 false
    ∷ Lexed 1 1 VALUE token.VALUE 2 2 false
    ∷ Lexed 2 3 PLAIN (token.SCALAR (98 ∷ []) YAML_PLAIN_SCALAR_STYLE) 4 4 false
    ∷ Lexed 4 4 VALUE token.VALUE 5 5 false ∷ [])
    ≡ record {
      tokens = at_mark (token.STREAM_START YAML_UTF8_ENCODING) (m 0 0 0)
          ∷ at_mark token.BLOCK_MAPPING_START (m 0 0 0)
          ∷ at_mark token.KEY (m 0 0 0)
          ∷ tok (token.SCALAR (97 ∷ []) YAML_PLAIN_SCALAR_STYLE) (m 0 0 0) (m 1 0 1)
          ∷ tok token.VALUE (m 1 0 1) (m 2 0 2) ∷ [];
      fault = (Some (reader_says 11 255 (codes "invalid leading UTF-8 octet")));
    }
unfolding scan
scanner_fault_too_near = refl

-- `a: bcdef`, and then the byte FF
first_lexeme_near : scan 1024 8 [] (Some (reader_says 8 255 (codes "invalid leading UTF-8 octet")))
    (Lexed 0 0 PLAIN (token.SCALAR (97 ∷ []) YAML_PLAIN_SCALAR_STYLE) 1 1 false
    ∷ Lexed 1 1 VALUE token.VALUE 2 2 false
    ∷ Lexed 2 3 PLAIN (token.SCALAR (98 ∷ 99 ∷ 100 ∷ 101 ∷ 102 ∷ []) YAML_PLAIN_SCALAR_STYLE) 8 8 false
    ∷ Ends 8 8 ∷ [])
    ≡ record {
      tokens = at_mark (token.STREAM_START YAML_UTF8_ENCODING) (m 0 0 0) ∷ [];
      fault = (Some (reader_says 8 255 (codes "invalid leading UTF-8 octet")));
    }
unfolding scan
first_lexeme_near = refl

-- `abcdefg`, and then the byte FF
stream_start_near : scan 1024 7 [] (Some (reader_says 7 255 (codes "invalid leading UTF-8 octet")))
    (Lexed 0 0 PLAIN (token.SCALAR (97 ∷ 98 ∷ 99 ∷ 100 ∷ 101 ∷ 102 ∷ 103 ∷ []) YAML_PLAIN_SCALAR_STYLE) 7 7 false
    ∷ Ends 7 7 ∷ [])
    ≡ record {
      tokens = [];
      fault = (Some (reader_says 7 255 (codes "invalid leading UTF-8 octet")));
    }
unfolding scan
stream_start_near = refl

-- `ab: 1`, with a key limit of 1
limit_one : scan 1 5 [] None
    (Lexed 0 0 PLAIN (token.SCALAR (97 ∷ 98 ∷ []) YAML_PLAIN_SCALAR_STYLE) 2 2 false
    ∷ Lexed 2 2 VALUE token.VALUE 3 3 false ∷ [])
    ≡ record {
      tokens = at_mark (token.STREAM_START YAML_UTF8_ENCODING) (m 0 0 0)
          ∷ tok (token.SCALAR (97 ∷ 98 ∷ []) YAML_PLAIN_SCALAR_STYLE) (m 0 0 0) (m 2 0 2) ∷ [];
      fault = (Some (scanner_fault (codes "mapping values are not allowed in this context") (m 2 0 2) None (m 2 0 2)));
    }
unfolding scan
limit_one = refl

-- `ab: 1`, with a key limit of 2
limit_two : scan 2 5 [] None
    (Lexed 0 0 PLAIN (token.SCALAR (97 ∷ 98 ∷ []) YAML_PLAIN_SCALAR_STYLE) 2 2 false
    ∷ Lexed 2 2 VALUE token.VALUE 3 3 false
    ∷ Lexed 3 4 PLAIN (token.SCALAR (49 ∷ []) YAML_PLAIN_SCALAR_STYLE) 5 5 false
    ∷ Ends 5 5 ∷ [])
    ≡ record {
      tokens = at_mark (token.STREAM_START YAML_UTF8_ENCODING) (m 0 0 0)
          ∷ at_mark token.BLOCK_MAPPING_START (m 0 0 0)
          ∷ at_mark token.KEY (m 0 0 0)
          ∷ tok (token.SCALAR (97 ∷ 98 ∷ []) YAML_PLAIN_SCALAR_STYLE) (m 0 0 0) (m 2 0 2)
          ∷ tok token.VALUE (m 2 0 2) (m 3 0 3)
          ∷ tok (token.SCALAR (49 ∷ []) YAML_PLAIN_SCALAR_STYLE) (m 4 0 4) (m 5 0 5)
          ∷ at_mark token.BLOCK_END (m 5 1 0)
          ∷ at_mark token.STREAM_END (m 5 1 0) ∷ [];
      fault = None;
    }
unfolding scan
limit_two = refl

-- `a: 1\nab: 2`, with a key limit of 1
limit_one_required : scan 1 10 (5 ∷ []) None
    (Lexed 0 0 PLAIN (token.SCALAR (97 ∷ []) YAML_PLAIN_SCALAR_STYLE) 1 1 false
    ∷ Lexed 1 1 VALUE token.VALUE 2 2 false
    ∷ Lexed 2 3 PLAIN (token.SCALAR (49 ∷ []) YAML_PLAIN_SCALAR_STYLE) 4 5 true
    ∷ Lexed 5 5 PLAIN (token.SCALAR (97 ∷ 98 ∷ []) YAML_PLAIN_SCALAR_STYLE) 7 7 false ∷ [])
    ≡ record {
      tokens = at_mark (token.STREAM_START YAML_UTF8_ENCODING) (m 0 0 0)
          ∷ at_mark token.BLOCK_MAPPING_START (m 0 0 0)
          ∷ at_mark token.KEY (m 0 0 0)
          ∷ tok (token.SCALAR (97 ∷ []) YAML_PLAIN_SCALAR_STYLE) (m 0 0 0) (m 1 0 1)
          ∷ tok token.VALUE (m 1 0 1) (m 2 0 2)
          ∷ tok (token.SCALAR (49 ∷ []) YAML_PLAIN_SCALAR_STYLE) (m 3 0 3) (m 4 0 4) ∷ [];
      fault = (Some (scanner_fault (codes "could not find expected ':'") (m 7 1 2) (Some (codes "while scanning a simple key")) (m 5 1 0)));
    }
unfolding scan
limit_one_required = refl

-- SESSIONS
called : ℕ → ℕ → List ℕ → List Entry → List Call → List Answer
unfolding session pace steps_for least answers course next step read_step required stale refused clears before up_to waiting is_current offline groups group inserted block_ends laid level staying_columns open_columns still_open opens is_completed completed_by candidate allowed depth
called limit size starts es calls = session YAML_UTF8_ENCODING limit (course limit (record { encoding = YAML_UTF8_ENCODING; source = source size starts es; refusal = None })) calls new_session

-- how many steps are queued, and how far the last one was read
seen : ℕ → ℕ → List ℕ → List Entry → List Call → ℕ × yaml_mark_t
unfolding after_all queued pace steps_for least course next step read_step required stale refused clears before up_to waiting is_current offline groups group inserted block_ends laid level staying_columns open_columns still_open opens is_completed completed_by candidate allowed depth
seen limit size starts es calls =
    let c = course limit (record { encoding = YAML_UTF8_ENCODING; source = source size starts es; refusal = None }) in
    let s = after_all limit c calls new_session in
    (session_queued c s, session_reach c s)

-- `a: b: c`, and after the fault a peek, a skip and a scan
a_fault_is_answered_once : called 1024 7 []
    (Lexed 0 0 PLAIN (token.SCALAR (97 ∷ []) YAML_PLAIN_SCALAR_STYLE) 1 1 false
    ∷ Lexed 1 1 VALUE token.VALUE 2 2 false
    ∷ Lexed 2 3 PLAIN (token.SCALAR (98 ∷ []) YAML_PLAIN_SCALAR_STYLE) 4 4 false
    ∷ Lexed 4 4 VALUE token.VALUE 5 5 false ∷ [])
    (SCAN ∷ SCAN ∷ SCAN ∷ SCAN ∷ SCAN ∷ SCAN ∷ PEEK ∷ PEEK ∷ SKIP ∷ SCAN ∷ [])
    ≡ TOKEN (at_mark (token.STREAM_START YAML_UTF8_ENCODING) (m 0 0 0))
    ∷ TOKEN (at_mark token.BLOCK_MAPPING_START (m 0 0 0))
    ∷ TOKEN (at_mark token.KEY (m 0 0 0))
    ∷ TOKEN (tok (token.SCALAR (97 ∷ []) YAML_PLAIN_SCALAR_STYLE) (m 0 0 0) (m 1 0 1))
    ∷ TOKEN (tok token.VALUE (m 1 0 1) (m 2 0 2))
    ∷ TOKEN (tok (token.SCALAR (98 ∷ []) YAML_PLAIN_SCALAR_STYLE) (m 3 0 3) (m 4 0 4))
    ∷ FAULT (scanner_fault (codes "mapping values are not allowed in this context") (m 4 0 4) None (m 4 0 4))
    ∷ PEEKED empty
    ∷ NOTHING
    ∷ TOKEN empty ∷ []
unfolding called
a_fault_is_answered_once = refl

-- `[a]`, with peeks and skips
peeks_and_skips : called 1024 3 []
    (Lexed 0 0 FLOW_SEQUENCE_START token.FLOW_SEQUENCE_START 1 1 false
    ∷ Lexed 1 1 PLAIN (token.SCALAR (97 ∷ []) YAML_PLAIN_SCALAR_STYLE) 2 2 false
    ∷ Lexed 2 2 FLOW_SEQUENCE_END token.FLOW_SEQUENCE_END 3 3 false
    ∷ Ends 3 3 ∷ [])
    (PEEK ∷ PEEK ∷ SKIP ∷ SCAN ∷ SKIP ∷ PEEK ∷ SCAN ∷ SCAN ∷ SCAN ∷ SCAN ∷ [])
    ≡ PEEKED (at_mark (token.STREAM_START YAML_UTF8_ENCODING) (m 0 0 0))
    ∷ PEEKED (at_mark (token.STREAM_START YAML_UTF8_ENCODING) (m 0 0 0))
    ∷ SKIPPED
    ∷ TOKEN (tok token.FLOW_SEQUENCE_START (m 0 0 0) (m 1 0 1))
    ∷ NOTHING
    ∷ PEEKED (tok (token.SCALAR (97 ∷ []) YAML_PLAIN_SCALAR_STYLE) (m 1 0 1) (m 2 0 2))
    ∷ TOKEN (tok (token.SCALAR (97 ∷ []) YAML_PLAIN_SCALAR_STYLE) (m 1 0 1) (m 2 0 2))
    ∷ TOKEN (tok token.FLOW_SEQUENCE_END (m 2 0 2) (m 3 0 3))
    ∷ TOKEN (at_mark token.STREAM_END (m 3 1 0))
    ∷ TOKEN empty ∷ []
unfolding called
peeks_and_skips = refl

-- `&a b: c` after a scan
one_step_made : seen 1024 7 []
    (Lexed 0 0 ANCHOR (token.ANCHOR (97 ∷ [])) 2 2 false
    ∷ Lexed 2 3 PLAIN (token.SCALAR (98 ∷ []) YAML_PLAIN_SCALAR_STYLE) 4 4 false
    ∷ Lexed 4 4 VALUE token.VALUE 5 5 false
    ∷ Lexed 5 6 PLAIN (token.SCALAR (99 ∷ []) YAML_PLAIN_SCALAR_STYLE) 7 7 false
    ∷ Ends 7 7 ∷ [])
    (SCAN ∷ [])
    ≡ (0, m 0 0 0)
unfolding seen
one_step_made = refl

-- and a peek
steps_up_to_the_colon : seen 1024 7 []
    (Lexed 0 0 ANCHOR (token.ANCHOR (97 ∷ [])) 2 2 false
    ∷ Lexed 2 3 PLAIN (token.SCALAR (98 ∷ []) YAML_PLAIN_SCALAR_STYLE) 4 4 false
    ∷ Lexed 4 4 VALUE token.VALUE 5 5 false
    ∷ Lexed 5 6 PLAIN (token.SCALAR (99 ∷ []) YAML_PLAIN_SCALAR_STYLE) 7 7 false
    ∷ Ends 7 7 ∷ [])
    (SCAN ∷ PEEK ∷ [])
    ≡ (3, m 5 0 5)
unfolding seen
steps_up_to_the_colon = refl

-- and three scans
steps_taken : seen 1024 7 []
    (Lexed 0 0 ANCHOR (token.ANCHOR (97 ∷ [])) 2 2 false
    ∷ Lexed 2 3 PLAIN (token.SCALAR (98 ∷ []) YAML_PLAIN_SCALAR_STYLE) 4 4 false
    ∷ Lexed 4 4 VALUE token.VALUE 5 5 false
    ∷ Lexed 5 6 PLAIN (token.SCALAR (99 ∷ []) YAML_PLAIN_SCALAR_STYLE) 7 7 false
    ∷ Ends 7 7 ∷ [])
    (SCAN ∷ PEEK ∷ SCAN ∷ SCAN ∷ SCAN ∷ [])
    ≡ (2, m 5 0 5)
unfolding seen
steps_taken = refl

-- six times `[` with a key limit of 4, after a scan and a peek
one_more_than_the_limit : seen 4 6 []
    (Lexed 0 0 FLOW_SEQUENCE_START token.FLOW_SEQUENCE_START 1 1 false
    ∷ Lexed 1 1 FLOW_SEQUENCE_START token.FLOW_SEQUENCE_START 2 2 false
    ∷ Lexed 2 2 FLOW_SEQUENCE_START token.FLOW_SEQUENCE_START 3 3 false
    ∷ Lexed 3 3 FLOW_SEQUENCE_START token.FLOW_SEQUENCE_START 4 4 false
    ∷ Lexed 4 4 FLOW_SEQUENCE_START token.FLOW_SEQUENCE_START 5 5 false
    ∷ Lexed 5 5 FLOW_SEQUENCE_START token.FLOW_SEQUENCE_START 6 6 false
    ∷ Ends 6 6 ∷ [])
    (SCAN ∷ PEEK ∷ [])
    ≡ (5, m 5 0 5)
unfolding seen
one_more_than_the_limit = refl

-- `["x\ny", z: w]`: how many of the lowest slots are empty after so many lexemes, in the flow collection
counter : ℕ → ℕ
unfolding course next step read_step required stale refused clears laid level staying_columns open_columns still_open opens is_completed completed_by candidate allowed depth
counter n = empty_slots (outer_to 1024 (oldest n (course 1024 (record {
  encoding = YAML_UTF8_ENCODING;
  source = source 13 (4 ∷ [])
      (Lexed 0 0 FLOW_SEQUENCE_START token.FLOW_SEQUENCE_START 1 1 false
      ∷ Lexed 1 1 DOUBLE_QUOTED (token.SCALAR (120 ∷ 32 ∷ 121 ∷ []) YAML_DOUBLE_QUOTED_SCALAR_STYLE) 6 6 false
      ∷ Lexed 6 6 FLOW_ENTRY token.FLOW_ENTRY 7 7 false
      ∷ Lexed 7 8 PLAIN (token.SCALAR (122 ∷ []) YAML_PLAIN_SCALAR_STYLE) 9 9 false
      ∷ Lexed 9 9 VALUE token.VALUE 10 10 false
      ∷ Lexed 10 11 PLAIN (token.SCALAR (119 ∷ []) YAML_PLAIN_SCALAR_STYLE) 12 12 false
      ∷ Lexed 12 12 FLOW_SEQUENCE_END token.FLOW_SEQUENCE_END 13 13 false
      ∷ Ends 13 13 ∷ []);
  refusal = None;
})).read) 1)

-- the lowest slot is that of `[`
counter_is_below_a_live_slot : counter 1 ≡ 0
unfolding counter
counter_is_below_a_live_slot = refl

-- which is no key any more after the line break: so the counter rises past it
counter_rises_past_a_stale_slot : counter 2 ≡ 1
unfolding counter
counter_rises_past_a_stale_slot = refl

-- Every token and every fault that is returned can be put in words.
use Rattle.std.proofs.Common.{◌≡◌, ◌≢◌, ℕ, zero, suc, ◌+◌, Bool, true, false, ◌||◌, if◌then◌else◌, List, [], ◌∷◌, map}
use Rattle.std.proofs.Common.{filter, drop, length, Option, Some, None, Ok, Err, slice_get, refl, subst}
use Rattle.yaml_scan.specs.inside.StepParts.{kind_step, read_step, after_read}
use Rattle.yaml_scan.specs.Course.{ended, Cut, cut_from, cut_on, Input, Course, course, course_from, next}
use Rattle.yaml_scan.specs.inside.TextReads.{IsRead}
use Rattle.std.specs.Prelude.{Result, IfSome, nat_lt, option_map}
use Rattle.std.proofs.lemmas.Bool.{or_left, or_right}
use Rattle.yaml_text.specs.Fault.{Fault}
use Rattle.yaml_text.specs.declared.types.yaml_mark_t.{yaml_mark_t}
use Rattle.yaml_text.specs.declared.types.yaml_encoding_t.{yaml_encoding_t}
use Rattle.yaml_text.specs.declared.types.yaml_encoding_t.TheVariants.{YAML_ANY_ENCODING}
use Rattle.yaml_text.specs.declared.types.yaml_scalar_style_t.TheVariants.{YAML_ANY_SCALAR_STYLE}
use Rattle.yaml_text.specs.declared.types.yaml_scalar_style_t.TheVariants.{YAML_PLAIN_SCALAR_STYLE}
use Rattle.yaml_text.specs.declared.types.yaml_scalar_style_t.TheVariants.{YAML_SINGLE_QUOTED_SCALAR_STYLE}
use Rattle.yaml_text.specs.declared.types.yaml_scalar_style_t.TheVariants.{YAML_DOUBLE_QUOTED_SCALAR_STYLE}
use Rattle.yaml_text.specs.declared.types.yaml_scalar_style_t.TheVariants.{YAML_LITERAL_SCALAR_STYLE}
use Rattle.yaml_text.specs.declared.types.yaml_scalar_style_t.TheVariants.{YAML_FOLDED_SCALAR_STYLE}
use Rattle.yaml_text.specs.Token.{TokenData as unnamed_yaml_token_t_data, TokenData as token}
use Rattle.yaml_text.specs.Decode.{front, front_len, encoding_of, refusal, refusal_of}
use Rattle.yaml_text.proofs.Decodings.DecodeResults.{not_any}
use Rattle.yaml_lexeme.specs.declared.kind.yaml_lexeme_kind_t.TheVariants as kind
use Rattle.yaml_lexeme.specs.declared.lex.yaml_context_t.{yaml_context_t}
use Rattle.yaml_lexeme.specs.Lexeme.{Lexeme as yaml_lexeme_t, whole_of, scalar_to, directive_to}
use Rattle.yaml_lexeme.specs.Place.{Place, place_at}
use Rattle.yaml_lexeme.specs.Reading.{Found, Read, found, ◌>>=◌}
use Rattle.yaml_lexeme.specs.Block.{block}
use Rattle.yaml_lexeme.specs.Plain.{plain}
use Rattle.yaml_lexeme.specs.Quoted.{quoted}
use Rattle.yaml_lexeme.specs.Name.{name}
use Rattle.yaml_lexeme.specs.Tag.{tag}
use Rattle.yaml_lexeme.specs.Directive.{directive}
use Rattle.yaml_lexeme.specs.Lex.{lex, in_flow, least}
use Rattle.yaml_lexeme.specs.KindSets.{quoted_as}
use Rattle.yaml_scan.specs.Kind.{Kind}
use Rattle.yaml_scan.specs.Token.{empty, type_of}
use Rattle.yaml_scan.specs.Laid.{Laid, Lexeme}
use Rattle.yaml_scan.specs.Depth.{depth}
use Rattle.yaml_scan.specs.Levels.{laid, level}
use Rattle.yaml_scan.specs.Groups.{Token, handed_out, block_ends, group, groups, offline}
use Rattle.yaml_scan.specs.Settled.{up_to, waiting, before, tokens_of}
use Rattle.yaml_scan.specs.Groups.Token.{StreamStart, BlockEnd, BlockSequenceStart, BlockMappingStart, InsertedKey}
use Rattle.yaml_scan.specs.Groups.Token.{OfLexeme}
use Rattle.yaml_scan.specs.Source.{Source, Reading, Offence}
use Rattle.yaml_scan.specs.SourceOf.{source_of, reading_of}
use Rattle.yaml_scan.specs.Step.{Outcome, step, unless, refuse, stale, refused}
use Rattle.yaml_scan.specs.Step.{clears, start_at, gap_end_of, lexeme_of}
use Rattle.yaml_scan.specs.Step.Outcome.{Reads, Faults}
use Rattle.yaml_scan.specs.Answers.{answers}
use Rattle.yaml_scan.specs.Near.{starts_near, is_near, place_of, unless_near}
use Rattle.yaml_scan.specs.Inputs.{answers_to}
use Rattle.yaml_scan.specs.Decoded.{decoded_input}
use Rattle.yaml_scan.specs.Session.{Session, Call, answer, after, next_token, why}
use Rattle.yaml_scan.specs.Sessions.{session}
use Rattle.yaml_scan.specs.Session.Call.{SCAN, PEEK, SKIP}
use Rattle.yaml_scan.specs.Session.Answer.{TOKEN, PEEKED, SKIPPED, NOTHING}
use Rattle.yaml_scan.specs.Words.{HasWords, HasLine, HaveWords, AllHaveLines, AnswerHasLine, AnswersHaveLines}
use Rattle.yaml_scan.specs.Words.{SessionsHaveLines}
use Rattle.yaml_scan.proofs.SessionCalls.CallCases.{scan_answer, peek_answer}
use Rattle.yaml_scan.proofs.TokenList.EveryToken.{Every, HoldsPutIn, every_append, every_block_end, every_of_group}
use Rattle.yaml_scan.proofs.Texts.LexemeReads.{is_tag_type, is_directive_type, tag_gives, directive_gives}

-- LEXEMES
-- a lexeme that is read has words
abbrev LexTold : Read yaml_lexeme_t → Type 0
LexTold (Ok f) = HasWords f.value.token_data
LexTold (Err o) = Unit {0}

made_told : {A : Type 0} (r : Read A) (make : Found A → yaml_lexeme_t) → ((x : Found A) → r ≡ Ok x → HasWords (make x).token_data) → LexTold (r >>= λ x. found (make x) x.end)
made_told (Ok x) make k = k x refl
made_told (Err o) make k = tt

-- a tag or a directive
marked_told : (d : unnamed_yaml_token_t_data) → (is_tag_type (type_of d) || is_directive_type (type_of d)) ≡ true → HasWords d
marked_told (token.STREAM_START e) q = cc
marked_told (token.SCALAR v s) q = cc
marked_told (token.NO_TOKEN) q = tt
marked_told (token.STREAM_END) q = tt
marked_told (token.VERSION_DIRECTIVE a b) q = tt
marked_told (token.TAG_DIRECTIVE a b) q = tt
marked_told (token.DOCUMENT_START) q = tt
marked_told (token.DOCUMENT_END) q = tt
marked_told (token.BLOCK_SEQUENCE_START) q = tt
marked_told (token.BLOCK_MAPPING_START) q = tt
marked_told (token.BLOCK_END) q = tt
marked_told (token.FLOW_SEQUENCE_START) q = tt
marked_told (token.FLOW_SEQUENCE_END) q = tt
marked_told (token.FLOW_MAPPING_START) q = tt
marked_told (token.FLOW_MAPPING_END) q = tt
marked_told (token.BLOCK_ENTRY) q = tt
marked_told (token.FLOW_ENTRY) q = tt
marked_told (token.KEY) q = tt
marked_told (token.VALUE) q = tt
marked_told (token.ALIAS v) q = tt
marked_told (token.ANCHOR v) q = tt
marked_told (token.TAG a b) q = tt

plain_is : YAML_PLAIN_SCALAR_STYLE ≢ YAML_ANY_SCALAR_STYLE
plain_is e = cc

single_is : YAML_SINGLE_QUOTED_SCALAR_STYLE ≢ YAML_ANY_SCALAR_STYLE
single_is e = cc

double_is : YAML_DOUBLE_QUOTED_SCALAR_STYLE ≢ YAML_ANY_SCALAR_STYLE
double_is e = cc

literal_is : YAML_LITERAL_SCALAR_STYLE ≢ YAML_ANY_SCALAR_STYLE
literal_is e = cc

folded_is : YAML_FOLDED_SCALAR_STYLE ≢ YAML_ANY_SCALAR_STYLE
folded_is e = cc

lex_told : (k : Kind) (c : yaml_context_t) (p : Place) → LexTold (lex k c p)
unfolding lex
lex_told kind.STREAM_END c p = tt
lex_told kind.DOCUMENT_START c p = tt
lex_told kind.DOCUMENT_END c p = tt
lex_told kind.FLOW_SEQUENCE_START c p = tt
lex_told kind.FLOW_MAPPING_START c p = tt
lex_told kind.FLOW_SEQUENCE_END c p = tt
lex_told kind.FLOW_MAPPING_END c p = tt
lex_told kind.FLOW_ENTRY c p = tt
lex_told kind.BLOCK_ENTRY c p = tt
lex_told kind.KEY c p = tt
lex_told kind.VALUE c p = tt
lex_told kind.DIRECTIVE c p = made_told (directive p) (λ x. directive_to p.mark x.value x.end.mark) (λ x q. marked_told x.value.says (or_right (is_tag_type (type_of x.value.says)) (is_directive_type (type_of x.value.says)) ((directive_gives p).is x q)))
lex_told kind.TAG c p = made_told (tag (in_flow c) p) (λ x. whole_of x.value p.mark x.end.mark) (λ x q. marked_told x.value (or_left (is_tag_type (type_of x.value)) (is_directive_type (type_of x.value)) ((tag_gives (in_flow c) p).is x q)))
lex_told kind.ALIAS c p = made_told (name p) (λ x. whole_of (token.ALIAS x.value) p.mark x.end.mark) (λ x q. tt)
lex_told kind.ANCHOR c p = made_told (name p) (λ x. whole_of (token.ANCHOR x.value) p.mark x.end.mark) (λ x q. tt)
lex_told kind.LITERAL c p = made_told (block false c.level p) (λ x. scalar_to YAML_LITERAL_SCALAR_STYLE p.mark x.value x.end.mark) (λ x q. literal_is)
lex_told kind.FOLDED c p = made_told (block true c.level p) (λ x. scalar_to YAML_FOLDED_SCALAR_STYLE p.mark x.value x.end.mark) (λ x q. folded_is)
lex_told kind.SINGLE_QUOTED c p = made_told (quoted true p) (λ x. whole_of (quoted_as YAML_SINGLE_QUOTED_SCALAR_STYLE x.value) p.mark x.end.mark) (λ x q. single_is)
lex_told kind.DOUBLE_QUOTED c p = made_told (quoted false p) (λ x. whole_of (quoted_as YAML_DOUBLE_QUOTED_SCALAR_STYLE x.value) p.mark x.end.mark) (λ x q. double_is)
lex_told kind.PLAIN c p = made_told (plain (in_flow c) (least c) p) (λ x. scalar_to YAML_PLAIN_SCALAR_STYLE p.mark x.value x.end.mark) (λ x q. plain_is)

-- WHAT IS READ OF A TEXT
abbrev ReadingTold : Result Reading Offence → Type 0
ReadingTold (Ok r) = HasWords r.token_data
ReadingTold (Err o) = HasLine o.fault

-- all that is read of a text
abbrev SourceTold : Source → Type 0
SourceTold S = (k : Kind) (d : ℕ) (l : Option ℕ) (p : ℕ) → ReadingTold (S.read k d l p)

reading_told : (n : ℕ) (k : Kind) (p : Place) (x : Read yaml_lexeme_t) → LexTold x → ReadingTold (reading_of n k p x)
reading_told n k p (Ok f) t = t
reading_told n k p (Err e) t = refl

source_told : (cs : List ℕ) → SourceTold (source_of cs)
unfolding source_of
source_told cs k d l p = reading_told (length cs) k (place_at cs p) (lex k (record { depth = d; level = l }) (place_at cs p)) (lex_told k (record { depth = d; level = l }) (place_at cs p))

-- a lexeme that was read has words
pub read_has_words : (cs : List ℕ) (k : Kind) (d : ℕ) (l : Option ℕ) (p : ℕ) (x : yaml_lexeme_t) → IsRead cs k d l p x → HasWords x.token_data
read_has_words cs k d l p x r = subst (λ (o : Result Reading Offence). ReadingTold o) r.1 (source_told cs k d l p)

-- STEPS
abbrev OutcomeTold : Outcome → Type 0
OutcomeTold (Reads x) = HasWords x.token_data
OutcomeTold (Faults o) = HasLine o.fault

unless_told : (o : Option Laid) (m : yaml_mark_t) (p : ℕ) (y : Outcome) → OutcomeTold y → OutcomeTold (unless o m p y)
unless_told None m p y t = t
unless_told (Some i) m p y t = refl

refuse_told : (o : Option (List ℕ)) (m : yaml_mark_t) (p : ℕ) (y : Outcome) → OutcomeTold y → OutcomeTold (refuse o m p y)
refuse_told None m p y t = t
refuse_told (Some problem) m p y t = refl

after_read_told : (limit : ℕ) (H : List Laid) (k : Kind) (g : yaml_mark_t) (r : Result Reading Offence) → ReadingTold r → OutcomeTold (after_read limit H k g r)
after_read_told limit H k g (Ok r) t = unless_told (stale limit (laid limit H (lexeme_of k g r) ∷ H) r.reach) r.reach r.place (Reads (lexeme_of k g r)) t
after_read_told limit H k g (Err o) t = t

module _ (S : Source) (s : SourceTold S) (limit : ℕ) (H : List Laid) where
  kind_told : (p : ℕ) (o : Option Kind) → OutcomeTold (kind_step S limit H p o)
  unfolding read_step
  kind_told p None = refl
  kind_told p (Some k) =
      let g = S.mark p in
      let r = after_read_told limit H k g (S.read k (depth H) (level H k (start_at k g)) p) (s k (depth H) (level H k (start_at k g)) p) in
      refuse_told (refused limit H k g) g p (unless (clears limit H k g) (start_at k g) p (read_step S limit H k p)) (unless_told (clears limit H k g) (start_at k g) p (read_step S limit H k p) r)

  step_told : OutcomeTold (step S limit H)
  unfolding step read_step
  step_told =
      let p = gap_end_of S H in
      let k = S.kind (nat_lt 0 (depth H)) p in
      unless_told (stale limit H (S.mark p)) (S.mark p) p (kind_step S limit H p k) (kind_told p k)

-- near the end the reader's fault comes instead
near_told : (size : ℕ) (r : Option Fault) (o : Outcome) → IfSome r HasLine → OutcomeTold o → OutcomeTold (unless_near size r o)
near_told size None o t u = u
near_told size (Some f) o t u = cases (is_near size (place_of o))
  where
    cases : (b : Bool) → OutcomeTold (if b then Faults (record { fault = f; place = size }) else o)
    cases true = t
    cases false = u

-- THE COURSE
abbrev AllTold : List Laid → Type 0
AllTold [] = Unit {0}
AllTold (i ∷ H) = HasWords i.lexeme.token_data × AllTold H

abbrev CutTold : Cut → Type 0
CutTold c = AllTold c.read × IfSome c.fault (λ o. HasLine o.fault)

module _ (next : List Laid → Outcome) (told : (H : List Laid) → OutcomeTold (next H)) (limit : ℕ) where
  cut_told : (n : ℕ) (H : List Laid) → AllTold H → CutTold (cut_from next n limit H)
  unfolding laid
  cut_told zero H t = (t, tt)
  cut_told (suc n) H t = cases (λ x u. cut_told n (laid limit H x ∷ H) (u, t)) (ended H) (next H) (told H)
    where
      cases : ((x : Lexeme) → HasWords x.token_data → CutTold (cut_from next n limit (laid limit H x ∷ H))) → (b : Bool) (o : Outcome) → OutcomeTold o
          → CutTold (if b then record { read = H; fault = None } else cut_on (cut_from next n) limit H o)
      cases more true o u = (t, tt)
      cases more false (Faults o) u = (t, u)
      cases more false (Reads x) u = more x u

abbrev CourseTold : Course → Type 0
CourseTold c = AllTold c.read × IfSome c.fault HasLine

fault_told : (o : Option Offence) → IfSome o (λ x. HasLine x.fault) → IfSome (option_map (λ x. x.fault) o) HasLine
fault_told None t = tt
fault_told (Some o) t = t

from_told : (b : Bool) (r : Option Fault) (c : Cut) → IfSome r HasLine → CutTold c → CourseTold (course_from b r c)
from_told true r c t u = (tt, t)
from_told false r c t u = (u.0, fault_told c.fault u.1)

-- an input of which all can be put in words
record InputTold (input : Input) : Type 0 where
  encoding : input.encoding ≢ YAML_ANY_ENCODING
  source : SourceTold input.source
  refusal : IfSome input.refusal HasLine

course_told : (limit : ℕ) (input : Input) → InputTold input → CourseTold (course limit input)
unfolding course next
course_told limit input i = from_told (starts_near input.source.size input.refusal) input.refusal (cut_from (next input limit) (input.source.size + 1) limit []) i.refusal
    (cut_told (next input limit) (λ H. near_told input.source.size input.refusal (step input.source limit H) i.refusal (step_told input.source i.source limit H)) limit (input.source.size + 1) [] tt)

-- TOKENS
abbrev TokenTold : Token → Type 0
TokenTold (OfLexeme x) = HasWords x.token_data
TokenTold StreamStart = Unit {0}
TokenTold (BlockEnd m) = Unit {0}
TokenTold (BlockSequenceStart m) = Unit {0}
TokenTold (BlockMappingStart m) = Unit {0}
TokenTold (InsertedKey m) = Unit {0}

abbrev TokensTold : List Token → Type 0
TokensTold ts = Every TokenTold ts

put_in_told : HoldsPutIn TokenTold
put_in_told = record { start = tt; ends = λ m. tt; sequence = λ m. tt; mapping = λ m. tt; key = λ m. tt }

groups_told : (W B : List Laid) → AllTold B → TokensTold (groups W B)
unfolding groups
groups_told W [] f = (tt, tt)
groups_told W (i ∷ B) f = every_append TokenTold (groups W B) (group W i) (groups_told W B f.1) (every_of_group TokenTold put_in_told W i f.0)

filter_told : (p : Laid → Bool) (H : List Laid) → AllTold H → AllTold (filter p H)
filter_told p [] f = tt
filter_told p (i ∷ H) f = cases (p i) (filter_told p H f.1)
  where
    cases : (b : Bool) → AllTold (filter p H) → AllTold (if b then i ∷ filter p H else filter p H)
    cases true t = (f.0, t)
    cases false t = t

up_to_told : (H : List Laid) (o : Option Laid) → AllTold H → TokensTold (up_to H o)
unfolding up_to offline
up_to_told H None f = groups_told H H f
up_to_told H (Some i) f = every_append TokenTold (groups H (filter (λ j. nat_lt j.number i.number) H)) (block_ends i) (groups_told H (filter (λ j. nat_lt j.number i.number) H) (filter_told (λ j. nat_lt j.number i.number) H f)) (every_block_end TokenTold put_in_told i)

before_told : (limit : ℕ) (H : List Laid) → AllTold H → TokensTold (before limit H)
unfolding before
before_told limit H f = up_to_told H (waiting limit H) f

tokens_told : (limit : ℕ) (c : Course) → AllTold c.read → TokensTold (tokens_of limit c)
tokens_told limit c f = cases c.begun
  where
    cases : (b : Bool) → TokensTold (if b then before limit c.read else [])
    cases true = before_told limit c.read f
    cases false = tt

-- as they are handed out
handed_told : (e : yaml_encoding_t) → e ≢ YAML_ANY_ENCODING → (t : Token) → TokenTold t → HasWords (handed_out e t).token_data
handed_told e n StreamStart f = n
handed_told e n (BlockEnd m) f = tt
handed_told e n (BlockSequenceStart m) f = tt
handed_told e n (BlockMappingStart m) f = tt
handed_told e n (InsertedKey m) f = tt
handed_told e n (OfLexeme x) f = f

all_handed_told : (e : yaml_encoding_t) → e ≢ YAML_ANY_ENCODING → (ts : List Token) → TokensTold ts → HaveWords (map (handed_out e) ts)
all_handed_told e n [] f = tt
all_handed_told e n (t ∷ ts) f = (handed_told e n t f.0, all_handed_told e n ts f.1)

-- ANY INPUT
refusal_of_told : (e : yaml_encoding_t) (n : ℕ) (bytes : List ℕ) → IfSome (refusal_of e n bytes) HasLine
refusal_of_told e n [] = tt
refusal_of_told e n (b ∷ bytes) = refl

refusal_told : (setting : yaml_encoding_t) (input : List ℕ) → IfSome (refusal setting input) HasLine
unfolding refusal
refusal_told setting input = refusal_of_told (encoding_of setting input) (front_len setting input) (drop (front_len setting input) input)

input_told : (setting : yaml_encoding_t) (input : List ℕ) → InputTold (decoded_input setting input)
unfolding decoded_input front
input_told setting input = record { encoding = not_any setting input; source = source_told (front setting input).chars; refusal = refusal_told setting input }

pub all_have_lines : AllHaveLines
unfolding answers_to answers
all_have_lines limit setting input =
    let i = input_told setting input in
    let c = course_told limit (decoded_input setting input) i in
    (all_handed_told (decoded_input setting input).encoding i.encoding (tokens_of limit (course limit (decoded_input setting input))) (tokens_told limit (course limit (decoded_input setting input)) c.0), c.1)

-- SESSIONS
get_told : (ts : List Token) (n : ℕ) → TokensTold ts → IfSome (slice_get ts n) TokenTold
get_told [] n f = tt
get_told (t ∷ ts) zero f = f.0
get_told (t ∷ ts) (suc n) f = get_told ts n f.1

module _ (limit : ℕ) (e : yaml_encoding_t) (n : e ≢ YAML_ANY_ENCODING) (c : Course) (t : CourseTold c) where
  why_told : (f : Option Fault) → IfSome f HasLine → AnswerHasLine (why f)
  why_told None u = tt
  why_told (Some f) u = u

  scan_told : (o : Option Token) → IfSome o TokenTold → AnswerHasLine (scan_answer e c o)
  scan_told None u = why_told c.fault t.1
  scan_told (Some x) u = handed_told e n x u

  peek_told : (o : Option Token) → AnswerHasLine (peek_answer e c o)
  peek_told None = why_told c.fault t.1
  peek_told (Some x) = tt

  answer_told : (call : Call) (s : Session) → AnswerHasLine (answer e limit c call s)
  answer_told SCAN s = cases s.over
    where
      cases : (b : Bool) → AnswerHasLine (if b then TOKEN empty else scan_answer e c (next_token limit c s))
      cases true = tt
      cases false = scan_told (next_token limit c s) (get_told (tokens_of limit c) s.taken (tokens_told limit c t.0))
  answer_told PEEK s = cases s.over
    where
      cases : (b : Bool) → AnswerHasLine (if b then PEEKED empty else peek_answer e c (next_token limit c s))
      cases true = tt
      cases false = peek_told (next_token limit c s)
  answer_told SKIP s = cases s.peeked
    where
      cases : (b : Bool) → AnswerHasLine (if b then SKIPPED else NOTHING)
      cases true = tt
      cases false = tt

  session_told : (calls : List Call) (s : Session) → AnswersHaveLines (session e limit c calls s)
  unfolding session
  session_told [] s = tt
  session_told (call ∷ calls) s = (answer_told call s, session_told calls (after limit c call s))

pub sessions_have_lines : SessionsHaveLines
sessions_have_lines limit setting input calls s =
    let i = input_told setting input in
    session_told limit (decoded_input setting input).encoding i.encoding (course limit (decoded_input setting input)) (course_told limit (decoded_input setting input) i) calls s

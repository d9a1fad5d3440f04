-- So are the marks of the tokens that are returned.
use Rattle.std.proofs.Common.{◌≡◌, ℕ, zero, suc, ◌-◌, Bool, true, false, List, [], ◌∷◌, ◌++◌, map, drop, length, slice_get, Option, Some, None, refl, sym, ◌∙◌, subst, arith, inl, inr}
use Rattle.std.specs.Prelude.{◌&&◌, nat_lt, nat_eq, IfSome, if◌then◌else◌}
use Rattle.std.proofs.lemmas.Bool.{cases_Bool, false≢true}
use Rattle.yaml_text.specs.Fault.{Fault}
use Rattle.yaml_text.specs.Decode.{front, refusal, refusal_of, encoding_of, front_len}
use Rattle.yaml_text.specs.declared.types.yaml_encoding_t.{yaml_encoding_t}
use Rattle.yaml_text.specs.declared.types.yaml_mark_t.{yaml_mark_t}
use Rattle.yaml_text.specs.declared.types.yaml_token_type_t.{yaml_token_type_t}
use Rattle.yaml_text.specs.declared.types.yaml_token_type_t.TheVariants.{YAML_STREAM_END_TOKEN, YAML_BLOCK_END_TOKEN}
use Rattle.yaml_text.proofs.Decodings.DecodeResults.{front_is}
use Rattle.yaml_scan.specs.Course.{ended, Input, Course, course}
use Rattle.yaml_scan.specs.Kind.{Kind, is_stream_end, is_block_entry, is_key, is_value}
use Rattle.yaml_scan.specs.Laid.{Laid, column, reach, Lexeme}
use Rattle.yaml_scan.specs.Levels.{opens, is_above, is_completed}
use Rattle.yaml_scan.specs.Order.{IsHistory}
use Rattle.yaml_scan.specs.Token.{type_of, empty, zero_mark}
use Rattle.yaml_scan.specs.TokenTypes.{is_last_type}
use Rattle.yaml_scan.specs.Groups.{Token, handed_out, offline, groups, group, block_ends, inserted, end_mark}
use Rattle.yaml_scan.specs.Settled.{before}
use Rattle.yaml_scan.specs.Groups.Token.{StreamStart, BlockEnd, BlockSequenceStart, BlockMappingStart, InsertedKey, OfLexeme}
use Rattle.yaml_scan.specs.Answers.{answers}
use Rattle.yaml_scan.specs.Inputs.{answers_to}
use Rattle.yaml_scan.specs.Decoded.{decoded_input}
use Rattle.yaml_scan.specs.Session.{Session, Call, next_token, answer, after, why}
use Rattle.yaml_scan.specs.Sessions.{session}
use Rattle.yaml_scan.specs.Settled.{first_steps, tokens_of}
use Rattle.yaml_scan.specs.Session.Call.{SCAN, PEEK, SKIP}
use Rattle.yaml_scan.specs.Session.Answer.{TOKEN, PEEKED, SKIPPED, NOTHING}
use Rattle.yaml_scan.specs.CountedMarks.{IsCounted, IsStreamEnd, HasMark, TokenIsCounted, TokensAreCounted}
use Rattle.yaml_scan.specs.CountedMarks.{FaultIsCounted, AnswersAreCounted, AnswerIsCounted, AllAreCounted}
use Rattle.yaml_scan.specs.CountedMarks.{SessionsAreCounted, ReachIsCounted}
use Rattle.yaml_scan.proofs.SessionCalls.CallCases.{scan_answer, peek_answer}
use Rattle.yaml_scan.proofs.Course.AnswerOrder.{Fits, TokenFits, TokensFit, fit_course}
use Rattle.yaml_scan.proofs.History.LevelColumns.{completed_self, opens_self, opens_itself}
use Rattle.yaml_scan.proofs.Course.CourseSteps.{course_is_history}
use Rattle.yaml_scan.proofs.TokenList.SettledStays.{before-offline}
use Rattle.yaml_scan.proofs.Course.InputLaws.{inputs_keep_order}
use Rattle.yaml_scan.proofs.CountedMarks.ReadMarks.{SourceMarked, start_counted, text_marked}
use Rattle.yaml_scan.proofs.CountedMarks.StepMarks.{Either, Marked, AllMarked, CourseMarked, reach_marked, course_marked}

module _ (cs : List ℕ) where
  -- TOKENS
  abbrev TokenMarked : Token → Type 0
  TokenMarked StreamStart = Unit {0}
  TokenMarked (BlockEnd m) = Either cs m
  TokenMarked (BlockSequenceStart m) = IsCounted cs m
  TokenMarked (BlockMappingStart m) = IsCounted cs m
  TokenMarked (InsertedKey m) = IsCounted cs m
  TokenMarked (OfLexeme x) = Marked cs x

  abbrev TokensMarked : List Token → Type 0
  TokensMarked [] = Unit {0}
  TokensMarked (t ∷ ts) = TokenMarked t × TokensMarked ts

  marked_append : (a b : List Token) → TokensMarked a → TokensMarked b → TokensMarked (a ++ b)
  marked_append [] b f g = g
  marked_append (t ∷ a) b f g = (f.0, marked_append a b f.1 g)

  marked_front : (a b : List Token) → TokensMarked (a ++ b) → TokensMarked a
  marked_front [] b f = tt
  marked_front (t ∷ a) b f = (f.0, marked_front a b f.1)

  start_marked : (x : Lexeme) → Marked cs x → Either cs x.start
  start_marked x m = elim (cases_Bool (is_stream_end x.kind)) [
    | inl e ↦ inr ((m.last e).0)
    | inr e ↦ inl ((m.other e).0)
  ]

  end_marked : (x : Lexeme) (c : ℕ) → Marked cs x → Either cs (end_mark x c)
  end_marked x c m = cases (is_stream_end x.kind && nat_lt x.gap_end.column c)
    where
      cases : (b : Bool) → Either cs (if b then x.gap_end else x.start)
      cases true = inl m.gap_end
      cases false = start_marked x m

  ends_marked : (x : Lexeme) (columns : List ℕ) → Marked cs x → TokensMarked (map (λ c. BlockEnd (end_mark x c)) columns)
  ends_marked x [] m = tt
  ends_marked x (c ∷ columns) m = (end_marked x c m, ends_marked x columns m)

  inserted_marked : (W : List Laid) (i : Laid) → IsCounted cs i.lexeme.start → TokensMarked (inserted W i)
  unfolding inserted
  inserted_marked W i m = cases (opens W i) (is_completed W i) (is_block_entry i.lexeme.kind)
    where
      cases : (o k b : Bool) → TokensMarked ((if o then (if b then BlockSequenceStart i.lexeme.start else BlockMappingStart i.lexeme.start) ∷ [] else []) ++ (if k then InsertedKey i.lexeme.start ∷ [] else []))
      cases true true true = (m, (m, tt))
      cases true true false = (m, (m, tt))
      cases true false true = (m, tt)
      cases true false false = (m, tt)
      cases false true b = (m, tt)
      cases false false b = tt

  group_marked : (W : List Laid) (i : Laid) → Marked cs i.lexeme → TokensMarked (inserted W i) → TokensMarked (group W i)
  unfolding group block_ends
  group_marked W i m t = marked_append (block_ends i) (inserted W i ++ (OfLexeme i.lexeme ∷ [])) (ends_marked i.lexeme i.closed m) (marked_append (inserted W i) (OfLexeme i.lexeme ∷ []) t (m, tt))

  groups_marked : (limit : ℕ) (W B : List Laid) → IsHistory limit B → ended B ≡ false → AllMarked cs B → TokensMarked (groups W B)
  unfolding groups
  groups_marked limit W [] h e m = (tt, tt)
  groups_marked limit W (i ∷ B) h e m = marked_append (groups W B) (group W i) (groups_marked limit W B h.2 h.3 m.1) (group_marked W i m.0 (inserted_marked W i ((m.0.other e).0)))

  -- nothing is inserted before the stream end
  opens_no_level : (k : Kind) → is_stream_end k ≡ true → (is_block_entry k ≡ false) × (is_key k ≡ false) × (is_value k ≡ false)
  opens_no_level k e = (grind arith, grind arith, grind arith)

  none_inserted : (limit : ℕ) (i : Laid) (B : List Laid) → IsHistory limit (i ∷ B) → is_stream_end i.lexeme.kind ≡ true → TokensMarked (inserted (i ∷ B) i)
  unfolding inserted
  none_inserted limit i B h e =
      let c = completed_self limit i B h in
      let n = opens_no_level i.lexeme.kind e in
      let o : opens (i ∷ B) i ≡ false = opens_self limit i B h ∙ closed n.0 n.1 n.2 in
      rw (o, c) tt
    where
      closed : is_block_entry i.lexeme.kind ≡ false → is_key i.lexeme.kind ≡ false → is_value i.lexeme.kind ≡ false → opens_itself i ≡ false
      closed a b d = rw (a, b, d) (cases (nat_eq i.depth 0) (is_above (column i) i.level))
        where
          cases : (x y : Bool) → (x && (y && false)) ≡ false
          cases true true = refl
          cases true false = refl
          cases false y = refl

  offline_marked : (limit : ℕ) (H : List Laid) → IsHistory limit H → AllMarked cs H → TokensMarked (offline H)
  unfolding offline groups
  offline_marked limit [] h m = (tt, tt)
  offline_marked limit (i ∷ B) h m = marked_append (groups (i ∷ B) B) (group (i ∷ B) i) (groups_marked limit (i ∷ B) B h.2 h.3 m.1)
      (group_marked (i ∷ B) i m.0 (elim (cases_Bool (is_stream_end i.lexeme.kind)) [
        | inl e ↦ none_inserted limit i B h e
        | inr e ↦ inserted_marked (i ∷ B) i ((m.0.other e).0)
      ]))

  before_marked : (limit : ℕ) (H : List Laid) → IsHistory limit H → AllMarked cs H → TokensMarked (before limit H)
  before_marked limit H h m = let b = before-offline limit H h in marked_front (before limit H) b.rest (subst (λ (z : List Token). TokensMarked z) b.is (offline_marked limit H h m))

  tokens_marked : (limit : ℕ) (c : Course) → IsHistory limit c.read → AllMarked cs c.read → TokensMarked (tokens_of limit c)
  tokens_marked limit c h m = cases c.begun
    where
      cases : (b : Bool) → TokensMarked (if b then before limit c.read else [])
      cases true = before_marked limit c.read h m
      cases false = tt

  -- AS THEY ARE HANDED OUT
  has_mark : (t : yaml_token_type_t) (m : yaml_mark_t) → is_last_type t ≡ false → IsCounted cs m → HasMark cs t m
  has_mark YAML_STREAM_END_TOKEN m e c = absurd (false≢true (sym e))
  has_mark YAML_BLOCK_END_TOKEN m e c = inl c
  has_mark _ m e c = c

  has_end : (t : yaml_token_type_t) (m : yaml_mark_t) → is_last_type t ≡ true → IsStreamEnd cs m → HasMark cs t m
  has_end YAML_STREAM_END_TOKEN m e c = c
  has_end _ m e c = absurd (false≢true e)

  lexeme_handed : (e : yaml_encoding_t) (x : Lexeme) → Fits x → Marked cs x → TokenIsCounted cs (handed_out e (OfLexeme x))
  lexeme_handed e x f m = elim (cases_Bool (is_stream_end x.kind)) [
    | inl q ↦ (has_end (type_of x.token_data) x.start (f.says.last ∙ q) ((m.last q).0), has_end (type_of x.token_data) x.end (f.says.last ∙ q) ((m.last q).1))
    | inr q ↦ (has_mark (type_of x.token_data) x.start (f.says.last ∙ q) ((m.other q).0), has_mark (type_of x.token_data) x.end (f.says.last ∙ q) ((m.other q).1))
  ]

  module _ (origin : IsCounted cs zero_mark) (e : yaml_encoding_t) where
    handed_marked : (t : Token) → TokenFits t → TokenMarked t → TokenIsCounted cs (handed_out e t)
    handed_marked StreamStart f m = (origin, origin)
    handed_marked (BlockEnd a) f m = (m, m)
    handed_marked (BlockSequenceStart a) f m = (m, m)
    handed_marked (BlockMappingStart a) f m = (m, m)
    handed_marked (InsertedKey a) f m = (m, m)
    handed_marked (OfLexeme x) f m = lexeme_handed e x f m

    all_handed_marked : (ts : List Token) → TokensFit ts → TokensMarked ts → TokensAreCounted cs (map (handed_out e) ts)
    all_handed_marked [] f m = tt
    all_handed_marked (t ∷ ts) f m = (handed_marked t f.0 m.0, all_handed_marked ts f.1 m.1)

    -- SESSIONS
    token_at : (ts : List Token) (n : ℕ) → TokensFit ts → TokensMarked ts → IfSome (slice_get ts n) (λ t. TokenIsCounted cs (handed_out e t))
    token_at [] n f m = tt
    token_at (t ∷ ts) zero f m = handed_marked t f.0 m.0
    token_at (t ∷ ts) (suc n) f m = token_at ts n f.1 m.1

    module _ (limit : ℕ) (c : Course) (fault : IfSome c.fault (FaultIsCounted cs)) (fits : TokensFit (tokens_of limit c)) (marked : TokensMarked (tokens_of limit c)) where
      why_marked : (f : Option Fault) → IfSome f (FaultIsCounted cs) → AnswerIsCounted cs (why f)
      why_marked None t = (origin, origin)
      why_marked (Some f) t = t

      scan_marked : (o : Option Token) → IfSome o (λ t. TokenIsCounted cs (handed_out e t)) → AnswerIsCounted cs (scan_answer e c o)
      scan_marked None t = why_marked c.fault fault
      scan_marked (Some x) t = t

      peek_marked : (o : Option Token) → IfSome o (λ t. TokenIsCounted cs (handed_out e t)) → AnswerIsCounted cs (peek_answer e c o)
      peek_marked None t = why_marked c.fault fault
      peek_marked (Some x) t = t

      answer_marked : (call : Call) (s : Session) → AnswerIsCounted cs (answer e limit c call s)
      answer_marked SCAN s = cases s.over
        where
          cases : (b : Bool) → AnswerIsCounted cs (if b then TOKEN empty else scan_answer e c (next_token limit c s))
          cases true = (origin, origin)
          cases false = scan_marked (next_token limit c s) (token_at (tokens_of limit c) s.taken fits marked)
      answer_marked PEEK s = cases s.over
        where
          cases : (b : Bool) → AnswerIsCounted cs (if b then PEEKED empty else peek_answer e c (next_token limit c s))
          cases true = (origin, origin)
          cases false = peek_marked (next_token limit c s) (token_at (tokens_of limit c) s.taken fits marked)
      answer_marked SKIP s = cases s.peeked
        where
          cases : (b : Bool) → AnswerIsCounted cs (if b then SKIPPED else NOTHING)
          cases true = tt
          cases false = tt

      session_marked : (calls : List Call) (s : Session) → AllAreCounted cs (session e limit c calls s)
      unfolding session
      session_marked [] s = tt
      session_marked (call ∷ calls) s = (answer_marked call s, session_marked calls (after limit c call s))

  drop_marked : (n : ℕ) (H : List Laid) → AllMarked cs H → AllMarked cs (drop n H)
  drop_marked zero H m = m
  drop_marked (suc n) [] m = tt
  drop_marked (suc n) (i ∷ H) m = drop_marked n H m.1

  list_reach : IsCounted cs zero_mark → (H : List Laid) → AllMarked cs H → Either cs (reach H)
  list_reach origin [] m = inl origin
  list_reach origin (i ∷ H) m = reach_marked cs i.lexeme m.0

-- ANY INPUT
module _ (limit : ℕ) (setting : yaml_encoding_t) (input : List ℕ) where
  abbrev cs : List ℕ
  cs = (front setting input).chars

  abbrev I : Input
  I = decoded_input setting input

  source_marked : SourceMarked cs I.source
  unfolding decoded_input
  source_marked = text_marked cs (front_is setting input).each

  zero_counted : IsCounted cs zero_mark
  zero_counted = start_counted cs

  refusal_marked : IfSome I.refusal (FaultIsCounted cs)
  unfolding decoded_input refusal
  refusal_marked = go (encoding_of setting input) (front_len setting input) (drop (front_len setting input) input)
    where
      go : (e : yaml_encoding_t) (n : ℕ) (bytes : List ℕ) → IfSome (refusal_of e n bytes) (FaultIsCounted cs)
      go e n [] = tt
      go e n (b ∷ bytes) = (inl zero_counted, zero_counted)

  all_marked : CourseMarked cs (course limit I)
  all_marked = course_marked cs limit I source_marked refusal_marked

  all_fit : TokensFit (tokens_of limit (course limit I))
  all_fit = fit_course limit I (inputs_keep_order setting input)

  all_tokens_marked : TokensMarked cs (tokens_of limit (course limit I))
  all_tokens_marked = tokens_marked cs limit (course limit I) (course_is_history limit I (inputs_keep_order setting input)) all_marked.0

pub answers_are_counted : AnswersAreCounted
unfolding answers_to answers
answers_are_counted limit setting input = (
  all_handed_marked (cs limit setting input) (zero_counted limit setting input) (decoded_input setting input).encoding (tokens_of limit (course limit (decoded_input setting input))) (all_fit limit setting input) (all_tokens_marked limit setting input),
  (all_marked limit setting input).1,
)

pub sessions_are_counted : SessionsAreCounted
sessions_are_counted limit setting input calls s =
    session_marked (cs limit setting input) (zero_counted limit setting input) (decoded_input setting input).encoding limit (course limit (decoded_input setting input)) (all_marked limit setting input).1 (all_fit limit setting input) (all_tokens_marked limit setting input) calls s

pub reach_is_counted : ReachIsCounted
reach_is_counted limit setting input s =
    let c = course limit (decoded_input setting input) in
    list_reach (cs limit setting input) (zero_counted limit setting input) (first_steps s.steps c.read) (drop_marked (cs limit setting input) (length c.read - (s.steps - 1)) c.read (all_marked limit setting input).0)

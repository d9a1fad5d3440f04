-- The laws of tokens hold of the tokens that are returned.
use Rattle.std.proofs.Common.{◌≡◌, ℕ, zero, suc, ◌≤◌, ◌<◌, min, Bool, true, false, List, [], ◌∷◌, ◌++◌, map, take}
use Rattle.std.proofs.Common.{length, filter, refl, ap, sym, ◌∙◌, subst, arith, inl, inr, eqb, eqb-true}
use Rattle.std.specs.Prelude.{if◌then◌else◌, ◌&&◌}
use Rattle.std.specs.List.{list_any}
use Rattle.std.proofs.lemmas.Bool.{cases_Bool, cases_lt, and_parts, or_left, or_right, false≢true}
use Rattle.std.proofs.lemmas.List.{take-map, take-append-le, take_all}
use Rattle.yaml_text.specs.declared.types.yaml_mark_t.{yaml_mark_t}
use Rattle.yaml_text.specs.declared.types.yaml_encoding_t.{yaml_encoding_t}
use Rattle.yaml_scan.specs.Course.{Input, Course, course, course_from, next}
use Rattle.yaml_scan.specs.Kind.{is_stream_end, is_key}
use Rattle.yaml_scan.specs.Token.{yaml_token_t, type_of}
use Rattle.yaml_scan.specs.TokenTypes.{is_end_type, is_start_type, is_key_type}
use Rattle.yaml_scan.specs.Laid.{Laid, Lexeme}
use Rattle.yaml_scan.specs.Groups.{Token, handed_out, group, groups, offline}
use Rattle.yaml_scan.specs.Settled.{before, tokens_of}
use Rattle.yaml_scan.specs.Groups.Token.{StreamStart, BlockEnd, BlockSequenceStart, BlockMappingStart, InsertedKey}
use Rattle.yaml_scan.specs.Groups.Token.{OfLexeme}
use Rattle.yaml_scan.specs.Order.{IsHistory}
use Rattle.yaml_scan.specs.Begins.{Begins}
use Rattle.yaml_scan.specs.Step.{Outcome}
use Rattle.yaml_scan.specs.Cut.{SaysKind, IsRun, KeepsOrder}
use Rattle.yaml_scan.specs.Answers.{answers}
use Rattle.yaml_scan.specs.Near.{starts_near}
use Rattle.yaml_scan.specs.Laws.{is_block_end, is_block_start, ends_in, starts_in}
use Rattle.yaml_scan.specs.TokenLaws.{start_of, end_of, AreInOrder, is_value_near, HasValue, KeysHaveValues}
use Rattle.yaml_scan.specs.AnswerLaws.{StandInOrder, AnswersStandInOrder, ends_among, starts_among, AnswersEndFewer}
use Rattle.yaml_scan.specs.AnswerLaws.{AnswersEndAll, same_mark, is_put_in, is_near_value, AreFollowed}
use Rattle.yaml_scan.specs.AnswerLaws.{AnswersFollowKeys}
use Rattle.yaml_scan.proofs.TokenList.EveryToken.{Every, HoldsPutIn, every_append, every_front, every_of_group}
use Rattle.yaml_scan.proofs.History.KindTests.{key_not_end}
use Rattle.yaml_scan.proofs.TokenList.SettledStays.{before-offline}
use Rattle.yaml_scan.proofs.TokenList.OneLexemeMore.{ends_never_outnumber, as_many}
use Rattle.yaml_scan.proofs.TokenList.TokenOrder.{tokens_stand_in_order}
use Rattle.yaml_scan.proofs.TokenList.KeyValues.{keys_are_followed}
use Rattle.yaml_scan.proofs.Course.LongestCut.{IsOrderly}
use Rattle.yaml_scan.proofs.Course.CourseSteps.{course_is_history, ends_or_faults, next_orderly, steps_of, steps_are}

-- LEXEMES THAT SAY THEIR KIND
pub record Fits (x : Lexeme) : Type 0 where
  pub says : SaysKind x.kind x.token_data
  pub takes : is_stream_end x.kind ≡ false → x.start.index < x.end.index

abbrev pub AllFit : List Laid → Type 0
AllFit [] = Unit {0}
AllFit (i ∷ H) = Fits i.lexeme × AllFit H

run_fits : (step : List Laid → Outcome) (limit size : ℕ) → IsOrderly step limit size → (H : List Laid) → IsRun step limit H → AllFit H
run_fits step limit size k [] r = tt
run_fits step limit size k (i ∷ H) r = let n = k H i.lexeme r.2 r.3 r.1 in (record { says = n.says; takes = n.follows.takes_a_byte }, run_fits step limit size k H r.2)

pub course_fits : (limit : ℕ) (input : Input) → KeepsOrder input.source → AllFit (course limit input).read
unfolding course
course_fits limit input k = cases (starts_near input.source.size input.refusal)
  where
    cases : (b : Bool) → AllFit (course_from b input.refusal (steps_of limit input k)).read
    cases true = tt
    cases false = run_fits (next input limit) limit input.source.size (next_orderly limit input k) (steps_of limit input k).read (steps_are limit input k).0

-- and so their tokens
abbrev pub TokenFits : Token → Type 0
TokenFits (OfLexeme x) = Fits x
TokenFits StreamStart = Unit {0}
TokenFits (BlockEnd m) = Unit {0}
TokenFits (BlockSequenceStart m) = Unit {0}
TokenFits (BlockMappingStart m) = Unit {0}
TokenFits (InsertedKey m) = Unit {0}

abbrev pub TokensFit : List Token → Type 0
TokensFit ts = Every TokenFits ts

put_in_fits : HoldsPutIn TokenFits
put_in_fits = record { start = tt; ends = λ m. tt; sequence = λ m. tt; mapping = λ m. tt; key = λ m. tt }

pub fit_front : (a b : List Token) → TokensFit (a ++ b) → TokensFit a
fit_front a b f = every_front TokenFits a b f

fit_take : (n : ℕ) (ts : List Token) → TokensFit ts → TokensFit (take n ts)
fit_take zero ts f = tt
fit_take (suc n) [] f = tt
fit_take (suc n) (t ∷ ts) f = (f.0, fit_take n ts f.1)

fit_groups : (W B : List Laid) → AllFit B → TokensFit (groups W B)
unfolding groups
fit_groups W [] f = (tt, tt)
fit_groups W (i ∷ B) f = every_append TokenFits (groups W B) (group W i) (fit_groups W B f.1) (every_of_group TokenFits put_in_fits W i f.0)

pub fit_before : (limit : ℕ) (H : List Laid) → IsHistory limit H → AllFit H → TokensFit (before limit H)
unfolding offline
fit_before limit H h f = let b = before-offline limit H h in fit_front (before limit H) b.rest (subst (λ (l : List Token). TokensFit l) b.is (fit_groups H H f))

-- what is handed out of a course
course_case : (limit : ℕ) (c : Course) (P : List Token → Type 0) → P [] → P (before limit c.read) → P (tokens_of limit c)
course_case limit c P a b = cases c.begun
  where
    cases : (x : Bool) → P (if x then before limit c.read else [])
    cases true = b
    cases false = a

pub fit_course : (limit : ℕ) (input : Input) → KeepsOrder input.source → TokensFit (tokens_of limit (course limit input))
fit_course limit input k = course_case limit (course limit input) TokensFit tt (fit_before limit (course limit input).read (course_is_history limit input k) (course_fits limit input k))

-- ORDER
start_same : (e : yaml_encoding_t) (t : Token) → (handed_out e t).start_mark ≡ start_of t
start_same e StreamStart = refl
start_same e (BlockEnd m) = refl
start_same e (BlockSequenceStart m) = refl
start_same e (BlockMappingStart m) = refl
start_same e (InsertedKey m) = refl
start_same e (OfLexeme x) = refl

end_same : (e : yaml_encoding_t) (t : Token) → (handed_out e t).end_mark ≡ end_of t
end_same e StreamStart = refl
end_same e (BlockEnd m) = refl
end_same e (BlockSequenceStart m) = refl
end_same e (BlockMappingStart m) = refl
end_same e (InsertedKey m) = refl
end_same e (OfLexeme x) = refl

stand : (e : yaml_encoding_t) (n m : ℕ) (ts : List Token) → AreInOrder n ts m → StandInOrder n (map (handed_out e) ts)
stand e n m [] o = tt
stand e n m (t ∷ ts) o =
    let a = ap (λ (x : yaml_mark_t). x.index) (start_same e t) in
    let b = ap (λ (x : yaml_mark_t). x.index) (end_same e t) in
    let r : StandInOrder (end_of t).index (map (handed_out e) ts) = stand e (end_of t).index m ts o.2 in
    (omega (arith, o.0), omega (arith, o.1), subst (λ (k : ℕ). StandInOrder k (map (handed_out e) ts)) (sym b) r)

pub answers_stand_in_order : AnswersStandInOrder
unfolding answers
answers_stand_in_order limit input k = course_case limit (course limit input) (λ ts. StandInOrder 0 (map (handed_out input.encoding) ts)) tt
    (let o = (tokens_stand_in_order limit (course limit input).read (course_is_history limit input k)).1 in stand input.encoding 0 _ (before limit (course limit input).read) o)

-- BLOCK ENDS
end_test : (e : yaml_encoding_t) (t : Token) → TokenFits t → is_end_type (type_of (handed_out e t).token_data) ≡ is_block_end t
end_test e StreamStart f = refl
end_test e (BlockEnd m) f = refl
end_test e (BlockSequenceStart m) f = refl
end_test e (BlockMappingStart m) f = refl
end_test e (InsertedKey m) f = refl
end_test e (OfLexeme x) f = f.says.no_end

start_test : (e : yaml_encoding_t) (t : Token) → TokenFits t → is_start_type (type_of (handed_out e t).token_data) ≡ is_block_start t
start_test e StreamStart f = refl
start_test e (BlockEnd m) f = refl
start_test e (BlockSequenceStart m) f = refl
start_test e (BlockMappingStart m) f = refl
start_test e (InsertedKey m) f = refl
start_test e (OfLexeme x) f = f.says.no_start

count_same : (e : yaml_encoding_t) (p : yaml_token_t → Bool) (q : Token → Bool) → ((t : Token) → TokenFits t → p (handed_out e t) ≡ q t) → (ts : List Token) → TokensFit ts → length (filter p (map (handed_out e) ts)) ≡ length (filter q ts)
count_same e p q k [] f = refl
count_same e p q k (t ∷ ts) f = elim (cases_Bool (q t)) [
  | inl b ↦ rw (k t f.0, b) (ap suc (count_same e p q k ts f.1))
  | inr b ↦ rw (k t f.0, b) (count_same e p q k ts f.1)
]

ends_same : (e : yaml_encoding_t) (ts : List Token) → TokensFit ts → ends_among (map (handed_out e) ts) ≡ ends_in ts
unfolding ends_among ends_in
ends_same e ts f = count_same e (λ t. is_end_type (type_of t.token_data)) is_block_end (end_test e) ts f

starts_same : (e : yaml_encoding_t) (ts : List Token) → TokensFit ts → starts_among (map (handed_out e) ts) ≡ starts_in ts
unfolding starts_among starts_in
starts_same e ts f = count_same e (λ t. is_start_type (type_of t.token_data)) is_block_start (start_test e) ts f

take_begins : (n : ℕ) (a b : List Token) → Begins a b → take n a ≡ take (min n (length a)) b
take_begins n a b s = elim (cases_lt (length a) n) [
  | inr l ↦ (let m : min n (length a) ≡ n = omega arith in rw (s.is, m) (sym (take-append-le n a s.rest l)))
  | inl l ↦ (let m : min n (length a) ≡ length a = omega arith in
      let x : take n a ≡ a = take_all n a (omega arith) in
      let y : take (length a) (a ++ s.rest) ≡ take (length a) a = take-append-le (length a) a s.rest (omega arith) in
      let z : take (length a) a ≡ a = take_all (length a) a (omega arith) in
      rw (s.is, m) (x ∙ sym (y ∙ z)))
]

none_fewer : (n : ℕ) → ends_in (take n []) ≤ starts_in (take n [])
unfolding ends_in starts_in
none_fewer zero = omega arith
none_fewer (suc n) = omega arith

course_fewer : (limit : ℕ) (input : Input) (n : ℕ) → KeepsOrder input.source → ends_in (take n (tokens_of limit (course limit input))) ≤ starts_in (take n (tokens_of limit (course limit input)))
course_fewer limit input n k = course_case limit (course limit input) (λ ts. ends_in (take n ts) ≤ starts_in (take n ts)) (none_fewer n)
    (let h = course_is_history limit input k in
    let b = take_begins n (before limit (course limit input).read) (offline (course limit input).read) (before-offline limit (course limit input).read h) in
    rw b (ends_never_outnumber limit (course limit input).read (min n (length (before limit (course limit input).read))) h))

pub answers_end_fewer : AnswersEndFewer
unfolding answers
answers_end_fewer limit input n k =
    let f = fit_take n (tokens_of limit (course limit input)) (fit_course limit input k) in
    rw (take-map (handed_out input.encoding) n (tokens_of limit (course limit input)), ends_same input.encoding (take n (tokens_of limit (course limit input))) f, starts_same input.encoding (take n (tokens_of limit (course limit input))) f)
    (course_fewer limit input n k)

pub answers_end_all : AnswersEndAll
unfolding answers
answers_end_all limit input k e d =
    let f = fit_course limit input k in
    let h = course_is_history limit input k in
    let r = ends_or_faults limit input k e in
    rw (ends_same input.encoding (tokens_of limit (course limit input)) f, starts_same input.encoding (tokens_of limit (course limit input)) f, r.2) (as_many limit (course limit input).read h r.1 d)

-- KEYS
pub put_in_is : (limit : ℕ) (e : yaml_encoding_t) (t : Token) (ts : List Token) → TokenFits t → HasValue limit t ts → is_put_in (handed_out e t) ≡ true → list_any (is_value_near limit (start_of t)) ts ≡ true
put_in_is limit e StreamStart ts f h p = absurd (false≢true p)
put_in_is limit e (BlockEnd m) ts f h p = absurd (false≢true p)
put_in_is limit e (BlockSequenceStart m) ts f h p = absurd (false≢true p)
put_in_is limit e (BlockMappingStart m) ts f h p = absurd (false≢true p)
put_in_is limit e (InsertedKey m) ts f h p = h
put_in_is limit e (OfLexeme x) ts f h p =
    let a = and_parts (is_key_type (type_of x.token_data)) (same_mark x.start x.end) p in
    let b : is_key x.kind ≡ true = sym f.says.key ∙ a.0 in
    let c = f.takes (key_not_end x.kind b) in
    let d = eqb-true x.start.index x.end.index (and_parts (eqb x.start.index x.end.index) (eqb x.start.line x.end.line && eqb x.start.column x.end.column) a.1).0 in
    absurd (omega arith)

near_same : (limit : ℕ) (e : yaml_encoding_t) (m : yaml_mark_t) (t : Token) → TokenFits t → is_value_near limit m t ≡ true → is_near_value limit m (handed_out e t) ≡ true
near_same limit e m StreamStart f p = absurd (false≢true p)
near_same limit e m (BlockEnd n) f p = absurd (false≢true p)
near_same limit e m (BlockSequenceStart n) f p = absurd (false≢true p)
near_same limit e m (BlockMappingStart n) f p = absurd (false≢true p)
near_same limit e m (InsertedKey n) f p = absurd (false≢true p)
near_same limit e m (OfLexeme x) f p = rw f.says.value p

any_near : (limit : ℕ) (e : yaml_encoding_t) (m : yaml_mark_t) (ts : List Token) → TokensFit ts → list_any (is_value_near limit m) ts ≡ true → list_any (is_near_value limit m) (map (handed_out e) ts) ≡ true
any_near limit e m [] f p = absurd (false≢true p)
any_near limit e m (t ∷ ts) f p = elim (cases_Bool (is_value_near limit m t)) [
  | inl q ↦ or_left _ _ (near_same limit e m t f.0 q)
  | inr q ↦ or_right _ _ (any_near limit e m ts f.1 (rw q at p))
]

pub followed : (limit : ℕ) (e : yaml_encoding_t) (ts : List Token) → TokensFit ts → KeysHaveValues limit ts → AreFollowed limit (map (handed_out e) ts)
followed limit e [] f h = tt
followed limit e (t ∷ ts) f h =
    (λ p. rw (start_same e t) (any_near limit e (start_of t) ts f.1 (put_in_is limit e t ts f.0 h.0 p)), followed limit e ts f.1 h.1)

pub answers_follow_keys : AnswersFollowKeys
unfolding answers
answers_follow_keys limit input k = followed limit input.encoding (tokens_of limit (course limit input)) (fit_course limit input k)
    (course_case limit (course limit input) (λ ts. KeysHaveValues limit ts) tt (keys_are_followed limit (course limit input).read (course_is_history limit input k)).1)

-- A sink is given all tokens of an input, or those before its fault, or those that some of the steps settle.
use Rattle.std.proofs.Common.{◌≡◌, ℕ, zero, suc, ◌+◌, ◌-◌, ◌≤◌, ◌<◌, ◌||◌, Bool, true, false, List, [], ◌∷◌, ◌++◌, map, take, length, slice_get, Some, None, append_assoc, refl, ap, sym, ◌∙◌, subst, arith, inl, inr, lt-ltb}
use Rattle.std.specs.Prelude.{◌⊎◌, Option, Result, Ok, Err, MatchResult}
use Rattle.std.specs.List.{list_any}
use Rattle.std.proofs.lemmas.List.{take_all, take-append-le}
use Rattle.yaml_text.specs.declared.fault.yaml_fault_t.{yaml_fault_t}
use Rattle.yaml_text.specs.declared.types.yaml_encoding_t.{yaml_encoding_t}
use Rattle.yaml_text.specs.Fault.{Fault, memory_fault}
use Rattle.yaml_text.specs.Text.{Text}
use Rattle.yaml_scan.specs.Course.{oldest, ended, Course, Input, course}
use Rattle.yaml_scan.specs.declared.stop.stop_t.{stop_t}
use Rattle.yaml_scan.specs.declared.stop.stop_t.TheVariants.{SINK}
use Rattle.yaml_scan.specs.inside.Scanner.{Scanner}
use Rattle.yaml_scan.specs.All.{AllOf, AreSettled, ReadsAll}
use Rattle.yaml_scan.specs.Answers.{answers}
use Rattle.yaml_scan.specs.Begins.{Begins}
use Rattle.yaml_scan.specs.Groups.{Token, handed_out, offline}
use Rattle.yaml_scan.specs.Inputs.{answers_to}
use Rattle.yaml_scan.specs.Decoded.{decoded_input}
use Rattle.yaml_scan.specs.Laid.{Laid}
use Rattle.yaml_scan.specs.Session.{is_last}
use Rattle.yaml_scan.specs.Sessions.{settled_tokens}
use Rattle.yaml_scan.specs.Settled.{before, tokens_of}
use Rattle.yaml_scan.specs.Sink.{IsGivenAll, IsGivenBeginning}
use Rattle.yaml_scan.specs.Token.{yaml_token_t, type_of}
use Rattle.yaml_scan.specs.TokenTypes.{is_last_type}
use Rattle.yaml_scan.specs.Words.{HasWords, HaveWords}
use Rattle.yaml_scan.specs.inside.Given.{GaveRest, GivesAll, HasGiven, IsCutOff, StopsGiving, all_in, told_all, told_taken}
use Rattle.yaml_scan.specs.inside.Handed.{IsCut, is_end}
use Rattle.yaml_scan.specs.inside.Ready.{IsEnded, IsIn, IsShort, Pops, course_in}
use Rattle.yaml_scan.specs.inside.Scanning.{IsLast, IsOpen, IsRunning, course_of, history, input_of}
use Rattle.yaml_scan.specs.inside.Stop.{fault_at, no_fault}
use Rattle.yaml_scan.proofs.Course.AnswerOrder.{TokensFit, fit_before, fit_front}
use Rattle.yaml_scan.proofs.Course.CourseSteps.{not_last}
use Rattle.yaml_scan.proofs.Course.LastToken.{AllOn, settled_on, stream_end_is_last}
use Rattle.yaml_scan.proofs.Course.NextStep.{oldest_all}
use Rattle.yaml_scan.proofs.SessionCalls.AnswerWords.{all_have_lines}
use Rattle.yaml_scan.proofs.SessionCalls.ListWords.{reads_have_lines}
use Rattle.yaml_scan.proofs.Texts.TextOrder.{text_order}
use Rattle.yaml_scan.proofs.TokenList.OneLexemeMore.{all_is_handed_out}
use Rattle.yaml_scan.proofs.RunningCalls.CallAnswers.{get_fits, last_told}
use Rattle.yaml_scan.proofs.RunningCalls.GivenTokens.{all_as, all_fit, course_as, cut_of, cut_on, more_given, settled_begins, taken_is, told_as}
use Rattle.yaml_scan.proofs.RunningCalls.NextOfInput.{read_history}
use Rattle.yaml_scan.proofs.RunningCalls.ScansToTheEnd.{begins_take, get_within, map_more, take_one}
use Rattle.yaml_scan.proofs.RunningCalls.StepsMade.{still_running}
use Rattle.yaml_scan.proofs.RunningCalls.ToNextToken.{course_is}

tokens_begun : (limit : ℕ) (c : Course) → c.begun ≡ true → tokens_of limit c ≡ before limit c.read
tokens_begun limit c e = rw e refl

words_at : (e : yaml_encoding_t) (xs : List Token) (n : ℕ) (x : Token) → HaveWords (map (handed_out e) xs) → slice_get xs n ≡ Some x → HasWords (handed_out e x).token_data
words_at e [] n x w q = absurd (cc)
words_at e (y ∷ xs) zero x w q = let p : y ≡ x = cc in subst (λ (z : Token). HasWords (handed_out e z).token_data) p w.0
words_at e (y ∷ xs) (suc n) x w q = words_at e xs n x w.1 q

-- THE HEAD OF THE QUEUE IS GIVEN
module _ (s t : Scanner) (x : yaml_token_t) (r : IsRunning s) (p : Pops s t x) where
  abbrev h : Token → yaml_token_t
  h y = handed_out s.text.encoding y

  taken_one : told_taken t ≡ told_taken s ++ x ∷ []
  taken_one =
      taken_is s t p.text p.refusal p.limit (s.taken + 1) p.taken
      ∙ ap (λ (z : List Token). map h z) (take_one (all_in s) s.taken p.token p.is)
      ∙ map_more h (take s.taken (all_in s)) p.token
      ∙ ap (λ (z : yaml_token_t). told_taken s ++ z ∷ []) (sym p.answer)

  head_begins : Begins (told_taken s ++ x ∷ []) (told_all s)
  head_begins = subst (λ (z : List yaml_token_t). Begins (told_taken s ++ x ∷ []) z) (told_as s t p.text p.refusal p.limit)
      (subst (λ (z : List yaml_token_t). Begins z (told_all t)) taken_one (begins_take (handed_out t.text.encoding) (all_in t) t.taken))

  pub head_within : s.taken + 1 ≤ length (all_in s)
  head_within = get_within (all_in s) s.taken p.token p.is

  pub head_words : HaveWords (told_all s) → HasWords x.token_data
  head_words w = subst (λ (z : yaml_token_t). HasWords z.token_data) (sym p.answer) (words_at s.text.encoding (all_in s) s.taken p.token w p.is)

  last_is : is_last_type (type_of x.token_data) ≡ is_last p.token
  last_is = ap (λ (y : yaml_token_t). is_last_type (type_of y.token_data)) p.answer
      ∙ last_told s.text.encoding p.token (get_fits (all_in s) s.taken p.token (fit_before s.limit (course_of s).read (read_history s r) (all_fit s r)) p.is)

  open_then : is_last p.token ≡ false → IsOpen t
  open_then n e =
      let c = course_as s t p.text p.refusal p.limit in
      let f : ended (course_of s).read ≡ true = sym (ap (λ (c : Course). ended c.read) c) ∙ e in
      let w = (all_is_handed_out s.limit (course_of s).read (read_history s r) f).1 in
      let m = not_last (course_of s).read s.taken p.token f (sym (ap (λ (z : List Token). slice_get z s.taken) w) ∙ p.is) n in
      let v = ap (λ (c : Course). length (offline c.read)) c in
      let q = p.taken in
      omega arith

  head_given : is_last_type (type_of x.token_data) ≡ false → HasGiven s t (x ∷ [])
  head_given n = record {
    runs = p.runs;
    still_open = open_then (sym last_is ∙ n);
    text = p.text;
    refusal = p.refusal;
    limit = p.limit;
    grows = (let m = p.taken in omega arith);
    given = taken_one;
  }

  -- the stream end is the last one
  end_given : is_last_type (type_of x.token_data) ≡ true → (told_all s ≡ told_taken s ++ x ∷ []) × ((course_of s).fault ≡ None)
  unfolding course_of
  end_given e =
      let begun = r.start in
      let n : slice_get (tokens_of s.limit (course s.limit (input_of s))) s.taken ≡ Some p.token = ap (λ (z : List Token). slice_get z s.taken) (tokens_begun s.limit (course_of s) begun) ∙ p.is in
      let z = stream_end_is_last s.limit (input_of s) (text_order s.text.chars r.holds.text) s.taken p.token n (sym last_is ∙ e) in
      let l = ap (λ (y : List Token). length y) (tokens_begun s.limit (course_of s) begun) in
      let k = z.0 in
      let w = p.taken in (
        sym (told_as s t p.text p.refusal p.limit)
            ∙ ap (λ (y : List Token). map (handed_out t.text.encoding) y) (sym (take_all t.taken (all_in t) (let a = ap (λ (y : List Token). length y) (all_as s t p.text p.refusal p.limit) in omega arith)))
            ∙ taken_one,
        z.1,
      )

-- after others
module _ (s u t : Scanner) (zs : List yaml_token_t) (x : yaml_token_t) (g : HasGiven s u zs) (p : Pops u t x) where
  pub given_on : is_last_type (type_of x.token_data) ≡ false → HasGiven s t (zs ++ x ∷ [])
  given_on n = more_given s u t zs (x ∷ []) g (head_given u t x g.runs p n)

  pub given_end : is_last_type (type_of x.token_data) ≡ true → (told_all s ≡ told_taken s ++ (zs ++ x ∷ [])) × ((course_of s).fault ≡ None)
  given_end e = let q = end_given u t x g.runs p e in (
    sym (told_as s u g.text g.refusal g.limit) ∙ q.0 ∙ ap (λ (z : List yaml_token_t). z ++ x ∷ []) g.given ∙ append_assoc (told_taken s) zs (x ∷ []),
    sym (ap (λ (c : Course). c.fault) (course_as s u g.text g.refusal g.limit)) ∙ q.1,
  )

  pub given_words : HaveWords (told_all s) → HasWords x.token_data
  given_words w = head_words u t x g.runs p (subst (λ (z : List yaml_token_t). HaveWords z) (sym (told_as s u g.text g.refusal g.limit)) w)

  pub given_cut : (took took' : List yaml_token_t → Type 0) → ((ys : List yaml_token_t) → took' ys → took (zs ++ ys)) → IsCut took' (x ∷ []) → IsCutOff s took
  given_cut took took' m c = cut_on s u zs g took took' m (cut_of u took' (x ∷ []) (head_begins u t x g.runs p) c)

  pub fewer_follow : (n : ℕ) → n ≤ u.taken → length (all_in s) - t.taken < length (all_in s) - n
  fewer_follow n l =
      let a = head_within u t x g.runs p in
      let b = ap (λ (z : List Token). length z) (all_as s u g.text g.refusal g.limit) in
      let c = p.taken in
      omega arith

-- THE WHOLE INPUT
-- none of them is that of the stream end
none_is_end : (e : yaml_encoding_t) (xs : List Token) → AllOn xs → TokensFit xs → list_any is_end (map (handed_out e) xs) ≡ false
none_is_end e [] a f = refl
none_is_end e (x ∷ xs) a f = neither (is_end (handed_out e x)) (list_any is_end (map (handed_out e) xs)) (last_told e x f.0 ∙ a.0) (none_is_end e xs a.1 f.1)
  where
    neither : (a b : Bool) → a ≡ false → b ≡ false → (a || b) ≡ false
    neither a b p q = rw (p, q) refl

-- a scanner that is stuck has handed out what its steps settle
module _ (m : Scanner) (r : IsRunning m) (o : IsOpen m) (l : length (before m.limit (history m)) ≤ m.taken) where
  stuck_at : take m.taken (all_in m) ≡ before m.limit (history m)
  stuck_at =
      let b = settled_begins m r in
      let t = r.holds.taken in
      ap (λ (z : List Token). take m.taken z) b.is ∙ take-append-le m.taken (before m.limit (history m)) b.rest t ∙ take_all m.taken (before m.limit (history m)) l

  stuck_fit : TokensFit (before m.limit (history m))
  stuck_fit = let b = settled_begins m r in
      fit_front (before m.limit (history m)) b.rest (subst (λ (z : List Token). TokensFit z) b.is (fit_before m.limit (course_of m).read (read_history m r) (all_fit m r)))

  stuck_on : list_any is_end (told_taken m) ≡ false
  stuck_on = rw stuck_at (none_is_end m.text.encoding (before m.limit (history m)) (settled_on m.limit (history m) r.holds.is_history (still_running m r o l)) stuck_fit)

module _ (limit : ℕ) (setting : yaml_encoding_t) (input : List ℕ) (s : Scanner) (k : IsIn setting input s) (L : s.limit ≡ limit) where
  abbrev I : Input
  I = decoded_input setting input

  abbrev C : Course
  C = course_in limit setting input

  course_then : course_of s ≡ C
  course_then = course_is setting input s k.reads ∙ ap (λ (n : ℕ). course_in n setting input) L

  encoding_then : s.text.encoding ≡ I.encoding
  encoding_then = ap (λ (i : Input). i.encoding) k.reads

  begun_then : C.begun ≡ true
  begun_then = sym (ap (λ (c : Course). c.begun) course_then) ∙ k.runs.start

  pub told_then : told_all s ≡ (answers_to limit setting input).tokens
  unfolding answers_to answers
  told_then =
      ap (λ (e : yaml_encoding_t). map (handed_out e) (all_in s)) encoding_then
      ∙ ap (λ (z : List Token). map (handed_out I.encoding) z) (ap (λ (c : Course). before s.limit c.read) course_then ∙ ap (λ (n : ℕ). before n C.read) L ∙ sym (tokens_begun limit C begun_then))

  pub words_then : HaveWords (told_all s)
  words_then = subst (λ (z : List yaml_token_t). HaveWords z) (sym told_then) (all_have_lines limit setting input).0

  fault_then : (course_of s).fault ≡ (answers_to limit setting input).fault
  unfolding answers_to answers
  fault_then = ap (λ (c : Course). c.fault) course_then

  module _ (z : s.taken ≡ 0) (took : List yaml_token_t → Type 0) where
    none_taken : told_taken s ≡ []
    none_taken = rw z refl

    pub all_given : GaveRest s took → IsGivenAll took limit setting input None
    all_given w = record {
      tokens = w.0;
      given = w.3;
      reads = inl (sym (ap (λ (y : List yaml_token_t). y ++ w.0) none_taken) ∙ sym w.1 ∙ told_then, sym w.2 ∙ fault_then);
    }

    pub beginning_given : IsCutOff s took → IsGivenBeginning took limit setting input
    beginning_given c = record {
      tokens = c.handed;
      given = c.given;
      refused = c.next;
      beginning = subst (λ (y : List yaml_token_t). Begins (c.handed ++ c.next ∷ []) y) told_then
          (subst (λ (y : List yaml_token_t). Begins (y ++ (c.handed ++ c.next ∷ [])) (told_all s)) none_taken c.begins);
    }

    module _ (m : Scanner) (tokens : List yaml_token_t) (g : HasGiven s m tokens) (u : length (before m.limit (history m)) ≤ m.taken) where
      tokens_then : tokens ≡ told_taken m
      tokens_then = sym (g.given ∙ ap (λ (y : List yaml_token_t). y ++ tokens) none_taken)

      course_m : course_of m ≡ C
      course_m = course_as s m g.text g.refusal g.limit ∙ course_then

      settled_then : before m.limit (history m) ≡ settled_tokens limit C m.made
      unfolding history
      settled_then =
          let b = g.runs.begun in
          rw (lt-ltb 0 m.made b) (ap (λ (c : Course). before m.limit (oldest (m.made - 1) c.read)) course_m ∙ ap (λ (n : ℕ). before n (oldest (m.made - 1) C.read)) (g.limit ∙ L))

      are_settled : AreSettled limit setting input tokens
      are_settled = record {
        steps = m.made;
        within = rw begun_then (let a = g.runs.within in let b = ap (λ (c : Course). length c.read) course_m in omega arith);
        tokens_are = tokens_then ∙ ap (λ (y : List Token). map (handed_out m.text.encoding) y) (stuck_at m g.runs g.still_open u ∙ settled_then)
            ∙ ap (λ (e : yaml_encoding_t). map (handed_out e) (settled_tokens limit C m.made)) (ap (λ (t : Text). t.encoding) g.text ∙ encoding_then);
        beginning = subst (λ (y : List yaml_token_t). Begins tokens y) (told_as s m g.text g.refusal g.limit ∙ told_then)
            (subst (λ (y : List yaml_token_t). Begins y (told_all m)) (sym tokens_then) (begins_take (handed_out m.text.encoding) (all_in m) m.taken));
        in_utf8 = λ e. begun_then;
        no_end = ap (λ (y : List yaml_token_t). list_any is_end y) tokens_then ∙ stuck_on m g.runs g.still_open u;
      }

      all_then : (f : Fault) → IsLast m f → AllOf (answers_to limit setting input) tokens (Some f)
      unfolding history
      all_then f i =
          let a = i.made in
          let w : history m ≡ (course_of m).read = oldest_all (course_of m).read (m.made - 1) (omega arith) in
          let l : length (all_in m) ≤ m.taken = subst (λ (X : List Laid). length (before m.limit X) ≤ m.taken) w u in (
            tokens_then ∙ ap (λ (y : List Token). map (handed_out m.text.encoding) y) (take_all m.taken (all_in m) l) ∙ told_as s m g.text g.refusal g.limit ∙ told_then,
            sym i.fault ∙ ap (λ (c : Course). c.fault) (course_as s m g.text g.refusal g.limit) ∙ fault_then,
          )

      reads_then : (f : Fault) → (f ≡ memory_fault) ⊎ IsLast m f → ReadsAll limit setting input tokens (Some f)
      reads_then f (inl e) = inr (are_settled, ap Some e)
      reads_then f (inr i) = inl (all_then f i)

    pub stopped_then : (stored : Option yaml_fault_t) (stop : stop_t) (refuses : Type 0) → StopsGiving s stored stop took refuses
        → IsGivenAll took limit setting input (Some (fault_at stop stored)) ⊎ ((stop ≡ SINK) × IsGivenBeginning took limit setting input × refuses)
    stopped_then stored stop refuses (inl w) = let g = w.2 in let i = w.3 in inl (record { tokens = w.0; given = w.4; reads = reads_then w.1 w.0 g i.unsettled (fault_at stop stored) i.fault })
    stopped_then stored stop refuses (inr w) = inr (w.0, beginning_given w.1, w.2)

    -- the rest was given, or it has stopped
    pub finished : (stored : Option yaml_fault_t) (refuses : Type 0) (out : Result (Unit {0}) stop_t) → MatchResult out (λ _. GaveRest s took) (λ stop. StopsGiving s stored stop took refuses) → GivesAll took refuses limit setting input stored out
    finished stored refuses (Ok x) w = all_given w
    finished stored refuses (Err stop) w = stopped_then stored stop refuses w

-- no step was made
begins_none : (xs : List Token) → length xs ≤ 0 → xs ≡ []
begins_none [] l = refl
begins_none (x ∷ xs) l = absurd (omega arith)

pub none_made : (setting : yaml_encoding_t) (input : List ℕ) (s t : Scanner) (f : Fault) → s.taken ≡ 0 → IsShort setting input s f ⊎ IsEnded setting input s t f → ReadsAll s.limit setting input [] (Some f)
unfolding answers_to answers
none_made setting input s t f z (inl k) = inr (
  record {
    steps = 0;
    within = omega arith;
    tokens_are = refl;
    beginning = record { rest = (answers_to s.limit setting input).tokens; is = refl };
    in_utf8 = k.in_utf8;
    no_end = refl;
  },
  ap Some k.fault,
)
none_made setting input s t f z (inr k) =
    let n = k.none in
    let e : tokens_of s.limit (course_in s.limit setting input) ≡ [] = begins_none _ (omega arith) in
    inl (ap (λ (y : List Token). map (handed_out (decoded_input setting input).encoding) y) (sym e), sym k.fault)

-- why it gives no more: the sink refused a token, which is no fault, or there is a fault
module _ (took : List yaml_token_t → Type 0) (refuses : Type 0) (n limit : ℕ) (l : n ≡ limit) (setting : yaml_encoding_t) (input : List ℕ) (stored : Option yaml_fault_t) (stop : stop_t) where
  no_sink_fault : stop ≡ SINK → IsGivenAll took n setting input (Some (fault_at stop stored)) → ⊥
  no_sink_fault e w =
      let v : IsGivenAll took n setting input (Some no_fault) = subst (λ (x : stop_t). IsGivenAll took n setting input (Some (fault_at x stored))) e w in
      (reads_have_lines n setting input v.tokens (Some no_fault) v.reads).1

  pub cut_by_sink : stop ≡ SINK → GivesAll took refuses n setting input stored (Err stop) → IsGivenBeginning took limit setting input × refuses
  cut_by_sink e (inl w) = absurd (no_sink_fault e w)
  cut_by_sink e (inr w) = (subst (λ (x : ℕ). IsGivenBeginning took x setting input) l w.1, w.2)

  pub ended_by_fault : (f : Fault) → f ≡ fault_at stop stored → (stop ≡ SINK → ⊥) → GivesAll took refuses n setting input stored (Err stop) → IsGivenAll took limit setting input (Some f)
  ended_by_fault f e m (inl w) = subst (λ (x : Fault). IsGivenAll took limit setting input (Some x)) (sym e) (subst (λ (x : ℕ). IsGivenAll took x setting input (Some (fault_at stop stored))) l w)
  ended_by_fault f e m (inr w) = absurd (m w.0)

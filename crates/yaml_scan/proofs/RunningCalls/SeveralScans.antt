-- Several scans at once: the tokens that a sink was given are those that as many scans return.
use Rattle.std.proofs.Common.{◌≡◌, ℕ, zero, suc, ◌+◌, ◌-◌, ◌≤◌, ◌<◌, ◌||◌, max, Bool, true, false, List, [], ◌∷◌, ◌++◌, map, take, drop, length, length-append, take-append-drop, slice_get, Option, Some, append_assoc, refl, ap, sym, ◌∙◌, subst, arith, lt-ltb}
use Rattle.std.specs.List.{list_any}
use Rattle.std.specs.Prelude.{if◌then◌else◌}
use Rattle.std.proofs.lemmas.Bool.{false≢true}
use Rattle.std.proofs.lemmas.List.{append_cancel_left, length-map, length-take-le, map-append}
use Rattle.std.proofs.lemmas.List.Folds.{list_any-append}
use Rattle.yaml_text.specs.declared.types.yaml_encoding_t.{yaml_encoding_t}
use Rattle.yaml_scan.specs.Course.{oldest, Course, Input, course}
use Rattle.yaml_scan.specs.inside.Scanner.{Scanner}
use Rattle.yaml_scan.specs.Groups.{Token, handed_out}
use Rattle.yaml_scan.specs.Decoded.{decoded_input}
use Rattle.yaml_scan.specs.Order.{IsHistory}
use Rattle.yaml_scan.specs.Parser.{Parser}
use Rattle.yaml_scan.specs.Scanned.{Scanned}
use Rattle.yaml_scan.specs.Session.{Call, Session, after, all_steps, is_last, next_token}
use Rattle.yaml_scan.specs.Sessions.{after_all, new_session}
use Rattle.yaml_scan.specs.Session.Call.{SCAN}
use Rattle.yaml_scan.specs.Settled.{before, pace, steps_for, tokens_of}
use Rattle.yaml_scan.specs.Token.{yaml_token_t}
use Rattle.yaml_scan.specs.inside.Given.{all_in}
use Rattle.yaml_scan.specs.inside.Handed.{is_end}
use Rattle.yaml_scan.specs.inside.Ready.{course_in}
use Rattle.yaml_scan.specs.inside.Scanning.{course_of, history}
use Rattle.yaml_scan.specs.inside.Sent.{HasSent}
use Rattle.yaml_scan.proofs.SessionCalls.CallCases.{after_scan, paced, took}
use Rattle.yaml_scan.proofs.Course.AnswerOrder.{TokensFit, fit_course}
use Rattle.yaml_scan.proofs.Course.InputLaws.{inputs_keep_order}
use Rattle.yaml_scan.proofs.Course.StepsNeeded.{enough, grows}
use Rattle.yaml_scan.proofs.RunningCalls.CallAnswers.{get_fits, last_told}
use Rattle.yaml_scan.proofs.RunningCalls.NextOfInput.{inside, read_history}
use Rattle.yaml_scan.proofs.RunningCalls.ToNextToken.{course_is}

-- CALLS
after_both : (limit : ℕ) (c : Course) (a b : List Call) (s : Session) → after_all limit c (a ++ b) s ≡ after_all limit c b (after_all limit c a s)
unfolding after_all
after_both limit c [] b s = refl
after_both limit c (k ∷ a) b s = after_both limit c a b (after limit c k s)

-- a scan for each token
abbrev pub scans : List Token → List Call
scans [] = []
scans (x ∷ xs) = SCAN ∷ scans xs

-- the session after scans of n tokens, if m steps were made
abbrev scanned_to : Session → ℕ → ℕ → Session
scanned_to s n m = record { taken = s.taken + n; steps = m; peeked = false; over = false; fault = s.fault }

same_session : (s : Session) (n n' m m' : ℕ) (o : Bool) → n ≡ n' → m ≡ m' → o ≡ false → let a : Session = record { taken = n; steps = m; peeked = false; over = o; fault = s.fault } in let b : Session = record { taken = n'; steps = m'; peeked = false; over = false; fault = s.fault } in a ≡ b
same_session s n n' m m' o e f g = λ k. record { taken = e k; steps = f k; peeked = false; over = g k; fault = s.fault }

if_open : {A : Type 0} (b : Bool) (x y : A) → b ≡ false → (if b then x else y) ≡ y
if_open true x y e = absurd (false≢true (sym e))
if_open false x y e = refl

module _ (limit : ℕ) (c : Course) (N : ℕ) where
  -- these are the next tokens, from place t on, none of them the stream end, and N steps settle them
  AreNext : ℕ → List Token → Type 0
  AreNext t [] = Unit {0}
  AreNext t (x ∷ xs) = (slice_get (tokens_of limit c) t ≡ Some x) × (is_last x ≡ false) × (steps_for limit c.read t ≤ N) × AreNext (t + 1) xs

  one_scan : (s : Session) (x : Token) → s.over ≡ false → next_token limit c s ≡ Some x → after limit c SCAN s ≡ took x (paced limit c s)
  one_scan s x o n = if_open s.over _ _ o ∙ ap (λ (z : Option Token). after_scan limit c s z) n

  many_scans : (x : Token) (xs : List Token) (s : Session) → s.over ≡ false → s.steps ≤ N → AreNext s.taken (x ∷ xs) → N ≤ max s.steps (steps_for limit c.read (s.taken + length xs))
      → after_all limit c (scans (x ∷ xs)) s ≡ scanned_to s (length (x ∷ xs)) N
  unfolding after_all pace AreNext
  many_scans x [] s o l a n =
      let e : s.taken + length {A = Token} [] ≡ s.taken = omega arith in
      let m = ap (λ (k : ℕ). steps_for limit c.read k) e in
      let w = a.2 in
      one_scan s x o a.0 ∙ same_session s _ _ _ _ _ refl (omega arith) a.1
  many_scans x (y ∷ ys) s o l a n =
      let s1 : Session = took x (paced limit c s) in
      let w = a.2 in
      let e : s.taken + length (y ∷ ys) ≡ s.taken + 1 + length ys = omega arith in
      let m = ap (λ (k : ℕ). steps_for limit c.read k) e in
      ap (λ (z : Session). after_all limit c (scans (y ∷ ys)) z) (one_scan s x o a.0)
      ∙ many_scans y ys s1 a.1 (omega arith) a.3 (omega arith)
      ∙ same_session s _ _ _ _ _ (omega arith) refl refl

-- TOKENS
get_mid : (front : List Token) (x : Token) (rest : List Token) → slice_get (front ++ x ∷ rest) (length front) ≡ Some x
get_mid [] x rest = refl
get_mid (y ∷ front) x rest = get_mid front x rest

first_false : (a b : Bool) → (a || b) ≡ false → a ≡ false
first_false true b e = absurd (false≢true (sym e))
first_false false b e = refl

rest_false : (a b : Bool) → (a || b) ≡ false → b ≡ false
rest_false true b e = absurd (false≢true (sym e))
rest_false false b e = e

module _ (limit : ℕ) (c : Course) (N : ℕ) (e : yaml_encoding_t) (f : TokensFit (tokens_of limit c)) where
  are_next : (front xs rest : List Token) → tokens_of limit c ≡ front ++ (xs ++ rest) → list_any is_end (map (handed_out e) xs) ≡ false
      → ((i : ℕ) → i < length front + length xs → steps_for limit c.read i ≤ N) → AreNext limit c N (length front) xs
  unfolding AreNext
  are_next front [] rest q n s = tt
  are_next front (x ∷ xs) rest q n s =
      let a : slice_get (tokens_of limit c) (length front) ≡ Some x = ap (λ (z : List Token). slice_get z (length front)) q ∙ get_mid front x (xs ++ rest) in
      let b = length-append front (x ∷ []) in
      let r = are_next (front ++ x ∷ []) xs rest (q ∙ sym (append_assoc front (x ∷ []) (xs ++ rest))) (rest_false (is_end (handed_out e x)) (list_any is_end (map (handed_out e) xs)) n) (λ i l. s i (omega arith)) in (
        a,
        sym (last_told e x (get_fits (tokens_of limit c) (length front) x f a)) ∙ first_false (is_end (handed_out e x)) (list_any is_end (map (handed_out e) xs)) n,
        s (length front) (omega arith),
        subst (λ (k : ℕ). AreNext limit c N k xs) (let d : length (front ++ x ∷ []) ≡ length front + 1 = omega arith in d) r,
      )

pub take-more : (n m : ℕ) (xs : List Token) → take (n + m) xs ≡ take n xs ++ take m (drop n xs)
take-more zero m xs = let e : 0 + m ≡ m = omega arith in rw e refl
take-more (suc n) m [] = let e : suc n + m ≡ suc (n + m) = omega arith in rw e (none m)
  where
    none : (k : ℕ) → [] ≡ take {A = Token} k []
    none zero = refl
    none (suc k) = refl
take-more (suc n) m (x ∷ xs) = let e : suc n + m ≡ suc (n + m) = omega arith in rw e (ap (λ (z : List Token). x ∷ z) (take-more n m xs))

-- A SCANNER THAT HAS GIVEN TOKENS TO A SINK
module _ (limit : ℕ) (setting : yaml_encoding_t) (input : List ℕ) (s t : Scanner) (tokens : List yaml_token_t) (k : HasSent setting input s t tokens) (e : s.limit ≡ limit) where
  abbrev I : Input
  I = decoded_input setting input

  abbrev C : Course
  C = course limit I

  abbrev L : List Token
  L = tokens_of limit C

  course_t : course_of t ≡ C
  course_t = course_is setting input t k.stands.reads ∙ ap (λ (n : ℕ). course_in n setting input) (k.limit ∙ e)

  begun : C.begun ≡ true
  begun = sym (ap (λ (c : Course). c.begun) course_t) ∙ k.stands.runs.start

  all_is : all_in t ≡ L
  all_is = ap (λ (c : Course). before t.limit c.read) course_t ∙ ap (λ (n : ℕ). before n C.read) (k.limit ∙ e) ∙ (rw begun refl)

  encoding_is : t.text.encoding ≡ I.encoding
  encoding_is = ap (λ (i : Input). i.encoding) k.stands.reads

  settled_t : t.taken ≤ length (before limit (oldest (t.made - 1) C.read))
  unfolding history
  settled_t =
      let r = k.stands.runs.holds.taken in
      let a = ap (λ (c : Course). length (before t.limit (oldest (t.made - 1) c.read))) course_t in
      let b = ap (λ (n : ℕ). length (before n (oldest (t.made - 1) C.read))) (k.limit ∙ e) in
      omega arith

  inside_t : t.made - 1 ≤ length C.read
  inside_t = let a = inside t k.stands.runs in let b = ap (λ (c : Course). length c.read) course_t in omega arith

  all_within : t.taken ≤ length L
  all_within =
      let a = settled_t in
      let h = subst (λ (c : Course). IsHistory t.limit c.read) course_t (read_history t k.stands.runs) in
      let g = grows limit C.read (t.made - 1) (subst (λ (n : ℕ). IsHistory n C.read) (k.limit ∙ e) h) inside_t in
      let l : length L ≡ length (before limit C.read) = rw begun refl in
      omega arith

  steps_few : (i : ℕ) → i < t.taken → steps_for limit C.read i ≤ t.made
  steps_few i l =
      let h = subst (λ (c : Course). IsHistory t.limit c.read) course_t (read_history t k.stands.runs) in
      let a = settled_t in
      let b = enough limit C.read i (t.made - 1) inside_t (omega arith) in
      let d = k.stands.runs.begun in
      omega arith

  -- the tokens that were taken before, and those that were given
  abbrev front : List Token
  front = take s.taken L

  abbrev more : List Token
  more = take (length tokens) (drop s.taken L)

  abbrev rest : List Token
  rest = drop (length tokens) (drop s.taken L)

  parts : L ≡ front ++ (more ++ rest)
  parts = sym (take-append-drop s.taken L) ∙ ap (λ (z : List Token). front ++ z) (sym (take-append-drop (length tokens) (drop s.taken L)))

  told_is : map (handed_out I.encoding) (take t.taken L) ≡ map (handed_out I.encoding) front ++ tokens
  told_is =
      ap (λ (x : yaml_encoding_t). map (handed_out x) (take t.taken L)) (sym encoding_is)
      ∙ ap (λ (z : List Token). map (handed_out t.text.encoding) (take t.taken z)) (sym all_is)
      ∙ k.told
      ∙ ap (λ (z : List Token). map (handed_out t.text.encoding) (take s.taken z) ++ tokens) all_is
      ∙ ap (λ (x : yaml_encoding_t). map (handed_out x) front ++ tokens) encoding_is

  pub more_is : map (handed_out I.encoding) more ≡ tokens
  more_is =
      let a : take t.taken L ≡ front ++ more = ap (λ (n : ℕ). take n L) k.taken ∙ take-more s.taken (length tokens) L in
      append_cancel_left (map (handed_out I.encoding) front) (map (handed_out I.encoding) more) tokens
      (sym (map-append (handed_out I.encoding) front more) ∙ ap (λ (z : List Token). map (handed_out I.encoding) z) (sym a) ∙ told_is)

  front_long : length front ≡ s.taken
  front_long = length-take-le s.taken L (let a = all_within in let b = k.taken in omega arith)

  more_long : length more ≡ length tokens
  more_long = sym (length-map more (handed_out I.encoding)) ∙ ap (λ (z : List yaml_token_t). length z) more_is

  next_are : AreNext limit C t.made s.taken more
  next_are =
      let n = front_long in
      let m = more_long in
      let d = k.taken in
      subst (λ (i : ℕ). AreNext limit C t.made i more) n
      (are_next limit C t.made I.encoding (fit_course limit I (inputs_keep_order setting input)) front more rest parts (ap (λ (z : List yaml_token_t). list_any is_end z) more_is ∙ k.no_end) (λ i l. steps_few i (omega arith)))

  -- they are what as many scans return
  module _ (q : Parser) (given : List yaml_token_t) (h : Scanned limit setting input q given false) (T : q.session.taken ≡ s.taken) (M : q.session.steps ≡ s.made) where
    session_is : after_all limit C (h.calls ++ scans more) new_session ≡ scanned_to q.session (length tokens) t.made
    unfolding pace
    session_is = after_both limit C h.calls (scans more) new_session ∙ ap (λ (z : Session). after_all limit C (scans more) z) (sym h.calls_are) ∙ go more more_long next_are
      where
        go : (xs : List Token) → length xs ≡ length tokens → AreNext limit C t.made s.taken xs → after_all limit C (scans xs) q.session ≡ scanned_to q.session (length tokens) t.made
        go [] n a = absurd (let z = k.some in omega arith)
        go (x ∷ xs) n a =
            let w = k.least in
            let d = k.taken in
            let f : s.taken + length xs ≡ t.taken - 1 = omega arith in
            let m : t.made ≡ max s.made (steps_for limit C.read (t.taken - 1)) = k.made ∙ ap (λ (j : ℕ). max s.made (steps_for j (course_in j setting input).read (t.taken - 1))) e in
            let g = ap (λ (j : ℕ). steps_for limit C.read j) (ap (λ (j : ℕ). j + length xs) T ∙ f) in
            many_scans limit C t.made x xs q.session h.over (omega arith) (subst (λ (j : ℕ). AreNext limit C t.made j (x ∷ xs)) (sym T) a) (omega arith)
            ∙ same_session q.session _ _ _ _ _ (omega arith) refl refl

    pub several_scans : Scanned limit setting input (record { input = q.input; setting = q.setting; limit = q.limit; session = record { taken = t.taken; steps = t.made; peeked = false; over = false; fault = q.session.fault } }) (given ++ tokens) false
    several_scans = record {
      input_is = h.input_is;
      setting_is = h.setting_is;
      limit_is = h.limit_is;
      calls = h.calls ++ scans more;
      calls_are = same_session q.session _ _ _ _ _ (let d = k.taken in omega arith) refl refl ∙ sym session_is;
      over = refl;
      tokens_are = ap (λ (z : List yaml_token_t). z ++ tokens) (h.tokens_are ∙ ap (λ (n : ℕ). map (handed_out I.encoding) (take n L)) T) ∙ sym told_is;
      within = all_within;
      steps_within = (let a = inside_t in let b = k.stands.runs.begun in let c : all_steps C ≡ length C.read + 1 = rw begun refl in omega arith);
      are_settled = (let b = k.stands.runs.begun in rw (lt-ltb 0 t.made b) settled_t);
      no_end = λ z. list_any-append is_end given tokens ∙ (rw (h.no_end refl, k.no_end) refl);
      whole = λ z. absurd (false≢true z);
    }

-- The answers to a peek, a scan and a skip are those of the session.
use Rattle.std.proofs.Common.{◌≡◌, ℕ, zero, suc, ◌+◌, ◌-◌, ◌≤◌, ◌<◌, Bool, true, false, List, [], ◌∷◌, ◌++◌, length, length-append, drop, slice_get, Option, Some, None, Err, refl, ap, sym, ◌∙◌, subst, arith, inl, inr, append_assoc}
use Rattle.std.specs.Prelude.{◌⊎◌, if◌then◌else◌}
use Rattle.std.proofs.lemmas.Bool.{cases_lt, false≢true}
use Rattle.yaml_text.specs.declared.types.yaml_encoding_t.{yaml_encoding_t}
use Rattle.yaml_text.specs.declared.fault.yaml_fault_t.{yaml_fault_t}
use Rattle.yaml_text.specs.Fault.{Fault, fault_of, memory_fault}
use Rattle.yaml_scan.specs.Course.{ended, Input, Course, course}
use Rattle.yaml_scan.specs.inside.Scanner.{Scanner}
use Rattle.yaml_scan.specs.Token.{yaml_token_t, empty, type_of}
use Rattle.yaml_scan.specs.TokenTypes.{is_last_type}
use Rattle.yaml_scan.specs.Laid.{Laid}
use Rattle.yaml_scan.specs.Groups.{Token, offline, groups, group, block_ends, inserted, handed_out}
use Rattle.yaml_scan.specs.Settled.{before}
use Rattle.yaml_scan.specs.Groups.Token.{StreamStart, BlockEnd, BlockSequenceStart, BlockMappingStart, InsertedKey, OfLexeme}
use Rattle.yaml_scan.specs.Near.{starts_near}
use Rattle.yaml_scan.specs.Session.{Session, Call, Answer, all_steps, next_token, is_last, after}
use Rattle.yaml_scan.specs.Session.{why}
use Rattle.yaml_scan.specs.Settled.{pace, first_steps, tokens_of}
use Rattle.yaml_scan.specs.Session.Call.{SCAN, PEEK, SKIP}
use Rattle.yaml_scan.specs.Session.Answer.{TOKEN, PEEKED, FAULT}
use Rattle.yaml_scan.specs.Decoded.{decoded_input}
use Rattle.yaml_scan.specs.inside.Scanning.{IsOpen, history, course_of, input_of}
use Rattle.yaml_scan.specs.inside.Ready.{IsIn, IsShown, IsSettled, IsStopped, IsShort, IsEnded, Pops, course_in, fault_in}
use Rattle.yaml_scan.specs.Parser.{Parser, course_by}
use Rattle.yaml_scan.specs.ParserCalls.{scan_result, IsThere, IsRefusedAtStart, input_read, course_read, answered, after_call}
use Rattle.yaml_scan.specs.Headline.{Calls, WantsMemory}
use Rattle.yaml_scan.specs.inside.Shown.{Shows}
use Rattle.yaml_scan.specs.ParserCalls.{token_shown, token_or_empty}
use Rattle.yaml_scan.proofs.SessionCalls.CallCases.{took, paced, looked, scan_answer, peek_answer, after_scan, after_peek, after_skip}
use Rattle.yaml_scan.proofs.Course.AnswerOrder.{TokenFits, TokensFit, AllFit, course_fits, fit_before}
use Rattle.yaml_scan.proofs.TokenList.OneLexemeMore.{all_is_handed_out}
use Rattle.yaml_scan.proofs.RunningCalls.StepsMade.{enough_made}
use Rattle.yaml_scan.proofs.RunningCalls.ToNextToken.{course_is}
use Rattle.yaml_scan.proofs.RunningCalls.NextOfInput.{read_history, inside}
use Rattle.yaml_scan.proofs.Course.StepsNeeded.{grows}
use Rattle.yaml_scan.proofs.RunningQueue.QueueGroups.{IsFirst}
use Rattle.yaml_scan.proofs.RunningCalls.TakingHead as takings
use Rattle.yaml_scan.proofs.Texts.TextOrder.{text_order}

-- THE LAST TOKEN
pub get_fits : (ts : List Token) (n : ℕ) (x : Token) → TokensFit ts → slice_get ts n ≡ Some x → TokenFits x
get_fits [] n x f e = absurd (cc)
get_fits (t ∷ ts) zero x f e = let q : t ≡ x = cc in subst (λ (z : Token). TokenFits z) q f.0
get_fits (t ∷ ts) (suc n) x f e = get_fits ts n x f.1 e

pub last_told : (e : yaml_encoding_t) (x : Token) → TokenFits x → is_last_type (type_of (handed_out e x).token_data) ≡ is_last x
last_told e StreamStart f = refl
last_told e (BlockEnd m) f = refl
last_told e (BlockSequenceStart m) f = refl
last_told e (BlockMappingStart m) f = refl
last_told e (InsertedKey m) f = refl
last_told e (OfLexeme x) f = f.says.last

last_token : (i : Laid) (H : List Laid) → offline (i ∷ H) ≡ (groups (i ∷ H) H ++ (block_ends i ++ inserted (i ∷ H) i)) ++ OfLexeme i.lexeme ∷ []
unfolding offline groups group
last_token i H = ap (λ (l : List Token). groups (i ∷ H) H ++ l) (sym (append_assoc (block_ends i) (inserted (i ∷ H) i) (OfLexeme i.lexeme ∷ []))) ∙ sym (append_assoc (groups (i ∷ H) H) (block_ends i ++ inserted (i ∷ H) i) (OfLexeme i.lexeme ∷ []))

get_last : (a : List Token) (y : Token) → slice_get (a ++ y ∷ []) (length a) ≡ Some y
get_last [] y = refl
get_last (z ∷ a) y = get_last a y

some_token : (a b : Token) → Some a ≡ Some b → b ≡ a
some_token a b q = cc

not_last : (H : List Laid) (t : ℕ) (x : Token) → ended H ≡ true → t < length (offline H) → slice_get (offline H) t ≡ Some x → is_last x ≡ false → t + 1 < length (offline H)
not_last [] t x e l g n = absurd (false≢true e)
not_last (i ∷ H) t x e l g n = elim (cases_lt (t + 1) (length (offline (i ∷ H)))) [
  | inl m ↦ m
  | inr m ↦ (let k = ap (λ (z : List Token). length z) (last_token i H) in
      let a = length-append (groups (i ∷ H) H ++ (block_ends i ++ inserted (i ∷ H) i)) (OfLexeme i.lexeme ∷ []) in
      let u : t ≡ length (groups (i ∷ H) H ++ (block_ends i ++ inserted (i ∷ H) i)) = omega arith in
      let v : slice_get (offline (i ∷ H)) t ≡ Some (OfLexeme i.lexeme) = subst (λ (z : ℕ). slice_get (offline (i ∷ H)) z ≡ Some (OfLexeme i.lexeme)) (sym u) (subst (λ (z : List Token). slice_get z (length (groups (i ∷ H) H ++ (block_ends i ++ inserted (i ∷ H) i))) ≡ Some (OfLexeme i.lexeme)) (sym (last_token i H)) (get_last (groups (i ∷ H) H ++ (block_ends i ++ inserted (i ∷ H) i)) (OfLexeme i.lexeme))) in
      let w : x ≡ OfLexeme i.lexeme = some_token (OfLexeme i.lexeme) x (sym v ∙ g) in
      absurd (false≢true (sym n ∙ ap is_last w ∙ e)))
]

-- parsers with the same parts
same_parser : (input : List ℕ) (setting : yaml_encoding_t) (l l' n n' m m' : ℕ) (o o' : Bool) (fault : Option Fault) → l ≡ l' → n ≡ n' → m ≡ m' → o ≡ o'
    → let p : Parser = record { input = input; setting = setting; limit = l; session = record { taken = n; steps = m; peeked = false; over = o; fault = fault } } in
    let q : Parser = record { input = input; setting = setting; limit = l'; session = record { taken = n'; steps = m'; peeked = false; over = o'; fault = fault } } in p ≡ q
same_parser input setting l l' n n' m m' o o' fault a b c d = λ k. record { input = input; setting = setting; limit = a k; session = record { taken = b k; steps = c k; peeked = false; over = d k; fault = fault } }

same_stopped : (input : List ℕ) (setting : yaml_encoding_t) (l l' n n' m m' : ℕ) (f f' : Option Fault) → l ≡ l' → n ≡ n' → m ≡ m' → f ≡ f'
    → let p : Parser = record { input = input; setting = setting; limit = l; session = record { taken = n; steps = m; peeked = false; over = true; fault = f } } in
    let q : Parser = record { input = input; setting = setting; limit = l'; session = record { taken = n'; steps = m'; peeked = false; over = true; fault = f' } } in p ≡ q
same_stopped input setting l l' n n' m m' f f' a b c d = λ k. record { input = input; setting = setting; limit = a k; session = record { taken = b k; steps = c k; peeked = false; over = true; fault = d k } }

-- A TOKEN THAT IS TAKEN
module _ (setting : yaml_encoding_t) (input : List ℕ) (s t u : Scanner) (x : yaml_token_t) (k : IsSettled setting input s t) (p : Pops t u x) where
  abbrev C : Course
  C = course_in s.limit setting input

  course_t : course_of t ≡ C
  course_t = course_is setting input t k.stands.reads ∙ ap (λ (n : ℕ). course_in n setting input) k.limit

  begun_is : C.begun ≡ true
  begun_is = sym (ap (λ (c : Course). c.begun) course_t) ∙ k.stands.runs.start

  tokens_is : (c : Course) → c.begun ≡ true → tokens_of s.limit c ≡ before s.limit c.read
  tokens_is c e = rw e refl

  pub token_next : slice_get (tokens_of s.limit C) s.taken ≡ Some p.token
  token_next =
      let a : slice_get (before s.limit C.read) s.taken ≡ Some p.token = subst (λ (n : ℕ). slice_get (before s.limit C.read) n ≡ Some p.token) k.taken (subst (λ (n : ℕ). slice_get (before n C.read) t.taken ≡ Some p.token) k.limit (subst (λ (c : Course). slice_get (before t.limit c.read) t.taken ≡ Some p.token) course_t p.is)) in
      ap (λ (l : List Token). slice_get l s.taken) (tokens_is C begun_is) ∙ a

  pub encoding_is : t.text.encoding ≡ (decoded_input setting input).encoding
  encoding_is = ap (λ (i : Input). i.encoding) k.stands.reads

  pub token_told : x ≡ handed_out (decoded_input setting input).encoding p.token
  token_told = p.answer ∙ ap (λ (e : yaml_encoding_t). handed_out e p.token) encoding_is

  fits : TokenFits p.token
  fits = get_fits (before t.limit (course_of t).read) t.taken p.token (fit_before t.limit (course_of t).read (read_history t k.stands.runs) all_fit) p.is
    where
      all_fit : AllFit (course_of t).read
      all_fit = subst (λ (c : Course). AllFit c.read) (sym (course_is setting input t k.stands.reads)) (subst (λ (i : Input). AllFit (course t.limit i).read) k.stands.reads (course_fits t.limit (input_of t) (text_order t.text.chars k.stands.runs.holds.text)))

  pub last_is : is_last_type (type_of x.token_data) ≡ is_last p.token
  last_is = ap (λ (y : yaml_token_t). is_last_type (type_of y.token_data)) p.answer ∙ last_told t.text.encoding p.token fits

  course_u : course_of u ≡ course_of t
  unfolding course_of
  course_u = rw (p.text, p.refusal, p.limit) refl

  pub stands_u : IsIn setting input u
  stands_u = record { runs = p.runs; reads = (rw (p.text, p.refusal) refl) ∙ k.stands.reads; text = p.text ∙ k.stands.text }

  pub open_u : is_last p.token ≡ false → IsOpen u
  open_u n = λ e.
      let f : ended (course_of t).read ≡ true = sym (ap (λ (c : Course). ended c.read) course_u) ∙ e in
      let w = (all_is_handed_out t.limit (course_of t).read (read_history t k.stands.runs) f).1 in
      let l = k.still_open f in
      let m = not_last (course_of t).read t.taken p.token f l (sym (ap (λ (z : List Token). slice_get z t.taken) w) ∙ p.is) n in
      let v = ap (λ (c : Course). length (offline c.read)) course_u in
      let q = p.taken in
      omega arith

  -- the token that was shown, and what is left
  module _ (m : t.made ≡ s.made) (fault : Option Fault) where
    abbrev showing : Session
    showing = record { taken = s.taken; steps = s.made; peeked = true; over = false; fault = fault }

    abbrev P : Parser
    P = record { input = input; setting = setting; limit = s.limit; session = showing }

    pub take_told : x ≡ token_shown P
    unfolding course_by
    take_told = token_told ∙ sym (ap (λ (o : Option Token). token_or_empty (decoded_input setting input).encoding o) token_next)

    pub take_left : (o : Bool) → o ≡ is_last_type (type_of x.token_data) → record { input = input; setting = setting; limit = u.limit; session = record { taken = u.taken; steps = u.made; peeked = false; over = o; fault = fault } } ≡ after_call P SKIP
    unfolding course_by
    take_left o e =
        same_parser input setting u.limit s.limit u.taken (s.taken + 1) u.made s.made o (is_last p.token) fault (p.limit ∙ k.limit) (let a = p.taken in let b = k.taken in omega arith) (p.made ∙ m) (e ∙ last_is)
        ∙ ap (λ (z : Session). record { input = input; setting = setting; limit = s.limit; session = z }) (sym (ap (λ (z : Option Token). after_skip showing z) token_next))

    pub take_told_of : (q : Parser) → q ≡ P → x ≡ token_shown q
    take_told_of q r = take_told ∙ ap token_shown (sym r)

    pub take_left_of : (q : Parser) → q ≡ P → (o : Bool) → o ≡ is_last_type (type_of x.token_data) → record { input = input; setting = setting; limit = u.limit; session = record { taken = u.taken; steps = u.made; peeked = false; over = o; fault = fault } } ≡ after_call q SKIP
    take_left_of q r o e = take_left o e ∙ ap (λ (z : Parser). after_call z SKIP) (sym r)

-- the next token was shown: no step is made for it
pub shown_settled : (setting : yaml_encoding_t) (input : List ℕ) (s : Scanner) → IsShown setting input s → IsSettled setting input s s
unfolding pace
shown_settled setting input s k =
    let e = enough_made s k.stands.runs k.settled in
    let c = course_is setting input s k.stands.reads in
    let d = ap (λ (x : Course). Rattle.yaml_scan.specs.Settled.steps_for s.limit x.read s.taken) c in
    record { stands = k.stands; still_open = k.still_open; settled = k.settled; made = omega arith; limit = refl; taken = refl; done = refl }

tokens_begun : (limit : ℕ) (c : Course) → c.begun ≡ true → tokens_of limit c ≡ before limit c.read
tokens_begun limit c e = rw e refl

get_some : (xs : List Token) (n : ℕ) → n < length xs → (x : Token) × (slice_get xs n ≡ Some x)
get_some [] n l = absurd (omega arith)
get_some (x ∷ xs) zero l = (x, refl)
get_some (x ∷ xs) (suc n) l = get_some xs n (omega arith)

-- A TOKEN THAT IS SHOWN
module _ (setting : yaml_encoding_t) (input : List ℕ) (s t : Scanner) (k : IsSettled setting input s t) where
  abbrev D : Course
  D = course_in s.limit setting input

  course_d : course_of t ≡ D
  course_d = course_is setting input t k.stands.reads ∙ ap (λ (n : ℕ). course_in n setting input) k.limit

  next_settled : s.taken < length (tokens_of s.limit D)
  unfolding history
  next_settled =
      let a = grows t.limit (course_of t).read (t.made - 1) (read_history t k.stands.runs) (inside t k.stands.runs) in
      let b = ap (λ (c : Course). length (before t.limit c.read)) course_d in
      let c = ap (λ (n : ℕ). length (before n D.read)) k.limit in
      let d = ap (λ (l : List Token). length l) (tokens_begun s.limit D (sym (ap (λ (c : Course). c.begun) course_d) ∙ k.stands.runs.start)) in
      let e = k.taken in
      let l = k.settled in
      omega arith

  pub token_some : (x : Token) × (slice_get (tokens_of s.limit D) s.taken ≡ Some x)
  token_some = get_some (tokens_of s.limit D) s.taken next_settled

  module _ (peeked : Bool) (fault : Option Fault) where
    abbrev opened : Session
    opened = record { taken = s.taken; steps = s.made; peeked = peeked; over = false; fault = fault }

    abbrev O : Parser
    O = record { input = input; setting = setting; limit = s.limit; session = opened }

    abbrev now_shown : Parser
    now_shown = record { input = input; setting = setting; limit = t.limit; session = record { taken = t.taken; steps = t.made; peeked = true; over = false; fault = fault } }

    same_shown : (l l' n n' m m' : ℕ) → l ≡ l' → n ≡ n' → m ≡ m'
        → let p : Parser = record { input = input; setting = setting; limit = l; session = record { taken = n; steps = m; peeked = true; over = false; fault = fault } } in
        let q : Parser = record { input = input; setting = setting; limit = l'; session = record { taken = n'; steps = m'; peeked = true; over = false; fault = fault } } in p ≡ q
    same_shown l l' n n' m m' a b c = λ i. record { input = input; setting = setting; limit = a i; session = record { taken = b i; steps = c i; peeked = true; over = false; fault = fault } }

    show_left : now_shown ≡ after_call O PEEK
    unfolding course_by
    show_left = same_shown t.limit s.limit t.taken s.taken t.made (pace s.limit D.read s.taken s.made) k.limit k.taken k.made
        ∙ ap (λ (z : Session). record { input = input; setting = setting; limit = s.limit; session = z }) (sym (ap (λ (z : Option Token). after_peek s.limit D opened z) token_some.1))

    answer_is : answered O PEEK ≡ PEEKED (handed_out (decoded_input setting input).encoding token_some.0)
    unfolding course_by
    answer_is = ap (λ (z : Option Token). peek_answer (decoded_input setting input).encoding D z) token_some.1

    shown_is : token_shown now_shown ≡ handed_out (decoded_input setting input).encoding token_some.0
    unfolding course_by
    shown_is = ap (λ (n : ℕ). token_or_empty (decoded_input setting input).encoding (slice_get (tokens_of n (course_in n setting input)) t.taken)) k.limit
        ∙ ap (λ (n : ℕ). token_or_empty (decoded_input setting input).encoding (slice_get (tokens_of s.limit D) n)) k.taken
        ∙ ap (λ (z : Option Token). token_or_empty (decoded_input setting input).encoding z) token_some.1

    pub show_token : (q : Parser) → q ≡ O → (over : Bool) → over ≡ false → Shows q true (record { input = input; setting = setting; limit = t.limit; session = record { taken = t.taken; steps = t.made; peeked = true; over = over; fault = fault } })
    show_token q r over e = subst (λ (b : Bool). Shows q true (record { input = input; setting = setting; limit = t.limit; session = record { taken = t.taken; steps = t.made; peeked = true; over = b; fault = fault } })) (sym e)
        (subst (λ (z : Parser). Shows z true now_shown) (sym r) (inl (ap PEEKED shown_is ∙ sym answer_is, show_left)))

-- it is the first one that the queue hands out
module _ (setting : yaml_encoding_t) (input : List ℕ) (s : Scanner) (k : IsShown setting input s) (x : yaml_token_t) (f : IsFirst s.text.encoding (drop s.taken (offline (history s))) x) where
  next_is : slice_get (tokens_of s.limit (course_in s.limit setting input)) s.taken ≡ Some f.0
  next_is =
      let c = course_is setting input s k.stands.reads in
      let b : (course_in s.limit setting input).begun ≡ true = sym (ap (λ (x : Course). x.begun) c) ∙ k.stands.runs.start in
      ap (λ (l : List Token). slice_get l s.taken) (tokens_begun s.limit (course_in s.limit setting input) b)
      ∙ ap (λ (x : Course). slice_get (before s.limit x.read) s.taken) (sym c)
      ∙ takings.token_is s k.stands.runs k.settled f.0 f.1 f.2

  told_is : x ≡ token_or_empty (decoded_input setting input).encoding (slice_get (tokens_of s.limit (course_in s.limit setting input)) s.taken)
  told_is = f.3
      ∙ ap (λ (i : Input). handed_out i.encoding f.0) k.stands.reads
      ∙ sym (ap (λ (o : Option Token). token_or_empty (decoded_input setting input).encoding o) next_is)

  pub head_shown : (peeked over : Bool) (fault : Option Fault) → peeked ≡ true → (q : Parser) → q ≡ record { input = input; setting = setting; limit = s.limit; session = record { taken = s.taken; steps = s.made; peeked = peeked; over = over; fault = fault } } → x ≡ token_shown q
  unfolding course_by
  head_shown peeked over fault e q r = told_is
      ∙ sym (ap (λ (b : Bool). if b then token_or_empty (decoded_input setting input).encoding (slice_get (tokens_of s.limit (course_in s.limit setting input)) s.taken) else empty) e)
      ∙ ap token_shown (sym r)

-- PEEKS AND SCANS
pub show_over : (p : Parser) → p.session.over ≡ true → p.session.peeked ≡ false → Shows p true p
show_over p o k = inl (rw (k, o) refl, rw o refl)

-- after the end a scan changes nothing, and its answer is the empty token
pub scan_idle : (p q : Parser) (a : Answer) → p.session.over ≡ true → Calls decoded_input SCAN p a q → (a ≡ TOKEN empty) × (q ≡ p)
scan_idle p q a o (inl w) =
    let told : answered p SCAN ≡ TOKEN empty = rw o refl in
    let left : after_call p SCAN ≡ p = rw o refl in
    (w.0 ∙ told, w.1 ∙ left)
scan_idle p q a o (inr w) = absurd (false≢true (sym w.1.was_open ∙ o))

pub scan_over : (p : Parser) → p.session.over ≡ true → Calls decoded_input SCAN p (TOKEN empty) p
scan_over p o = inl (rw o refl, rw o refl)

otherwise : {A : Type 0} (b : Bool) (x y : A) → b ≡ false → (if b then x else y) ≡ y
otherwise b x y e = rw e refl

-- a scan is a peek and a skip
take_after_peek : (limit : ℕ) (c : Course) (s : Session) (y : Token) → s.over ≡ false → next_token limit c s ≡ Some y → after limit c SKIP (after limit c PEEK s) ≡ after limit c SCAN s
take_after_peek limit c s y o n =
    let a : after limit c PEEK s ≡ looked (paced limit c s) = otherwise s.over s (after_peek limit c s (next_token limit c s)) o ∙ ap (λ (z : Option Token). after_peek limit c s z) n in
    let b : after limit c SKIP (looked (paced limit c s)) ≡ took y (paced limit c s) = ap (λ (z : Option Token). after_skip (looked (paced limit c s)) z) n in
    let d : after limit c SCAN s ≡ took y (paced limit c s) = otherwise s.over s (after_scan limit c s (next_token limit c s)) o ∙ ap (λ (z : Option Token). after_scan limit c s z) n in
    ap (λ (z : Session). after limit c SKIP z) a ∙ b ∙ sym d

peeked_token : (e : yaml_encoding_t) (c : Course) (o : Option Token) (x : yaml_token_t) → PEEKED x ≡ peek_answer e c o → (y : Token) × (o ≡ Some y) × (x ≡ handed_out e y)
peeked_token e c None x q = no c.fault q
  where
    no : (f : Option Fault) → PEEKED x ≡ why f → (y : Token) × (None ≡ Some y) × (x ≡ handed_out e y)
    no None r = absurd (cc)
    no (Some f) r = absurd (cc)
peeked_token e c (Some y) x q = (y, refl, cc)

no_token : (e : yaml_encoding_t) (c : Course) (o : Option Token) (f : Fault) → FAULT f ≡ peek_answer e c o → o ≡ None
no_token e c None f q = refl
no_token e c (Some y) f q = absurd (cc)

module _ (p q : Parser) (o : p.session.over ≡ false) where
  abbrev next : Option Token
  next = next_token p.limit (course_read p) p.session

  open_peek : answered p PEEK ≡ peek_answer (input_read p).encoding (course_read p) next
  open_peek = otherwise p.session.over (PEEKED empty) (peek_answer (input_read p).encoding (course_read p) next) o

  open_scan : answered p SCAN ≡ scan_answer (input_read p).encoding (course_read p) next
  open_scan = otherwise p.session.over (TOKEN empty) (scan_answer (input_read p).encoding (course_read p) next) o

  left_peek : after p.limit (course_read p) PEEK p.session ≡ after_peek p.limit (course_read p) p.session next
  left_peek = otherwise p.session.over p.session (after_peek p.limit (course_read p) p.session next) o

  left_scan : after p.limit (course_read p) SCAN p.session ≡ after_scan p.limit (course_read p) p.session next
  left_scan = otherwise p.session.over p.session (after_scan p.limit (course_read p) p.session next) o

  shown_token : (x : yaml_token_t) → PEEKED x ≡ answered p PEEK → (y : Token) × (next ≡ Some y) × (x ≡ handed_out (input_read p).encoding y)
  shown_token x a = peeked_token (input_read p).encoding (course_read p) next x (a ∙ open_peek)

  taken_after : (y : Token) → next ≡ Some y → after_call (after_call p PEEK) SKIP ≡ after_call p SCAN
  unfolding course_by
  taken_after y n = ap (λ (z : Session). record { input = p.input; setting = p.setting; limit = p.limit; session = z }) (take_after_peek p.limit (course_read p) p.session y o n)

  pub scan_shown : (x : yaml_token_t) (r : Parser) → Shows p true q → x ≡ token_shown q → r ≡ after_call q SKIP → Calls decoded_input SCAN p (TOKEN x) r
  scan_shown x r (inl a) e f = (let y = shown_token (token_shown q) a.0 in
      inl (
        ap TOKEN (e ∙ y.2) ∙ sym (open_scan ∙ ap (λ (n : Option Token). scan_answer (input_read p).encoding (course_read p) n) y.1),
        f ∙ ap (λ (z : Parser). after_call z SKIP) a.1 ∙ taken_after y.0 y.1,
      ))
  scan_shown x r (inr a) e f = absurd (let n = a.0 in cc)

  -- and if there is no next token, as the peek
  same_answer : next ≡ None → answered p PEEK ≡ answered p SCAN
  same_answer n = open_peek ∙ ap (λ (z : Option Token). peek_answer (input_read p).encoding (course_read p) z) n
      ∙ sym (open_scan ∙ ap (λ (z : Option Token). scan_answer (input_read p).encoding (course_read p) z) n)

  same_left : next ≡ None → after_call p PEEK ≡ after_call p SCAN
  same_left n = ap (λ (z : Session). record { input = p.input; setting = p.setting; limit = p.limit; session = z })
      (left_peek ∙ ap (λ (z : Option Token). after_peek p.limit (course_read p) p.session z) n
      ∙ sym (left_scan ∙ ap (λ (z : Option Token). after_scan p.limit (course_read p) p.session z) n))

  pub scan_faulty : (f : Fault) → Calls decoded_input PEEK p (FAULT f) q → Calls decoded_input SCAN p (FAULT f) q
  scan_faulty f (inr a) = inr (a.0, a.1, λ e. absurd (cc))
  scan_faulty f (inl a) = (let n = no_token (input_read p).encoding (course_read p) next f (a.0 ∙ open_peek) in inl (a.0 ∙ same_answer n, a.1 ∙ same_left n))

  pub scan_not_shown : (f : yaml_fault_t) → Calls decoded_input PEEK p (FAULT (fault_of f)) q → Calls decoded_input SCAN p (scan_result (Err f)) q
  scan_not_shown f a = scan_faulty (fault_of f) a

some_fault : (a b : Fault) → Some a ≡ Some b → a ≡ b
some_fault a b e = cc

-- the fault that ended the session is the answer to the peek
pub fault_shown : (p q : Parser) (f : Fault) → Shows p false q → q.session.fault ≡ Some f → Calls decoded_input PEEK p (FAULT f) q
fault_shown p q f w e = subst (λ (x : Fault). Calls decoded_input PEEK p (FAULT x) q) (some_fault w.0 f (sym w.1 ∙ e)) w.2

get_none : (xs : List Token) (n : ℕ) → length xs ≤ n → slice_get xs n ≡ None
get_none [] n l = refl
get_none (x ∷ xs) zero l = absurd (omega arith)
get_none (x ∷ xs) (suc n) l = get_none xs n (omega arith)

module _ (setting : yaml_encoding_t) (input : List ℕ) (s t : Scanner) (peeked : Bool) (fault : Option Fault) (f : yaml_fault_t) (z : IsStopped setting input s t) where
  abbrev before_fault : Session
  before_fault = record { taken = s.taken; steps = s.made; peeked = peeked; over = false; fault = fault }

  abbrev stopped : Parser
  stopped = record { input = input; setting = setting; limit = t.limit; session = record { taken = t.taken; steps = t.made; peeked = false; over = true; fault = Some (fault_of f) } }

  abbrev open_parser : Parser
  open_parser = record { input = input; setting = setting; limit = s.limit; session = before_fault }

  module _ (e : IsEnded setting input s t (fault_of f)) where
    none_next : next_token s.limit (course_in s.limit setting input) before_fault ≡ None
    none_next = get_none (tokens_of s.limit (course_in s.limit setting input)) s.taken e.none

    fault_told : FAULT (fault_of f) ≡ answered open_parser PEEK
    unfolding course_by
    fault_told = ap why (sym e.fault) ∙ sym (ap (λ (o : Option Token). peek_answer (decoded_input setting input).encoding (course_in s.limit setting input) o) none_next)

    fault_left : stopped ≡ after_call open_parser PEEK
    unfolding course_by
    fault_left =
        same_stopped input setting t.limit s.limit t.taken s.taken t.made (all_steps (course_in s.limit setting input)) (Some (fault_of f)) (course_in s.limit setting input).fault z.limit z.taken e.made (sym e.fault)
        ∙ ap (λ (x : Session). record { input = input; setting = setting; limit = s.limit; session = x }) (sym (ap (λ (x : Option Token). after_peek s.limit (course_in s.limit setting input) before_fault x) none_next))

  wants : IsShort setting input s (fault_of f) → peeked ≡ false → WantsMemory decoded_input open_parser stopped
  unfolding course_by
  wants m n = record {
    steps = t.made;
    is = same_stopped input setting t.limit s.limit t.taken s.taken t.made t.made (Some (fault_of f)) (Some memory_fault) z.limit z.taken refl (ap Some m.fault);
    least = z.least;
    most = z.most;
    unsettled = z.unsettled;
    in_utf8 = m.in_utf8;
    was_open = refl;
    was_not_peeked = n;
  }

  pub show_fault : IsShort setting input s (fault_of f) ⊎ IsEnded setting input s t (fault_of f) → peeked ≡ false → Calls decoded_input PEEK open_parser (FAULT (fault_of f)) stopped
  show_fault (inl m) n = inr (ap FAULT m.fault, wants m n, λ e. absurd (cc))
  show_fault (inr e) n = inl (fault_told e, fault_left e)

  pub show_fault_on : (q : Parser) → q ≡ open_parser → IsShort setting input s (fault_of f) ⊎ IsEnded setting input s t (fault_of f) → peeked ≡ false → Calls decoded_input PEEK q (FAULT (fault_of f)) stopped
  show_fault_on q r e n = subst (λ (x : Parser). Calls decoded_input PEEK x (FAULT (fault_of f)) stopped) (sym r) (show_fault e n)

pub open_session : (p : Parser) → p.session.over ≡ false → p ≡ record { input = p.input; setting = p.setting; limit = p.limit; session = record { taken = p.session.taken; steps = p.session.steps; peeked = p.session.peeked; over = false; fault = p.session.fault } }
open_session p o = λ k. record { input = p.input; setting = p.setting; limit = p.limit; session = record { taken = p.session.taken; steps = p.session.steps; peeked = p.session.peeked; over = o k; fault = p.session.fault } }

pub open_as : (p : Parser) (f : Option Fault) → p.session.over ≡ false → p.session.fault ≡ f → p ≡ record { input = p.input; setting = p.setting; limit = p.limit; session = record { taken = p.session.taken; steps = p.session.steps; peeked = p.session.peeked; over = false; fault = f } }
open_as p f o g = λ k. record { input = p.input; setting = p.setting; limit = p.limit; session = record { taken = p.session.taken; steps = p.session.steps; peeked = p.session.peeked; over = o k; fault = g k } }

pub shown_as : (p : Parser) (f : Option Fault) → p.session.over ≡ false → p.session.peeked ≡ true → p.session.fault ≡ f → p ≡ record { input = p.input; setting = p.setting; limit = p.limit; session = record { taken = p.session.taken; steps = p.session.steps; peeked = true; over = false; fault = f } }
shown_as p f o k g = λ i. record { input = p.input; setting = p.setting; limit = p.limit; session = record { taken = p.session.taken; steps = p.session.steps; peeked = k i; over = o i; fault = g i } }

-- what is kept is no fault of a session that did not fail
pub none_failed : (failed : Bool) (a b : Option yaml_fault_t) → failed ≡ false → fault_in failed a ≡ fault_in failed b
none_failed false a b e = refl
none_failed true a b e = absurd (false≢true (sym e))

pub shown_session : (p : Parser) → p.session.over ≡ false → p.session.peeked ≡ true → p ≡ record { input = p.input; setting = p.setting; limit = p.limit; session = record { taken = p.session.taken; steps = p.session.steps; peeked = true; over = false; fault = p.session.fault } }
shown_session p o k = λ i. record { input = p.input; setting = p.setting; limit = p.limit; session = record { taken = p.session.taken; steps = p.session.steps; peeked = k i; over = o i; fault = p.session.fault } }

-- no memory is taken for what is there
pub bare : (call : Call) (p : Parser) (a : Answer) (q : Parser) → Calls decoded_input call p a q → IsThere p → (a ≡ answered p call) × (q ≡ after_call p call)
bare call p a q (inl r) t = r
bare call p a q (inr r) (inl t) = absurd (let w = r.1 in false≢true (sym w.was_not_peeked ∙ t))
bare call p a q (inr r) (inr t) = absurd (let w = r.1 in false≢true (sym w.was_open ∙ t))

-- nor for a reader's fault instead of the first step, in UTF-8
pub not_begun : (limit : ℕ) (input : Input) → starts_near input.source.size input.refusal ≡ true → (course limit input).begun ≡ false
unfolding course
not_begun limit input e = rw e refl

pub wants_late : (p q : Parser) → WantsMemory decoded_input p q → IsRefusedAtStart (input_read p) → ⊥
unfolding course_by
wants_late p q w e = false≢true (sym (not_begun p.limit (input_read p) e.1) ∙ w.in_utf8 e.0)

pub at_start : (call : Call) (p : Parser) (a : Answer) (q : Parser) → Calls decoded_input call p a q → IsRefusedAtStart (input_read p) → (a ≡ answered p call) × (q ≡ after_call p call)
at_start call p a q (inl r) e = r
at_start call p a q (inr r) e = absurd (wants_late p q r.1 e)

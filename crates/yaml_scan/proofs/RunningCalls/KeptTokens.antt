-- The tokens of a scan, by what its calls make of its session.
use Rattle.std.proofs.Common.{◌≡◌, ℕ, Bool, true, false, List, [], ◌∷◌, ◌++◌, drop, slice_get, Option, Some, refl, ap, sym, ◌∙◌, subst, arith, inl, inr}
use Rattle.std.specs.Prelude.{◌⊎◌, MatchResult, Result, Ok, Err}
use Rattle.std.proofs.lemmas.Bool.{false≢true}
use Rattle.yaml_text.specs.Decode.{front}
use Rattle.yaml_text.specs.Fault.{Fault, memory_fault}
use Rattle.yaml_text.specs.Text.{Text}
use Rattle.yaml_text.specs.Token.{token_of}
use Rattle.yaml_text.specs.declared.token.yaml_token_t.{yaml_token_t as code_token_t}
use Rattle.yaml_text.specs.declared.types.yaml_encoding_t.{yaml_encoding_t}
use Rattle.yaml_scan.specs.declared.stop.stop_t.{stop_t}
use Rattle.yaml_scan.specs.declared.session.session_t.{session_t}
use Rattle.yaml_scan.specs.declared.state.state_t.{state_t}
use Rattle.yaml_scan.specs.Course.{Course}
use Rattle.yaml_scan.specs.Decoded.{decoded_input}
use Rattle.yaml_scan.specs.Groups.{offline}
use Rattle.yaml_scan.specs.Headline.{Calls}
use Rattle.yaml_scan.specs.KeptCalls.{HasNoMoreRoom, token_peeked}
use Rattle.yaml_scan.specs.Parser.{Parser, course_by}
use Rattle.yaml_scan.specs.ParserCalls.{after_call, token_or_empty, token_shown}
use Rattle.yaml_scan.specs.Scanned.{GoesOnBy, Scanned}
use Rattle.yaml_scan.specs.Session.Call.{PEEK, SCAN, SKIP}
use Rattle.yaml_scan.specs.Session.Answer.{PEEKED, TOKEN}
use Rattle.yaml_scan.specs.Settled.{pace, tokens_of}
use Rattle.yaml_scan.specs.Sink.{said_len}
use Rattle.yaml_scan.specs.Token.{yaml_token_t, type_of}
use Rattle.yaml_scan.specs.TokenTypes.{is_last_type}
use Rattle.yaml_scan.specs.inside.KeptParts.{GoesOnTo, HasBegun, HasSettled, SendsNext, ShowsTo, StopsAfter, StopsNow, Takes, on_to, shown_in}
use Rattle.yaml_scan.specs.inside.Queue.{IsLead}
use Rattle.yaml_scan.specs.inside.Ready.{IsEnded, IsIn, IsSettled, IsShort, IsShown, IsStopped, Pops, Scan, Sound, course_in, fault_in, parser_of, scanner_in, with_session}
use Rattle.yaml_scan.specs.inside.Scanner.{Scanner, scanner_of}
use Rattle.yaml_scan.specs.inside.Scanning.{Fails, Settles, Stops, history}
use Rattle.yaml_scan.specs.inside.Sent.{HasSent, HasSentOrSettled}
use Rattle.yaml_scan.specs.inside.Stop.{fault_at}
use Rattle.yaml_scan.proofs.RunningCalls.CallAnswers.{head_shown, last_is, none_failed, token_next, token_told, open_as, open_u, scan_shown, show_token, shown_as, shown_session, shown_settled, stands_u, take_left_of, take_told_of, token_some}
use Rattle.yaml_scan.proofs.RunningCalls.ParserInvariant.{Keeps}
use Rattle.yaml_scan.proofs.RunningCalls.KeptGoesOn.{first_more, first_unless, first_when, is_shown, left_by_peek, on_more, on_none, peeks_on}
use Rattle.yaml_scan.proofs.RunningCalls.ParserInvariant.{keeps_sent, keeps_settled, keeps_taken, reach_in, stands_ready}
use Rattle.yaml_scan.proofs.RunningCalls.ScansToTheEnd.{scans_on}
use Rattle.yaml_scan.proofs.RunningCalls.HandedOn.{hands_more, hands_none, hands_one}
use Rattle.yaml_scan.proofs.RunningCalls.SeveralScans.{more_is, several_scans}
use Rattle.yaml_scan.proofs.RunningCalls.ToNextToken.{begun_is, course_is, ended_in, settled_in, started_before, stopped_in}
use Rattle.yaml_scan.proofs.RunningQueue.QueueGroups.{IsFirst}
use Rattle.yaml_scan.proofs.RunningQueue.StepsWaiting.{done_is}

-- the token that is shown does not depend on the steps
shown_alike : (setting : yaml_encoding_t) (input : List ℕ) (l l' n n' m m' : ℕ) (o o' : Bool) (f f' : Option Fault) → l ≡ l' → n ≡ n'
    → let p : Parser = record { input = input; setting = setting; limit = l; session = record { taken = n; steps = m; peeked = true; over = o; fault = f } } in
    let q : Parser = record { input = input; setting = setting; limit = l'; session = record { taken = n'; steps = m'; peeked = true; over = o'; fault = f' } } in token_shown p ≡ token_shown q
unfolding course_by
shown_alike setting input l l' n n' m m' o o' f f' a b = λ k. token_or_empty (decoded_input setting input).encoding (slice_get (tokens_of (a k) (course_in (a k) setting input)) (b k))

-- GOING ON
pub begun_again : (i : Scan) (T : Text) (s : session_t) (tokens : List yaml_token_t) → T ≡ front i.setting i.input → GoesOnTo i (with_session i s) tokens → s.over ≡ false → HasBegun (with_session i s) T s
begun_again i T s tokens e g o = let j = with_session i s in let v = g.sound in subst (λ (z : Text). HasBegun j z s) (sym e) (record {
  sound = v;
  still_open = o;
  started = started_before j.setting j.input (scanner_in j) (v.ready o) g.begun;
  shown = λ p. (v.peeked p).1;
  rest = refl;
})

pub goes_more : (i j k : Scan) (xs ys : List yaml_token_t) → GoesOnTo i j xs → j.session.over ≡ false → GoesOnTo j k ys → GoesOnTo i k (xs ++ ys)
goes_more i j k xs ys a o b = record {
  sound = b.sound;
  hands = hands_more i j k xs ys a.hands b.hands;
  begun = b.begun;
  on = on_more (parser_of i) (parser_of j) (parser_of k) xs ys k.session.over (subst (λ (z : Bool). GoesOnBy (parser_of i) xs (parser_of j) z) o a.on) b.on;
  first = first_more (token_peeked (parser_of i)) xs ys (parser_of j) (parser_of k) a.first b.first;
}

-- no token was given before it stopped
pub stops_after : (i : Scan) (s : session_t) (f : Fault) → StopsNow i s f → StopsAfter i s [] f
stops_after i s f n = record { last = i.session; hands = hands_none i i refl refl refl refl n.still_open; stops = n; on = on_none (parser_of i); first = first_unless (parser_of i) (parser_of i) [] n.not_peeked }

-- some were
pub stops_later : (i : Scan) (m s : session_t) (xs ys : List yaml_token_t) (f : Fault) → GoesOnTo i (with_session i m) xs → m.over ≡ false → StopsAfter (with_session i m) s ys f → StopsAfter i s (xs ++ ys) f
stops_later i m s xs ys f a o b = let j = with_session i m in record {
  last = b.last;
  hands = hands_more i j (with_session i b.last) xs ys a.hands b.hands;
  stops = b.stops;
  on = on_more (parser_of i) (parser_of j) (parser_of (with_session i b.last)) xs ys false (subst (λ (z : Bool). GoesOnBy (parser_of i) xs (parser_of j) z) o a.on) b.on;
  first = first_more (token_peeked (parser_of i)) xs ys (parser_of j) (parser_of (with_session i b.last)) a.first b.first;
}

-- its next token is at the head of the queue, if it was shown before
pub settled_before : (i : Scan) (T : Text) (s : session_t) → HasBegun i T s → i.session.peeked ≡ true → HasSettled i T s
settled_before i T s k e =
    let t = scanner_of T s.state in
    let h = k.shown e in
    let n = shown_settled i.setting i.input t h in
    record {
      sound = k.sound;
      still_open = k.still_open;
      settled = settled_in i.setting i.input (scanner_in i) t t k.started (record {
        runs = h.stands.runs;
        settled = h.settled;
        made = subst (λ (c : Course). t.made ≡ pace t.limit c.read t.taken t.made) (sym (course_is i.setting i.input t h.stands.reads)) n.made;
        same = record { text = refl; refusal = refl; near = refl; limit = refl; taken = refl; done = refl };
      });
      rest = k.rest;
    }

-- it is there after some steps, or there is a fault
pub settles_next : (i : Scan) (s : session_t) (state : state_t) → (let T = front i.setting i.input in HasBegun i T s → i.session.peeked ≡ false → (result : Result (Unit {0}) stop_t)
    → MatchResult result (λ _. Settles (scanner_of T s.state) (scanner_of T state)) (λ stop. ((fault_at stop state.fault ≡ memory_fault) ⊎ Fails (scanner_of T s.state) (scanner_of T state) (fault_at stop state.fault)) × Stops (scanner_of T s.state) (scanner_of T state))
    → MatchResult result (λ _. HasSettled i T (on_to s state)) (λ stop. StopsNow i (on_to s state) (fault_at stop state.fault)))
settles_next i s state b n (Ok x) w = record {
  sound = b.sound;
  still_open = b.still_open;
  settled = settled_in i.setting i.input (scanner_in i) (scanner_of (front i.setting i.input) s.state) (scanner_of (front i.setting i.input) state) b.started w;
  rest = ap (λ (z : session_t). on_to z state) b.rest;
}
settles_next i s state b n (Err stop) w =
    let a = scanner_of (front i.setting i.input) s.state in
    let t = scanner_of (front i.setting i.input) state in
    record {
      sound = b.sound;
      still_open = b.still_open;
      not_peeked = n;
      why = elim w.0 [
        | inl m ↦ inl (record { fault = m; in_utf8 = λ e. begun_is i.setting i.input (scanner_in i) a t b.started })
        | inr f ↦ inr (ended_in i.setting i.input (scanner_in i) a t b.started (fault_at stop state.fault) f)
      ];
      stopped = stopped_in i.setting i.input (scanner_in i) a t b.started w.1;
      rest = ap (λ (z : session_t). on_to z state) b.rest;
    }

-- why no more go to a sink that has no room for a token
pub no_more : (lacks : ℕ → ℕ → Type 0) (q : Parser) → (q.session.over ≡ true) ⊎ lacks 1 0 → HasNoMoreRoom lacks q
no_more lacks q (inl o) = inl o
no_more lacks q (inr l) = inr (inl l)

-- THE NEXT TOKEN IS AT THE HEAD OF THE QUEUE
module _ (i : Scan) (state : state_t) (k : HasSettled i (front i.setting i.input) (on_to i.session state)) where
  abbrev s : Scanner
  s = scanner_in i

  abbrev t : Scanner
  t = scanner_of (front i.setting i.input) state

  abbrev P : Parser
  P = parser_of i

  abbrev fault : Option Fault
  fault = fault_in i.session.failed state.fault

  v : Sound i
  v = k.sound

  n : IsSettled i.setting i.input s t
  n = k.settled

  there : IsShown i.setting i.input t
  there = record { stands = n.stands; still_open = n.still_open; settled = n.settled }

  waits : Keeps state.limit (course_in state.limit i.setting i.input).read state.made state.taken i.session.state.layout.queue.done
  waits = keeps_settled i.setting i.input s t n (stands_ready i.setting i.input s (v.ready k.still_open)) i.session.state.layout.queue.done (record { queued = v.queued; few = v.few })

  -- the first token that the queue hands out is the one that is shown
  pub first_shown : (x : yaml_token_t) → IsFirst (front i.setting i.input).encoding (drop state.taken (offline (history t))) x → x ≡ token_shown (shown_in i state)
  first_shown x f = head_shown i.setting i.input t there x f true false fault refl (shown_in i state) refl

  -- a token that was shown before is the same
  shown_before : i.session.peeked ≡ true → token_shown (shown_in i state) ≡ token_shown P
  shown_before e =
      shown_alike i.setting i.input state.limit i.session.state.limit state.taken i.session.state.taken state.made i.session.state.made false false fault P.session.fault n.limit n.taken
      ∙ sym (ap (λ (p : Parser). token_shown p) (shown_session P k.still_open e))

  -- IT IS SHOWN
  module _ (lead : code_token_t) (l : IsLead (front i.setting i.input).encoding state.layout.queue (token_of lead)) where
    abbrev pub showing : session_t
    showing = record { state = state; lead = lead; peeked = true; over = i.session.over; failed = i.session.failed }

    abbrev Q : Parser
    Q = parser_of (with_session i showing)

    call_shown : Calls decoded_input PEEK P (PEEKED (token_shown Q)) Q
    call_shown = show_token i.setting i.input s t n i.session.peeked fault P (open_as P fault k.still_open (none_failed i.session.failed i.session.state.fault state.fault (v.failed k.still_open))) i.session.over k.still_open

    shows : ShowsTo i (with_session i showing)
    shows = record {
      stands = record {
        sound = record {
          ready = λ e. inr (n.stands, n.still_open);
          peeked = λ e. (k.still_open, there);
          failed = v.failed;
          lead = λ e. l;
          reach = reach_in i.setting i.input t n.stands;
          limit = (let a = v.limit in let b = n.limit in omega arith);
          queued = (let a = waits.queued in let b = n.done in omega arith);
          few = waits.few;
        };
        hands = hands_none i (with_session i showing) refl refl n.limit n.taken k.still_open;
        begun = n.stands.runs.begun;
        on = λ given h. subst (λ (b : Bool). Scanned P.limit P.setting P.input Q (given ++ []) b) (sym k.still_open)
            (peeks_on P.limit P.setting P.input P Q given h (left_by_peek P Q (token_shown Q) call_shown) k.still_open n.taken (token_some i.setting i.input s t n).0 (token_some i.setting i.input s t n).1 n.made);
        first = first_when P Q [] (λ e. ap Some (shown_alike i.setting i.input state.limit state.limit state.taken state.taken state.made state.made i.session.over false fault fault refl refl ∙ shown_before e));
      };
      peeked = refl;
      still_open = k.still_open;
      call = call_shown;
    }

    pub shows_it : ShowsTo i (with_session i showing) × (parser_of (with_session i showing) ≡ shown_in i state)
    shows_it = (shows, λ m. record { input = i.input; setting = i.setting; limit = state.limit; session = record { taken = state.taken; steps = state.made; peeked = true; over = k.still_open m; fault = fault } })

  -- IT IS TAKEN
  module _ (state' : state_t) (x : yaml_token_t) (p : Pops t (scanner_of (front i.setting i.input) state') x) where
    abbrev u : Scanner
    u = scanner_of (front i.setting i.input) state'

    abbrev over : Bool
    over = is_last_type (type_of x.token_data)

    abbrev pub taking : session_t
    taking = record { state = state'; lead = i.session.lead; peeked = false; over = over; failed = i.session.failed }

    abbrev R : Parser
    R = parser_of (with_session i taking)

    settled_t : IsSettled i.setting i.input t t
    settled_t = shown_settled i.setting i.input t there

    pub taken_shown : x ≡ token_shown (shown_in i state)
    taken_shown = take_told_of i.setting i.input t t u x settled_t p refl fault (shown_in i state) refl

    b : IsIn i.setting i.input u
    b = stands_u i.setting i.input t t u x settled_t p

    waits_then : Keeps u.limit (course_in u.limit i.setting i.input).read u.made u.taken u.layout.queue.done
    waits_then = keeps_taken i.setting i.input t u x p b u.layout.queue.done i.session.state.layout.queue.done waits (done_is u p.runs)

    left : Option Fault
    left = fault_in i.session.failed state'.fault

    same_fault : fault_in i.session.failed i.session.state.fault ≡ fault_in i.session.failed state'.fault
    same_fault = none_failed i.session.failed i.session.state.fault state'.fault (v.failed k.still_open)

    call : Calls decoded_input SCAN P (TOKEN x) R
    call =
        let f = fault_in i.session.failed state'.fault in
        let q : Parser = record { input = i.input; setting = i.setting; limit = state.limit; session = record { taken = state.taken; steps = state.made; peeked = true; over = false; fault = f } } in
        scan_shown P q k.still_open x R (show_token i.setting i.input s t n i.session.peeked f P (open_as P f k.still_open same_fault) false refl)
        (take_told_of i.setting i.input t t u x settled_t p refl f q refl) (take_left_of i.setting i.input t t u x settled_t p refl f q refl over refl)

    pub gives_one : GoesOnTo i (with_session i taking) (x ∷ [])
    gives_one = record {
      sound = record {
        ready = λ e. inr (b, open_u i.setting i.input t t u x settled_t p (sym (last_is i.setting i.input t t u x settled_t p) ∙ e));
        peeked = λ e. absurd (false≢true e);
        failed = λ e. v.failed k.still_open;
        lead = λ e. absurd (false≢true e);
        reach = reach_in i.setting i.input u b;
        limit = (let a = v.limit in let b = p.limit in let d = n.limit in omega arith);
        queued = waits_then.queued;
        few = waits_then.few;
      };
      hands = hands_one i (with_session i taking) x p.token refl refl (p.limit ∙ n.limit) (let a = p.taken in let d = n.taken in omega arith) (token_next i.setting i.input s t u x n p) (token_told i.setting i.input s t u x n p) (λ e. sym (last_is i.setting i.input s t u x n p) ∙ e);
      begun = b.runs.begun;
      on = λ given h. (scans_on P.limit P.setting P.input P given h x R over refl call).0;
      first = first_when P R (x ∷ []) (λ e. taken_shown ∙ shown_before e);
    }

    skips : i.session.peeked ≡ true → R ≡ after_call P SKIP
    skips e =
        let f = fault_in i.session.failed state'.fault in
        let g = shown_settled i.setting i.input s (v.peeked e).1 in
        take_left_of i.setting i.input s t u x n p (n.made ∙ sym g.made) f P (shown_as P f k.still_open e same_fault) over refl

    pub takes : Takes i x (with_session i taking)
    takes = record { stands = gives_one; call = call; skips = skips }

-- THE SAME, WHATEVER THE SESSION WAS
-- its text is the front of the input
at_front : (i : Scan) (T : Text) (s : session_t) → HasSettled i T s → T ≡ front i.setting i.input
at_front i T s k = k.settled.stands.text

pub is_front : (i : Scan) (T : Text) (s : session_t) → HasSettled i T s → HasSettled i (front i.setting i.input) (on_to i.session s.state)
is_front i T s k = subst (λ (z : Text). HasSettled i z (on_to i.session s.state)) (at_front i T s k) (subst (λ (z : session_t). HasSettled i T z) k.rest k)

pub shows_as : (i : Scan) (T : Text) (s : session_t) (lead : code_token_t) → HasSettled i T s → ((e : yaml_encoding_t) → IsLead e s.state.layout.queue (token_of lead))
    → let j = with_session i (record { state = s.state; lead = lead; peeked = true; over = s.over; failed = s.failed }) in ShowsTo i j × (parser_of j ≡ shown_in i s.state)
shows_as i T s lead k l =
    let F : session_t → Scan = λ z. with_session i (record { state = s.state; lead = lead; peeked = true; over = z.over; failed = z.failed }) in
    subst (λ (z : session_t). ShowsTo i (F z) × (parser_of (F z) ≡ shown_in i s.state)) (sym k.rest) (shows_it i s.state (is_front i T s k) lead (l (front i.setting i.input).encoding))

pub takes_as : (i : Scan) (T : Text) (s : session_t) (state : state_t) (x : yaml_token_t) (last : Bool) → HasSettled i T s → Pops (scanner_of T s.state) (scanner_of T state) x → last ≡ is_last_type (type_of x.token_data)
    → Takes i x (with_session i (record { state = state; lead = s.lead; peeked = false; over = last; failed = s.failed }))
takes_as i T s state x last k p e =
    let F : session_t → Bool → Scan = λ z b. with_session i (record { state = state; lead = z.lead; peeked = false; over = b; failed = z.failed }) in
    subst (λ (b : Bool). Takes i x (F s b)) (sym e) (subst (λ (z : session_t). Takes i x (F z (is_last_type (type_of x.token_data)))) (sym k.rest)
    (takes i s.state (is_front i T s k) state x (subst (λ (z : Text). Pops (scanner_of z s.state) (scanner_of z state) x) (at_front i T s k) p)))

pub first_as_shown : (i : Scan) (T : Text) (s : session_t) (x : yaml_token_t) → HasSettled i T s → IsFirst T.encoding (drop s.state.taken (offline (history (scanner_of T s.state)))) x → x ≡ token_shown (shown_in i s.state)
first_as_shown i T s x k f = first_shown i s.state (is_front i T s k) x (subst (λ (z : Text). IsFirst z.encoding (drop s.state.taken (offline (history (scanner_of z s.state)))) x) (at_front i T s k) f)

pub told_as_shown : (i : Scan) (T : Text) (s : session_t) (state : state_t) (x : yaml_token_t) → HasSettled i T s → Pops (scanner_of T s.state) (scanner_of T state) x → x ≡ token_shown (shown_in i s.state)
told_as_shown i T s state x k p = taken_shown i s.state (is_front i T s k) state x (subst (λ (z : Text). Pops (scanner_of z s.state) (scanner_of z state) x) (at_front i T s k) p)

-- THE TOKENS OF A STEP, OR OF GROUPS, WENT TO THE SINK
pub gives_sent : (i : Scan) (state : state_t) (tokens : List yaml_token_t) → Sound i → i.session.over ≡ false → i.session.peeked ≡ false → HasSent i.setting i.input (scanner_in i) (scanner_of (front i.setting i.input) state) tokens
    → GoesOnTo i (with_session i (on_to i.session state)) tokens
gives_sent i state tokens v o peeked k =
    let t = scanner_of (front i.setting i.input) state in
    let s = scanner_in i in
    let n = keeps_sent i.setting i.input s t tokens k i.session.state.layout.queue.done (record { queued = v.queued; few = v.few }) (done_is t k.stands.runs) in
    let fault = fault_in i.session.failed i.session.state.fault in
    let left = fault_in i.session.failed state.fault in
    let q : Parser = record { input = i.input; setting = i.setting; limit = i.session.state.limit; session = record { taken = t.taken; steps = t.made; peeked = false; over = false; fault = fault } } in
    let r : Parser = record { input = i.input; setting = i.setting; limit = t.limit; session = record { taken = t.taken; steps = t.made; peeked = i.session.peeked; over = i.session.over; fault = left } } in
    let same : q ≡ r = λ j. record { input = i.input; setting = i.setting; limit = (sym k.limit) j; session = record { taken = t.taken; steps = t.made; peeked = (sym peeked) j; over = (sym o) j; fault = (none_failed i.session.failed i.session.state.fault state.fault (v.failed o)) j } } in
    record {
      sound = record {
        ready = λ n. inr (k.stands, k.still_open);
        failed = v.failed;
        peeked = λ n. absurd (false≢true (sym peeked ∙ n));
        lead = λ n. absurd (false≢true (sym peeked ∙ n));
        reach = reach_in i.setting i.input t k.stands;
        limit = (let a = v.limit in let d = k.limit in omega arith);
        queued = n.queued;
        few = n.few;
      };
      hands = record {
        setting = refl;
        input = refl;
        limit = k.limit;
        taken = k.taken;
        next = sym (more_is i.session.state.limit i.setting i.input s t tokens k refl);
        all = λ e. absurd (false≢true (sym o ∙ e));
      };
      begun = k.stands.runs.begun;
      on = subst (λ (b : Bool). GoesOnBy (parser_of i) tokens r b) (sym o) (subst (λ (z : Parser). GoesOnBy (parser_of i) tokens z false) same
          (λ given h. several_scans i.session.state.limit i.setting i.input s t tokens k refl (parser_of i) given h refl refl));
      first = first_unless (parser_of i) r tokens peeked;
    }

-- what a turn makes of a session that was begun and not shown
pub sends_next : (i : Scan) (T : Text) (s : session_t) (state : state_t) (took : List yaml_token_t → Type 0) (refuses : Type 0) (result : Result Bool stop_t) → HasBegun i T s → i.session.peeked ≡ false → (refuses → ⊥)
    → HasSentOrSettled i.setting i.input (scanner_in i) (scanner_of T state) took refuses result → SendsNext i T (on_to s state) took result
sends_next i T s state took refuses (Ok true) b n never w = (record { sound = b.sound; still_open = b.still_open; settled = w.0; rest = ap (λ (z : session_t). on_to z state) b.rest }, w.1)
sends_next i T s state took refuses (Ok false) b n never w =
    let e : T ≡ front i.setting i.input = b.started.stands.text in
    let h = subst (λ (z : Text). HasSent i.setting i.input (scanner_in i) (scanner_of z state) w.0) e w.1 in (
      w.0,
      w.2,
      w.1,
      subst (λ (z : session_t). GoesOnTo i (with_session i (on_to z state)) w.0) (sym b.rest) (gives_sent i state w.0 b.sound b.still_open n h),
      ap (λ (z : session_t). z.over) b.rest ∙ b.still_open,
    )
sends_next i T s state took refuses (Err stop) b n never (inr r) = absurd (never r)
sends_next i T s state took refuses (Err stop) b n never (inl w) =
    let e : T ≡ front i.setting i.input = b.started.stands.text in (
      record { sound = b.sound; still_open = b.still_open; not_peeked = n; why = why_at e w.0; stopped = subst (λ (z : Text). IsStopped i.setting i.input (scanner_in i) (scanner_of z state)) e w.1; rest = ap (λ (z : session_t). on_to z state) b.rest },
      w.2,
    )
  where
    why_at : T ≡ front i.setting i.input
        → IsShort i.setting i.input (scanner_in i) (fault_at stop state.fault) ⊎ IsEnded i.setting i.input (scanner_in i) (scanner_of T state) (fault_at stop state.fault)
        → IsShort i.setting i.input (scanner_in i) (fault_at stop state.fault) ⊎ IsEnded i.setting i.input (scanner_in i) (scanner_of (front i.setting i.input) state) (fault_at stop state.fault)
    why_at e (inl m) = inl m
    why_at e (inr d) = inr (record { none = d.none; fault = d.fault; made = d.made })

-- the next token finds no room
pub shown_turn : (i j : Scan) (state : state_t) (lacks : ℕ → ℕ → Type 0) (n : ℕ) → ShowsTo i j → parser_of j ≡ shown_in i state → n ≡ said_len (token_shown (shown_in i state)).token_data → lacks 1 n → HasNoMoreRoom lacks (parser_of j)
shown_turn i j state lacks n z e l w =
    inr (inr (token_shown (parser_of j), is_shown (parser_of j) z.peeked, subst (λ (k : ℕ). lacks 1 k) (l ∙ ap (λ (q : Parser). said_len (token_shown q).token_data) (sym e)) w))

-- The calls of a scanner over an input: how they begin, and what they leave.
use Rattle.std.proofs.Common.{◌≡◌, ℕ, ◌≤◌, ◌<◌, Bool, true, false, List, [], ◌∷◌, ◌++◌, length, drop, get_or, Option, Some, None, Err, refl, ap, sym, ◌∙◌, subst, arith}
use Rattle.std.specs.Prelude.{◌⊎◌, MatchResult, Result, Ok}
use Rattle.std.specs.Option.{IfSome}
use Rattle.yaml_scan.specs.Settled.{before}
use Rattle.std.proofs.lemmas.Bool.{false≢true}
use Rattle.yaml_text.specs.Fault.{Fault, fault_of, memory_fault}
use Rattle.yaml_text.specs.Decode.{front}
use Rattle.yaml_text.specs.Kept.{IsKeptOf}
use Rattle.yaml_text.specs.Text.{Text}
use Rattle.yaml_text.specs.Token.{token_of}
use Rattle.yaml_text.specs.declared.fault.yaml_fault_t.{yaml_fault_t}
use Rattle.yaml_text.specs.declared.types.yaml_encoding_t.{yaml_encoding_t}
use Rattle.yaml_scan.specs.declared.stop.stop_t.{stop_t}
use Rattle.yaml_scan.specs.declared.groups.group_t.{group_t}
use Rattle.yaml_scan.specs.declared.scanner.scanner_t.{scanner_t}
use Rattle.yaml_scan.specs.declared.session.session_t.{session_t}
use Rattle.yaml_scan.specs.declared.state.state_t.{state_t}
use Rattle.yaml_scan.specs.Decoded.{decoded_input}
use Rattle.yaml_scan.specs.Headline.{Calls}
use Rattle.yaml_scan.specs.KeptCalls.{ComesFirst, GivesMore, GivesToFault, HasNoMoreRoom, token_peeked}
use Rattle.yaml_scan.specs.Parser.{Parser}
use Rattle.yaml_scan.specs.ParserCalls.{scan_result, token_shown}
use Rattle.yaml_scan.specs.Scanned.{GoesOnBy, Scanned}
use Rattle.yaml_scan.specs.Session.Call.{PEEK, SCAN}
use Rattle.yaml_scan.specs.Session.Answer.{FAULT, PEEKED}
use Rattle.yaml_scan.specs.Token.{yaml_token_t}
use Rattle.yaml_scan.specs.Groups.{offline}
use Rattle.yaml_scan.specs.inside.Queue.{pending}
use Rattle.yaml_scan.specs.inside.Scanning.{Fails, IsRunning, Stops, history}
use Rattle.yaml_scan.specs.inside.Scanning as Scanning
use Rattle.yaml_scan.specs.inside.Kept.{IsKept, IsPartOf, IsScannerOf, scan_of}
use Rattle.yaml_scan.specs.inside.KeptEnds.{KeepsText}
use Rattle.yaml_scan.specs.inside.KeptEnds as KeptEnds
use Rattle.yaml_scan.specs.inside.KeptParts.{EndsNow, GivesAllOn, GoesOnTo, HasBegun, HasSettled, SendsNext, ShowsTo, StopsNow, on_to}
use Rattle.yaml_scan.specs.inside.Ready.{Begins, IsEnded, IsNew, IsShort, IsStopped, Scan, Sound, ended_by, fault_in, parser_of, scanner_in, with_session}
use Rattle.yaml_scan.specs.inside.Scanner.{Scanner, scanner_of}
use Rattle.yaml_scan.specs.inside.Shown.{Shows}
use Rattle.yaml_scan.specs.inside.Stop.{fault_at}
use Rattle.yaml_scan.proofs.RunningCalls.CallAnswers.{head_shown, open_session, scan_faulty, scan_not_shown, show_fault_on, show_over, shown_settled}
use Rattle.yaml_scan.proofs.RunningCalls.KeptGoesOn.{first_when, is_shown, on_none}
use Rattle.yaml_scan.proofs.RunningCalls.KeptTokens.{settles_next}
use Rattle.yaml_scan.proofs.RunningCalls.ParserInvariant.{keeps_stopped, reach_stopped, stands_ready}
use Rattle.yaml_scan.proofs.RunningCalls.ScansToTheEnd.{scans_fault}
use Rattle.yaml_scan.proofs.RunningCalls.TakingHead.{groups_some}
use Rattle.yaml_scan.proofs.RunningCalls.ToNextToken.{ready_new, started_before, started_new}
use Rattle.yaml_scan.proofs.RunningQueue.QueueGroups.{IsFirst, lead_first, token_first}

-- OVER THIS INPUT
-- what was kept of a parser of an input is a scanner of that
pub over_this : (p : Parser) (input : List ℕ) (k : scanner_t) → p.input ≡ input → IsKept p k → IsScannerOf input k × (parser_of (scan_of input k) ≡ p)
over_this p input k e w = subst (λ (z : List ℕ). IsScannerOf z k × (parser_of (scan_of z k) ≡ p)) e (w.is, w.seen_as)

pub is_kept : (input : List ℕ) (k : scanner_t) → IsScannerOf input k → IsKept (parser_of (scan_of input k)) k
is_kept input k w = record { is = w; seen_as = refl }

pub over_is : (p : Parser) (k : scanner_t) → IsKept p k → k.session.over ≡ p.session.over
over_is p k w = ap (λ (z : Parser). z.session.over) w.seen_as

unless : (b : Bool) → (b ≡ true → ⊥) → b ≡ false
unless true f = absurd (f refl)
unless false f = refl

-- THE FIRST STEP
module _ (i : Scan) (v : Sound i) (o : i.session.over ≡ false) where
  -- it was not made
  module _ (m : i.session.state.made ≡ 0) where
    not_peeked : (b : Bool) → i.session.peeked ≡ b → b ≡ false
    not_peeked false e = refl
    not_peeked true e = absurd (let k = (v.peeked e).1 in let b = k.stands.runs.begun in omega arith)

    pub is_new : (T : Text) → IsNew (scanner_of T i.session.state)
    is_new T = ready_new i.setting i.input (scanner_in i) (v.ready o) (omega arith)

    pub begins_now : (state : state_t) → Begins i.setting i.input (scanner_in i) (scanner_of (front i.setting i.input) state) → HasBegun i (front i.setting i.input) (on_to i.session state)
    begins_now state b = record {
      sound = v;
      still_open = o;
      started = started_new i.setting i.input (scanner_in i) (scanner_of (front i.setting i.input) state) b m;
      shown = λ p. absurd (false≢true (sym (not_peeked i.session.peeked refl) ∙ p));
      rest = refl;
    }

    pub stops_first : (state : state_t) (f : Fault) → IsShort i.setting i.input (scanner_in i) f ⊎ IsEnded i.setting i.input (scanner_in i) (scanner_of (front i.setting i.input) state) f
        → IsStopped i.setting i.input (scanner_in i) (scanner_of (front i.setting i.input) state) → StopsNow i (on_to i.session state) f
    stops_first state f w z = record { sound = v; still_open = o; not_peeked = not_peeked i.session.peeked refl; why = w; stopped = z; rest = refl }

  -- it was
  pub begun_before : 0 < i.session.state.made → HasBegun i (front i.setting i.input) i.session
  begun_before m = record {
    sound = v;
    still_open = o;
    started = started_before i.setting i.input (scanner_in i) (v.ready o) m;
    shown = λ p. (v.peeked p).1;
    rest = refl;
  }

-- WHAT IS SHOWN
module _ (i : Scan) (v : Sound i) (e : i.session.peeked ≡ true) where
  abbrev s : Scanner
  s = scanner_in i

  pub shown_some : 0 < length s.layout.queue.groups.items
  shown_some = let k = (v.peeked e).1 in groups_some s k.stands.runs k.settled

  first_is : (x : yaml_token_t) → IsFirst s.text.encoding (drop s.taken (offline (history s))) x → x ≡ token_shown (parser_of i)
  first_is x f = head_shown i.setting i.input s (v.peeked e).1 x f i.session.peeked i.session.over (fault_in i.session.failed i.session.state.fault) e (parser_of i) refl

  pub lead_shown : 0 < length (pending s.layout.queue.early s.layout.queue.early_mark s.layout.queue.groups.items) → token_of i.session.lead ≡ token_shown (parser_of i)
  lead_shown l = let k = (v.peeked e).1 in first_is (token_of i.session.lead) (lead_first s.text.encoding s.layout.queue (drop s.taken (offline (history s))) (token_of i.session.lead) k.stands.runs.holds.queue.tokens (v.lead e) l)

  pub group_shown : (y : group_t) → y ≡ get_or s.layout.queue.groups.items 0 y → length (pending s.layout.queue.early s.layout.queue.early_mark s.layout.queue.groups.items) ≤ 0 → token_of y.token ≡ token_shown (parser_of i)
  group_shown y d l = let k = (v.peeked e).1 in first_is (token_of y.token) (token_first s.text.encoding s.layout.queue (drop s.taken (offline (history s))) y k.stands.runs.holds.queue.tokens shown_some d l)

-- NO TOKEN WENT TO THE SINK
pub gives_none : (p : Parser) (took : List yaml_token_t → Type 0) → took [] → GivesMore p p took
gives_none p took w = record {
  input = refl;
  tokens = [];
  given = w;
  on = λ given h. subst (λ (o : Bool). Scanned p.limit p.setting p.input p (given ++ []) o) (sym h.over) (on_none p given h);
  first = first_when p p [] (λ e. is_shown p e);
  at_end = λ n. (refl, refl);
}

-- SOME WENT THERE
pub gives_more : (i j : Scan) (tokens : List yaml_token_t) (took : List yaml_token_t → Type 0) → j.input ≡ i.input → i.session.over ≡ false → GoesOnTo i j tokens → took tokens → GivesMore (parser_of i) (parser_of j) took
gives_more i j tokens took same o g w = record { input = same; tokens = tokens; given = w; on = g.on; first = g.first; at_end = λ n. absurd (false≢true (sym o ∙ n)) }

-- THE SESSION ENDS WITH A FAULT
first_at_end : (o : Option yaml_token_t) (tokens : List yaml_token_t) (m q : Parser) → m.session.peeked ≡ false → ComesFirst o tokens m → ComesFirst o tokens q
first_at_end None tokens m q n a = tt
first_at_end (Some t) [] m q n a = absurd (let e : None ≡ Some t = (rw n at a) in cc)
first_at_end (Some t) (x ∷ xs) m q n a = a

module _ (i : Scan) (s : session_t) (w : yaml_fault_t) (f : Fault) (d : fault_of w ≡ f) (k : StopsNow i s f) where
  abbrev pub ended : Scan
  ended = with_session i (ended_by s w)

  abbrev t : Scanner
  t = scanner_in (with_session i s)

  v : Sound i
  v = k.sound

  n : IsStopped i.setting i.input (scanner_in i) t
  n = k.stopped

  pub ended_sound : Sound ended
  ended_sound =
      let z = keeps_stopped i.setting i.input (scanner_in i) t n (stands_ready i.setting i.input (scanner_in i) (v.ready k.still_open)) i.session.state.layout.queue.done (record { queued = v.queued; few = v.few }) in
      record {
        ready = λ e. absurd (false≢true (sym e));
        peeked = λ e. absurd (false≢true e);
        failed = λ e. absurd (false≢true (sym e));
        lead = λ e. absurd (false≢true e);
        reach = reach_stopped i.setting i.input (scanner_in i) t n;
        limit = (let a = v.limit in let b = n.limit in omega arith);
        queued = (let a = z.queued in let b = n.done in omega arith);
        few = z.few;
      }

  pub peek_ends : Calls decoded_input PEEK (parser_of i) (FAULT (fault_of w)) (parser_of ended)
  peek_ends =
      show_fault_on i.setting i.input (scanner_in i) t i.session.peeked (fault_in i.session.failed i.session.state.fault) w n (parser_of i) (open_session (parser_of i) k.still_open)
      (subst (λ (x : Fault). IsShort i.setting i.input (scanner_in i) x ⊎ IsEnded i.setting i.input (scanner_in i) t x) (sym d) k.why) k.not_peeked

  pub scan_ends : Calls decoded_input SCAN (parser_of i) (scan_result (Err w)) (parser_of ended)
  scan_ends = scan_not_shown (parser_of i) (parser_of ended) k.still_open w peek_ends

  pub ends_now : EndsNow i ended
  ends_now = record { fault = w; kept = refl; not_peeked = k.not_peeked; call = peek_ends }

-- after some tokens, in the session `then`
module _ (i : Scan) (s : session_t) (tokens : List yaml_token_t) (w : yaml_fault_t) (f : Fault) (d : fault_of w ≡ f) (then : session_t) (n : StopsNow (with_session i then) s f)
    (on : GoesOnBy (parser_of i) tokens (parser_of (with_session i then)) false) (first : ComesFirst (token_peeked (parser_of i)) tokens (parser_of (with_session i then))) (o : i.session.over ≡ false) (took : List yaml_token_t → Type 0) (given : took tokens) where
  abbrev last : Parser
  last = parser_of (with_session i then)

  abbrev q : Parser
  q = parser_of (with_session i (ended_by s w))

  pub scan_to_fault : GivesToFault SCAN (parser_of i) q took (fault_of w)
  scan_to_fault = let P = parser_of i in let z = scan_ends (with_session i then) s w f d n in record {
    still_open = o;
    input = refl;
    tokens = tokens;
    given = given;
    last = last;
    on = on;
    ended = z;
    reads = λ before h. scans_fault P.limit P.setting P.input last (before ++ tokens) (on before h) w q z;
    first = first_at_end (token_peeked P) tokens last q n.not_peeked first;
  }

pub peek_to_fault : (i j : Scan) → j.input ≡ i.input → i.session.over ≡ false → (e : EndsNow i j) → GivesToFault PEEK (parser_of i) (parser_of j) (λ tokens. tokens ≡ []) (fault_of e.fault)
peek_to_fault i j same o e =
    let P = parser_of i in
    let z = scan_faulty P (parser_of j) o (fault_of e.fault) e.call in
    record {
      still_open = o;
      input = same;
      tokens = [];
      given = refl;
      last = P;
      on = on_none P;
      ended = e.call;
      reads = λ before h. scans_fault P.limit P.setting P.input P (before ++ []) (on_none P before h) e.fault (parser_of j) z;
      first = first_at_end (token_peeked P) [] P (parser_of j) e.not_peeked (first_when P P [] (λ n. is_shown P n));
    }

-- WHAT IS LEFT OF A SCANNER, WHOSE SETTING STAYS
abbrev pub with_its : scanner_t → session_t → scanner_t
with_its l s = record { setting = l.setting; text = l.text; session = s }

module _ (input : List ℕ) (k l : scanner_t) (same : l.setting ≡ k.setting) (s : session_t) where
  abbrev pub then_as : Scan
  then_as = with_session (scan_of input k) s

  pub at_setting : (P : Scan → Type 0) → P then_as → P (scan_of input (with_its l s))
  at_setting P w = subst (λ (z : yaml_encoding_t). P (record { setting = z; input = input; session = s })) (sym same) w

-- its text is kept
pub is_left_so : (input : List ℕ) (k l : scanner_t) → KeepsText input k l → Sound (scan_of input l) → IsScannerOf input l
is_left_so input k l z v = record { sound = v; text = λ o m. subst (λ (e : yaml_encoding_t). IsKeptOf (front e input) input l.text) (sym z.setting) z.text }

module _ (input : List ℕ) (k l : scanner_t) (z : KeepsText input k l) where
  pub is_left : (s : session_t) → Sound (with_session (scan_of input k) s) → IsScannerOf input (with_its l s)
  is_left s v = record {
    sound = at_setting input k l z.setting s Sound v;
    text = λ o m. subst (λ (e : yaml_encoding_t). IsKeptOf (front e input) input l.text) (sym z.setting) z.text;
  }

-- the fault that the session tells is the one that has ended it
abbrev the : Fault → Option Fault → Fault
the f None = f
the f (Some g) = g

pub same_fault : (s t : session_t) (w v : yaml_fault_t) → t ≡ ended_by s w → Some (fault_of v) ≡ fault_in t.failed t.state.fault → fault_of w ≡ fault_of v
same_fault s t w v e told = sym (ap (the (fault_of w)) (told ∙ ap (λ (z : session_t). fault_in z.failed z.state.fault) e))

-- it has stopped, after the session `last`, and the fault w ends the session
module _ (input : List ℕ) (k l : scanner_t) (same : l.setting ≡ k.setting) (last : session_t) (w : yaml_fault_t) (f : Fault) (d : fault_of w ≡ f) (n : StopsNow (with_session (scan_of input k) last) l.session f) (s : session_t) (left : s ≡ ended_by l.session w) where
  pub stopped_left : IsScannerOf input (with_its l s)
  stopped_left = record {
    sound = at_setting input k l same s Sound (subst (λ (z : session_t). Sound (with_session (scan_of input k) z)) (sym left) (ended_sound (with_session (scan_of input k) last) l.session w f d n));
    text = λ o m. absurd (false≢true (sym o ∙ ap (λ (z : session_t). z.over) left));
  }

  abbrev Q : Parser
  Q = parser_of (scan_of input (with_its l s))

  at_end : (P : Parser → Type 0) → P (parser_of (with_session (scan_of input k) (ended_by l.session w))) → P Q
  at_end P c = at_setting input k l same s (λ i. P (parser_of i)) (subst (λ (z : session_t). P (parser_of (with_session (scan_of input k) z))) (sym left) c)

  pub scan_stops : Calls decoded_input SCAN (parser_of (with_session (scan_of input k) last)) (scan_result (Err w)) Q
  scan_stops = at_end (λ q. Calls decoded_input SCAN (parser_of (with_session (scan_of input k) last)) (scan_result (Err w)) q) (scan_ends (with_session (scan_of input k) last) l.session w f d n)

  pub ends_so : EndsNow (with_session (scan_of input k) last) (scan_of input (with_its l s))
  ends_so = at_setting input k l same s (λ i. EndsNow (with_session (scan_of input k) last) i) (subst (λ (z : session_t). EndsNow (with_session (scan_of input k) last) (with_session (scan_of input k) z)) (sym left) (ends_now (with_session (scan_of input k) last) l.session w f d n))

  pub fault_is : Q.session.fault ≡ Some (fault_of w)
  fault_is = at_end (λ q. q.session.fault ≡ Some (fault_of w)) refl

  -- after a sink was given some tokens
  pub gives_to_fault : (tokens : List yaml_token_t) → GoesOnBy (parser_of (scan_of input k)) tokens (parser_of (with_session (scan_of input k) last)) false → ComesFirst (token_peeked (parser_of (scan_of input k))) tokens (parser_of (with_session (scan_of input k) last))
      → k.session.over ≡ false → (took : List yaml_token_t → Type 0) → took tokens → GivesToFault SCAN (parser_of (scan_of input k)) Q took (fault_of w)
  gives_to_fault tokens on first o took given = at_end (λ q. GivesToFault SCAN (parser_of (scan_of input k)) q took (fault_of w))
      (scan_to_fault (scan_of input k) l.session tokens w f d last n on first o took given)

-- THE NEXT TOKEN IS AT THE HEAD OF THE QUEUE
-- it was shown before
pub settled_shown : (input : List ℕ) (k : scanner_t) → IsScannerOf input k → k.session.peeked ≡ true → KeepsText input k k × HasSettled (scan_of input k) (front k.setting input) k.session
settled_shown input k r e =
    let v = r.sound in
    let p = v.peeked e in
    let h = p.1 in (
      record { setting = refl; text = r.text p.0 (let b = h.stands.runs.begun in b) },
      record { sound = v; still_open = p.0; settled = shown_settled k.setting input (scanner_in (scan_of input k)) h; rest = refl },
    )

-- it is there after some steps, over the text that was kept
pub settles_over : (input : List ℕ) (k l : scanner_t) → KeepsText input k l → HasBegun (scan_of input k) (front k.setting input) l.session → k.session.peeked ≡ false
    → (state : state_t) (T : Text) → T ≡ front k.setting input → (result : Result (Unit {0}) stop_t)
    → MatchResult result (λ _. Scanning.Settles (scanner_of T l.session.state) (scanner_of T state)) (λ stop. ((fault_at stop state.fault ≡ memory_fault) ⊎ Fails (scanner_of T l.session.state) (scanner_of T state) (fault_at stop state.fault)) × Stops (scanner_of T l.session.state) (scanner_of T state))
    → KeptEnds.Settles input k (with_its l (on_to l.session state)) result
settles_over input k l z b n state T e (Ok x) w =
    (record { setting = z.setting; text = z.text }, settles_next (scan_of input k) l.session state b n (Ok x) (subst (λ (y : Text). Scanning.Settles (scanner_of y l.session.state) (scanner_of y state)) e w))
settles_over input k l z b n state T e (Err stop) w =
    (z.setting, settles_next (scan_of input k) l.session state b n (Err stop) (subst (λ (y : Text). ((fault_at stop state.fault ≡ memory_fault) ⊎ Fails (scanner_of y l.session.state) (scanner_of y state) (fault_at stop state.fault)) × Stops (scanner_of y l.session.state) (scanner_of y state)) e w))

-- it is there already
pub settled_now : (input : List ℕ) (k : scanner_t) → IsScannerOf input k → k.session.over ≡ false → 0 < k.session.state.made
    → (let s = scanner_in (scan_of input k) in s.taken < length (before s.limit (history s))) → KeepsText input k k × HasSettled (scan_of input k) (front k.setting input) k.session
settled_now input k r o m l =
    let i = scan_of input k in
    let v = r.sound in
    let b = (begun_before i v o m).started in (
      record { setting = refl; text = r.text o m },
      record { sound = v; still_open = o; settled = shown_settled k.setting input (scanner_in i) (record { stands = b.stands; still_open = b.still_open; settled = l }); rest = refl },
    )

pub keeps_now : (input : List ℕ) (k : scanner_t) → IsScannerOf input k → k.session.over ≡ false → 0 < k.session.state.made → KeepsText input k k
keeps_now input k r o m = record { setting = refl; text = r.text o m }

pub begun_runs : (input : List ℕ) (k : scanner_t) → IsScannerOf input k → k.session.over ≡ false → 0 < k.session.state.made → IsRunning (scanner_in (scan_of input k))
begun_runs input k r o m = let b = (begun_before (scan_of input k) r.sound o m).started in b.stands.runs

-- THE PART OF THE INPUT THAT IS THE TEXT
pub part_as : (input : List ℕ) (k l : scanner_t) (part : Option Text) → l.setting ≡ k.setting → (0 < k.session.state.made → 0 < l.session.state.made) → IsPartOf input k part → IsPartOf input l part
part_as input k l None e m p = p
part_as input k l (Some t) e m p = (p.0 ∙ ap (λ (z : yaml_encoding_t). front z input) (sym e), m p.1)

pub part_stays : (input : List ℕ) (k l : scanner_t) (part : Option Text) → l.setting ≡ k.setting → k.session.state.made ≤ l.session.state.made → IsPartOf input k part → IsPartOf input l part
part_stays input k l part e m p = part_as input k l part e (λ n. omega arith) p

pub part_stopped : (input : List ℕ) (k l : scanner_t) (part : Option Text) (stop : stop_t) → KeptEnds.StopsAtOnce input k l stop → IsPartOf input k part → IsPartOf input l part
part_stopped input k l part stop w p = let n = w.1.stopped in part_stays input k l part w.0 n.least p

pub part_settled : (input : List ℕ) (k l : scanner_t) (part : Option Text) → KeepsText input k l → HasSettled (scan_of input k) (front k.setting input) l.session → IsPartOf input k part → IsPartOf input l part
part_settled input k l part z h p = let n = h.settled in part_as input k l part z.setting (λ m. let b = n.stands.runs.begun in b) p

-- whatever came
pub part_after : (input : List ℕ) (k l : scanner_t) (part : Option Text) (result : Result (Unit {0}) stop_t) → KeptEnds.Settles input k l result → IsPartOf input k part → IsPartOf input l part
part_after input k l part (Ok x) w p = part_settled input k l part w.0 w.1 p
part_after input k l part (Err stop) w p = part_stopped input k l part stop w p

-- it was found
pub part_found : (input : List ℕ) (k l : scanner_t) (part : Option Text) → KeepsText input k l → HasSettled (scan_of input k) (front k.setting input) l.session
    → IfSome part (λ text. (t : Text) → IsKeptOf t input l.text → text ≡ t) → IsPartOf input l part
part_found input k l None z h p = p
part_found input k l (Some t) z h p = (p (front k.setting input) z.text ∙ ap (λ (e : yaml_encoding_t). front e input) (sym z.setting), let n = h.settled in let b = n.stands.runs.begun in b)

-- the scanner has begun
pub part_known : (input : List ℕ) (k l : scanner_t) (part : Option Text) → KeepsText input k l → 0 < l.session.state.made
    → IfSome part (λ text. (t : Text) → IsKeptOf t input l.text → text ≡ t) → IsPartOf input l part
part_known input k l None z m p = p
part_known input k l (Some t) z m p = (p (front k.setting input) z.text ∙ ap (λ (e : yaml_encoding_t). front e input) (sym z.setting), m)

-- tokens went to a sink, or none did
pub sent_begun : (input : List ℕ) (k l : scanner_t) (took : List yaml_token_t → Type 0) (none : Bool) → KeptEnds.Sends input k l took (Ok none) → 0 < l.session.state.made
sent_begun input k l took true w = let n = (w.1 refl).0.settled in let b = n.stands.runs.begun in b
sent_begun input k l took false w = let t = w.2 refl in t.3.begun

pub part_sent : (input : List ℕ) (k l : scanner_t) (part : Option Text) (took : List yaml_token_t → Type 0) (result : Result Bool stop_t) → KeptEnds.Sends input k l took result → IsPartOf input k part → IsPartOf input l part
part_sent input k l part took (Ok none) w p = part_as input k l part w.0.setting (λ m. sent_begun input k l took none w) p
part_sent input k l part took (Err stop) w p = part_stopped input k l part stop w.0 p

-- the session has gone on
pub part_goes_on : (input : List ℕ) (l : scanner_t) (s : session_t) (part : Option Text) → (0 < l.session.state.made → 0 < s.state.made) → IsPartOf input l part → IsPartOf input (with_its l s) part
part_goes_on input l s part m p = part_as input l (with_its l s) part refl m p

-- a fault has ended it
pub part_ended : (input : List ℕ) (l : scanner_t) (part : Option Text) (w : yaml_fault_t) (s : session_t) → s ≡ ended_by l.session w → IsPartOf input l part → IsPartOf input (with_its l s) part
part_ended input l part w s e p = let m = ap (λ (z : session_t). z.state.made) e in part_goes_on input l s part (λ n. omega (arith, m)) p

-- WHAT WENT TO A SINK
module _ (input : List ℕ) (k l : scanner_t) (z : KeepsText input k l) (s : session_t) where
  kept_too : KeepsText input k (with_its l s)
  kept_too = record { setting = z.setting; text = z.text }

  pub sends_over : (took : List yaml_token_t → Type 0) (result : Result Bool stop_t) → SendsNext (scan_of input k) (front k.setting input) s took result → KeptEnds.Sends input k (with_its l s) took result
  sends_over took (Ok true) w = (kept_too, (λ e. w), λ e. absurd (false≢true (sym e)))
  sends_over took (Ok false) w = (
    kept_too,
    (λ e. absurd (false≢true e)),
    λ e. (w.0, w.1, w.2.some, at_setting input k l z.setting s (λ j. GoesOnTo (scan_of input k) j w.0) w.3, w.4),
  )
  sends_over took (Err stop) w = ((z.setting, w.0), w.1)

  pub gives_over : (took : List yaml_token_t → Type 0) (lacks : ℕ → ℕ → Type 0) (result : Result (Unit {0}) stop_t) → GivesAllOn (scan_of input k) s took lacks result → KeptEnds.Gives input k (with_its l s) took lacks result
  gives_over took lacks (Ok x) w = (
    kept_too,
    (w.0, w.1, at_setting input k l z.setting s (λ j. GoesOnTo (scan_of input k) j w.0) w.2, at_setting input k l z.setting s (λ j. HasNoMoreRoom lacks (parser_of j)) w.3),
  )
  gives_over took lacks (Err stop) w = (w.0, w.1, record { setting = z.setting; stops = w.2 })

-- A PEEK
module _ (p : Parser) (input : List ℕ) (k : scanner_t) (e : p.input ≡ input) (w : IsKept p k) where
  seen : parser_of (scan_of input k) ≡ p
  seen = (over_this p input k e w).1

  idle : (b : Bool) → p.session.peeked ≡ b → p.session.over ≡ true → b ≡ false
  idle false d o = refl
  idle true d o = absurd (let v = w.is.sound in false≢true (sym (v.peeked (ap (λ (z : Parser). z.session.peeked) w.seen_as ∙ d)).0 ∙ over_is p k w ∙ o))

  abbrev pub ShownAs : scanner_t → Type 0
  ShownAs l = (q : Parser) × IsKept q l × Calls decoded_input PEEK p (PEEKED (token_shown q)) q × GoesOnBy p [] q p.session.over
      × (p.session.over ≡ false → q.session.peeked ≡ true) × (p.session.over ≡ true → q ≡ p)

  -- the session is over
  pub peeks_none : k.session.over ≡ true → ShownAs k
  peeks_none o = let d = sym (over_is p k w) ∙ o in (
    p,
    w,
    show_over p d (idle p.session.peeked refl d),
    λ given h. subst (λ (b : Bool). Scanned p.limit p.setting p.input p (given ++ []) b) (sym h.over) (on_none p given h),
    λ m. absurd (false≢true (sym m ∙ d)),
    λ m. refl,
  )

  module _ (l : scanner_t) (is : IsScannerOf input l) (o : k.session.over ≡ false) where
    abbrev j : Scan
    j = scan_of input l

    -- a token is shown
    pub peeks_kept : ShowsTo (scan_of input k) j → ShownAs l
    peeks_kept s =
        let d = sym (over_is p k w) ∙ o in
        let on = subst (λ (z : Parser). GoesOnBy z [] (parser_of j) j.session.over) seen s.stands.on in (
          parser_of j,
          is_kept input l is,
          subst (λ (z : Parser). Calls decoded_input PEEK z (PEEKED (token_shown (parser_of j))) (parser_of j)) seen s.call,
          subst (λ (b : Bool). GoesOnBy p [] (parser_of j) b) (s.still_open ∙ sym d) on,
          λ m. s.peeked,
          λ m. absurd (false≢true (sym d ∙ m)),
        )

    -- a fault has come
    pub peeks_to_fault : EndsNow (scan_of input k) j → (q : Parser) × IsKept q l × (fault : Fault) × (q.session.fault ≡ Some fault) × GivesToFault PEEK p q (λ tokens. tokens ≡ []) fault
    peeks_to_fault x =
        (parser_of j, is_kept input l is, fault_of x.fault, x.kept, subst (λ (z : Parser). GivesToFault PEEK z (parser_of j) (λ tokens. tokens ≡ []) (fault_of x.fault)) seen (peek_to_fault (scan_of input k) j refl o x))

-- of a parser
pub shows_so : (p : Parser) (input : List ℕ) (k l : scanner_t) → parser_of (scan_of input k) ≡ p → IsScannerOf input k → (r : Bool) → (k.session.over ≡ true → (r ≡ true) × (l ≡ k))
    → (r ≡ true → k.session.over ≡ false → ShowsTo (scan_of input k) (scan_of input l)) → (r ≡ false → EndsNow (scan_of input k) (scan_of input l)) → Shows p r (parser_of (scan_of input l))
shows_so p input k l seen w false over shows ends = let x = ends refl in (fault_of x.fault, x.kept, subst (λ (z : Parser). Calls decoded_input PEEK z (FAULT (fault_of x.fault)) (parser_of (scan_of input l))) seen x.call)
shows_so p input k l seen w true over shows ends = go k.session.over refl
  where
    go : (b : Bool) → k.session.over ≡ b → Shows p true (parser_of (scan_of input l))
    go false o = let s = shows refl o in subst (λ (z : Parser). Calls decoded_input PEEK z (PEEKED (token_shown (parser_of (scan_of input l)))) (parser_of (scan_of input l))) seen s.call
    go true o =
        let v = w.sound in
        let q = parser_of (scan_of input k) in
        let d = show_over q o (unless k.session.peeked (λ e. false≢true (sym (v.peeked e).0 ∙ o))) in
        subst (λ (z : scanner_t). Shows p true (parser_of (scan_of input z))) (sym (over o).1) (subst (λ (z : Parser). Shows z true q) seen d)

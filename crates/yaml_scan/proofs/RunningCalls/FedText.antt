-- A scan over a text that goes on from that of an unfinished one, and one that stopped since more has to come.
use Rattle.std.proofs.Common.{◌≡◌, ℕ, ◌+◌, ◌-◌, ◌<◌, false, List, length, Option, refl, ap, sym, ◌∙◌, subst, arith, inl, inr}
use Rattle.std.specs.Prelude.{◌⊎◌}
use Rattle.std.proofs.lemmas.Bool.{false≢true}
use Rattle.yaml_text.specs.Decode.{front}
use Rattle.yaml_text.specs.Decoding.{refusal_seen}
use Rattle.yaml_text.specs.Fault.{Fault}
use Rattle.yaml_text.specs.Token.{token_of}
use Rattle.yaml_text.specs.declared.fault.yaml_fault_t.{yaml_fault_t}
use Rattle.yaml_text.specs.declared.types.yaml_encoding_t.{yaml_encoding_t}
use Rattle.yaml_scan.specs.Course.{Course, Input, course, ended, oldest}
use Rattle.yaml_scan.specs.Groups.{offline}
use Rattle.yaml_scan.specs.Decoded.{decoded_input}
use Rattle.yaml_scan.specs.Laid.{Laid}
use Rattle.yaml_scan.specs.Sessions.{session_queued}
use Rattle.yaml_scan.specs.Settled.{before, first_steps}
use Rattle.yaml_scan.specs.SourceOf.{source_of}
use Rattle.yaml_scan.specs.declared.session.session_t.{session_t}
use Rattle.yaml_scan.specs.declared.state.state_t.{state_t}
use Rattle.yaml_scan.specs.inside.KeptParts.{StopsNow}
use Rattle.yaml_scan.specs.inside.Queue.{IsLead}
use Rattle.yaml_scan.specs.inside.Ready.{IsIn, IsNew, IsReady, IsStopped, Scan, Sound, course_in, parser_of, scanner_in, with_session}
use Rattle.yaml_scan.specs.inside.Scanner.{Scanner}
use Rattle.yaml_scan.specs.inside.Scanning.{Halts, Holds, IsOpen, IsRunning, course_of, history, input_of}
use Rattle.yaml_scan.specs.inside.TextGoesOn.{TextGoesOn}
use Rattle.yaml_scan.proofs.RunningCalls.LongerText.{history_same, runs, still_open}
use Rattle.yaml_scan.proofs.RunningCalls.ParserInvariant.{keeps_stopped, reach_in, reach_stopped, stands_ready}
use Rattle.yaml_scan.proofs.RunningCalls.ToNextToken.{course_is}
use Rattle.yaml_scan.proofs.RunningStep.HeldBeside.{holds_halted}

-- the state over another text, of which this is the refusal, and near from here on
abbrev pub fed_state : state_t → Option yaml_fault_t → ℕ → state_t
fed_state s refusal near = record s { fault = refusal; near = near }

abbrev pub fed_session : session_t → Option yaml_fault_t → ℕ → session_t
fed_session s refusal near = record s { state = fed_state s.state refusal near }

module _ (i : Scan) (setting : yaml_encoding_t) (input : List ℕ) (refusal : Option yaml_fault_t) (near : ℕ) (g : TextGoesOn (scanner_in i) (front setting input) refusal near) (reads : refusal_seen refusal ≡ (decoded_input setting input).refusal) (v : Sound i) (o : i.session.over ≡ false) (m : 0 < i.session.state.made) where
  abbrev j : Scan
  j = record { setting = setting; input = input; session = fed_session i.session refusal near }

  abbrev s : Scanner
  s = scanner_in i

  abbrev t : Scanner
  t = scanner_in j

  ready : IsReady i.setting i.input s → IsIn i.setting i.input s × IsOpen s
  ready (inl n) = absurd (let z = n.made in omega arith)
  ready (inr r) = r

  before_it : IsIn i.setting i.input s × IsOpen s
  before_it = ready (v.ready o)

  runs_too : IsRunning t
  runs_too = runs s (front setting input) refusal near before_it.0.runs g

  same : history t ≡ history s
  same = history_same s (front setting input) refusal near before_it.0.runs g

  stands : IsIn setting input t
  unfolding decoded_input
  stands = record { runs = runs_too; reads = λ k. record { encoding = (front setting input).encoding; source = source_of (front setting input).chars; refusal = reads k }; text = refl }

  open_too : IsOpen t
  open_too = still_open s (front setting input) refusal near before_it.0.runs g before_it.1

  -- the lexemes that were read
  same_steps : first_steps i.session.state.made (course_in i.session.state.limit setting input).read ≡ first_steps i.session.state.made (course_in i.session.state.limit i.setting i.input).read
  unfolding history
  same_steps = ap (λ (c : Course). oldest (i.session.state.made - 1) c.read) (sym (course_is setting input t stands.reads)) ∙ same ∙ ap (λ (c : Course). oldest (i.session.state.made - 1) c.read) (course_is i.setting i.input s before_it.0.reads)

  waiting_same : session_queued (course_in i.session.state.limit setting input) (parser_of j).session ≡ session_queued (course_in i.session.state.limit i.setting i.input) (parser_of i).session
  waiting_same = rw same_steps refl

  pub sound_over : Sound j
  sound_over = record {
    ready = λ e. inr (stands, open_too);
    peeked = λ e. let k = v.peeked e in (k.0, record { stands = stands; still_open = open_too; settled = (let l = k.1.settled in let h = ap (λ (X : List Laid). length (before i.session.state.limit X)) same in omega arith) });
    failed = v.failed;
    reach = reach_in setting input t stands;
    lead = λ e. subst (λ (x : yaml_encoding_t). IsLead x i.session.state.layout.queue (token_of i.session.lead)) (sym g.encoding) (v.lead e);
    limit = v.limit;
    queued = (let a = v.queued in let b = waiting_same in omega arith);
    few = (let a = v.few in let b = waiting_same in omega arith);
  }

-- WHAT HAS STOPPED
-- it runs on as it was left, once its refusal is the reader's again
new_halted : (s t : Scanner) → Halts s t → IsNew s → IsNew t
new_halted s t h z = record {
  levels = h.levels ∙ z.levels;
  outer = h.outer ∙ z.outer;
  empty = h.empty ∙ z.empty;
  top = h.top ∙ z.top;
  awaited = h.awaited ∙ z.awaited;
  allowed = h.allowed ∙ z.allowed;
  queue = h.groups ∙ z.queue;
  done = h.done ∙ z.done;
  early = h.early ∙ z.early;
  reach = h.reach ∙ z.reach;
  taken = h.taken ∙ z.taken;
  made = h.made ∙ z.made;
}

module _ (s t : Scanner) (h : Halts s t) (same : refusal_seen t.refusal ≡ refusal_seen s.refusal) where
  inputs : input_of t ≡ input_of s
  inputs = λ k. record { encoding = (h.text k).encoding; source = source_of (h.text k).chars; refusal = same k }

  courses : course_of t ≡ course_of s
  unfolding course_of
  courses = λ k. course (h.limit k) (inputs k)

  histories : history t ≡ history s
  unfolding history
  histories = λ k. oldest (h.made k - 1) (courses k).read

  runs_on : IsRunning s → IsRunning t
  runs_on r = record {
    small = rw h.text r.small;
    near = rw (same, h.text, h.near) r.near;
    holds = subst (λ (X : List Laid). Holds X (t.made + 1) t) (sym histories) (subst (λ (k : ℕ). Holds (history s) (k + 1) t) (sym h.made) (holds_halted (history s) (s.made + 1) s t h r.holds));
    begun = rw h.made r.begun;
    start = ap (λ (c : Course). c.begun) courses ∙ r.start;
    within = (let a = r.within in let b = ap (λ (c : Course). length c.read) courses in omega (arith, h.made));
  }

  open_on : IsOpen s → IsOpen t
  open_on o e = let a = o (sym (ap (λ (c : Course). ended c.read) courses) ∙ e) in let b = ap (λ (c : Course). length (offline c.read)) courses in omega (arith, h.taken)

  ready_on : (setting : yaml_encoding_t) (input : List ℕ) → t.text ≡ front setting input → IsReady setting input s → IsReady setting input t
  ready_on setting input e (inl z) = inl (new_halted s t h z)
  ready_on setting input e (inr r) = inr (record { runs = runs_on r.0.runs; reads = inputs ∙ r.0.reads; text = e }, open_on r.1)

-- the refusal of a scanner that is ready is the reader's
ready_refusal : (setting : yaml_encoding_t) (input : List ℕ) (s : Scanner) (x : Option Fault) → x ≡ (decoded_input setting input).refusal → IsReady setting input s → IsNew s ⊎ (x ≡ refusal_seen s.refusal)
ready_refusal setting input s x e (inl z) = inl z
ready_refusal setting input s x e (inr r) = inr (e ∙ sym (ap (λ (y : Input). y.refusal) r.0.reads))

module _ (i : Scan) (s : session_t) (f : Fault) (k : StopsNow i s f) (refusal : Option yaml_fault_t) (same : refusal_seen refusal ≡ (decoded_input i.setting i.input).refusal) where
  abbrev pub then : session_t
  then = record s { state = record s.state { fault = refusal } }

  abbrev u : Scanner
  u = scanner_in (with_session i then)

  abbrev w : Scanner
  w = scanner_in (with_session i s)

  n : IsStopped i.setting i.input (scanner_in i) w
  n = k.stopped

  halts : Halts n.last u
  halts = let h = n.halts in record {
    text = h.text;
    near = h.near;
    limit = h.limit;
    outer = h.outer;
    empty = h.empty;
    top = h.top;
    awaited = h.awaited;
    allowed = h.allowed;
    levels = h.levels;
    groups = h.groups;
    done = h.done;
    early = h.early;
    early_mark = h.early_mark;
    reach = h.reach;
    taken = h.taken;
    made = h.made;
  }

  ready_then : IsReady i.setting i.input u
  ready_then = elim (ready_refusal i.setting i.input n.last (refusal_seen refusal) same n.ready) [
    | inl z ↦ inl (new_halted n.last u halts z)
    | inr e ↦ ready_on n.last u halts e i.setting i.input refl n.ready
  ]

  pub sound_stopped : Sound (with_session i then)
  sound_stopped =
      let v = k.sound in
      let b = k.rest in
      let z = keeps_stopped i.setting i.input (scanner_in i) w n (stands_ready i.setting i.input (scanner_in i) (v.ready k.still_open)) i.session.state.layout.queue.done (record { queued = v.queued; few = v.few }) in
      let idle : s.peeked ≡ false = ap (λ (x : session_t). x.peeked) b ∙ k.not_peeked in
      record {
        ready = λ e. ready_then;
        peeked = λ e. absurd (false≢true (sym idle ∙ e));
        failed = λ e. ap (λ (x : session_t). x.failed) b ∙ v.failed k.still_open;
        lead = λ e. absurd (false≢true (sym idle ∙ e));
        reach = reach_stopped i.setting i.input (scanner_in i) w n;
        limit = (let a = v.limit in let c = n.limit in omega arith);
        queued = (let a = z.queued in let c = n.done in omega arith);
        few = z.few;
      }

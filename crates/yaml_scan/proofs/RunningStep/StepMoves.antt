-- What changes in a scanner within a step, and what stays.
use Rattle.std.proofs.Common.{◌≡◌, ℕ, ◌+◌, ◌≤◌, Bool, true, false, List, [], ◌∷◌, length, reverse, filter, Option, Ok, Err, refl, ap, sym, ◌∙◌, subst, arith, inl, inr, vec_len}
use Rattle.std.specs.Prelude.{OnOk, Result}
use Rattle.yaml_text.specs.Fault.{Fault}
use Rattle.yaml_lexeme.specs.Lexeme.{Lexeme as yaml_lexeme_t}
use Rattle.yaml_lexeme.specs.Counted.{IsMarkOf}
use Rattle.yaml_lexeme.specs.declared.lex.yaml_context_t.{yaml_context_t}
use Rattle.yaml_lexeme.specs.declared.lexeme.yaml_lexeme_t.{yaml_lexeme_t as code_lexeme_t}
use Rattle.yaml_lexeme.specs.declared.problem.yaml_refusal_t.{yaml_refusal_t}
use Rattle.yaml_scan.specs.Course.{ended}
use Rattle.yaml_scan.specs.declared.stop.stop_t.{stop_t}
use Rattle.yaml_scan.specs.declared.groups.group_t.{group_t}
use Rattle.yaml_scan.specs.declared.met.met_t.{met_t}
use Rattle.yaml_scan.specs.inside.Scanner.{Scanner}
use Rattle.yaml_scan.specs.Kind.{Kind}
use Rattle.yaml_scan.specs.Laid.{Laid}
use Rattle.yaml_scan.specs.Levels.{greatest_level, laid, stays}
use Rattle.yaml_scan.specs.Settled.{before}
use Rattle.yaml_scan.specs.inside.TextReads.{IsRead}
use Rattle.yaml_scan.specs.inside.Scanning.{AdvancesTwice, AdvancesWith, Beside, CanRead, CanStep, Comes, Ends, Halts, HasRead, HasRoom, Holds, IsLaidBy, IsMet, IsNewHeld, IsReadIn, IsStep, Makes, Needs, Refuses, Same, Stays}
use Rattle.yaml_scan.specs.inside.Scanning.{allowed_in, at_there, counted, groups_in, made_to, met_in}
use Rattle.yaml_scan.specs.Token.{yaml_token_t}
use Rattle.yaml_scan.specs.inside.Handed.{HandsOut, LaysTo, StepsTo}
use Rattle.std.proofs.lemmas.Bool.{false≢true}
use Rattle.std.proofs.lemmas.List.{reverse-reverse}
use Rattle.yaml_scan.proofs.RunningStep.HeldBeside.{holds_as, holds_beside, marks_stay}
use Rattle.yaml_scan.proofs.RunningStep.StepLaid.{kind_there, level_within}

pub stays_same : (s t : Scanner) → Beside s t → Stays s t
stays_same s t b = record { same = record { text = b.text; refusal = b.refusal; near = b.near; limit = b.limit; taken = b.taken; done = b.done }; halts = record { text = b.text; near = b.near; limit = b.limit; outer = b.outer; empty = b.empty; top = b.top; awaited = b.awaited; allowed = b.allowed; levels = b.levels; groups = b.groups; done = b.done; early = b.early; early_mark = b.early_mark; reach = b.reach; taken = b.taken; made = b.made } }

halts_trans : (s t u : Scanner) → Halts s t → Halts t u → Halts s u
halts_trans s t u a b = record { text = b.text ∙ a.text; near = b.near ∙ a.near; limit = b.limit ∙ a.limit; outer = b.outer ∙ a.outer; empty = b.empty ∙ a.empty; top = b.top ∙ a.top; awaited = b.awaited ∙ a.awaited; allowed = b.allowed ∙ a.allowed; levels = b.levels ∙ a.levels; groups = b.groups ∙ a.groups; done = b.done ∙ a.done; early = b.early ∙ a.early; early_mark = b.early_mark ∙ a.early_mark; reach = b.reach ∙ a.reach; taken = b.taken ∙ a.taken; made = b.made ∙ a.made }

pub same_trans : (s t u : Scanner) → Same s t → Same t u → Same s u
same_trans s t u a b = record { text = b.text ∙ a.text; refusal = b.refusal ∙ a.refusal; near = b.near ∙ a.near; limit = b.limit ∙ a.limit; taken = b.taken ∙ a.taken; done = b.done ∙ a.done }

pub stays_on : (s t u : Scanner) → Stays s t → Stays t u → Stays s u
stays_on s t u a b = record { same = same_trans s t u a.same b.same; halts = halts_trans s t u a.halts b.halts }

-- READING
pub read_in : (H : List Laid) (s : Scanner) (r : met_t) (t : Scanner) → CanRead H s r → CanRead H (at_there s t) r
read_in H s r t c = let h = c.can.holds in let e = c.met in let w = c.is_new in record {
  can = record { holds = holds_as H (s.made + 1) s (at_there s t) h refl refl refl refl refl refl h.queue h.taken; running = c.can.running; small = c.can.small; few_steps = c.can.few_steps; near = c.can.near };
  met = record { gap_end = e.gap_end; allowed = e.allowed; kind = e.kind; step = e.step };
  is_new = record { flow = w.flow; is_greatest = w.is_greatest; step = w.step; start = w.start; required = w.required };
  depth = c.depth;
  within = c.within;
  there = c.there;
  room = (let v = c.room in record { depths = v.depths; levels = v.levels; groups = v.groups });
}

-- a lexeme of one character that was read
pub read_as_met : (s : Scanner) (k m : Kind) (x : yaml_context_t) (l : yaml_lexeme_t) → m ≡ k → ((p depth : ℕ) (level : Option ℕ) → IsMarkOf s.text.chars s.gap_end p → IsRead s.text.chars k depth level p l)
    → (p : ℕ) → IsMarkOf s.text.chars s.gap_end p → IsRead s.text.chars m x.depth x.level p l
read_as_met s k m x l e f = λ p i. subst (λ (z : Kind). IsRead s.text.chars z x.depth x.level p l) (sym e) (f p x.depth x.level i)

read_as : (s : Scanner) (k : Kind) (x : yaml_context_t) (t : Scanner) (o : Result code_lexeme_t yaml_refusal_t) → IsReadIn s k x t.there o → IsReadIn (at_there s t) k x t.there o
read_as s k x t (Ok l) f = f
read_as s k x t (Err r) f = f

pub read_then : (H : List Laid) (s t : Scanner) (r : met_t) (k : Kind) (o : Result code_lexeme_t yaml_refusal_t) → CanRead H s r → r.kind ≡ k → HasRead s t k r.context o
    → CanRead H t r × IsReadIn t r.kind r.context t.there o
read_then H s t r k o c e h = (
  subst (λ (u : Scanner). CanRead H u r) (sym h.same) (read_in H s r t c),
  subst (λ (z : Kind). IsReadIn t z r.context t.there o) (sym e) (subst (λ (u : Scanner). IsReadIn u k r.context t.there o) (sym h.same) (read_as s k r.context t o h.read)),
)

pub stays_read : (s t : Scanner) (k : Kind) (x : yaml_context_t) (o : Result code_lexeme_t yaml_refusal_t) → HasRead s t k x o → Stays s t
stays_read s t k x o h = subst (λ (u : Scanner). Stays s u) (sym h.same) (marks_stay s s.gap_end t.there)

-- A STEP AFTER WHAT STAYS
ends_from : (H : List Laid) (s t : Scanner) → Stays s t → (f : Fault) → Ends H t f → Ends H s f
ends_from H s t e f w = let q = e.same in (w.0, rw (← q.text, ← q.refusal, ← q.limit) w.1, w.2)

refuses_from : (H : List Laid) (s t u : Scanner) (stop : stop_t) → Stays s t → Refuses H t u stop → Refuses H s u stop
refuses_from H s t u stop e w = (elim w.0 [ inl m ↦ inl m | inr v ↦ inr (ends_from H s t e _ v) ], halts_trans s t u e.halts w.1)

advances_from : (H : List Laid) (s t u : Scanner) (zs : List group_t) → Stays s t → AdvancesWith H t u zs → AdvancesWith H s u zs
advances_from H s t u zs e a = let q = e.same in record {
  lexeme = a.lexeme;
  step = rw (← q.text, ← q.limit) a.step;
  holds = rw (← q.limit, ← e.halts.made) a.holds;
  index = rw (← q.text) a.index;
  within = rw (← q.text) a.within;
  same = same_trans s t u e.same a.same;
  made = a.made ∙ e.halts.made;
}

twice_from : (H : List Laid) (s t u : Scanner) (zs : List group_t) → Stays s t → AdvancesTwice H t u zs → AdvancesTwice H s u zs
unfolding advances_from
twice_from H s t u zs e a = let q = e.same in record {
  between = a.between;
  then_queued = a.then_queued;
  first = advances_from H s t a.between a.then_queued e a.first;
  running = subst (λ (z : ℕ). ended (laid z H a.first.lexeme ∷ H) ≡ false) q.limit a.running;
  far = (let f = a.far in let n = q.near in omega arith);
  second = subst (λ (z : ℕ). AdvancesWith (laid z H a.first.lexeme ∷ H) (counted a.between) u zs) q.limit a.second;
}

needs_from : (sparing : Bool) (H : List Laid) (s t u : Scanner) (zs : List group_t) (e : Stays s t) (a : AdvancesTwice H t u zs) → Needs sparing H t u zs a → Needs sparing H s u zs (twice_from H s t u zs e a)
unfolding advances_from twice_from
needs_from sparing H s t u zs e a n = λ z. let q = e.same in
    subst (λ (n : ℕ). length (before s.limit (laid s.limit H a.first.lexeme ∷ H)) ≤ n) q.taken (subst (λ (z : ℕ). length (before z (laid z H a.first.lexeme ∷ H)) ≤ t.taken) q.limit (n z))

makes_from : (sparing : Bool) (H : List Laid) (s t u : Scanner) (zs : List group_t) → Stays s t → Makes sparing H t u zs → Makes sparing H s u zs
makes_from sparing H s t u zs e (inl m) = let q = e.same in inl (m.0, advances_from H s t m.0 zs e m.1, rw (← q.near) m.2, m.3)
makes_from sparing H s t u zs e (inr m) = let q = e.same in let w = m.1 in
    inr (m.0, ((twice_from H s t (counted m.0) zs e w.0.0, needs_from sparing H s t (counted m.0) zs e w.0.0 w.0.1), rw (← q.near) w.1), m.2)

pub step_from : (H : List Laid) (s t u : Scanner) (o : Result (Unit {0}) stop_t) → Stays s t → IsStep H t u o → IsStep H s u o
step_from H s t u (Ok x) e w = makes_from true H s t u (groups_in u) e w
step_from H s t u (Err stop) e w = refuses_from H s t u stop e w

pub step_to_from : (H : List Laid) (s t u : Scanner) (direct : Bool) (took : List yaml_token_t → Type 0) (refuses : Type 0) (o : Result (Unit {0}) stop_t) → Stays s t → StepsTo H t u direct took refuses o → StepsTo H s u direct took refuses o
step_to_from H s t u direct took refuses (Ok x) e w = (w.0, w.1, w.2, w.3, makes_from w.3 H s t w.1 w.2 e w.4, w.5, w.6)
step_to_from H s t u direct took refuses (Err stop) e (inl w) = inl (refuses_from H s t u stop e w.0, w.1)
step_to_from H s t u direct took refuses (Err stop) e (inr w) = let c = w.1 in inr (w.0, (c.0, c.1, c.2, makes_from false H s t c.1 c.2 e c.3, c.4, c.5, c.6), w.2)

-- what a sink was given after it was asked for room
pub step_given : (H : List Laid) (s t : Scanner) (direct : Bool) (took took' : List yaml_token_t → Type 0) → ((ys : List yaml_token_t) → took' ys → took ys) → (refuses : Type 0) (o : Result (Unit {0}) stop_t) → StepsTo H s t direct took' refuses o → StepsTo H s t direct took refuses o
step_given H s t direct took took' f refuses (Ok x) w = (w.0, w.1, w.2, w.3, w.4, w.5, f w.0 w.6)
step_given H s t direct took took' f refuses (Err stop) (inl w) = inl (w.0, f [] w.1)
step_given H s t direct took took' f refuses (Err stop) (inr w) = let c = w.1 in let k = c.6 in
    inr (w.0, (c.0, c.1, c.2, c.3, c.4, c.5, record { handed = k.handed; next = k.next; begins = k.begins; given = f k.handed k.given }), w.2)

-- what was not touched is as it was
pub on_ok_same : (A : Type 0) (o : Result (Unit {0}) stop_t) → OnOk o (A → A)
on_ok_same A (Ok x) = λ w. w
on_ok_same A (Err stop) = tt

-- what follows if it succeeded
pub on_ok_then : {A B : Type 0} → (A → B) → (o : Result (Unit {0}) stop_t) → OnOk o A → OnOk o B
on_ok_then f (Ok x) a = f a
on_ok_then f (Err stop) a = tt

-- a step whose groups went into the queue, to a sink that was given nothing
pub queued_step : (H : List Laid) (s t : Scanner) (direct : Bool) (took : List yaml_token_t → Type 0) (refuses : Type 0) (o : Result (Unit {0}) stop_t) → took [] → IsStep H s t o → StepsTo H s t direct took refuses o
queued_step H s t direct took refuses (Ok x) n w = ([], t, groups_in t, true, w, inl (refl, refl, refl, refl), n)
queued_step H s t direct took refuses (Err stop) n w = inl (w, n)

-- a step all of whose groups have to go into the queue
pub only_queued : (H : List Laid) (s t : Scanner) (took : List yaml_token_t → Type 0) (refuses : Type 0) (o : Result (Unit {0}) stop_t) → StepsTo H s t false took refuses o → IsStep H s t o
only_queued H s t took refuses (Ok x) w = elim w.5 [
  | inl e ↦ subst (λ (z : Scanner). Makes true H s z (groups_in z)) (sym e.2) (subst (λ (zs : List group_t). Makes true H s w.1 zs) e.3 (subst (λ (b : Bool). Makes b H s w.1 w.2) e.0 w.4))
  | inr e ↦ absurd (false≢true e.0)
]
only_queued H s t took refuses (Err stop) (inl w) = w.0
only_queued H s t took refuses (Err stop) (inr w) = let c = w.1 in absurd (false≢true c.4)

pub stop_from : (H : List Laid) (s t u : Scanner) (stop : stop_t) → Stays s t → Refuses H t u stop → Refuses H s u stop
stop_from H s t u stop e w = refuses_from H s t u stop e w

-- ROOM
pub ready : (H : List Laid) (s t : Scanner) (in_flow : Bool) (k : Kind) → Comes H s in_flow k → IsMet H s (record { kind = k; gap_end = s.gap_end; allowed = allowed_in s in_flow }) → Beside s t
    → (r : met_t) → HasRoom t r.in_flow r.kind → r.kind ≡ k → r.allowed ≡ allowed_in s in_flow → IsNewHeld t (met_in t r) r.in_flow r.context.level r.new → r.context.depth ≡ vec_len t.slots.outer → CanRead H t r
ready H s t in_flow k w m b r room K A new d =
    let c = w.passes.can in
    let can : CanStep H t = record {
      holds = subst (λ (z : ℕ). Holds H (z + 1) t) (sym b.made) (holds_beside H (s.made + 1) s t b c.holds);
      running = c.running;
      small = rw b.text c.small;
      few_steps = rw b.made c.few_steps;
      near = rw (b.refusal, b.text, b.near) c.near;
    } in
    let met : IsMet H t (met_in t r) = record {
      gap_end = rw (b.text, b.gap_end) m.gap_end;
      allowed = A ∙ (rw b.gap_end m.allowed);
      kind = rw (b.text, K) m.kind;
      step = rw (b.text, b.limit, K) m.step;
    } in
    let cs : List ℕ = filter (stays r.in_flow r.kind r.new.start) (reverse t.layout.levels.items) in
    let level : r.context.level ≡ greatest_level (reverse (reverse cs)) = new.is_greatest ∙ ap greatest_level (sym (reverse-reverse cs)) in
    record {
      can = can;
      met = met;
      is_new = new;
      depth = d;
      within = level_within H (t.made + 1) t can.holds can.running (met_in t r) met r.in_flow new.flow r.new.start new.start (reverse cs) (reverse-reverse cs) r.context.level level r.context.depth d;
      there = kind_there H (t.made + 1) t can.holds can.running (met_in t r) met r.in_flow new.flow r.new.start new.start (reverse cs) (reverse-reverse cs) r.context.level level r.context.depth d;
      room = room;
    }

-- a lexeme comes that came before there was room
pub comes_beside : (H : List Laid) (s t : Scanner) (in_flow : Bool) (k : Kind) → Comes H s in_flow k → Beside s t → CanStep H t → Comes H t in_flow k
comes_beside H s t in_flow k w b can = let c = w.passes in record {
  passes = record { can = can; flow = rw b.depth c.flow; gap_end = rw (b.text, b.gap_end) c.gap_end; none_lost = rw (b.limit, b.gap_end, b.outer, b.top) c.none_lost };
  is_kind = rw b.text w.is_kind;
}

-- THE END
abbrev pub counted_by : Scanner → ℕ → Scanner
counted_by s n = made_to s (s.made + n)

-- a step that was laid, or two, and counted
pub made_all : (sparing : Bool) (H : List Laid) (s t : Scanner) (zs : List group_t) (n : ℕ) → IsLaidBy sparing H s t zs n → Makes sparing H s (counted_by t n) zs
made_all sparing H s t zs n (inl w) = inl (t, w.1, w.2, ap (counted_by t) w.0)
made_all sparing H s t zs n (inr w) = inr (t, w.1, ap (counted_by t) w.0 ∙ twice t)
  where
    twice : (t : Scanner) → counted_by t 2 ≡ counted (counted t)
    twice t = let e : t.made + 2 ≡ t.made + 1 + 1 = omega arith in ap (λ (m : ℕ). made_to t m) e

-- what was handed out of it
hands_all : (direct sparing : Bool) (m : Scanner) (zs : List group_t) (t : Scanner) (tokens : List yaml_token_t) (n : ℕ) → HandsOut direct sparing m zs t tokens → HandsOut direct sparing (counted_by m n) zs (counted_by t n) tokens
hands_all direct sparing m zs t tokens n (inl w) = inl (w.0, w.1, ap (λ (z : Scanner). counted_by z n) w.2, w.3)
hands_all direct sparing m zs t tokens n (inr w) = let e = w.1 in inr (
  w.0,
  record {
    all = (let a = e.all in record { awaited = a.awaited; early = a.early; tokens_are = a.tokens_are; no_end = a.no_end });
    same = ap (λ (z : Scanner). counted_by z n) e.same;
    early = e.early;
    groups = e.groups;
    done = e.done;
  },
)

pub steps_all : (H : List Laid) (s t : Scanner) (direct : Bool) (took : List yaml_token_t → Type 0) (n : ℕ) → (tokens : List yaml_token_t) × (m : Scanner) × (zs : List group_t) × (sparing : Bool) × IsLaidBy sparing H s m zs n × HandsOut direct sparing m zs t tokens × took tokens
    → (tokens : List yaml_token_t) × (m : Scanner) × (zs : List group_t) × (sparing : Bool) × Makes sparing H s m zs × HandsOut direct sparing m zs (counted_by t n) tokens × took tokens
steps_all H s t direct took n w = (w.0, counted_by w.1 n, w.2, w.3, made_all w.3 H s w.1 w.2 n w.4, hands_all direct w.3 w.1 w.2 t w.0 n w.5, w.6)

-- or a token of it was refused
pub cut_all : (H : List Laid) (s t : Scanner) (direct : Bool) (took : List yaml_token_t → Type 0) (refuses : Type 0) (stop : stop_t) → LaysTo H s t direct took refuses (Err stop) → StepsTo H s t direct took refuses (Err stop)
cut_all H s t direct took refuses stop w = let c = w.1 in inr (w.0, (c.1, counted_by c.2 c.0, c.3, made_all false H s c.2 c.3 c.0 c.4, c.5, (let a = c.6 in record { awaited = a.awaited; early = a.early; tokens_are = a.tokens_are; no_end = a.no_end }), c.7), w.2)

-- What is settled of an unfinished input is that of every input that goes on from it. So it is of a refused one.
use Rattle.std.proofs.Common.{◌≡◌, ℕ, ◌+◌, ◌≤◌, Bool, true, false, List, [], ◌∷◌, ◌++◌, map, Option, Some, None, refl, ap, sym, ◌∙◌, subst, arith, inl, inr, ltb-false}
use Rattle.std.specs.Prelude.{◌⊎◌, option_map}
use Rattle.std.proofs.lemmas.Bool.{cases_Bool, le-ltb, false≢true}
use Rattle.std.proofs.lemmas.List.{map-append}
use Rattle.yaml_text.specs.Fault.{Fault}
use Rattle.yaml_text.specs.declared.types.yaml_encoding_t.{yaml_encoding_t}
use Rattle.yaml_scan.specs.Answers.{answers}
use Rattle.yaml_scan.specs.Groups.{Token, handed_out}
use Rattle.yaml_scan.specs.Locality.{AgreesWith, FaultBeforeRefusal, TokensBeforeRefusal}
use Rattle.yaml_scan.specs.Token.{yaml_token_t}
use Rattle.yaml_scan.specs.Course.{Input, Course, next, course, course_from}
use Rattle.yaml_scan.specs.Laid.{Laid}
use Rattle.yaml_scan.specs.Settled.{before, tokens_of}
use Rattle.yaml_scan.specs.Order.{IsHistory}
use Rattle.yaml_scan.specs.Begins.{Begins}
use Rattle.yaml_scan.specs.Source.{Offence}
use Rattle.yaml_scan.specs.Step.{Outcome, step, place_after}
use Rattle.yaml_scan.specs.Step.Outcome.{Reads, Faults}
use Rattle.yaml_scan.specs.Cut.{IsRun, EndsWith, KeepsOrder}
use Rattle.yaml_scan.specs.Near.{unless_near, is_near, place_of, starts_near}
use Rattle.yaml_scan.specs.Unfinished.{GoesOnFrom, StepsGoOn, TokensGoOn, FaultGoesOn}
use Rattle.yaml_scan.proofs.Course.LongestCut.{orderly, IsHistory-from_run, run_at}
use Rattle.yaml_scan.proofs.TokenList.SettledStays.{before-before}
use Rattle.yaml_scan.proofs.Course.CourseSteps.{steps_of, steps_are, run_of_text, run_tail, not_longer, next_orderly, far_step_is_itself}
use Rattle.yaml_scan.proofs.Texts.StepLocality.{step_is_local}

-- a step that does not stand for what is to come is a step of the text, and not near
record IsInTime (size : ℕ) (o y : Outcome) : Type 0 where
  same : o ≡ y
  far : place_of o + 8 ≤ size

in_time : (size : ℕ) (f : Fault) (o y : Outcome) → unless_near size (Some f) o ≡ y → (y ≡ Faults (record { fault = f; place = size })) ⊎ IsInTime size o y
in_time size f o y e = elim (cases_Bool (is_near size (place_of o))) [
  | inl q ↦ inl (sym (rw q at e))
  | inr q ↦ inr (record { same = rw q at e; far = ltb-false size (place_of o + 8) q })
]

pub some_fault : (x y : Fault) → Some x ≡ Some y → y ≡ x
some_fault x y q = cc

long_enough : (size : ℕ) (r : Option Fault) (f : Fault) → r ≡ Some f → starts_near size r ≡ false → 8 ≤ size
long_enough size None f e q = cc
long_enough size (Some g) f e q = ltb-false size 8 q

starts_far : (size : ℕ) (r : Option Fault) → 8 ≤ size → starts_near size r ≡ false
starts_far size None l = refl
starts_far size (Some f) l = le-ltb size 8 l

module _ (limit : ℕ) (a b : Input) (refusal : Fault) (j : KeepsOrder a.source) (g : GoesOnFrom a b refusal) where
  next_is : (H : List Laid) → next a limit H ≡ unless_near a.source.size (Some refusal) (step a.source limit H)
  unfolding next
  next_is H = ap (λ (o : Option Fault). unless_near a.source.size o (step a.source limit H)) g.unfinished

  within : (H : List Laid) → IsRun (next a limit) limit H → place_after H ≤ a.source.size
  within H r = run_at (step a.source limit) limit a.source.size (orderly a.source j limit) H (run_of_text limit a H r)

  -- b has each step that ends before the end of a
  is_itself : (H : List Laid) → place_of (step b.source limit H) + 8 ≤ a.source.size → next b limit H ≡ step b.source limit H
  unfolding next
  is_itself H l = elim g.longer [
    | inl q ↦ ap (λ (o : Option Fault). unless_near b.source.size o (step b.source limit H)) q
    | inr q ↦ far_step_is_itself limit b H (omega arith)
  ]

  -- in time both have the same step
  other_step : (H : List Laid) (y : Outcome) → IsRun (next a limit) limit H → next a limit H ≡ y → (y ≡ Faults (record { fault = refusal; place = a.source.size })) ⊎ (next b limit H ≡ y)
  other_step H y r e = elim (in_time a.source.size refusal (step a.source limit H) y (sym (next_is H) ∙ e)) [
    | inl q ↦ inl q
    | inr q ↦ inr (
        let s : step b.source limit H ≡ step a.source limit H = step_is_local a.source b.source limit H (place_of (step a.source limit H)) j (within H r) (g.same (place_of (step a.source limit H)) q.far) (omega arith) in
        is_itself H (subst (λ (o : Outcome). place_of o + 8 ≤ a.source.size) (sym s) q.far) ∙ s ∙ q.same)
  ]

  pub steps_go_on_from : (H : List Laid) → IsRun (next a limit) limit H → IsRun (next b limit) limit H
  steps_go_on_from [] r = tt
  steps_go_on_from (i ∷ H) r = (r.0, reads (other_step H (Reads i.lexeme) r.2 r.1), steps_go_on_from H r.2, r.3)
    where
      reads : (Reads i.lexeme ≡ Faults (record { fault = refusal; place = a.source.size })) ⊎ (next b limit H ≡ Reads i.lexeme) → next b limit H ≡ Reads i.lexeme
      reads (inl q) = cc
      reads (inr q) = q

  -- none is read near the end
  pub far_place : (H : List Laid) → IsRun (next a limit) limit H → 8 ≤ a.source.size → place_after H + 8 ≤ a.source.size
  far_place [] r l = l
  far_place (i ∷ H) r l = elim (in_time a.source.size refusal (step a.source limit H) (Reads i.lexeme) (sym (next_is H) ∙ r.1)) [
    | inl q ↦ (cc)
    | inr q ↦ subst (λ (o : Outcome). place_of o + 8 ≤ a.source.size) q.same q.far
  ]

  module _ (k : KeepsOrder b.source) where
    tail_is : (H : List Laid) → IsRun (next a limit) limit H → (Y : List Laid) × ((steps_of limit b k).read ≡ Y ++ H)
    tail_is H r = let c = steps_are limit b k in run_tail (next b limit) limit H (steps_of limit b k).read (steps_of limit b k).fault (steps_go_on_from H r) c.0 c.1

    begun : starts_near a.source.size a.refusal ≡ false → starts_near b.source.size b.refusal ≡ false
    begun e = elim g.longer [
      | inl q ↦ ap (starts_near b.source.size) q
      | inr q ↦ (let l = long_enough a.source.size a.refusal refusal g.unfinished e in starts_far b.source.size b.refusal (omega arith))
    ]

    pub tokens_begin : Begins (tokens_of limit (course limit a)) (tokens_of limit (course limit b))
    unfolding course
    tokens_begin = go (starts_near a.source.size a.refusal) refl
      where
        go : (x : Bool) → starts_near a.source.size a.refusal ≡ x → Begins (tokens_of limit (course_from x a.refusal (steps_of limit a j))) (tokens_of limit (course_from (starts_near b.source.size b.refusal) b.refusal (steps_of limit b k)))
        go true e = record { rest = tokens_of limit (course_from (starts_near b.source.size b.refusal) b.refusal (steps_of limit b k)); is = refl }
        go false e =
            let y = tail_is (steps_of limit a j).read (steps_are limit a j).0 in
            let h = IsHistory-from_run (next b limit) limit b.source.size (next_orderly limit b k) (steps_of limit b k).read (steps_are limit b k).0 in
            let z : Begins (before limit (steps_of limit a j).read) (before limit (steps_of limit b k).read) = subst (λ (X : List Laid). Begins (before limit (steps_of limit a j).read) (before limit X)) (sym y.1) (before-before limit y.0 (steps_of limit a j).read (subst (λ (X : List Laid). IsHistory limit X) y.1 h)) in
            subst (λ (x : Bool). Begins (before limit (steps_of limit a j).read) (tokens_of limit (course_from x b.refusal (steps_of limit b k)))) (sym (begun e)) z

    -- the lexemes of a, once it has begun, are the first of b
    pub course_goes_on : (course limit a).begun ≡ true → ((course limit b).begun ≡ true) × ((Y : List Laid) × ((course limit b).read ≡ Y ++ (course limit a).read)) × (8 ≤ a.source.size)
    unfolding course
    course_goes_on = go (starts_near a.source.size a.refusal) refl
      where
        go : (x : Bool) → starts_near a.source.size a.refusal ≡ x → (course_from x a.refusal (steps_of limit a j)).begun ≡ true
            → ((course_from (starts_near b.source.size b.refusal) b.refusal (steps_of limit b k)).begun ≡ true) × ((Y : List Laid) × ((course_from (starts_near b.source.size b.refusal) b.refusal (steps_of limit b k)).read ≡ Y ++ (course_from x a.refusal (steps_of limit a j)).read)) × (8 ≤ a.source.size)
        go true q e = absurd (false≢true e)
        go false q e = subst (λ (x : Bool). ((course_from x b.refusal (steps_of limit b k)).begun ≡ true) × ((Y : List Laid) × ((course_from x b.refusal (steps_of limit b k)).read ≡ Y ++ (steps_of limit a j).read)) × (8 ≤ a.source.size)) (sym (begun q))
            (refl, tail_is (steps_of limit a j).read (steps_are limit a j).0, long_enough a.source.size a.refusal refusal g.unfinished q)

    -- after the same lexemes the same fault
    one_end : (H : List Laid) (o : Offence) → IsRun (next b limit) limit H → EndsWith (next b limit) H (Some o)
        → ((steps_of limit b k).read ≡ H) × ((steps_of limit b k).fault ≡ Some o)
    one_end H o r w =
        let c = steps_are limit b k in
        let y = run_tail (next b limit) limit H (steps_of limit b k).read (steps_of limit b k).fault r c.0 c.1 in
        let e : (steps_of limit b k).read ≡ H = whole y.0 y.1 in
        (e, fault_is (steps_of limit b k).fault (subst (λ (X : List Laid). EndsWith (next b limit) X (steps_of limit b k).fault) e c.1))
      where
        whole : (Y : List Laid) → (steps_of limit b k).read ≡ Y ++ H → (steps_of limit b k).read ≡ H
        whole [] q = q
        whole (i ∷ Y) q = absurd (not_longer (next b limit) limit (i ∷ Y) H (Some o) (subst (λ (X : List Laid). IsRun (next b limit) limit X) q (steps_are limit b k).0) w (omega arith))

        faults_one : (x y : Offence) → Faults x ≡ Faults y → x ≡ y
        faults_one x y q = cc

        fault_is : (p : Option Offence) → EndsWith (next b limit) H p → p ≡ Some o
        fault_is None v = absurd (false≢true (sym w.0 ∙ v))
        fault_is (Some x) v = ap Some (faults_one x o (sym v.1 ∙ w.1))

    abbrev SameEnd : Course → Course → Fault → Type 0
    SameEnd c d f = (d.fault ≡ Some f) × (d.read ≡ c.read) × (tokens_of limit d ≡ tokens_of limit c)

    of_fault : (f : Fault) (p : Option Offence) → (steps_of limit a j).fault ≡ p → option_map (λ o. o.fault) p ≡ Some f
        → (f ≡ refusal) ⊎ SameEnd (course_from false a.refusal (steps_of limit a j)) (course_from false b.refusal (steps_of limit b k)) f
    of_fault f None q e = cc
    of_fault f (Some o) q e =
        let w : EndsWith (next a limit) (steps_of limit a j).read (Some o) = subst (λ (x : Option Offence). EndsWith (next a limit) (steps_of limit a j).read x) q (steps_are limit a j).1 in
        let r = (steps_are limit a j).0 in
        elim (other_step (steps_of limit a j).read (Faults o) r w.1) [
          | inl z ↦ inl (fault_of o e z)
          | inr z ↦ inr (let n = one_end (steps_of limit a j).read o (steps_go_on_from (steps_of limit a j).read r) (w.0, z) in
              (ap (option_map (λ (o : Offence). o.fault)) n.1 ∙ e, n.0, ap (before limit) n.0))
        ]
      where
        offence_is : (x y : Offence) → Faults x ≡ Faults y → x ≡ y
        offence_is x y q = cc

        fault_of : (o : Offence) → Some o.fault ≡ Some f → Faults o ≡ Faults (record { fault = refusal; place = a.source.size }) → f ≡ refusal
        fault_of o e z = some_fault o.fault f e ∙ ap (λ (x : Offence). x.fault) (offence_is o (record { fault = refusal; place = a.source.size }) z)

    pub fault_in_time : (f : Fault) → (course limit a).fault ≡ Some f → (f ≡ refusal) ⊎ SameEnd (course limit a) (course limit b) f
    unfolding course
    fault_in_time f e = go (starts_near a.source.size a.refusal) refl e
      where
        go : (x : Bool) → starts_near a.source.size a.refusal ≡ x → (course_from x a.refusal (steps_of limit a j)).fault ≡ Some f
            → (f ≡ refusal) ⊎ SameEnd (course_from x a.refusal (steps_of limit a j)) (course_from (starts_near b.source.size b.refusal) b.refusal (steps_of limit b k)) f
        go true q e = inl (some_fault refusal f (sym g.unfinished ∙ e))
        go false q e = subst (λ (x : Bool). (f ≡ refusal) ⊎ SameEnd (course_from false a.refusal (steps_of limit a j)) (course_from x b.refusal (steps_of limit b k)) f) (sym (begun q)) (of_fault f (steps_of limit a j).fault refl e)

pub steps_go_on : StepsGoOn
steps_go_on limit a b refusal H j g r = steps_go_on_from limit a b refusal j g H r

pub tokens_go_on : TokensGoOn
tokens_go_on limit a b refusal j k g = tokens_begin limit a b refusal j g k

pub fault_goes_on : FaultGoesOn
fault_goes_on limit a b refusal f j k g e = fault_in_time limit a b refusal j g k f e

-- REFUSED INPUTS
pub agrees_goes_on : (a b : Input) (refusal : Fault) → AgreesWith a b refusal → GoesOnFrom a b refusal
agrees_goes_on a b refusal g = record { unfinished = g.refused; longer = inl g.accepted; same = g.same }

pub tokens_before_refusal : TokensBeforeRefusal
tokens_before_refusal limit a b refusal j k g = tokens_go_on limit a b refusal j k (agrees_goes_on a b refusal g)

pub fault_before_refusal : FaultBeforeRefusal
fault_before_refusal limit a b refusal f j k g e = fault_goes_on limit a b refusal f j k (agrees_goes_on a b refusal g) e

-- ANSWERS
begins_map : (e d : yaml_encoding_t) (xs ys : List Token) → d ≡ e → Begins xs ys → Begins (map (handed_out e) xs) (map (handed_out d) ys)
begins_map e d xs ys q g = record { rest = map (handed_out e) g.rest; is = rw (q, g.is) (map-append (handed_out e) xs g.rest) }

same_answers : (limit : ℕ) (a b : Input) (f : Fault) → b.encoding ≡ a.encoding → tokens_of limit (course limit b) ≡ tokens_of limit (course limit a) → (course limit b).fault ≡ Some f → (course limit a).fault ≡ Some f
    → answers limit b ≡ answers limit a
unfolding answers
same_answers limit a b f e t x y =
    ap (λ (ts : List yaml_token_t). record { tokens = ts; fault = (course limit b).fault }) (ap (λ (d : yaml_encoding_t). map (handed_out d) (tokens_of limit (course limit b))) e ∙ ap (map (handed_out a.encoding)) t)
    ∙ ap (λ (o : Option Fault). record { tokens = map (handed_out a.encoding) (tokens_of limit (course limit a)); fault = o }) (x ∙ sym y)

module _ (limit : ℕ) (a b : Input) (refusal : Fault) (j : KeepsOrder a.source) (k : KeepsOrder b.source) (g : GoesOnFrom a b refusal) (e : b.encoding ≡ a.encoding) where
  pub answers_begin : Begins (answers limit a).tokens (answers limit b).tokens
  unfolding answers
  answers_begin = begins_map a.encoding b.encoding _ _ e (tokens_go_on limit a b refusal j k g)

  pub answers_end : (f : Fault) → (answers limit a).fault ≡ Some f → (f ≡ refusal) ⊎ (answers limit b ≡ answers limit a)
  unfolding answers
  answers_end f x = elim (fault_goes_on limit a b refusal f j k g x) [
    | inl q ↦ inl q
    | inr q ↦ inr (same_answers limit a b f e q.2 q.0 x)
  ]

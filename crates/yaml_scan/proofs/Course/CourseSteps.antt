-- The steps of an input: how they end, which are near, and what they have to do with the cut.
use Rattle.yaml_text.specs.Fault.{Fault}
use Rattle.std.proofs.Common.{◌≡◌, ℕ, zero, suc, ◌+◌, ◌≤◌, ◌<◌, Bool, true, false, List, [], ◌∷◌, ◌++◌, length, length-append, slice_get, Option, Some, None, refl, ap, sym, ◌∙◌, subst, arith, inl, inr, lt-ltb, ltb-true, ltb-false, append_assoc}
use Rattle.std.specs.Prelude.{option_map}
use Rattle.std.proofs.lemmas.Bool.{cases_Bool, cases_lt, cond_both, false≢true}
use Rattle.yaml_scan.specs.Course.{ended, Cut, cut_from, cut_on, oldest, Input, Course, next, course, course_from}
use Rattle.yaml_scan.specs.Laid.{Laid, Lexeme}
use Rattle.yaml_scan.specs.Levels.{laid}
use Rattle.yaml_scan.specs.Groups.{Token, group, groups, offline, block_ends, inserted}
use Rattle.yaml_scan.specs.Settled.{before, tokens_of}
use Rattle.yaml_scan.specs.Groups.Token.{OfLexeme}
use Rattle.yaml_scan.specs.Order.{IsHistory}
use Rattle.yaml_scan.specs.Begins.{Begins}
use Rattle.yaml_scan.specs.Source.{Offence}
use Rattle.yaml_scan.specs.Step.{Outcome, step}
use Rattle.yaml_scan.specs.Step.Outcome.{Reads, Faults}
use Rattle.yaml_scan.specs.Cut.{cut, IsRun, EndsWith, KeepsOrder}
use Rattle.yaml_scan.specs.Near.{unless_near, is_near, place_of, starts_near}
use Rattle.yaml_scan.specs.Session.{Call, Session, next_token, is_last}
use Rattle.yaml_scan.specs.Sessions.{new_session}
use Rattle.yaml_scan.specs.Session.{after}
use Rattle.yaml_scan.specs.Sessions.{after_all}
use Rattle.yaml_scan.specs.Session.Call.{SCAN, PEEK, SKIP}
use Rattle.yaml_scan.specs.Laws.{StepsBeginCut, CutIsOnly}
use Rattle.yaml_scan.specs.SessionLaws.{CourseIsHistory, EndsOrFaults, NearStepIsRefused, FarStepIsItself, CourseIsRun}
use Rattle.yaml_scan.specs.SessionLaws.{FaultOfRefused, RefusedHasFault, AcceptedIsCut, FrontIsCut, NoneIsStuck}
use Rattle.yaml_scan.specs.SessionLaws.FaultOfRefused.{at_once, near, far}
use Rattle.yaml_scan.proofs.SessionCalls.CallCases.{after_scan, after_peek, after_skip}
use Rattle.yaml_scan.proofs.Course.LongestCut.{IsOrderly, orderly, IsHistory-from_run, cut_of, cut_is_longest}
use Rattle.yaml_scan.proofs.TokenList.SettledStays.{before-before}
use Rattle.yaml_scan.proofs.TokenList.OneLexemeMore.{all_is_handed_out}
use Rattle.yaml_scan.proofs.Course.StepsNeeded.{split, oldest_length}

-- NEAR STEPS
near_reads : (size : ℕ) (r : Option Fault) (o : Outcome) (x : Lexeme) → unless_near size r o ≡ Reads x → o ≡ Reads x
near_reads size None o x e = e
near_reads size (Some f) o x e = elim (cases_Bool (is_near size (place_of o))) [
  | inl q ↦ (let g : Faults (record { fault = f; place = size }) ≡ Reads x = rw q at e in cc)
  | inr q ↦ (rw q at e)
]

module _ (limit : ℕ) (input : Input) where
  next_reads : (H : List Laid) (x : Lexeme) → next input limit H ≡ Reads x → step input.source limit H ≡ Reads x
  unfolding next
  next_reads H x e = near_reads input.source.size input.refusal (step input.source limit H) x e

  pub run_of_text : (H : List Laid) → IsRun (next input limit) limit H → IsRun (step input.source limit) limit H
  run_of_text [] r = tt
  run_of_text (i ∷ H) r = (r.0, next_reads H i.lexeme r.1, run_of_text H r.2, r.3)

  module _ (k : KeepsOrder input.source) where
    pub next_orderly : IsOrderly (next input limit) limit input.source.size
    next_orderly H x r e s = orderly input.source k limit H x (run_of_text H r) e (next_reads H x s)

    abbrev pub steps_of : Cut
    steps_of = cut_from (next input limit) (input.source.size + 1) limit []

    pub steps_are : IsRun (next input limit) limit steps_of.read × EndsWith (next input limit) steps_of.read steps_of.fault
    steps_are = cut_of (next input limit) limit input.source.size next_orderly

pub course_is_history : CourseIsHistory
unfolding course
course_is_history limit input k = cases (starts_near input.source.size input.refusal)
  where
    cases : (b : Bool) → IsHistory limit (course_from b input.refusal (steps_of limit input k)).read
    cases true = tt
    cases false = IsHistory-from_run (next input limit) limit input.source.size (next_orderly limit input k) (steps_of limit input k).read (steps_are limit input k).0

not_near_none : (size : ℕ) (r : Option Fault) → r ≡ None → starts_near size r ≡ false
not_near_none size r e = rw e refl

pub ends_or_faults : EndsOrFaults
unfolding course
ends_or_faults limit input k e = go (starts_near input.source.size input.refusal) refl e
  where
    at_end : (o : Option Offence) → EndsWith (next input limit) (steps_of limit input k).read o → option_map (λ o. o.fault) o ≡ None → ended (steps_of limit input k).read ≡ true
    at_end None w e = w
    at_end (Some o) w e = cc

    go : (b : Bool) → starts_near input.source.size input.refusal ≡ b → (course_from b input.refusal (steps_of limit input k)).fault ≡ None
        → ((course_from b input.refusal (steps_of limit input k)).begun ≡ true) × (ended (course_from b input.refusal (steps_of limit input k)).read ≡ true)
        × (tokens_of limit (course_from b input.refusal (steps_of limit input k)) ≡ offline (course_from b input.refusal (steps_of limit input k)).read)
    go true q e = absurd (false≢true (sym (not_near_none input.source.size input.refusal e) ∙ q))
    go false q e =
        let w = at_end (steps_of limit input k).fault (steps_are limit input k).1 e in
        let h = IsHistory-from_run (next input limit) limit input.source.size (next_orderly limit input k) (steps_of limit input k).read (steps_are limit input k).0 in
        (refl, w, (all_is_handed_out limit (steps_of limit input k).read h w).1)

-- the stream end of a refused text is near
pub refused_not_ended : (limit : ℕ) (input : Input) (f : Fault) → KeepsOrder input.source → input.refusal ≡ Some f → (H : List Laid) → IsRun (next input limit) limit H → ended H ≡ true → ⊥
unfolding next
refused_not_ended limit input f k e [] r w = false≢true w
refused_not_ended limit input f k e (i ∷ H) r w =
    let n = next_orderly limit input k H i.lexeme r.2 r.3 r.1 in
    let p : i.lexeme.place ≡ input.source.size = n.ends w in
    let s : step input.source limit H ≡ Reads i.lexeme = next_reads limit input H i.lexeme r.1 in
    let u : unless_near input.source.size (Some f) (Reads i.lexeme) ≡ Reads i.lexeme = subst (λ (o : Option Fault). unless_near input.source.size o (Reads i.lexeme) ≡ Reads i.lexeme) e (subst (λ (o : Outcome). unless_near input.source.size input.refusal o ≡ Reads i.lexeme) s r.1) in
    let t : is_near input.source.size i.lexeme.place ≡ true = lt-ltb input.source.size (i.lexeme.place + 8) (omega arith) in
    let v : Faults (record { fault = f; place = input.source.size }) ≡ Reads i.lexeme = rw t at u in
    faults_reads _ i.lexeme v
  where
    faults_reads : (o : Offence) (x : Lexeme) → Faults o ≡ Reads x → ⊥
    faults_reads o x v = cc

pub is_within : (size : ℕ) (p : ℕ) → is_near size p ≡ true → size < p + 8
is_within size p e = ltb-true size (p + 8) e

is_far : (size : ℕ) (p : ℕ) → is_near size p ≡ false → p + 8 ≤ size
is_far size p e = ltb-false size (p + 8) e

near_step : (size : ℕ) (r : Option Fault) (f : Fault) (o : Outcome) → r ≡ Some f → size < place_of o + 8 → unless_near size r o ≡ Faults (record { fault = f; place = size })
near_step size r f o e l = let q : is_near size (place_of o) ≡ true = lt-ltb size (place_of o + 8) l in rw e (rw q refl)

far_step : (size : ℕ) (r : Option Fault) (o : Outcome) → place_of o + 8 ≤ size → unless_near size r o ≡ o
far_step size None o l = refl
far_step size (Some f) o l = elim (cases_Bool (is_near size (place_of o))) [
  | inl q ↦ (let k = is_within size (place_of o) q in absurd (omega arith))
  | inr q ↦ rw q refl
]

pub near_step_is_refused : NearStepIsRefused
unfolding next
near_step_is_refused limit input f H e l = near_step input.source.size input.refusal f (step input.source limit H) e l

pub far_step_is_itself : FarStepIsItself
unfolding next
far_step_is_itself limit input H l = far_step input.source.size input.refusal (step input.source limit H) l

pub course_is_run : CourseIsRun
unfolding course
course_is_run limit input k = cases (starts_near input.source.size input.refusal)
  where
    cases : (b : Bool) → IsRun (next input limit) limit (course_from b input.refusal (steps_of limit input k)).read
    cases true = tt
    cases false = (steps_are limit input k).0

-- which fault
starts_within : (size : ℕ) (r : Option Fault) → starts_near size r ≡ true → size < 8
starts_within size None e = absurd (false≢true e)
starts_within size (Some f) e = let k = is_within size 0 e in omega arith

module _ (limit : ℕ) (input : Input) (f : Fault) (k : KeepsOrder input.source) (e : input.refusal ≡ Some f) where
  abbrev of_steps : Option Offence → Course
  of_steps o = record { begun = true; read = (steps_of limit input k).read; fault = option_map (λ o. o.fault) o }

  same_offence : (a b : Offence) → Faults a ≡ Faults b → a ≡ b
  same_offence a b q = cc

  of_offence : (o : Offence) → next input limit (steps_of limit input k).read ≡ Faults o → FaultOfRefused limit input f (of_steps (Some o))
  of_offence o q = elim (cases_lt input.source.size (place_of (step input.source limit (steps_of limit input k).read) + 8)) [
    | inl l ↦ near refl l (ap (λ (z : Offence). Some z.fault) (same_offence o (record { fault = f; place = input.source.size }) (sym q ∙ near_step_is_refused limit input f (steps_of limit input k).read e l)))
    | inr l ↦ (let s : step input.source limit (steps_of limit input k).read ≡ Faults o = sym (far_step_is_itself limit input (steps_of limit input k).read l) ∙ q in
        far o refl s (subst (λ (z : Outcome). place_of z + 8 ≤ input.source.size) s l) refl)
  ]

  of_cut : (o : Option Offence) → EndsWith (next input limit) (steps_of limit input k).read o → FaultOfRefused limit input f (of_steps o)
  of_cut None w = absurd (refused_not_ended limit input f k e (steps_of limit input k).read (steps_are limit input k).0 w)
  of_cut (Some o) w = of_offence o w.1

pub refused_has_fault : RefusedHasFault
unfolding course
refused_has_fault limit input f k e = go (starts_near input.source.size input.refusal) refl
  where
    go : (b : Bool) → starts_near input.source.size input.refusal ≡ b → FaultOfRefused limit input f (course_from b input.refusal (steps_of limit input k))
    go true q = at_once refl (starts_within input.source.size input.refusal q) e
    go false q = of_cut limit input f k e (steps_of limit input k).fault (steps_are limit input k).1

-- ACCEPTED INPUTS
cut_same : (f g : List Laid → Outcome) (limit : ℕ) → ((H : List Laid) → f H ≡ g H) → (n : ℕ) (H : List Laid) → cut_from f n limit H ≡ cut_from g n limit H
cut_same f g limit e zero H = refl
cut_same f g limit e (suc n) H = elim (cases_Bool (ended H)) [
  | inl q ↦ rw q refl
  | inr q ↦ rw q (ap (λ (o : Outcome). cut_on (cut_from f n) limit H o) (e H) ∙ on (cut_same f g limit e n) (g H))
]
  where
    on : ((H : List Laid) → cut_from f n limit H ≡ cut_from g n limit H) → (o : Outcome) → cut_on (cut_from f n) limit H o ≡ cut_on (cut_from g n) limit H o
    on ih (Faults o) = refl
    on ih (Reads x) = ih (laid limit H x ∷ H)

accepted_next : (limit : ℕ) (input : Input) → input.refusal ≡ None → (H : List Laid) → next input limit H ≡ step input.source limit H
unfolding next
accepted_next limit input e H = rw e refl

pub accepted_is_cut : AcceptedIsCut
unfolding course cut
accepted_is_cut limit input e =
    let s = cut_same (next input limit) (step input.source limit) limit (accepted_next limit input e) (input.source.size + 1) [] in
    let q : starts_near input.source.size input.refusal ≡ false = not_near_none input.source.size input.refusal e in
    rw q (ap (λ (c : Cut). c.read) s, ap (λ (c : Cut). option_map (λ o. o.fault) c.fault) s)

-- FRONTS
module _ (step : List Laid → Outcome) (limit : ℕ) where
  run_older : (Y P : List Laid) → IsRun step limit (Y ++ P) → IsRun step limit P
  run_older [] P r = r
  run_older (i ∷ Y) P r = run_older Y P r.2

  reads_one : (x y : Lexeme) → Reads x ≡ Reads y → x ≡ y
  reads_one x y e = cc

  run_same : (A B : List Laid) → IsRun step limit A → IsRun step limit B → length A ≡ length B → A ≡ B
  run_same [] [] r s e = refl
  run_same [] (j ∷ B) r s e = absurd (omega arith)
  run_same (i ∷ A) [] r s e = absurd (omega arith)
  run_same (i ∷ A) (j ∷ B) r s e =
      let q = run_same A B r.2 s.2 (omega arith) in
      let x : i.lexeme ≡ j.lexeme = reads_one i.lexeme j.lexeme (sym r.1 ∙ ap step q ∙ s.1) in
      let y : i ≡ j = r.0 ∙ ap (λ (X : List Laid). laid limit X i.lexeme) q ∙ ap (λ (z : Lexeme). laid limit B z) x ∙ sym s.0 in
      ap (λ (z : Laid). z ∷ A) y ∙ ap (λ (X : List Laid). j ∷ X) q

  -- after the longest one no lexeme follows
  pub not_longer : (Y P : List Laid) (o : Option Offence) → IsRun step limit (Y ++ P) → EndsWith step P o → 0 < length Y → ⊥
  not_longer [] P o r w l = omega arith
  not_longer (y ∷ []) P None r w l = false≢true (sym r.3 ∙ w)
  not_longer (y ∷ []) P (Some o) r w l = faults_reads o y.lexeme (sym w.1 ∙ r.1)
    where
      faults_reads : (o : Offence) (x : Lexeme) → Faults o ≡ Reads x → ⊥
      faults_reads o x v = cc
  not_longer (y ∷ z ∷ Y) P o r w l = not_longer (z ∷ Y) P o r.2 w (omega arith)

  -- each run begins the longest one
  pub run_tail : (A B : List Laid) (o : Option Offence) → IsRun step limit A → IsRun step limit B → EndsWith step B o → (Y : List Laid) × (B ≡ Y ++ A)
  run_tail A B o r s w = elim (cases_lt (length B) (length A)) [
    | inr l ↦ (let y = split B (length A) l in
        let n = oldest_length B (length A) l in
        let u : IsRun step limit (oldest (length A) B) = run_older y.0 (oldest (length A) B) (subst (λ (X : List Laid). IsRun step limit X) y.1 s) in
        let q : oldest (length A) B ≡ A = run_same (oldest (length A) B) A u r n in
        (y.0, y.1 ∙ ap (λ (X : List Laid). y.0 ++ X) q))
    | inl l ↦ (let y = split A (length B) (omega arith) in
        let n = oldest_length A (length B) (omega arith) in
        let t : IsRun step limit (y.0 ++ oldest (length B) A) = subst (λ (X : List Laid). IsRun step limit X) y.1 r in
        let q : oldest (length B) A ≡ B = run_same (oldest (length B) A) B (run_older y.0 (oldest (length B) A) t) s n in
        let m = ap (λ (X : List Laid). length X) y.1 in
        let k = length-append y.0 (oldest (length B) A) in
        absurd (not_longer y.0 B o (subst (λ (X : List Laid). IsRun step limit (y.0 ++ X)) q t) w (omega arith)))
  ]

pub steps_begin_cut : StepsBeginCut
steps_begin_cut S limit H k r = let c = cut_is_longest S limit k in run_tail (step S limit) limit H (cut S limit).read (cut S limit).fault r c.0 c.1

pub cut_is_only : CutIsOnly
cut_is_only S limit H o k r w = both (steps_begin_cut S limit H k r)
  where
    c : IsRun (step S limit) limit (cut S limit).read × EndsWith (step S limit) (cut S limit).read (cut S limit).fault
    c = cut_is_longest S limit k

    one_offence : (a b : Option Offence) (X : List Laid) → EndsWith (step S limit) X a → EndsWith (step S limit) X b → a ≡ b
    one_offence None None X u v = refl
    one_offence None (Some b) X u v = absurd (false≢true (sym v.0 ∙ u))
    one_offence (Some a) None X u v = absurd (false≢true (sym u.0 ∙ v))
    one_offence (Some a) (Some b) X u v = ap (λ (z : Offence). Some z) (same a b (sym u.1 ∙ v.1))
      where
        same : (a b : Offence) → Faults a ≡ Faults b → a ≡ b
        same a b q = cc

    both : (y : (Y : List Laid) × ((cut S limit).read ≡ Y ++ H)) → (H ≡ (cut S limit).read) × (o ≡ (cut S limit).fault)
    both ([], e) = (sym e, one_offence o (cut S limit).fault H w (subst (λ (X : List Laid). EndsWith (step S limit) X (cut S limit).fault) e c.1))
    both ((y ∷ Y), e) = absurd (not_longer (step S limit) limit (y ∷ Y) H o (subst (λ (X : List Laid). IsRun (step S limit) limit X) e c.0) w (omega arith))

pub front_is_cut : FrontIsCut
unfolding course
front_is_cut limit input k = go (starts_near input.source.size input.refusal)
  where
    go : (b : Bool) → Begins (tokens_of limit (course_from b input.refusal (steps_of limit input k))) (before limit (cut input.source limit).read)
    go true = record { rest = before limit (cut input.source limit).read; is = refl }
    go false =
        let c = cut_is_longest input.source limit k in
        let y = run_tail (step input.source limit) limit (steps_of limit input k).read (cut input.source limit).read (cut input.source limit).fault (run_of_text limit input (steps_of limit input k).read (steps_are limit input k).0) c.0 c.1 in
        let h = IsHistory-from_run (step input.source limit) limit input.source.size (orderly input.source k limit) (cut input.source limit).read c.0 in
        subst (λ (X : List Laid). Begins (before limit (steps_of limit input k).read) (before limit X)) (sym y.1) (before-before limit y.0 (steps_of limit input k).read (subst (λ (X : List Laid). IsHistory limit X) y.1 h))

-- NO CALL IS STUCK
pub last_token : (i : Laid) (H : List Laid) → offline (i ∷ H) ≡ (groups (i ∷ H) H ++ (block_ends i ++ inserted (i ∷ H) i)) ++ OfLexeme i.lexeme ∷ []
unfolding offline groups group
last_token i H = ap (λ (l : List Token). groups (i ∷ H) H ++ l) (sym (append_assoc (block_ends i) (inserted (i ∷ H) i) (OfLexeme i.lexeme ∷ []))) ∙ sym (append_assoc (groups (i ∷ H) H) (block_ends i ++ inserted (i ∷ H) i) (OfLexeme i.lexeme ∷ []))

get_last : (a : List Token) (y : Token) → slice_get (a ++ y ∷ []) (length a) ≡ Some y
get_last [] y = refl
get_last (z ∷ a) y = get_last a y

get_within : (l : List Token) (t : ℕ) (x : Token) → slice_get l t ≡ Some x → t < length l
get_within [] t x e = cc
get_within (y ∷ l) zero x e = omega arith
get_within (y ∷ l) (suc t) x e = let r = get_within l t x e in omega arith

get_none : (xs : List Token) (n : ℕ) → slice_get xs n ≡ None → length xs ≤ n
get_none [] n e = omega arith
get_none (x ∷ xs) zero e = absurd (cc)
get_none (x ∷ xs) (suc n) e = let r = get_none xs n e in omega arith

some_token : (a b : Token) → Some a ≡ Some b → b ≡ a
some_token a b q = cc

-- the last token is the stream end's
pub not_last : (H : List Laid) (t : ℕ) (x : Token) → ended H ≡ true → slice_get (offline H) t ≡ Some x → is_last x ≡ false → t + 1 < length (offline H)
not_last [] t x e g n = absurd (false≢true e)
not_last (i ∷ H) t x e g n = elim (cases_lt (t + 1) (length (offline (i ∷ H)))) [
  | inl m ↦ m
  | inr m ↦ (let l = get_within (offline (i ∷ H)) t x g in
      let k = ap (λ (z : List Token). length z) (last_token i H) in
      let a = length-append (groups (i ∷ H) H ++ (block_ends i ++ inserted (i ∷ H) i)) (OfLexeme i.lexeme ∷ []) in
      let u : t ≡ length (groups (i ∷ H) H ++ (block_ends i ++ inserted (i ∷ H) i)) = omega arith in
      let v : slice_get (offline (i ∷ H)) t ≡ Some (OfLexeme i.lexeme) = subst (λ (z : ℕ). slice_get (offline (i ∷ H)) z ≡ Some (OfLexeme i.lexeme)) (sym u) (subst (λ (z : List Token). slice_get z (length (groups (i ∷ H) H ++ (block_ends i ++ inserted (i ∷ H) i))) ≡ Some (OfLexeme i.lexeme)) (sym (last_token i H)) (get_last (groups (i ∷ H) H ++ (block_ends i ++ inserted (i ∷ H) i)) (OfLexeme i.lexeme))) in
      let w : x ≡ OfLexeme i.lexeme = some_token (OfLexeme i.lexeme) x (sym v ∙ g) in
      absurd (false≢true (sym n ∙ ap is_last w ∙ e)))
]

some_groups : (W B : List Laid) → 0 < length (groups W B)
unfolding groups
some_groups W [] = omega arith
some_groups W (i ∷ B) = let r = some_groups W B in let a = length-append (groups W B) (group W i) in omega arith

some_first : (H : List Laid) → 0 < length (offline H)
unfolding offline
some_first H = some_groups H H

module _ (limit : ℕ) (c : Course) (w : ended c.read ≡ true) (t : tokens_of limit c ≡ offline c.read) where
  -- a token is left
  abbrev IsGoing : Session → Type 0
  IsGoing s = s.over ≡ false → s.taken < length (tokens_of limit c)

  going_took : (s : Session) (x : Token) → next_token limit c s ≡ Some x → is_last x ≡ false → s.taken + 1 < length (tokens_of limit c)
  going_took s x q n = rw t (not_last c.read s.taken x w (ap (λ (l : List Token). slice_get l s.taken) (sym t) ∙ q) n)

  going_scan : (s : Session) → IsGoing s → (o : Option Token) → next_token limit c s ≡ o → IsGoing (after_scan limit c s o)
  going_scan s g None q = λ e. absurd (false≢true (sym e))
  going_scan s g (Some x) q = λ e. going_took s x q e

  going_peek : (s : Session) → IsGoing s → (o : Option Token) → next_token limit c s ≡ o → IsGoing (after_peek limit c s o)
  going_peek s g None q = λ e. absurd (false≢true (sym e))
  going_peek s g (Some x) q = g

  going_skip : (s : Session) → IsGoing s → (o : Option Token) → next_token limit c s ≡ o → IsGoing (after_skip s o)
  going_skip s g None q = g
  going_skip s g (Some x) q = λ e. going_took s x q e

  going_after : (call : Call) (s : Session) → IsGoing s → IsGoing (after limit c call s)
  going_after SCAN s g = cond_both s.over s (after_scan limit c s (next_token limit c s)) (λ r. IsGoing r) (λ e. g) (λ e. going_scan s g (next_token limit c s) refl)
  going_after PEEK s g = cond_both s.over s (after_peek limit c s (next_token limit c s)) (λ r. IsGoing r) (λ e. g) (λ e. going_peek s g (next_token limit c s) refl)
  going_after SKIP s g = cond_both s.peeked (after_skip s (next_token limit c s)) s (λ r. IsGoing r) (λ e. going_skip s g (next_token limit c s) refl) (λ e. g)

  going_all : (calls : List Call) (s : Session) → IsGoing s → IsGoing (after_all limit c calls s)
  unfolding after_all
  going_all [] s g = g
  going_all (call ∷ calls) s g = going_all calls (after limit c call s) (going_after call s g)

  going_first : IsGoing new_session
  going_first e = rw t (some_first c.read)

pub none_is_stuck : NoneIsStuck
none_is_stuck limit input calls k e q = go (course limit input).fault refl
  where
    go : (o : Option Fault) → (course limit input).fault ≡ o → (f : Fault) × (o ≡ Some f)
    go (Some f) z = (f, refl)
    go None z =
        let a = ends_or_faults limit input k z in
        let g = going_all limit (course limit input) a.1 a.2 calls new_session (going_first limit (course limit input) a.1 a.2) e in
        let n = get_none (tokens_of limit (course limit input)) (after_all limit (course limit input) calls new_session).taken q in
        absurd (omega arith)

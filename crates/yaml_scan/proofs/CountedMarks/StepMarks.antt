-- So are the marks of an input's lexemes and of its fault.
use Rattle.std.proofs.Common.{◌≡◌, ℕ, zero, suc, ◌+◌, Bool, true, false, List, [], ◌∷◌, ◌++◌, Option, Some, None, Ok, Err, refl, sym, subst, arith, inl, inr}
use Rattle.std.specs.Prelude.{◌⊎◌, ◌&&◌, Result, nat_lt, nat_eq, option_map, IfSome, if◌then◌else◌}
use Rattle.std.proofs.lemmas.Bool.{cases_Bool}
use Rattle.yaml_text.specs.Fault.{Fault}
use Rattle.yaml_text.specs.declared.types.yaml_mark_t.{yaml_mark_t}
use Rattle.yaml_scan.specs.inside.StepParts.{kind_step, read_step, after_read}
use Rattle.yaml_scan.specs.Course.{ended, Cut, cut_from, cut_on, Input, Course, next, course, course_from}
use Rattle.yaml_scan.specs.Kind.{Kind, is_stream_end, is_candidate_kind}
use Rattle.yaml_scan.specs.Laid.{Laid, Lexeme}
use Rattle.yaml_scan.specs.Keys.{candidate, live, only_live}
use Rattle.yaml_scan.specs.Depth.{depth}
use Rattle.yaml_scan.specs.Allowed.{allowed, allowed_after}
use Rattle.yaml_scan.specs.Levels.{level, laid, is_required}
use Rattle.yaml_scan.specs.Source.{Source, Reading, Offence}
use Rattle.yaml_scan.specs.Step.{Outcome, step, gap_end_of, place_after, unless}
use Rattle.yaml_scan.specs.Step.{refuse, stale, only_stale, required, only_required, clears, replaces, refused}
use Rattle.yaml_scan.specs.Step.{start_at, end_of, lexeme_of}
use Rattle.yaml_scan.specs.Step.Outcome.{Reads, Faults}
use Rattle.yaml_scan.specs.Near.{unless_near, is_near, place_of, starts_near}
use Rattle.yaml_scan.specs.CountedMarks.{IsCounted, IsStreamEnd, FaultIsCounted}
use Rattle.yaml_scan.proofs.History.KeyCandidates.{candidate_split}
use Rattle.yaml_scan.proofs.CountedMarks.ReadMarks.{Whole, ReadMarked, SourceMarked}

module _ (cs : List ℕ) where
  -- a mark that is counted, or that of the end of the stream
  abbrev pub Either : yaml_mark_t → Type 0
  Either m = IsCounted cs m ⊎ IsStreamEnd cs m

  -- LEXEMES
  pub record Marked (x : Lexeme) : Type 0 where
    pub gap_end : IsCounted cs x.gap_end
    pub other : is_stream_end x.kind ≡ false → IsCounted cs x.start × IsCounted cs x.end × IsCounted cs x.reach × Whole cs x.place
    pub last : is_stream_end x.kind ≡ true → IsStreamEnd cs x.start × IsStreamEnd cs x.end × IsStreamEnd cs x.reach

  abbrev pub AllMarked : List Laid → Type 0
  AllMarked [] = Unit {0}
  AllMarked (i ∷ H) = Marked i.lexeme × AllMarked H

  pub reach_marked : (x : Lexeme) → Marked x → Either x.reach
  reach_marked x m = elim (cases_Bool (is_stream_end x.kind)) [
    | inl e ↦ inr ((m.last e).2)
    | inr e ↦ inl ((m.other e).2)
  ]

  marked_in : (A : List Laid) (c : Laid) (B : List Laid) → AllMarked (A ++ c ∷ B) → Marked c.lexeme
  marked_in [] c B m = m.0
  marked_in (i ∷ A) c B m = marked_in A c B m.1

  candidate_not_end : (k : Kind) → is_candidate_kind k ≡ true → is_stream_end k ≡ false
  candidate_not_end k e = grind arith

  candidate_counted : (H : List Laid) (k : ℕ) (c : Laid) → AllMarked H → candidate H k ≡ Some c → IsCounted cs c.lexeme.start
  candidate_counted H k c m e =
      let s = candidate_split H k c e in
      let o = (marked_in s.newer c s.older (subst (λ (z : List Laid). AllMarked z) s.is m)).other (candidate_not_end c.lexeme.kind s.saved.candidate) in
      o.0

  -- one of the candidates of a list, or none
  abbrev Counts : Option Laid → Type 0
  Counts o = IfSome o (λ i. IsCounted cs i.lexeme.start)

  candidate_counts : (H : List Laid) (k : ℕ) → AllMarked H → Counts (candidate H k)
  candidate_counts H k m = go (candidate H k) (λ c e. candidate_counted H k c m e)
    where
      go : (o : Option Laid) → ((c : Laid) → o ≡ Some c → IsCounted cs c.lexeme.start) → Counts o
      go None f = tt
      go (Some c) f = f c refl

  required_counts : (H : List Laid) → AllMarked H → Counts (required H)
  unfolding required
  required_counts H m = go (candidate H 0) (candidate_counts H 0 m)
    where
      go : (o : Option Laid) → Counts o → Counts (only_required o)
      go None f = tt
      go (Some c) f = cases (is_required c)
        where
          cases : (b : Bool) → Counts (if b then Some c else None)
          cases true = f
          cases false = tt

  stale_counts : (limit : ℕ) (H : List Laid) (m : yaml_mark_t) → AllMarked H → Counts (stale limit H m)
  unfolding stale
  stale_counts limit H m a = go (required H) (required_counts H a)
    where
      go : (o : Option Laid) → Counts o → Counts (only_stale limit m o)
      go None f = tt
      go (Some c) f = cases (live limit c m)
        where
          cases : (b : Bool) → Counts (if b then None else Some c)
          cases true = tt
          cases false = f

  clears_counts : (limit : ℕ) (H : List Laid) (k : Kind) (g : yaml_mark_t) → AllMarked H → Counts (clears limit H k g)
  unfolding clears
  clears_counts limit H k g a = cases (replaces k (allowed H g) && nat_eq (depth H) 0)
    where
      go : (o : Option Laid) → Counts o → Counts (only_live limit g o)
      go None f = tt
      go (Some c) f = still (live limit c g)
        where
          still : (b : Bool) → Counts (if b then Some c else None)
          still true = f
          still false = tt

      cases : (b : Bool) → Counts (if b then only_live limit g (required H) else None)
      cases true = go (required H) (required_counts H a)
      cases false = tt

  -- STEPS
  abbrev OutcomeMarked : Outcome → Type 0
  OutcomeMarked (Reads x) = Marked x
  OutcomeMarked (Faults o) = FaultIsCounted cs o.fault

  unless_marked : (o : Option Laid) (m : yaml_mark_t) (p : ℕ) (y : Outcome) → Counts o → Either m → OutcomeMarked y → OutcomeMarked (unless o m p y)
  unless_marked None m p y f e t = t
  unless_marked (Some i) m p y f (inl e) t = (inl e, f)
  unless_marked (Some i) m p y f (inr e) t = (inr (refl, e), f)

  refuse_marked : (o : Option (List ℕ)) (m : yaml_mark_t) (p : ℕ) (y : Outcome) → IsCounted cs m → OutcomeMarked y → OutcomeMarked (refuse o m p y)
  refuse_marked None m p y e t = t
  refuse_marked (Some problem) m p y e t = (inl e, e)

  module _ (S : Source) (s : SourceMarked cs S) (limit : ℕ) (H : List Laid) (a : AllMarked H) where
    start_marked : (k : Kind) (p : ℕ) → Whole cs p → S.kind (nat_lt 0 (depth H)) p ≡ Some k → Either (start_at k (S.mark p))
    start_marked k p w h = cases (is_stream_end k) (λ e. s.ends (nat_lt 0 (depth H)) p k w h e)
      where
        cases : (b : Bool) → (b ≡ true → IsStreamEnd cs (end_of (S.mark p))) → Either (if b then end_of (S.mark p) else S.mark p)
        cases true f = inr (f refl)
        cases false f = inl (s.mark p w)

    lexeme_marked : (k : Kind) (p : ℕ) (r : Reading) → Whole cs p → S.kind (nat_lt 0 (depth H)) p ≡ Some k → ReadMarked cs k r → Marked (lexeme_of k (S.mark p) r)
    lexeme_marked k p r w h m = record {
      gap_end = s.mark p w;
      other = λ e. (subst (λ (b : Bool). IsCounted cs (if b then end_of (S.mark p) else S.mark p)) (sym e) (s.mark p w), (m.other e).0, (m.other e).1, (m.other e).2);
      last = λ e. (subst (λ (b : Bool). IsStreamEnd cs (if b then end_of (S.mark p) else S.mark p)) (sym e) (s.ends (nat_lt 0 (depth H)) p k w h e), (m.last e).0, (m.last e).1);
    }

    after_marked : (k : Kind) (p : ℕ) (r : Result Reading Offence) → Whole cs p → S.kind (nat_lt 0 (depth H)) p ≡ Some k → ((x : Reading) → r ≡ Ok x → ReadMarked cs k x) → ((o : Offence) → r ≡ Err o → FaultIsCounted cs o.fault)
        → OutcomeMarked (after_read limit H k (S.mark p) r)
    unfolding laid
    after_marked k p (Err o) w h f g = g o refl
    after_marked k p (Ok r) w h f g =
        let x = lexeme_of k (S.mark p) r in
        let m = lexeme_marked k p r w h (f r refl) in
        unless_marked (stale limit (laid limit H x ∷ H) r.reach) r.reach r.place (Reads x) (stale_counts limit (laid limit H x ∷ H) r.reach (m, a)) (reach_marked x m) m

    kind_marked : (p : ℕ) (o : Option Kind) → Whole cs p → S.kind (nat_lt 0 (depth H)) p ≡ o → OutcomeMarked (kind_step S limit H p o)
    unfolding read_step
    kind_marked p None w h = (inl (s.mark p w), s.mark p w)
    kind_marked p (Some k) w h =
        let g = S.mark p in
        let l = level H k (start_at k g) in
        let r = after_marked k p (S.read k (depth H) l p) w h (λ x e. s.reads k (depth H) l p x w h e) (λ o e. s.offends k (depth H) l p o w h e) in
        refuse_marked (refused limit H k g) g p (unless (clears limit H k g) (start_at k g) p (read_step S limit H k p)) (s.mark p w)
        (unless_marked (clears limit H k g) (start_at k g) p (read_step S limit H k p) (clears_counts limit H k g a) (start_marked k p w h) r)

    after_whole : ended H ≡ false → Whole cs (place_after H)
    after_whole e = go H a e
      where
        go : (G : List Laid) → AllMarked G → ended G ≡ false → Whole cs (place_after G)
        go [] m e = s.zero
        go (i ∷ G) m e = (m.0.other e).3

    step_marked : ended H ≡ false → OutcomeMarked (step S limit H)
    unfolding step read_step
    step_marked e =
        let w = s.gap (nat_lt 0 (depth H)) (allowed_after H) (place_after H) (after_whole e) in
        let p = gap_end_of S H in
        let k = S.kind (nat_lt 0 (depth H)) p in
        unless_marked (stale limit H (S.mark p)) (S.mark p) p (kind_step S limit H p k) (stale_counts limit H (S.mark p) a) (inl (s.mark p w)) (kind_marked p k w refl)

  -- near the end the reader's fault comes instead
  near_marked : (size : ℕ) (r : Option Fault) (o : Outcome) → IfSome r (FaultIsCounted cs) → OutcomeMarked o → OutcomeMarked (unless_near size r o)
  near_marked size None o t u = u
  near_marked size (Some f) o t u = cases (is_near size (place_of o))
    where
      cases : (b : Bool) → OutcomeMarked (if b then Faults (record { fault = f; place = size }) else o)
      cases true = t
      cases false = u

  -- THE COURSE
  abbrev CutMarked : Cut → Type 0
  CutMarked c = AllMarked c.read × IfSome c.fault (λ o. FaultIsCounted cs o.fault)

  module _ (next : List Laid → Outcome) (limit : ℕ) (marked : (H : List Laid) → AllMarked H → ended H ≡ false → OutcomeMarked (next H)) where
    cut_marked : (n : ℕ) (H : List Laid) → AllMarked H → CutMarked (cut_from next n limit H)
    unfolding laid
    cut_marked zero H t = (t, tt)
    cut_marked (suc n) H t = cases (λ x u. cut_marked n (laid limit H x ∷ H) (u, t)) (ended H) (next H) (marked H t)
      where
        cases : ((x : Lexeme) → Marked x → CutMarked (cut_from next n limit (laid limit H x ∷ H))) → (b : Bool) (o : Outcome) → (b ≡ false → OutcomeMarked o)
            → CutMarked (if b then record { read = H; fault = None } else cut_on (cut_from next n) limit H o)
        cases more true o u = (t, tt)
        cases more false (Faults o) u = (t, u refl)
        cases more false (Reads x) u = more x (u refl)

  abbrev pub CourseMarked : Course → Type 0
  CourseMarked c = AllMarked c.read × IfSome c.fault (FaultIsCounted cs)

  fault_marked : (o : Option Offence) → IfSome o (λ x. FaultIsCounted cs x.fault) → IfSome (option_map (λ x. x.fault) o) (FaultIsCounted cs)
  fault_marked None t = tt
  fault_marked (Some o) t = t

  from_marked : (b : Bool) (r : Option Fault) (c : Cut) → IfSome r (FaultIsCounted cs) → CutMarked c → CourseMarked (course_from b r c)
  from_marked true r c t u = (tt, t)
  from_marked false r c t u = (u.0, fault_marked c.fault u.1)

  pub course_marked : (limit : ℕ) (input : Input) → SourceMarked cs input.source → IfSome input.refusal (FaultIsCounted cs) → CourseMarked (course limit input)
  unfolding course next
  course_marked limit input s r = from_marked (starts_near input.source.size input.refusal) input.refusal (cut_from (next input limit) (input.source.size + 1) limit []) r
      (cut_marked (next input limit) limit (λ H a e. near_marked input.source.size input.refusal (step input.source limit H) r (step_marked input.source s limit H a e)) (input.source.size + 1) [] tt)

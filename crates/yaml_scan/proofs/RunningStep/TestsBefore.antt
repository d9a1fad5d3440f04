-- The tests of a step before its lexeme are those of the definition, from what the scanner computes.
use Rattle.std.proofs.Common.{◌≡◌, ℕ, ◌+◌, ◌≤◌, not, ◌&&◌, ◌||◌, Bool, true, false, List, length, Option, Some, None, refl, ap, sym, ◌∙◌, subst, arith, vec_len, eqb-true}
use Rattle.std.specs.Option.{is_some}
use Rattle.std.specs.Prelude.{if◌then◌else◌, option_map, nat_eq, nat_lt}
use Rattle.yaml_text.specs.declared.types.yaml_mark_t.{yaml_mark_t}
use Rattle.yaml_text.specs.Fault.{Fault, scanner_fault}
use Rattle.yaml_lexeme.specs.Counted.{IsMarkOf}
use Rattle.yaml_scan.specs.Step.{no_token, in_next_token}
use Rattle.yaml_scan.specs.inside.StepParts.{kind_step, read_step}
use Rattle.yaml_scan.specs.Course.{ended}
use Rattle.yaml_scan.specs.declared.groups.group_t.{group_t}
use Rattle.yaml_scan.specs.inside.Scanner.{Scanner}
use Rattle.yaml_scan.specs.Kind.{Kind}
use Rattle.yaml_scan.specs.Source.{Source, Offence}
use Rattle.yaml_scan.specs.SourceOf.{source_of}
use Rattle.yaml_scan.specs.inside.Slots.{Held, held, held_of, lost_held, needed, root_of, completed_held}
use Rattle.yaml_scan.specs.Laid.{Laid, reach, is_none}
use Rattle.yaml_scan.specs.Depth.{depth}
use Rattle.yaml_scan.specs.Keys.{only_live, completed_by}
use Rattle.yaml_scan.specs.Allowed.{allowed, allowed_after}
use Rattle.yaml_scan.specs.Order.{IsNotBefore}
use Rattle.yaml_scan.specs.Step.{Outcome, step, unless, refuse, stale, required, refused, clears}
use Rattle.yaml_scan.specs.Step.{lost, no_kind, not_allowed, problem_of, replaces, start_at, gap_end_of, place_after}
use Rattle.yaml_scan.specs.Step.Outcome.{Faults}
use Rattle.yaml_scan.specs.inside.StepFaults.{IsLost, IsRefused}
use Rattle.yaml_scan.specs.inside.Scanning.{HoldsWith, Offends}
use Rattle.yaml_scan.proofs.RunningStep.SlotTests.{completed_later, needed_later, lost_later, root_is, outer_length, kept_row, lost_row, zero_test}
use Rattle.yaml_scan.proofs.Texts.TextOrder.{text_order}

pub is_none_map : (o : Option Laid) → is_none (option_map held_of o) ≡ is_none o
is_none_map None = refl
is_none_map (Some c) = refl

pub is_none_some : {A : Type 0} (o : Option A) (b : Bool) → is_some o ≡ not b → b ≡ is_none o
is_none_some None true e = refl
is_none_some None false e = cc
is_none_some (Some a) true e = cc
is_none_some (Some a) false e = refl

pub none_of : {A : Type 0} (o : Option A) → is_some o ≡ false → o ≡ None
none_of None e = refl
none_of (Some a) e = cc

-- a lost candidate's fault
pub record Loses (m : yaml_mark_t) (p : ℕ) (r : Outcome) (f : Fault) : Type 0 where
  pub start : yaml_mark_t
  pub is : r ≡ Faults (lost start m p)
  pub fault : (lost start m p).fault ≡ f

pub loses : (o : Option Laid) (h : Option Held) (m : yaml_mark_t) (p : ℕ) (r : Outcome) (f : Fault) → h ≡ option_map held_of o → IsLost h m f → Loses m p (unless o m p r) f
loses o None m p r f e l = absurd l
loses o (Some h) m p r f e l = record { start = h.start; is = lost_row o (Some h) h m p r e refl; fault = sym l }

pub start_index : (k : Kind) (g : yaml_mark_t) → (start_at k g).index ≡ g.index
start_index k g = go (Rattle.yaml_scan.specs.Kind.is_stream_end k) (nat_eq g.column 0)
  where
    go : (a b : Bool) → (if a then (if b then g else record { index = g.index; line = g.line + 1; column = 0 }) else g).index ≡ g.index
    go true true = refl
    go true false = refl
    go false b = refl

module _ (H : List Laid) (n : ℕ) (s : Scanner) {ys : List group_t} (r : HoldsWith H n s ys) (running : ended H ≡ false) (in_flow : Bool) (FLOW : in_flow ≡ nat_lt 0 (vec_len s.slots.outer)) where
  pub flow_is : in_flow ≡ nat_lt 0 (depth H)
  flow_is = let e = ap (λ (l : List (Option Held)). length l) r.keys.outer in let o = outer_length s.limit H (depth H) in let n : vec_len s.slots.outer ≡ depth H = omega arith in FLOW ∙ (rw n refl)

  block_is : not in_flow ≡ nat_eq (depth H) 0
  block_is = ap (λ (b : Bool). not b) flow_is ∙ zero_test (depth H)

  pub root_held : (root : Option Held) (l : List (Option Held)) → l ≡ s.slots.outer.items → root ≡ root_of l s.slots.top → root ≡ held s.limit H 0
  root_held root l e f = f ∙ (rw (e, r.keys.outer) (root_is s.limit H (depth H) s.slots.top (λ z. r.keys.top ∙ ap (λ (n : ℕ). held s.limit H n) z)))

  abbrev S : Source
  S = source_of s.text.chars

  abbrev P : ℕ
  P = gap_end_of S H

  -- where the gap ends
  pub gap_end_mark : (g : yaml_mark_t) → IsMarkOf s.text.chars g (S.gap in_flow s.allowed (place_after H)) → IsMarkOf s.text.chars g P
  gap_end_mark g i = subst (λ (f : Bool). IsMarkOf s.text.chars g (S.gap f (allowed_after H) (place_after H))) flow_is (subst (λ (a : Bool). IsMarkOf s.text.chars g (S.gap in_flow a (place_after H))) r.keys.allowed i)

  module _ (g : yaml_mark_t) (G : IsMarkOf s.text.chars g P) where
    pub mark_is : g ≡ S.mark P
    unfolding source_of
    mark_is = G.mark_is

    reach_is : reach H ≡ S.mark (place_after H)
    unfolding source_of
    reach_is = sym r.reach ∙ (r.place running).mark_is

    within_text : place_after H ≤ S.size
    unfolding source_of
    within_text = (r.place running).within

    size_is : S.size ≡ length s.text.chars
    unfolding source_of
    size_is = refl

    pub later : IsNotBefore (reach H) g
    later = rw (reach_is, mark_is) ((text_order s.text.chars r.text).gap_marks (nat_lt 0 (depth H)) (allowed_after H) (place_after H) within_text)

    abbrev kind_from : yaml_mark_t → Option Kind → Outcome
    kind_from m None = Faults (no_kind m P)
    kind_from m (Some k) = refuse (refused s.limit H k m) m P (unless (clears s.limit H k m) (start_at k m) P (read_step S s.limit H k P))

    abbrev step_from : yaml_mark_t → Outcome
    step_from m = unless (stale s.limit H m) m P (kind_from m (S.kind (nat_lt 0 (depth H)) P))

    kinds_same : (o : Option Kind) → kind_step S s.limit H P o ≡ kind_from (S.mark P) o
    kinds_same None = refl
    kinds_same (Some k) = refl

    step_is : step S s.limit H ≡ step_from g
    unfolding step read_step
    step_is = ap (λ (o : Outcome). unless (stale s.limit H (S.mark P)) (S.mark P) P o) (kinds_same (S.kind (nat_lt 0 (depth H)) P)) ∙ ap step_from (sym mark_is)

    -- an offence there
    offends_at : (o : Offence) (f : Fault) → step S s.limit H ≡ Faults o → o.fault ≡ f → o.fault.error ≡ Rattle.yaml_text.specs.declared.types.yaml_error_type_t.TheVariants.YAML_SCANNER_ERROR → o.place ≡ P → o.fault.problem_mark.index ≡ g.index → Offends H s f
    offends_at o f e q k p i = record { offence = o; step = e; fault = q; problem = record { kind = k; within = (let w = G.within in let z = size_is in omega arith); index = i ∙ ap (λ (m : yaml_mark_t). m.index) mark_is ∙ ap (λ (x : ℕ). (S.mark x).index) (sym p) } }

    -- row 1
    stale_is : (root l : Option Held) → root ≡ held s.limit H 0 → l ≡ lost_held s.limit g root → l ≡ option_map held_of (stale s.limit H g)
    stale_is root l e k = k ∙ (rw e (lost_later s.limit H r.is_history g later r.keys.fresh))

    pub row_lost : (root l : Option Held) (f : Fault) → root ≡ held s.limit H 0 → l ≡ lost_held s.limit g root → IsLost l g f → Offends H s f
    row_lost root l f e k q = let w = loses (stale s.limit H g) l g P _ f (stale_is root l e k) q in
        offends_at (lost w.start g P) f (step_is ∙ w.is) w.fault refl refl refl

    row_not_lost : (root l : Option Held) → root ≡ held s.limit H 0 → l ≡ lost_held s.limit g root → l ≡ None → step S s.limit H ≡ kind_from g (S.kind (nat_lt 0 (depth H)) P)
    row_not_lost root l e k q = step_is ∙ kept_row (stale s.limit H g) l g P _ (stale_is root l e k) q

    -- whether a key is allowed there
    pub allows_there : (s.allowed || (not in_flow && nat_lt s.reach.line g.line)) ≡ allowed H g
    unfolding allowed
    allows_there = rw (r.keys.allowed, r.reach, block_is) refl

    module _ (root l : Option Held) (e : root ≡ held s.limit H 0) (k : l ≡ lost_held s.limit g root) (q : l ≡ None) (o : Option Kind) (K : o ≡ S.kind in_flow P) where
      pub kind_is : o ≡ S.kind (nat_lt 0 (depth H)) P
      kind_is = K ∙ ap (λ (b : Bool). S.kind b P) flow_is

      -- row 2
      pub row_no_kind : (f : Fault) → o ≡ None → f ≡ scanner_fault no_token g (Some in_next_token) g → Offends H s f
      row_no_kind f n u = offends_at (no_kind g P) f (row_not_lost root l e k q ∙ ap (λ (x : Option Kind). kind_from g x) (sym kind_is ∙ n)) (sym u) refl refl refl

      module _ (kind : Kind) (some : o ≡ Some kind) (a : Bool) (A : a ≡ (s.allowed || (not in_flow && nat_lt s.reach.line g.line))) where
        pub allowed_is : a ≡ allowed H g
        allowed_is = A ∙ allows_there

        step_kind : step S s.limit H ≡ kind_from g (Some kind)
        step_kind = row_not_lost root l e k q ∙ ap (λ (x : Option Kind). kind_from g x) (sym kind_is ∙ some)

        module _ (c : Option Held) (C : c ≡ completed_held kind s.limit g s.slots.top) (none : Bool) (N : is_some c ≡ not none) where
          none_is : none ≡ is_none (completed_by s.limit H kind g)
          none_is = is_none_some c none N ∙ ap (λ (x : Option Held). is_none x) (C ∙ (rw r.keys.top (completed_later s.limit H r.is_history g later kind))) ∙ is_none_map (completed_by s.limit H kind g)

          refused_is : (if not in_flow && not a then problem_of kind none else None) ≡ refused s.limit H kind g
          unfolding refused
          refused_is = rw (block_is, allowed_is, none_is) refl

          -- row 3
          pub row_refused : (f : Fault) → IsRefused (if not in_flow && not a then problem_of kind none else None) g (Some f) → Offends H s f
          row_refused f u = go (refused s.limit H kind g) refl (subst (λ (x : Option (List ℕ)). IsRefused x g (Some f)) refused_is u)
            where
              some_same : (a b : Fault) → Some a ≡ Some b → b ≡ a
              some_same a b q = cc

              go : (x : Option (List ℕ)) → refused s.limit H kind g ≡ x → IsRefused x g (Some f) → Offends H s f
              go None w v = cc
              go (Some p) w v = offends_at (not_allowed p g P) f (step_kind ∙ ap (λ (x : Option (List ℕ)). refuse x g P (unless (clears s.limit H kind g) (start_at kind g) P (read_step S s.limit H kind P))) w) (some_same f _ v) refl refl refl

          step_accepted : IsRefused (if not in_flow && not a then problem_of kind none else None) g None → step S s.limit H ≡ unless (clears s.limit H kind g) (start_at kind g) P (read_step S s.limit H kind P)
          step_accepted u = step_kind ∙ go (refused s.limit H kind g) (subst (λ (x : Option (List ℕ)). IsRefused x g None) refused_is u)
            where
              go : (x : Option (List ℕ)) → IsRefused x g None → refuse x g P (unless (clears s.limit H kind g) (start_at kind g) P (read_step S s.limit H kind P)) ≡ unless (clears s.limit H kind g) (start_at kind g) P (read_step S s.limit H kind P)
              go None v = refl
              go (Some p) v = cc

          clears_is : (d : Option Held) → d ≡ (if replaces kind a && not in_flow then needed s.limit g s.slots.top else None) → d ≡ option_map held_of (clears s.limit H kind g)
          unfolding clears
          clears_is d D = D ∙ (rw (allowed_is, block_is, r.keys.top) (go (replaces kind (allowed H g)) (nat_eq (depth H) 0) refl))
            where
              go : (x y : Bool) → nat_eq (depth H) 0 ≡ y → (if x && y then needed s.limit g (held s.limit H (depth H)) else None) ≡ option_map held_of (if x && y then only_live s.limit g (required H) else None)
              go true true z = (let w : depth H ≡ 0 = eqb-true _ _ z in rw w (needed_later s.limit H r.is_history g later))
              go true false z = refl
              go false y z = refl

          module _ (u : IsRefused (if not in_flow && not a then problem_of kind none else None) g None) (start : yaml_mark_t) (B : start ≡ start_at kind g) (d : Option Held) (D : d ≡ (if replaces kind a && not in_flow then needed s.limit g s.slots.top else None)) where
            -- row 4
            pub row_clears : (f : Fault) → IsLost d start f → Offends H s f
            row_clears f w = let v : Loses (start_at kind g) P (unless (clears s.limit H kind g) (start_at kind g) P (read_step S s.limit H kind P)) f = loses (clears s.limit H kind g) d (start_at kind g) P _ f (clears_is d D) (subst (λ (m : yaml_mark_t). IsLost d m f) B w) in
                offends_at (lost v.start (start_at kind g) P) f (step_accepted u ∙ v.is) v.fault refl refl (start_index kind g)

            pub row_met : d ≡ None → step S s.limit H ≡ read_step S s.limit H kind P
            row_met w = step_accepted u ∙ kept_row (clears s.limit H kind g) d (start_at kind g) P _ (clears_is d D) w

-- A running scanner of an unfinished text is a running scanner of every text that goes on from it.
use Rattle.std.proofs.Common.{◌≡◌, ℕ, suc, ◌+◌, ◌-◌, ◌≤◌, ◌<◌, true, List, [], ◌∷◌, ◌++◌, append_assoc, drop, length, Option, refl, ap, sym, ◌∙◌, subst, arith, inr}
use Rattle.std.proofs.lemmas.List.{length-append}
use Rattle.yaml_text.specs.Text.{Text}
use Rattle.yaml_text.specs.declared.fault.yaml_fault_t.{yaml_fault_t}
use Rattle.yaml_lexeme.specs.Counted.{IsMarkOf}
use Rattle.yaml_scan.specs.Course.{ended, next, oldest, course}
use Rattle.yaml_scan.specs.Cut.{IsRun, KeepsOrder}
use Rattle.yaml_scan.specs.Falling.{AllLess}
use Rattle.yaml_scan.specs.Groups.{offline}
use Rattle.yaml_scan.specs.Laid.{Laid}
use Rattle.yaml_scan.specs.Order.{IsHistory}
use Rattle.yaml_scan.specs.Settled.{before}
use Rattle.yaml_scan.specs.SourceOf.{source_of}
use Rattle.yaml_scan.specs.Step.{place_after}
use Rattle.yaml_scan.specs.Unfinished.{GoesOnFrom}
use Rattle.yaml_scan.specs.inside.Scanner.{Scanner}
use Rattle.yaml_scan.specs.inside.Scanning.{IsOpen, IsRunning, HoldsWith, groups_in, input_of, course_of, history}
use Rattle.yaml_scan.specs.inside.TextGoesOn.{RunningGoesOn, TextGoesOn, over_text}
use Rattle.yaml_scan.proofs.Course.CourseSteps.{course_is_run}
use Rattle.yaml_scan.proofs.Course.StepsNeeded.{split}
use Rattle.yaml_scan.proofs.RunningCalls.NextOfInput.{inside, read_history}
use Rattle.yaml_scan.proofs.RunningCalls.SentTokens.{more_settled}
use Rattle.yaml_scan.proofs.TokenList.OneLexemeMore.{all_is_handed_out}
use Rattle.yaml_scan.proofs.Texts.SourceLocality.{begun_text_reads_same, no_shorter}
use Rattle.yaml_scan.proofs.Texts.SourceOrder.{texts_keep_order}
use Rattle.yaml_scan.proofs.Texts.UnfinishedInputs.{course_goes_on, far_place}

less_more : (m n : ℕ) (cs : List ℕ) → m ≤ n → AllLess m cs → AllLess n cs
less_more m n [] l a = tt
less_more m n (c ∷ cs) l a = (let z = a.0 in omega arith, less_more m n cs l a.1)

drop-longer : (Y H : List Laid) (n : ℕ) → drop (length Y + n) (Y ++ H) ≡ drop n H
drop-longer [] H n = let e : 0 + n ≡ n = omega arith in ap (λ (k : ℕ). drop k H) e
drop-longer (y ∷ Y) H n = let e : suc (length Y) + n ≡ suc (length Y + n) = omega arith in ap (λ (k : ℕ). drop k (y ∷ Y ++ H)) e ∙ drop-longer Y H n

-- the oldest of a list are the oldest of a longer one
oldest_longer : (Y H : List Laid) (k : ℕ) → k ≤ length H → oldest k (Y ++ H) ≡ oldest k H
oldest_longer Y H k l =
    let e : length (Y ++ H) - k ≡ length Y + (length H - k) = omega (arith, length-append Y H) in
    ap (λ (n : ℕ). drop n (Y ++ H)) e ∙ drop-longer Y H (length H - k)

run_older : (p : List Laid → _) (limit : ℕ) (Y P : List Laid) → IsRun p limit (Y ++ P) → IsRun p limit P
run_older p limit [] P r = r
run_older p limit (y ∷ Y) P r = run_older p limit Y P r.2

module _ (s : Scanner) (text : Text) (refusal : Option yaml_fault_t) (near : ℕ) (r : IsRunning s) (g : TextGoesOn s text refusal near) where
  abbrev t : Scanner
  t = over_text s text refusal near

  longer : length s.text.chars ≤ length text.chars
  longer = no_shorter s.text.chars text.chars g.begins

  goes : GoesOnFrom (input_of s) (input_of t) g.to_come
  unfolding source_of
  goes = record { unfinished = g.unfinished; longer = inr longer; same = begun_text_reads_same s.text.chars text.chars g.begins }

  first : KeepsOrder (source_of s.text.chars)
  first = texts_keep_order s.text.chars r.holds.text

  second : KeepsOrder (source_of text.chars)
  second = texts_keep_order text.chars g.chars

  begun : (course s.limit (input_of s)).begun ≡ true
  unfolding course_of
  begun = r.start

  on : ((course s.limit (input_of t)).begun ≡ true) × ((Y : List Laid) × ((course s.limit (input_of t)).read ≡ Y ++ (course s.limit (input_of s)).read)) × (8 ≤ (source_of s.text.chars).size)
  on = course_goes_on s.limit (input_of s) (input_of t) g.to_come first goes second begun

  within : s.made - 1 ≤ length (course s.limit (input_of s)).read
  unfolding course_of
  within = inside s r

  pub history_same : history t ≡ history s
  unfolding history course_of
  history_same = ap (oldest (s.made - 1)) on.1.1 ∙ oldest_longer on.1.0 (course s.limit (input_of s)).read (s.made - 1) within

  history_run : IsRun (next (input_of s) s.limit) s.limit (history s)
  unfolding history course_of
  history_run =
      let y = split (course s.limit (input_of s)).read (s.made - 1) within in
      run_older (next (input_of s) s.limit) s.limit y.0 (oldest (s.made - 1) (course s.limit (input_of s)).read) (subst (λ (X : List Laid). IsRun (next (input_of s) s.limit) s.limit X) y.1 (course_is_run s.limit (input_of s) first))

  far : place_after (history s) + 8 ≤ length s.text.chars
  unfolding source_of
  far = far_place s.limit (input_of s) (input_of t) g.to_come first goes (history s) history_run on.2

  mark_there : IsMarkOf s.text.chars s.reach (place_after (history s)) → IsMarkOf text.chars s.reach (place_after (history s))
  unfolding source_of
  mark_there m = record {
    within = (let f = far in let l = longer in omega arith);
    mark_is = m.mark_is ∙ sym ((begun_text_reads_same s.text.chars text.chars g.begins (place_after (history s)) far).marks (place_after (history s)) (omega arith));
  }

  held : HoldsWith (history s) (s.made + 1) t (groups_in s)
  held = record {
    text = g.chars;
    is_history = r.holds.is_history;
    number = r.holds.number;
    keys = r.holds.keys;
    levels = record { are_open = r.holds.levels.are_open; columns = less_more (length s.text.chars + 1) (length text.chars + 1) _ (let l = longer in omega arith) r.holds.levels.columns };
    queue = record { tokens = rw g.encoding r.holds.queue.tokens; count = r.holds.queue.count; early = r.holds.queue.early };
    reach = r.holds.reach;
    taken = r.holds.taken;
    place = λ e. mark_there (r.holds.place e);
  }

  short : s.made ≤ length (course s.limit (input_of s)).read + 1
  unfolding course_of
  short = r.within

  started : (course_of t).begun ≡ true
  unfolding course_of
  started = on.0

  enough : s.made ≤ length (course_of t).read + 1
  unfolding course_of
  enough = let w = short in omega (arith, w, ap (λ (X : List Laid). length X) on.1.1, length-append on.1.0 (course s.limit (input_of s)).read)

  pub runs : IsRunning t
  runs = record {
    small = g.small;
    near = g.near_from;
    holds = subst (λ (X : List Laid). HoldsWith X (s.made + 1) t (groups_in s)) (sym history_same) held;
    begun = r.begun;
    start = started;
    within = enough;
  }

  -- the stream end was not taken
  older : (Y P : List Laid) → IsHistory s.limit (Y ++ P) → 0 < length Y → history s ≡ P → ended (Y ++ P) ≡ true → s.taken < length (offline (Y ++ P))
  older Y P h l e end =
      let g : IsHistory s.limit P = subst (λ (X : List Laid). IsHistory s.limit X) e r.holds.is_history in
      let n = more_settled s.limit Y P h g l (all_is_handed_out s.limit (Y ++ P) h end).1 in
      let a = r.holds.taken in
      let b = ap (λ (X : List Laid). length (before s.limit X)) e in
      omega arith

  later : (Y R : List Laid) → IsHistory s.limit (Y ++ R) → s.made - 1 ≤ length R → history s ≡ oldest (s.made - 1) R → (ended R ≡ true → s.taken < length (offline R)) → ended (Y ++ R) ≡ true → s.taken < length (offline (Y ++ R))
  later [] R h l e o end = o end
  later (y ∷ Y) R h l e o end =
      let z = split R (s.made - 1) l in
      let P = oldest (s.made - 1) R in
      let w : y ∷ Y ++ R ≡ (y ∷ Y ++ z.0) ++ P = ap (λ (X : List Laid). y ∷ Y ++ X) z.1 ∙ sym (append_assoc (y ∷ Y) z.0 P) in
      subst (λ (X : List Laid). s.taken < length (offline X)) (sym w) (older (y ∷ Y ++ z.0) P (subst (λ (X : List Laid). IsHistory s.limit X) w h) (omega arith) e (sym (ap ended w) ∙ end))

  pub still_open : IsOpen s → IsOpen t
  unfolding history course_of
  still_open o = λ end.
      let R = (course s.limit (input_of s)).read in
      let Y = on.1.0 in
      let w = on.1.1 in
      subst (λ (X : List Laid). s.taken < length (offline X)) (sym w) (later Y R (subst (λ (X : List Laid). IsHistory s.limit X) w (read_history t runs)) within refl o (sym (ap ended w) ∙ end))

pub running_goes_on : RunningGoesOn
running_goes_on s text refusal near r g = (runs s text refusal near r g, history_same s text refusal near r g)

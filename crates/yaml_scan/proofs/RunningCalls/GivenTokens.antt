-- What a running scanner has given to a sink is what was taken of its input, step after step.
use Rattle.std.proofs.Common.{◌≡◌, ℕ, ◌+◌, ◌-◌, ◌≤◌, ◌<◌, ◌||◌, Bool, true, false, List, [], ◌∷◌, ◌++◌, map, take, drop, take-append-drop, length, length-append, length-drop, append-nil, append_assoc, refl, ap, sym, ◌∙◌, subst, arith, inl, inr}
use Rattle.std.specs.Prelude.{Option, Result, Ok, Err, MatchResult}
use Rattle.std.specs.List.{list_any}
use Rattle.std.proofs.lemmas.Bool.{cases_Bool, cases_lt, false≢true}
use Rattle.std.proofs.lemmas.List.{map-append, length-map, take_all, take-append-le, drop-append-le, drop_all}
use Rattle.std.proofs.lemmas.List.Folds.{list_any-append}
use Rattle.yaml_text.specs.declared.fault.yaml_fault_t.{yaml_fault_t}
use Rattle.yaml_text.specs.declared.types.yaml_encoding_t.{yaml_encoding_t}
use Rattle.yaml_text.specs.Text.{Text}
use Rattle.yaml_scan.specs.Course.{ended, Course, next}
use Rattle.yaml_scan.specs.declared.stop.stop_t.{stop_t}
use Rattle.yaml_scan.specs.declared.groups.group_t.{group_t}
use Rattle.yaml_scan.specs.inside.Scanner.{Scanner}
use Rattle.yaml_scan.specs.Begins.{Begins}
use Rattle.yaml_scan.specs.Groups.{Token, block_ends, groups, handed_out, inserted, offline}
use Rattle.yaml_scan.specs.Groups.Token.{OfLexeme}
use Rattle.yaml_scan.specs.Laid.{Laid}
use Rattle.yaml_scan.specs.Order.{IsHistory}
use Rattle.yaml_scan.specs.Settled.{before}
use Rattle.yaml_scan.specs.Token.{yaml_token_t}
use Rattle.yaml_scan.specs.inside.Given.{HasGiven, IsCutOff, StopsGiving, all_in, told_all, told_taken}
use Rattle.yaml_scan.specs.inside.Handed.{AllSettled, Empties, HandsOut, IsCut, StepsTo, is_end}
use Rattle.yaml_scan.specs.inside.Queue.{IsQueue}
use Rattle.yaml_scan.specs.inside.Holding.{HoldsQueue}
use Rattle.yaml_scan.specs.inside.Scanning.{CanStep, groups_in, IsOpen, Makes, IsRunning, RunsWith, Same, course_of, history, input_of}
use Rattle.yaml_scan.proofs.Course.AnswerOrder.{AllFit, course_fits}
use Rattle.yaml_scan.proofs.Course.CourseSteps.{last_token}
use Rattle.yaml_scan.proofs.Course.NextStep.{oldest_all}
use Rattle.yaml_scan.proofs.Course.StepsNeeded.{split}
use Rattle.yaml_scan.proofs.TokenList.OneLexemeMore.{all_is_handed_out}
use Rattle.yaml_scan.proofs.TokenList.SettledStays.{before-before}
use Rattle.yaml_scan.proofs.Texts.TextOrder.{text_order}
use Rattle.yaml_scan.proofs.RunningQueue.CandidateGroup.{count, count_groups}
use Rattle.yaml_scan.proofs.RunningQueue.WholeQueue.{all_are_settled, queue_told, whole_front}
use Rattle.yaml_scan.proofs.RunningCalls.NextOfInput.{ends_last, few_made, history_length, inside, is_run, read_history, some_steps, runs_queued}
use Rattle.yaml_scan.proofs.RunningCalls.StepsMade.{ended_all, still_running}

-- ONE AFTER THE OTHER
-- what was taken of the same text
module _ (s t : Scanner) (H : t.text ≡ s.text) (J : t.refusal ≡ s.refusal) (L : t.limit ≡ s.limit) where
  pub course_as : course_of t ≡ course_of s
  unfolding course_of
  course_as = rw (H, J, L) refl

  pub all_as : all_in t ≡ all_in s
  all_as = rw (course_as, L) refl

  pub told_as : told_all t ≡ told_all s
  told_as = ap (λ (x : Text). map (handed_out x.encoding) (all_in t)) H ∙ ap (λ (z : List Token). map (handed_out s.text.encoding) z) all_as

  pub taken_is : (n : ℕ) → t.taken ≡ n → told_taken t ≡ map (handed_out s.text.encoding) (take n (all_in s))
  taken_is n e = ap (λ (x : Text). map (handed_out x.encoding) (take t.taken (all_in t))) H
      ∙ ap (λ (z : List Token). map (handed_out s.text.encoding) (take t.taken z)) all_as
      ∙ ap (λ (k : ℕ). map (handed_out s.text.encoding) (take k (all_in s))) e

pub none_given : (s : Scanner) → IsRunning s → IsOpen s → HasGiven s s []
none_given s r o = record { runs = r; still_open = o; text = refl; refusal = refl; limit = refl; grows = omega arith; given = sym (append-nil (told_taken s)) }

pub more_given : (s t u : Scanner) (xs ys : List yaml_token_t) → HasGiven s t xs → HasGiven t u ys → HasGiven s u (xs ++ ys)
more_given s t u xs ys a b = record {
  runs = b.runs;
  still_open = b.still_open;
  text = b.text ∙ a.text;
  refusal = b.refusal ∙ a.refusal;
  limit = b.limit ∙ a.limit;
  grows = (let m = a.grows in let n = b.grows in omega arith);
  given = b.given ∙ ap (λ (z : List yaml_token_t). z ++ ys) a.given ∙ append_assoc (told_taken s) xs ys;
}

-- the first of the next tokens, and the one that was refused
pub cut_of : (s : Scanner) (took : List yaml_token_t → Type 0) (tokens : List yaml_token_t) → Begins (told_taken s ++ tokens) (told_all s) → IsCut took tokens → IsCutOff s took
cut_of s took tokens b c =
    let f : List yaml_token_t = c.handed ++ c.next ∷ [] in
    let r : List yaml_token_t = c.begins.rest in
    record {
      handed = c.handed;
      next = c.next;
      begins = record {
        rest = r ++ b.rest;
        is = b.is ∙ ap (λ (z : List yaml_token_t). (told_taken s ++ z) ++ b.rest) c.begins.is
            ∙ ap (λ (z : List yaml_token_t). z ++ b.rest) (sym (append_assoc (told_taken s) f r))
            ∙ append_assoc (told_taken s ++ f) r b.rest;
      };
      given = c.given;
    }

module _ (s t : Scanner) (xs : List yaml_token_t) (g : HasGiven s t xs) (took took' : List yaml_token_t → Type 0) (m : (ys : List yaml_token_t) → took' ys → took (xs ++ ys)) where
  pub cut_on : IsCutOff t took' → IsCutOff s took
  cut_on c =
      let f : List yaml_token_t = c.handed ++ c.next ∷ [] in
      record {
        handed = xs ++ c.handed;
        next = c.next;
        begins = record {
          rest = c.begins.rest;
          is = sym (told_as s t g.text g.refusal g.limit) ∙ c.begins.is
              ∙ ap (λ (z : List yaml_token_t). (z ++ f) ++ c.begins.rest) g.given
              ∙ ap (λ (z : List yaml_token_t). z ++ c.begins.rest) (append_assoc (told_taken s) xs f ∙ ap (λ (z : List yaml_token_t). told_taken s ++ z) (sym (append_assoc xs c.handed (c.next ∷ []))));
        };
        given = m c.handed c.given;
      }

  pub stops_on : (stored : Option yaml_fault_t) (stop : stop_t) (refuses : Type 0) → StopsGiving t stored stop took' refuses → StopsGiving s stored stop took refuses
  stops_on stored stop refuses (inl w) = inl (xs ++ w.0, w.1, more_given s t w.1 xs w.0 g w.2, w.3, m w.0 w.4)
  stops_on stored stop refuses (inr w) = inr (w.0, cut_on w.1, w.2)

-- there are only so many steps
pub steps_within : (s t : Scanner) (xs : List yaml_token_t) → HasGiven s t xs → t.made ≤ length (course_of s).read + 1
steps_within s t xs g = let w = g.runs.within in let c = ap (λ (x : Course). length x.read) (course_as s t g.text g.refusal g.limit) in omega arith

-- WHAT IS SETTLED IS GIVEN
module _ (s : Scanner) {ys : List group_t} (r : RunsWith s ys) where
  pub settled_begins : Begins (before s.limit (history s)) (all_in s)
  unfolding history
  settled_begins =
      let z = split (course_of s).read (s.made - 1) (inside s r) in
      let b = before-before s.limit z.0 (history s) (subst (λ (X : List Laid). IsHistory s.limit X) z.1 (read_history s r)) in
      subst (λ (X : List Laid). Begins (before s.limit (history s)) (before s.limit X)) (sym z.1) b

  pub all_fit : AllFit (course_of s).read
  unfolding course_of
  all_fit = course_fits s.limit (input_of s) (text_order s.text.chars r.holds.text)

  -- the stream has ended only once all lexemes were read
  all_read : ended (history s) ≡ true → (course_of s).read ≡ history s
  unfolding history
  all_read e = sym (oldest_all (course_of s).read (s.made - 1) (ended_all (next (input_of s) s.limit) s.limit (course_of s).read (s.made - 1) (is_run s r) (inside s r) e))

-- the token of the stream end is the last one
pub end_is_told : (e : yaml_encoding_t) (H : List Laid) (n : ℕ) → ended H ≡ true → AllFit H → n < length (offline H) → list_any is_end (map (handed_out e) (drop n (offline H))) ≡ true
end_is_told e [] n q f l = absurd (false≢true q)
end_is_told e (i ∷ H) n q f l =
    let front : List Token = groups (i ∷ H) H ++ (block_ends i ++ inserted (i ∷ H) i) in
    let x : Token = OfLexeme i.lexeme in
    let a = ap (λ (z : List Token). length z) (last_token i H) in
    let b = length-append front (x ∷ []) in
    let d : drop n (offline (i ∷ H)) ≡ drop n front ++ x ∷ [] = ap (λ (z : List Token). drop n z) (last_token i H) ∙ drop-append-le n front (x ∷ []) (omega arith) in
    let c : list_any is_end (map (handed_out e) (drop n (offline (i ∷ H)))) ≡ (list_any is_end (map (handed_out e) (drop n front)) || (is_end (handed_out e x) || false)) = ap (λ (z : List Token). list_any is_end (map (handed_out e) z)) d ∙ ap (λ (z : List yaml_token_t). list_any is_end z) (map-append (handed_out e) (drop n front) (x ∷ [])) ∙ list_any-append is_end (map (handed_out e) (drop n front)) (handed_out e x ∷ []) in
    c ∙ last_true (list_any is_end (map (handed_out e) (drop n front))) (is_end (handed_out e x)) (let h = f.0 in h.says.last ∙ q)
  where
    last_true : (a b : Bool) → b ≡ true → (a || (b || false)) ≡ true
    last_true true b p = refl
    last_true false b p = rw p refl

pub open_same : (s t : Scanner) → Same s t → IsOpen s → IsOpen t
open_same s t q o e =
    let k = course_as s t q.text q.refusal q.limit in
    let a = o (sym (ap (λ (c : Course). ended c.read) k) ∙ e) in
    let b = ap (λ (c : Course). length (offline c.read)) k in
    let d = q.taken in
    omega arith

-- a scanner for which no candidate is awaited, and the tokens that the groups of its queue hand out
module _ (m : Scanner) (zs : List group_t) (r : RunsWith m zs) (o : IsOpen m) (tokens : List yaml_token_t) (a : AllSettled m zs tokens) where
  abbrev pub made_all : List Token
  made_all = offline (history m)

  pub whole : before m.limit (history m) ≡ made_all
  whole = all_are_settled (history m) (m.made + 1) m zs r.holds a.awaited

  begins_all : Begins made_all (all_in m)
  begins_all = subst (λ (z : List Token). Begins z (all_in m)) whole (settled_begins m r)

  few : m.taken ≤ length made_all
  few = let t = r.holds.taken in let l = ap (λ (z : List Token). length z) whole in omega arith

  tokens_are : tokens ≡ map (handed_out m.text.encoding) (drop m.taken made_all)
  tokens_are =
      let q : IsQueue m.text.encoding 0 m.layout.queue.early_mark zs (drop m.taken made_all) = subst (λ (n : ℕ). IsQueue m.text.encoding n m.layout.queue.early_mark zs (drop m.taken made_all)) a.early r.holds.queue.tokens in
      a.tokens_are ∙ sym (queue_told m.text.encoding m.layout.queue.early_mark zs (drop m.taken made_all) q)

  taken_are : take m.taken (all_in m) ≡ take m.taken made_all
  taken_are = ap (λ (z : List Token). take m.taken z) begins_all.is ∙ take-append-le m.taken made_all begins_all.rest few

  -- after them all tokens that were made were given
  given_are : told_taken m ++ tokens ≡ map (handed_out m.text.encoding) made_all
  given_are =
      ap (λ (z : List yaml_token_t). told_taken m ++ z) tokens_are
      ∙ ap (λ (z : List Token). map (handed_out m.text.encoding) z ++ map (handed_out m.text.encoding) (drop m.taken made_all)) taken_are
      ∙ sym (map-append (handed_out m.text.encoding) (take m.taken made_all) (drop m.taken made_all))
      ∙ ap (λ (z : List Token). map (handed_out m.text.encoding) z) (take-append-drop m.taken made_all)

  given_begin : Begins (told_taken m ++ tokens) (told_all m)
  given_begin = record {
    rest = map (handed_out m.text.encoding) begins_all.rest;
    is = ap (λ (z : List Token). map (handed_out m.text.encoding) z) begins_all.is
        ∙ map-append (handed_out m.text.encoding) made_all begins_all.rest
        ∙ ap (λ (z : List yaml_token_t). z ++ map (handed_out m.text.encoding) begins_all.rest) (sym given_are);
  }

  tokens_long : m.taken + length tokens ≡ length made_all
  tokens_long =
      let l = ap (λ (z : List yaml_token_t). length z) tokens_are in
      let k = length-map (drop m.taken made_all) (handed_out m.text.encoding) in
      let d = length-drop m.taken made_all in
      let f = few in
      omega arith

  -- the stream end is not among them
  not_ended : ended (history m) ≡ false
  not_ended = elim (cases_Bool (ended (history m))) [
    | inr e ↦ e
    | inl e ↦ (let w = all_read m r e in
        let l : m.taken < length made_all = subst (λ (X : List Laid). m.taken < length (offline X)) w (o (ap ended w ∙ e)) in
        let q = end_is_told m.text.encoding (history m) m.taken e (subst (λ (X : List Laid). AllFit X) w (all_fit m r)) l in
        absurd (false≢true (sym a.no_end ∙ ap (λ (z : List yaml_token_t). list_any is_end z) tokens_are ∙ q)))
  ]

  -- there is a lexeme after those
  lexemes_differ : (course_of m).read ≡ history m → ended (course_of m).read ≡ true → ⊥
  lexemes_differ w e = false≢true (sym not_ended ∙ ap ended (sym w) ∙ e)

  more_follow : ended (course_of m).read ≡ true → length made_all < length (offline (course_of m).read)
  unfolding offline history
  more_follow e =
      let v = (all_is_handed_out m.limit (course_of m).read (read_history m r) e).1 in
      let b : Begins made_all (offline (course_of m).read) = subst (λ (z : List Token). Begins made_all z) v begins_all in
      elim (cases_lt (length made_all) (length (offline (course_of m).read))) [
        | inl l ↦ l
        | inr l ↦ (let q : offline (course_of m).read ≡ made_all = whole_front made_all (offline (course_of m).read) b l in
            let n : length (course_of m).read + 1 ≡ length (history m) + 1 = sym (count_groups (course_of m).read (course_of m).read) ∙ ap count q ∙ count_groups (history m) (history m) in
            let h = history_length m r in
            absurd (lexemes_differ (sym (oldest_all (course_of m).read (m.made - 1) (omega arith))) e))
      ]

  pub cut_settled : (took : List yaml_token_t → Type 0) → IsCut took tokens → IsCutOff m took
  cut_settled took c = cut_of m took tokens given_begin c

  module _ (t : Scanner) (e : Empties m zs t tokens) where
    text_then : t.text ≡ m.text
    text_then = ap (λ (z : Scanner). z.text) e.same

    refusal_then : t.refusal ≡ m.refusal
    refusal_then = ap (λ (z : Scanner). z.refusal) e.same

    pub limit_then : t.limit ≡ m.limit
    limit_then = ap (λ (z : Scanner). z.limit) e.same

    pub made_then : t.made ≡ m.made
    made_then = ap (λ (z : Scanner). z.made) e.same

    course_then : course_of t ≡ course_of m
    course_then = course_as m t text_then refusal_then limit_then

    pub history_then : history t ≡ history m
    unfolding history
    history_then = rw (course_then, made_then) refl

    pub taken_then : t.taken ≡ length made_all
    taken_then = ap (λ (z : Scanner). z.taken) e.same ∙ tokens_long

    queue_then : HoldsQueue m.text.encoding (m.taken + length tokens) (history m) t.layout.queue (groups_in t)
    queue_then = record {
      tokens = rw e.groups (drop_all (m.taken + length tokens) made_all (let n = tokens_long in omega arith));
      count = (let n = r.holds.queue.count in let k = e.done in let l = ap (λ (z : List group_t). length z) e.groups in omega arith);
      early = λ z. e.early;
    }

    runs_then : IsRunning t
    runs_then = subst IsRunning (sym e.same) (runs_queued m r t.layout.queue (m.taken + length tokens) queue_then (let n = tokens_long in let l = ap (λ (z : List Token). length z) whole in omega arith))

    open_after : IsOpen t
    open_after q =
        let u : ended (course_of m).read ≡ true = sym (ap (λ (c : Course). ended c.read) course_then) ∙ q in
        let l = more_follow u in
        let n = taken_then in
        let c = ap (λ (x : Course). length (offline x.read)) course_then in
        omega arith

    given_then : told_taken t ≡ told_taken m ++ tokens
    given_then =
        taken_is m t text_then refusal_then limit_then (length made_all) taken_then
        ∙ ap (λ (z : List Token). map (handed_out m.text.encoding) (take (length made_all) z)) begins_all.is
        ∙ ap (λ (z : List Token). map (handed_out m.text.encoding) z) (take-append-le (length made_all) made_all begins_all.rest (omega arith) ∙ take_all (length made_all) made_all (omega arith))
        ∙ sym given_are

    -- after another one of the same input, of which as many tokens were taken
    pub emptied : (s : Scanner) → Same s m → HasGiven s t tokens
    emptied s q = record {
      runs = runs_then;
      still_open = open_after;
      text = text_then ∙ q.text;
      refusal = refusal_then ∙ q.refusal;
      limit = limit_then ∙ q.limit;
      grows = (let k = ap (λ (z : Scanner). z.taken) e.same in let n = q.taken in omega arith);
      given = given_then ∙ ap (λ (z : List yaml_token_t). z ++ tokens) (taken_is s m q.text q.refusal q.limit s.taken q.taken);
    }

-- A STEP
module _ (s : Scanner) (r : IsRunning s) (o : IsOpen s) (l : length (before s.limit (history s)) ≤ s.taken) where
  running : ended (history s) ≡ false
  running = still_running s r o l

  pub can_step : CanStep (history s) s
  can_step = record { holds = r.holds; running = running; small = r.small; few_steps = few_made s r; near = r.near }

  -- one was made, or two
  module _ (m : Scanner) (zs : List group_t) (b : Bool) (k : Makes b (history s) s m zs) where
    laid_then : RunsWith m zs × (s.made < m.made) × Same s m
    laid_then = some_steps b s m zs r running k

    open_then : IsOpen m
    open_then = let p = laid_then in open_same s m p.2 o

    queued_then : zs ≡ groups_in m → HasGiven s m []
    queued_then e = let p = laid_then in let q = p.2 in record {
      runs = subst (λ (ys : List group_t). RunsWith m ys) e p.0;
      still_open = open_then;
      text = q.text;
      refusal = q.refusal;
      limit = q.limit;
      grows = (let n = q.taken in omega arith);
      given = taken_is s m q.text q.refusal q.limit s.taken q.taken ∙ sym (append-nil (told_taken s));
    }

    handed : (sparing : Bool) (t : Scanner) (tokens : List yaml_token_t) → HandsOut true sparing m zs t tokens → HasGiven s t tokens × (s.made < t.made)
    handed sparing t tokens (inl w) = let p = laid_then in (
      subst (λ (u : Scanner). HasGiven s u tokens) (sym w.2) (subst (λ (z : List yaml_token_t). HasGiven s m z) (sym w.1) (queued_then w.3)),
      rw w.2 p.1,
    )
    handed sparing t tokens (inr w) = let p = laid_then in let e = w.1 in let z = ap (λ (z : Scanner). z.made) e.same in let n = p.1 in (
      emptied m zs p.0 open_then tokens e.all t e s p.2,
      omega arith,
    )

    cut_then : (tokens : List yaml_token_t) (took : List yaml_token_t → Type 0) → AllSettled m zs tokens → IsCut took tokens → IsCutOff s took
    cut_then tokens took a c = let p = laid_then in let q = p.2 in
        let b = cut_settled m zs p.0 open_then tokens a took c in record {
          handed = b.handed;
          next = b.next;
          begins = subst (λ (z : List yaml_token_t). Begins (z ++ (b.handed ++ b.next ∷ [])) (told_all s)) (taken_is s m q.text q.refusal q.limit s.taken q.taken)
              (subst (λ (z : List yaml_token_t). Begins (told_taken m ++ (b.handed ++ b.next ∷ [])) z) (told_as s m q.text q.refusal q.limit) b.begins);
          given = b.given;
        }

  -- so it goes on, or stops
  pub steps_to : (t : Scanner) (took : List yaml_token_t → Type 0) (refuses : Type 0) (out : Result (Unit {0}) stop_t) → StepsTo (history s) s t true took refuses out
      → MatchResult out (λ _. (tokens : List yaml_token_t) × HasGiven s t tokens × (s.made < t.made) × took tokens) (λ stop. StopsGiving s t.refusal stop took refuses)
  steps_to t took refuses (Ok x) w = let p = handed w.1 w.2 w.3 w.4 w.3 t w.0 w.5 in (w.0, p.0, p.1, w.6)
  steps_to t took refuses (Err stop) (inl w) = inl (
    [],
    s,
    none_given s r o,
    record {
      unsettled = l;
      fault = elim w.0.0 [ inl m ↦ inl m | inr f ↦ inr (ends_last s r running _ f) ];
    },
    w.1,
  )
  steps_to t took refuses (Err stop) (inr w) = inr (w.0, cut_then w.1.1 w.1.2 false w.1.3 w.1.0 took w.1.5 w.1.6, w.2)

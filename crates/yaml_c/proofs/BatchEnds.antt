-- The end of a batch: what a call leaves that gives the next tokens.
use Rattle.std.proofs.Common.{◌≡◌, ◌++◌, ◌∷◌, [], ℕ, ◌+◌, ◌<◌, ◌^◌, List, Option, Some, None, length, refl, sym, ap, ◌∙◌, subst, arith, inl, inr, length-append, append-nil, MutBor}
use Rattle.std.proofs.lemmas.List.{nil_from_length}
use Rattle.yaml_text.specs.Decode.{encoding_of}
use Rattle.yaml_text.specs.Fault.{Fault}
use Rattle.yaml_text.specs.Token.{Token}
use Rattle.yaml_text.specs.Types.{encoding_number}
use Rattle.yaml_scan.specs.All.{ReadsAll}
use Rattle.yaml_scan.specs.KeptCalls.{token_peeked}
use Rattle.yaml_scan.specs.Parser.{Parser}
use Rattle.yaml_c.specs.Ahead.{Ahead, IsAhead}
use Rattle.yaml_c.specs.Ahead.Ahead.{NONE, READ_FAULT, ALL_GIVEN}
use Rattle.yaml_c.specs.Answer.{Rooms, answer_of, answer_with, fault_texts}
use Rattle.yaml_c.specs.Held.{Scan, IsEndedBy, Stands, IsAt, Why, Tells, ComesFirst, IsNext, comes}
use Rattle.yaml_c.specs.Next.{Next, need, next_of, shown_next}
use Rattle.yaml_c.specs.Next.Next.{UNKNOWN, TOKEN, FAULT, OVER}
use Rattle.yaml_c.specs.inside.Batch.{Stops, GivesNext, rooms_of, GivesFault, TellsCounts, Ends}
use Rattle.yaml_c.specs.Record.{held, records_of, all_texts}
use Rattle.yaml_c.specs.Room.{covered, covered_from}
use Rattle.yaml_c.specs.Spelled.{Spelled, skipped_of, spelled_in}
use Rattle.yaml_c.specs.inside.Spelled.{spelled_of}
use Rattle.yaml_c.specs.Status as status
use Rattle.yaml_c.specs.declared.answer.bogzhami_answer.{bogzhami_answer}
use Rattle.yaml_c.specs.declared.held.ahead_t.{ahead_t}
use Rattle.yaml_c.specs.declared.held.held_t.{held_t}
use Rattle.yaml_c.specs.declared.record.bogzhami_token.{bogzhami_token}
use Rattle.yaml_c.specs.declared.spelled.spelled_t.{spelled_t}
use Rattle.yaml_c.specs.declared.sink.token_rooms_t.{token_rooms_t}
use Rattle.yaml_c.proofs.Batches.{still_first}
use Rattle.yaml_c.proofs.Rooms.{covered_by_none, covered_held, length-covered_from, more_covered_from}
use Rattle.yaml_c.proofs.TokensPut.{Fits, HavePut, have_put}

-- nothing is given
pub nothing_given : (s : Scan) (old : Rooms) (h : held_t) (answer : bogzhami_answer) (code : ℕ) → IsAt s h
    → (s.ahead ≡ ALL_GIVEN → code ≡ status.over) → Tells s old [] None (comes s) answer code → IsNext s old old h answer code
nothing_given s old h answer code at over tells = record {
  parser = s.parser;
  list = [];
  fault = None;
  after = s.ahead;
  at = record {
    keeps = record {
      kept = at.keeps.kept;
      ahead = at.keeps.ahead;
      stands = subst (λ (z : List Token). Stands s.limit s.setting s.input s.parser z s.ahead) (sym (append-nil s.given)) at.keeps.stands;
    };
    encoding = at.encoding;
    skipped = at.skipped;
  };
  few = omega arith;
  fit = omega arith;
  records_are = sym (covered_by_none old.tokens);
  texts_are = sym (covered_by_none old.texts);
  ends = λ f e. absurd (cc);
  first = still_first (comes s);
  last = λ n e. absurd (n e);
  over = over;
  tells = tells;
}

-- the input that the rooms know is that of the scanner
pub spelled_is : (s : Scan) (spelled : spelled_t) (h : held_t) → s.input ≡ spelled.input.now → IsAt s h
    → spelled.skipped ≡ h.skipped → spelled_of spelled ≡ spelled_in s.setting s.input
spelled_is s spelled h same at is = λ i. record { input = sym same i; skipped = (is ∙ at.skipped) i }

-- a fault that comes next was read ahead
no_fault_shown : (o : Option Token) (f : Fault) → shown_next o ≡ FAULT f → ⊥
no_fault_shown None f e = absurd (cc)
no_fault_shown (Some t) f e = absurd (cc)

fault_ahead : (p : Parser) (a : Ahead) (f : Fault) → next_of p a ≡ FAULT f → a ≡ READ_FAULT f
fault_ahead p NONE f e = absurd (no_fault_shown (token_peeked p) f e)
fault_ahead p (READ_FAULT g) f e = cc
fault_ahead p ALL_GIVEN f e = absurd (cc)

-- what was to come comes first if the fault is given
fault_comes : (n : Next) (list : List Token) (f : Fault) → ComesFirst n list None (FAULT f) → ComesFirst n list (Some f) OVER
fault_comes UNKNOWN list f w = tt
fault_comes (TOKEN t) [] f w = absurd (cc)
fault_comes (TOKEN t) (x ∷ list) f w = w
fault_comes (FAULT g) list f (n, inl e) = absurd (cc)
fault_comes (FAULT g) list f (n, inr e) = (n, inl (cc))
fault_comes OVER list f w = tt

-- why the batch ended, if it has a token
pub why_ends : (records bytes : ℕ) (list : List Token) (n : Next) → ((f : Fault) → n ≡ FAULT f → bytes < length (all_texts list) + need (FAULT f))
    → 0 < length list → Stops records bytes list n → Why records bytes list n
why_ends records bytes list UNKNOWN tight some stops = inl stops
why_ends records bytes list (TOKEN t) tight some (inl full) = inl full
why_ends records bytes list (TOKEN t) tight some (inr long) = inr (inr (some, long))
why_ends records bytes list (FAULT f) tight some stops = inr (inr (some, tight f refl))
why_ends records bytes list OVER tight some stops = inr (inl (some, refl))

-- what comes next is too long, if it has none
pub too_long : (records bytes : ℕ) (list : List Token) (n : Next) → ((f : Fault) → n ≡ FAULT f → bytes < length (all_texts list) + need (FAULT f))
    → length list ≡ 0 → 0 < records → Stops records bytes list n → bytes < need n
too_long records bytes (t ∷ list) n tight none some stops = absurd (omega arith)
too_long records bytes [] UNKNOWN tight none some stops = absurd (omega arith)
too_long records bytes [] (TOKEN t) tight none some (inl full) = absurd (omega arith)
too_long records bytes [] (TOKEN t) tight none some (inr long) = omega arith
too_long records bytes [] (FAULT f) tight none some stops = (let h = tight f refl in omega arith)
too_long records bytes [] OVER tight none some stops = absurd (omega arith)

-- what a call leaves that read on
module _ (s : Scan) (old mid : token_rooms_t) (left : ahead_t) (h : held_t) (g : GivesNext s old mid h.parser left) (fits : Fits old) (no_token : old.token_count ≡ 0)
    (no_text : old.text_len ≡ 0) (some : 0 < length old.tokens.now) (more : s.ahead ≡ ALL_GIVEN → ⊥)
    (encoding : h.encoding ≡ encoding_number (encoding_of s.setting s.input))
    (skipped : h.skipped ≡ skipped_of s.setting s.input) (spelled : spelled_of old.spelled ≡ spelled_in s.setting s.input) where
  put : HavePut old g.list mid
  put = have_put old mid g.list fits g.put

  count : mid.token_count ≡ length g.list
  count = omega (arith, put.token_count, g.few, fits.tokens)

  size : mid.text_len ≡ length (all_texts g.list)
  size = omega (arith, put.text_len, g.fit, fits.texts)

  long : length mid.texts.now ≡ length old.texts.now
  long = ap length put.texts ∙ length-covered_from old.text_len (all_texts g.list) old.texts.now

  records : mid.tokens.now ≡ covered (records_of (spelled_in s.setting s.input) 0 g.list) old.tokens.now
  records = put.records
      ∙ ap (λ (n : ℕ). covered_from n (records_of (spelled_of old.spelled) old.text_len g.list) old.tokens.now)
      no_token
      ∙ ap (λ (n : ℕ). covered_from 0 (records_of (spelled_of old.spelled) n g.list) old.tokens.now) no_text
      ∙ ap (λ (z : Spelled). covered_from 0 (records_of z 0 g.list) old.tokens.now) spelled

  told_by : (f : Option Fault) → answer_with mid.token_count mid.text_len f ≡ answer_of g.list f
  told_by f =
      let held_count : mid.token_count ≡ held (length g.list) = omega (arith, count, g.few, fits.tokens) in
      let held_size : mid.text_len ≡ held (length (all_texts g.list)) = omega (arith, size, g.fit, fits.texts) in
      λ i. answer_with (held_count i) (held_size i) f

  given_fault : (new : token_rooms_t) (b : ahead_t) (answer : bogzhami_answer) (code : ℕ) → h.ahead ≡ b → GivesFault mid g.after new b answer code
      → IsNext s (rooms_of old) (rooms_of new) h answer code
  given_fault new b answer code is e =
      let f = e.fault in
      let ft = fault_texts (Some f) in
      let room : length mid.texts.now < 2 ^ 63 = omega (arith, fits.texts, long) in
      let ended : IsEndedBy s.limit s.setting s.input g.parser (s.given ++ g.list) f =
      subst (λ (z : Ahead). Stands s.limit s.setting s.input g.parser (s.given ++ g.list) z) e.is g.stands in
      let reads = ended.reads in
      record {
        parser = g.parser;
        list = g.list;
        fault = Some f;
        after = ALL_GIVEN;
        at = record {
          keeps = record {
            kept = g.keeps;
            ahead = subst (λ (z : ahead_t). IsAhead z g.parser.session.fault ALL_GIVEN) (sym (is ∙ e.after)) refl;
            stands = inr (f, ended);
          };
          encoding = encoding;
          skipped = skipped;
        };
        few = g.few;
        fit = omega (arith, length-append (all_texts g.list) ft, e.fits, long, size);
        records_are = ap (λ (z : MutBor (List bogzhami_token)). z.now) e.tokens ∙ records;
        texts_are = e.texts
            ∙ ap (λ (n : ℕ). covered_from n ft mid.texts.now) put.text_len
            ∙ covered_held (old.text_len + length (all_texts g.list)) ft mid.texts.now room
            ∙ ap (λ (z : List ℕ). covered_from (old.text_len + length (all_texts g.list)) ft z) put.texts
            ∙ more_covered_from old.text_len (all_texts g.list) ft old.texts.now
            ∙ ap (λ (n : ℕ). covered_from n (all_texts g.list ++ ft) old.texts.now) no_text;
        over = λ z. absurd (more z);
        first = fault_comes (comes s) g.list f (subst (λ (z : Ahead). ComesFirst (comes s) g.list None (next_of g.parser z)) e.is g.first);
        last = λ n z. reads;
        ends = λ x z. (refl, subst (λ (w : Option Fault). ReadsAll s.limit s.setting s.input (s.given ++ g.list) w) z reads);
        tells = inr (inl (e.code_is, λ z. absurd (cc), e.answer_is ∙ told_by (Some f)));
      }

  given_none : (b : ahead_t) (answer : bogzhami_answer) (code : ℕ) → h.ahead ≡ b → b ≡ left
      → ((f : Fault) → g.after ≡ READ_FAULT f → length mid.texts.now < mid.text_len + length (fault_texts (Some f))) → TellsCounts mid (next_of g.parser g.after) answer code
      → IsNext s (rooms_of old) (rooms_of mid) h answer code
  given_none b answer code is same tight tells =
      let bytes = length old.texts.now in
      let next = next_of g.parser g.after in
      let tight_here : (f : Fault) → next ≡ FAULT f → bytes < length (all_texts g.list) + need (FAULT f) = λ f e. (let t = tight f (fault_ahead g.parser g.after f e) in omega (arith, long, size)) in
      record {
        parser = g.parser;
        list = g.list;
        fault = None;
        after = g.after;
        at = record {
          keeps = record {
            kept = g.keeps;
            ahead = subst (λ (z : ahead_t). IsAhead z g.parser.session.fault g.after) (sym (is ∙ same)) g.ahead;
            stands = g.stands;
          };
          encoding = encoding;
          skipped = skipped;
        };
        few = g.few;
        fit = omega (arith, ap length (append-nil (all_texts g.list)), g.fit);
        records_are = records;
        texts_are = put.texts
            ∙ ap (λ (n : ℕ). covered_from n (all_texts g.list) old.texts.now) no_text
            ∙ ap (λ (z : List ℕ). covered z old.texts.now) (sym (append-nil (all_texts g.list)));
        ends = λ f e. absurd (cc);
        first = g.first;
        last = λ n e. g.last e;
        over = λ e. absurd (more e);
        tells = elim tells [
          | inl w ↦ (let none : length g.list ≡ 0 = omega (arith, w.0, count) in
              inr (inr (inr (w.2, nil_from_length g.list none, refl, too_long (length old.tokens.now) bytes g.list next tight_here none some g.stops, w.1))))
          | inr w ↦ inl (w.2, refl, w.1 ∙ told_by None, why_ends (length old.tokens.now) bytes g.list next tight_here (omega (arith, w.0, count)) g.stops)
        ];
      }

  pub batch_is : (new : token_rooms_t) (b : ahead_t) (answer : bogzhami_answer) (code : ℕ) → h.ahead ≡ b → Ends g.parser mid g.after left new b answer code
      → IsNext s (rooms_of old) (rooms_of new) h answer code
  batch_is new b answer code is (inl e) = given_fault new b answer code is e
  batch_is new b answer code is (inr e) = subst (λ (z : token_rooms_t). IsNext s (rooms_of old) (rooms_of z) h answer code) (sym e.same) (given_none b answer code is e.after e.tight e.tells)

-- The end of a call of a scanner of pieces: what it leaves.
use Rattle.std.proofs.Common.{◌≡◌, ◌++◌, [], ◌⊎◌, ℕ, ◌+◌, ◌<◌, ◌^◌, true, List, Option, Some, None, length, refl, sym, ap, ◌∙◌, subst, arith, inl, inr, length-append, append-nil, MutBor}
use Rattle.std.proofs.lemmas.List.{nil_from_length}
use Rattle.yaml_text.specs.Fault.{Fault, memory_fault}
use Rattle.yaml_text.specs.Token.{Token}
use Rattle.yaml_scan.specs.Fed as fed
use Rattle.yaml_scan.specs.Fed.{EndsBy, Fed}
use Rattle.yaml_scan.specs.declared.fed.yaml_fed_t.{yaml_fed_t}
use Rattle.yaml_scan.specs.declared.fed.yaml_fed_t.TheVariants as code
use Rattle.yaml_c.specs.Ahead.{Ahead, IsAhead}
use Rattle.yaml_c.specs.Ahead.Ahead.{NONE, ALL_GIVEN}
use Rattle.yaml_c.specs.Answer.{Rooms, answer_of, answer_with, fault_texts}
use Rattle.yaml_c.specs.Next.{Next, need}
use Rattle.yaml_c.specs.Next.Next.{UNKNOWN, TOKEN, FAULT, OVER}
use Rattle.yaml_c.specs.PiecesHeld.{GivesPiece, IsAtPieces, IsComing, PiecesScan, Stands, TellsPiece, spelled_nowhere}
use Rattle.yaml_c.specs.Record.{held, records_of, all_texts}
use Rattle.yaml_c.specs.Room.{covered, covered_from}
use Rattle.yaml_c.specs.Spelled.{Spelled}
use Rattle.yaml_c.specs.Status as status
use Rattle.yaml_c.specs.inside.Batch.{GivesFault, Stops, TellsCounts, rooms_of}
use Rattle.yaml_c.specs.inside.PieceBatch.{EndsPiece, GivesTokens, Shown, StopsFor, TellsEnd}
use Rattle.yaml_c.specs.inside.Spelled.{spelled_of}
use Rattle.yaml_c.specs.declared.answer.bogzhami_answer.{bogzhami_answer}
use Rattle.yaml_c.specs.declared.held.ahead_t.{ahead_t}
use Rattle.yaml_c.specs.declared.pieces.held_pieces_t.{held_pieces_t}
use Rattle.yaml_c.specs.declared.record.bogzhami_token.{bogzhami_token}
use Rattle.yaml_c.specs.declared.sink.token_rooms_t.{token_rooms_t}
use Rattle.yaml_c.proofs.BatchEnds.{too_long, why_ends}
use Rattle.yaml_c.proofs.PieceTokens.{fault_is_over, stays}
use Rattle.yaml_c.proofs.Rooms.{covered_by_none, covered_held, length-covered_from, more_covered_from}
use Rattle.yaml_c.proofs.TokensPut.{Fits, HavePut, have_put}

-- nothing is given
pub nothing_given : (s : PiecesScan) (old : Rooms) (h : held_pieces_t) (answer : bogzhami_answer) (n : ℕ) → IsAtPieces s h
    → h.came ≡ length s.fed.given → h.whole ≡ s.fed.whole → (s.ahead ≡ ALL_GIVEN → n ≡ status.over)
    → ((why : fed.Why) → TellsPiece old [] None why s answer n) → GivesPiece s old old h answer n
nothing_given s old h answer n at came whole over tells =
    let g = stays s.fed s.ahead at.keeps.stands in
    record {
      left = s;
      at = at;
      came = came;
      whole = whole;
      list = [];
      why = g.0;
      gives = g.1;
      fault = None;
      few = omega arith;
      fit = omega arith;
      records_are = sym (covered_by_none old.tokens);
      texts_are = sym (covered_by_none old.texts);
      ends = λ f e. absurd (cc);
      last = λ more e none. absurd (more e);
      over = over;
      tells = tells g.0;
    }

-- what is held at a call of which all this came
pub came_now : (s : PiecesScan) (h g : held_pieces_t) → IsAtPieces s h → g.parser ≡ h.parser → g.ahead ≡ h.ahead
    → g.came ≡ length s.fed.given → g.whole ≡ s.fed.whole → IsAtPieces s g
came_now s h g at parser ahead came whole = record {
  keeps = record {
    is = rw parser at.keeps.is;
    ahead = rw ahead at.keeps.ahead;
    stands = at.keeps.stands;
  };
  came = omega (arith, came);
  whole = λ w. (sym whole ∙ w, sym came);
}

-- WHAT IS TOLD
-- what is shown comes next
coming : (s : PiecesScan) (next : Next) → s.ahead ≡ NONE → Shown s.fed next → IsComing s next
coming s UNKNOWN e shown = tt
coming s (TOKEN t) e shown = (e, shown.1)
coming s (FAULT f) e shown = absurd shown
coming s OVER e shown = absurd shown

-- and is no fault
no_fault : (p : Fed) (next : Next) (f : Fault) → Shown p next → next ≡ FAULT f → ⊥
no_fault p UNKNOWN f shown e = absurd (cc)
no_fault p (TOKEN t) f shown e = absurd (cc)
no_fault p (FAULT g) f shown e = shown
no_fault p OVER f shown e = shown

module _ (old mid : token_rooms_t) (list : List Token) (left : PiecesScan) (why : fed.Why) (answer : bogzhami_answer) (n : ℕ)
    (some : 0 < length old.tokens.now) (count : mid.token_count ≡ length list) (size : mid.text_len ≡ length (all_texts list))
    (long : length mid.texts.now ≡ length old.texts.now)
    (told : answer_with mid.token_count mid.text_len None ≡ answer_of list None) where
  abbrev records : ℕ
  records = length old.tokens.now

  abbrev bytes : ℕ
  bytes = length old.texts.now

  abbrev Tells : Type 0
  Tells = TellsPiece (rooms_of old) list None why left answer n

  -- the counts, or how much room is needed for what comes next
  tells_counts : (next : Next) → IsComing left next
      → ((f : Fault) → next ≡ FAULT f → bytes < length (all_texts list) + need (FAULT f)) → Stops records bytes list next
      → TellsCounts mid next answer n → Tells
  tells_counts next comes tight stops (inl w) =
      let none : length list ≡ 0 = omega (arith, w.0, count) in
      inr (inr (inr (inl (w.2, nil_from_length list none, refl, (next, comes, too_long records bytes list next tight none some stops, w.1)))))
  tells_counts next comes tight stops (inr w) =
      inl (w.2, refl, w.1 ∙ told, (next, comes, why_ends records bytes list next tight (omega (arith, w.0, count)) stops))

  pub tells : (result : yaml_fed_t) → StopsFor records bytes list why left result → TellsEnd left.fed left.ahead mid answer n result → Tells
  tells code.ROOM stops w =
      tells_counts w.0 (coming left w.0 stops.0 w.1) (λ f e. absurd (no_fault left.fed w.0 f w.1 e)) (stops.1 w.0 w.1) w.2
  tells code.MORE stops w = inr (inr (inr (inr (inl (w.1, refl, stops.1, w.0 ∙ told)))))
  tells code.WHOLE stops w = inr (inr (inr (inr (inr (w.1, refl, stops.1, w.0 ∙ told)))))
  tells code.OVER stops (inl w) =
      let none : length list ≡ 0 = omega (arith, w.0, count) in
      inr (inr (inl (w.2, stops.0, nil_from_length list none, refl, w.1)))
  tells code.OVER stops (inr w) = inl (w.2, refl, w.1 ∙ told, (OVER, stops.0, inr (inl (omega (arith, w.0, count), refl))))
  tells code.FAULT stops w =
      tells_counts (FAULT w.0) w.1 (λ f e. (let k : w.0 ≡ f = cc (e) in let t = w.2 in
      subst (λ (z : Fault). bytes < length (all_texts list) + need (FAULT z)) k (omega (arith, t, long, size)))) tt w.3

-- nothing comes only after the stream end
all_given : (records bytes : ℕ) → (list : List Token) (why : fed.Why) (left : PiecesScan) (result : yaml_fed_t)
    → StopsFor records bytes list why left result → left.ahead ≡ ALL_GIVEN → (left.fed.whole ≡ true) × fed.HasTakenAll left.fed None
all_given records bytes list why left code.OVER stops a = (stops.1, stops.2)
all_given records bytes list why left code.ROOM stops a = absurd (let k = sym stops.0 ∙ a in cc)
all_given records bytes list why left code.MORE stops a = absurd (let k = sym stops.0 ∙ a in cc)
all_given records bytes list why left code.WHOLE stops a = absurd (let k = sym stops.0 ∙ a in cc)
all_given records bytes list why left code.FAULT stops a = absurd (let k = sym stops.1 ∙ a in cc)

-- WHAT A CALL LEAVES THAT READ ON
module _ (s : PiecesScan) (old mid : token_rooms_t) (before : ahead_t) (result : yaml_fed_t) (h : held_pieces_t)
    (g : GivesTokens s old mid h.parser before result) (fits : Fits old) (no_token : old.token_count ≡ 0) (no_text : old.text_len ≡ 0)
    (some : 0 < length old.tokens.now) (more : s.ahead ≡ ALL_GIVEN → ⊥) (came : h.came ≡ length s.fed.given)
    (whole : h.whole ≡ s.fed.whole) (spelled : spelled_of old.spelled ≡ spelled_nowhere) where
  put : HavePut old g.list mid
  put = have_put old mid g.list fits g.put

  count : mid.token_count ≡ length g.list
  count = omega (arith, put.token_count, g.few, fits.tokens)

  size : mid.text_len ≡ length (all_texts g.list)
  size = omega (arith, put.text_len, g.fit, fits.texts)

  long : length mid.texts.now ≡ length old.texts.now
  long = ap length put.texts ∙ length-covered_from old.text_len (all_texts g.list) old.texts.now

  records_put : mid.tokens.now ≡ covered (records_of spelled_nowhere 0 g.list) old.tokens.now
  records_put = put.records
      ∙ ap (λ (n : ℕ). covered_from n (records_of (spelled_of old.spelled) old.text_len g.list) old.tokens.now)
      no_token
      ∙ ap (λ (n : ℕ). covered_from 0 (records_of (spelled_of old.spelled) n g.list) old.tokens.now) no_text
      ∙ ap (λ (z : Spelled). covered_from 0 (records_of z 0 g.list) old.tokens.now) spelled

  told_by : (f : Option Fault) → answer_with mid.token_count mid.text_len f ≡ answer_of g.list f
  told_by f =
      let held_count : mid.token_count ≡ held (length g.list) = omega (arith, count, g.few, fits.tokens) in
      let held_size : mid.text_len ≡ held (length (all_texts g.list)) = omega (arith, size, g.fit, fits.texts) in
      λ i. answer_with (held_count i) (held_size i) f

  same_given : g.left.fed.given ≡ s.fed.given
  same_given = ap (λ (z : Fed). z.given) g.gives.same

  same_whole : g.left.fed.whole ≡ s.fed.whole
  same_whole = ap (λ (z : Fed). z.whole) g.gives.same

  at_left : (a : Ahead) → IsAhead h.ahead g.left.fed.session.fault a → Stands g.left.fed a
      → IsAtPieces (record { fed = g.left.fed; ahead = a }) h
  at_left a ahead stands = record {
    keeps = record { is = g.keeps.is; ahead = ahead; stands = stands };
    came = omega (arith, came, ap length same_given);
    whole = λ w. (same_whole ∙ sym whole ∙ w, ap length same_given ∙ sym came);
  }

  given_fault : (new : token_rooms_t) (left : ahead_t) (answer : bogzhami_answer) (n : ℕ) → h.ahead ≡ left
      → GivesFault mid g.left.ahead new left answer n → GivesPiece s (rooms_of old) (rooms_of new) h answer n
  given_fault new left answer n is e =
      let f = e.fault in
      let ft = fault_texts (Some f) in
      let room : length mid.texts.now < 2 ^ 63 = omega (arith, fits.texts, long) in
      let stands = subst (λ (z : Ahead). Stands g.left.fed z) e.is g.keeps.stands in
      record {
        left = record { fed = g.left.fed; ahead = ALL_GIVEN };
        at = at_left ALL_GIVEN (subst (λ (z : ahead_t). IsAhead z g.left.fed.session.fault ALL_GIVEN) (sym (is ∙ e.after)) refl)
            (fault_is_over g.left.fed f stands.0 stands.1);
        came = came;
        whole = whole;
        list = g.list;
        why = g.why;
        gives = g.gives;
        fault = Some f;
        few = g.few;
        fit = omega (arith, length-append (all_texts g.list) ft, e.fits, long, size);
        records_are = ap (λ (z : MutBor (List bogzhami_token)). z.now) e.tokens ∙ records_put;
        texts_are = e.texts
            ∙ ap (λ (m : ℕ). covered_from m ft mid.texts.now) put.text_len
            ∙ covered_held (old.text_len + length (all_texts g.list)) ft mid.texts.now room
            ∙ ap (λ (z : List ℕ). covered_from (old.text_len + length (all_texts g.list)) ft z) put.texts
            ∙ more_covered_from old.text_len (all_texts g.list) ft old.texts.now
            ∙ ap (λ (m : ℕ). covered_from m (all_texts g.list ++ ft) old.texts.now) no_text;
        ends = λ x z. (let k : f ≡ x = cc (z) in (refl, subst (λ (y : Fault). (y ≡ memory_fault) ⊎ fed.HasTakenAll g.left.fed (Some y)) k stands.2));
        last = λ z a none. absurd (cc);
        over = λ z. absurd (more z);
        tells = inr (inl (e.code_is, λ z. absurd (cc), e.answer_is ∙ told_by (Some f)));
      }

  given_none : (answer : bogzhami_answer) (n : ℕ) → h.ahead ≡ before → TellsEnd g.left.fed g.left.ahead mid answer n result
      → GivesPiece s (rooms_of old) (rooms_of mid) h answer n
  given_none answer n is w = record {
    left = g.left;
    at = at_left g.left.ahead (subst (λ (z : ahead_t). IsAhead z g.left.fed.session.fault g.left.ahead) (sym is) g.keeps.ahead) g.keeps.stands;
    came = came;
    whole = whole;
    list = g.list;
    why = g.why;
    gives = g.gives;
    fault = None;
    few = g.few;
    fit = omega (arith, ap length (append-nil (all_texts g.list)), g.fit);
    records_are = records_put;
    texts_are = put.texts
        ∙ ap (λ (m : ℕ). covered_from m (all_texts g.list) old.texts.now) no_text
        ∙ ap (λ (z : List ℕ). covered z old.texts.now) (sym (append-nil (all_texts g.list)));
    ends = λ f e. absurd (cc);
    last = λ z a none. (let w = all_given _ _ g.list g.why g.left result g.stops a in (sym same_whole ∙ w.0, w.1));
    over = λ e. absurd (more e);
    tells = tells old mid g.list g.left g.why answer n some count size long (told_by None) result g.stops w;
  }

  pub piece_is : (new : token_rooms_t) (left : ahead_t) (answer : bogzhami_answer) (n : ℕ) → h.ahead ≡ left
      → EndsPiece g.left.fed g.left.ahead result mid before new left answer n → GivesPiece s (rooms_of old) (rooms_of new) h answer n
  piece_is new left answer n is (inl e) = given_fault new left answer n is e.1
  piece_is new left answer n is (inr e) =
      subst (λ (z : token_rooms_t). GivesPiece s (rooms_of old) (rooms_of z) h answer n) (sym e.0) (given_none answer n (is ∙ e.1) e.2)

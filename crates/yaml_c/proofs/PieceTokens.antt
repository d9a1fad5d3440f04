-- Tokens of an input in pieces that are given to two rooms.
use Rattle.std.proofs.Common.{◌≡◌, ◌∷◌, [], ℕ, Bool, true, false, List, Option, Some, length, refl, ap, sym, ◌∙◌, subst, arith, inl, inr, append-nil}
use Rattle.yaml_text.specs.Fault.{Fault}
use Rattle.yaml_text.specs.Token.{Token}
use Rattle.yaml_scan.specs.Fed as fed
use Rattle.yaml_scan.specs.Fed.{EndsBy, Fed, GivesOf, HasTakenAll, MayBe}
use Rattle.yaml_scan.specs.FedCalls.{GivesFed, HasNoRoom, IsNextOf}
use Rattle.yaml_scan.specs.Sink.{said_len}
use Rattle.yaml_scan.specs.declared.fed.yaml_fed_parser_t.{yaml_fed_parser_t}
use Rattle.yaml_scan.specs.declared.fed.yaml_fed_t.{yaml_fed_t}
use Rattle.yaml_scan.specs.declared.fed.yaml_fed_t.TheVariants as code
use Rattle.yaml_c.specs.Ahead.{Ahead, IsAhead}
use Rattle.yaml_c.specs.Ahead.Ahead.{NONE, READ_FAULT, ALL_GIVEN}
use Rattle.yaml_c.specs.Next.{Next}
use Rattle.yaml_c.specs.Next.Next.{UNKNOWN, TOKEN, FAULT, OVER}
use Rattle.yaml_c.specs.PiecesHeld.{IsKeptPieces, PiecesScan, Stands}
use Rattle.yaml_c.specs.inside.Batch.{Stops}
use Rattle.yaml_c.specs.inside.MorePut.{none_put}
use Rattle.yaml_c.specs.inside.PieceBatch.{GivesTokens, Shown, StopsFor}
use Rattle.yaml_c.specs.inside.Sink.{ArePut, IsWithin, Lacks}
use Rattle.yaml_c.specs.declared.held.ahead_t.{ahead_t}
use Rattle.yaml_c.specs.declared.held.ahead_t.TheVariants as read
use Rattle.yaml_c.specs.declared.sink.token_rooms_t.{token_rooms_t}
use Rattle.yaml_c.proofs.Batches.{few, fit, lacks_record, lacks_text}
use Rattle.yaml_c.proofs.TokensPut.{Fits}

-- what came may be the whole input
came_may_be : (whole : Bool) (given : List ℕ) → MayBe whole given given
came_may_be true given = refl
came_may_be false given = record { rest = []; is = sym (append-nil given) }

-- so one token alone is the next one
next_same : (q : Fed) (t u : Token) → IsNextOf q t → IsNextOf q u → u ≡ t
next_same q t u a b =
    let m = came_may_be q.whole q.given in
    let e : u ∷ [] ≡ t ∷ [] = sym (b q.given m) ∙ a q.given m in cc

-- nothing is given after the end of the session
over_stays : (p : Fed) → EndsBy p p fed.OVER → GivesOf p [] fed.OVER p
over_stays p ends = record {
  same = refl;
  taken = omega arith;
  next = λ input may. refl;
  ends = ends;
  at_end = λ over. (refl, refl, refl);
}

-- nothing is given into no room
none_stays : (p : Fed) → p.session.over ≡ false → GivesOf p [] fed.NO_ROOM p
none_stays p runs = record {
  same = refl;
  taken = omega arith;
  next = λ input may. refl;
  ends = runs;
  at_end = λ over. absurd (let k = sym runs ∙ over in cc);
}

-- a session that a fault has ended is over
pub fault_is_over : (p : Fed) (f : Fault) → p.session.over ≡ true → p.session.fault ≡ Some f → EndsBy p p fed.OVER
fault_is_over p f over fault = (
  over,
  λ n. elim n [
    | inl goes ↦ absurd (let k = sym goes ∙ over in cc)
    | inr none ↦ absurd (let k = sym fault ∙ none in cc)
  ],
)

-- a call that gives nothing leaves the scanner
pub stays : (p : Fed) (a : Ahead) → Stands p a → (why : fed.Why) × GivesOf p [] why p
stays p NONE runs = (fed.NO_ROOM, none_stays p runs)
stays p (READ_FAULT f) w = (fed.OVER, over_stays p (fault_is_over p f w.0 w.1))
stays p ALL_GIVEN w = (fed.OVER, over_stays p w)

-- WHAT THE CODE HAS READ AHEAD
-- nothing
pub none_read : (s : PiecesScan) (k : yaml_fed_parser_t) (r : ahead_t) → IsKeptPieces s k r → r ≡ read.NONE → s.ahead ≡ NONE
none_read s k r at e = subst (λ (z : ahead_t). IsAhead z s.fed.session.fault s.ahead) e at.ahead

-- so its session goes on
pub runs_on : (s : PiecesScan) (k : yaml_fed_parser_t) (r : ahead_t) → IsKeptPieces s k r → r ≡ read.NONE → s.fed.session.over ≡ false
runs_on s k r at e = subst (λ (a : Ahead). Stands s.fed a) (none_read s k r at e) at.stands

-- that nothing comes
pub over_read : (s : PiecesScan) (k : yaml_fed_parser_t) (r : ahead_t) → IsKeptPieces s k r → r ≡ read.OVER → s.ahead ≡ ALL_GIVEN
over_read s k r at e = subst (λ (z : ahead_t). IsAhead z s.fed.session.fault s.ahead) e at.ahead

pub is_none : (r : ahead_t) → (r ≡ read.FAULT → ⊥) → (r ≡ read.OVER → ⊥) → r ≡ read.NONE
is_none read.NONE a b = refl
is_none read.FAULT a b = absurd (a refl)
is_none read.OVER a b = absurd (b refl)

-- nothing is given, since it was known that the fault comes next
pub fault_next : (s : PiecesScan) (old : token_rooms_t) (k : yaml_fed_parser_t) (r : ahead_t) → IsKeptPieces s k r → r ≡ read.FAULT
    → GivesTokens s old old k r code.FAULT
fault_next s old k r at e =
    let a = subst (λ (z : ahead_t). IsAhead z s.fed.session.fault s.ahead) e at.ahead in
    let g = stays s.fed s.ahead at.stands in
    record {
      left = s;
      keeps = at;
      list = [];
      put = none_put old;
      few = omega arith;
      fit = omega arith;
      why = g.0;
      gives = g.1;
      stops = (a.0, a.2);
    }

-- THE TOKENS THAT A CALL GIVES
module _ (s : PiecesScan) (old new : token_rooms_t) (k : yaml_fed_parser_t) (fits : Fits old)
    (no_token : old.token_count ≡ 0) (no_text : old.text_len ≡ 0) (within : IsWithin new) where
  abbrev records : ℕ
  records = length old.tokens.now

  abbrev bytes : ℕ
  bytes = length old.texts.now

  abbrev Gives : yaml_fed_t → Type 0
  Gives result = GivesFed s.fed k result (λ tokens. ArePut old tokens new) (Lacks new)

  made : (result : yaml_fed_t) (g : Gives result) (after : Ahead) (r : ahead_t) → IsAhead r g.left.session.fault after
      → Stands g.left after → StopsFor records bytes g.tokens g.why (record { fed = g.left; ahead = after }) result
      → GivesTokens s old new k r result
  made result g after r ahead stands stops = record {
    left = record { fed = g.left; ahead = after };
    keeps = record { is = g.is; ahead = ahead; stands = stands };
    list = g.tokens;
    put = g.given;
    few = few old new fits no_token no_text g.tokens g.given within;
    fit = fit old new fits no_token no_text g.tokens g.given within;
    why = g.why;
    gives = g.gives;
    stops = stops;
  }

  ends_by : (result : yaml_fed_t) (g : Gives result) (why : fed.Why) → g.why ≡ why → EndsBy s.fed g.left why
  ends_by result g why e = subst (λ (w : fed.Why). EndsBy s.fed g.left w) e g.gives.ends

  full : (list : List Token) (put : ArePut old list new) (q : Fed) (next : Next) → HasNoRoom (Lacks new) q → Shown q next
      → Stops records bytes list next
  full list put q UNKNOWN (inl w) shown = lacks_record old new fits no_token no_text list put within w
  full list put q UNKNOWN (inr w) shown = absurd (let e = sym shown ∙ w.1 in cc)
  full list put q (TOKEN t) (inl w) shown = inl (lacks_record old new fits no_token no_text list put within w)
  full list put q (TOKEN t) (inr w) shown =
      let same : w.0 ≡ t = next_same q t w.0 shown.1 w.2 in
      let lacks : Lacks new 1 (said_len t.token_data) = subst (λ (z : Token). Lacks new 1 (said_len z.token_data)) same w.3 in
      lacks_text old new fits no_token no_text list put within t lacks
  full list put q (FAULT f) w shown = absurd shown
  full list put q OVER w shown = absurd shown

  -- to the room's end, or until more has to come
  pub rest_given : (result : yaml_fed_t) → Gives result → (result ≡ code.OVER → ⊥) → (result ≡ code.FAULT → ⊥)
      → GivesTokens s old new k read.NONE result
  rest_given code.ROOM g a b = made code.ROOM g NONE read.NONE refl (ends_by code.ROOM g fed.NO_ROOM g.is_why)
      (refl, λ next shown. full g.tokens g.given g.left next (g.room refl) shown)
  rest_given code.MORE g a b = made code.MORE g NONE read.NONE refl (ends_by code.MORE g fed.MORE g.is_why).0 (refl, g.is_why)
  rest_given code.WHOLE g a b = made code.WHOLE g NONE read.NONE refl (ends_by code.WHOLE g fed.WHOLE g.is_why).0 (refl, g.is_why)
  rest_given code.OVER g a b = absurd (a refl)
  rest_given code.FAULT g a b = absurd (b refl)

  -- to the stream end
  pub end_given : (result : yaml_fed_t) → s.fed.session.over ≡ false → result ≡ code.OVER → Gives result
      → GivesTokens s old new k read.OVER result
  end_given code.OVER goes e g =
      let ends = ends_by code.OVER g fed.OVER g.is_why in
      let all = ends.1 (inl goes) in
      let whole : g.left.whole ≡ true = ap (λ (z : Fed). z.whole) g.gives.same ∙ all.0 in
      made code.OVER g ALL_GIVEN read.OVER refl (ends.0, λ n. (whole, all.1)) (refl, whole, all.1)
  end_given code.ROOM goes e g = absurd (cc)
  end_given code.MORE goes e g = absurd (cc)
  end_given code.WHOLE goes e g = absurd (cc)
  end_given code.FAULT goes e g = absurd (cc)

  -- to the fault
  pub fault_given : (result : yaml_fed_t) → result ≡ code.FAULT → Gives result → GivesTokens s old new k read.FAULT result
  fault_given code.FAULT e g =
      let f = g.is_why.0 in
      let ends = ends_by code.FAULT g (fed.FAULT f) g.is_why.2 in
      made code.FAULT g (READ_FAULT f) read.FAULT (f, g.is_why.1, refl) (ends.1, g.is_why.1, ends.3) (f, refl)
  fault_given code.ROOM e g = absurd (cc)
  fault_given code.MORE e g = absurd (cc)
  fault_given code.WHOLE e g = absurd (cc)
  fault_given code.OVER e g = absurd (cc)

-- the fault that was read ahead ended the session
pub fault_ended : (r : ahead_t) (o : Option Fault) (f : Fault) → IsAhead r o (READ_FAULT f) → o ≡ Some f
fault_ended read.NONE o f w = absurd (cc)
fault_ended read.FAULT o f w = let e : w.0 ≡ f = cc (w.2) in w.1 ∙ ap (λ (z : Fault). Some z) e
fault_ended read.OVER o f w = absurd (cc)

-- a call that stops at the fault has read it
pub stops_at_fault : (records bytes : ℕ) (list : List Token) (why : fed.Why) (left : PiecesScan) (result : yaml_fed_t)
    → StopsFor records bytes list why left result → result ≡ code.FAULT → (f : Fault) × (left.ahead ≡ READ_FAULT f)
stops_at_fault records bytes list why left code.FAULT w e = w
stops_at_fault records bytes list why left code.ROOM w e = absurd (cc)
stops_at_fault records bytes list why left code.MORE w e = absurd (cc)
stops_at_fault records bytes list why left code.WHOLE w e = absurd (cc)
stops_at_fault records bytes list why left code.OVER w e = absurd (cc)

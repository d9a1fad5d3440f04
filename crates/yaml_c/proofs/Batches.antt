-- Tokens that are given to two rooms make a batch.
use Rattle.std.proofs.Common.{◌≡◌, ◌++◌, ◌∷◌, [], ◌⊎◌, ℕ, ◌+◌, ◌≤◌, ◌<◌, Bool, true, false, List, Option, Some, None, length, refl, ap, sym, ◌∙◌, subst, arith, inl, inr, append-nil}
use Rattle.yaml_text.specs.declared.types.yaml_encoding_t.{yaml_encoding_t}
use Rattle.yaml_text.specs.Fault.{Fault}
use Rattle.yaml_text.specs.Token.{Token}
use Rattle.yaml_scan.specs.All.{ReadsAll}
use Rattle.yaml_scan.specs.Begins.{Begins}
use Rattle.yaml_scan.specs.Inputs.{answers_to}
use Rattle.yaml_scan.specs.KeptCalls.{ComesFirst as IsTakenFirst, GivesMore, GivesToFault, HasNoMoreRoom, token_peeked}
use Rattle.yaml_scan.specs.Parser.{Parser}
use Rattle.yaml_scan.specs.Scanned.{Scanned}
use Rattle.yaml_scan.specs.Session.Call.{SCAN}
use Rattle.yaml_scan.specs.Sink.{said_len}
use Rattle.yaml_scan.specs.declared.scanner.scanner_t.{scanner_t as yaml_kept_parser_t}
use Rattle.yaml_scan.specs.inside.Kept.{IsKept}
use Rattle.yaml_scan.proofs.RunningCalls.ScansToTheEnd.{scans_begin, scans_end}
use Rattle.yaml_c.specs.Ahead.{Ahead, IsAhead}
use Rattle.yaml_c.specs.Ahead.Ahead.{NONE, READ_FAULT, ALL_GIVEN}
use Rattle.yaml_c.specs.Held.{ComesFirst, IsKeptAt, Scan, Stands, comes}
use Rattle.yaml_c.specs.Next.{Next, need, next_of, shown_next}
use Rattle.yaml_c.specs.Next.Next.{UNKNOWN, TOKEN, FAULT, OVER}
use Rattle.yaml_c.specs.Record.{all_texts}
use Rattle.yaml_c.specs.inside.Batch.{GivesNext, Stops}
use Rattle.yaml_c.specs.inside.MorePut.{none_put}
use Rattle.yaml_c.specs.inside.Sink.{ArePut, IsWithin, Lacks}
use Rattle.yaml_c.specs.declared.held.ahead_t.{ahead_t}
use Rattle.yaml_c.specs.declared.held.ahead_t.TheVariants as code
use Rattle.yaml_c.specs.declared.sink.token_rooms_t.{token_rooms_t}
use Rattle.yaml_c.proofs.ShownTokens.{ends_with_token, fault_hides, shown_begins}
use Rattle.yaml_c.proofs.TokensPut.{Fits, HavePut, have_put, said_is, same_sizes}

-- WHAT WAS GIVEN
all_begin : (limit : ℕ) (setting : yaml_encoding_t) (input : List ℕ) (given : List Token) (f : Option Fault) → ReadsAll limit setting input given f → Begins given (answers_to limit setting input).tokens
all_begin limit setting input given f (inl w) = record { rest = []; is = sym w.0 ∙ sym (append-nil given) }
all_begin limit setting input given f (inr w) = w.0.beginning

-- what was given is a beginning of all tokens
pub begins : (limit : ℕ) (setting : yaml_encoding_t) (input : List ℕ) (p : Parser) (given : List Token) (a : Ahead) → Stands limit setting input p given a → Begins given (answers_to limit setting input).tokens
begins limit setting input p given NONE w = scans_begin limit setting input p given _ w
begins limit setting input p given (READ_FAULT f) w = all_begin limit setting input given (Some f) w.reads
begins limit setting input p given ALL_GIVEN (inl w) = scans_begin limit setting input p given true w
begins limit setting input p given ALL_GIVEN (inr w) = all_begin limit setting input given (Some w.0) w.1.reads

-- with the token that comes next it is one too
token_shown_is : (o : Option Token) (t : Token) → shown_next o ≡ TOKEN t → o ≡ Some t
token_shown_is None t e = absurd (cc)
token_shown_is (Some u) t e = cc

pub next_begins : (limit : ℕ) (setting : yaml_encoding_t) (input : List ℕ) (p : Parser) (given : List Token) (a : Ahead) (t : Token) → Stands limit setting input p given a → next_of p a ≡ TOKEN t → Begins (given ++ t ∷ []) (answers_to limit setting input).tokens
next_begins limit setting input p given NONE t w e = shown_begins limit setting input p given w t (token_shown_is (token_peeked p) t e)
next_begins limit setting input p given (READ_FAULT f) t w e = absurd (cc)
next_begins limit setting input p given ALL_GIVEN t w e = absurd (cc)

-- if nothing comes any more, all was given
pub all_read : (limit : ℕ) (setting : yaml_encoding_t) (input : List ℕ) (p : Parser) (given : List Token) → Stands limit setting input p given ALL_GIVEN → (fault : Option Fault) × ReadsAll limit setting input given fault
all_read limit setting input p given (inl w) = (None, scans_end limit setting input p given w)
all_read limit setting input p given (inr w) = (Some w.0, w.1.reads)

-- what holds of a parser's own input holds of the input that it was opened with
pub of_input : (limit : ℕ) (setting : yaml_encoding_t) (input : List ℕ) (p : Parser) (given : List Token) → Scanned limit setting input p given false → (P : ℕ → yaml_encoding_t → List ℕ → Type 0)
    → P p.limit p.setting p.input → P limit setting input
of_input limit setting input p given s P x = subst (λ (z : List ℕ). P limit setting z) s.input_is (subst (λ (z : yaml_encoding_t). P limit z p.input) s.setting_is (subst (λ (z : ℕ). P z p.setting p.input) s.limit_is x))

pub own : (limit : ℕ) (setting : yaml_encoding_t) (input : List ℕ) (p : Parser) (given : List Token) → Scanned limit setting input p given false → Scanned p.limit p.setting p.input p given false
own limit setting input p given s = subst (λ (z : List ℕ). Scanned p.limit p.setting z p given false) (sym s.input_is) (subst (λ (z : yaml_encoding_t). Scanned p.limit z input p given false) (sym s.setting_is) (subst (λ (z : ℕ). Scanned z setting input p given false) (sym s.limit_is) s))

-- WHAT COMES FIRST
-- a token that was shown is the first that is given, or is still shown
shown_first : (o : Option Token) (list : List Token) (q : Parser) (next : Next) → (list ≡ [] → next ≡ shown_next (token_peeked q))
    → IsTakenFirst o list q → ComesFirst (shown_next o) list None next
shown_first None list q next same w = tt
shown_first (Some t) [] q next same w = same refl ∙ ap shown_next w
shown_first (Some t) (x ∷ list) q next same w = w

-- the fault comes after a token that was shown
fault_first : (o : Option Token) (list : List Token) (q : Parser) (f : Fault) → token_peeked q ≡ None
    → IsTakenFirst o list q → ComesFirst (shown_next o) list None (FAULT f)
fault_first None list q f hidden w = tt
fault_first (Some t) [] q f hidden w = absurd (let e = sym hidden ∙ w in cc)
fault_first (Some t) (x ∷ list) q f hidden w = w

-- what comes next is still that, if nothing is given
pub still_first : (n : Next) → ComesFirst n [] None n
still_first UNKNOWN = tt
still_first (TOKEN t) = refl
still_first (FAULT f) = (refl, inr refl)
still_first OVER = tt

-- THE ROOMS AFTER SOME TOKENS
module _ (old new : token_rooms_t) (fits : Fits old) (no_token : old.token_count ≡ 0) (no_text : old.text_len ≡ 0)
    (list : List Token) (put : ArePut old list new) (within : IsWithin new) where
  have : HavePut old list new
  have = have_put old new list fits put

  size : (length new.tokens.now ≡ length old.tokens.now) × (length new.texts.now ≡ length old.texts.now)
  size = same_sizes old new list have

  counted : new.token_count ≡ length list
  counted = let q = size in let a = have.token_count in let b = within.few in let c = fits.tokens in omega arith

  measured : new.text_len ≡ length (all_texts list)
  measured = let q = size in let a = have.text_len in let b = within.fit in let c = fits.texts in omega arith

  pub few : length list ≤ length old.tokens.now
  few = let q = size in let a = counted in let b = within.few in omega arith

  pub fit : length (all_texts list) ≤ length old.texts.now
  fit = let q = size in let a = measured in let b = within.fit in omega arith

  -- there is no room for a record, or none for the texts of a token
  pub lacks_record : Lacks new 1 0 → length list ≡ length old.tokens.now
  lacks_record (inl w) = let q = size in let a = counted in let b = few in omega arith
  lacks_record (inr w) = absurd (let b = within.fit in omega arith)

  pub lacks_text : (t : Token) → Lacks new 1 (said_len t.token_data)
      → (length list ≡ length old.tokens.now) ⊎ (length old.texts.now < length (all_texts list) + need (TOKEN t))
  lacks_text t (inl w) = inl (let q = size in let a = counted in let b = few in omega arith)
  lacks_text t (inr w) = inr (let q = size in let a = measured in let e = said_is t.token_data in omega arith)

  stops_full : (o : Option Token) → length list ≡ length old.tokens.now
      → Stops (length old.tokens.now) (length old.texts.now) list (shown_next o)
  stops_full None w = w
  stops_full (Some t) w = inl w

  -- so a batch stops there
  pub stops_there : (q : Parser) → q.session.over ≡ false → HasNoMoreRoom (Lacks new) q
      → Stops (length old.tokens.now) (length old.texts.now) list (shown_next (token_peeked q))
  stops_there q e (inl over) = absurd (let k = sym e ∙ over in cc)
  stops_there q e (inr (inl w)) = stops_full (token_peeked q) (lacks_record w)
  stops_there q e (inr (inr w)) =
      subst (λ (o : Option Token). Stops (length old.tokens.now) (length old.texts.now) list (shown_next o)) (sym w.1)
      (lacks_text w.0 w.2)

-- THE TOKENS THAT A SCANNER GIVES
module _ (s : Scan) (old new : token_rooms_t) (kept : yaml_kept_parser_t) (fits : Fits old) (no_token : old.token_count ≡ 0)
    (no_text : old.text_len ≡ 0) (within : IsWithin new) (none : s.ahead ≡ NONE)
    (here : Scanned s.limit s.setting s.input s.parser s.given false) where
  comes_shown : comes s ≡ shown_next (token_peeked s.parser)
  comes_shown = ap (λ (a : Ahead). next_of s.parser a) none

  abbrev went_on : (q : Parser) (list : List Token) (b : Bool) → Type 0
  went_on q list b = Scanned s.limit s.setting s.input q (s.given ++ list) b

  goes_on : (q : Parser) (g : GivesMore s.parser q (λ list. ArePut old list new)) → went_on q g.tokens q.session.over
  goes_on q g = of_input s.limit s.setting s.input s.parser s.given here (λ n x i. Scanned n x i q (s.given ++ g.tokens) q.session.over)
      (g.on s.given (own s.limit s.setting s.input s.parser s.given here))

  -- to the room's end
  pub gives_more : (q : Parser) → IsKept q kept → q.session.over ≡ false → GivesMore s.parser q (λ list. ArePut old list new)
      → HasNoMoreRoom (Lacks new) q → GivesNext s old new kept code.NONE
  gives_more q keeps e g room = record {
    parser = q;
    keeps = keeps;
    after = NONE;
    ahead = refl;
    list = g.tokens;
    put = g.given;
    few = few old new fits no_token no_text g.tokens g.given within;
    fit = fit old new fits no_token no_text g.tokens g.given within;
    stands = subst (λ (b : Bool). went_on q g.tokens b) e (goes_on q g);
    stops = stops_there old new fits no_token no_text g.tokens g.given within q e room;
    first = subst (λ (n : Next). ComesFirst n g.tokens None (next_of q NONE)) (sym comes_shown)
        (shown_first (token_peeked s.parser) g.tokens q (next_of q NONE) (λ z. refl) g.first);
    last = λ z. absurd (cc);
  }

  -- to the stream end
  pub gives_rest : (q : Parser) → IsKept q kept → q.session.over ≡ true → GivesMore s.parser q (λ list. ArePut old list new)
      → GivesNext s old new kept code.OVER
  gives_rest q keeps e g =
      let on : went_on q g.tokens true = subst (λ (b : Bool). went_on q g.tokens b) e (goes_on q g) in
      let some = ends_with_token s.limit s.setting s.input s.parser s.given here q g.tokens on in record {
        parser = q;
        keeps = keeps;
        after = ALL_GIVEN;
        ahead = refl;
        list = g.tokens;
        put = g.given;
        few = few old new fits no_token no_text g.tokens g.given within;
        fit = fit old new fits no_token no_text g.tokens g.given within;
        stands = inl on;
        stops = some;
        first = subst (λ (n : Next). ComesFirst n g.tokens None OVER) (sym comes_shown)
            (shown_first (token_peeked s.parser) g.tokens q OVER (λ z. absurd (let k = ap length z in omega arith)) g.first);
        last = λ z. scans_end s.limit s.setting s.input q (s.given ++ g.tokens) on;
      }

  -- to the fault
  pub gives_to_fault : (q : Parser) (f : Fault) → IsKept q kept → q.session.fault ≡ Some f → GivesToFault SCAN s.parser q (λ list. ArePut old list new) f
      → GivesNext s old new kept code.FAULT
  gives_to_fault q f keeps kind g =
      let o = own s.limit s.setting s.input s.parser s.given here in
      let on : Scanned s.limit s.setting s.input g.last (s.given ++ g.tokens) false = of_input s.limit s.setting s.input s.parser s.given here
      (λ n x i. Scanned n x i g.last (s.given ++ g.tokens) false) (g.on s.given o) in record {
        parser = q;
        keeps = keeps;
        after = READ_FAULT f;
        ahead = (f, kind, refl);
        list = g.tokens;
        put = g.given;
        few = few old new fits no_token no_text g.tokens g.given within;
        fit = fit old new fits no_token no_text g.tokens g.given within;
        stands = record {
          reads = of_input s.limit s.setting s.input s.parser s.given here (λ n x i. ReadsAll n x i (s.given ++ g.tokens) (Some f)) (g.reads s.given o);
          before = g.last;
          scanned = on;
          ended = g.ended;
        };
        stops = tt;
        first = subst (λ (n : Next). ComesFirst n g.tokens None (FAULT f)) (sym comes_shown)
            (fault_first (token_peeked s.parser) g.tokens q f (fault_hides g.last q f on.over g.ended) g.first);
        last = λ z. absurd (cc);
      }

-- nothing is given, since it was known what comes next: the fault
pub gives_none : (s : Scan) (old : token_rooms_t) (kept : yaml_kept_parser_t) (read : ahead_t) → IsKeptAt s kept read → (read ≡ code.NONE → ⊥) → (read ≡ code.OVER → ⊥)
    → GivesNext s old old kept read
gives_none s old kept code.NONE at known more = absurd (known refl)
gives_none s old kept code.OVER at known more = absurd (more refl)
gives_none s old kept code.FAULT at known more = let f = at.ahead.0 in record {
  parser = s.parser;
  keeps = at.kept;
  after = READ_FAULT f;
  ahead = (f, at.ahead.1, refl);
  list = [];
  put = none_put old;
  few = omega arith;
  fit = omega arith;
  stands = subst (λ (z : List Token). Stands s.limit s.setting s.input s.parser z (READ_FAULT f)) (sym (append-nil s.given))
      (subst (λ (z : Ahead). Stands s.limit s.setting s.input s.parser s.given z) at.ahead.2 at.stands);
  stops = tt;
  first = subst (λ (z : Ahead). ComesFirst (next_of s.parser z) [] None (FAULT f)) (sym at.ahead.2) (refl, inr refl);
  last = λ z. absurd (cc);
}

-- WHAT THE CODE HAS READ AHEAD
-- nothing
pub none_ahead : (s : Scan) (kept : yaml_kept_parser_t) (read : ahead_t) → IsKeptAt s kept read → read ≡ code.NONE → s.ahead ≡ NONE
none_ahead s kept read at e = subst (λ (z : ahead_t). IsAhead z s.parser.session.fault s.ahead) e at.ahead

-- that nothing comes
pub over_ahead : (s : Scan) (kept : yaml_kept_parser_t) (read : ahead_t) → IsKeptAt s kept read → read ≡ code.OVER → s.ahead ≡ ALL_GIVEN
over_ahead s kept read at e = subst (λ (z : ahead_t). IsAhead z s.parser.session.fault s.ahead) e at.ahead

pub over_is : (read : ahead_t) (fault : Option Fault) (a : Ahead) → IsAhead read fault a → a ≡ ALL_GIVEN → read ≡ code.OVER
over_is code.NONE fault a h e = absurd (let k = sym h ∙ e in cc)
over_is code.FAULT fault a h e = absurd (let k = sym h.2 ∙ e in cc)
over_is code.OVER fault a h e = refl

-- the fault, which the parser keeps
pub fault_ahead : (read : ahead_t) (fault : Option Fault) (a : Ahead) → IsAhead read fault a → read ≡ code.FAULT → (f : Fault) × (fault ≡ Some f) × (a ≡ READ_FAULT f)
fault_ahead read fault a h e = subst (λ (z : ahead_t). IsAhead z fault a) e h

pub next_is_fault : (p : Parser) (read : ahead_t) (a : Ahead) (f : Fault) → IsAhead read p.session.fault a → read ≡ code.FAULT → Some f ≡ p.session.fault → next_of p a ≡ FAULT f
next_is_fault p read a f h e is = let w = fault_ahead read p.session.fault a h e in let k : Some f ≡ Some w.0 = is ∙ w.1 in
    ap (λ (z : Ahead). next_of p z) w.2 ∙ cc

pub fault_is_kept : (p : Parser) (read : ahead_t) (a : Ahead) → IsAhead read p.session.fault a → read ≡ code.FAULT → None ≡ p.session.fault → ⊥
fault_is_kept p read a h e is = let w = fault_ahead read p.session.fault a h e in let k : None ≡ Some w.0 = is ∙ w.1 in absurd (cc)

-- only tokens were given, if nothing was read ahead
pub scanned_so_far : (s : Scan) (kept : yaml_kept_parser_t) (read : ahead_t) → IsKeptAt s kept read → read ≡ code.NONE → Scanned s.limit s.setting s.input s.parser s.given false
scanned_so_far s kept read at e = subst (λ (z : Ahead). Stands s.limit s.setting s.input s.parser s.given z) (none_ahead s kept read at e) at.stands

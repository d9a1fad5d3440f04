-- A look at what comes next.
use Rattle.std.proofs.Common.{◌≡◌, ◌++◌, ◌∷◌, [], Bool, true, false, List, Option, Some, None, refl, ap, sym, ◌∙◌, subst, inl, inr, append-nil}
use Rattle.std.proofs.lemmas.Bool.{cases_Bool}
use Rattle.yaml_text.specs.Fault.{Fault}
use Rattle.yaml_text.specs.Token.{Token}
use Rattle.yaml_scan.specs.All.{ReadsAll}
use Rattle.yaml_scan.specs.Decoded.{decoded_input}
use Rattle.yaml_scan.specs.Headline.{Calls}
use Rattle.yaml_scan.specs.KeptCalls.{ComesFirst as IsTakenFirst, GivesToFault, token_peeked}
use Rattle.yaml_scan.specs.Parser.{Parser}
use Rattle.yaml_scan.specs.ParserCalls.{token_shown}
use Rattle.yaml_scan.specs.Scanned.{GoesOnBy, Scanned}
use Rattle.yaml_scan.specs.Session.Answer.{PEEKED, FAULT as FAULT_ANSWER}
use Rattle.yaml_scan.specs.Session.Call.{PEEK, SCAN}
use Rattle.yaml_scan.specs.declared.scanner.scanner_t.{scanner_t as yaml_kept_parser_t}
use Rattle.yaml_scan.specs.inside.Kept.{IsKept}
use Rattle.yaml_scan.proofs.RunningCalls.CallAnswers.{scan_faulty}
use Rattle.yaml_c.specs.Ahead.{Ahead, IsAhead}
use Rattle.yaml_c.specs.Ahead.Ahead.{NONE, READ_FAULT}
use Rattle.yaml_c.specs.Held.{IsKeptAt, Scan, comes}
use Rattle.yaml_c.specs.Next.{next_of, shown_next}
use Rattle.yaml_c.specs.Next.Next.{UNKNOWN, TOKEN, FAULT, OVER}
use Rattle.yaml_c.specs.inside.Batch.{Looks}
use Rattle.yaml_c.specs.declared.held.ahead_t.{ahead_t}
use Rattle.yaml_c.specs.declared.held.ahead_t.TheVariants as code
use Rattle.yaml_c.proofs.Batches.{of_input, own}
use Rattle.yaml_c.proofs.ShownTokens.{fault_hides, hides, is_peeked_token, shows_same}

-- what is known is shown again
known_is : (p : Parser) (read : ahead_t) (a : Ahead) → IsAhead read p.session.fault a → (read ≡ code.NONE → ⊥) → next_of p a ≡ UNKNOWN → ⊥
known_is p code.NONE a h known e = known refl
known_is p code.FAULT a h known e = (let k : FAULT h.0 ≡ UNKNOWN = sym (ap (λ (z : Ahead). next_of p z) h.2) ∙ e in absurd (cc))
known_is p code.OVER a h known e = (let k : OVER ≡ UNKNOWN = sym (ap (λ (z : Ahead). next_of p z) h) ∙ e in absurd (cc))

pub looks_again : (s : Scan) (kept : yaml_kept_parser_t) (read : ahead_t) → IsKeptAt s kept read → (read ≡ code.NONE → ⊥) → Looks s kept read
looks_again s kept read at known = record {
  parser = s.parser;
  after = s.ahead;
  keeps = record { kept = at.kept; ahead = at.ahead; stands = at.stands };
  known = known_is s.parser read s.ahead at.ahead known;
  stays = λ n. refl;
  over = λ e. e;
}

-- no token was shown if the fault comes next
none_first : (o : Option Token) (list : List Token) (q : Parser) → list ≡ [] → token_peeked q ≡ None → IsTakenFirst o list q → o ≡ None
none_first None list q n hidden w = refl
none_first (Some t) [] q n hidden w = absurd (let e = sym hidden ∙ w in cc)
none_first (Some t) (x ∷ list) q n hidden w = absurd (cc)

module _ (s : Scan) (kept : yaml_kept_parser_t) (none : s.ahead ≡ NONE) (here : Scanned s.limit s.setting s.input s.parser s.given false) where
  comes_shown : comes s ≡ shown_next (token_peeked s.parser)
  comes_shown = ap (λ (a : Ahead). next_of s.parser a) none

  -- the fault comes next
  module _ (q : Parser) (f : Fault) (keeps : IsKept q kept) (kind : q.session.fault ≡ Some f) (g : GivesToFault PEEK s.parser q (λ tokens. tokens ≡ []) f) where
    given_same : s.given ++ g.tokens ≡ s.given
    given_same = ap (λ (z : List Token). s.given ++ z) g.given ∙ append-nil s.given

    on : Scanned s.limit s.setting s.input g.last s.given false
    on = subst (λ (z : List Token). Scanned s.limit s.setting s.input g.last z false) given_same
        (of_input s.limit s.setting s.input s.parser s.given here (λ n x i. Scanned n x i g.last (s.given ++ g.tokens) false)
        (g.on s.given (own s.limit s.setting s.input s.parser s.given here)))

    reads : ReadsAll s.limit s.setting s.input s.given (Some f)
    reads = subst (λ (z : List Token). ReadsAll s.limit s.setting s.input z (Some f)) given_same
        (of_input s.limit s.setting s.input s.parser s.given here (λ n x i. ReadsAll n x i (s.given ++ g.tokens) (Some f))
        (g.reads s.given (own s.limit s.setting s.input s.parser s.given here)))

    ended : Calls decoded_input SCAN g.last (FAULT_ANSWER f) q
    ended = scan_faulty g.last q on.over f g.ended

    not_shown : token_peeked s.parser ≡ None
    not_shown = none_first (token_peeked s.parser) g.tokens q g.given (fault_hides g.last q f on.over ended) g.first

    pub looks_at_fault : Looks s kept code.FAULT
    looks_at_fault = record {
      parser = q;
      after = READ_FAULT f;
      keeps = record {
        kept = keeps;
        ahead = (f, kind, refl);
        stands = record { reads = reads; before = g.last; scanned = on; ended = ended };
      };
      known = λ e. absurd (cc);
      stays = λ n. absurd (n (comes_shown ∙ ap shown_next not_shown));
      over = λ e. absurd (cc);
    }

  -- a token comes next
  module _ (q : Parser) (keeps : IsKept q kept) (calls : Calls decoded_input PEEK s.parser (PEEKED (token_shown q)) q)
      (goes : GoesOnBy s.parser [] q s.parser.session.over) (peeks : s.parser.session.over ≡ false → q.session.peeked ≡ true) where
    shown : token_peeked q ≡ Some (token_shown q)
    shown = is_peeked_token q (peeks here.over)

    goes_on : Scanned s.limit s.setting s.input q s.given false
    goes_on = subst (λ (z : List Token). Scanned s.limit s.setting s.input q z false) (append-nil s.given)
        (subst (λ (b : Bool). Scanned s.limit s.setting s.input q (s.given ++ []) b) here.over
        (of_input s.limit s.setting s.input s.parser s.given here (λ n x i. Scanned n x i q (s.given ++ []) s.parser.session.over)
        (goes s.given (own s.limit s.setting s.input s.parser s.given here))))

    unknown : s.parser.session.peeked ≡ false → comes s ≡ UNKNOWN
    unknown e = comes_shown ∙ ap shown_next (hides s.parser e)

    same : s.parser.session.peeked ≡ true → next_of q NONE ≡ comes s
    same e = ap shown_next (shown ∙ ap Some (shows_same s.parser q (token_shown q) here.over e calls) ∙ sym (is_peeked_token s.parser e)) ∙ sym comes_shown

    no_token : (t : Token) → TOKEN t ≡ UNKNOWN → ⊥
    no_token t e = absurd (cc)

    pub looks_at_token : Looks s kept code.NONE
    looks_at_token = record {
      parser = q;
      after = NONE;
      keeps = record { kept = keeps; ahead = refl; stands = goes_on };
      known = λ e. no_token (token_shown q) (sym (ap shown_next shown) ∙ e);
      stays = λ n. elim (cases_Bool s.parser.session.peeked) [
        | inl e ↦ same e
        | inr e ↦ absurd (n (unknown e))
      ];
      over = λ e. absurd (cc);
    }

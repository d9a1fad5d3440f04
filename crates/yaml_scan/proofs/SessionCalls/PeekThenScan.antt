-- What a peek shows is what the next scan returns.
use Rattle.std.proofs.Common.{◌≡◌, ℕ, Bool, true, false, Option, Some, None, refl, sym}
use Rattle.std.specs.Prelude.{if◌then◌else◌}
use Rattle.std.proofs.lemmas.Bool.{false≢true}
use Rattle.yaml_text.specs.Fault.{Fault}
use Rattle.yaml_text.specs.declared.types.yaml_encoding_t.{yaml_encoding_t}
use Rattle.yaml_scan.specs.Course.{Course}
use Rattle.yaml_scan.specs.Token.{yaml_token_t, empty}
use Rattle.yaml_scan.specs.Groups.{Token}
use Rattle.yaml_scan.specs.Session.{Session, next_token, after, answer, why}
use Rattle.yaml_scan.specs.Session.Call.{SCAN, SKIP}
use Rattle.yaml_scan.specs.Session.Answer.{TOKEN, PEEKED}
use Rattle.yaml_scan.specs.SessionLaws.{PeekShowsNext, SkipTakesPeeked}
use Rattle.yaml_scan.proofs.SessionCalls.CallCases.{after_scan, after_peek, peek_answer}

-- where there is no next token, a peek shows none
none_shown : (f : Option Fault) (t : yaml_token_t) → why f ≡ PEEKED t → ⊥
none_shown None t e = cc
none_shown (Some f) t e = cc

same_token : (t u : yaml_token_t) → PEEKED t ≡ PEEKED u → TOKEN t ≡ TOKEN u
same_token t u e = cc

module _ (limit : ℕ) (c : Course) (s : Session) where
  shows : (e : yaml_encoding_t) (b : Bool) → s.over ≡ b → (o : Option Token) → next_token limit c s ≡ o → (t : yaml_token_t)
      → (if b then PEEKED empty else peek_answer e c o) ≡ PEEKED t → answer e limit c SCAN (if b then s else after_peek limit c s o) ≡ TOKEN t
  shows e true q o n t h = rw q (same_token empty t h)
  shows e false q None n t h = absurd (none_shown c.fault t h)
  shows e false q (Some x) n t h = rw (q, n) (same_token _ t h)

  skips : (b : Bool) → b ≡ false → (o : Option Token) → next_token limit c s ≡ o
      → after limit c SKIP (if b then s else after_peek limit c s o) ≡ (if b then s else after_scan limit c s o)
  skips true q o n = absurd (false≢true (sym q))
  skips false q None n = refl
  skips false q (Some x) n = rw n refl

pub peek_shows_next : PeekShowsNext
peek_shows_next e limit c s t h = shows limit c s e s.over refl (next_token limit c s) refl t h

pub skip_takes_peeked : SkipTakesPeeked
skip_takes_peeked limit c s q = skips limit c s s.over q (next_token limit c s) refl

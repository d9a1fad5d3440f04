-- The table is held against the definition at each byte, by computing.
use Rattle.std.proofs.Common.{◌≡◌, ℕ, ◌<◌, ◌||◌, ◌&&◌, ◌==◌, Bool, true, false, T, nat_lt, get_or, List, refl, arith}
use Rattle.std.proofs.lemmas.Bool.Decides.{nat_tests}
use Rattle.std.specs.Char.{digit_value}
use Rattle.yaml_text.proofs.ManyBytes.VectorLanes.{upto, upto_sound}
use Rattle.yaml_lexeme.specs.declared.escape.TheConstants.{DIGITS}
use Rattle.yaml_lexeme.specs.inside.CommonEscapes.{IsDigit}
use Rattle.yaml_lexeme.proofs.escape.digit.Goals as goal

holds : (b : Bool) → T b → b ≡ true
holds true h = refl
holds false h = absurd h

abbrev fits : ℕ → ℕ → Bool
fits b d = nat_lt 15 d || (nat_lt b 128 && d == digit_value b)

low : (b d v : ℕ) → (nat_lt 15 d || (nat_lt b 128 && d == v)) ≡ true → d < 16 → b < 128
low b d v h few = grind (arith, nat_tests)

equal : (b d v : ℕ) → (nat_lt 15 d || (nat_lt b 128 && d == v)) ≡ true → d < 16 → d ≡ v
equal b d v h few = grind (arith, nat_tests)

table_is : (table : List ℕ) (b : ℕ) → b < 256 → T (upto (λ k. fits k (get_or table k 0)) 256) → get_or table b 0 < 16 → IsDigit b (get_or table b 0)
table_is table b byte all few =
    let h = holds _ (upto_sound (λ k. fits k (get_or table k 0)) 256 all b byte) in
    (low b (get_or table b 0) (digit_value b) h few, equal b (get_or table b 0) (digit_value b) h few)

pub returns : goal.returns
returns c =
    let e : c.from.result ≡ get_or DIGITS c.args.b 0 = c.from.ensures in
    λ few. rw e (table_is DIGITS c.args.b (omega arith) tt (omega (arith, e, few)))

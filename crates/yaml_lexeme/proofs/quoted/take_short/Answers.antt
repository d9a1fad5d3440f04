use Rattle.std.proofs.Common.{◌≡◌, ℕ, ◌-◌, ◌<◌, ◌++◌, ◌∷◌, ◌∙◌, refl, sym, ap, subst, List, length, take, drop, arith}
use Rattle.std.proofs.lemmas.List.{take_rest, drop-drop}
use Rattle.yaml_text.specs.Chars.{utf8}
use Rattle.yaml_lexeme.specs.Place.{Place, first, peek, skip}
use Rattle.yaml_lexeme.specs.inside.CommonEscapes.{byte_escape}
use Rattle.yaml_lexeme.specs.inside.ShortRuns.{Short, ShortRun}
use Rattle.yaml_lexeme.proofs.Readers.ShortTurns.{byte_goes, byte_passes, two_bytes, short_of}
use Rattle.yaml_lexeme.proofs.quoted.take_short.Goals as goal
use Rattle.yaml_lexeme.proofs.quoted.take_short.Goals.{Else-byte-eq0, Else-n-eq-STAGE, After-pass_short}

-- an escape is here that gives a byte
record IsByte (p : Place) (byte : ℕ) : Type 0 where
  here : first p ≡ 0x5C
  some : 0 < byte_escape (peek p 1)
  same : byte ≡ byte_escape (peek p 1)

is_byte : (c : Else-byte-eq0) → IsByte c.args.cursor.now c.byte_escape-byte.result
is_byte c =
    let p = c.args.cursor.now in
    let same = c.byte_escape-byte.ensures ∙ ap byte_escape c.peek-next.ensures in
    record { here = sym c.peek.ensures ∙ c.if-not-peek.false; some = omega (arith, same, c.if-byte-eq0.false); same = same }

pub pass_two-requires : goal.pass_two-requires
pass_two-requires c =
    let is = is_byte (goal.at.pass_two-requires c).Else-byte-eq0 in
    let next = byte_passes (peek c.args.cursor.now 1) is.some in
    record { backslash = is.here; some = next.some; ascii = next.ascii; inside = next.inside }

-- what is left after the escape
left_is : (p : Place) (bs : List ℕ) (byte : ℕ) → IsByte p byte → bs ≡ utf8 p.rest → drop 1 (drop 1 bs) ≡ utf8 (skip 2 p).rest
left_is p bs byte is e =
    let next = byte_passes (peek p 1) is.some in
    let two : utf8 (skip 2 p).rest ≡ drop 1 (drop 1 (utf8 p.rest)) = two_bytes p (omega (arith, is.here)) (omega (arith, is.here)) next.some next.ascii in
    ap (λ (x : List ℕ). drop 1 (drop 1 x)) e ∙ sym two

short_is : (c : Else-n-eq-STAGE) → IsByte c.args.cursor.now c.byte_escape-byte.result → Short (utf8 (skip 2 c.args.cursor.now).rest) c.short_len-n.result
short_is c is =
    let bs = c.left-bytes.result.now in
    let left : take (length bs - 2) (drop 2 bs) ≡ utf8 (skip 2 c.args.cursor.now).rest = take_rest bs 2 ∙ sym (drop-drop 1 1 bs) ∙ left_is c.args.cursor.now bs c.byte_escape-byte.result is c.left-bytes.ensures in
    subst (λ (x : List ℕ). Short x c.short_len-n.result) left (c.short_len-n.ensures.value (omega (arith, c.short_len-n.ensures.most, c.if-n-eq-STAGE.false)))

pub pass_short-requires : goal.pass_short-requires
pass_short-requires c =
    let at = goal.at.pass_short-requires c in
    rw c.pass_two.ensures (short_is at.Else-n-eq-STAGE (is_byte at.Else-byte-eq0))

run_is : (c : After-pass_short) → ShortRun (skip 2 c.args.cursor.now) c.pass_short.new.self c.short_len-n.result
run_is c = subst (λ (x : Place). ShortRun x c.pass_short.new.self c.short_len-n.result) c.pass_two.ensures c.pass_short.ensures

pub returns-clause-goes : goal.returns-clause-goes
returns-clause-goes c =
    let p = c.args.cursor.now in
    let n = c.short_len-n.result in
    let at = goal.at.returns-clause-goes c in
    let is = is_byte at.Else-byte-eq0 in
    let bs = c.left-bytes.result.now in
    let left : drop 1 (take (length bs - 1) (drop 1 bs)) ≡ utf8 (skip 2 p).rest = ap (λ (x : List ℕ). drop 1 x) (take_rest bs 1) ∙ left_is p bs c.byte_escape-byte.result is c.left-bytes.ensures in
    let value : c.push_behind.new.out.items ≡ c.args.out.now.items ++ (byte_escape (peek p 1) ∷ take n (utf8 (skip 2 p).rest)) =
    c.in_ok-push_behind.ensures ∙ ap (λ (x : List ℕ). c.args.out.now.items ++ (c.byte_escape-byte.result ∷ take n x)) left ∙ ap (λ b. c.args.out.now.items ++ (b ∷ take n (utf8 (skip 2 p).rest))) is.same in
    byte_goes p c.pass_short.new.self n c.args.out.now.items c.push_behind.new.out.items is.here is.some (run_is at.After-pass_short) value

pub returns-clause-shorter : goal.returns-clause-shorter
returns-clause-shorter c =
    let p = c.args.cursor.now in
    let at = goal.at.returns-clause-shorter c in
    let is = is_byte at.Else-byte-eq0 in
    short_of p (skip 2 p) c.pass_short.new.self c.short_len-n.result 1 (omega (arith, is.here)) refl (run_is at.After-pass_short)

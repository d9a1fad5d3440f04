use Rattle.std.proofs.Common.{◌≡◌, ℕ, ◌-◌, ◌++◌, ◌∙◌, sym, ap, subst, List, length, take, drop, arith}
use Rattle.std.proofs.lemmas.List.{take_rest, drop-drop}
use Rattle.std.specs.Char.{encode_utf8}
use Rattle.yaml_text.specs.Chars.{utf8}
use Rattle.yaml_lexeme.specs.Place.{Place, first, peek, skip}
use Rattle.yaml_lexeme.specs.inside.ShortRuns.{Short, ShortRun}
use Rattle.yaml_lexeme.specs.inside.CommonEscapes.{SpellsFour}
use Rattle.yaml_lexeme.proofs.Readers.ShortTurns.{hex_goes, hex_short, u_passes, two_bytes, four_bytes}
use Rattle.yaml_lexeme.proofs.quoted.take_short_hex.Goals as goal
use Rattle.yaml_lexeme.proofs.quoted.take_short_hex.Goals.{Else-n-eq-STAGE, After-pass_short}

-- an escape of four hex digits is here
record IsHex (p : Place) (c : ℕ) : Type 0 where
  here : first p ≡ 0x5C
  u : peek p 1 ≡ 0x75
  spelled : SpellsFour (skip 2 p) c

-- what is left after the backslash and the `u`
left_is : (p : Place) (bs : List ℕ) → first p ≡ 0x5C → peek p 1 ≡ 0x75 → bs ≡ utf8 p.rest → drop 2 bs ≡ utf8 (skip 2 p).rest
left_is p bs here u e =
    sym (drop-drop 1 1 bs) ∙ ap (λ (x : List ℕ). drop 1 (drop 1 x)) e ∙ sym (two_bytes p (omega (arith, here)) (omega (arith, here)) (omega (arith, u)) (omega (arith, u)))

is_hex : (c : Else-n-eq-STAGE) → IsHex c.args.cursor.now c.in-Some.c
is_hex c =
    let p = c.args.cursor.now in
    let bs = c.left-bytes.result.now in
    let u : peek p 1 ≡ 0x75 = sym c.requires.next ∙ c.if-next-ne117.false in
    let left : take (length bs - 2) (drop 2 bs) ≡ utf8 (skip 2 p).rest = take_rest bs 2 ∙ left_is p bs c.requires.backslash u c.left-bytes.ensures in
    record { here = c.requires.backslash; u = u; spelled = c.in-Some.ensures (skip 2 p) (sym left) }

-- what is left after the digits
end_is : (p : Place) (bs : List ℕ) (c : ℕ) → IsHex p c → bs ≡ utf8 p.rest → drop 6 bs ≡ utf8 (skip 4 (skip 2 p)).rest
end_is p bs c is e = sym (drop-drop 4 2 bs) ∙ ap (λ (x : List ℕ). drop 4 x) (left_is p bs is.here is.u e) ∙ sym (four_bytes (skip 2 p) is.spelled.1)

pub pass_two-requires : goal.pass_two-requires
pass_two-requires c =
    let is = is_hex (goal.at.pass_two-requires c).Else-n-eq-STAGE in
    let next = u_passes (peek c.args.cursor.now 1) is.u in
    record { backslash = is.here; some = next.some; ascii = next.ascii; inside = next.inside }

pub pass_four-requires : goal.pass_four-requires
pass_four-requires c = rw c.pass_two.ensures (is_hex (goal.at.pass_four-requires c).Else-n-eq-STAGE).spelled.1

pub pass_short-requires : goal.pass_short-requires
pass_short-requires c =
    let p = c.args.cursor.now in
    let bs = c.left-bytes.result.now in
    let is = is_hex (goal.at.pass_short-requires c).Else-n-eq-STAGE in
    let left : take (length bs - 6) (drop 6 bs) ≡ utf8 (skip 4 (skip 2 p)).rest = take_rest bs 6 ∙ end_is p bs c.in-Some.c is c.left-bytes.ensures in
    let short : Short (utf8 (skip 4 (skip 2 p)).rest) c.short_len-n.result = subst (λ (x : List ℕ). Short x c.short_len-n.result) left (c.short_len-n.ensures.value (omega (arith, c.short_len-n.ensures.most, c.if-n-eq-STAGE.false))) in
    let at : c.pass_four.new.cursor ≡ skip 4 (skip 2 p) = c.pass_four.ensures ∙ ap (λ (x : Place). skip 4 x) c.pass_two.ensures in
    rw at short

run_is : (c : After-pass_short) → ShortRun (skip 4 (skip 2 c.args.cursor.now)) c.pass_short.new.self c.short_len-n.result
run_is c =
    let at : c.pass_four.new.cursor ≡ skip 4 (skip 2 c.args.cursor.now) = c.pass_four.ensures ∙ ap (λ (x : Place). skip 4 x) c.pass_two.ensures in
    subst (λ (x : Place). ShortRun x c.pass_short.new.self c.short_len-n.result) at c.pass_short.ensures

pub returns-clause-goes : goal.returns-clause-goes
returns-clause-goes c =
    let p = c.args.cursor.now in
    let q = skip 4 (skip 2 p) in
    let n = c.short_len-n.result in
    let at = goal.at.returns-clause-goes c in
    let is = is_hex at.Else-n-eq-STAGE in
    let bs = c.left-bytes.result.now in
    let left : drop 2 (take (length bs - 4) (drop 4 bs)) ≡ utf8 q.rest = ap (λ (x : List ℕ). drop 2 x) (take_rest bs 4) ∙ drop-drop 2 4 bs ∙ end_is p bs c.in-Some.c is c.left-bytes.ensures in
    let value : c.push_char_behind.new.out.items ≡ c.args.out.now.items ++ (encode_utf8 c.in-Some.c ++ take n (utf8 q.rest)) =
    c.in_ok-push_char_behind.ensures ∙ ap (λ (x : List ℕ). c.args.out.now.items ++ (encode_utf8 c.in-Some.c ++ take n x)) left in
    hex_goes p q c.pass_short.new.self c.in-Some.c n c.args.out.now.items c.push_char_behind.new.out.items is.here is.u is.spelled.0 (run_is at.After-pass_short) value

pub returns-clause-shorter : goal.returns-clause-shorter
returns-clause-shorter c =
    let p = c.args.cursor.now in
    let at = goal.at.returns-clause-shorter c in
    let is = is_hex at.Else-n-eq-STAGE in
    hex_short p (skip 4 (skip 2 p)) c.pass_short.new.self c.in-Some.c c.short_len-n.result is.here is.u is.spelled.0 (run_is at.After-pass_short)

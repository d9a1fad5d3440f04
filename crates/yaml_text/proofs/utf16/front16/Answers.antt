use Rattle.std.proofs.Common.{arith, length-drop}
use Rattle.yaml_text.proofs.Decodings.DecodeFronts.{scalar-IsChar}
use Rattle.yaml_text.proofs.Characters.Utf16Spelling.{reads_none, reads_more, none16_at_end}
use Rattle.yaml_text.proofs.utf16.front16.Goals as goal

pub loop-at-init : goal.loop-at-init
loop-at-init c = rw c.new-out.ensures.items (reads_none c.args.big c.args.bytes.now)

pub push_code-requires : goal.push_code-requires
push_code-requires c = scalar-IsChar c.in-Ok.c c.in-Ok.ensures.char

pub push_quick-requires : goal.push_quick-requires
push_quick-requires c =
    let f = c.in-Ok.ensures.found in
    rw c.in_ok-push_code-in-Ok.ensures.ok (reads_more c.args.big c.args.bytes.now c.loop-at.out.items c.loop-at.at c.in-Ok.width c.in-Ok.c c.loop-at.invariant c.in-Ok.ensures.char (rw c.rest.ensures at f.0) f.1)

pub returns-clause-longest : goal.returns-clause-longest
returns-clause-longest c = none16_at_end _ _ (omega (arith, length-drop c.loop-at.at c.args.bytes.now))

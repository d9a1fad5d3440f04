use Rattle.std.proofs.Common.{◌≡◌, ◌+◌, ◌-◌, suc, true, false, arith, not}
use Rattle.std.proofs.lemmas.Result.{err_from_is_err_and}
use Rattle.yaml_lexeme.specs.declared.problem.yaml_refusal_t.TheVariants as errors
use Rattle.yaml_lexeme.specs.declared.problem.yaml_problem_t.TheVariants.{BAD_NEXT_OCTET}
use Rattle.yaml_lexeme.proofs.Readers.UriOctets.{octets_more, octets_bad, octets_none, octets_all, appended, not_appended}
use Rattle.yaml_lexeme.specs.Reading.{with_front}
use Rattle.yaml_lexeme.specs.Uri.{next_octets}
use Rattle.yaml_lexeme.proofs.uri.take_next_octets.Goals as goal
use Rattle.yaml_text.specs.Utf8.{continues}

pub returns-in_err-c : goal.returns-in_err-c
returns-in_err-c c =
    let p = c.octets.cursor in
    let n = c.args.n - c.octets.counter in
    let m = c.args.n - (c.octets.counter + 1) in
    let more : n ≡ suc m = omega arith in
    let e = err_from_is_err_and c.from_residual.result c.from_residual.ensures.1 in
    let error = c.in_err-c.field-0.0 in
    let read = next_octets c.args.n c.args.cursor.now in
    rw (e.1, e.2) (not_appended error read c.args.out.now.items p (octets_none error n m p c.octets.out.items (with_front c.args.out.now.items read) more c.in_err-c.ensures c.octets.invariant))

pub returns-then-is_bad_next : goal.returns-then-is_bad_next
returns-then-is_bad_next c =
    let p = c.octets.cursor in
    let n = c.args.n - c.octets.counter in
    let m = c.args.n - (c.octets.counter + 1) in
    let more : n ≡ suc m = omega arith in
    let bad : not (continues c.in_ok-c.c) ≡ true = cc in
    let read = next_octets c.args.n c.args.cursor.now in
    rw c.offence.ensures (not_appended (errors.OFFENCE BAD_NEXT_OCTET) read c.args.out.now.items p (octets_bad n m c.in_ok-c.c p c.octets.out.items (with_front c.args.out.now.items read) more c.in_ok-c.ensures bad c.octets.invariant))

pub octets-preserved : goal.octets-preserved
octets-preserved c =
    let p = c.octets.cursor in
    let n = c.args.n - c.octets.counter in
    let m = c.args.n - (c.octets.counter + 1) in
    let more : n ≡ suc m = omega arith in
    let fine : not (continues c.in_ok-c.c) ≡ false = cc in
    rw (c.skip.ensures, c.in_ok-push_byte.ensures) (octets_more n m c.in_ok-c.c p c.octets.out.items (with_front c.args.out.now.items (next_octets c.args.n c.args.cursor.now)) more c.in_ok-c.ensures fine c.octets.invariant)

pub returns : goal.returns
returns c =
    let p = c.octets.cursor in
    let n = c.args.n - c.octets.counter in
    let none : n ≡ 0 = omega arith in
    let read = next_octets c.args.n c.args.cursor.now in
    appended read c.args.out.now.items c.octets.out.items p (octets_all n p c.octets.out.items (with_front c.args.out.now.items read) none c.octets.invariant)

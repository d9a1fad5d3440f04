use Rattle.std.proofs.Common.{◌≡◌, ◌≤◌, ℕ, not, false, length, refl, sym, ap, arith}
use Rattle.std.specs.Prelude.{nat_eq}
use Rattle.std.proofs.lemmas.Result.{err_from_is_err_and}
use Rattle.yaml_text.specs.Chars.{utf8}
use Rattle.yaml_lexeme.specs.Place.{Place}
use Rattle.yaml_lexeme.specs.Quoted.{body_part, spelled}
use Rattle.yaml_lexeme.specs.Reading.{many, with_front}
use Rattle.yaml_lexeme.proofs.Readers.QuotedBody.{body_shortens}
use Rattle.yaml_lexeme.proofs.Parts.PartByPart.{Reading, reads_more, reads_all, reads_none}
use Rattle.yaml_lexeme.proofs.quoted.take_turn.Given.{Over}
use Rattle.yaml_lexeme.proofs.quoted.take_turn.Goals as goal
use Rattle.yaml_lexeme.proofs.quoted.take_turn.Goals.{Joined-else-not-this, else-not-this-via-then-not-this+in_ok-take_short+else-branch, else-not-this-via-else-not-this}

-- where no escape is taken with a short piece, the same is still to be read
still : (g : Over) (c : Joined-else-not-this g) → let one = body_part (not (nat_eq g.row.SINGLE 0)) in let now = c.else-not-this in
    Reading utf8 one now.cursor now.out.items (with_front c.args.out.now.items (spelled (many one c.args.cursor.now)))
    × (length now.cursor.rest ≤ length c.args.cursor.now.rest)
still g c =
    elim c.else-not-this.branch [
      | else-not-this-via-then-not-this+in_ok-take_short+else-branch w ↦
          let off : (not (nat_eq g.row.SINGLE 0)) ≡ false = ap (λ (n : ℕ). not (nat_eq n 0)) w.if-not-this.true in
          let before = with_front c.args.out.now.items (spelled (many (body_part false) c.args.cursor.now)) in
          let goes = w.in_ok-take_short.ensures.goes before refl in
          (rw (w.cursor-is, w.out-is, off) goes, omega (arith, w.in_ok-take_short.ensures.shorter, ap (λ (x : Place). length x.rest) w.cursor-is))
      | else-not-this-via-else-not-this w ↦
          (rw (w.cursor-is, w.out-is) refl, omega (arith, ap (λ (x : Place). length x.rest) w.cursor-is))
    ]

pub returns-clause-value : goal.returns-clause-value
returns-clause-value g c =
    let one = body_part (not (nat_eq g.row.SINGLE 0)) in
    let now = c.else-not-this in
    let whole = with_front c.args.out.now.items (spelled (many one c.args.cursor.now)) in
    let so_far = still g (goal.at.returns-clause-value g c).Joined-else-not-this in
    let took = rw c.if-not-branch.false at c.in_ok-take_part.ensures in
    let more = (reads_more utf8 one (body_shortens (not (nat_eq g.row.SINGLE 0))) now.cursor c.take_part.new.cursor _ _ whole took so_far.0).1 in
    sym (c.in_ok-push_line.ensures.goes whole more)

pub returns-clause-shorter : goal.returns-clause-shorter
returns-clause-shorter g c = λ yes.
    let one = body_part (not (nat_eq g.row.SINGLE 0)) in
    let now = c.else-not-this in
    let whole = with_front c.args.out.now.items (spelled (many one c.args.cursor.now)) in
    let so_far = still g (goal.at.returns-clause-shorter g c).Joined-else-not-this in
    let took = rw c.if-not-branch.false at c.in_ok-take_part.ensures in
    let less = (reads_more utf8 one (body_shortens (not (nat_eq g.row.SINGLE 0))) now.cursor c.take_part.new.cursor _ _ whole took so_far.0).0 in
    omega (arith, less, so_far.1, c.in_ok-push_line.ensures.shorter)

pub returns-then-not-branch-clause-value : goal.returns-then-not-branch-clause-value
returns-then-not-branch-clause-value g c =
    let one = body_part (not (nat_eq g.row.SINGLE 0)) in
    let now = c.else-not-this in
    let whole = with_front c.args.out.now.items (spelled (many one c.args.cursor.now)) in
    let so_far = still g (goal.at.returns-then-not-branch-clause-value g c).Joined-else-not-this in
    let took = rw c.if-not-branch.true at c.in_ok-take_part.ensures in
    reads_all utf8 one (body_shortens (not (nat_eq g.row.SINGLE 0))) now.cursor c.take_part.new.cursor _ _ whole took so_far.0

pub returns-in_err-take_part-clause-value : goal.returns-in_err-take_part-clause-value
returns-in_err-take_part-clause-value g c =
    let one = body_part (not (nat_eq g.row.SINGLE 0)) in
    let now = c.else-not-this in
    let whole = with_front c.args.out.now.items (spelled (many one c.args.cursor.now)) in
    let so_far = still g (goal.at.returns-in_err-take_part-clause-value g c).Joined-else-not-this in
    let error = c.in_err-take_part.field-0.0 in
    let e = err_from_is_err_and c.from_residual-in_err-take_part.result c.from_residual-in_err-take_part.ensures.1 in
    rw (e.1, e.2) (reads_none utf8 one (body_shortens (not (nat_eq g.row.SINGLE 0))) error now.cursor c.take_part.new.cursor _ whole c.in_err-take_part.ensures so_far.0)

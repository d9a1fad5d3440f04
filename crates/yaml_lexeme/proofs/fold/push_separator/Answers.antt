use Rattle.std.proofs.Common.{◌≡◌, ◌++◌, length, ◌∙◌, arith, ap, ℕ, List}
use Rattle.std.proofs.lemmas.Grind.{common_steps}
use Rattle.std.specs.Char.{encode_utf8}
use Rattle.yaml_lexeme.proofs.Readers.FoldSeparators.{breaks_at, after_break, first_of, sep_blanks, sep_kept, sep_space, sep_more}
use Rattle.yaml_lexeme.specs.Classes.{is_white}
use Rattle.yaml_lexeme.specs.Place.{after_run, break_len, run}
use Rattle.yaml_text.specs.Chars.{utf8}
use Rattle.yaml_text.specs.Classes.{is_blank}
use Rattle.yaml_lexeme.proofs.fold.push_separator.Goals as goal
use Rattle.yaml_lexeme.proofs.fold.push_separator.Goals.{In_ok-push_breaks-2}

pub returns-then-break_len-eq0 : goal.returns-then-break_len-eq0
returns-then-break_len-eq0 c =
    let p = c.args.cursor.now in
    let none : break_len (after_run is_blank p) ≡ 0 = cc in
    let value : c.extend_from_slice.new.self.items ≡ c.args.out.now.items ++ utf8 (run is_blank p) = c.in_ok-extend_from_slice.ensures.items ∙ ap (λ (x : List ℕ). c.args.out.now.items ++ x) c.run-blanks.ensures.value in
    let s = sep_blanks p c.args.out.now.items c.extend_from_slice.new.self.items c.run-blanks.new.self none value c.run-blanks.ensures.end in
    record { value = s.0; end = s.1 }

pub returns-then-first-ne10 : goal.returns-then-first-ne10
returns-then-first-ne10 c =
    let p = c.args.cursor.now in
    let at : c.skip.new.self ≡ after_break p = cc in
    let here : c.break_len.result ≡ break_len (after_run is_blank p) = cc in
    let first : c.written-first.result ≡ first_of p = cc in
    let other : first_of p ≡ 10 → ⊥ = λ e. c.if-first-ne10.true (first ∙ e) in
    let mid : c.push_char.new.out.items ≡ c.args.out.now.items ++ encode_utf8 (first_of p) = rw first at c.in_ok-push_char.ensures in
    let value : c.push_breaks.new.out.items ≡ c.push_char.new.out.items ++ utf8 (breaks_at (after_break p)) = rw at at c.in_ok-push_breaks.ensures.value in
    let end : c.push_breaks.new.cursor ≡ after_run is_white (after_break p) = rw at at c.in_ok-push_breaks.ensures.end in
    let s = sep_kept p c.args.out.now.items c.push_char.new.out.items c.push_breaks.new.out.items c.push_breaks.new.cursor (omega arith) other mid value end in
    record { value = s.0; end = s.1 }

broken : (c : In_ok-push_breaks-2) → let p = c.args.cursor.now in
    (first_of p ≡ 10) × (c.push_breaks-2.new.out.items ≡ c.args.out.now.items ++ utf8 (breaks_at (after_break p))) × (c.push_breaks-2.new.cursor ≡ after_run is_white (after_break p))
broken c =
    let at : c.skip.new.self ≡ after_break c.args.cursor.now = cc in
    let feed : first_of c.args.cursor.now ≡ 10 = cc in
    (feed, rw at at c.in_ok-push_breaks-2.ensures.value, rw at at c.in_ok-push_breaks-2.ensures.end)

pub returns-in_ok-push_char-2 : goal.returns-in_ok-push_char-2
returns-in_ok-push_char-2 c =
    let p = c.args.cursor.now in
    let here : c.break_len.result ≡ break_len (after_run is_blank p) = cc in
    let (feed, value, end) = broken (goal.at.returns-in_ok-push_char-2 c).In_ok-push_breaks-2 in
    let same : length c.push_breaks-2.new.out.items ≡ length c.args.out.now.items = grind (arith, common_steps) in
    let s = sep_space p c.args.out.now.items c.push_breaks-2.new.out.items c.push_char-then-len-before.new.out.items c.push_breaks-2.new.cursor (omega arith) feed value same c.in_ok-push_char-2.ensures end in
    record { value = s.0; end = s.1 }

pub returns-else-len-before : goal.returns-else-len-before
returns-else-len-before c =
    let p = c.args.cursor.now in
    let here : c.break_len.result ≡ break_len (after_run is_blank p) = cc in
    let (feed, value, end) = broken (goal.at.returns-else-len-before c).In_ok-push_breaks-2 in
    let other : length c.push_breaks-2.new.out.items ≡ length c.args.out.now.items → ⊥ = λ e. grind (arith, common_steps) in
    let s = sep_more p c.args.out.now.items c.push_breaks-2.new.out.items c.push_breaks-2.new.cursor (omega arith) feed value other end in
    record { value = s.0; end = s.1 }

use Rattle.std.proofs.Common.{◌≡◌, ◌++◌, ◌∙◌, true, false, arith}
use Rattle.std.proofs.lemmas.Result.{err_from_is_err_and}
use Rattle.yaml_text.specs.Chars.{utf8}
use Rattle.yaml_lexeme.specs.declared.problem.yaml_problem_t.TheVariants.{COLON_IN_FLOW}
use Rattle.yaml_lexeme.specs.declared.problem.yaml_refusal_t.TheVariants.{OFFENCE}
use Rattle.yaml_lexeme.specs.Classes.{is_white}
use Rattle.yaml_lexeme.specs.Fold.{fold}
use Rattle.yaml_lexeme.specs.Place.{first, peek, run}
use Rattle.yaml_lexeme.specs.Plain.{is_over, is_chunk, is_bad_colon}
use Rattle.yaml_lexeme.specs.Reading.{with_front}
use Rattle.yaml_lexeme.specs.inside.Words.{links, words}
use Rattle.yaml_lexeme.proofs.Readers.PlainLinks.{gap_is, ends_here, link_refused, is_over_there, colon_there, nothing_there}
use Rattle.yaml_lexeme.proofs.Readers.PlainLines.{links_over, links_none, links_go, links_go_wrong, white_shorter}
use Rattle.yaml_lexeme.proofs.plain.take_link.Goals as goal
use Rattle.yaml_lexeme.proofs.plain.take_link.Goals.{In_ok-push_separator}

pub returns-then-not-is_white-clause-value : goal.returns-then-not-is_white-clause-value
returns-then-not-is_white-clause-value c =
    let p = c.args.cursor.now in
    let other : is_white (first p) ≡ false = cc in
    links_over c.args.in_flow c.args.least p p c.args.out.now.items (ends_here c.args.in_flow c.args.least p c.args.out.now.items other)

pub returns-in_err-skip_separator-clause-value : goal.returns-in_err-skip_separator-clause-value
returns-in_err-skip_separator-clause-value c =
    let p = c.args.cursor.now in
    let space : is_white (first p) ≡ true = cc in
    let error = c.in_err-skip_separator.field-0.0 in
    let e = err_from_is_err_and c.from_residual.result c.from_residual.ensures.1 in
    rw (e.1, e.2) (links_none error c.args.in_flow c.args.least p c.skip_separator.new.cursor c.args.out.now.items (link_refused error c.args.in_flow c.args.least p c.skip_separator.new.cursor space c.in_err-skip_separator.ensures))

pub returns-then-is_over-clause-value : goal.returns-then-is_over-clause-value
returns-then-is_over-clause-value c =
    let p = c.args.cursor.now in
    let q = c.skip_separator.new.cursor in
    let space : is_white (first p) ≡ true = cc in
    let o : is_over c.args.in_flow c.args.least q ≡ true = cc in
    let t = gap_is c.args.least p q c.in_ok-skip_separator.ensures in
    links_over c.args.in_flow c.args.least p c.again-start.result c.args.out.now.items (is_over_there c.args.in_flow c.args.least p q c.again-start.result c.args.out.now.items (record { space = space; read = t.0 }) o c.again-start.ensures)

pub returns-then-is_bad_colon-clause-value : goal.returns-then-is_bad_colon-clause-value
returns-then-is_bad_colon-clause-value c =
    let p = c.args.cursor.now in
    let q = c.skip_separator.new.cursor in
    let space : is_white (first p) ≡ true = cc in
    let o : is_over c.args.in_flow c.args.least q ≡ false = cc in
    let b : is_bad_colon c.args.in_flow (first q) (peek q 1) ≡ true = cc in
    let t = gap_is c.args.least p q c.in_ok-skip_separator.ensures in
    rw c.offence.ensures (links_none (OFFENCE COLON_IN_FLOW) c.args.in_flow c.args.least p q c.args.out.now.items (colon_there c.args.in_flow c.args.least p q (record { space = space; read = t.0 }) o b))

pub returns-then-not-is_chunk-clause-value : goal.returns-then-not-is_chunk-clause-value
returns-then-not-is_chunk-clause-value c =
    let p = c.args.cursor.now in
    let q = c.skip_separator.new.cursor in
    let space : is_white (first p) ≡ true = cc in
    let o : is_over c.args.in_flow c.args.least q ≡ false = cc in
    let b : is_bad_colon c.args.in_flow (first q) (peek q 1) ≡ false = cc in
    let h : is_chunk c.args.in_flow (first q) (peek q 1) ≡ false = cc in
    let t = gap_is c.args.least p q c.in_ok-skip_separator.ensures in
    links_over c.args.in_flow c.args.least p c.again-start.result c.args.out.now.items (nothing_there c.args.in_flow c.args.least p q c.again-start.result c.args.out.now.items (record { space = space; read = t.0 }) o b h c.again-start.ensures)

goes : (c : In_ok-push_separator) → with_front c.args.out.now.items (links c.args.in_flow c.args.least c.args.cursor.now) ≡ with_front c.push_separator.new.out.items (words c.args.in_flow c.args.least c.skip_separator.new.cursor)
goes c =
    let p = c.args.cursor.now in
    let q = c.skip_separator.new.cursor in
    let out = c.args.out.now.items in
    let space : is_white (first p) ≡ true = cc in
    let o : is_over c.args.in_flow c.args.least q ≡ false = cc in
    let h : is_chunk c.args.in_flow (first q) (peek q 1) ≡ true = cc in
    let t = gap_is c.args.least p q c.in_ok-skip_separator.ensures in
    let mid : c.push_separator.new.out.items ≡ out ++ utf8 (fold (run is_white p)) = rw c.again-start.ensures at c.in_ok-push_separator.ensures.value in
    links_go c.args.in_flow c.args.least p q out c.push_separator.new.out.items (record { space = space; read = t.0 }) o h mid

pub returns-in_err-take_words-clause-value : goal.returns-in_err-take_words-clause-value
returns-in_err-take_words-clause-value c =
    let error = c.in_err-take_words.field-0.0 in
    let e = err_from_is_err_and c.from_residual-in_err-take_words.result c.from_residual-in_err-take_words.ensures.1 in
    rw (e.1, e.2) (links_go_wrong error (with_front c.args.out.now.items (links c.args.in_flow c.args.least c.args.cursor.now)) (with_front c.push_separator.new.out.items (words c.args.in_flow c.args.least c.skip_separator.new.cursor)) c.take_words.new.cursor (goes (goal.at.returns-in_err-take_words-clause-value c).In_ok-push_separator) c.in_err-take_words.ensures.value)

pub returns-clause-value : goal.returns-clause-value
returns-clause-value c = goes (goal.at.returns-clause-value c).In_ok-push_separator ∙ c.in_ok-take_words.ensures.value

pub returns-clause-shorter : goal.returns-clause-shorter
returns-clause-shorter c =
    let p = c.args.cursor.now in
    let q = c.skip_separator.new.cursor in
    let space : is_white (first p) ≡ true = cc in
    let t = gap_is c.args.least p q c.in_ok-skip_separator.ensures in
    let less = white_shorter p q space t.1 in
    λ more. omega (arith, less, c.in_ok-take_words.ensures.shorter)

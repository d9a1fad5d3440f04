use Rattle.std.proofs.Common.{◌≡◌, ◌-◌, ◌≤◌, suc, zero, take, get_or, true, false, sym, ap, ◌∙◌, arith, ℕ, List}
use Rattle.yaml_text.specs.Classes.{is_blank}
use Rattle.yaml_lexeme.proofs.ManyBytes.TrimmedLists.{trim_step, trim_stop}
use Rattle.yaml_lexeme.specs.inside.Runs.{trim}
use Rattle.yaml_lexeme.proofs.runs.trimmed.Goals as goal
use Rattle.yaml_lexeme.proofs.runs.trimmed.Goals.{then-blanks-test+else-is_blank, else-blanks-test}

pub blanks-preserved : goal.blanks-preserved
blanks-preserved c =
    let xs = c.args.piece.now in
    let n = c.blanks.n - 1 in
    let k : suc n ≡ c.blanks.n = omega arith in
    let blank : is_blank (get_or xs n 0) ≡ true = cc in
    (sym (trim_step xs n (omega arith) blank) ∙ ap (λ i. trim (take i xs)) k ∙ c.blanks.invariant.0, omega arith)

no_more : (xs : List ℕ) (n : ℕ) → n ≤ 0 → trim (take n xs) ≡ trim xs → take n xs ≡ trim xs
no_more xs zero l h = h
no_more xs (suc n) l h = absurd (omega arith)

pub returns : goal.returns
returns c =
    let xs = c.args.piece.now in
    elim c.blanks-test.branch [
      | then-blanks-test+else-is_blank w ↦
          let n = c.blanks.n - 1 in
          let k : suc n ≡ c.blanks.n = omega arith in
          let solid : is_blank (get_or xs n 0) ≡ false = sym w.is_blank.ensures ∙ w.if-is_blank.false in
          ap (λ i. take i xs) (sym k) ∙ sym (trim_stop xs n (omega arith) solid) ∙ ap (λ i. trim (take i xs)) k ∙ c.blanks.invariant.0
      | else-blanks-test w ↦ no_more xs c.blanks.n (omega arith) c.blanks.invariant.0
    ]

use Rattle.std.proofs.Common.{◌≡◌, ◌∙◌, ◌||◌, ℕ, Bool, true, false, not, refl, sym, arith}
use Rattle.std.specs.Prelude.{◌==◌}
use Rattle.std.proofs.lemmas.Bool.{true≢false}
use Rattle.std.proofs.lemmas.Simd.{zip2_splat}
use Rattle.yaml_text.specs.Chars.{is_within}
use Rattle.yaml_text.specs.inside.Singles.{is_other}
use Rattle.yaml_text.proofs.ManyBytes.VectorLanes.{below, at_most, miss, from_splat, both_hit, either, masked}
use Rattle.yaml_text.proofs.ManyBytes.VectorRuns.{fewer}
use Rattle.yaml_text.proofs.ascii.rare.Goals as goal

-- neither printable nor a line feed
abbrev is_rare : ℕ → Bool
is_rare b = not (is_within 0x20 0x7E b || b == 10)

neither : (printable tab feed return : Bool) → not (printable || (tab || (feed || return))) ≡ true
    → not (printable || feed) ≡ true
neither true tab feed return h = absurd (true≢false (sym h))
neither false true feed return h = absurd (true≢false (sym h))
neither false false true return h = absurd (true≢false (sym h))
neither false false false return h = refl

pub returns : goal.returns
returns c = λ none.
    let v = c.args.v in
    let long = c.fits-v.0 in
    let mask = masked _ is_rare v _ (omega arith) c.fits-v.1
    (both_hit _ _ v (either _ _ v (zip2_splat below v 64 32 long) (from_splat at_most 127 64 v long)) (zip2_splat miss v 64 10 long)) tt in
    fewer is_other is_rare (λ b. neither (is_within 0x20 0x7E b) (b == 9) (b == 10) (b == 13)) v (sym mask ∙ none)

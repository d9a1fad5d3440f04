use Rattle.std.proofs.Common.{◌≡◌, refl, sym, ◌∙◌, inl, inr, arith}
use Rattle.yaml_text.specs.declared.types.yaml_encoding_t.TheVariants.{YAML_ANY_ENCODING}
use Rattle.yaml_c.specs.Held.{IsAt, Scan, opened}
use Rattle.yaml_c.specs.Kinds.{Whole}
use Rattle.yaml_c.specs.declared.held.held_t.{held_t}
use Rattle.yaml_c.specs.declared.kinds.held_any_t.{held_any_t}
use Rattle.yaml_c.specs.declared.kinds.held_any_t.TheVariants.{WHOLE, PIECES}
use Rattle.yaml_c.proofs.tests.opened.Goals as goal

-- what follows of a scanner of a whole input holds of what is held
whole_too : (v : held_any_t) (P Q : held_t → Type 0) → ((h : held_t) → P h → Q h) → Whole v P → Whole v Q
whole_too (WHOLE h) P Q f w = f h w
whole_too (PIECES h) P Q f w = w

pub returns : goal.returns
returns c = λ live. let w = c.bogzhami_open-status.ensures in elim (w.right YAML_ANY_ENCODING refl (omega arith) (omega arith)) [
  | inl done ↦ let s = opened c.args.input.now YAML_ANY_ENCODING 1024 in
      whole_too _ (IsAt s) (λ h. (x : Scan) × (x.input ≡ c.args.input.now) × IsAt x h) (λ h at. (s, refl, at)) ((w.opened done).1 YAML_ANY_ENCODING refl)
  | inr refused ↦ absurd (let e = w.closed (λ z. let n = sym refused ∙ z in absurd (cc)) in let k = sym e ∙ live in cc)
]

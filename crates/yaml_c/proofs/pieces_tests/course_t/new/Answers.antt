use Rattle.std.proofs.Common.{false, refl, sym, ◌∙◌, inl, inr, arith}
use Rattle.yaml_text.specs.declared.types.yaml_encoding_t.TheVariants.{YAML_ANY_ENCODING}
use Rattle.yaml_c.specs.PiecesHeld.{IsAtPieces, new_pieces}
use Rattle.yaml_c.proofs.PieceCourse.{AtAll, pieces_too}
use Rattle.yaml_c.proofs.pieces_tests.course_t.new.Goals as goal

pub returns : goal.returns
returns c = λ live. let w = c.bogzhami_open_pieces-status.ensures in elim (w.right YAML_ANY_ENCODING refl (omega arith) (omega arith)) [
  | inl done ↦ let s = new_pieces YAML_ANY_ENCODING 1024 in
      pieces_too _ (IsAtPieces s) (AtAll c.new.result.items false) (λ h at. (s, sym c.new.ensures.items, refl, at)) ((w.opened done).1 YAML_ANY_ENCODING refl)
  | inr refused ↦ absurd (let e = w.closed (λ z. let n = sym refused ∙ z in absurd (cc)) in let k = sym e ∙ live in cc)
]

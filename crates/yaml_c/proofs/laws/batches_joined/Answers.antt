use Rattle.std.proofs.Common.{sym, ◌∙◌, subst, inl, inr}
use Rattle.yaml_c.specs.Ahead.{Ahead}
use Rattle.yaml_c.specs.Held.{Stands}
use Rattle.yaml_c.proofs.Batches.{all_read, begins, next_begins}
use Rattle.yaml_c.proofs.laws.batches_joined.Goals as goal

pub returns-clause-beginning : goal.returns-clause-beginning
returns-clause-beginning c = λ s h at. begins s.limit s.setting s.input s.parser s.given s.ahead at.keeps.stands

pub returns-clause-next : goal.returns-clause-next
returns-clause-next c = λ s h t at e. next_begins s.limit s.setting s.input s.parser s.given s.ahead t at.keeps.stands e

pub returns-clause-all : goal.returns-clause-all
returns-clause-all c = λ s h at over. all_read s.limit s.setting s.input s.parser s.given
    (subst (λ (z : Ahead). Stands s.limit s.setting s.input s.parser s.given z) over at.keeps.stands)

pub returns-clause-one : goal.returns-clause-one
returns-clause-one c = λ limit setting input xs ys f g r q m n. elim r [
  | inl a ↦ elim q [
    | inl b ↦ (a.0 ∙ sym b.0, a.1 ∙ sym b.1)
    | inr b ↦ absurd (n b.1)
  ]
  | inr a ↦ absurd (m a.1)
]

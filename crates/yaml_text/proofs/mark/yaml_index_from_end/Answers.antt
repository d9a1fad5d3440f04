use Rattle.std.proofs.Common.{arith, inl, inr}
use Rattle.yaml_text.proofs.Marks.CharactersLeft.{from_end, few_after}
use Rattle.yaml_text.proofs.mark.yaml_index_from_end.Goals as goal

-- all the characters are counted
pub returns-else-left-gt0-clause-index : goal.returns-else-left-gt0-clause-index
returns-else-left-gt0-clause-index c = from_end _ _ _ c.back.left _ c.bytes-bytes.ensures.characters c.bytes-bytes.ensures.utf8 c.back.invariant.within c.back.invariant.count c.back.invariant.fewer (inr (omega (arith, c.if-left-gt0.false)))

pub returns-else-left-gt0-clause-few : goal.returns-else-left-gt0-clause-few
returns-else-left-gt0-clause-few c = rw (returns-else-left-gt0-clause-index c) (few_after _ _)

-- the front is reached
pub returns-after-back-clause-index : goal.returns-after-back-clause-index
returns-after-back-clause-index c = from_end _ _ _ c.back.left _ c.bytes-bytes.ensures.characters c.bytes-bytes.ensures.utf8 c.back.invariant.within c.back.invariant.count c.back.invariant.fewer (inl (omega (arith, c.back-test.false)))

pub returns-after-back-clause-few : goal.returns-after-back-clause-few
returns-after-back-clause-few c = rw (returns-after-back-clause-index c) (few_after _ _)

use Rattle.std.proofs.Common.{◌+◌, length, vec_items, vec_len, vec_capacity}
use Rattle.form.specs.Sets.{symmetric_difference}
use Rattle.form.proofs.Merges.{MergingInto}
use Rattle.form.proofs.form.ops.merge.Given as goal

abbrev pub invariant-loop-x : goal.invariant-loop-x
invariant-loop-x l = MergingInto (vec_len l.out) (vec_capacity l.out) (vec_items l.out) l.a l.b (symmetric_difference l.fn.a l.fn.b)

abbrev pub decreases-loop-x : goal.decreases-loop-x
decreases-loop-x l = length l.a + length l.b

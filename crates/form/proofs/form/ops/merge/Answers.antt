use Rattle.std.proofs.Common.{◌≡◌, ◌⊎◌, length, inl, inr, arith}
use Rattle.form.proofs.Merges.{takes_left, takes_right, takes_none, merge_ends, asc_merged}
use Rattle.form.proofs.form.ops.merge.Goals.{in-Some+in_default-split_first, in_default}
use Rattle.form.proofs.form.ops.merge.Goals as goal

pub loop-x-preserved-then-x-y : goal.loop-x-preserved-then-x-y
loop-x-preserved-then-x-y c =
    let a = c.in-Some.ensures.cases in
    let b = c.in-Some-split_first.ensures.cases in
    let pushed = c.push_reserved.ensures in
    let old = c.loop-x.invariant in
    record { merging = takes_left _ _ _ _ _ _ _ _ a.0 b.0 old.merging _ c.if-x-y.true pushed.items; room = omega (arith, a.1, pushed.len, pushed.capacity, old.room) }

pub loop-x-preserved-then-y-x : goal.loop-x-preserved-then-y-x
loop-x-preserved-then-y-x c =
    let a = c.in-Some.ensures.cases in
    let b = c.in-Some-split_first.ensures.cases in
    let pushed = c.push_reserved-then-y-x.ensures in
    let old = c.loop-x.invariant in
    record { merging = takes_right _ _ _ _ _ _ _ _ a.0 b.0 old.merging _ c.if-y-x.true pushed.items; room = omega (arith, b.1, pushed.len, pushed.capacity, old.room) }

pub loop-x-preserved : goal.loop-x-preserved
loop-x-preserved c =
    let a = c.in-Some.ensures.cases in
    let b = c.in-Some-split_first.ensures.cases in
    let old = c.loop-x.invariant in
    record { merging = takes_none _ _ _ _ _ _ _ _ a.0 b.0 old.merging (omega arith); room = omega (arith, a.1, b.1, old.room) }

pub returns : goal.returns
returns c =
    let ended : (length c.loop-x.a.now ≡ 0) ⊎ (length c.loop-x.b.now ≡ 0) =
    elim c.match-split_first.branch [ in-Some+in_default-split_first w ↦ inr w.in_default-split_first.ensures.cases | in_default w ↦ inl w.in_default.ensures.cases ] in
    let merged = merge_ends _ _ _ c.loop-x.a.now c.loop-x.b.now _ ended c.in_ok-extend_from_slice.ensures.items c.in_ok-extend_from_slice-2.ensures.items c.loop-x.invariant.merging in
    record { is_symmetric_difference = merged; ascends = asc_merged _ c.args.a.now c.args.b.now merged c.requires.right }

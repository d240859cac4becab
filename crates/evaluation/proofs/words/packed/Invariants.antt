use Rattle.std.proofs.Common.{◌≡◌, map}
use mathlib.Core.List.{reverse}
use Rattle.values.specs.Words.{word_of}
use Rattle.evaluation.proofs.words.packed.Given as goal

abbrev pub invariant-loop-flag : goal.invariant-loop-flag
invariant-loop-flag l = (goal.iterator-loop-flag).can_next l.flag-iterator × (goal.iterator-loop-flag).is_finite l.flag-iterator × (l.word ≡ word_of (reverse (map (λ b. b.now) l.yielded)))

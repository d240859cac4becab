-- Whether a text was refused for its length.
use Rattle.std.specs.Prelude.{Bool, true, false, Err, Result}
use Rattle.refusals.specs.declared.text.TextRefusal.{TextRefusal}
use Rattle.refusals.specs.declared.text.TextRefusal.TheVariants.{TooLong}

abbrev pub is_too_long : {X : Type 0} → Result X TextRefusal → Bool
is_too_long (Err TooLong) = true
is_too_long _ = false

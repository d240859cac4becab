-- The gates that a spelling has.
use Rattle.std.specs.Prelude.{List}
use Rattle.circuit.specs.declared.Gate.{Gate}
use Rattle.moves.specs.Fans.{joined}
use Rattle.moves.specs.declared.spelling.Spelling.{Spelling}

abbrev pub spelled : Spelling → List Gate
spelled s = joined s.around.items s.core

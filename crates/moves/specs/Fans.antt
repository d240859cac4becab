-- Gates that add a form to a line, and gates around a core.
use Rattle.std.specs.Prelude.{ℕ, Bool, cond, not, List, [], ◌∷◌, ◌++◌, filter, map, reverse, Some, None, Option, ◌==◌}
use Rattle.circuit.specs.declared.Gate.{Gate}
use Rattle.circuit.specs.declared.Gate.TheVariants.{Not, Cnot}
use Rattle.circuit.specs.Gates.{inverse}
use Rattle.form.specs.Shapes.{Shape}
use Rattle.ledger.specs.Ledgers.{line_of}
use Rattle.ledger.specs.declared.ledger.lines.Lines.{Lines}

-- the line of a basis element
abbrev pub line_by : Lines → ℕ → ℕ
line_by lines e = line_of lines.inputs lines.ledger.now.held e

-- a not where the constant is 1
abbrev pub not_if : Bool → ℕ → List Gate
not_if constant t = cond constant (Not t ∷ []) []

-- the elements without the one that is left out, where there is one
abbrev pub others : Option ℕ → List ℕ → List ℕ
others None es = es
others (Some c) es = filter (λ e. not (e == c)) es

-- `at e` is the line of the basis element e
module _ (at : ℕ → ℕ) where
  -- each element is added to line t
  abbrev pub adds : ℕ → List ℕ → List Gate
  adds t es = map (λ e. Cnot (at e) t) es

  -- each element but the carrier is added to the carrier's line
  abbrev pub fan : ℕ → List ℕ → List Gate
  fan c es = adds (at c) (others (Some c) es)

  -- a form is added to line t
  abbrev pub copied : Shape → ℕ → List Gate
  copied f t = adds t f.set ++ not_if f.constant t

-- the gates in reverse, each the inverse of what it was
abbrev pub undone : List Gate → List Gate
undone gs = reverse (map inverse gs)

-- a core between gates and what undoes them, or the gates alone
abbrev pub joined : List Gate → Option Gate → List Gate
joined around None = around
joined around (Some core) = around ++ (core ∷ undone around)

-- The gates that a move spells.
use Rattle.std.specs.Prelude.{ℕ, ◌+◌, Bool, cond, List, [], ◌∷◌, ◌++◌, is_some, Some, None, Option, nat_lt}
use Rattle.std.specs.List.{flat_map}
use Rattle.circuit.specs.declared.Gate.{Gate}
use Rattle.circuit.specs.declared.Gate.TheVariants.{And, Unand}
use Rattle.form.specs.Sets.{lowest_outside}
use Rattle.network.specs.Wires.{Net, NodeShape, node_at, output_form, node_count, output_count}
use Rattle.moves.specs.Fans.{fan, not_if, copied, joined}
use Rattle.ledger.specs.Ledgers.{line_of}
use Rattle.ledger.specs.declared.moves.Move.{Move}
use Rattle.ledger.specs.declared.moves.Move.TheVariants.{Compute, Release, Copy}

-- 0 where there is none
abbrev pub lowest : List ℕ → ℕ
lowest [] = 0
lowest (e ∷ es) = e

abbrev pub or_zero : Option ℕ → ℕ
or_zero None = 0
or_zero (Some e) = e

-- a node's first set is formed first if it has an element outside the second
abbrev pub first_leads : NodeShape → Bool
first_leads d = is_some (lowest_outside d.first.set d.second.set)

-- the set that is formed first is carried by its lowest element outside the other, the other set by its lowest
abbrev pub first_carrier : NodeShape → ℕ
first_carrier d = cond (first_leads d) (or_zero (lowest_outside d.first.set d.second.set)) (lowest d.first.set)

abbrev pub second_carrier : NodeShape → ℕ
second_carrier d = cond (first_leads d) (lowest d.second.set) (or_zero (lowest_outside d.second.set d.first.set))

-- the sets in the order in which they are formed, each with its carrier
abbrev pub in_order : NodeShape → List (List ℕ × ℕ)
in_order d = cond (first_leads d)
    ((d.first.set, first_carrier d) ∷ (d.second.set, second_carrier d) ∷ [])
    ((d.second.set, second_carrier d) ∷ (d.first.set, first_carrier d) ∷ [])

-- each set, formed on its carrier's line
abbrev pub formed : (ℕ → ℕ) → List (List ℕ × ℕ) → List Gate
formed at sets = flat_map (λ s. fan at s.1 s.0) sets

-- `at e` is the line of the basis element e
module _ (at : ℕ → ℕ) (d : NodeShape) where
  abbrev pub sets_formed : List Gate
  sets_formed = formed at (in_order d)

  -- each form, on its carrier's line
  abbrev pub prelude : List Gate
  prelude = sets_formed ++ (not_if d.first.constant (at (first_carrier d)) ++ not_if d.second.constant (at (second_carrier d)))

-- the gates around a move's core, and the core; `held` has the lines of the held nodes
module _ (net : Net) (held : List (Option ℕ)) where
  abbrev pub around_of : Move → List Gate
  around_of (Compute i l) = prelude (line_of net.inputs held) (node_at net i)
  around_of (Release i l) = prelude (line_of net.inputs held) (node_at net i)
  around_of (Copy j) = copied (line_of net.inputs held) (output_form net j) (net.inputs + j)

  abbrev pub core_of : Move → Option Gate
  core_of (Compute i l) =
      Some (And (line_of net.inputs held (first_carrier (node_at net i))) (line_of net.inputs held (second_carrier (node_at net i))) l)
  core_of (Release i l) =
      Some (Unand (line_of net.inputs held (first_carrier (node_at net i))) (line_of net.inputs held (second_carrier (node_at net i))) l)
  core_of (Copy j) = None

  -- the gates of a move
  abbrev pub gates_of : Move → List Gate
  gates_of made = joined (around_of made) (core_of made)

-- the move names a node or an output of the network
abbrev pub known : Net → Move → Bool
known net (Compute i l) = nat_lt i (node_count net)
known net (Release i l) = nat_lt i (node_count net)
known net (Copy j) = nat_lt j (output_count net)

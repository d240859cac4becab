-- A gate more of those that are to be read and added.
use Rattle.std.proofs.Common.{◌≡◌, ℕ, suc, ◌+◌, ◌-◌, ◌<◌, List, Ok, sym, ap, ◌∙◌, subst, arith}
use Rattle.scan.specs.Cuts.{Piece}
use Rattle.bristol.specs.Answers.{and_then, Refuses}
use Rattle.bristol.specs.Building.{Building, added}
use Rattle.bristol.specs.Reading.{Reading, then_read, line_first}
use Rattle.bristol.specs.Texts.{gates_first}
use Rattle.bristol.specs.declared.gate.GateLine.{GateLine}
use Rattle.refusals.specs.declared.text.TextRefusal.{TextRefusal}
use Rattle.bristol.proofs.Builds.{refuses_then}

pub one_more : (k i : ℕ) (b : Building) (ps : List Piece) → i < k → gates_first (k - i) b ps ≡ then_read (line_first ps) (λ line rest. and_then (added b line) (λ c. gates_first (k - (i + 1)) c rest))
one_more k i b ps more = let e : k - i ≡ suc (k - (i + 1)) = omega arith in ap (λ m. gates_first m b ps) e

module _ (k i : ℕ) (b : Building) (ps : List Piece) (more : i < k) where
  module _ (line : GateLine) (rest : List Piece) (read : Ok (line, rest) ≡ line_first ps) where
    pub gate_stops : (e : TextRefusal) → Refuses e (added b line) → Refuses e (gates_first (k - i) b ps)
    gate_stops e h =
        let then : GateLine → List Piece → Reading Building = λ line rest. and_then (added b line) (λ c. gates_first (k - (i + 1)) c rest) in
        let from_line : gates_first (k - i) b ps ≡ then line rest = one_more k i b ps more ∙ ap (λ m. then_read m then) (sym read) in
        subst (Refuses e) (sym from_line) (refuses_then e (added b line) (λ c. gates_first (k - (i + 1)) c rest) h)

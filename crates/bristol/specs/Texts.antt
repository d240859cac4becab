-- The network that a text describes.
use Rattle.std.specs.Prelude.{ℕ, zero, suc, cond, List, [], length, Ok, Err, Result, nat_lt}
use Rattle.scan.specs.Cuts.{Piece, cut}
use Rattle.network.specs.Wires.{Net}
use Rattle.bristol.specs.Answers.{and_then}
use Rattle.bristol.specs.Building.{Building, opened, added, finished}
use Rattle.bristol.specs.Reading.{Reading, then_read, header_first, line_first, end_first}

-- so many gates, each added as it is read
abbrev pub gates_first : ℕ → Building → List Piece → Reading Building
gates_first zero b ps = Ok (b, ps)
gates_first (suc k) b ps = then_read (line_first ps) (λ line rest. and_then (added b line) (λ c. gates_first k c rest))

-- a header that fits, its gates, and nothing more
abbrev pub read_pieces : List Piece → Result Net ℕ
read_pieces ps =
    then_read (header_first ps)
    (λ h ps1. and_then (opened h.inputs h.wires)
    (λ b. then_read (gates_first h.gates b ps1)
    (λ c ps2. then_read (end_first ps2) (λ _ _. finished h.outputs c))))

-- a text of at most 65,536 bytes, cut into its tokens
abbrev pub read_text : List ℕ → Result Net ℕ
read_text bytes = cond (nat_lt 65536 (length bytes)) (Err 30) (read_pieces (cut 0 [] bytes))

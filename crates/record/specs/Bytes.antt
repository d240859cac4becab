-- The bytes of a gate and of a record, and the gates that bytes hold.
use Rattle.std.specs.Prelude.{ℕ, zero, suc, ◌+◌, ◌*◌, ◌/◌, ◌%◌, cond, ◌&&◌, List, [], ◌∷◌, ◌++◌, length, take, drop, Some, None, Option, ◌==◌, slice_index}
use Rattle.circuit.specs.declared.Gate.{Gate}
use Rattle.circuit.specs.declared.Gate.TheVariants.{Not, Cnot, And, Unand}
use Rattle.circuit.specs.Gates.{tcosts}

-- a kind, a zero byte and three 16-bit numbers, low byte first
abbrev pub eight : ℕ → ℕ → ℕ → ℕ → List ℕ
eight k a b t = k ∷ 0 ∷ (a % 256) ∷ (a / 256) ∷ (b % 256) ∷ (b / 256) ∷ (t % 256) ∷ (t / 256) ∷ []

-- a gate's bytes; a number that it does not use is 0
abbrev pub encoded : Gate → List ℕ
encoded (Not t) = eight 0 0 0 t
encoded (Cnot a t) = eight 1 a 0 t
encoded (And a b t) = eight 2 a b t
encoded (Unand a b t) = eight 3 a b t

-- the 16-bit number at a place, low byte first
abbrev pub word : List ℕ → ℕ → ℕ
word bs i = slice_index bs i + 256 * slice_index bs (i + 1)

-- the gate of a kind and three numbers
abbrev pub gate_of : ℕ → ℕ → ℕ → ℕ → Gate
gate_of k a b t = cond (k == 0) (Not t) (cond (k == 1) (Cnot a t) (cond (k == 2) (And a b t) (Unand a b t)))

-- the gate that eight bytes stand for
abbrev pub decoded : List ℕ → Gate
decoded bs = gate_of (slice_index bs 0) (word bs 2) (word bs 4) (word bs 6)

-- the same, where the kind is one of the four and the numbers that it does not use are 0
abbrev pub parsed_kind : ℕ → ℕ → ℕ → ℕ → Option Gate
parsed_kind k a b t =
    cond (k == 0) (cond (a == 0 && b == 0) (Some (Not t)) None)
    (cond (k == 1) (cond (b == 0) (Some (Cnot a t)) None)
    (cond (k == 2) (Some (And a b t)) (cond (k == 3) (Some (Unand a b t)) None)))

-- the gate of bytes that have the form of a gate's
abbrev pub parsed : List ℕ → Option Gate
parsed bs =
    cond (length bs == 8 && slice_index bs 1 == 0) (parsed_kind (slice_index bs 0) (word bs 2) (word bs 4) (word bs 6)) None

-- the eight bytes of gate k
abbrev pub block : List ℕ → ℕ → List ℕ
block bs k = take 8 (drop (8 * k) bs)

-- the first n gates that bytes hold
abbrev pub gates_of : ℕ → List ℕ → List Gate
gates_of zero bs = []
gates_of (suc n) bs = gates_of n bs ++ (decoded (block bs n) ∷ [])

-- bytes with others written over them from a place on
abbrev pub written : List ℕ → ℕ → List ℕ → List ℕ
written bs at xs = take at bs ++ (xs ++ drop (at + length xs) bs)

-- the low bytes of a number, lowest first
abbrev pub low2 : ℕ → List ℕ
low2 n = (n % 256) ∷ (n / 256 % 256) ∷ []

abbrev pub low4 : ℕ → List ℕ
low4 n = (n % 256) ∷ (n / 256 % 256) ∷ (n / 65536 % 256) ∷ (n / 16777216 % 256) ∷ []

-- the twelve bytes that end a record: distance to its first gate, width, two zero bytes, T-count
abbrev pub trailer : ℕ → ℕ → ℕ → List ℕ
trailer distance width tcount = low4 distance ++ (low2 width ++ (0 ∷ 0 ∷ low4 tcount))

-- the bytes of gates, one after the other
abbrev pub encoded_all : List Gate → List ℕ
encoded_all [] = []
encoded_all (g ∷ gs) = encoded g ++ encoded_all gs

-- the bytes of a closed record
abbrev pub record_bytes : ℕ → List Gate → List ℕ
record_bytes width gs = encoded_all gs ++ trailer (8 * length gs) width (tcosts gs)

-- What a call answers, held against the answer that is defined: a value, or the number of the first question that gets a no.
use Rattle.std.specs.Prelude.{◌≡◌, ℕ, ◌⊎◌, Ok, Err, Result}
use Rattle.refusals.specs.declared.draft.DraftRefusal.TheVariants.{OutOfMemory}
use Rattle.refusals.specs.Texts.{number}
use Rattle.refusals.specs.declared.text.TextRefusal.{TextRefusal}
use Rattle.refusals.specs.declared.text.TextRefusal.TheVariants.{Draft}

-- an answer with its refusal's number
abbrev pub numbered : {X : Type 0} → Result X TextRefusal → Result X ℕ
numbered (Ok x) = Ok x
numbered (Err e) = Err (number e)

-- a first answer, and then another that goes on from its value
abbrev pub and_then : {X Y : Type 0} → Result X ℕ → (X → Result Y ℕ) → Result Y ℕ
and_then (Ok x) f = f x
and_then (Err e) f = Err e

-- a refusal is the one that is defined, or memory is wanting
abbrev pub Refuses : {Y : Type 0} → TextRefusal → Result Y ℕ → Type 0
Refuses e m = (m ≡ Err (number e)) ⊎ (e ≡ Draft OutOfMemory)

-- the call gives what is defined
abbrev pub Answered : {X Y : Type 0} → (X → Y) → Result X TextRefusal → Result Y ℕ → Type 0
Answered f (Ok x) m = m ≡ Ok (f x)
Answered f (Err e) m = Refuses e m

-- the call leaves what is defined
abbrev pub Left : {X Y : Type 0} → Result X TextRefusal → Y → Result Y ℕ → Type 0
Left (Ok x) y m = m ≡ Ok y
Left (Err e) y m = Refuses e m

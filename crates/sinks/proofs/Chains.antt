-- Runs of accepted offers, one after the other.
use Rattle.std.proofs.Common.{◌≡◌, ◌+◌, ◌≤◌, Bool, true, false, ◌&&◌, eqb, List, [], ◌∷◌, ◌++◌, length, Ok, Err, Result, MatchResult, refl, sym, subst, ap, ◌∙◌, arith}
use Rattle.std.proofs.lemmas.List.{length-append}
use Rattle.std.proofs.lemmas.Bool.{and_parts, ne_eqb}
use Rattle.circuit.specs.declared.Gate.{Gate}
use Rattle.circuit.specs.Gates.{run, tcosts, inside, apart, fitting}
use Rattle.circuit.proofs.Fitting.{fitting_parts}
use Rattle.refusals.specs.declared.offer.OfferRefusal.{OfferRefusal}
use Rattle.sinks.specs.Meaning.{Meaning, answer}
use Rattle.sinks.specs.Laws.{Laws}
use Rattle.sinks.specs.Chain.{Chain}
use Rattle.sinks.specs.Chain.Chain.{done, then}
use Rattle.sinks.specs.Sending.{Accepted, Kept, Taken}

chain_join : {S : Type 0} {took : S → Gate → S → Type 0} {s t u : S} {gs hs : List Gate} → Chain took s gs t → Chain took t hs u → Chain took s (gs ++ hs) u
chain_join done r = r
chain_join (then q c) r = then q (chain_join c r)

-- what was accepted was taken
pub chain_taken : {S : Type 0} {meaning : S → Meaning} {took : S → Gate → S → Type 0} {s t : S} {gs : List Gate} → Chain (Accepted meaning took) s gs t → Chain took s gs t
chain_taken done = done
chain_taken (then q c) = then q.taken (chain_taken c)

-- a sink as it was, and after the gates of two runs
pub kept_none : {S : Type 0} (meaning : S → Meaning) (took : S → Gate → S → Type 0) (s : S) → Kept meaning took s s
kept_none meaning took s = record { width = refl; gates = []; taken = done }

pub kept_twice : {S : Type 0} {meaning : S → Meaning} {took : S → Gate → S → Type 0} {s t u : S} → Kept meaning took s t → Kept meaning took t u → Kept meaning took s u
kept_twice p q = record { width = q.width ∙ p.width; gates = p.gates ++ q.gates; taken = chain_join p.taken q.taken }

pub taken_none : {S : Type 0} (meaning : S → Meaning) (took : S → Gate → S → Type 0) (s : S) → Taken meaning took s [] s
unfolding Taken
taken_none meaning took s n f = done

module _ {S : Type 0} {meaning : S → Meaning} {took : S → Gate → S → Type 0} {shut : S → S → Type 0} (laws : Laws meaning took shut) where
  -- a gate that fits, where there is a place, is accepted
  accepted : (s : S) (g : Gate) (rest : List Gate) → length (g ∷ rest) ≤ (meaning s).free → fitting (meaning s).width (g ∷ rest) ≡ true → answer g (meaning s) ≡ Ok tt
  accepted s g rest n f =
      let p = and_parts (inside g (meaning s).width && apart g) (fitting (meaning s).width rest) f in
      let q = and_parts (inside g (meaning s).width) (apart g) p.0 in
      let z : eqb (meaning s).free 0 ≡ false = ne_eqb (meaning s).free 0 (λ e. omega arith) in
      simp (q.0, q.1, z)

  -- each gate takes one place at most
  chain_room : {s t : S} {gs : List Gate} → Chain took s gs t → length gs ≤ (meaning s).free → fitting (meaning s).width gs ≡ true → (meaning s).free ≤ (meaning t).free + length gs
  chain_room done n f = omega arith
  chain_room (then {s} {t} {u} {g} {gs} q c) n f =
      let a = laws.appended s g t (accepted s g gs n f) q in
      let p = and_parts (inside g (meaning s).width && apart g) (fitting (meaning s).width gs) f in
      let more = chain_room c (omega (arith, a.free)) (ap (λ w. fitting w gs) a.width ∙ p.1) in
      omega (arith, a.free, more)

  -- gates that are offered after others
  pub taken_twice : (s t u : S) (gs hs : List Gate) → Kept meaning took s t → Taken meaning took s gs t → Taken meaning took t hs u → Taken meaning took s (gs ++ hs) u
  unfolding Taken
  taken_twice s t u gs hs kept first second n f =
      let l = length-append gs hs in
      let p = fitting_parts (meaning s).width gs hs f in
      let c = first (omega arith) p.0 in
      let room = chain_room c (omega arith) p.0 in
      chain_join c (second (omega arith) (ap (λ w. fitting w hs) kept.width ∙ p.1))

  -- a gate that is offered adds one gate or none
  pub kept_offer : (s t : S) (g : Gate) (r : Result (Unit {0}) OfferRefusal) → r ≡ answer g (meaning s) → MatchResult r (λ _. took s g t) (λ _. t ≡ s) → Kept meaning took s t
  kept_offer s t g (Ok u) e q = record { width = (laws.appended s g t (sym e) q).width; gates = g ∷ []; taken = then (record { yes = sym e; taken = q }) done }
  kept_offer s t g (Err x) e same = subst (λ u. Kept meaning took s u) (sym same) (kept_none meaning took s)

  pub taken_one : (s t : S) (g : Gate) → (answer g (meaning s) ≡ Ok tt → took s g t) → Taken meaning took s (g ∷ []) t
  unfolding Taken
  taken_one s t g next n f = then (next (accepted s g [] n f)) done

  chain_cost : {s t : S} {gs : List Gate} → Chain (Accepted meaning took) s gs t → (meaning t).tcount ≡ (meaning s).tcount + tcosts gs
  chain_cost done = omega arith
  chain_cost (then {s} {t} {u} {g} {gs} q c) = let a = laws.appended s g t q.yes q.taken in omega (arith, a.tcount, chain_cost c)

  chain_action : {s t : S} {gs : List Gate} → Chain (Accepted meaning took) s gs t → (x : List Bool) → length x ≡ (meaning s).width
      → (meaning t).action x ≡ run gs ((meaning s).action x)
  chain_action done x l = refl
  chain_action (then {s} {t} {u} {g} {gs} q c) x l =
      let a = laws.appended s g t q.yes q.taken in chain_action c x (l ∙ sym a.width) ∙ ap (run gs) (a.action x l)

  chain_free : {s t : S} {gs : List Gate} → Chain (Accepted meaning took) s gs t → (meaning s).free ≤ (meaning t).free + length gs
  chain_free done = omega arith
  chain_free (then {s} {t} {u} {g} {gs} q c) = let a = laws.appended s g t q.yes q.taken in omega (arith, a.free, chain_free c)

  -- the T-count, the action and the free places after the gates that a sink took
  pub kept_cost : {s t : S} (k : Kept meaning took s t) → (meaning t).tcount ≡ (meaning s).tcount + tcosts k.gates
  kept_cost k = chain_cost k.taken

  pub kept_action : {s t : S} (k : Kept meaning took s t) (x : List Bool) → length x ≡ (meaning s).width → (meaning t).action x ≡ run k.gates ((meaning s).action x)
  kept_action k = chain_action k.taken

  pub kept_free : {s t : S} (k : Kept meaning took s t) → (meaning s).free ≤ (meaning t).free + length k.gates
  kept_free k = chain_free k.taken

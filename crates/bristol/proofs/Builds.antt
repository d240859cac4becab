-- What a draft's refusals say of the answer that is defined.
use Rattle.std.proofs.Common.{◌≡◌, ℕ, Result, refl, ap, inl, inr, ⊎_elim}
use Rattle.refusals.specs.Drafts as drafts
use Rattle.refusals.specs.declared.draft.DraftRefusal.{DraftRefusal}
use Rattle.refusals.specs.declared.draft.DraftRefusal.TheVariants.{Inputs, WireLimit, NoSuchWire, NodeLimit, OutputLimit, NoOutput, OutOfMemory}
use Rattle.bristol.specs.Answers.{and_then, Refuses}
use Rattle.bristol.specs.Building.{unless}
use Rattle.refusals.specs.declared.text.TextRefusal.{TextRefusal}
use Rattle.refusals.specs.declared.text.TextRefusal.TheVariants.{Draft}

-- a draft's refusal is the number that its questions got
pub refused : {X : Type 0} (e : DraftRefusal) (x : X) (k : ℕ) → k ≡ drafts.number e → Refuses (Draft e) (unless k x)
refused Inputs x k h = inl (ap (λ j. unless j x) h)
refused WireLimit x k h = inl (ap (λ j. unless j x) h)
refused NoSuchWire x k h = inl (ap (λ j. unless j x) h)
refused NodeLimit x k h = inl (ap (λ j. unless j x) h)
refused OutputLimit x k h = inl (ap (λ j. unless j x) h)
refused NoOutput x k h = inl (ap (λ j. unless j x) h)
refused OutOfMemory x k h = inr refl

pub refuses_then : {X Y : Type 0} (e : TextRefusal) (m : Result X ℕ) (f : X → Result Y ℕ) → Refuses e m → Refuses e (and_then m f)
refuses_then e m f = ⊎_elim (λ h. inl (ap (λ k. and_then k f) h)) inr

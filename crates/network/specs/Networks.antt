-- What a sealed network is.
use Rattle.std.specs.Prelude.{◌≡◌, Ok, Err, Result}
use Rattle.network.specs.Wires.{Net}
use Rattle.network.specs.Drafts.{drafted, sealing}
use Rattle.network.specs.declared.draft.Draft.{Draft}
use Rattle.network.specs.declared.network.Network.{Network}

abbrev pub sealed : Network → Net
sealed n = drafted n.draft

-- the network that the draft was, or the draft itself where it has no output
abbrev pub Finished : Draft → Result Network Draft → Type 0
Finished d (Ok n) = (sealing (drafted d) ≡ 0) × (sealed n ≡ drafted d)
Finished d (Err e) = (sealing (drafted d) ≡ 6) × (e ≡ d)

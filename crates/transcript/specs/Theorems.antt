-- What is proved of what `rehearse` prints.
--     SilenceMeansOpen  a missing byte of the message table does what the byte 0 does
use Rattle.std.specs.Prelude.{◌≡◌, List, ◌++◌, ℕ, ◌+◌, ◌≤◌, ◌<◌, length, replicate}
use Rattle.network.specs.Links.{Links}
use Rattle.network.specs.Card.{network, read_card}
use Rattle.transcript.specs.Text.{transcript}

-- where run.in has the faulty set and all inputs, zeros after it change nothing, as long as it is not too long
abbrev pub SilenceMeansOpen : Type 0
SilenceMeansOpen =
    (card_bytes plan_bytes runIn : List ℕ) (n f : ℕ) (links : Links) → read_card card_bytes ≡ network n f links
    → n < length runIn → (m : ℕ) → length runIn + m ≤ 65536
    → transcript card_bytes plan_bytes (runIn ++ replicate m 0) ≡ transcript card_bytes plan_bytes runIn

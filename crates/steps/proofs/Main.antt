-- What a user of the run relies on. Algorithm BC by itself has its theorems in `bc`.
--     chooses             the choices of an accepted plan are such as Algorithm BC allows, and have every cut
--     decides             every call to run that meets no refusal decides as Algorithm BC with the plan's choices
--     demand              demand 3, for every call to run that meets no refusal
--     unheard             bytes of the message table past the last carriage have no effect, for every call
--     silence_means_open  a missing byte of the message table does what the byte 0 does, for every call
--     unchanged           a refused call changes no byte of the lent buffer
--     untouched           no call changes a byte past the first n
-- Assumes nothing.
use Rattle.network.proofs.Main.{card_proper}
use Rattle.rules.specs.Blocks.{decode_plan}
use Rattle.rules.proofs.Main.{decodes}
use Rattle.steps.specs.Demand.{Chooses, DecidesAsBc, Demand3, Unheard, SilenceMeansOpen, Unchanged, Untouched}
use Rattle.steps.proofs.Planned.{planned_allowed, planned_grouped}
use Rattle.steps.proofs.Decides
use Rattle.steps.proofs.Unheard
use Rattle.steps.proofs.Silent
use Rattle.steps.proofs.Kept

pub chooses : Chooses
chooses card plan n f links e accepted table =
    let few = (card_proper card n f links e).most in
    let order = (decodes card plan n f links e accepted).0 in
    record {
      allowed = planned_allowed n f links (decode_plan n f plan) few order table 0;
      grouped = planned_grouped n f links (decode_plan n f plan) few order table 0;
    }

pub decides : DecidesAsBc
decides = Decides.decides

pub demand : Demand3
demand = Decides.demand

pub unheard : Unheard
unheard = Unheard.unheard

pub silence_means_open : SilenceMeansOpen
silence_means_open = Silent.silence_means_open

pub unchanged : Unchanged
unchanged = Kept.unchanged

pub untouched : Untouched
untouched = Kept.untouched

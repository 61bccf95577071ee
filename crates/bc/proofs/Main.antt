-- What a user of Algorithm BC relies on, for every n and f, every choice that it allows and every adversary.
--     validity    what a sound server decides is some sound server's input
--     agreement   any two sound servers decide the same
--     weaker      choices that the algorithm allows are sound, which is all that the two ask
-- Assumes nothing.
use Rattle.bc.specs.Theorems.{Validity, Agreement, Weaker}
use Rattle.bc.proofs.Validity
use Rattle.bc.proofs.Agreement.{agreement_of}
use Rattle.bc.proofs.Weaker

pub validity : Validity
validity = Validity.validity

pub agreement : Agreement
agreement = agreement_of Validity.validity

pub weaker : Weaker
weaker = Weaker.weaker

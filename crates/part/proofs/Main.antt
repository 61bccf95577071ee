-- What a user of the definitions relies on, for servers that are stepped side by side.
--     turned              the turns of a plan, taken in the run's own words, are the run
--     hears               what a server receives over a turn is what it hears in the run
--     step_by_step        after every kind of every block the v and t of each server are those of the run
--     decides             at the end the ask of each server gives the v that the run leaves it with, and opens nothing
--     shows_the_run       for a sound server that is its byte in the lent buffer of the run
--     demand              demand 3, for what the servers show
--     beyond_due          arrived bytes beyond those due have no effect
--     silence_means_open  a missing arrival does what the byte 0 does
--     asks_short          a buffer of 56 bytes is enough for every ask
-- Assumes nothing.
use Rattle.part.specs.Theorems.{Turned, Hears, StepByStep, Decides, ShowsTheRun, Demand3, BeyondDue, SilenceMeansOpen, AsksShort}
use Rattle.part.proofs.Turned
use Rattle.part.proofs.Delivered
use Rattle.part.proofs.Followed
use Rattle.part.proofs.Beyond
use Rattle.part.proofs.Silent
use Rattle.part.proofs.Short
use Rattle.part.proofs.Shown

pub turned : Turned
turned = Turned.turned

pub hears : Hears
hears = Delivered.delivered_heard

pub step_by_step : StepByStep
step_by_step = Followed.step_by_step

pub decides : Decides
decides = Shown.decides

pub shows_the_run : ShowsTheRun
shows_the_run = Shown.shows_the_run

pub demand : Demand3
demand = Shown.demand

pub beyond_due : BeyondDue
beyond_due = Beyond.beyond_due

pub silence_means_open : SilenceMeansOpen
silence_means_open = Silent.silence_means_open

pub asks_short : AsksShort
asks_short = Short.asks_short

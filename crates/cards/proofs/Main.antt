-- What a user relies on: a link given again is one link; a card is read as what it says; and its printed card is clean.
--     again            a link command given again, anywhere after the first, changes nothing but the places behind it
--     set_alone        what a whole card gives depends on n, f and the set of its links alone, but for the place of a refusal
--     seen_once        no call tells such cards that are read from each other
--     read_as_said     a card is read as n, f and links exactly when it is 01 n f, links between servers of n, 03, at most 1,024 bytes, with these marks
--     prints_clean     what is printed is that card of the network whose links ascend by u, then by v, and there is one only
--     reads_back       reading the printed card gives the same network
--     prints_again     printing from the printed card gives the same bytes, and no call tells it from the card
--     prints_short     a card that is read is printed into every buffer of 172 bytes
--     prints_in_front  it stands in the first lent bytes, and no other byte is changed; refused, none is
-- Assumes nothing.
use Rattle.cards.specs.Twins.{Again, SetAlone, SeenOnce}
use Rattle.cards.specs.Said.{ReadAsSaid}
use Rattle.cards.specs.Clean.{PrintsClean, ReadsBack, PrintsAgain, PrintsShort, PrintsInFront}
use Rattle.cards.proofs.Repeats.{card_again}
use Rattle.cards.proofs.Whole.{whole_same}
use Rattle.cards.proofs.Seen.{seen_alike}
use Rattle.cards.proofs.Said
use Rattle.cards.proofs.Printed

pub again : Again
again = card_again

pub set_alone : SetAlone
set_alone = whole_same

pub seen_once : SeenOnce
seen_once = seen_alike

pub read_as_said : ReadAsSaid
read_as_said = Said.read_as_said

pub prints_clean : PrintsClean
prints_clean = Printed.prints_clean

pub reads_back : ReadsBack
reads_back = Printed.reads_back

pub prints_again : PrintsAgain
prints_again = Printed.prints_again

pub prints_short : PrintsShort
prints_short = Printed.prints_short

pub prints_in_front : PrintsInFront
prints_in_front = Printed.prints_in_front

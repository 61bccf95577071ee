-- How many blocks a plan has, computed from the definition: four counts of docs/FORMATS.md. Assumes nothing.
use mathlib.Core.Path.{◌≡◌, refl}
use lib.ListN.{length}
use Rattle.sets.specs.Sets.{has, meet, minus, within, full, count, size, first_in, lowest}
use Rattle.sets.specs.Members.{list_from}
use Rattle.plan.specs.Due.{is_part, blocks_of, blocks_of_all, due}

pub four_none : length (due 4 0) ≡ 7
unfolding due blocks_of blocks_of_all list_from is_part has meet minus within full count size first_in lowest
four_none = refl

pub four_one : length (due 4 1) ≡ 19
unfolding due blocks_of blocks_of_all list_from is_part has meet minus within full count size first_in lowest
four_one = refl

pub seven_two : length (due 7 2) ≡ 595
unfolding due blocks_of blocks_of_all list_from is_part has meet minus within full count size first_in lowest
seven_two = refl

pub eight_two : length (due 8 2) ≡ 1499
unfolding due blocks_of blocks_of_all list_from is_part has meet minus within full count size first_in lowest
eight_two = refl

-- `next_apart` meets its contract: what it computes is the definition, and two sets below 256 have a union below 256, so nothing overflows. Assumes nothing.
use mathlib.Core.Path.{refl}
use lib.Bits.{or_lt}
use borrow.Author.Rules.{rules}
use Rattle.sets.specs.Sets.{union, minus, next}
use Rattle.sets.proofs.next_apart.Goals as goal

pub overflow_cast-after : goal.overflow_cast-after
overflow_cast-after c = let small = or_lt 8 c.args.s c.args.busy (search rules) (search rules) in search rules

pub overflow_add-after : goal.overflow_add-after
overflow_add-after c = let small = or_lt 8 c.args.s c.args.busy (search rules) (search rules) in search rules

pub returns : goal.returns
unfolding next minus union
returns c = refl

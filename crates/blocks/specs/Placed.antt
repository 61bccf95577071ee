-- What is put at a place in lent memory.
--     Placed text most before after   <-> the text stands there, and the place is the one after it
use Rattle.std.specs.Prelude.{◌≡◌, List, ℕ}
use Rattle.blocks.specs.declared.bytes.Place.{Place}
use Rattle.blocks.specs.Written.{Put}

pub record Placed (text : List ℕ) (most : ℕ) (before after : Place) : Type 0 where
  pub same : after.part.ghost_name ≡ before.part.ghost_name
  pub put : Put before.at text most before.part.now after.part.now after.at

-- What the blocks of a network without a bad split are written by.
--     Ready n f links F site   <-> the network of n, f and the links has no bad split, F is a set of at most f of its servers, and `site` has the
--                                 rows of links and of sources, f + 1, V−F and F
use Rattle.std.specs.Prelude.{◌≡◌, ℕ, ◌+◌, ◌^◌, ◌≤◌, ◌<◌}
use Rattle.sets.specs.Sets.{minus, full, size}
use Rattle.network.specs.Links.{Links, linked_in}
use Rattle.network.specs.Rows.{rows_of}
use Rattle.split.specs.Sources.{SourceRows}
use Rattle.split.specs.Split.{good, first_bad}
use Rattle.blocks.specs.declared.Site.{Site}

pub record Ready (n f : ℕ) (links : Links) (F : ℕ) (site : Site) : Type 0 where
  pub fine : first_bad n f links ≡ good
  pub small : F < 2 ^ n
  pub bound : size F ≤ f
  pub ahead : site.rows ≡ rows_of (linked_in links)
  pub back : SourceRows links site.sources
  pub count : site.count ≡ f + 1
  pub sound : site.sound ≡ minus (full n) F
  pub fault : site.fault ≡ F

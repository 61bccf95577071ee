-- `routes::Call::fits` meets its contract: the tests of `call_fits`, in their order. Assumes nothing.
use Rattle.std.proofs.Common.{◌≡◌, ◌&&◌, refl, ◌∙◌}
use lib.Dec.{ltb, leb}
use borrow.Author.Tests.{le-leb, lt-leb}
use Rattle.sets.specs.Sets.{within}
use Rattle.routes.proofs.Calling.{both_then, both_else, fits_all}
use Rattle.routes.proofs.Call.fits.Goals as goal
use Rattle.routes.proofs.Call.fits.Goals.{then-size-network, else-size-network, then-within, else-within}

pub returns-else-within-2 : goal.returns-else-within-2
returns-else-within-2 c =
    let a = c.args in
    let few : c.if-size-network.value ≡ (leb c.size.result a.network.f && within a.self.faults c.full-servers.result) = elim c.if-size-network.branch [
      | then-size-network w ↦ both_then (le-leb _ _ w.if-size-network.true) w.value-is w.within.ensures
      | else-size-network w ↦ both_else _ (lt-leb _ _ w.if-size-network.false) (w.value-is ∙ lt-leb _ _ w.if-size-network.false)
    ]
    in
    let inside : c.if-within.value ≡ (c.if-size-network.value && within a.self.sources c.full-servers.result) = elim c.if-within.branch [
      | then-within w ↦ both_then w.if-within.true w.value-is w.within-then-within.ensures
      | else-within w ↦ both_else _ w.if-within.false (w.value-is ∙ w.if-within.false)
    ]
    in
    both_else (ltb a.self.receiver a.network.n) c.if-within-2.false c.if-within-2.false ∙ fits_all _ _ _ _ _ _ _ c.size.ensures a.network.proper.most c.full-servers.ensures _ _ few inside

pub returns-then-within-2 : goal.returns-then-within-2
returns-then-within-2 c =
    let a = c.args in
    let few : c.if-size-network.value ≡ (leb c.size.result a.network.f && within a.self.faults c.full-servers.result) = elim c.if-size-network.branch [
      | then-size-network w ↦ both_then (le-leb _ _ w.if-size-network.true) w.value-is w.within.ensures
      | else-size-network w ↦ both_else _ (lt-leb _ _ w.if-size-network.false) (w.value-is ∙ lt-leb _ _ w.if-size-network.false)
    ]
    in
    let inside : c.if-within.value ≡ (c.if-size-network.value && within a.self.sources c.full-servers.result) = elim c.if-within.branch [
      | then-within w ↦ both_then w.if-within.true w.value-is w.within-then-within.ensures
      | else-within w ↦ both_else _ w.if-within.false (w.value-is ∙ w.if-within.false)
    ]
    in
    both_then c.if-within-2.true refl refl ∙ fits_all _ _ _ _ _ _ _ c.size.ensures a.network.proper.most c.full-servers.ensures _ _ few inside

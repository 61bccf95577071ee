use Rattle.std.proofs.Common.{rules, ◌<◌}
use Rattle.writer.proofs.Cutting.{cutting_starts, cutting_ends, cutting_reach, cutting_place, cutting_again, cutting_number, block_room, cutting_fits, cutting_turn}
use Rattle.writer.proofs.fault.Fault.put_cuts.Goals as goal

pub loop-k-init : goal.loop-k-init
loop-k-init c =
    let w = c.args.self.now.weak in
    let e = c.enumerate-k-items.ensures in
    rw (c.into_iter-k-iterator.ensures.into_iter_gives, e.source, e.count) (cutting_starts _ _ _ _ _ _ _ w.sound (search rules) w.rest c.parts.ensures c.requires)

pub body_place-from-requires : goal.body_place-from-requires
body_place-from-requires c =
    let t = c.args.self.now in
    let step = c.in-Some.ensures.steps in
    cutting_place _ _ _ _ _ _ _ _ _ _ _ _ c.loop-k.invariant t.weak.network.now.proper _ t.ready _ _ step.0 _ _ c.choose-chosen.ensures.side c.choose-chosen.ensures.quorum (search rules) (search rules)

pub put_one-bytes-requires-clause-again : goal.put_one-bytes-requires-clause-again
put_one-bytes-requires-clause-again c =
    let t = c.args.self.now in
    let step = c.in-Some.ensures.steps in
    cutting_again _ _ _ _ _ _ _ _ _ _ _ _ c.loop-k.invariant t.weak.network.now.proper _ t.ready _ _ step.0 _ _ c.choose-chosen.ensures.side c.choose-chosen.ensures.quorum (search rules) _ c.body_place-from.ensures

pub put_one-bytes-requires-clause-room : goal.put_one-bytes-requires-clause-room
put_one-bytes-requires-clause-room c =
    let t = c.args.self.now in
    let step = c.in-Some.ensures.steps in
    block_room _ _ _ _ _ _ _ _ _ _ _ _ c.loop-k.invariant t.weak.network.now.proper _ t.ready _ _ step.0 _ _ c.choose-chosen.ensures.side c.choose-chosen.ensures.quorum (search rules)

pub overflow_cast-numbers : goal.overflow_cast-numbers
overflow_cast-numbers c =
    let t = c.args.self.now in
    let step = c.in-Some.ensures.steps in
    let small : (c.in-Some.k < 256) = rw step.1 (cutting_number _ _ _ _ _ _ _ _ _ _ _ _ c.loop-k.invariant t.weak.network.now.proper _ t.ready _ _ step.0 _ _ c.choose-chosen.ensures.side c.choose-chosen.ensures.quorum (search rules)) in
    search rules

pub overflow_add-at : goal.overflow_add-at
overflow_add-at c =
    let t = c.args.self.now in
    let step = c.in-Some.ensures.steps in
    let r = cutting_fits _ _ _ _ _ _ _ _ _ _ _ _ c.loop-k.invariant t.weak.network.now.proper _ t.ready _ _ step.0 _ _ c.choose-chosen.ensures.side c.choose-chosen.ensures.quorum (search rules) _ c.put_one-bytes.ensures.long in
    search rules

pub loop-k-preserved : goal.loop-k-preserved
loop-k-preserved c =
    let t = c.args.self.now in
    let step = c.in-Some.ensures.steps in
    rw (step.1, step.2) (cutting_turn _ _ _ _ _ _ _ _ _ _ _ _ c.loop-k.invariant t.weak.network.now.proper _ t.ready _ _ step.0 _ _ c.choose-chosen.ensures.side c.choose-chosen.ensures.quorum (search rules) _ _ c.put_one-bytes.ensures.bytes c.put_one-bytes.ensures.long)

pub returns-clause-bytes : goal.returns-clause-bytes
returns-clause-bytes c = cutting_ends _ _ _ _ _ _ _ _ _ _ _ _ c.loop-k.invariant c.in-None.ensures.steps.0.0

pub returns-clause-after : goal.returns-clause-after
returns-clause-after c = cutting_reach _ _ _ _ _ _ _ _ _ _ _ _ c.loop-k.invariant c.in-None.ensures.steps.0.0

-- `server::turn::commit_on` meets its contract. Each answer is one lemma of `Turning`, whose premises `search` finds. Assumes nothing.
use Rattle.own.specs.States.{state_of}
use Rattle.server.proofs.Turning.{Stood, stood, commit_13, commit_16, commit_moves}
use Rattle.server.proofs.turn.commit_on.Goals as goal

pub returns-then-before-eq0 : goal.returns-then-before-eq0
returns-then-before-eq0 c = search commit_16

pub moved-requires : goal.moved-requires
moved-requires c =
    let standing : (let a = c.args in Stood a.plan.now.left (state_of a.state.now)) = search stood in
    let k = standing in
    (k.inside (λ e. c.if-before-eq0.false (k.shut e)), k.v_small, k.t_small)

pub returns-then-stands : goal.returns-then-stands
returns-then-stands c = search commit_moves

pub returns : goal.returns
returns c = search commit_13

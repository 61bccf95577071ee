-- `server::turn::ask_on` meets its contract. Each answer is one lemma of `Turning`, whose premises `search` finds. Assumes nothing.
use Rattle.own.specs.States.{state_of}
use Rattle.server.proofs.Turning.{Stood, stood, server_eight, ask_13, ask_14, ask_16, ask_opens}
use Rattle.server.proofs.turn.ask_on.Goals as goal

pub values_due-count-requires : goal.values_due-count-requires
values_due-count-requires c =
    let standing : (let a = c.args in Stood a.plan.now.left (state_of a.state.now)) = search stood in
    let few = c.args.plan.now.whole.few in
    (search server_eight, standing.inside)

pub returns-then-lent-count : goal.returns-then-lent-count
returns-then-lent-count c = search ask_14

pub returns-then-before-eq1 : goal.returns-then-before-eq1
returns-then-before-eq1 c = search ask_16

pub value-requires : goal.value-requires
value-requires c =
    let standing : (let a = c.args in Stood a.plan.now.left (state_of a.state.now)) = search stood in
    let k = standing in (k.v_small, k.t_small)

pub returns-then-stands : goal.returns-then-stands
returns-then-stands c = search ask_opens

pub returns : goal.returns
returns c = search ask_13

-- What the code's states and values stand for.
--     state_of s            == the state that the code's words stand for; own_of: its two values
--     moved_on blocks s o   == the state after a commit, for any state: as `next`, and from a block that the plan does not have the end
use Rattle.std.specs.Prelude.{cond, ℕ, suc, ltb}
use Rattle.part.specs.Own.{Own}
use Rattle.part.specs.State.{State}
use Rattle.own.specs.declared.state.State as CodeState
use Rattle.own.specs.declared.state.Own as CodeOwn

abbrev pub state_of : CodeState.State → State
state_of s = record { block = s.block; kind = s.kind; v = s.v; t = s.t; asked = s.asked }

abbrev pub own_of : CodeOwn.Own → Own
own_of s = record { v = s.v; t = s.t }

unfoldable pub moved_on : ℕ → State → Own → State
moved_on blocks s o =
    cond (ltb s.kind 0x14) (record { block = s.block; kind = suc s.kind; v = o.v; t = o.t; asked = 0 })
    (cond (ltb (suc s.block) blocks) (record { block = suc s.block; kind = 0x11; v = o.v; t = o.t; asked = 0 })
    (record { block = blocks; kind = 0x15; v = o.v; t = o.t; asked = 0 }))

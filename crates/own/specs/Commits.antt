-- The commit of a kind, from what arrived.
--     committed_on ..   == v and t after it, by the sets that the opening command of the block fixes
--     commit_any ..     == the same for any n: one above 8 counts as 8
use Rattle.std.specs.Prelude.{cond, List, ℕ, min, eqb}
use Rattle.sets.specs.Sets.{meet, minus, full}
use Rattle.carriage.specs.declared.opening.Opening.{Opening}
use Rattle.part.specs.Own.{Own, own1, own_gather, own_compare, own5, own6}

unfoldable pub committed_on : Opening → ℕ → ℕ → List ℕ → Own → Own
committed_on o kind i l s =
    let A = o.side in
    let S = o.quorum in
    let sound = minus (full o.n) o.fault in
    let t4 = own_gather (minus sound S) i l s.t in
    cond (eqb kind 0x11) (record { v = s.v; t = own_gather (minus S A) i l (own1 A i s.v s.t) })
    (cond (eqb kind 0x12) (record { v = s.v; t = own_compare S i l s.t })
    (cond (eqb kind 0x13) (record { v = own5 sound (meet A S) i t4 s.v; t = t4 })
    (record { v = own6 o.fault i l s.v; t = s.t })))

unfoldable pub commit_any : Opening → ℕ → ℕ → List ℕ → Own → Own
commit_any o kind i l s = committed_on (record o { n = min o.n 8 }) kind i l s

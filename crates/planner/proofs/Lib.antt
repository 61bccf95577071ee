-- Examples     the plan computed for small networks
-- Submodular   the incoming neighbours of two sets, of their union and of what they share
-- WeakSets     weak sets by their members; any two of them meet
-- Hitting      sets that meet every weak set
-- Quorums      a quorum that needs each of its servers has exactly f + 1, all joined
-- Reporters    the servers that report to one of F
-- Writing      the blocks that are written keep the rules
-- Lengths      how long a plan is, and that none is shorter
-- Short        the plan that is written is within a plan's limit
-- Main         what a user relies on
pub mod Examples
pub mod Submodular
pub mod WeakSets
pub mod Hitting
pub mod Quorums
pub mod Reporters
pub mod Writing
pub mod Lengths
pub mod Short
pub mod Main

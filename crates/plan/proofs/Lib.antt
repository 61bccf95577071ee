-- Joins       checks in a row
-- Lists       the numbers up to a limit that pass a test
-- Groups      the separate routes to one receiver
-- Walks       lists of due things, each taking the check one step on
-- Reports     the reports of a block
-- Parts       the parts of a block, one after the other
-- Bounds      the place that a check reaches lies within the plan
-- Cuts        the fault sets of a network and the parts that its cuts are known by
-- Scans       the scan over the parts of a set
-- Counts      how many blocks are due, computed from the definition
-- Plans       the plan as a whole
pub mod Joins
pub mod Lists
pub mod Groups
pub mod Walks
pub mod Reports
pub mod Parts
pub mod Bounds
pub mod Cuts
pub mod Counts
pub mod Plans
pub mod Scans

-- Search        what the search for the first bad split finds
-- Neighbours    counts of incoming neighbours, of numbers and of arbitrary sets
-- Partitions    splits of numbers against partitions into arbitrary sets
-- Theorem       the first bad split against Theorem 1's condition
-- Wide          the condition asks for at least 3f + 1 servers
-- Main          what a user relies on
pub mod Search
pub mod Neighbours
pub mod Partitions
pub mod Theorem
pub mod Wide
pub mod Main

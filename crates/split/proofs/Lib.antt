-- Heads         what the reader's answer says of the split test
-- Search        what a search over one range finds
-- Neighbours    some server below n is in a set
-- SourceRows    the rows of sources, as the code makes and reads them
-- Weakness      why the split test may look at one side at a time
-- Scans         the three nested scans
pub mod Heads
pub mod Search
pub mod Neighbours
pub mod SourceRows
pub mod Weakness
mod Scans

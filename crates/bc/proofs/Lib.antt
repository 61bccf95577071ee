-- Paths        of f + 1 paths that are apart one is clear of X; what the arrivals on them agree on
-- Validity     what a sound server holds is some sound server's input
-- Deciding     one block whose F is the actual faulty set
-- Agreement    agreement, from validity
-- Weaker       choices that the algorithm allows are sound
-- Main         what a user relies on
pub mod Paths
pub mod Validity
pub mod Deciding
pub mod Agreement
pub mod Weaker
pub mod Main

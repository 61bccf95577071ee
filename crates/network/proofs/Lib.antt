-- Main          what a user relies on
-- Packed        eight marks as the number of the marked servers
-- LinkRows      the rows of links, as the code makes them and as a user reads them
-- Reading       the card reader's loop: what is left to read gives the answer of the whole
-- Accepted      what the commands of an accepted card are
-- Networks      the network of an accepted card is proper
-- Heads         what the reader's answer says of the card
pub mod Main
mod Packed
pub mod LinkRows
pub mod Reading
pub mod Accepted
pub mod Networks
pub mod Heads

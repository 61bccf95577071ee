-- Commands    the operands in a plan's bytes, one command after the other
-- Proper      what the routes of an accepted plan are, whatever their block
-- Encoded     the operands in the bytes of blocks are those of their routes
-- Sums        sums over servers
-- Between     how often a server stands between source and receiver of a route
-- Relayed     the counts of routes by their operands
-- Counting    the functions that count, on plain lists
-- Main        what a user of the load relies on
-- Answering   the answers of the load
pub mod Commands
pub mod Proper
pub mod Encoded
pub mod Sums
pub mod Between
pub mod Relayed
pub mod Counting
pub mod Main
pub mod Answering

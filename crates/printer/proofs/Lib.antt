-- Pairs         the pairs of servers in their order, and the links among them
-- CleanCard     the clean card in the lent buffer
mod Pairs
pub mod CleanCard

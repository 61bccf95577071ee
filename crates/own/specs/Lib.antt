-- Kinds     the kinds of steps
-- Arrivals  what arrived for a server, as the run reads it
-- States    what the code's states and values stand for
-- Commits   the commit of a kind, from what arrived
pub mod Kinds
pub mod Arrivals
pub mod States
pub mod Commits

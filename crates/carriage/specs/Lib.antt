-- Walks      the place of a route's receiver
-- Openings   what the opening command of a block fixes, and what the code relies on at a block of an accepted plan
-- Passing    the blocks of an accepted plan, one after the other
pub mod Walks
pub mod Openings
pub mod Passing

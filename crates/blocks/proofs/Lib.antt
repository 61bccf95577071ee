-- Putting    texts put into a buffer, one after the other: for each member of a set, ascending
-- Texts      the bytes of routes and reports as such texts
-- Plan       the block by rows is the block of the plan
pub mod Putting
pub mod Texts
pub mod Plan

-- Members    membership in a union, a meet, a difference, a subset; equality by membership
-- Counts     counts below n, and sizes
-- NextSet    the next set that is apart from a set
-- LowestMember   the lowest member
-- Listed     the members of a set, ascending
-- Tables     the table of sizes, of 256 entries, with the one test that is computed over it
pub mod Members
pub mod Counts
pub mod NextSet
pub mod LowestMember
pub mod Listed
mod Tables

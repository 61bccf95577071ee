-- Sets       sets of servers, as numbers and as tests
-- Members    the members of a set, ascending
-- Scan       a scan over the sets that keep clear of a set
pub mod Sets
pub mod Members
pub mod Scan

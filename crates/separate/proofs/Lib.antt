-- Beyond    what the definitions give for a server past the eighth
-- Scans     the loop that looks for the first server that hands on to x
-- Trying    the servers of a list that are tried in turn, until one of them is found
-- Ways      the entry side and the leaving side of a server: what each way out gives
-- Adding    one route sought after the other
-- Taking    the lowest members of a set, taken one after the other
-- Laying    a route laid out as the eight bytes of its operand
pub mod Beyond
pub mod Scans
pub mod Trying
pub mod Ways
pub mod Adding
pub mod Taking
pub mod Laying

-- Main    every row of the table holds
-- Alone   P10 for every S of one server
pub mod Main
pub mod Alone

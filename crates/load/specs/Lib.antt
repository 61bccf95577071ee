-- Load       how many routes of a plan each server relays
-- Places     the relaying places of a plan, from its bytes alone
-- Tally      what the code counts, on any bytes
-- Answers    what the code's answers stand for
-- Theorems   what is proved of the counts
pub mod Load
pub mod Places
pub mod Tally
pub mod Answers
pub mod Theorems

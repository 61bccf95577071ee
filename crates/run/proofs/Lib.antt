-- Speaking     what arrivals speak against, as lists and as sets
-- Arrivals     what arrives at a server is 0, 1 or 2, and what it settles
-- Carried      what carriages over routes bring
-- Reported     what reports bring
-- Stepped      the steps of a block on sets of servers
-- Blockwise    the steps of a block and the blocks of a plan, as the code takes them
-- Lent         the inputs and the lent buffer as bytes
-- Calls        the grounds of a call and the lent buffer where there is none
-- Answering    the answer of a run, and demand 3 with it
pub mod Speaking
pub mod Arrivals
pub mod Carried
pub mod Reported
pub mod Stepped
pub mod Blockwise
pub mod Lent
pub mod Calls
pub mod Answering

-- Tallies    how many carriages of a list a server sends on, and how many come to it
-- Carrying   the carriages of a kind, by their place in the block
-- Arriving   what comes to a server, as the code reads it
-- Ways       the way to a block of the plan
-- Filling    the loop that lays a value down
-- Turning    the grounds of a call and the answer where there is none
pub mod Tallies
pub mod Carrying
pub mod Arriving
pub mod Ways
pub mod Filling
pub mod Turning

-- Turned     the turns of a plan are the run
-- Delivered  what reaches a server over a turn is what it hears in the run
-- Sources    the sources of a block's carriages, by the rules of an accepted plan
-- Committed  one kind of a block: each server's commit gives the run's v and t
-- Answers    the calls of a server that stands where a turn or the end is
-- Turns      the turns of an accepted plan stand in the order in which a server goes
-- Followed   servers stepped side by side follow the run
-- Shown      what the servers show at the end
-- Beyond     arrived bytes beyond those due have no effect
-- Silent     a missing arrival does what the byte 0 does
-- Short      a buffer of 56 bytes is enough for every ask
-- Main       what a user of the definitions relies on
pub mod Turned
pub mod Delivered
pub mod Sources
pub mod Committed
pub mod Answers
pub mod Turns
pub mod Followed
pub mod Shown
pub mod Beyond
pub mod Silent
pub mod Short
pub mod Main

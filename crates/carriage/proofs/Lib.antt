-- Messages    the byte of a number, as it is read
-- Walking     the way along a route
-- Operands    the routes of a block, one after the other
-- Opened      what the opening command of a block fixes
-- Placed      where the routes and reports of a block stand in its bytes
-- Accepting   what an accepted plan is to code that goes through its blocks
-- Starts      the block that starts at a place of the plan
pub mod Messages
pub mod Walking
pub mod Operands
pub mod Opened
pub mod Placed
pub mod Accepting
pub mod Starts

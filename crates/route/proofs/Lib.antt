-- Commands   where a command is cut off
-- Paths      the servers of a route on plain lists, and how many there are
-- Fills      the fill of a route as one number
-- Walks      the walk along a route on sets
-- Turns      the loop of the route check
pub mod Commands
pub mod Paths
pub mod Fills
pub mod Walks
pub mod Turns

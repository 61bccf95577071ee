-- Smaller   a set that holds a weak set is weak, or still holds one when some server is left out of it
-- Filled    the loop that fills the table
-- Choosing  the side and the quorum, as they are looked up; the loop that takes servers out
mod Smaller
pub mod Filled
mod Choosing

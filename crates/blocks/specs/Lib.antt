-- Written    one block as it is written: its routes and reports by the rows of links and of sources
-- Placed     what is put at a place in lent memory
pub mod Written
pub mod Placed

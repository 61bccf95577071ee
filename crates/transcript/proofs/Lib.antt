-- Laying   bytes laid over a buffer, and decimal digits
-- Lines    the lines, put one word after the other
-- RunIn    run.in cut into its parts
-- Main     what a user of the definitions relies on
pub mod Laying
pub mod Lines
pub mod RunIn
pub mod Main

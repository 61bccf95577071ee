-- Hearing    what a carriage brings, what a receiver hears, and when arrivals are alike
-- Steps      the six steps of a block
-- Run        the run on bytes: the answer and the lent buffer after it
-- Choices    the choices that a decoded plan makes for Algorithm BC
-- Demand     what is proved of accepted plans and of calls to run, demand 3 with it
pub mod Hearing
pub mod Steps
pub mod Run
pub mod Choices
pub mod Demand

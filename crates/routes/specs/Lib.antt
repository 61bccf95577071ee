-- Routing   what is answered to a call for separate routes, and what is written
-- Answers   what the code's answer stands for, and what holds of it
pub mod Routing
pub mod Answers

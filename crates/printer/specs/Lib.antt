-- Print        the clean card of a network, and what is written of it
-- Answers      what the code's answer stands for
pub mod Print
pub mod Answers

-- Separation   what must be taken away before a network falls apart
-- Scan         what makes the quick test fast
-- Quick        the quick test
-- Least        the same over arbitrary sets, and what the quick test says of it and of the split test
-- Answers      what the code's answer stands for
pub mod Separation
pub mod Scan
pub mod Quick
pub mod Least
pub mod Answers

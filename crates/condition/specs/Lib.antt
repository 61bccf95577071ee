-- Condition    Theorem 1 of the paper, over arbitrary sets, and what the split test says of it
pub mod Condition

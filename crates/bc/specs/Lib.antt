-- Algorithm   Algorithm BC as the paper states it, its choices as parameters
-- Allowed     what the algorithm asks of its choices
-- Theorems    validity and agreement, and that they ask less than the algorithm
pub mod Algorithm
pub mod Allowed
pub mod Theorems

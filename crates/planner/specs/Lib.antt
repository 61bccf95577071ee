-- Choice     A and S of a block
-- Plan       the blocks of the plan that is written, and its bytes
-- Write      what is written for a card into a lent buffer
-- Theorems   what is proved of them
pub mod Choice
pub mod Plan
pub mod Write
pub mod Theorems

-- Answers   what the code's answers stand for
pub mod Answers

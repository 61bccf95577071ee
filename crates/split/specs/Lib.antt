-- Split        the splits of V in their order, and the first bad one
-- Sources      who has a link into a set, as the code holds it
-- Weak         what makes the split test fast
-- Answers      what the code's answer stands for
pub mod Split
pub mod Sources
pub mod Weak
pub mod Answers

-- Due        the blocks that a plan for n and f has, in order, and the commands of a block
-- Ahead      the fault sets and the parts that are due, as the code goes over them
-- Answers    what the code's answers stand for
-- Check      what the bytes of a plan give: the totals or the refusal
pub mod Due
pub mod Ahead
pub mod Check
pub mod Answers

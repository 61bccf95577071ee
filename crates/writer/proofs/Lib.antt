-- Copies    bytes laid where earlier ones stand already
-- Repeats   a block whose body stands in the buffer already
-- Cutting   the blocks of one F, one after the other
-- Faulting  the blocks of each F, one F after the other
-- Answered  what the writer's answers say of the card and of the lent buffer
pub mod Copies
pub mod Repeats
pub mod Cutting
pub mod Faulting
pub mod Answered

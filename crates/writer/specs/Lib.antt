-- Site      the tables that stand for a network without a bad split
-- Bytes     the bytes of the blocks of one F, and what of them stands in a buffer
pub mod Site
pub mod Bytes
pub mod Answers

-- Text      what `rehearse` prints, as bytes
-- Theorems  what is proved of it
pub mod Text
pub mod Theorems

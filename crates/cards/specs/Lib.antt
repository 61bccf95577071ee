-- Twins    a link given again is one link
-- Said     what a card says, with no reader
-- Clean    the clean card, and what printing it back promises
pub mod Twins
pub mod Said
pub mod Clean

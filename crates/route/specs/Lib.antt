-- Commands   how many bytes a command takes, and where one is cut off
-- Route      the rules that a route keeps on its own
-- Fills      how far bytes are from being all fill
pub mod Commands
pub mod Route
pub mod Fills

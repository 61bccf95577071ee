-- Own       one kind of a block for one server: what it sends, what it receives, and the steps that it takes
-- State     where a server stands between two calls
-- Calls     start, ask and commit on bytes
-- Beside    servers stepped side by side over one card and plan
-- Theorems  what is proved of them
pub mod Own
pub mod State
pub mod Calls
pub mod Beside
pub mod Theorems

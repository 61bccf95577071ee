-- Lists   what holds of each element of a list
-- Laid    bytes laid over a lent buffer
pub mod Lists
pub mod Laid

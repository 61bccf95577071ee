-- Words      what the calls say of their words
-- Version    the library's version
pub mod Words
pub mod Version

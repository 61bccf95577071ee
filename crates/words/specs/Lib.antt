-- Words      the answers as rows of words
pub mod Words

-- Rows    the rows of words, laid entry by entry
mod Rows

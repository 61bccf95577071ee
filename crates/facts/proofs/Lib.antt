-- Bools     case splits on a test, with its equation
-- Tables    a rule of a table, from one computed test over all its entries
-- Rows      the length of a row of an array of arrays
-- Stores    bytes laid over a buffer
-- Lists     the elements of a list by their places
pub mod Bools
pub mod Tables
pub mod Rows
pub mod Stores
pub mod Lists

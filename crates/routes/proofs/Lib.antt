-- Calling     what a call may ask for, and the search that it starts
-- Laying      routes laid over the lent bytes, one after the other
-- Answering   what is written and answered, and what the theorems on the search say of it
mod Calling
mod Laying
mod Answering

-- Rows    the words of each call, from what the call and `words` say of its answer
-- OwnPart the same of a server's own part
mod Rows
mod OwnPart

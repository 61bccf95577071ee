-- Standing   where a server stands, as the code tests and moves it
-- Stepping   the steps of a commit, as the code takes them
pub mod Standing
pub mod Stepping

-- Speaking   the code's values and arrivals as sets of servers
-- Answers    what the code's answers stand for
pub mod Speaking
pub mod Answers

-- Links        the links of a network as rows of marks
-- Rows         the links as sets, a row for each server
-- Card         what a card's bytes give: the network or the refusal
-- Places       where the card reader stands
-- Proper       what holds of the network of every accepted card
-- Answers      what the code's answers stand for
pub mod Links
pub mod Rows
pub mod Card
pub mod Places
pub mod Proper
pub mod Answers

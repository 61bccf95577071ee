-- Search     flows, the search for one route more, and the flow that it ends with
-- Routes     the routes of a flow, and what the search answers: routes or a cut
-- Theorems   what is proved of them
pub mod Search
pub mod Routes
pub mod Theorems

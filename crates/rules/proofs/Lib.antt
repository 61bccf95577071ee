-- Lists       the members of a set as a list: what is listed, where, and how long the list is
-- Order       blocks in due order: those of one F stand together, and every cut of V−F is among them
-- Routes      what a route's bytes and its set of servers say about its servers one by one
-- Spans       bytes from a place on, joined and cut
-- Bytes       spans of a byte and of parts in a row
-- Progress    taking apart what a check reached
-- Groups      the separate routes to one receiver
-- Fans        the routes to each receiver of a set, from one side
-- Meshes      the routes between the servers of a set
-- Reports     the reports of a block: the check of the commands 14
-- Whole       the check of one block, and of the blocks of a list of due ones
-- SeparateRoutes   what routes with only their receiver in common need of a network, for arbitrary sets
-- Served      blocks within the rules serve every cut, so that their network is routable
-- Routable    a routable network meets Theorem 1's condition
-- Main        what a user of the rules relies on: a plan is accepted exactly when it meets the rules, and then its network is good
pub mod Lists
pub mod Order
pub mod Routes
pub mod Spans
pub mod Bytes
pub mod Progress
pub mod Groups
pub mod Fans
pub mod Meshes
pub mod Reports
pub mod Whole
pub mod SeparateRoutes
pub mod Served
pub mod Routable
pub mod Main

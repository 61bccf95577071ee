-- Returns      links that all have a return
-- Parts        the parts by numbers against parts into arbitrary sets, and the least number
-- Linked       networks in which every two servers are linked
-- Around       the neighbours of a part are the fewest servers that cut it off
-- Scanned      the scan over the parts
-- Ruled        the rule's answer, as the code puts it together
-- Counting     counts of the first so many members of a set, and of the others
-- OlderRule         the older rule against Theorem 1's condition
-- Main         what a user relies on
mod Returns
mod Parts
mod Linked
mod Around
mod Scanned
mod Ruled
mod Counting
mod OlderRule
pub mod Main

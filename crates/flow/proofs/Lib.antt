-- Membership  members of sets that are made of others
-- Lowest      the k lowest members of a set
-- Kept        flows: what is kept at the two sides of every server
-- Updates     what each change of a flow changes
-- Pushed      a search that finds something has a flow with one route more
-- Trails      the walks from the starts of a flow: they do not meet, and each leads to the receiver
-- Finding     the routes that the search answers are separate routes from the sources to the receiver
-- Sums        sums over the servers
-- Closed      a search that finds nothing has seen all that its steps lead to
-- Cut         closed marks cut a valid flow, in as many servers as it has routes
-- Cutting     what a search that finds nothing says of the network: the servers that it answers cut off every route
-- Examples    the search computed on small networks
pub mod Membership
pub mod Lowest
pub mod Kept
pub mod Updates
pub mod Pushed
pub mod Trails
pub mod Finding
pub mod Sums
pub mod Closed
pub mod Cut
pub mod Cutting
pub mod Examples

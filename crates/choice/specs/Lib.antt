-- WeakTable   the table of the sets that hold a weak set
-- Choice      what is chosen for a cut
pub mod WeakTable
pub mod Choice

-- Marking    the marks of links, whatever their order and number
-- Front      the card reader from the front of the list, command by command
-- Later      bytes that stand three places later
-- Repeats    a link given again
-- Whole      cards of links and the end: which are read, and as what
-- Marked     the marks of a list of links are one for each and none beside them
-- Said       the reader gives what the card says
-- Ordered    the links of a network in ascending order
-- Printed    the printed card: clean, read back, printed again, short and in front
-- Seen       cards that every call sees alike
-- Main       what a user relies on
pub mod Marking
pub mod Front
pub mod Later
pub mod Repeats
pub mod Whole
pub mod Marked
pub mod Said
pub mod Ordered
pub mod Printed
pub mod Seen
pub mod Main

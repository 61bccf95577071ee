-- Ways         a route of a plan as a path of Algorithm BC
-- Chosen       the choices of a block within the rules are such as Algorithm BC allows
-- Same         the six steps of a block give what an iteration of Algorithm BC gives
-- Planned      the choices of the due blocks are such as it allows, and those with F = X cover every cut
-- Folded       the run over the blocks is Algorithm BC with their choices
-- Someone      a network with an accepted plan has a sound server
-- Eight        the values of the servers as a list of eight
-- Decides      demands 2 and 3 on the definitions
-- Unheard      bytes of the message table past the last carriage have no effect
-- Silent       a missing byte of the message table does what the byte 0 does
-- Kept         what a call leaves of the lent buffer as it was
-- Main         what a user of the run relies on
pub mod Ways
pub mod Chosen
pub mod Same
pub mod Planned
pub mod Folded
pub mod Someone
pub mod Eight
pub mod Decides
pub mod Unheard
pub mod Silent
pub mod Kept
pub mod Main

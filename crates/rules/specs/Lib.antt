-- Blocks      the decoded plan: blocks with F, A, S and their carriages, their encoding, and the decoding of a plan's bytes
-- Rules       what docs/FORMATS.md asks of a plan, sentence by sentence
-- Routable    what a plan shows of its network: routes for every F and every cut, by the paper's Definition 2
-- Theorems    what is proved of the plan check and the rules
pub mod Blocks
pub mod Rules
pub mod Routable
pub mod Theorems

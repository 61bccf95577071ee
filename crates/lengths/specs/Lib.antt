-- Length   the length of the plan for n and f
pub mod Length

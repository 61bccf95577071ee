-- Table   the table of lengths, computed
mod Table

-- definitions: the terminals, the notation and the grammar
pub mod Terminal
pub mod Notation
pub mod Java17
-- definitions: the tokens that the grammar sees
pub mod Words
-- definitions: what a table of pieces stands for
pub mod Piece

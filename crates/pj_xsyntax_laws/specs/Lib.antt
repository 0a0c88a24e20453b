-- texts of words with a space behind each, and with white space and comments
pub mod Spaced
pub mod Gapped
-- where what a text names stands, and which fault is the first
pub mod Order
pub mod Every
-- the printed form
pub mod Printed
-- what abbreviations stand for
pub mod Abbreviations
-- the levels of operators
pub mod Levels

-- definitions
pub mod Names
pub mod Worlds
pub mod Book
pub mod Answered
pub mod Rule
pub mod Plays
pub mod Seats
pub mod ClassWorld
pub mod Telling
-- for private clauses
pub mod Placed
pub mod Held
pub mod Index

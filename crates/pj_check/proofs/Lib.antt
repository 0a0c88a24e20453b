mod Explaining
mod DoorCounting
mod Ending
mod Excluding
mod Keys
mod OverCache
mod Leaving
mod Finishing
mod Caches
mod Fitting
mod OneRefusal
mod Once
mod SomeRun
pub mod Pieces
mod Lines
pub mod Emptiness
pub mod InOrder

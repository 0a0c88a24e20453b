pub mod Bisection
pub mod Inside

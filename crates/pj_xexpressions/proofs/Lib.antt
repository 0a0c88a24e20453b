pub mod ExpressionForms
mod Names

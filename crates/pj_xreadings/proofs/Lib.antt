pub mod TreeForms
pub mod Lists
pub mod Chains
pub mod StepForms
pub mod Calls
pub mod Scopes
-- proofs of the laws of shapes
pub mod Fitted
pub mod BoundForms
pub mod Seen
pub mod LayerForms
pub mod SameShape
pub mod Within
pub mod Least
pub mod Grows

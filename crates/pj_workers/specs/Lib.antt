-- definitions, in the order in which they are read
pub mod FileFacts
pub mod Marked
pub mod Rules
pub mod Reasons
pub mod RuleMeaning
pub mod FileMeaning
pub mod JavaReplies
pub mod Calls
pub mod Results
pub mod Chosen
pub mod Evaluated
pub mod Cold
pub mod RuleFacts
pub mod Plain
-- laws
pub mod Laws
-- for private clauses
pub mod Views

-- sizes
mod Lengths
mod Fronts
mod MarkupSizes
mod WrittenSizes
mod TextSizes
mod ShortLists
-- what files come to
mod SomeSound
mod Unopened
mod SomeFile
mod SomeLoad
-- what holds of each rule
mod EachRule
mod Priorities

-- What the values of the code say.
use Rattle.std.specs.Prelude.{List, map, reverse}
use Rattle.std.specs.Option.{option_map}
use Rattle.pj_xreadings.specs.Operands.{Test, Called, Predicates}
use Rattle.pj_xreadings.specs.Seen.{seen_reading, seen_behind, seen_bound, seen_arguments, seen_second, seen_last}
use Rattle.pj_xmeaning.specs.Parts as parts
use Rattle.pj_xmeaning.specs.Parts.{RuleValue, Missing, Nothing, One, Many, Compared, UpTo, Sums, Products, Sets, Tested, Parentheses, Word, Tail}
use Rattle.pj_xmeaning.specs.declared.part.Part.{Part}
use Rattle.pj_xmeaning.specs.declared.part.Part.TheVariants as part

-- what a rule's tokens say
abbrev pub seen_part : Part → RuleValue
seen_part part.Missing = Missing
seen_part part.Nothing = Nothing
seen_part (part.One a) = One (seen_reading a.value)
seen_part (part.Many list) = Many (map seen_reading list)
seen_part (part.Bound list) = parts.Bound (map seen_bound list)
seen_part (part.Compared second) = Compared (option_map seen_second second)
seen_part (part.UpTo last) = UpTo (option_map seen_last last)
seen_part (part.Sums list) = Sums (map seen_behind list)
seen_part (part.Products list) = Products (map seen_behind list)
seen_part (part.Sets list) = Sets (map seen_behind list)
seen_part (part.Given list) = parts.Given (seen_arguments list)
seen_part (part.Test t) = Tested t
seen_part (part.Parentheses there) = Parentheses there
seen_part (part.Word name) = Word name.now
seen_part (part.AxisTest t predicates) = Tail (Test t (map seen_reading predicates))
seen_part (part.Called list predicates) = Tail (Called (seen_arguments list) (map seen_reading predicates))
seen_part (part.Predicates list) = Tail (Predicates (map seen_reading list))

-- the values of rules that follow each other, of which the first one stands last
abbrev pub seen_parts : List Part → List RuleValue
seen_parts list = map seen_part (reverse list)

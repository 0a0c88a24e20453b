-- The lists of rules that files make.
use Rattle.std.specs.Prelude.{Bool, true, false, not, ◌&&◌, List, [], ◌∷◌, ◌++◌, Option, Some, None, filter, codes, if◌then◌else◌}
use Rattle.std.specs.List.{list_any}
use Rattle.pj_rule_texts.specs.Values.{Text, is_same}
use Rattle.pj_rule_sets.specs.declared.entry.Origin.{Origin}
use Rattle.pj_rule_sets.specs.declared.entry.Unusable.{Unusable}
use Rattle.pj_rule_sets.specs.declared.entry.Entry.{Entry}
use Rattle.pj_rule_sets.specs.declared.entry.Entry.TheVariants as entry

-- A rule is its definition: the file in which it is written, by path, and its name there. What stands for a reference to a file that is
-- not available is the reference: the file in which it is written, and its text.
abbrev pub same_bool : Bool → Bool → Bool
same_bool true b = b
same_bool false b = not b

abbrev pub same_origin : Origin → Origin → Bool
same_origin a b = same_bool a.is_reference b.is_reference && (is_same a.path b.path && is_same a.text b.text)

abbrev pub Taken : Type 0
Taken = Origin × Entry

-- a rule that is taken twice stands in its first place, as it was taken last
abbrev pub put : List Taken → Taken → List Taken
put [] taken = taken ∷ []
put (other ∷ rest) taken = if same_origin taken.0 other.0 then (other.0, taken.1) ∷ rest else other ∷ put rest taken

abbrev pub put_all : List Taken → List Taken → List Taken
put_all list [] = list
put_all list (taken ∷ more) = put_all (put list taken) more

-- the name under which a rule stands in a list; a reference to a whole file has none
abbrev pub name_of : Entry → Option Text
name_of (entry.Rule texts) = Some texts.row.name
name_of (entry.Unusable unusable) = unusable.name

abbrev pub is_among : Text → List Text → Bool
is_among text texts = list_any (is_same text) texts

-- texts with one more at their end, unless it is among them
abbrev pub with_text : List Text → Text → List Text
with_text texts text = if is_among text texts then texts else texts ++ text ∷ []

abbrev pub is_called : Text → Option Text → Bool
is_called name None = false
is_called name (Some other) = is_same name other

-- the first rule of a name
abbrev pub named : Text → List Taken → Option Taken
named name [] = None
named name (taken ∷ list) = if is_called name (name_of taken.1) then Some taken else named name list

abbrev pub is_excluded : List Text → Option Text → Bool
is_excluded excludes None = false
is_excluded excludes (Some name) = is_among name excludes

-- all but those that are excluded by their names
abbrev pub without : List Text → List Taken → List Taken
without excludes list = filter (λ taken. not (is_excluded excludes (name_of taken.1))) list

-- ---- rules that cannot be used

abbrev pub not_an_xpath_rule : Text → Entry
not_an_xpath_rule name = entry.Unusable (record { name = Some name; error = record { rule = name; message = codes "not an XPath rule" } })

abbrev pub not_available : Option Text → Text → Entry
not_available name reference = entry.Unusable (record { name = name; error = record { rule = reference; message = codes "rule is not available" } })

abbrev pub defined_in : Text → Text → Origin
defined_in path name = record { is_reference = false; path = path; text = name }

abbrev pub referred_in : Text → Text → Origin
referred_in path reference = record { is_reference = true; path = path; text = reference }

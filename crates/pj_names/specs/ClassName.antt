-- Names of classes.
use Rattle.std.specs.Prelude.{Bool, false, not, ◌==◌, ◌&&◌, ◌||◌, ℕ, List, [], ◌∷◌, codes, nat_eq, if◌then◌else◌}
use Rattle.std.specs.List.{list_all}
use Rattle.std.specs.Cmp.Lexicographic.{pointwise, slice_cmp}
use Rattle.std.specs.Ordering.{nat_cmp}
use Rattle.std.specs.FinSet as set

-- a name, by its bytes
abbrev pub Name : Type 0
Name = List ℕ

-- a set of names, in the order of their bytes
abbrev pub NameSet : Type 0
NameSet = set.FinSet (slice_cmp nat_cmp)

-- the set of some names
abbrev pub name_set : List Name → NameSet
name_set names = set.from_list names

-- puts a byte in front of the first part
abbrev pub in_first_part : ℕ → List (List ℕ) → List (List ℕ)
in_first_part b [] = (b ∷ []) ∷ []
in_first_part b (part ∷ rest) = (b ∷ part) ∷ rest

-- the parts of a text between its dots, 46: one more than it has dots
abbrev pub parts : List ℕ → List (List ℕ)
parts [] = [] ∷ []
parts (b ∷ bs) = if b == 46 then [] ∷ parts bs else in_first_part b (parts bs)

-- no solidus, 47, no semicolon, 59, and no left square bracket, 91
abbrev pub is_name_byte : ℕ → Bool
is_name_byte b = not (b == 47 || (b == 59 || b == 91))

-- An unqualified name, JVMS 4.2.2, between dots: one byte at least.
abbrev pub is_unqualified : List ℕ → Bool
is_unqualified [] = false
is_unqualified (b ∷ bs) = is_name_byte b && list_all is_name_byte bs

-- A binary name, JVMS 4.2.1, with the dots of the Java language, JLS 13.1: unqualified names between dots.
abbrev pub is_class_name : List ℕ → Bool
is_class_name text = list_all is_unqualified (parts text)

-- the class that is known without asking: `java.lang.Object`
abbrev pub is_object : List ℕ → Bool
is_object name = pointwise nat_eq name (codes "java.lang.Object")

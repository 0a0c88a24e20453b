-- The class of a dotted name. A name does not tell where its package ends and its member classes begin (JLS 6.5.2, 13.1).
use Rattle.std.specs.Prelude.{ℕ, zero, suc, ◌≡◌, ◌+◌, ◌≤◌, ◌||◌, Bool, true, false, not, Option, None, Some, if◌then◌else◌, List, [], ◌∷◌, length, find, is_some, unwrap_or, nat_eq}
use Rattle.std.specs.Option.{option_map, option_map_or}
use Rattle.std.specs.Cmp.Lexicographic.{pointwise}
use Rattle.pj_names.specs.declared.answer.Answer.{Answer}
use Rattle.pj_names.specs.declared.answer.Answer.TheVariants.{Found, Absent, Broken}
use Rattle.pj_names.specs.ClassName.{Name, is_class_name, is_object}
use Rattle.pj_names.specs.JavaType.{JavaType, Class, Unknown, NoMore}
use Rattle.pj_names.specs.Asking.{Asking, Return, ask, bind, first_hit}
use Rattle.pj_tree.specs.Tree.{Tree}
use Rattle.pj_tree.specs.declared.node.Node.{Node}
use Rattle.pj_symbols.specs.Symbols.{classes_below}
use Rattle.pj_symbols.specs.declared.class.Class.{Class as DeclaredClass}
use Rattle.pj_written.specs.Names.{next_candidate}

-- the classes that a file declares
abbrev pub file_classes : Tree → List DeclaredClass
file_classes t = classes_below t (length t.nodes)

-- ---- candidates

abbrev pub candidates_from : ℕ → List ℕ → List (List ℕ)
candidates_from zero text = []
candidates_from (suc left) text = text ∷ option_map_or (candidates_from left) (next_candidate text) []

-- the name, and then each with one more dot made `$` from the right; there are no more dots than bytes
abbrev pub candidates : List ℕ → List (List ℕ)
candidates text = candidates_from (length text + 1) text

-- ---- asking

abbrev pub is_there : Answer → Bool
is_there (Found class) = true
is_there Absent = false
is_there (Broken broken) = true

-- the class of the file of a binary name: the first in the text
abbrev pub class_named : List DeclaredClass → Name → Option DeclaredClass
class_named classes name = find (λ class. pointwise nat_eq class.name name) classes

-- the node of that class
abbrev pub node_named : List DeclaredClass → Name → Option Node
node_named classes name = option_map (λ class. class.node) (class_named classes name)

-- a class that is known without asking
abbrev pub is_known : List DeclaredClass → Name → Bool
is_known classes name = is_object name || is_some (class_named classes name)

abbrev pub there : Name → Answer → Option Name
there name answer = if is_there answer then Some name else None

abbrev pub asked_class : Name → Asking (Option Name)
asked_class name = bind (ask name) (λ answer. Return (there name answer))

-- a class of the file is never asked; a text that is no name of a class has none
abbrev pub found_class : List DeclaredClass → List ℕ → Asking (Option Name)
found_class classes text = if not (is_class_name text) then Return None else if is_known classes text then Return (Some text) else asked_class text

-- the first candidate that is there
abbrev pub first_candidate : List DeclaredClass → List ℕ → Asking (Option Name)
first_candidate classes text = first_hit (found_class classes) (candidates text)

-- the class of a dotted name: where no candidate is there it is the name as it is written; a text that is no name has none and asks nothing
abbrev pub dotted_class : List DeclaredClass → List ℕ → Asking (Option Name)
dotted_class classes text =
    if is_class_name text then bind (first_candidate classes text) (λ found. Return (Some (unwrap_or found text))) else Return None

-- a class by its name, where there is one
abbrev pub as_type : Option Name → JavaType
as_type None = Unknown
as_type (Some name) = Class name NoMore

-- The number by which candidates are counted is never reached: with a larger one a name has the same candidates.
abbrev pub CandidatesEnd : List ℕ → Type 0
CandidatesEnd text = (more : ℕ) → length text + 1 ≤ more → candidates_from more text ≡ candidates text

-- What is imported (JLS 7.5), and the classes of the file's package (JLS 7.4.3): the steps behind the scopes of the file.
use Rattle.std.specs.Prelude.{ℕ, ◌&&◌, ◌||◌, Bool, true, Option, None, Some, if◌then◌else◌, List, [], ◌∷◌, ◌++◌, codes, filter}
use Rattle.pj_tree.specs.Tree.{Tree, children_of}
use Rattle.pj_tree.specs.declared.kind.Kind.TheVariants as k
use Rattle.pj_tree.specs.declared.node.Node.{Node}
use Rattle.pj_tree.specs.Kinds.{is_kind}
use Rattle.pj_tree.specs.Words.{words_of, has}
use Rattle.pj_names.specs.ClassName.{Name}
use Rattle.pj_names.specs.JavaType.{JavaType, Class, Unknown, NoMore}
use Rattle.pj_names.specs.Asking.{Asking, Return, bind, each}
use Rattle.pj_symbols.specs.Names.{package_name, package_prefix}
use Rattle.pj_symbols.specs.declared.class.Class.{Class as DeclaredClass}
use Rattle.pj_declared.specs.declared.imports.ImportSort.TheVariants.{OfType, Static}
use Rattle.pj_declared.specs.Nearest.{single_import}
use Rattle.pj_written.specs.Words.{same_text}
use Rattle.pj_outer_names.specs.Candidates.{as_type, dotted_class, first_candidate, found_class}

-- ---- imports

-- whether a word of an import is none of the name
abbrev pub is_sign : List ℕ → Bool
is_sign word = same_text word (codes "import") || (same_text word (codes "static") || (same_text word (codes ";") || same_text word (codes "*")))

-- what an import writes between `import` and `;`, without `static` and `*`: of one on demand it ends with a dot
abbrev pub joined : List (List ℕ) → List ℕ
joined [] = []
joined (word ∷ words) = (if is_sign word then [] else word) ++ joined words

abbrev pub imported_text : Tree → Node → List ℕ
imported_text t import = joined (words_of t import)

abbrev pub is_import_on_demand : Tree → Node → Bool
is_import_on_demand t n = is_kind t k.ImportDeclaration n && has (codes "*") (words_of t n)

-- the imports on demand of both sorts, in the order of the text (JLS 7.5.2, 7.5.4)
abbrev pub imports_on_demand : Tree → List Node
imports_on_demand t = filter (is_import_on_demand t) (children_of t (record { 0 = 0 }))

-- the name that a class of the simple name has in the package of the file
abbrev pub name_in_package : Tree → List ℕ → List ℕ
name_in_package t simple = package_prefix (package_name t) ++ simple

-- ---- behind the scopes of the file

-- the one class among hits, where there is one: two that differ are none
abbrev pub all_are : Name → List (Option Name) → Bool
all_are name [] = true
all_are name (None ∷ hits) = all_are name hits
all_are name (Some hit ∷ hits) = same_text hit name && all_are name hits

abbrev pub one_class : Name → List (Option Name) → JavaType
one_class hit further = if all_are hit further then Class hit NoMore else Unknown

abbrev pub one_among : List (Option Name) → JavaType
one_among [] = Unknown
one_among (None ∷ hits) = one_among hits
one_among (Some hit ∷ hits) = one_class hit hits

module _ (t : Tree) (classes : List DeclaredClass) where
  -- an import of the name is always a hit: where no candidate is there it is the name as it is written
  abbrev pub imported : Node → Asking JavaType
  imported import = bind (dotted_class classes (imported_text t import)) (λ name. Return (as_type name))

  -- the class of the name that one import on demand gives
  abbrev pub by_import : List ℕ → Node → Asking (Option Name)
  by_import simple import = first_candidate classes (imported_text t import ++ simple)

  -- all imports on demand and then `java.lang` (JLS 7.3) are asked, also after two hits that differ
  abbrev pub on_demand : List ℕ → Asking JavaType
  on_demand simple =
      bind (each (by_import simple) (imports_on_demand t)) (λ hits.
      bind (first_candidate classes (codes "java.lang." ++ simple)) (λ last. Return (one_among (hits ++ last ∷ []))))

  abbrev pub in_package_or : List ℕ → Option Name → Asking JavaType
  in_package_or simple None = on_demand simple
  in_package_or simple (Some name) = Return (Class name NoMore)

  -- the class of that name in the package of the file, and else what is imported on demand
  abbrev pub in_package : List ℕ → Asking JavaType
  in_package simple = bind (found_class classes (name_in_package t simple)) (in_package_or simple)

  abbrev pub imported_or : Option Node → Asking JavaType → Asking JavaType
  imported_or None rest = rest
  imported_or (Some import) rest = imported import

  -- the imports of one name, of types and then static ones, and what follows
  abbrev pub outside : List ℕ → Asking JavaType
  outside simple = imported_or (single_import t OfType simple) (imported_or (single_import t Static simple) (in_package simple))

-- Modifiers that are written (JLS 8.1.1, 8.3.1, 8.4.3, 8.8.3, 9.1.1, 9.3, 9.4).
use Rattle.std.specs.Prelude.{ℕ, Bool, false, not, ◌&&◌, ◌||◌, Option, None, Some, if◌then◌else◌, List, [], ◌∷◌, codes, nat_eq}
use Rattle.std.specs.Option.{option_map_or, option_and_then}
use Rattle.std.specs.Cmp.Lexicographic.{pointwise}
use Rattle.pj_tree.specs.Kinds.{is_kind}
use Rattle.pj_tree.specs.Children.{first_child}
use Rattle.pj_tree.specs.Words.{words_of, has}
use Rattle.pj_symbols.specs.Variables.{declaration_of}
use Rattle.pj_tree.specs.Tree.{Tree}
use Rattle.pj_tree.specs.declared.kind.Kind.TheVariants as k
use Rattle.pj_tree.specs.declared.node.Node.{Node}
use Rattle.pj_xvalue.specs.declared.modifiers.Modifier.{Modifier}
use Rattle.pj_xvalue.specs.declared.modifiers.Modifier.TheVariants as m

-- the node that has the modifiers: for the name of a variable the variable's declaration, and else the node itself
abbrev pub bearer_of : Tree → Node → Option Node
bearer_of t n = if is_kind t k.VariableId n then declaration_of t n else Some n

-- the list of modifiers stands first in a declaration
abbrev pub list_if : Tree → Node → Option Node
list_if t child = if is_kind t k.ModifierList child then Some child else None

abbrev pub modifier_list : Tree → Node → Option Node
modifier_list t n = option_and_then (list_if t) (first_child t n)

-- the word of a modifier; of `non-sealed`, which is three tokens, the first
abbrev pub word_of : Modifier → List ℕ
word_of m.Abstract = codes "abstract"
word_of m.Default = codes "default"
word_of m.Final = codes "final"
word_of m.Native = codes "native"
word_of m.NonSealed = codes "non"
word_of m.Private = codes "private"
word_of m.Protected = codes "protected"
word_of m.Public = codes "public"
word_of m.Sealed = codes "sealed"
word_of m.Static = codes "static"
word_of m.Strictfp = codes "strictfp"
word_of m.Synchronized = codes "synchronized"
word_of m.Transient = codes "transient"
word_of m.Volatile = codes "volatile"

-- whether `sealed` is among the words, and not as the end of `non-sealed`; `before` is the word before them
abbrev pub has_sealed : List ℕ → List (List ℕ) → Bool
has_sealed before [] = false
has_sealed before (word ∷ words) = (pointwise nat_eq word (codes "sealed") && not (pointwise nat_eq before (codes "-"))) || has_sealed word words

-- whether the modifier is among the words of a list of modifiers
abbrev pub is_written : Modifier → List (List ℕ) → Bool
is_written m.Sealed words = has_sealed [] words
is_written modifier words = has (word_of modifier) words

-- whether it is written at the node itself
abbrev pub is_explicit_at : Tree → Node → Modifier → Bool
is_explicit_at t n modifier = option_map_or (λ list. is_written modifier (words_of t list)) (modifier_list t n) false

-- whether it is written at what has the node's modifiers
abbrev pub is_explicit : Tree → Node → Modifier → Bool
is_explicit t n modifier = option_map_or (λ bearer. is_explicit_at t bearer modifier) (bearer_of t n) false

-- The modifiers of a node, as words.
use Rattle.std.specs.Prelude.{ℕ, List, [], ◌∷◌, map, filter, codes, Option, Some, None, if◌then◌else◌}
use Rattle.pj_tree.specs.Tree.{Tree}
use Rattle.pj_tree.specs.Children.{has_child}
use Rattle.pj_tree.specs.declared.kind.Kind.TheVariants as k
use Rattle.pj_tree.specs.declared.node.Node.{Node}
use Rattle.pj_xvalue.specs.Items.{ItemValue, String}
use Rattle.pj_xvalue.specs.Modifiers.{has}
use Rattle.pj_xvalue.specs.declared.modifiers.Modifier.{Modifier}
use Rattle.pj_xvalue.specs.declared.modifiers.Modifier.TheVariants as m
use Rattle.pj_xvalue.specs.declared.modifiers.Modifiers.{Modifiers}

-- the word of a modifier (JLS 8.1.1, 8.3.1, 8.4.3, 9.4)
abbrev pub word_of : Modifier → List ℕ
word_of m.Abstract = codes "abstract"
word_of m.Default = codes "default"
word_of m.Final = codes "final"
word_of m.Native = codes "native"
word_of m.NonSealed = codes "non-sealed"
word_of m.Private = codes "private"
word_of m.Protected = codes "protected"
word_of m.Public = codes "public"
word_of m.Sealed = codes "sealed"
word_of m.Static = codes "static"
word_of m.Strictfp = codes "strictfp"
word_of m.Synchronized = codes "synchronized"
word_of m.Transient = codes "transient"
word_of m.Volatile = codes "volatile"

-- all modifiers, in the byte order of their words
abbrev pub all_modifiers : List Modifier
all_modifiers =
    m.Abstract ∷ m.Default ∷ m.Final ∷ m.Native ∷ m.NonSealed ∷ m.Private ∷ m.Protected ∷ m.Public ∷ m.Sealed ∷ m.Static ∷ m.Strictfp ∷ m.Synchronized ∷ m.Transient ∷ m.Volatile ∷ []

-- the words of those of some modifiers that are in a set
abbrev pub words_among : Modifiers → List Modifier → List ItemValue
words_among set modifiers = map (λ modifier. String (word_of modifier)) (filter (has set) modifiers)

-- the words of a set of modifiers, in byte order
abbrev pub words_of : Modifiers → List ItemValue
words_of set = words_among set all_modifiers

-- The words of the context node's modifiers, where it has a ModifierList; without one, and without a node, there are none.
abbrev pub modifiers_at : (Node → Modifiers) → Tree → Option Node → List ItemValue
modifiers_at modifiers_of tree None = []
modifiers_at modifiers_of tree (Some n) = if has_child tree n k.ModifierList then words_of (modifiers_of n) else []

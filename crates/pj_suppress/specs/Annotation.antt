-- Whether an annotation `SuppressWarnings` covers a node, for a rule.
use Rattle.std.specs.Prelude.{Bool, false, ◌&&◌, ◌||◌, List, [], ◌∷◌, Option, Some, codes, drop, is_none, nat_eq}
use Rattle.std.specs.List.{list_any, starts_with}
use Rattle.std.specs.Option.{option_map_or}
use Rattle.pj_tree.specs.Children.{first_child}
use Rattle.pj_tree.specs.Kinds.{is_kind}
use Rattle.pj_tree.specs.Words.{words_of}
use Rattle.pj_tree.specs.Tree.{Tree, ancestors_of, children_of}
use Rattle.pj_tree.specs.declared.kind.Kind.TheVariants as kind
use Rattle.pj_tree.specs.declared.node.Node.{Node}
use Rattle.pj_xvalue.specs.Items.{ItemValue, String}
use Rattle.pj_suppress.specs.Words.{Text, same_text, same_texts}

-- whether the value of an attribute is a string that passes a test
abbrev pub is_string : (Text → Bool) → Option ItemValue → Bool
is_string test (Some (String text)) = test text
is_string test _ = false

-- the strings that suppress a rule: `PMD`, `all`, and `PMD.` with the rule's name behind it
abbrev pub names_rule : Text → Text → Bool
names_rule rule value = same_text value (codes "PMD") || (same_text value (codes "all")
    || (starts_with nat_eq value (codes "PMD.") && same_text (drop 4 value) rule))

-- the name of an annotation, as the words of its type: what is qualified by a type has a type as its child, and is another
abbrev pub simple_name : List Text
simple_name = codes "SuppressWarnings" ∷ []

abbrev pub qualified_name : List Text
qualified_name = codes "java" ∷ codes "." ∷ codes "lang" ∷ codes "." ∷ codes "SuppressWarnings" ∷ []

-- the type of an annotation that is written `SuppressWarnings` or `java.lang.SuppressWarnings`
abbrev pub is_named : Tree → Node → Bool
is_named tree n = is_kind tree kind.ClassType n && (is_none (first_child tree n)
    && (same_texts (words_of tree n) simple_name || same_texts (words_of tree n) qualified_name))

module _ (tree : Tree) (value_of : Node → Text → Option ItemValue) (rule : Text) where
  -- a string literal that names the rule
  abbrev pub literal_names : Node → Bool
  literal_names n = is_kind tree kind.StringLiteral n && is_string (names_rule rule) (value_of n (codes "ConstValue"))

  -- a member's value: a literal, or an array with one among its elements
  abbrev pub value_names : Node → Bool
  value_names n = literal_names n || (is_kind tree kind.MemberValueArrayInitializer n && list_any literal_names (children_of tree n))

  -- the member `value`, short or written
  abbrev pub member_names : Node → Bool
  member_names n = is_kind tree kind.MemberValuePair n && (is_string (λ name. same_text name (codes "value")) (value_of n (codes "Name"))
      && list_any value_names (children_of tree n))

  abbrev pub members_name : Node → Bool
  members_name n = is_kind tree kind.AnnotationMemberList n && list_any member_names (children_of tree n)

  abbrev pub annotation_names : Node → Bool
  annotation_names n = is_kind tree kind.Annotation n && (list_any (is_named tree) (children_of tree n) && list_any members_name (children_of tree n))

  abbrev pub modifiers_name : Node → Bool
  modifiers_name n = is_kind tree kind.ModifierList n && list_any annotation_names (children_of tree n)

  -- a declaration by its modifiers, which stand before all else in it
  abbrev pub declaration_names : Node → Bool
  declaration_names n = option_map_or modifiers_name (first_child tree n) false

  -- the node or an ancestor of it
  abbrev pub by_annotation : Node → Bool
  by_annotation n = list_any declaration_names (n ∷ ancestors_of tree n)

-- Laws of the table of attributes, each by the rows of each kind.
use Rattle.std.proofs.Common.{ℕ, ℤ, ◌≡◌, ◌<◌, ◌^◌, ◌-◌, Bool, true, cond, ◌&&◌, IsTrue, List, [], ◌∷◌, length, map, Option, None, Some, refl, ap, sym, ◌∙◌, subst, arith, inl, inr, nat_eq}
use Rattle.std.proofs.Math.Dec.{ltb}
use Rattle.std.specs.Borrow.{Bor}
use Rattle.std.specs.List.{list_all}
use Rattle.std.specs.Option.{ForSome, IfSome, option_map, option_map_or, option_and_then}
use Rattle.std.specs.Cmp.Lexicographic.{pointwise}
use Rattle.std.proofs.lemmas.List.{length-map}
use Rattle.std.proofs.lemmas.Bool.{cases_Bool, and_parts, eqb-true, or_left, or_right, ltb-true}
use Rattle.pj_tree.specs.Tree.{kind_of}
use Rattle.pj_tree.specs.declared.kind.Kind.{Kind}
use Rattle.pj_tree.specs.declared.kind.Kind.TheVariants as k
use Rattle.pj_tree.specs.declared.node.Node.{Node}
use Rattle.pj_parse.specs.Parses.{FileParsed}
use Rattle.pj_properties.specs.Texts.{text_value}
use Rattle.pj_properties.specs.Numbers.{number_value}
use Rattle.pj_properties.specs.Flags.{flag_value}
use Rattle.pj_properties.specs.declared.property.Property.{Property}
use Rattle.pj_properties.specs.declared.property.Property.TheVariants.{Text, Number, Flag}
use Rattle.pj_xvalue.specs.declared.value.Value.{Value}
use Rattle.pj_xexpressions.specs.Among.{is_among}
use Rattle.pj_xvalue.specs.Attributes.{attribute_value, is_typed, are_different, boolean_attributes, integer_attributes, string_attributes}
use Rattle.pj_xvalue.specs.Items.{ItemValue, String, Integer, Boolean}
use Rattle.pj_base.specs.WordTable.{value_in}
use Rattle.pj_attrs.specs.Attribute.{value_of, property_named, names_in, attribute_names, value_named, attribute}
use Rattle.pj_attrs.specs.FileFacts.{FileFacts, attribute_in, names_at}
use Rattle.pj_attrs.specs.Table.{Row, attributes}

-- ---- texts that are the same

same_is : (v w : List ℕ) → pointwise nat_eq v w ≡ true → v ≡ w
same_is [] [] e = refl
same_is [] (d ∷ w) e = absurd (cc)
same_is (c ∷ v) [] e = absurd (cc)
same_is (c ∷ v) (d ∷ w) e =
    let parts = and_parts (nat_eq c d) (pointwise nat_eq v w) e in
    ap (λ x. x ∷ v) (eqb-true c d parts.0) ∙ ap (λ (x : List ℕ). d ∷ x) (same_is v w parts.1)

-- ---- types

-- the names that attributes of the type of a property have
abbrev names_of_type : Property → List (List ℕ)
names_of_type (Text p) = string_attributes
names_of_type (Number p) = integer_attributes
names_of_type (Flag p) = boolean_attributes

abbrev is_row_typed : Row → Bool
is_row_typed row = is_among row.0 (names_of_type row.1)

-- what holds of the rows of each kind: their names have the types of their properties, no name stands twice, and there are few
abbrev is_sound : List Row → Bool
is_sound rows = list_all is_row_typed rows && (are_different (names_in rows) && ltb (length (names_in rows)) 100)

-- by computing it for each kind
sound : (kind : Kind) → is_sound (attributes kind) ≡ true
unfolding attributes boolean_attributes integer_attributes string_attributes
sound k.CompilationUnit = refl
sound k.PackageDeclaration = refl
sound k.ImportDeclaration = refl
sound k.EmptyDeclaration = refl
sound k.ModifierList = refl
sound k.Annotation = refl
sound k.ClassType = refl
sound k.AnnotationMemberList = refl
sound k.MemberValuePair = refl
sound k.MemberValueArrayInitializer = refl
sound k.ClassDeclaration = refl
sound k.EnumDeclaration = refl
sound k.RecordDeclaration = refl
sound k.AnnotationTypeDeclaration = refl
sound k.ExtendsList = refl
sound k.ImplementsList = refl
sound k.PermitsList = refl
sound k.ThrowsList = refl
sound k.TypeParameters = refl
sound k.TypeParameter = refl
sound k.IntersectionType = refl
sound k.ClassBody = refl
sound k.AnnotationTypeBody = refl
sound k.RecordBody = refl
sound k.EnumBody = refl
sound k.EnumConstant = refl
sound k.AnonymousClassDeclaration = refl
sound k.RecordComponentList = refl
sound k.RecordComponent = refl
sound k.CompactConstructorDeclaration = refl
sound k.Initializer = refl
sound k.ConstructorDeclaration = refl
sound k.Block = refl
sound k.ExplicitConstructorInvocation = refl
sound k.MethodDeclaration = refl
sound k.DefaultValue = refl
sound k.FieldDeclaration = refl
sound k.VariableDeclarator = refl
sound k.ArrayInitializer = refl
sound k.VariableId = refl
sound k.ArrayDimensions = refl
sound k.ArrayTypeDim = refl
sound k.FormalParameters = refl
sound k.ReceiverParameter = refl
sound k.FormalParameter = refl
sound k.ArrayType = refl
sound k.PrimitiveType = refl
sound k.VoidType = refl
sound k.TypeArguments = refl
sound k.WildcardType = refl
sound k.LocalClassStatement = refl
sound k.LocalVariableDeclaration = refl
sound k.LabeledStatement = refl
sound k.IfStatement = refl
sound k.WhileStatement = refl
sound k.DoStatement = refl
sound k.ForeachStatement = refl
sound k.ForStatement = refl
sound k.ForInit = refl
sound k.ForUpdate = refl
sound k.StatementExpressionList = refl
sound k.TryStatement = refl
sound k.ResourceList = refl
sound k.Resource = refl
sound k.CatchClause = refl
sound k.CatchParameter = refl
sound k.UnionType = refl
sound k.FinallyClause = refl
sound k.SwitchStatement = refl
sound k.SwitchExpression = refl
sound k.SwitchArrowBranch = refl
sound k.SwitchFallthroughBranch = refl
sound k.SwitchLabel = refl
sound k.SynchronizedStatement = refl
sound k.ReturnStatement = refl
sound k.ThrowStatement = refl
sound k.BreakStatement = refl
sound k.ContinueStatement = refl
sound k.AssertStatement = refl
sound k.YieldStatement = refl
sound k.EmptyStatement = refl
sound k.ExpressionStatement = refl
sound k.LambdaExpression = refl
sound k.LambdaParameterList = refl
sound k.LambdaParameter = refl
sound k.AssignmentExpression = refl
sound k.ConditionalExpression = refl
sound k.InfixExpression = refl
sound k.PatternExpression = refl
sound k.TypePattern = refl
sound k.TypeExpression = refl
sound k.UnaryExpression = refl
sound k.CastExpression = refl
sound k.MethodCall = refl
sound k.FieldAccess = refl
sound k.ConstructorCall = refl
sound k.ArrayAccess = refl
sound k.MethodReference = refl
sound k.NumericLiteral = refl
sound k.StringLiteral = refl
sound k.CharLiteral = refl
sound k.BooleanLiteral = refl
sound k.NullLiteral = refl
sound k.ClassLiteral = refl
sound k.ThisExpression = refl
sound k.SuperExpression = refl
sound k.ArrayAllocation = refl
sound k.ArrayDimExpr = refl
sound k.VariableAccess = refl
sound k.ArgumentList = refl

-- ---- look-ups

typed_row : (name : List ℕ) (rows : List Row) (p : Property) → list_all is_row_typed rows ≡ true → value_in rows name ≡ Some p → is_among name (names_of_type p) ≡ true
typed_row name [] p all found = absurd (cc)
typed_row name (row ∷ rows) p all found =
    let parts = and_parts (is_row_typed row) (list_all is_row_typed rows) all in
    elim (cases_Bool (pointwise nat_eq row.0 name)) [
      | inl same ↦ (let is : row.0 ≡ name = same_is row.0 name same in
          let first : Some row.1 ≡ Some p = sym (ap (λ b. cond b (Some row.1) (value_in rows name)) same) ∙ found in
          let one : row.1 ≡ p = some_is row.1 p first in
          subst (λ (q : Property). is_among name (names_of_type q) ≡ true) one (subst (λ (n : List ℕ). is_among n (names_of_type row.1) ≡ true) is parts.0))
      | inr other ↦ typed_row name rows p parts.1 (sym (ap (λ b. cond b (Some row.1) (value_in rows name)) other) ∙ found)
    ]
  where
    some_is : (x y : Property) → Some x ≡ Some y → x ≡ y
    some_is x y e = cc

-- what has a property is among the names
named_row : (name : List ℕ) (rows : List Row) (p : Property) → value_in rows name ≡ Some p → is_among name (names_in rows) ≡ true
named_row name [] p found = absurd (cc)
named_row name (row ∷ rows) p found = elim (cases_Bool (pointwise nat_eq row.0 name)) [
  | inl same ↦ or_left (pointwise nat_eq row.0 name) (is_among name (names_in rows)) same
  | inr other ↦ or_right (pointwise nat_eq row.0 name) (is_among name (names_in rows))
      (named_row name rows p (sym (ap (λ b. cond b (Some row.1) (value_in rows name)) other) ∙ found))
]

-- ---- values

some_item : (x y : ItemValue) → Some x ≡ Some y → x ≡ y
some_item x y e = cc

-- by the type of the property; the value is that of an item of this type
typed_text : (name : List ℕ) (o : Option (List ℕ)) (value : ItemValue) → is_among name string_attributes ≡ true → option_map String o ≡ Some value → is_typed name value ≡ true
typed_text name None value e is = absurd (cc)
typed_text name (Some text) value e is =
    let one : String text ≡ value = some_item (String text) value is in
    subst (λ (v : ItemValue). is_typed name v ≡ true) one e

typed_number : (name : List ℕ) (o : Option ℤ) (value : ItemValue) → is_among name integer_attributes ≡ true → option_map Integer o ≡ Some value → is_typed name value ≡ true
typed_number name None value e is = absurd (cc)
typed_number name (Some z) value e is =
    let one : Integer z ≡ value = some_item (Integer z) value is in
    subst (λ (v : ItemValue). is_typed name v ≡ true) one e

value_typed : (name : List ℕ) (p : Property) (f : FileParsed) (n : Node) (value : ItemValue) → is_among name (names_of_type p) ≡ true → value_of p f n ≡ Some value → is_typed name value ≡ true
unfolding value_of
value_typed name (Text p) f n value e is = typed_text name (text_value p f.tree n) value e is
value_typed name (Number p) f n value e is = typed_number name (number_value p f n) value e is
value_typed name (Flag p) f n value e is =
    let one : Boolean (flag_value p f n) ≡ value = some_item (Boolean (flag_value p f n)) value is in
    subst (λ (v : ItemValue). is_typed name v ≡ true) one e

-- what has a value has a property
property_of_value : (kind : Kind) (f : FileParsed) (n : Node) (name : List ℕ) (value : ItemValue) (o : Option Property) → property_named kind name ≡ o
    → option_and_then (λ property. value_of property f n) o ≡ Some value → (p : Property) × (property_named kind name ≡ Some p) × (value_of p f n ≡ Some value)
property_of_value kind f n name value None same is = absurd (cc)
property_of_value kind f n name value (Some p) same is = (p, same, is)

kind_typed : (kind : Kind) (f : FileParsed) (n : Node) (name : List ℕ) (value : ItemValue) → value_named kind f n name ≡ Some value → is_typed name value ≡ true
kind_typed kind f n name value is =
    let found = property_of_value kind f n name value (property_named kind name) refl is in
    value_typed name found.0 f n value (typed_row name (attributes kind) found.0 ((and_parts (list_all is_row_typed (attributes kind)) _ (sound kind)).0) found.1) found.2

-- the same of the kind of the node, if there is a node
pub attribute_typed_at : (f : FileParsed) (n : Node) (name : List ℕ) (value : ItemValue) → attribute f n name ≡ Some value → is_typed name value ≡ true
attribute_typed_at f n name value is = by_kind (kind_of f.tree n) is
  where
    by_kind : (o : Option Kind) → option_and_then (λ kind. value_named kind f n name) o ≡ Some value → is_typed name value ≡ true
    by_kind None e = absurd (cc)
    by_kind (Some kind) e = kind_typed kind f n name value e

-- ---- the laws of the trait

pub attribute_typed : (facts : FileFacts) (n : Node) (name : List ℕ) → n.0 < length facts.file.tree.nodes → ForSome (attribute_in facts n name) (λ value. IsTrue (is_typed name value))
attribute_typed facts n name inside value is = attribute_typed_at facts.file n name value is

pub few_names : (kind : Kind) → length (attribute_names kind) < 2 ^ 32 - 1
few_names kind =
    let parts = and_parts (list_all is_row_typed (attributes kind)) _ (sound kind) in
    let few = and_parts (are_different (names_in (attributes kind))) _ parts.1 in
    omega (arith, ltb-true (length (names_in (attributes kind))) 100 few.1)

pub different_names : (kind : Kind) → are_different (attribute_names kind) ≡ true
different_names kind =
    let parts = and_parts (list_all is_row_typed (attributes kind)) _ (sound kind) in
    (and_parts (are_different (names_in (attributes kind))) _ parts.1).0

pub names_are_few : (facts : FileFacts) (n : Node) → n.0 < length facts.file.tree.nodes → length (names_at facts n) < 2 ^ 32 - 1
names_are_few facts n inside = by_kind (kind_of facts.file.tree n)
  where
    by_kind : (o : Option Kind) → length (option_map_or attribute_names o []) < 2 ^ 32 - 1
    by_kind None = omega arith
    by_kind (Some kind) = few_names kind

pub names_are_different : (facts : FileFacts) (n : Node) → n.0 < length facts.file.tree.nodes → IsTrue (are_different (names_at facts n))
names_are_different facts n inside = by_kind (kind_of facts.file.tree n)
  where
    by_kind : (o : Option Kind) → are_different (option_map_or attribute_names o []) ≡ true
    by_kind None = refl
    by_kind (Some kind) = different_names kind

pub names_are_all : (facts : FileFacts) (n : Node) (name : List ℕ) → n.0 < length facts.file.tree.nodes → ForSome (attribute_in facts n name) (λ value. IsTrue (is_among name (names_at facts n)))
names_are_all facts n name inside value is = by_kind (kind_of facts.file.tree n) is
  where
    by_kind : (o : Option Kind) → option_and_then (λ kind. value_named kind facts.file n name) o ≡ Some value → is_among name (option_map_or attribute_names o []) ≡ true
    by_kind None e = absurd (cc)
    by_kind (Some kind) e =
        let found = property_of_value kind facts.file n name value (property_named kind name) refl e in
        named_row name (attributes kind) found.0 found.1

-- ---- of the names and values of the program

pub few_of : (names : List (Bor (List ℕ))) (kind : Kind) → map (λ name. name.now) names ≡ attribute_names kind → length names < 2 ^ 32 - 1
few_of names kind e =
    let same : length names ≡ length (attribute_names kind) = sym (length-map names (λ (name : Bor (List ℕ)). name.now)) ∙ ap length e in
    omega (arith, same, few_names kind)

pub different_of : (names : List (Bor (List ℕ))) (kind : Kind) → map (λ name. name.now) names ≡ attribute_names kind → are_different (map (λ (name : Bor (List ℕ)). name.now) names) ≡ true
different_of names kind e = ap are_different e ∙ different_names kind

pub typed_of : (r : Option Value) (f : FileParsed) (n : Node) (name : List ℕ) → option_map attribute_value r ≡ attribute f n name → IfSome r (λ value. IsTrue (is_typed name (attribute_value value)))
typed_of None f n name e = tt
typed_of (Some v) f n name e = attribute_typed_at f n name (attribute_value v) (sym e)

-- The small tree's attributes are attributes.
use Rattle.std.proofs.Common.{◌≡◌, ◌<◌, ◌-◌, ◌^◌, ◌==◌, ℕ, pos, Bool, true, false, List, Option, None, Some, codes, length, nat_eq, refl, subst, sym, inl, inr, lit<}
use Rattle.std.specs.Prelude.{IsTrue, option_map, if◌then◌else◌}
use Rattle.std.specs.Option.{ForSome, IfSome}
use Rattle.std.specs.Cmp.Lexicographic.{pointwise}
use Rattle.std.proofs.lemmas.Bool.{cases_Bool}
use Rattle.std.proofs.lemmas.Slice.Eq.{bytes_eq-Decides}
use Rattle.pj_tree.specs.declared.node.Node.{Node}
use Rattle.pj_xvalue.specs.declared.value.Value.{Value}
use Rattle.pj_xexpressions.specs.Among.{is_among}
use Rattle.pj_xvalue.specs.Attributes.{attribute_value, are_different, is_typed, boolean_attributes, integer_attributes, string_attributes}
use Rattle.pj_xvalue.specs.Items.{ItemValue, String, Integer, Boolean}
use Rattle.rows_evaluation.specs.Table.{named, sized, final, value_in, table_names}

one : (P : ItemValue → Type 0) (x : ItemValue) → P x → ForSome (Some x) P
one P x h = λ y e. let same : x ≡ y = cc e in subst P same h

none : (P : ItemValue → Type 0) → ForSome None P
none P = λ y e. absurd (cc e)

-- what holds of a value, where a test is true, and of what there is, where it is not
either : (P : ItemValue → Type 0) (b : Bool) (x : ItemValue) (rest : Option ItemValue) → P x → ForSome rest P → ForSome (if b then Some x else rest) P
either P true x rest h k = one P x h
either P false x rest h k = k

each_named : (P : ItemValue → Type 0) → ((text : List ℕ) → P (String text)) → (n : Node) → ForSome (named n) P
each_named P each n =
    either P (n.0 == 2) (String (codes "x")) _ (each (codes "x")) (either P (n.0 == 4) (String (codes "y")) _ (each (codes "y"))
    (either P (n.0 == 7) (String (codes "x")) _ (each (codes "x")) (either P (n.0 == 8) (String (codes "z")) None (each (codes "z")) (none P))))

each_sized : (P : ItemValue → Type 0) → ((number : ℕ) → P (Integer (pos number))) → (n : Node) → ForSome (sized n) P
each_sized P each n =
    either P (n.0 == 3) (Integer (pos 3)) _ (each 3) (either P (n.0 == 6) (Integer (pos 6)) _ (each 6) (either P (n.0 == 9) (Integer (pos 9)) _ (each 9) (either P (n.0 == 11) (Integer (pos 11)) None (each 11) (none P))))

each_final : (P : ItemValue → Type 0) → ((b : Bool) → P (Boolean b)) → (n : Node) → ForSome (final n) P
each_final P each n = either P (n.0 == 1) (Boolean false) _ (each false) (either P (n.0 == 5) (Boolean true) None (each true) (none P))

pub name_typed : IsTrue (is_among (codes "Name") string_attributes)
unfolding string_attributes
name_typed = refl

pub size_typed : IsTrue (is_among (codes "Size") integer_attributes)
unfolding integer_attributes
size_typed = refl

pub final_typed : IsTrue (is_among (codes "Final") boolean_attributes)
unfolding boolean_attributes
final_typed = refl

-- a fact of each name holds of what it has
each_name : (P : List ℕ → ItemValue → Type 0) → ((text : List ℕ) → P (codes "Name") (String text)) → ((number : ℕ) → P (codes "Size") (Integer (pos number))) → ((b : Bool) → P (codes "Final") (Boolean b))
    → (n : Node) (name : List ℕ) → ForSome (value_in n name) (P name)
each_name P first second third n name = elim (cases_Bool (pointwise nat_eq name (codes "Name"))) [
  | inl same ↦ rw same (subst (λ (t : List ℕ). ForSome (named n) (P t)) (sym ((bytes_eq-Decides name (codes "Name")).0 same)) (each_named (P (codes "Name")) first n))
  | inr other ↦ elim (cases_Bool (pointwise nat_eq name (codes "Size"))) [
    | inl same ↦ rw (other, same) (subst (λ (t : List ℕ). ForSome (sized n) (P t)) (sym ((bytes_eq-Decides name (codes "Size")).0 same)) (each_sized (P (codes "Size")) second n))
    | inr another ↦ elim (cases_Bool (pointwise nat_eq name (codes "Final"))) [
      | inl same ↦ rw (other, another, same) (subst (λ (t : List ℕ). ForSome (final n) (P t)) (sym ((bytes_eq-Decides name (codes "Final")).0 same)) (each_final (P (codes "Final")) third n))
      | inr nothing ↦ rw (other, another, nothing) (λ x e. absurd (cc e))
    ]
  ]
]

pub kind : (n : Node) (name : List ℕ) → ForSome (value_in n name) (λ value. IsTrue (is_typed name value))
kind n name = each_name (λ (t : List ℕ) (v : ItemValue). IsTrue (is_typed t v)) (λ text. name_typed) (λ number. size_typed) (λ b. final_typed) n name

pub complete : (n : Node) (name : List ℕ) → ForSome (value_in n name) (λ value. IsTrue (is_among name table_names))
complete n name = each_name (λ (t : List ℕ) (v : ItemValue). IsTrue (is_among t table_names)) (λ text. refl) (λ number. refl) (λ b. refl) n name

pub few : length table_names < 2 ^ 32 - 1
few = lit< tt

pub differ : IsTrue (are_different table_names)
differ = refl

-- what is given is of the type that its name has
given_typed : (name : List ℕ) (found : Option ItemValue) (given : Option Value) → ForSome found (λ value. IsTrue (is_typed name value)) → option_map attribute_value given ≡ found
    → IfSome given (λ value. IsTrue (is_typed name (attribute_value value)))
given_typed name found None h e = tt
given_typed name found (Some value) h e = h (attribute_value value) (sym e)

typed_by : (name wanted : List ℕ) (found : Option ItemValue) (given : Option Value) → name ≡ wanted → ForSome found (λ value. IsTrue (is_typed wanted value)) → option_map attribute_value given ≡ found
    → IfSome given (λ value. IsTrue (is_typed name (attribute_value value)))
typed_by name wanted found given same h e = subst (λ (t : List ℕ). IfSome given (λ value. IsTrue (is_typed t (attribute_value value)))) (sym same) (given_typed wanted found given h e)

pub named_typed : (name : List ℕ) (n : Node) (given : Option Value) → name ≡ codes "Name" → option_map attribute_value given ≡ named n → IfSome given (λ value. IsTrue (is_typed name (attribute_value value)))
named_typed name n given same = typed_by name (codes "Name") (named n) given same (each_named (λ (v : ItemValue). IsTrue (is_typed (codes "Name") v)) (λ text. name_typed) n)

pub sized_typed : (name : List ℕ) (n : Node) (given : Option Value) → name ≡ codes "Size" → option_map attribute_value given ≡ sized n → IfSome given (λ value. IsTrue (is_typed name (attribute_value value)))
sized_typed name n given same = typed_by name (codes "Size") (sized n) given same (each_sized (λ (v : ItemValue). IsTrue (is_typed (codes "Size") v)) (λ number. size_typed) n)

pub last_typed : (name : List ℕ) (n : Node) (given : Option Value) → name ≡ codes "Final" → option_map attribute_value given ≡ final n → IfSome given (λ value. IsTrue (is_typed name (attribute_value value)))
last_typed name n given same = typed_by name (codes "Final") (final n) given same (each_final (λ (v : ItemValue). IsTrue (is_typed (codes "Final") v)) (λ b. final_typed) n)

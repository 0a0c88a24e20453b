-- The variables of a rule are atomic values, so they are of every tree.
use Rattle.std.proofs.Common.{◌≡◌, ◌++◌, ℕ, ℤ, Bool, true, false, List, [], ◌∷◌, Option, None, Some, cond, map, refl}
use Rattle.std.specs.List.{AllByRecursion, flat_map}
use Rattle.std.specs.Option.{option_map}
use Rattle.std.specs.Str.{chars}
use Rattle.std.proofs.lemmas.List.Elements.{All-from_recursion}
use Rattle.pj_rule_texts.specs.Values.{Text, boolean_of, integer_of, integers_of, is_one, members_of, needs_no_type, of_some_type, one, type_named, typed_value, value_of_type, variable_of, with_integer}
use Rattle.pj_rule_texts.specs.declared.properties.Property.{Property}
use Rattle.pj_rule_texts.specs.declared.types.PropertyType.{PropertyType}
use Rattle.pj_rule_texts.specs.declared.types.PropertyType.TheVariants as type
use Rattle.pj_xvalue.specs.Items.{ItemValue, AreOfTree, Boolean, Integer, IsOfTree, String}
use Rattle.pj_xvalue.specs.OfTree.{VariablesOfTree}

module _ (n : ℕ) where
  abbrev SomeOfTree : Option (List ItemValue) → Type 0
  SomeOfTree None = Unit {0}
  SomeOfTree (Some items) = AllByRecursion (IsOfTree n) items

  mapped : {A : Type 0} (item : A → ItemValue) (o : Option A) → ((a : A) → IsOfTree n (item a)) → SomeOfTree (option_map (λ a. one (item a)) o)
  mapped item None h = tt
  mapped item (Some a) h = (h a, tt)

  strings : (texts : List Text) → AllByRecursion (IsOfTree n) (map String texts)
  strings [] = tt
  strings (text ∷ texts) = (tt, strings texts)

  with_one : (z : Option ℤ) (o : Option (List ItemValue)) → SomeOfTree o → SomeOfTree (with_integer z o)
  with_one None o h = tt
  with_one (Some z) None h = tt
  with_one (Some z) (Some items) h = (tt, h)

  integers : (members : List Text) → SomeOfTree (integers_of members)
  integers [] = tt
  integers (member ∷ members) = with_one (integer_of 31 member) (integers_of members) (integers members)

  character : (text : Text) (b : Bool) → SomeOfTree (cond b (Some (one (String text))) None)
  character text true = (tt, tt)
  character text false = tt

  of_type : (kind : PropertyType) (text : Text) → SomeOfTree (value_of_type kind text)
  of_type type.String text = (tt, tt)
  of_type type.Boolean text = mapped Boolean (boolean_of text) (λ b. tt)
  of_type type.Integer text = mapped Integer (integer_of 31 text) (λ z. tt)
  of_type type.Long text = mapped Integer (integer_of 63 text) (λ z. tt)
  of_type type.Character text = character text (is_one (chars text))
  of_type type.Regex text = (tt, tt)
  of_type type.StringList text = strings (members_of text)
  of_type type.IntegerList text = integers (members_of text)

  of_some : (kind : Option PropertyType) (text : Text) → SomeOfTree (of_some_type kind text)
  of_some None text = tt
  of_some (Some kind) text = of_type kind text

  abbrev AreGood : List (Text × List ItemValue) → Type 0
  AreGood variables = AllByRecursion (λ (variable : Text × List ItemValue). AreOfTree n variable.1) variables

  with_property : (p : Property) → AreGood (variable_of p)
  with_property p = by_test (needs_no_type p.name) refl
    where
      by_value : needs_no_type p.name ≡ false → (o : Option (List ItemValue)) → typed_value p.kind p.value ≡ o → SomeOfTree o → AreGood (variable_of p)
      by_value none None is h = rw (none, is) tt
      by_value none (Some items) is h = rw (none, is) (All-from_recursion (IsOfTree n) items h, tt)

      by_test : (b : Bool) → needs_no_type p.name ≡ b → AreGood (variable_of p)
      by_test true is = rw is tt
      by_test false is = by_value is (typed_value p.kind p.value) refl (of_some (type_named p.kind) p.value)

  together : (xs ys : List (Text × List ItemValue)) → AreGood xs → AreGood ys → AreGood (xs ++ ys)
  together [] ys h k = k
  together (x ∷ xs) ys h k = (h.0, together xs ys h.1 k)

  all_good : (properties : List Property) → AreGood (flat_map variable_of properties)
  all_good [] = tt
  all_good (p ∷ ps) = together (variable_of p) (flat_map variable_of ps) (with_property p) (all_good ps)

  pub variables_of_tree : (properties : List Property) → VariablesOfTree n (flat_map variable_of properties)
  variables_of_tree properties = record { each = All-from_recursion (λ (variable : Text × List ItemValue). AreOfTree n variable.1) (flat_map variable_of properties) (all_good properties) }

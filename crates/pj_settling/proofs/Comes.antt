-- Meanings by two numbers that come to a value over a world, where both numbers are great enough: one says how many items are visited, and one how deep.
use Rattle.std.proofs.Common.{◌≡◌, ◌≤◌, ◌+◌, ◌∙◌, ◌++◌, ℕ, zero, suc, List, [], ap, arith, refl, sym}
use Rattle.pj_names.specs.Asking.{Asking, Return, Unbounded, bind, names_of, value_of}
use Rattle.pj_names.specs.ClassName.{Name, NameSet, name_set}
use Rattle.pj_names.specs.Meaning.{Gives, outcome_of, over, whole}
use Rattle.pj_names.proofs.MeaningLaws.{names_of-bind, over-whole, value_of-bind}
use Rattle.pj_names.proofs.NameLists.{name_set-append}
use Rattle.pj_settling.specs.Settling.{Settles, World}

-- From some number on they have this value, and ask just these names, however deep recursions go.
pub record Comes {A : Type 0} (world : World) (family : ℕ → ℕ → Asking A) (value : A) : Type 0 where
  pub names : List Name
  pub least : ℕ
  pub is : (depth most deep : ℕ) → least ≤ depth → least ≤ most → least ≤ deep
      → (value_of depth world (family most deep) ≡ value) × (name_set (names_of depth world (family most deep)) ≡ name_set names)

-- a meaning, whatever the numbers are
abbrev pub always : {A : Type 0} → Asking A → ℕ → ℕ → Asking A
always meaning most deep = meaning

module _ (world : World) where
  pub comes_return : {A : Type 0} (value : A) → Comes world (always (Return value)) value
  comes_return value = record { names = []; least = 0; is = λ depth most deep a b c. (refl, refl) }

  -- one after the other: the second is looked at where the first has its value
  pub comes_bind : {A B : Type 0} (first : ℕ → ℕ → Asking A) (next : ℕ → ℕ → A → Asking B) (value : A) (last : B) → Comes world first value → Comes world (λ most deep. next most deep value) last
      → Comes world (λ most deep. bind (first most deep) (next most deep)) last
  comes_bind first next value last one two = record {
    names = one.names ++ two.names;
    least = one.least + two.least;
    is = λ depth most deep a b c. at depth most deep (one.is depth most deep (omega (arith, a)) (omega (arith, b)) (omega (arith, c))) (two.is depth most deep (omega (arith, a)) (omega (arith, b)) (omega (arith, c)));
  }
    where
      at : (depth most deep : ℕ) → (value_of depth world (first most deep) ≡ value) × (name_set (names_of depth world (first most deep)) ≡ name_set one.names)
          → (value_of depth world (next most deep value) ≡ last) × (name_set (names_of depth world (next most deep value)) ≡ name_set two.names)
          → (value_of depth world (bind (first most deep) (next most deep)) ≡ last) × (name_set (names_of depth world (bind (first most deep) (next most deep))) ≡ name_set (one.names ++ two.names))
      at depth most deep x y = (
        value_of-bind depth world (first most deep) (next most deep) ∙ ap (λ v. value_of depth world (next most deep v)) x.0 ∙ y.0,
        ap (λ l. name_set l) (names_of-bind depth world (first most deep) (next most deep) ∙ ap (λ v. names_of depth world (first most deep) ++ names_of depth world (next most deep v)) x.0)
            ∙ name_set-append (names_of depth world (first most deep)) (names_of depth world (next most deep value)) one.names two.names x.1 y.1,
      )

  -- one that is another one a step less deep, where the first number is great enough
  pub comes_deeper : {A : Type 0} (family less : ℕ → ℕ → Asking A) (value : A) (enough : ℕ) → ((most deep : ℕ) → enough ≤ most → family most (suc deep) ≡ less most deep) → Comes world less value → Comes world family value
  comes_deeper family less value enough same comes = record { names = comes.names; least = suc (enough + comes.least); is = at }
    where
      at : (depth most deep : ℕ) → suc (enough + comes.least) ≤ depth → suc (enough + comes.least) ≤ most → suc (enough + comes.least) ≤ deep
          → (value_of depth world (family most deep) ≡ value) × (name_set (names_of depth world (family most deep)) ≡ name_set comes.names)
      at depth most zero a b c = absurd (omega (arith, c))
      at depth most (suc deep) a b c =
          let e = same most deep (omega (arith, b)) in
          let is = comes.is depth most deep (omega (arith, a)) (omega (arith, b)) (omega (arith, c)) in
          (ap (λ m. value_of depth world m) e ∙ is.0, ap (λ m. name_set (names_of depth world m)) e ∙ is.1)

  -- ---- to and from what a meaning comes to

  outcome_is : {A : Type 0} (m : Asking A) (depth : ℕ) → outcome_of (over depth (whole world) m) ≡ Gives (value_of depth world m) (name_set (names_of depth world m))
  outcome_is m depth = ap (λ r. outcome_of r) (over-whole depth world m)

  same_value : {A : Type 0} (v w : A) (s t : NameSet) → Gives v s ≡ Gives w t → v ≡ w
  same_value v w s t is = cc

  same_names : {A : Type 0} (v w : A) (s t : NameSet) → Gives v s ≡ Gives w t → s ≡ t
  same_names v w s t is = cc

  pub comes_settled : {A : Type 0} (m : Asking A) (settled : Settles world m) → Comes world (always m) settled.value
  comes_settled m settled = record {
    names = names_of settled.means.least world m;
    least = settled.means.least;
    is = λ depth most deep a b c. at depth (sym (outcome_is m depth) ∙ settled.means.is depth a) (sym (outcome_is m settled.means.least) ∙ settled.means.is settled.means.least (omega arith));
  }
    where
      at : (depth : ℕ) → Gives (value_of depth world m) (name_set (names_of depth world m)) ≡ Gives settled.value settled.names
          → Gives (value_of settled.means.least world m) (name_set (names_of settled.means.least world m)) ≡ Gives settled.value settled.names
          → (value_of depth world m ≡ settled.value) × (name_set (names_of depth world m) ≡ name_set (names_of settled.means.least world m))
      at depth here there = (same_value _ _ _ _ here, same_names _ _ _ _ here ∙ sym (same_names _ _ _ _ there))

  pub settled_comes : {A : Type 0} (m : Asking A) (value : A) → Comes world (always m) value → Settles world m
  settled_comes {A = A} m value comes = record {
    value = value;
    names = name_set comes.names;
    means = record { least = comes.least; is = λ depth far. outcome_is m depth ∙ gives (value_of depth world m) (names_of depth world m) (comes.is depth comes.least comes.least far (omega arith) (omega arith)) };
  }
    where
      gives : (v : A) (l : List Name) → (v ≡ value) × (name_set l ≡ name_set comes.names) → Gives v (name_set l) ≡ Gives value (name_set comes.names)
      gives v l h = λ i. Gives (h.0 i) (h.1 i)

  -- a recursion that nothing bounds
  pub unbounded_comes : {A : Type 0} (family : ℕ → ℕ → Asking A) (value : A) → Comes world family value → Comes world (always (Unbounded (λ most. family most most))) value
  unbounded_comes family value comes = record { names = comes.names; least = comes.least; is = λ depth most deep a b c. comes.is depth depth depth a a a }

  -- what a meaning comes to is one value
  pub one_value : {A : Type 0} (m : Asking A) (settled : Settles world m) (value : A) → Comes world (always m) value → settled.value ≡ value
  one_value m settled value comes =
      let far = settled.means.least + comes.least in
      let here = sym (outcome_is m far) ∙ settled.means.is far (omega arith) in
      sym (same_value _ _ _ _ here) ∙ (comes.is far far far (omega arith) (omega arith) (omega arith)).0

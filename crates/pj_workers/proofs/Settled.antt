-- Meanings that come to something over a world: values do, and sequences of such meanings.
use Rattle.std.proofs.Common.{◌≡◌, ◌≤◌, ◌+◌, ◌∙◌, ◌++◌, ℕ, List, [], ap, arith, refl, sym}
use Rattle.pj_names.specs.Asking.{Asking, Return, bind, names_of, value_of}
use Rattle.pj_names.specs.ClassName.{Name, NameSet, name_set}
use Rattle.pj_names.specs.Meaning.{Gives, Means, outcome_of, over, whole}
use Rattle.pj_names.proofs.MeaningLaws.{names_of-bind, over-whole, value_of-bind}
use Rattle.pj_names.proofs.NameLists.{name_set-append}
use Rattle.pj_workers.specs.Cold.{Settles, World}

module _ (world : World) where
  -- At each depth from this one on it has this value, and asks just these names.
  abbrev IsSteady : {A : Type 0} → Asking A → A → List Name → ℕ → Type 0
  IsSteady m value names least = (depth : ℕ) → least ≤ depth → (value_of depth world m ≡ value) × (name_set (names_of depth world m) ≡ name_set names)

  same_value : {A : Type 0} (v w : A) (s t : NameSet) → Gives v s ≡ Gives w t → v ≡ w
  same_value v w s t is = cc

  same_names : {A : Type 0} (v w : A) (s t : NameSet) → Gives v s ≡ Gives w t → s ≡ t
  same_names v w s t is = cc

  outcome_is : {A : Type 0} (m : Asking A) (depth : ℕ) → outcome_of (over depth (whole world) m) ≡ Gives (value_of depth world m) (name_set (names_of depth world m))
  outcome_is m depth = ap (λ r. outcome_of r) (over-whole depth world m)

  steady : {A : Type 0} (m : Asking A) (value : A) (names : NameSet) (means : Means (whole world) m (Gives value names)) → IsSteady m (value_of means.least world m) (names_of means.least world m) means.least
  steady m value names means depth far =
      let first = sym (outcome_is m means.least) ∙ means.is means.least (omega arith) in
      let later = sym (outcome_is m depth) ∙ means.is depth far in
      let same = later ∙ sym first in
      (same_value _ _ _ _ same, same_names _ _ _ _ same)

  settles_by : {A : Type 0} (m : Asking A) (value : A) (names : List Name) (least : ℕ) → IsSteady m value names least → Settles world m
  settles_by m value names least is = (value, name_set names, record { least = least; is = λ depth far. outcome_is m depth ∙ (λ i. Gives ((is depth far).0 i) ((is depth far).1 i)) })

  pub settled_return : {A : Type 0} (value : A) → Settles world (Return value)
  settled_return value = (value, name_set [], record { least = 0; is = λ depth far. refl })

  pub settled_bind : {A B : Type 0} (m : Asking A) (k : A → Asking B) → Settles world m → ((value : A) → Settles world (k value)) → Settles world (bind m k)
  settled_bind m k first next =
      let l = first.2.least in
      let v = value_of l world m in
      let n = (next v).2.least in
      let w = value_of n world (k v) in
      let one = steady m first.0 first.1 first.2 in
      let two = steady (k v) (next v).0 (next v).1 (next v).2 in
      settles_by (bind m k) w (names_of l world m ++ names_of n world (k v)) (l + n) (λ depth far.
      let near : l ≤ depth = omega (arith, far) in
      let close : n ≤ depth = omega (arith, far) in (
        value_of-bind depth world m k ∙ ap (λ x. value_of depth world (k x)) (one depth near).0 ∙ (two depth close).0,
        ap (λ l. name_set l) (names_of-bind depth world m k ∙ ap (λ x. names_of depth world m ++ names_of depth world (k x)) (one depth near).0)
            ∙ name_set-append (names_of depth world m) (names_of depth world (k v)) (names_of l world m) (names_of n world (k v)) (one depth near).1 (two depth close).1,
      ))

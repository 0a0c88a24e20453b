-- That what is held of types is right has one proof at most, since types, and sets of names, are equal in one way at most.
use Rattle.std.specs.Prelude.{◌≡◌, IsTrue, List}
use Rattle.std.proofs.Common.{ap, subst}
use Rattle.std.proofs.Props.{props}
use Rattle.std.specs.Coded.{coded_list, coded_ℕ}
use Rattle.std.specs.FinSet as set
use base.Stored.{Coded-set}
use mathlib.Core.HLevel.{collapsible→set}
use Rattle.pj_tree.specs.Tree.{Tree}
use Rattle.pj_names.specs.Asking.{Asking}
use Rattle.pj_names.specs.ClassName.{NameSet}
use Rattle.pj_names.specs.Held.{IsHeld}
use Rattle.pj_names.specs.JavaType.{JavaType}
use Rattle.pj_names.specs.Told.{Told, Worlds}
use Rattle.pj_operators.specs.Same.{same_type}
use Rattle.pj_operators.proofs.SameTypes.{type-same, types-equal}
use Rattle.pj_exprtypes.specs.declared.held.HeldType.{HeldType}
use Rattle.pj_exprtypes.specs.Table.{KeepsOver}

true_prop : (ty other : JavaType) → IsProp (IsTrue (same_type ty other))
true_prop ty other = hlevel props

same : (ty other : JavaType) → ty ≡ other → IsTrue (same_type ty other)
same ty other is = subst (λ (x : JavaType). IsTrue (same_type ty x)) is (type-same ty)

types_set : IsSet JavaType
types_set = collapsible→set (λ ty other is. types-equal ty other (same ty other is)) (λ ty other p q. ap (types-equal ty other) (true_prop ty other (same ty other p) (same ty other q)))

names_set : IsSet NameSet
names_set = Coded-set (set.code (coded_list coded_ℕ))

held_prop : (worlds : Worlds) (meaning : Asking JavaType) (ty : JavaType) (names : NameSet) → IsProp (IsHeld worlds meaning ty names)
held_prop worlds meaning ty names = hlevel (types_set, names_set)

pub keeps_prop : {K : Type 0} (t : Tree) (told : Told K) (types : List HeldType) → IsProp (KeepsOver t told types)
keeps_prop t told types = hlevel held_prop

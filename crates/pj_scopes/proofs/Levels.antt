-- The list from the inside out is what the code searches: what the file declares as a whole, and before it what those classes inherit that stand further in.
use Rattle.std.proofs.Common.{◌≡◌, ℕ, ◌<◌, ◌≤◌, ◌&&◌, ◌||◌, ◌==◌, Bool, true, false, cond, not, nat_le, nat_lt, List, [], ◌∷◌, ◌++◌, map, filter, Option, None, Some, ap, refl, sym, ◌∙◌, arith, inl, inr}
use Rattle.std.proofs.lemmas.Bool.{and_left, and_parts, both_ways, cases_Bool, eqb-true, false≢true, le-ltb, leb-false, leb-true, lt-leb, ltb-false, ltb-true, ne_eqb, or_from, or_parts}
use Rattle.std.specs.Option.{option_map, option_map_or}
use Rattle.pj_tree.specs.Tree.{Tree}
use Rattle.pj_tree.specs.declared.node.Node.{Node}
use Rattle.pj_names.specs.Asking.{Asking, Return, bind, first_hit, or_else}
use Rattle.pj_names.proofs.MeaningLaws.{bind-bind}
use Rattle.pj_types.specs.Members.{FoundField}
use Rattle.pj_declared.specs.Nearest.{declared_by, is_nearer, nearer, nearest, variable_meant}
use Rattle.pj_declared.specs.declared.named.Named.{Named}
use Rattle.pj_declared.specs.declared.nearest.Declared.{Declared}
use Rattle.pj_outer_names.specs.Around.{classes_around, further_in, is_found_within}
use Rattle.pj_scopes.specs.StaticImports.{static_imports}
use Rattle.pj_scopes.specs.VariableName.{Imports, Inherited, Inherits, Meant, Step, declares, field_around, imported_field, in_scope, inherited, levels, meant_by, outside, variable_name}
use Rattle.pj_scopes.specs.Searched.{declared_or, found_or, inherited_or}

-- ---- the nearest of several, by the numbers that open their scopes

-- whether what was found is opened by the number, or by a greater one
abbrev is_from : ℕ → Option Declared → Bool
is_from k found = option_map_or (λ d. nat_le k d.opened) found false

abbrev is_row_from : ℕ → Named → Bool
is_row_from k row = nat_le k row.scope.opened

lower : (k a b : ℕ) → a ≤ b → nat_le k b ≡ false → nat_le k a ≡ false
lower k a b le is = let above = leb-false k b is in lt-leb k a (omega arith)

opened_up : (one other : Declared) → is_nearer other one ≡ true → one.opened ≤ other.opened
opened_up one other is = elim (cases_Bool (nat_lt one.opened other.opened)) [
  | inl less ↦ (let below : one.opened < other.opened = ltb-true _ _ less in omega arith)
  | inr more ↦ (
      let both : (other.opened == one.opened && nat_lt other.node.0 one.node.0) ≡ true = ap (λ b. b || (other.opened == one.opened && nat_lt other.node.0 one.node.0)) (sym more) ∙ is in
      let parts = and_parts _ _ both in
      let same : other.opened ≡ one.opened = eqb-true _ _ parts.0 in
      omega arith)
]

opened_down : (one other : Declared) → is_nearer other one ≡ false → other.opened ≤ one.opened
opened_down one other is =
    let parts = or_parts (nat_lt one.opened other.opened) (other.opened == one.opened && nat_lt other.node.0 one.node.0) is in ltb-false one.opened other.opened parts.0

-- where the nearest one is opened before the number, so are both
first_picked : (k : ℕ) (one other : Declared) (b : Bool) → is_nearer other one ≡ b → nat_le k (cond b other one).opened ≡ false → nat_le k one.opened ≡ false
first_picked k one other true nearer_is is = lower k one.opened other.opened (opened_up one other nearer_is) is
first_picked k one other false nearer_is is = is

known_picked : (k : ℕ) (one other : Declared) (b : Bool) → is_nearer other one ≡ b → nat_le k (cond b other one).opened ≡ false → nat_le k other.opened ≡ false
known_picked k one other true nearer_is is = is
known_picked k one other false nearer_is is = lower k other.opened one.opened (opened_down one other nearer_is) is

from_first : (k : ℕ) (one : Declared) (known : Option Declared) → nat_le k (nearer one known).opened ≡ false → nat_le k one.opened ≡ false
from_first k one None is = is
from_first k one (Some other) is = first_picked k one other (is_nearer other one) refl is

from_known : (k : ℕ) (one : Declared) (known : Option Declared) → nat_le k (nearer one known).opened ≡ false → is_from k known ≡ false
from_known k one None is = refl
from_known k one (Some other) is = known_picked k one other (is_nearer other one) refl is

-- one that is opened before the number is not the nearest, where that one is not
other_picked : (k : ℕ) (one other : Declared) (b : Bool) → nat_le k one.opened ≡ false → nat_le k (cond b other one).opened ≡ true → (nat_le k other.opened ≡ true) × (Some other ≡ Some (cond b other one))
other_picked k one other true before is = (is, refl)
other_picked k one other false before is = absurd (both_ways (nat_le k one.opened) before is)

moved : (k : ℕ) (one : Declared) (known : Option Declared) → nat_le k one.opened ≡ false → nat_le k (nearer one known).opened ≡ true → (is_from k known ≡ true) × (known ≡ Some (nearer one known))
moved k one None before is = absurd (both_ways (nat_le k one.opened) before is)
moved k one (Some other) before is = other_picked k one other (is_nearer other one) before is

-- and one that is not opened before it stays the nearest beside one that is
stays : (k : ℕ) (one : Declared) (known : Option Declared) → nat_le k one.opened ≡ true → is_from k known ≡ false → nearer one known ≡ one
stays k one None here before = refl
stays k one (Some other) here before =
    let above = leb-true k one.opened here in
    let below = leb-false k other.opened before in
    let apart : other.opened ≡ one.opened → ⊥ = λ same. omega (arith, same) in
    ap (λ b. cond b other one) (or_from (nat_lt one.opened other.opened) (other.opened == one.opened && nat_lt other.node.0 one.node.0) (le-ltb one.opened other.opened (omega arith)) (and_left (other.opened == one.opened) (nat_lt other.node.0 one.node.0) (ne_eqb other.opened one.opened apart)))

-- ---- rows by the numbers that open their scopes

none_within : (k : ℕ) (rows : List Named) → is_from k (nearest rows) ≡ false → filter (is_row_from k) rows ≡ []
none_within k [] is = refl
none_within k (row ∷ rows) is =
    ap (λ b. cond b (row ∷ filter (is_row_from k) rows) (filter (is_row_from k) rows)) (from_first k (declared_by row.scope) (nearest rows) is)
    ∙ none_within k rows (from_known k (declared_by row.scope) (nearest rows) is)

all_outside : (k : ℕ) (rows : List Named) → is_from k (nearest rows) ≡ false → filter (λ row. not (is_row_from k row)) rows ≡ rows
all_outside k [] is = refl
all_outside k (row ∷ rows) is =
    ap (λ b. cond (not b) (row ∷ filter (λ other. not (is_row_from k other)) rows) (filter (λ other. not (is_row_from k other)) rows)) (from_first k (declared_by row.scope) (nearest rows) is)
    ∙ ap (λ rest. row ∷ rest) (all_outside k rows (from_known k (declared_by row.scope) (nearest rows) is))

-- a row in front that is within
kept : (k : ℕ) (row : Named) (rows : List Named) → nat_le k row.scope.opened ≡ true → (is_from k (nearest rows) ≡ true → nearest (filter (is_row_from k) rows) ≡ nearest rows)
    → nearest (row ∷ filter (is_row_from k) rows) ≡ nearest (row ∷ rows)
kept k row rows here further = elim (cases_Bool (is_from k (nearest rows))) [
  | inl is ↦ ap (λ known. Some (nearer (declared_by row.scope) known)) (further is)
  | inr is ↦ ap (λ (left : List Named). nearest (row ∷ left)) (none_within k rows is) ∙ ap Some (sym (stays k (declared_by row.scope) (nearest rows) here is))
]

nearest_within : (k : ℕ) (rows : List Named) → is_from k (nearest rows) ≡ true → nearest (filter (is_row_from k) rows) ≡ nearest rows
nearest_within k [] is = refl
nearest_within k (row ∷ rows) is = elim (cases_Bool (is_row_from k row)) [
  | inl here ↦ ap (λ b. nearest (cond b (row ∷ filter (is_row_from k) rows) (filter (is_row_from k) rows))) here ∙ kept k row rows here (nearest_within k rows)
  | inr before ↦ (
      let other = moved k (declared_by row.scope) (nearest rows) before is in
      ap (λ b. nearest (cond b (row ∷ filter (is_row_from k) rows) (filter (is_row_from k) rows))) before ∙ nearest_within k rows other.0 ∙ other.1)
]

-- ---- along static imports

abbrev as_meant : Option FoundField → Asking (Option Meant)
as_meant found = Return (option_map Inherited found)

import-hit : (rest : Asking (Option Meant)) (fields : Asking (Option FoundField)) → rest ≡ inherited fields → (found : Option FoundField) → or_else (option_map Inherited found) rest ≡ inherited (or_else found fields)
import-hit rest fields same None = same
import-hit rest fields same (Some field) = refl

abbrev all_imports : List Node → List Step
all_imports imports = map (λ import. Imports import) imports

imports-hit : (t : Tree) (name : List ℕ) (imports : List Node) → first_hit (meant_by t name) (all_imports imports) ≡ inherited (first_hit (imported_field t name) imports)
imports-hit t name [] = refl
imports-hit t name (import ∷ imports) =
    bind-bind (imported_field t name import) as_meant (λ hit. or_else hit (first_hit (meant_by t name) (all_imports imports)))
    ∙ (λ i. bind (imported_field t name import) (λ found. import-hit (first_hit (meant_by t name) (all_imports imports)) (first_hit (imported_field t name) imports) (imports-hit t name imports) found i))
    ∙ sym (bind-bind (imported_field t name import) (λ hit. or_else hit (first_hit (imported_field t name) imports)) as_meant)

-- ---- along levels

-- what the code searches, where some classes are around
abbrev by_found : Tree → List ℕ → Option Declared → List Node → Asking (Option Meant)
by_found t name found classes = bind (first_hit (field_around t name) (further_in found classes)) (λ hit. inherited_or hit (declared_or t name found))

-- what the list from the inside out comes to, where these variables are left and these classes are around
abbrev by_levels : Tree → List ℕ → List Named → List Node → Asking (Option Meant)
by_levels t name rows classes = first_hit (meant_by t name) (levels rows classes ++ all_imports (static_imports t name))

behind-levels : (t : Tree) (name : List ℕ) (found : Option Declared) → first_hit (meant_by t name) (declares found ++ all_imports (static_imports t name)) ≡ declared_or t name found
behind-levels t name None = imports-hit t name (static_imports t name)
behind-levels t name (Some d) = refl

-- a level on which the variable is
on-level : (t : Tree) (name : List ℕ) (found : Option Declared) (class : Node) (rest : List Step) (further : List Node) → is_found_within found class ≡ true
    → first_hit (meant_by t name) ((declares found ++ rest) ++ all_imports (static_imports t name)) ≡ by_found t name found (class ∷ further)
on-level t name None class rest further is = absurd (false≢true is)
on-level t name (Some d) class rest further is =
    sym (ap (λ b. bind (first_hit (field_around t name) (cond b [] (class ∷ further_in (Some d) further))) (λ hit. inherited_or hit (declared_or t name (Some d)))) is)

-- and one that is passed
level-hit : (rest behind : Asking (Option Meant)) (fields : Asking (Option FoundField)) → rest ≡ bind fields (λ hit. inherited_or hit behind) → (found : Option FoundField)
    → or_else (option_map Inherited found) rest ≡ bind (or_else found fields) (λ hit. inherited_or hit behind)
level-hit rest behind fields same None = same
level-hit rest behind fields same (Some field) = refl

past-level : (t : Tree) (name : List ℕ) (rows : List Named) (class : Node) (further : List Node) → is_found_within (nearest rows) class ≡ false → by_levels t name rows further ≡ by_found t name (nearest rows) further
    → by_levels t name rows (class ∷ further) ≡ by_found t name (nearest rows) (class ∷ further)
past-level t name rows class further is same =
    let imports = all_imports (static_imports t name) in
    let around = field_around t name class in
    let fields = first_hit (field_around t name) (further_in (nearest rows) further) in
    let behind = declared_or t name (nearest rows) in
    ap (λ (inside : List Named). first_hit (meant_by t name) ((declares (nearest inside) ++ Inherits class ∷ levels (outside class rows) further) ++ imports)) (none_within class.0 rows is)
    ∙ ap (λ (left : List Named). first_hit (meant_by t name) (Inherits class ∷ (levels left further ++ imports))) (all_outside class.0 rows is)
    ∙ bind-bind around as_meant (λ hit. or_else hit (by_levels t name rows further))
    ∙ (λ i. bind around (λ found. level-hit (by_levels t name rows further) behind fields same found i))
    ∙ sym (bind-bind around (λ hit. or_else hit fields) (λ hit. inherited_or hit behind))
    ∙ ap (λ b. bind (first_hit (field_around t name) (cond b [] (class ∷ further_in (nearest rows) further))) (λ hit. inherited_or hit behind)) (sym is)

along-levels : (t : Tree) (name : List ℕ) (rows : List Named) (classes : List Node) → by_levels t name rows classes ≡ by_found t name (nearest rows) classes
along-levels t name rows [] = behind-levels t name (nearest rows)
along-levels t name rows (class ∷ further) = elim (cases_Bool (is_found_within (nearest rows) class)) [
  | inl is ↦ (
      let imports = all_imports (static_imports t name) in
      let rest : List Step = Inherits class ∷ levels (outside class rows) further in
      ap (λ (found : Option Declared). first_hit (meant_by t name) ((declares found ++ rest) ++ imports)) (nearest_within class.0 rows is)
      ∙ on-level t name (nearest rows) class rest further is)
  | inr is ↦ past-level t name rows class further is (along-levels t name rows further)
]

pub inside-out : (t : Tree) (place : Node) (name : List ℕ) → found_or t name place (variable_meant t name place) ≡ variable_name t place name
inside-out t place name = sym (along-levels t name (in_scope t name place) (classes_around t place))

-- A table that is kept as an ordered map.
use Rattle.std.proofs.Common.{◌≡◌, Bool, true, false, cond, List, [], ◌∷◌, map, Option, Some, None, ap, refl, sym, ◌∙◌}
use mathlib.Core.Bool.{true≢false}
use Rattle.std.specs.Prelude.{is_some, Result, Ok, Err, OnErr}
use Rattle.std.specs.Option.{option_map}
use Rattle.std.specs.Map.{lookup}
use Rattle.std.specs.Ordering.{eq_by_cmp, nat_cmp}
use Rattle.std.specs.Cmp.{eq_by_cmp_equiv}
use Rattle.std.specs.Cmp.Lexicographic.{slice_cmp, nat_list_cmp_total}
use Rattle.std.specs.FinMap as finmap
use Rattle.std.specs.FinMap.{find, get-from_entries, get-insert, same_map, nat_cmp-IsAntisymmetric, slice_cmp-IsAntisymmetric}
use Rattle.std.specs.declared.sync.Arc.{Arc}
use Rattle.std.specs.declared.alloc.Global.{Global}
use Rattle.pj_names.specs.ClassName.{Name}
use Rattle.pj_names.specs.declared.answer.Answer.{Answer}
use Rattle.pj_core.specs.declared.event.Did.TheVariants.{Hit, Filled}
use Rattle.pj_core.specs.Events.{State, Table, looked_up, table_of}

abbrev Pairs : Type 0
Pairs = List (Name × Arc Answer Global)

abbrev pub shown : Arc Answer Global → Answer
shown shared = shared.value

find_shown : (name : Name) (pairs : Pairs) → find (slice_cmp nat_cmp) name (map (λ (pair : Name × Arc Answer Global). (pair.0, pair.1.value)) pairs) ≡ option_map shown (lookup (eq_by_cmp (slice_cmp nat_cmp) name) pairs)
find_shown name [] = refl
find_shown name (pair ∷ pairs) = elim (eq_by_cmp (slice_cmp nat_cmp) name pair.0) as (λ b. cond b (Some pair.1.value) (find (slice_cmp nat_cmp) name (map (λ (p : Name × Arc Answer Global). (p.0, p.1.value)) pairs)) ≡ option_map shown (cond b (Some pair.1) (lookup (eq_by_cmp (slice_cmp nat_cmp) name) pairs))) [
  | true ↦ refl
  | false ↦ find_shown name pairs
]

-- what the table has for a name is what the map has
pub found : (name : Name) (pairs : Pairs) → finmap.get (table_of pairs) name ≡ option_map shown (lookup (eq_by_cmp (slice_cmp nat_cmp) name) pairs)
found name pairs = get-from_entries nat_list_cmp_total (map (λ pair. (pair.0, pair.1.value)) pairs) name ∙ find_shown name pairs

one_of : (b : Bool) (answer : Arc Answer Global) (old : Option (Arc Answer Global)) → option_map shown (cond b (Some answer) old) ≡ cond b (Some answer.value) (option_map shown old)
one_of true answer old = refl
one_of false answer old = refl

-- a map with one entry more, or another value at its key, is the table with that answer
pub inserted : (old new : Pairs) (name : Name) (answer : Arc Answer Global)
    → ((q : Name) → lookup (eq_by_cmp (slice_cmp nat_cmp) q) new ≡ cond (eq_by_cmp (slice_cmp nat_cmp) name q) (Some answer) (lookup (eq_by_cmp (slice_cmp nat_cmp) q) old))
    → table_of new ≡ finmap.insert (table_of old) name answer.value
inserted old new name answer updates = same_map nat_list_cmp_total (slice_cmp-IsAntisymmetric nat_cmp-IsAntisymmetric) _ _ (λ q.
    found q new ∙ ap (option_map shown) (updates q) ∙ one_of (eq_by_cmp (slice_cmp nat_cmp) name q) answer (lookup (eq_by_cmp (slice_cmp nat_cmp) q) old)
    ∙ ap (λ b. cond b (Some answer.value) (option_map shown (lookup (eq_by_cmp (slice_cmp nat_cmp) q) old))) ((eq_by_cmp_equiv nat_list_cmp_total).symm name q)
    ∙ sym (get-insert nat_list_cmp_total (table_of old) name answer.value q ∙ ap (cond (eq_by_cmp (slice_cmp nat_cmp) q name) (Some answer.value)) (found q old)))

some_shown : (o : Option (Arc Answer Global)) → is_some (option_map shown o) ≡ is_some o
some_shown None = refl
some_shown (Some shared) = refl

-- the table has a name exactly where the map has its key
pub is_there : (name : Name) (pairs : Pairs) → is_some (finmap.get (table_of pairs) name) ≡ is_some (lookup (eq_by_cmp (slice_cmp nat_cmp) name) pairs)
is_there name pairs = ap is_some (found name pairs) ∙ some_shown (lookup (eq_by_cmp (slice_cmp nat_cmp) name) pairs)

module _ {R : Type 0} (s : State R) (name : Name) (answer : Answer) where
  -- a look of a name that is there leaves the state
  pub hit : (o : Option Answer) → is_some o ≡ true → (s, Hit) ≡ looked_up name answer s o
  hit None e = absurd (true≢false (sym e))
  hit (Some old) e = refl

  -- a look of a name that is not there fills it
  pub filled : (t : Table) (o : Option Answer) → is_some o ≡ false → t ≡ finmap.insert s.table name answer → (record s { table = t }, Filled) ≡ looked_up name answer s o
  filled t None e is = λ i. (record s { table = is i }, Filled)
  filled t (Some old) e is = absurd (true≢false e)

-- what no entry has is not in the table
pub none_shown : (o : Option (Arc Answer Global)) → o ≡ None → option_map shown o ≡ None
none_shown o e = ap (option_map shown) e

pub on_err : {A E : Type 0} (r : Result A E) (P : Type 0) → P → OnErr r P
on_err (Ok value) P p = tt
on_err (Err fault) P p = p

-- A set of names that is kept as its keys in order.
use Rattle.std.proofs.Common.{◌≡◌, Bool, true, false, List, ap, refl, sym, ◌∙◌}
use Rattle.std.specs.Prelude.{◌||◌, cond}
use Rattle.std.specs.List.{list_any}
use Rattle.std.specs.Ordering.{eq_by_cmp, nat_cmp}
use Rattle.std.specs.Cmp.{eq_by_cmp_equiv}
use Rattle.std.specs.Cmp.Lexicographic.{slice_cmp, nat_list_cmp_total}
use Rattle.std.specs.FinSet as set
use Rattle.std.specs.FinSet.{contains-from_list, contains-insert, same_set, nat_cmp-IsAntisymmetric, slice_cmp-IsAntisymmetric}
use Rattle.pj_names.specs.ClassName.{Name}

either : (a b : Bool) → cond a true b ≡ (a || b)
either true b = refl
either false b = refl

-- keys that have one key more are the set with that key
pub from_list-insert : (old new : List Name) (name : Name)
    → ((q : Name) → list_any (eq_by_cmp (slice_cmp nat_cmp) q) new ≡ cond (eq_by_cmp (slice_cmp nat_cmp) name q) true (list_any (eq_by_cmp (slice_cmp nat_cmp) q) old))
    → set.from_list {R = slice_cmp nat_cmp} new ≡ set.insert (set.from_list old) name
from_list-insert old new name updates = same_set nat_list_cmp_total (slice_cmp-IsAntisymmetric nat_cmp-IsAntisymmetric) _ _ (λ q.
    contains-from_list nat_list_cmp_total new q ∙ updates q ∙ either (eq_by_cmp (slice_cmp nat_cmp) name q) (list_any (eq_by_cmp (slice_cmp nat_cmp) q) old)
    ∙ ap (λ b. b || list_any (eq_by_cmp (slice_cmp nat_cmp) q) old) ((eq_by_cmp_equiv nat_list_cmp_total).symm name q)
    ∙ sym (contains-insert nat_list_cmp_total _ name q ∙ ap (λ b. eq_by_cmp (slice_cmp nat_cmp) q name || b) (contains-from_list nat_list_cmp_total old q)))

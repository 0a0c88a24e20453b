-- What rests on names: that of each rule, and that of the file.
use Rattle.std.proofs.Common.{◌≡◌, ◌≤◌, ◌∙◌, ◌++◌, ℕ, List, [], ◌∷◌, Ok, ap, append-nil, refl, subst, sym}
use Rattle.std.specs.Prelude.{IsTrue}
use Rattle.std.specs.Cmp.Lexicographic.{slice_cmp}
use Rattle.std.specs.FinSet as set
use Rattle.std.specs.List.{AllZip}
use Rattle.std.specs.List.Sorted.{IsStrictlySortedBy}
use Rattle.std.specs.Ordering.{nat_cmp}
use Rattle.pj_findings.specs.declared.run.RuleRun.{RuleRun}
use Rattle.pj_names.specs.Asking.{Asking, Return, bind, each, names_of, value_of}
use Rattle.pj_names.specs.ClassName.{Name, NameSet, name_set}
use Rattle.pj_names.specs.Held.{IsHeld}
use Rattle.pj_names.specs.Noting.{Notes}
use Rattle.pj_names.specs.Told.{Asks, Told, Worlds, longest}
use Rattle.pj_names.proofs.Held.{noted-held}
use Rattle.pj_names.proofs.MeaningLaws.{names_of-bind, value_of-bind}
use Rattle.pj_names.proofs.NameLists.{name_set-append}
use Rattle.pj_reports.specs.declared.ruled.Ruled.{Ruled}
use Rattle.pj_workers.specs.Results.{RestsOn, came_to}
use Rattle.pj_workers.specs.Rules.{Rule}
use Rattle.pj_workers.specs.Views.{all_names}

-- what an oracle tells later, it told before
pub rests_before : {K A : Type 0} (t u : Told K) (m : Asking A) (v : A) (names : List Name) → u.is_told ≡ t.is_told → u.world ≡ t.world → RestsOn u m v names → RestsOn t m v names
rests_before t u m v names told world rests = record {
  ascending = rests.ascending;
  held = λ is. subst (λ (w : Worlds). IsHeld w m v (name_set names)) world (rests.held (subst (λ b. IsTrue b) (sym told) is));
}

-- what a call came to whose names were noted apart
pub rests_noted : {K A : Type 0} (m : Asking A) (t u : Told K) (v : A) (noted : NameSet) (names : List Name) → Asks m t u (Ok v) → Notes m t.is_told t.world set.empty noted (Ok v)
    → IsStrictlySortedBy (slice_cmp nat_cmp) names → name_set names ≡ noted → RestsOn t m v names
rests_noted m t u v noted names asks notes up are = record {
  ascending = up;
  held = λ told. subst (λ (s : NameSet). IsHeld t.world m v s) (sym are) (noted-held m t u v noted told asks notes);
}

-- ---- rules together

module _ {K : Type 0} (t : Told K) (meaning : Rule → Asking Ruled) where
  abbrev pub AreRested : List Rule → List RuleRun → Type 0
  AreRested rules runs = AllZip (λ rule run. RestsOn t (meaning rule) run.rows run.names) rules runs

  values_together : (d : ℕ) → longest ≤ d → IsTrue t.is_told → (rules : List Rule) (runs : List RuleRun) → AreRested rules runs → value_of d (t.world d).answer (each meaning rules) ≡ came_to runs
  values_together d far told [] [] h = refl
  values_together d far told [] (x ∷ xs) h = absurd h
  values_together d far told (r ∷ rs) [] h = absurd h
  values_together d far told (r ∷ rs) (x ∷ xs) h =
      value_of-bind d (t.world d).answer (meaning r) (λ value. bind (each meaning rs) (λ values. Return (value ∷ values)))
      ∙ value_of-bind d (t.world d).answer (each meaning rs) (λ values. Return (value_of d (t.world d).answer (meaning r) ∷ values))
      ∙ (λ i. (h.0.held told).value_is d far i ∷ values_together d far told rs xs h.1 i)

  names_together : (d : ℕ) → longest ≤ d → IsTrue t.is_told → (rules : List Rule) (runs : List RuleRun) → AreRested rules runs → name_set (names_of d (t.world d).answer (each meaning rules)) ≡ name_set (all_names runs)
  names_together d far told [] [] h = refl
  names_together d far told [] (x ∷ xs) h = absurd h
  names_together d far told (r ∷ rs) [] h = absurd h
  names_together d far told (r ∷ rs) (x ∷ xs) h =
      let w = (t.world d).answer in
      ap (λ l. name_set l) (names_of-bind d w (meaning r) (λ value. bind (each meaning rs) (λ values. Return (value ∷ values)))
      ∙ ap (λ l. names_of d w (meaning r) ++ l) (names_of-bind d w (each meaning rs) (λ values. Return (value_of d w (meaning r) ∷ values)) ∙ append-nil (names_of d w (each meaning rs))))
      ∙ name_set-append (names_of d w (meaning r)) (names_of d w (each meaning rs)) x.names (all_names xs) ((h.0.held told).names_are d far) (names_together d far told rs xs h.1)

  -- what is made of all that rules come to
  pub together_held : {A : Type 0} (make : List Ruled → A) (rules : List Rule) (runs : List RuleRun) → AreRested rules runs → IsTrue t.is_told → IsHeld t.world (bind (each meaning rules) (λ results. Return (make results))) (make (came_to runs)) (name_set (all_names runs))
  together_held make rules runs h told = record {
    value_is = λ d far. value_of-bind d (t.world d).answer (each meaning rules) (λ results. Return (make results)) ∙ ap make (values_together d far told rules runs h);
    names_are = λ d far. ap (λ l. name_set l) (names_of-bind d (t.world d).answer (each meaning rules) (λ results. Return (make results)) ∙ append-nil (names_of d (t.world d).answer (each meaning rules)))
        ∙ names_together d far told rules runs h;
  }

-- one and the same, told before
pub all_before : {K : Type 0} (t u : Told K) (meaning : Rule → Asking Ruled) (rules : List Rule) (runs : List RuleRun) → u.is_told ≡ t.is_told → u.world ≡ t.world → AreRested u meaning rules runs → AreRested t meaning rules runs
all_before t u meaning [] [] told world h = tt
all_before t u meaning [] (x ∷ xs) told world h = absurd h
all_before t u meaning (r ∷ rs) [] told world h = absurd h
all_before t u meaning (r ∷ rs) (x ∷ xs) told world h = (rests_before t u (meaning r) x.rows x.names told world h.0, all_before t u meaning rs xs told world h.1)

-- What is asked at a file, step by step.
use Rattle.std.proofs.Common.{◌≡◌, ◌∙◌, ℕ, suc, Bool, true, false, ◌&&◌, List, [], ◌∷◌, Option, Result, Ok, Err, ap, arith, length, refl, subst, sym}
use Rattle.std.proofs.lemmas.Bool.{eqb-true}
use Rattle.std.specs.Prelude.{◌==◌, if◌then◌else◌}
use Rattle.pj_cache.specs.declared.cache.CachedResult.{CachedResult}
use Rattle.pj_cache.specs.declared.cache.Entry.{Entry}
use Rattle.pj_cached_files.specs.Asked.{active_keys_of, looked_at, missing_numbers, reused_by, then_missing}
use Rattle.pj_fitting.specs.Left.{File, results_of}
use Rattle.pj_fitting.specs.Looked.{has_no_tree, is_there}
use Rattle.pj_names.proofs.AskingLaws.{asks-refused, asks-return, asks-stop, asks-then}
use Rattle.pj_names.specs.Asking.{Asking, Return, bind, is_empty}
use Rattle.pj_names.specs.ClassName.{Name}
use Rattle.pj_names.specs.Told.{Asks, Told}
use Rattle.pj_names.specs.declared.answer.Answer.{Answer}
use Rattle.pj_names.specs.declared.oracle.AskFault.{AskFault}
use Rattle.pj_names.specs.declared.oracle.AskFault.TheVariants.{Memory}
use Rattle.pj_reuse.specs.Serving.{kept_results}
use Rattle.pj_rule_sets.specs.Rules.{EffectiveRules}
use Rattle.pj_workers.specs.Rules.{Rule}

-- ---- numbers that are missing

not_zero : (n : ℕ) → (suc n == 0) ≡ true → ⊥
not_zero n is = let never : suc n ≡ 0 = eqb-true (suc n) 0 is in omega (arith, never)

pub is_none : {A : Type 0} (xs : List A) → (length xs == 0) ≡ true → xs ≡ []
is_none [] is = refl
is_none (x ∷ xs) is = absurd (not_zero (length xs) is)

zero_is : (0 == 0) ≡ true
zero_is = refl

pub is_some : {A : Type 0} (xs : List A) → (length xs == 0) ≡ false → is_empty xs ≡ false
is_some [] is = sym zero_is ∙ is
is_some (x ∷ xs) is = refl

module _ {K : Type 0} (answers : List (Name × Answer)) (set : EffectiveRules) (meant : List Rule) (file : File) (old : Option Entry) where
  -- nothing is asked of a file that has no tree by its old entry
  pub treeless_asks : {t : Told K} {r : Result Bool AskFault} → has_no_tree old ≡ true → r ≡ Ok true → Asks (reused_by answers set meant file old) t t r
  treeless_asks {t} {r} tree is =
      subst (λ (b : Bool). Asks (if b then Return true else bind (kept_results answers (results_of old) (active_keys_of set file.0)) (then_missing set meant file old)) t t r) (sym tree) (asks-return is)

  tree_asks : {t u : Told K} {r : Result Bool AskFault} → has_no_tree old ≡ false → Asks (bind (kept_results answers (results_of old) (active_keys_of set file.0)) (then_missing set meant file old)) t u r → Asks (reused_by answers set meant file old) t u r
  tree_asks {t} {u} {r} tree asks =
      subst (λ (b : Bool). Asks (if b then Return true else bind (kept_results answers (results_of old) (active_keys_of set file.0)) (then_missing set meant file old)) t u r) (sym tree) asks

  -- it is refused while it is told what stays
  pub refused_asks : {t u : Told K} {e : AskFault} {r : Result Bool AskFault} → has_no_tree old ≡ false → Asks (kept_results answers (results_of old) (active_keys_of set file.0)) t u (Err e) → r ≡ Err e → Asks (reused_by answers set meant file old) t u r
  refused_asks tree asks is = tree_asks tree (asks-refused (then_missing set meant file old) asks is)

  -- or memory is wanted afterwards
  pub stopped_asks : {t u : Told K} {stay : List CachedResult} {r : Result Bool AskFault} → has_no_tree old ≡ false → Asks (kept_results answers (results_of old) (active_keys_of set file.0)) t u (Ok stay) → r ≡ Err Memory
      → Asks (reused_by answers set meant file old) t u r
  stopped_asks tree asks is = tree_asks tree (asks-then (then_missing set meant file old) asks (asks-stop is))

  -- no rule is missing
  pub served_asks : {t u : Told K} {stay : List CachedResult} {r : Result Bool AskFault} → has_no_tree old ≡ false → is_there old ≡ true → Asks (kept_results answers (results_of old) (active_keys_of set file.0)) t u (Ok stay)
      → missing_numbers set file.0 stay ≡ [] → r ≡ Ok true → Asks (reused_by answers set meant file old) t u r
  served_asks {t} {u} {stay} {r} tree there asks none is =
      let test : (is_there old && is_empty (missing_numbers set file.0 stay)) ≡ true = λ i. there i && is_empty (none i) in
      tree_asks tree (asks-then (then_missing set meant file old) asks
      (subst (λ (b : Bool). Asks (if b then Return true else looked_at meant file (missing_numbers set file.0 stay)) u u r) (sym test) (asks-return is)))

  -- the missing rules are looked at
  pub completed_asks : {t u v : Told K} {stay : List CachedResult} {r : Result Bool AskFault} → has_no_tree old ≡ false → Asks (kept_results answers (results_of old) (active_keys_of set file.0)) t u (Ok stay)
      → (is_there old && is_empty (missing_numbers set file.0 stay)) ≡ false → Asks (looked_at meant file (missing_numbers set file.0 stay)) u v r → Asks (reused_by answers set meant file old) t v r
  completed_asks {t} {u} {v} {stay} {r} tree asks some looked =
      tree_asks tree (asks-then (then_missing set meant file old) asks
      (subst (λ (b : Bool). Asks (if b then Return true else looked_at meant file (missing_numbers set file.0 stay)) u v r) (sym some) looked))

  -- which is refused
  pub completed_refused : {t u v : Told K} {stay : List CachedResult} {e : AskFault} {r : Result Bool AskFault} → has_no_tree old ≡ false → Asks (kept_results answers (results_of old) (active_keys_of set file.0)) t u (Ok stay)
      → (is_there old && is_empty (missing_numbers set file.0 stay)) ≡ false → Asks (looked_at meant file (missing_numbers set file.0 stay)) u v (Err e) → r ≡ Err e → Asks (reused_by answers set meant file old) t v r
  completed_refused {t} {u} {v} {stay} {e} {r} tree asks some looked is = subst (λ (x : Result Bool AskFault). Asks (reused_by answers set meant file old) t v x) (sym is) (completed_asks tree asks some looked)

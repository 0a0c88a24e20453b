-- What stays and what is made is what a run leaves.
use Rattle.std.proofs.Common.{◌≡◌, ℕ, suc, Bool, true, false, ◌||◌, inl, inr, List, [], ◌∷◌, ◌++◌, map, refl, sym, ap, subst, ◌∙◌, arith}
use Rattle.std.specs.Prelude.{◌⊎◌}
use Rattle.std.specs.List.{AllByRecursion, AllZip, Contains}
use Rattle.std.specs.List.Sorted.{IsPermutation}
use Rattle.std.specs.BTreeMap.{is_at}
use Rattle.std.proofs.lemmas.List.Elements.{All-from_recursion}
use Rattle.std.proofs.lemmas.List.Sorted.{All-permutation, Contains-permutation}
use Rattle.pj_names.specs.declared.answer.Answer.{Answer}
use Rattle.pj_names.specs.ClassName.{Name}
use Rattle.pj_cache.specs.Places.{byte_order}
use Rattle.pj_cache.specs.declared.cache.CachedResult.{CachedResult}
use Rattle.pj_reuse.specs.Serving.{has_key}
use Rattle.pj_reuse.proofs.Standing.{has_itself}
use Rattle.pj_fitting.specs.Right.{Key, RulesAt}
use Rattle.pj_fitting.specs.Left.{active_keys, kept, missing, IsNew, IsNewOfSome, HasNew, AreLeft}
use Rattle.pj_fitting.proofs.Lists.{all_map}
use Rattle.pj_fitting.proofs.Named.{itself}
use Rattle.pj_fitting.proofs.Sets.{or_true, same_name}
use Rattle.pj_fitting.proofs.Sorted.{IsIn, has_in}
use Rattle.pj_left_cache.specs.Missing.{missing_rules}
use Rattle.pj_left_cache.proofs.MissingLaws.{active_are, key_of, missing_keys}

-- ---- members

pub contains_in : {A : Type 0} (ys : List A) (x : A) → IsIn x ys → Contains ys x
contains_in [] x there = absurd there
contains_in (y ∷ ys) x (inl e) = (0, omega arith, sym e)
contains_in (y ∷ ys) x (inr there) = let rest = contains_in ys x there in (suc rest.0, omega (arith, rest.1), rest.2)

in_front : {A : Type 0} (xs ys : List A) (x : A) → IsIn x xs → IsIn x (xs ++ ys)
in_front [] ys x there = absurd there
in_front (z ∷ zs) ys x (inl e) = inl e
in_front (z ∷ zs) ys x (inr there) = inr (in_front zs ys x there)

in_back : {A : Type 0} (xs ys : List A) (x : A) → IsIn x ys → IsIn x (xs ++ ys)
in_back [] ys x there = there
in_back (z ∷ zs) ys x there = inr (in_back zs ys x there)

each_in : {A : Type 0} (xs : List A) → AllByRecursion (λ (x : A). IsIn x xs) xs
each_in [] = tt
each_in {A} (x ∷ xs) = (inl refl, all_map (λ (y : A). IsIn y xs) (λ (y : A). IsIn y (x ∷ xs)) xs (λ y there. inr there) (each_in xs))

pub all_append : {A : Type 0} (P : A → Type 0) (xs ys : List A) → AllByRecursion P xs → AllByRecursion P ys → AllByRecursion P (xs ++ ys)
all_append P [] ys first rest = rest
all_append P (x ∷ xs) ys first rest = (first.0, all_append P xs ys first.1 rest)

-- ---- new results

module _ {R : Type 0} (rules : RulesAt R) (world : Name → Answer) where
  -- a result is the new one of a rule's key
  abbrev NewAt : ℕ × Key → CachedResult → Type 0
  NewAt m r = IsNew rules world m.1 r

  record IsFound (rs : List CachedResult) (key : Key) : Type 0 where
    result : CachedResult
    there : IsIn result rs
    new : IsNew rules world key result

  found_by : (m : ℕ × Key) (ms : List (ℕ × Key)) (r : CachedResult) (rs : List CachedResult) (key : Key) (t : Bool) → is_at (byte_order key) m.1 ≡ t → IsNew rules world m.1 r → (t || has_key (map key_of ms) key) ≡ true → (has_key (map key_of ms) key ≡ true → IsFound rs key) → IsFound (r ∷ rs) key
  found_by m ms r rs key true at new has rest = record { result = r; there = inl refl; new = subst (λ (k : Key). IsNew rules world k r) (sym (same_name key m.1 at)) new }
  found_by m ms r rs key false at new has rest = let other = rest has in record { result = other.result; there = inr other.there; new = other.new }

  -- a key of some rules has its new result
  found : (ms : List (ℕ × Key)) (rs : List CachedResult) → AllZip NewAt ms rs → (key : Key) → has_key (map key_of ms) key ≡ true → IsFound rs key
  found [] rs zip key has = absurd cc
  found (m ∷ ms) [] zip key has = absurd zip
  found (m ∷ ms) (r ∷ rs) zip key has = found_by m ms r rs key (is_at (byte_order key) m.1) refl zip.0 has (found ms rs zip.1 key)

  each_new : (wanted : List Key) (ms : List (ℕ × Key)) (rs : List CachedResult) → AllZip NewAt ms rs → ((key : Key) → has_key (map key_of ms) key ≡ true → Contains wanted key) → AllByRecursion (IsNewOfSome rules world wanted) rs
  each_new wanted [] [] zip all = tt
  each_new wanted [] (r ∷ rs) zip all = absurd zip
  each_new wanted (m ∷ ms) [] zip all = absurd zip
  each_new wanted (m ∷ ms) (r ∷ rs) zip all = (
    record { key = m.1; wanted = all m.1 (ap (λ (b : Bool). b || has_key (map key_of ms) m.1) (itself m.1)); new = zip.0 },
    each_new wanted ms rs zip.1 (λ key has. all key (ap (λ (b : Bool). is_at (byte_order key) m.1 || b) has ∙ or_true (is_at (byte_order key) m.1))),
  )

  module _ (answers : List (Name × Answer)) (old : List CachedResult) (held : List R) (made results : List CachedResult) where
    abbrev keys : List Key
    keys = active_keys rules held

    abbrev stay : List CachedResult
    stay = kept answers world keys old

    abbrev wanted : List Key
    wanted = missing stay keys

    abbrev new_for : List (ℕ × Key)
    new_for = missing_rules stay (map rules.key held) (map rules.is_active held)

    same_keys : (key : Key) → has_key (map key_of new_for) key ≡ has_key wanted key
    same_keys key = missing_keys stay (map rules.key held) (map rules.is_active held) key ∙ ap (λ (l : List Key). has_key (missing stay l) key) (active_are rules held)

    pub left_from : AllZip NewAt new_for made → IsPermutation (stay ++ made) results → AreLeft rules world answers old keys results
    left_from zip moved =
        let there : (r : CachedResult) → IsIn r (stay ++ made) → Contains results r = λ r here. Contains-permutation (stay ++ made) results r moved (contains_in (stay ++ made) r here) in
        let Only : CachedResult → Type 0 = λ r. Contains stay r ⊎ IsNewOfSome rules world wanted r in
        let olds : AllByRecursion Only stay = all_map (λ (r : CachedResult). IsIn r stay) Only stay (λ r here. inl (contains_in stay r here)) (each_in stay) in
        let news : AllByRecursion Only made =
        all_map (IsNewOfSome rules world wanted) Only made (λ r new. inr new) (each_new wanted new_for made zip (λ key has. contains_in wanted key (has_in wanted key (sym (same_keys key) ∙ has)))) in
        record {
          stay = All-from_recursion (Contains results) stay (all_map (λ (r : CachedResult). IsIn r stay) (Contains results) stay (λ r here. there r (in_front stay made r here)) (each_in stay));
          made = All-from_recursion (HasNew rules world results) wanted
              (all_map (λ (key : Key). has_key wanted key ≡ true) (HasNew rules world results) wanted
              (λ key has.
              let one = found new_for made zip key (same_keys key ∙ has) in
              record { result = one.result; there = there one.result (in_back stay made one.result one.there); new = one.new })
              (has_itself wanted));
          only = All-permutation Only (stay ++ made) results moved (All-from_recursion Only (stay ++ made) (all_append Only stay made olds news));
        }

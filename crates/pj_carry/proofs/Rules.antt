-- What comes of the rules of a list comes of the first rules of their keys, and together they ask for the same names.
use Rattle.std.proofs.Common.{◌≡◌, ℕ, zero, suc, Bool, true, false, cond, ◌||◌, List, [], ◌∷◌, map, Some, refl, sym, ap, subst, ◌∙◌}
use Rattle.std.specs.Prelude.{IsTrue, is_some}
use Rattle.std.specs.Map.{lookup}
use Rattle.std.specs.List.{AllByRecursion, slice_get}
use Rattle.std.specs.BTreeMap.{is_at}
use Rattle.std.specs.FinSet as set
use Rattle.std.specs.FinSet.{contains-empty, contains-union, nat_cmp-IsAntisymmetric, same_set, slice_cmp-IsAntisymmetric}
use Rattle.std.specs.Cmp.Lexicographic.{nat_list_cmp_total, slice_cmp}
use Rattle.std.specs.Ordering.{nat_cmp}
use Rattle.std.specs.declared.cmp.Ordering.{Ordering}
use Rattle.pj_names.specs.ClassName.{Name, NameSet}
use Rattle.pj_names.specs.Asking.{Asking}
use Rattle.pj_names.specs.Meaning.{Source, Means, Gives}
use Rattle.pj_names.proofs.MeaningLaws.{means-one}
use Rattle.pj_reports.specs.declared.rows.FileRows.{FileRows}
use Rattle.pj_reports.specs.declared.ruled.Ruled.{Ruled}
use Rattle.pj_cache.specs.Places.{byte_order}
use Rattle.pj_carry.specs.Carried.{Key, First, first_rules, key_rows}
use Rattle.pj_carry.specs.Rows.{rows_of}
use Rattle.pj_fitting.specs.Right.{RulesAt, ComeTo}
use Rattle.pj_fitting.proofs.Sets.{same_name, in_first, in_rest}
use Rattle.pj_carry.specs.RightOld.{ComeToRows}
use Rattle.pj_carry.proofs.Keys.{HasItsKey, is_there, have_their_keys, are_there}

abbrev order : Name → Name → Ordering
order = slice_cmp nat_cmp

-- the member that a mapped one is of
pub mapped : {A : Type 0} (f : A → Key) (xs : List A) (i : ℕ) (k : Key) → slice_get (map f xs) i ≡ Some k → (x : A) × (slice_get xs i ≡ Some x) × (f x ≡ k)
mapped f [] i k e = absurd cc
mapped f (x ∷ xs) zero k e = (x, refl, cc)
mapped f (x ∷ xs) (suc i) k e = mapped f xs i k e

pub map_at : {A : Type 0} (f : A → Key) (xs : List A) (i : ℕ) (x : A) → slice_get xs i ≡ Some x → slice_get (map f xs) i ≡ Some (f x)
map_at {A} f [] i x e = absurd cc
map_at {A} f (y ∷ ys) zero x e = let same : y ≡ x = cc in ap (λ (z : A). Some (f z)) same
map_at {A} f (y ∷ ys) (suc i) x e = map_at f ys i x e

-- ---- each rule

-- A rule of a list comes to its rows, for names that are among some.
pub record Comes {R : Type 0} (rules : RulesAt R) (source : Source) (results : List Ruled) (i : ℕ) (rule : R) (names : NameSet) : Type 0 where
  pub rows : Ruled
  pub own : NameSet
  pub at : slice_get results i ≡ Some rows
  pub means : Means source (rules.meaning rule) (Gives rows own)
  pub within : (q : Name) → IsTrue (set.contains own q) → IsTrue (set.contains names q)

-- Some rule of a list asks for a name.
pub record AskedBy {R : Type 0} (rules : RulesAt R) (source : Source) (held : List R) (q : Name) : Type 0 where
  pub i : ℕ
  pub rule : R
  pub rows : Ruled
  pub own : NameSet
  pub at : slice_get held i ≡ Some rule
  pub means : Means source (rules.meaning rule) (Gives rows own)
  pub asked : IsTrue (set.contains own q)

module _ {R : Type 0} (rules : RulesAt R) (source : Source) where
  pub each_comes : (held : List R) (results : List Ruled) (names : NameSet) → ComeToRows rules source held results names → (i : ℕ) (rule : R) → slice_get held i ≡ Some rule → Comes rules source results i rule names
  each_comes [] results names come i rule e = absurd cc
  each_comes (x ∷ held) [] names come i rule e = absurd come
  each_comes (x ∷ held) (rows ∷ results) names come zero rule e =
      let same : x ≡ rule = cc in
      record {
        rows = rows;
        own = come.own;
        at = refl;
        means = subst (λ (r : R). Means source (rules.meaning r) (Gives rows come.own)) same come.first;
        within = in_first come.own come.others names come.all;
      }
  each_comes (x ∷ held) (rows ∷ results) names come (suc i) rule e =
      let rest = each_comes held results come.others come.rest i rule e in
      record {
        rows = rest.rows;
        own = rest.own;
        at = rest.at;
        means = rest.means;
        within = λ q here. in_rest come.own come.others names come.all q (rest.within q here);
      }

  none_asked : (q : Name) (names : NameSet) → names ≡ set.empty → IsTrue (set.contains names q) → ⊥
  none_asked q names e here =
      let never : false ≡ true = sym (contains-empty order q) ∙ ap (λ (s : NameSet). set.contains s q) (sym e) ∙ here in absurd cc

  pub some_asks : (held : List R) (results : List Ruled) (names : NameSet) → ComeToRows rules source held results names → (q : Name) → IsTrue (set.contains names q) → AskedBy rules source held q
  some_asks [] [] names come q here = absurd (none_asked q names come here)
  some_asks [] (rows ∷ results) names come q here = absurd come
  some_asks (rule ∷ held) [] names come q here = absurd come
  some_asks (rule ∷ held) (rows ∷ results) names come q here = by_own (set.contains come.own q) refl (λ there. some_asks held results come.others come.rest q there) where
    either : (set.contains come.own q || set.contains come.others q) ≡ true
    either = sym (contains-union nat_list_cmp_total come.own come.others q) ∙ ap (λ (s : NameSet). set.contains s q) (sym come.all) ∙ here

    by_own : (b : Bool) → set.contains come.own q ≡ b → (IsTrue (set.contains come.others q) → AskedBy rules source held q) → AskedBy rules source (rule ∷ held) q
    by_own true is others = record { i = 0; rule = rule; rows = rows; own = come.own; at = refl; means = come.first; asked = is }
    by_own false is others =
        let there : IsTrue (set.contains come.others q) = sym (ap (λ (b : Bool). b || set.contains come.others q) is) ∙ either in
        let rest = others there in
        record { i = suc rest.i; rule = rest.rule; rows = rest.rows; own = rest.own; at = rest.at; means = rest.means; asked = rest.asked }

-- ---- the first rules

given : {A : Type 0} (v w : A) (s t : NameSet) → Gives v s ≡ Gives w t → s ≡ t
given v w s t e = cc

module _ {R : Type 0} (rules : RulesAt R) (source : Source) (held : List R) (results : List Ruled) (names : NameSet) (come : ComeToRows rules source held results names) (r : FileRows) (kept : (i : ℕ) (rows : Ruled) → slice_get results i ≡ Some rows → rows_of r i ≡ rows) where
  abbrev keys : List Key
  keys = map rules.key held

  -- Some of the first rules come to their rows; the names for which they ask are among those of all, and those of each rule of their keys are there.
  record FirstsCome (fs : List First) : Type 0 where
    together : NameSet
    come_to : ComeTo rules source (map (key_rows r) fs) together
    within : (q : Name) → IsTrue (set.contains together q) → IsTrue (set.contains names q)
    covers : (rule : R) (rows : Ruled) (own : NameSet) → Means source (rules.meaning rule) (Gives rows own) → is_there fs (rules.key rule) ≡ true → (q : Name) → IsTrue (set.contains own q) → IsTrue (set.contains together q)

  firsts_come : (fs : List First) → AllByRecursion (HasItsKey keys) fs → FirstsCome fs
  firsts_come [] all = record {
    together = set.empty;
    come_to = refl;
    within = λ q here. absurd (none_asked rules source q set.empty refl here);
    covers = λ rule rows own means there. absurd cc;
  }
  firsts_come (f ∷ fs) all =
      let rest = firsts_come fs all.1 in
      let one = mapped rules.key held f.1 f.0 all.0 in
      let rule : R = one.0 in
      let comes = each_comes rules source held results names come f.1 rule one.1 in
      let says : rows_of r f.1 ≡ comes.rows = kept f.1 comes.rows comes.at in
      let means : Means source (rules.meaning rule) (Gives (rows_of r f.1) comes.own) = subst (λ (rows : Ruled). Means source (rules.meaning rule) (Gives rows comes.own)) (sym says) comes.means in
      let all_names : NameSet = set.union comes.own rest.together in
      record {
        together = all_names;
        come_to = record { own = comes.own; others = rest.together; first = record { rule = rule; key_is = one.2; means = means }; rest = rest.come_to; all = refl };
        within = λ q here. in_either comes.own rest.together q here (comes.within q) (rest.within q);
        covers = λ other rows own other_means there q here. covered rest rule comes.rows comes.own one.2 comes.means other rows own other_means q here (is_at (byte_order (rules.key other)) f.0) refl there;
      }
    where
      in_either : (own others : NameSet) (q : Name) → IsTrue (set.contains (set.union own others) q) → (IsTrue (set.contains own q) → IsTrue (set.contains names q)) → (IsTrue (set.contains others q) → IsTrue (set.contains names q)) → IsTrue (set.contains names q)
      in_either own others q here left right = by_own (set.contains own q) refl where
        either : (set.contains own q || set.contains others q) ≡ true
        either = sym (contains-union nat_list_cmp_total own others q) ∙ here

        by_own : (b : Bool) → set.contains own q ≡ b → IsTrue (set.contains names q)
        by_own true is = left is
        by_own false is = right (sym (ap (λ (b : Bool). b || set.contains others q) is) ∙ either)

      covered : (rest : FirstsCome fs) (rule : R) (first_rows : Ruled) (first_own : NameSet) → rules.key rule ≡ f.0 → Means source (rules.meaning rule) (Gives first_rows first_own)
          → (other : R) (rows : Ruled) (own : NameSet) → Means source (rules.meaning other) (Gives rows own) → (q : Name) → IsTrue (set.contains own q)
          → (b : Bool) → is_at (byte_order (rules.key other)) f.0 ≡ b → is_there (f ∷ fs) (rules.key other) ≡ true → IsTrue (set.contains (set.union first_own rest.together) q)
      covered rest rule first_rows first_own key_is first_means other rows own means q here true at there =
          let same_key : rules.key rule ≡ rules.key other = key_is ∙ sym (same_name (rules.key other) f.0 at) in
          let same_meaning : rules.meaning other ≡ rules.meaning rule = sym (rules.one_meaning rule other same_key) in
          let own_is : own ≡ first_own = given rows first_rows own first_own (means-one source (rules.meaning rule) (Gives rows own) (Gives first_rows first_own) (subst (λ (m : Asking Ruled). Means source m (Gives rows own)) same_meaning means) first_means) in
          in_first first_own rest.together (set.union first_own rest.together) refl q (ap (λ (s : NameSet). set.contains s q) (sym own_is) ∙ here)
      covered rest rule first_rows first_own key_is first_means other rows own means q here false at there =
          in_rest first_own rest.together (set.union first_own rest.together) refl q (rest.covers other rows own means (later at there) q here)
        where
          later : is_at (byte_order (rules.key other)) f.0 ≡ false → is_there (f ∷ fs) (rules.key other) ≡ true → is_there fs (rules.key other) ≡ true
          later apart among = sym (ap (λ (b : Bool). is_some (cond b (Some f.1) (lookup (is_at (byte_order (rules.key other))) fs))) apart) ∙ among

  same_test : (a b : Bool) → (a ≡ true → b ≡ true) → (b ≡ true → a ≡ true) → a ≡ b
  same_test true true there back = refl
  same_test false false there back = refl
  same_test true false there back = sym (there refl)
  same_test false true there back = back refl

  -- the first rules of all keys
  pub all_come : ComeTo rules source (map (key_rows r) (first_rules keys)) names
  all_come =
      let found = firsts_come (first_rules keys) (have_their_keys keys) in
      subst (λ (s : NameSet). ComeTo rules source (map (key_rows r) (first_rules keys)) s) (same found) found.come_to
    where
      back : (found : FirstsCome (first_rules keys)) (q : Name) → IsTrue (set.contains names q) → IsTrue (set.contains found.together q)
      back found q here =
          let asked = some_asks rules source held results names come q here in
          found.covers asked.rule asked.rows asked.own asked.means (are_there keys asked.i (rules.key asked.rule) (map_at rules.key held asked.i asked.rule asked.at)) q asked.asked

      same : (found : FirstsCome (first_rules keys)) → found.together ≡ names
      same found = same_set nat_list_cmp_total (slice_cmp-IsAntisymmetric nat_cmp-IsAntisymmetric) found.together names (λ q. same_test (set.contains found.together q) (set.contains names q) (found.within q) (back found q))

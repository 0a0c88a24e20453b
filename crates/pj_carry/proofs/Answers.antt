-- The answers that are carried over.
use Rattle.std.proofs.Common.{◌≡◌, Bool, true, false, cond, ◌||◌, List, [], ◌∷◌, ◌++◌, Option, Some, None, refl, sym, ap, ◌∙◌}
use Rattle.std.specs.Prelude.{nat_eq}
use Rattle.std.specs.Option.{option_map}
use Rattle.std.specs.List.{AllByRecursion, flat_map}
use Rattle.std.specs.Cmp.Lexicographic.{bytes_decides, pointwise}
use Rattle.std.specs.BTreeMap.{is_at}
use Rattle.std.proofs.lemmas.List.Concat.{flat_map-cons}
use Rattle.pj_names.specs.declared.answer.Answer.{Answer}
use Rattle.pj_names.specs.ClassName.{Name}
use Rattle.pj_names.specs.Meaning.{found_in}
use Rattle.pj_cache.specs.Found.{first_named}
use Rattle.pj_cache.specs.Places.{byte_order}
use Rattle.pj_cache.specs.declared.cache.CachedResult.{CachedResult}
use Rattle.pj_cache.specs.declared.cache.Entry.{Entry}
use Rattle.pj_cache_format.specs.FormatTwo.{names_of, results_of, with_more}
use Rattle.pj_reuse.specs.Serving.{has_key}
use Rattle.pj_fitting.proofs.Sets.{same_name}
use Rattle.pj_fitting.proofs.Named.{all_each, has_more, itself, members}
use Rattle.pj_carry.specs.Carried.{answers_for, listed}

abbrev Pair : Type 0
Pair = Name × Answer

abbrev first : List Pair → Name → Option Pair
first answers name = first_named (λ (a : Pair). a.0) answers name

abbrev answer_of : Option Pair → Option Answer
answer_of o = option_map (λ (a : Pair). a.1) o

found_by : (b : Bool) (a : Pair) (rest : Option Answer) (others : Option Pair) → rest ≡ answer_of others → cond b (Some a.1) rest ≡ answer_of (cond b (Some a) others)
found_by true a rest others e = refl
found_by false a rest others e = e

found_is : (answers : List Pair) (name : Name) → found_in answers name ≡ answer_of (first answers name)
found_is [] name = refl
found_is (a ∷ answers) name = found_by (pointwise nat_eq a.0 name) a (found_in answers name) (first answers name) (found_is answers name)

named_by : (b : Bool) (x a : Pair) (others : Option Pair) (name : Name) → pointwise nat_eq x.0 name ≡ b → cond b (Some x) others ≡ Some a → (others ≡ Some a → a.0 ≡ name) → a.0 ≡ name
named_by true x a others name is e rest = let same : x ≡ a = cc in ap (λ (p : Pair). p.0) (sym same) ∙ (bytes_decides x.0 name).0 is
named_by false x a others name is e rest = rest e

first_name : (answers : List Pair) (name : Name) (a : Pair) → first answers name ≡ Some a → a.0 ≡ name
first_name [] name a e = absurd cc
first_name (x ∷ answers) name a e = named_by (pointwise nat_eq x.0 name) x a (first answers name) name refl e (λ rest. first_name answers name a rest)

no_answer : (b : Bool) (o : Option Answer) → o ≡ None → None ≡ cond b o None
no_answer true o e = sym e
no_answer false o e = refl

differs : (a b : Name) (t : Bool) → pointwise nat_eq a b ≡ t → is_at (byte_order b) a ≡ false → t ≡ false
differs a b true same apart =
    let e : a ≡ b = (bytes_decides a b).0 same in
    let never : true ≡ false = sym (itself b) ∙ ap (λ (x : Name). is_at (byte_order b) x) (sym e) ∙ apart in absurd cc
differs a b false same apart = refl

module _ (answers : List Pair) where
  one_more : (o : Option Pair) (n : Name) (ns : List Name) (q : Name) (t : Bool) → first answers n ≡ o → is_at (byte_order q) n ≡ t → found_in (answers_for answers ns) q ≡ cond (has_key ns q) (found_in answers q) None
      → found_in (listed o ++ answers_for answers ns) q ≡ cond (t || has_key ns q) (found_in answers q) None
  one_more (Some a) n ns q true is at rest =
      let same : q ≡ n = same_name q n at in
      let name_is : a.0 ≡ q = first_name answers n a is ∙ sym same in
      let here : found_in answers q ≡ Some a.1 = found_is answers q ∙ ap (λ (m : Name). answer_of (first answers m)) same ∙ ap answer_of is in
      ap (λ (b : Bool). cond b (Some a.1) (found_in (answers_for answers ns) q)) ((bytes_decides a.0 q).1 name_is) ∙ sym here
  one_more (Some a) n ns q false is at rest =
      let name_is : a.0 ≡ n = first_name answers n a is in
      let other : pointwise nat_eq a.0 q ≡ false = differs a.0 q (pointwise nat_eq a.0 q) refl (ap (λ (x : Name). is_at (byte_order q) x) name_is ∙ at) in
      ap (λ (b : Bool). cond b (Some a.1) (found_in (answers_for answers ns) q)) other ∙ rest
  one_more None n ns q true is at rest =
      let same : q ≡ n = same_name q n at in
      let none : found_in answers q ≡ None = found_is answers q ∙ ap (λ (m : Name). answer_of (first answers m)) same ∙ ap answer_of is in
      rest ∙ sym (no_answer (has_key ns q) (found_in answers q) none) ∙ sym none
  one_more None n ns q false is at rest = rest

  -- for these names there are the answers that there were, and for others none
  found_for : (names : List Name) (q : Name) → found_in (answers_for answers names) q ≡ cond (has_key names q) (found_in answers q) None
  found_for [] q = refl
  found_for (n ∷ ns) q =
      ap (λ (l : List Pair). found_in l q) (flat_map-cons (λ (name : Name). listed (first answers name)) n ns)
      ∙ one_more (first answers n) n ns q (is_at (byte_order q) n) refl refl (found_for ns q)

  abbrev pub IsKept : List Name → Name → Type 0
  IsKept names q = found_in (answers_for answers names) q ≡ found_in answers q

  each_kept : (raw names : List Name) → AllByRecursion (λ (n : Name). has_key raw n ≡ true) names → AllByRecursion (IsKept (with_more [] raw)) names
  each_kept raw [] here = tt
  each_kept raw (n ∷ ns) here = (
    found_for (with_more [] raw) n ∙ ap (λ (b : Bool). cond b (found_in answers n) None) (has_more [] raw n here.0),
    each_kept raw ns here.1,
  )

  -- each name of each result of each entry has its answer
  pub names_kept : (entries : List Entry) → AllByRecursion (λ (e : Entry). AllByRecursion (λ (r : CachedResult). AllByRecursion (IsKept (names_of entries)) r.names) e.results) entries
  names_kept entries =
      let raw : List Name = flat_map (λ (r : CachedResult). r.names) (results_of entries) in
      all_each (λ (r : CachedResult). AllByRecursion (IsKept (names_of entries)) r.names) (λ (e : Entry). e.results) entries
      (all_each (IsKept (names_of entries)) (λ (r : CachedResult). r.names) (results_of entries) (each_kept raw raw (members [] raw)))

-- A map of places stays one as a part grows.
use Rattle.std.proofs.Common.{◌≡◌, ◌∙◌, ℕ, zero, suc, ◌+◌, List, [], ◌∷◌, ◌++◌, length, Bool, true, false, cond, Option, Some, None, refl, sym, ap, subst, arith, Ordering}
use mathlib.Core.Bool.{true≢false}
use mathlib.Core.Option.{some, some-injective, some-ne-none}
use lib.ListN.{get_elem?}
use Rattle.std.specs.Option.{option_or}
use Rattle.std.specs.List.{position_from}
use Rattle.std.specs.declared.cmp.Ordering.TheVariants.{Less, Equal, Greater}
use Rattle.std.specs.Map.{lookup}
use Rattle.std.specs.BTreeMap.{is_at}
use Rattle.std.specs.Cmp.{eq_by_cmp_equiv, tied_itself}
use Rattle.std.specs.Cmp.Lexicographic.{nat_list_cmp_total, slice_cmp}
use Rattle.std.specs.Ordering.{is_eq, nat_cmp}
use Rattle.std.specs.FinSet.{nat_cmp-IsAntisymmetric, slice_cmp-IsAntisymmetric}
use Rattle.pj_names.specs.ClassName.{Name}
use Rattle.pj_table.specs.Book.{Lacks, Stands}
use Rattle.pj_table.specs.Index.{IsIndex, is_named}
use Rattle.pj_table.specs.declared.view.Entry.{Entry}

same : (name key : Name) (o : Ordering) → slice_cmp nat_cmp name key ≡ o → is_eq o ≡ true → key ≡ name
same name key Equal is tied = sym (slice_cmp-IsAntisymmetric nat_cmp-IsAntisymmetric name key is)
same name key Less is tied = absurd (cc)
same name key Greater is tied = absurd (cc)

-- an entry has a name where the test says so
named_is : (name : Name) (e : Entry) → is_named name e ≡ true → e.name ≡ name
named_is name e is = same name e.name (slice_cmp nat_cmp name e.name) refl is

is_itself : (name : Name) → is_at (slice_cmp nat_cmp name) name ≡ true
is_itself name = ap is_eq (tied_itself nat_list_cmp_total name)

is_named_of : (name : Name) (e : Entry) → e.name ≡ name → is_named name e ≡ true
is_named_of name e is = ap (λ (n : Name). is_at (slice_cmp nat_cmp name) n) is ∙ is_itself name

or_none : (o : Option ℕ) → option_or o None ≡ o
or_none None = refl
or_none (Some k) = refl

push_position : (t : Entry → Bool) (i : ℕ) (es : List Entry) (e : Entry) → position_from t i (es ++ e ∷ []) ≡ option_or (position_from t i es) (cond (t e) (Some (i + length es)) None)
push_position t i [] e = let n : i ≡ i + 0 = omega arith in ap (λ (k : ℕ). cond (t e) (Some k) None) n
push_position t i (x ∷ xs) e =
    elim (t x) as (λ b. cond b (Some i) (position_from t (i + 1) (xs ++ e ∷ [])) ≡ option_or (cond b (Some i) (position_from t (i + 1) xs)) (cond (t e) (Some (i + suc (length xs))) None)) [
      | true ↦ refl
      | false ↦ (let n : i + 1 + length xs ≡ i + suc (length xs) = omega arith in push_position t (i + 1) xs e ∙ ap (λ (k : ℕ). option_or (position_from t (i + 1) xs) (cond (t e) (Some k) None)) n)
    ]

stands_at : (t : Entry → Bool) (i : ℕ) (es : List Entry) (k : ℕ) → position_from t i es ≡ Some k → (j : ℕ) × (e : Entry) × (k ≡ i + j) × (get_elem? es j ≡ some e) × (t e ≡ true)
stands_at t i [] k is = absurd (cc)
stands_at t i (x ∷ xs) k is =
    elim (t x) as (λ b. t x ≡ b → cond b (Some i) (position_from t (i + 1) xs) ≡ Some k → (j : ℕ) × (e : Entry) × (k ≡ i + j) × (get_elem? (x ∷ xs) j ≡ some e) × (t e ≡ true)) [
      | true ↦ (λ it_is here. let it : i ≡ k = cc in (0, x, omega arith, refl, it_is))
      | false ↦ (λ other later. let r = stands_at t (i + 1) xs k later in let at = r.2 in (suc r.0, r.1, omega arith, r.3, r.4))
    ] refl is

none_at : (t : Entry → Bool) (i : ℕ) (es : List Entry) → position_from t i es ≡ None → (j : ℕ) (e : Entry) → get_elem? es j ≡ some e → t e ≡ true → ⊥
none_at t i [] is j e at tested = some-ne-none e (sym at)
none_at t i (x ∷ xs) is j e at tested =
    elim (t x) as (λ b. t x ≡ b → cond b (Some i) (position_from t (i + 1) xs) ≡ None → ⊥) [
      | true ↦ (λ here found. cc)
      | false ↦ (λ other later. elim j as (λ j. get_elem? (x ∷ xs) j ≡ some e → ⊥) [
        | zero ↦ (λ first. true≢false (sym tested ∙ ap t (sym (some-injective x e first)) ∙ other))
        | suc j ↦ (λ behind. none_at t (i + 1) xs later j e behind tested)
      ] at)
    ] refl is

absent_position : (name : Name) (i : ℕ) (es : List Entry) → Lacks es name → position_from (is_named name) i es ≡ None
absent_position name i [] lacks = refl
absent_position name i (x ∷ xs) lacks =
    elim (is_named name x) as (λ b. is_named name x ≡ b → cond b (Some i) (position_from (is_named name) (i + 1) xs) ≡ None) [
      | true ↦ (λ it_is. absurd (lacks 0 x refl (named_is name x it_is)))
      | false ↦ (λ other. absent_position name (i + 1) xs (λ k e at. lacks (suc k) e at))
    ] refl

-- what is found in the map stands there
pub found_stands : (es : List Entry) (places : List (Name × ℕ)) (name : Name) (k : ℕ) → IsIndex es places → lookup (is_at (slice_cmp nat_cmp name)) places ≡ Some k → Stands es k name
found_stands es places name k index found =
    let r = stands_at (is_named name) 0 es k (sym (index name) ∙ found) in let at : k ≡ r.0 = (let e = r.2 in omega arith) in
    (r.1, ap (get_elem? es) at ∙ r.3, named_is name r.1 r.4)

-- what is not found is not there
pub missing_lacks : (es : List Entry) (places : List (Name × ℕ)) (name : Name) → IsIndex es places → lookup (is_at (slice_cmp nat_cmp name)) places ≡ None → Lacks es name
missing_lacks es places name index missing k e at is = none_at (is_named name) 0 es (sym (index name) ∙ missing) k e at (is_named_of name e is)

-- one entry more
pub index_push : (es : List Entry) (e : Entry) (old new : List (Name × ℕ)) (key : Name) (place : ℕ) → key ≡ e.name → place ≡ length es → Lacks es e.name → IsIndex es old
    → ((q : Name) → lookup (is_at (slice_cmp nat_cmp q)) new ≡ cond (is_at (slice_cmp nat_cmp key) q) (Some place) (lookup (is_at (slice_cmp nat_cmp q)) old)) → IsIndex (es ++ e ∷ []) new
index_push es e old new key place same_key here lacks index updates q =
    let turned : is_at (slice_cmp nat_cmp e.name) q ≡ is_named q e = (eq_by_cmp_equiv nat_list_cmp_total).symm e.name q in
    updates q ∙ ap (λ (n : Name). cond (is_at (slice_cmp nat_cmp n) q) (Some place) (lookup (is_at (slice_cmp nat_cmp q)) old)) same_key ∙ ap (λ (o : Option ℕ). cond (is_at (slice_cmp nat_cmp e.name) q) (Some place) o) (index q) ∙ ap (λ (b : Bool). cond b (Some place) (position_from (is_named q) 0 es)) turned
    ∙ elim (is_named q e) as (λ b. is_named q e ≡ b → cond b (Some place) (position_from (is_named q) 0 es) ≡ option_or (position_from (is_named q) 0 es) (cond b (Some (0 + length es)) None)) [
      | true ↦ (λ it_is. let name : e.name ≡ q = named_is q e it_is in
          let none-there : position_from (is_named q) 0 es ≡ None = absent_position q 0 es (subst (λ (n : Name). Lacks es n) name lacks) in
          (let n : place ≡ 0 + length es = omega (arith, here) in ap (λ (k : ℕ). Some k) n) ∙ sym (ap (λ (o : Option ℕ). option_or o (Some (0 + length es))) none-there))
      | false ↦ (λ other. sym (or_none (position_from (is_named q) 0 es)))
    ] refl
    ∙ sym (push_position (is_named q) 0 es e)

-- without entries and without pairs
pub index_empty : (es : List Entry) (places : List (Name × ℕ)) → es ≡ [] → places ≡ [] → IsIndex es places
index_empty es places no-entries no-places name = ap (lookup (is_at (slice_cmp nat_cmp name))) no-places ∙ sym (ap (position_from (is_named name) 0) no-entries)

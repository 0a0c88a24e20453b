-- The first rules of keys: each has its key, and each key is there.
use Rattle.std.proofs.Common.{◌≡◌, ℕ, zero, suc, ◌+◌, Bool, true, false, cond, List, [], ◌∷◌, Option, Some, None, refl, sym, ap, ◌∙◌, zero-add, arith}
use Rattle.std.specs.Prelude.{is_some}
use Rattle.std.specs.List.{AllByRecursion, slice_get}
use Rattle.std.specs.Cmp.{tied_itself}
use Rattle.std.specs.Cmp.Lexicographic.{nat_list_cmp_total}
use Rattle.std.specs.BTreeMap.{insert_entry, is_at}
use Rattle.std.specs.Map.{lookup}
use Rattle.std.specs.declared.cmp.Ordering.{Ordering}
use Rattle.std.specs.declared.cmp.Ordering.TheVariants.{Less, Equal, Greater}
use Rattle.std.specs.Ordering.{is_eq, match_ordering}
use Rattle.pj_cache.specs.Places.{byte_order}
use Rattle.pj_carry.specs.Carried.{Key, First, with_rule, with_rules, first_rules}
use Rattle.pj_carry.proofs.Firsts.{rule_all}
use Rattle.pj_fitting.proofs.Sets.{same_name}

-- ---- each has its key

abbrev pub HasItsKey : List Key → First → Type 0
HasItsKey keys f = slice_get keys f.1 ≡ Some f.0

none_more : (a : ℕ) → a ≡ a + 0
none_more a = omega arith

one_on : (a b : ℕ) → (a + 1) + b ≡ a + suc b
one_on a b = omega arith

its_from : (keys : List Key) (held : List First) (rule : ℕ) (rest : List Key) → ((j : ℕ) → slice_get keys (rule + j) ≡ slice_get rest j) → AllByRecursion (HasItsKey keys) held → AllByRecursion (HasItsKey keys) (with_rules held rule rest)
its_from keys held rule [] same all = all
its_from keys held rule (key ∷ rest) same all =
    let here : slice_get keys rule ≡ Some key = ap (slice_get keys) (none_more rule) ∙ same 0 in
    its_from keys (with_rule held key rule) (rule + 1) rest
    (λ j. ap (slice_get keys) (one_on rule j) ∙ same (suc j))
    (rule_all (HasItsKey keys) held key rule (λ e tied. here ∙ ap (λ (k : Key). Some k) (same_name key e.0 (ap is_eq tied))) here all)

pub have_their_keys : (keys : List Key) → AllByRecursion (HasItsKey keys) (first_rules keys)
have_their_keys keys = its_from keys [] 0 keys (λ j. ap (slice_get keys) (zero-add j)) tt

-- ---- each key is there

abbrev pub is_there : List First → Key → Bool
is_there fs key = is_some (lookup (is_at (byte_order key)) fs)

itself : (x : Key) → is_at (byte_order x) x ≡ true
itself x = ap is_eq (tied_itself nat_list_cmp_total x)

some_by : (b : Bool) (v : ℕ) (o : Option ℕ) → (b ≡ false → is_some o ≡ true) → is_some (cond b (Some v) o) ≡ true
some_by true v o rest = refl
some_by false v o rest = rest refl

behind : (b : Bool) (v : ℕ) (o : Option ℕ) → b ≡ false → is_some (cond b (Some v) o) ≡ true → is_some o ≡ true
behind true v o e h = absurd cc
behind false v o e h = h

-- what is there stays
put_stays : (es : List First) (k : Key) (v : ℕ) (q : Key) → is_there es q ≡ true → is_there (insert_entry byte_order es k v) q ≡ true
put_stays [] k v q here = absurd cc
put_stays (e ∷ es) k v q here = by_order (byte_order k e.0) (λ there. put_stays es k v q there) where
  by_order : (o : Ordering) → (is_there es q ≡ true → is_there (insert_entry byte_order es k v) q ≡ true) → is_there (match_ordering o ((k, v) ∷ e ∷ es) ((e.0, v) ∷ es) (e ∷ insert_entry byte_order es k v)) q ≡ true
  by_order Less rest = some_by (is_at (byte_order q) k) v (lookup (is_at (byte_order q)) (e ∷ es)) (λ apart. here)
  by_order Equal rest = some_by (is_at (byte_order q) e.0) v (lookup (is_at (byte_order q)) es) (λ apart. behind (is_at (byte_order q) e.0) e.1 (lookup (is_at (byte_order q)) es) apart here)
  by_order Greater rest = some_by (is_at (byte_order q) e.0) e.1 (lookup (is_at (byte_order q)) (insert_entry byte_order es k v)) (λ apart. rest (behind (is_at (byte_order q) e.0) e.1 (lookup (is_at (byte_order q)) es) apart here))

-- what is put is there
put_here : (es : List First) (k : Key) (v : ℕ) → is_there (insert_entry byte_order es k v) k ≡ true
put_here [] k v = some_by (is_at (byte_order k) k) v None (λ apart. let never : true ≡ false = sym (itself k) ∙ apart in absurd cc)
put_here (e ∷ es) k v = by_order (byte_order k e.0) refl (put_here es k v) where
  by_order : (o : Ordering) → byte_order k e.0 ≡ o → is_there (insert_entry byte_order es k v) k ≡ true → is_there (match_ordering o ((k, v) ∷ e ∷ es) ((e.0, v) ∷ es) (e ∷ insert_entry byte_order es k v)) k ≡ true
  by_order Less is rest = some_by (is_at (byte_order k) k) v (lookup (is_at (byte_order k)) (e ∷ es)) (λ apart. let never : true ≡ false = sym (itself k) ∙ apart in absurd cc)
  by_order Equal is rest = some_by (is_at (byte_order k) e.0) v (lookup (is_at (byte_order k)) es) (λ apart. let never : true ≡ false = sym (ap is_eq is) ∙ apart in absurd cc)
  by_order Greater is rest = some_by (is_at (byte_order k) e.0) e.1 (lookup (is_at (byte_order k)) (insert_entry byte_order es k v)) (λ apart. rest)

rule_stays : (held : List First) (k : Key) (v : ℕ) (q : Key) → is_there held q ≡ true → is_there (with_rule held k v) q ≡ true
rule_stays held k v q here = by_held (is_there held k) where
  by_held : (b : Bool) → is_there (cond b held (insert_entry byte_order held k v)) q ≡ true
  by_held true = here
  by_held false = put_stays held k v q here

rule_here : (held : List First) (k : Key) (v : ℕ) → is_there (with_rule held k v) k ≡ true
rule_here held k v = by_held (is_there held k) refl where
  by_held : (b : Bool) → is_there held k ≡ b → is_there (cond b held (insert_entry byte_order held k v)) k ≡ true
  by_held true is = is
  by_held false is = put_here held k v

rules_stay : (held : List First) (rule : ℕ) (keys : List Key) (q : Key) → is_there held q ≡ true → is_there (with_rules held rule keys) q ≡ true
rules_stay held rule [] q here = here
rules_stay held rule (key ∷ keys) q here = rules_stay (with_rule held key rule) (rule + 1) keys q (rule_stays held key rule q here)

there_from : (held : List First) (rule : ℕ) (keys : List Key) (i : ℕ) (q : Key) → slice_get keys i ≡ Some q → is_there (with_rules held rule keys) q ≡ true
there_from held rule [] i q at = absurd cc
there_from held rule (key ∷ keys) zero q at =
    let same : key ≡ q = cc in
    rules_stay (with_rule held key rule) (rule + 1) keys q (ap (λ (k : Key). is_there (with_rule held key rule) k) (sym same) ∙ rule_here held key rule)
there_from held rule (key ∷ keys) (suc i) q at = there_from (with_rule held key rule) (rule + 1) keys i q at

pub are_there : (keys : List Key) (i : ℕ) (q : Key) → slice_get keys i ≡ Some q → is_there (first_rules keys) q ≡ true
are_there keys i q at = there_from [] 0 keys i q at

-- The first rules of keys.
use Rattle.std.proofs.Common.{◌≡◌, ℕ, ◌+◌, ◌<◌, ◌≤◌, Bool, true, false, cond, List, [], ◌∷◌, length, refl, arith}
use Rattle.std.specs.Prelude.{is_some}
use Rattle.std.specs.List.{AllByRecursion, All}
use Rattle.std.specs.BTreeMap.{insert_entry, is_at}
use Rattle.std.specs.Map.{lookup}
use Rattle.std.specs.declared.cmp.Ordering.{Ordering}
use Rattle.std.specs.declared.cmp.Ordering.TheVariants.{Less, Equal, Greater}
use Rattle.std.specs.Ordering.{match_ordering}
use Rattle.std.proofs.lemmas.List.Elements.{All-from_recursion}
use Rattle.pj_cache.specs.Places.{byte_order}
use Rattle.pj_carry.specs.Carried.{Key, First, with_rule, with_rules, first_rules}

module _ (P : First → Type 0) where
  -- what holds of a pair holds of all where it is put to such
  pub put_all : (es : List First) (k : Key) (v : ℕ) → ((e : First) → byte_order k e.0 ≡ Equal → P (e.0, v)) → P (k, v) → AllByRecursion P es → AllByRecursion P (insert_entry byte_order es k v)
  put_all [] k v tied here all = (here, tt)
  put_all (e ∷ es) k v tied here all = by_order (byte_order k e.0) refl (put_all es k v tied here all.1) where
    by_order : (o : Ordering) → byte_order k e.0 ≡ o → AllByRecursion P (insert_entry byte_order es k v) → AllByRecursion P (match_ordering o ((k, v) ∷ e ∷ es) ((e.0, v) ∷ es) (e ∷ insert_entry byte_order es k v))
    by_order Less is rest = (here, all)
    by_order Equal is rest = (tied e is, all.1)
    by_order Greater is rest = (all.0, rest)

  pub rule_all : (held : List First) (k : Key) (v : ℕ) → ((e : First) → byte_order k e.0 ≡ Equal → P (e.0, v)) → P (k, v) → AllByRecursion P held → AllByRecursion P (with_rule held k v)
  rule_all held k v tied here all = by_held (is_some (lookup (is_at (byte_order k)) held)) where
    by_held : (b : Bool) → AllByRecursion P (cond b held (insert_entry byte_order held k v))
    by_held true = all
    by_held false = put_all held k v tied here all

below_from : (n : ℕ) (held : List First) (rule : ℕ) (keys : List Key) → rule + length keys ≤ n → AllByRecursion (λ (f : First). f.1 < n) held → AllByRecursion (λ (f : First). f.1 < n) (with_rules held rule keys)
below_from n held rule [] le all = all
below_from n held rule (key ∷ keys) le all =
    below_from n (with_rule held key rule) (rule + 1) keys (omega (arith, le))
    (rule_all (λ (f : First). f.1 < n) held key rule (λ e is. omega (arith, le)) (omega (arith, le)) all)

-- each is one of the rules
pub below : (keys : List Key) → All (λ (f : First). f.1 < length keys) (first_rules keys)
below keys = All-from_recursion (λ (f : First). f.1 < length keys) (first_rules keys) (below_from (length keys) [] 0 keys (omega arith) tt)

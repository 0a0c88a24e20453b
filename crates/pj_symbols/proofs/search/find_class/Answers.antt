use Rattle.std.proofs.Common.{rules, ◌≡◌, ◌≢◌, ℕ, ◌<◌, ◌≤◌, List, length, arith, ap, sym, ◌∙◌, subst, Some, None, true, false, get_or, refl}
use Rattle.std.proofs.Math.Dec.{ltb}
use Rattle.std.specs.List.{slice_get}
use Rattle.std.specs.Option.{option_copied}
use Rattle.std.specs.List.Sorted.{IsPartitionPoint, IsPartitionedBy}
use Rattle.std.proofs.lemmas.Bool.{ltb-false}
use Rattle.std.proofs.lemmas.Option.{slice_get_read, slice_get_within, get_or_from_slice_get}
use Rattle.std.proofs.lemmas.List.Sorted.{IsPartitionPoint-from_clause, IsPartitionedBy-ltb}
use Rattle.pj_tree.specs.declared.node.Node.{Node}
use Rattle.pj_symbols.specs.Order.{IsRisingFrom}
use Rattle.pj_symbols.specs.Symbols.{class_in}
use Rattle.pj_symbols.specs.declared.class.Class.{Class}
use Rattle.pj_symbols.proofs.Found.{rising_order, found_at, none_at}
use Rattle.pj_symbols.proofs.search.find_class.Goals.{After-partition_point-place}
use Rattle.pj_symbols.proofs.search.find_class.Goals as goal

-- classes that rise are split by the test
parted : (es : List Class) (n : ℕ) → IsRisingFrom 0 es → IsPartitionedBy (λ (e : Class). ltb e.node.0 n) es
parted es n rising = IsPartitionedBy-ltb (λ (e : Class). e.node.0) es n (rising_order es 0 rising)

some_is : (e f : Class) → Some e ≡ Some f → e ≡ f
some_is e f is = search (rules, is)

abbrev IsSplitAt : List Class → ℕ → ℕ → Type 0
IsSplitAt es n i = IsPartitionPoint (λ (e : Class). ltb e.node.0 n ≡ true) (λ (e : Class). ltb e.node.0 n ≡ false) es i

-- the class at the split is of the node
is_found : (es : List Class) (n : Node) (i : ℕ) (e : Class) → IsSplitAt es n.0 i → i < length es → e ≡ get_or es i e → e.node.0 ≡ n.0 → class_in es n ≡ Some e
is_found es n i e split inside at is = found_at es n.0 i e split.0 (slice_get_read es (length es) i e refl inside at) is

-- it is not, or there is none
is_none : (es : List Class) (n : Node) (i : ℕ) → IsRisingFrom 0 es → IsSplitAt es n.0 i → ((e : Class) → slice_get es i ≡ Some e → e.node.0 ≢ n.0) → class_in es n ≡ None
is_none es n i rising split other = none_at es 0 n.0 i rising split.0 (λ e at.
    let from : n.0 ≤ e.node.0 = ltb-false e.node.0 n.0 (subst (λ (x : Class). ltb x.node.0 n.0 ≡ false) (get_or_from_slice_get es i e e at) (split.1 i e (omega arith) (slice_get_within es i e at))) in
    omega (arith, from, other e at))

-- where the bisection ends
split_at : (c : After-partition_point-place) → IsSplitAt c.args.classes.now c.args.n.0 c.partition_point-place.result
split_at c =
    IsPartitionPoint-from_clause (λ (e : Class). ltb e.node.0 c.args.n.0) c.args.classes.now c.partition_point-place.result c.partition_point-place.ensures.partitioned
    (parted c.args.classes.now c.args.n.0 c.requires.rising) (λ a r q k. search rules)

pub returns-in_err-class : goal.returns-in_err-class
returns-in_err-class c =
    let es = c.args.classes.now in
    let split : IsSplitAt es c.args.n.0 c.partition_point-place.result = split_at (goal.at.returns-in_err-class c).After-partition_point-place in
    let past : length es ≤ c.partition_point-place.result = ltb-false _ _ (sym c.in_err-class.ensures.lookup.0) in
    ap option_copied c.from_residual.ensures
    ∙ sym (is_none es c.args.n c.partition_point-place.result c.requires.rising split (λ e at. absurd (omega (arith, past, slice_get_within es c.partition_point-place.result e at))))

pub returns-then-class-n : goal.returns-then-class-n
returns-then-class-n c =
    let es = c.args.classes.now in
    let split : IsSplitAt es c.args.n.0 c.partition_point-place.result = split_at (goal.at.returns-then-class-n c).After-partition_point-place in
    let lookup = c.in_ok-class.ensures.lookup in
    sym (is_found es c.args.n c.partition_point-place.result c.in_ok-class.class.now split lookup.3.0 lookup.1 c.if-class-n.true)

pub returns-else-class-n : goal.returns-else-class-n
returns-else-class-n c =
    let es = c.args.classes.now in
    let split : IsSplitAt es c.args.n.0 c.partition_point-place.result = split_at (goal.at.returns-else-class-n c).After-partition_point-place in
    let lookup = c.in_ok-class.ensures.lookup in
    let at : slice_get es c.partition_point-place.result ≡ Some c.in_ok-class.class.now =
    slice_get_read es (length es) c.partition_point-place.result c.in_ok-class.class.now refl lookup.3.0 lookup.1 in
    sym (is_none es c.args.n c.partition_point-place.result c.requires.rising split (λ e there is.
    let one : e ≡ c.in_ok-class.class.now = some_is e c.in_ok-class.class.now (sym there ∙ at) in
    c.if-class-n.false (ap (λ (x : Class). x.node.0) (sym one) ∙ is)))

use Rattle.std.proofs.Common.{rules, ◌≡◌, ◌≢◌, ℕ, ◌<◌, ◌≤◌, List, length, arith, ap, sym, ◌∙◌, subst, Some, None, true, false, get_or, refl}
use Rattle.std.proofs.Math.Dec.{ltb}
use Rattle.std.specs.List.{slice_get}
use Rattle.std.specs.Option.{option_copied}
use Rattle.std.specs.List.Sorted.{IsPartitionPoint, IsPartitionedBy}
use Rattle.std.proofs.lemmas.Bool.{ltb-false}
use Rattle.std.proofs.lemmas.Option.{slice_get_read, slice_get_within, get_or_from_slice_get}
use Rattle.std.proofs.lemmas.List.Sorted.{IsPartitionPoint-from_clause, IsPartitionedBy-ltb}
use Rattle.pj_tree.specs.declared.node.Node.{Node}
use Rattle.pj_parse.specs.Entries.{IsRisingFrom}
use Rattle.pj_parse.specs.PoolText.{text_in}
use Rattle.pj_parse.specs.declared.entry.Entry.{Entry}
use Rattle.pj_parse.proofs.EntryLaws.{rising_order, found_at, none_at}
use Rattle.pj_parse.proofs.pool.Pool.text.Goals as goal

-- entries that rise are split by the test
parted : (es slice : List Entry) (n : ℕ) → slice ≡ es → IsRisingFrom 0 es → IsPartitionedBy (λ (e : Entry). ltb e.node.0 n) slice
parted es slice n same rising = rw same (IsPartitionedBy-ltb (λ (e : Entry). e.node.0) es n (rising_order es 0 rising))

some_is : (e f : Entry) → Some e ≡ Some f → e ≡ f
some_is e f is = search (rules, is)

abbrev IsSplitAt : List Entry → ℕ → ℕ → Type 0
IsSplitAt es n i = IsPartitionPoint (λ (e : Entry). ltb e.node.0 n ≡ true) (λ (e : Entry). ltb e.node.0 n ≡ false) es i

-- the entry at the split is of the node
is_found : (es : List Entry) (n : Node) (i : ℕ) (e : Entry) → IsSplitAt es n.0 i → i < length es → e ≡ get_or es i e → e.node.0 ≡ n.0 → text_in es n ≡ Some e.text
is_found es n i e split inside at is = found_at es n.0 i e split.0 (slice_get_read es (length es) i e refl inside at) is

-- it is not, or there is none
is_none : (es : List Entry) (n : Node) (i : ℕ) → IsRisingFrom 0 es → IsSplitAt es n.0 i → ((e : Entry) → slice_get es i ≡ Some e → e.node.0 ≢ n.0) → text_in es n ≡ None
is_none es n i rising split other = none_at es 0 n.0 i rising split.0 (λ e at.
    let from : n.0 ≤ e.node.0 = ltb-false e.node.0 n.0 (subst (λ (x : Entry). ltb x.node.0 n.0 ≡ false) (get_or_from_slice_get es i e e at) (split.1 i e (omega arith) (slice_get_within es i e at))) in
    omega (arith, from, other e at))

pub returns-in_err-entry : goal.returns-in_err-entry
returns-in_err-entry c =
    let split : IsSplitAt c.as_slice-entries.result.now c.args.n.0 c.partition_point-place.result =
    IsPartitionPoint-from_clause (λ (e : Entry). ltb e.node.0 c.args.n.0) _ _ c.partition_point-place.ensures.partitioned
    (parted c.self.inside.entries.items c.as_slice-entries.result.now c.args.n.0 c.as_slice-entries.ensures.value c.self.invariant) (λ a r q k. search rules) in
    let same : c.as_slice-entries.result.now ≡ c.args.self.now = c.as_slice-entries.ensures.value ∙ c.self.view_is in
    let rising : IsRisingFrom 0 c.as_slice-entries.result.now = subst (IsRisingFrom 0) (sym c.as_slice-entries.ensures.value) c.self.invariant in
    let past : length c.as_slice-entries.result.now ≤ c.partition_point-place.result = ltb-false _ _ (sym c.in_err-entry.ensures.lookup.0) in
    ap option_copied c.from_residual.ensures
    ∙ sym (is_none c.as_slice-entries.result.now c.args.n c.partition_point-place.result rising split (λ e at. absurd (omega (arith, past, slice_get_within c.as_slice-entries.result.now c.partition_point-place.result e at))))
    ∙ ap (λ (es : List Entry). text_in es c.args.n) same

pub returns-then-entry-n : goal.returns-then-entry-n
returns-then-entry-n c =
    let split : IsSplitAt c.as_slice-entries.result.now c.args.n.0 c.partition_point-place.result =
    IsPartitionPoint-from_clause (λ (e : Entry). ltb e.node.0 c.args.n.0) _ _ c.partition_point-place.ensures.partitioned
    (parted c.self.inside.entries.items c.as_slice-entries.result.now c.args.n.0 c.as_slice-entries.ensures.value c.self.invariant) (λ a r q k. search rules) in
    let same : c.as_slice-entries.result.now ≡ c.args.self.now = c.as_slice-entries.ensures.value ∙ c.self.view_is in
    let lookup = c.in_ok-entry.ensures.lookup in
    ap (λ (text : List ℕ). Some text) c.as_str.ensures
    ∙ sym (is_found c.as_slice-entries.result.now c.args.n c.partition_point-place.result c.in_ok-entry.entry.now split lookup.3.0 lookup.1 c.if-entry-n.true)
    ∙ ap (λ (es : List Entry). text_in es c.args.n) same

pub returns-else-entry-n : goal.returns-else-entry-n
returns-else-entry-n c =
    let split : IsSplitAt c.as_slice-entries.result.now c.args.n.0 c.partition_point-place.result =
    IsPartitionPoint-from_clause (λ (e : Entry). ltb e.node.0 c.args.n.0) _ _ c.partition_point-place.ensures.partitioned
    (parted c.self.inside.entries.items c.as_slice-entries.result.now c.args.n.0 c.as_slice-entries.ensures.value c.self.invariant) (λ a r q k. search rules) in
    let same : c.as_slice-entries.result.now ≡ c.args.self.now = c.as_slice-entries.ensures.value ∙ c.self.view_is in
    let rising : IsRisingFrom 0 c.as_slice-entries.result.now = subst (IsRisingFrom 0) (sym c.as_slice-entries.ensures.value) c.self.invariant in
    let lookup = c.in_ok-entry.ensures.lookup in
    let at : slice_get c.as_slice-entries.result.now c.partition_point-place.result ≡ Some c.in_ok-entry.entry.now =
    slice_get_read c.as_slice-entries.result.now (length c.as_slice-entries.result.now) c.partition_point-place.result c.in_ok-entry.entry.now refl lookup.3.0 lookup.1 in
    sym (is_none c.as_slice-entries.result.now c.args.n c.partition_point-place.result rising split (λ e there is.
    let one : e ≡ c.in_ok-entry.entry.now = some_is e c.in_ok-entry.entry.now (sym there ∙ at) in
    c.if-entry-n.false (ap (λ (x : Entry). x.node.0) (sym one) ∙ is)))
    ∙ ap (λ (es : List Entry). text_in es c.args.n) same

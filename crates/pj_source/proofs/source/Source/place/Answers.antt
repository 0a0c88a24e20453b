use Rattle.std.proofs.Common.{rules, ℕ, ◌≡◌, ◌+◌, ◌-◌, ◌≤◌, List, length, arith, ap, sym, ◌∙◌, Some, leb, true, false, string_len}
use Rattle.std.specs.List.{slice_get}
use Rattle.std.specs.List.Sorted.{IsPartitionPoint, IsPartitionedBy}
use Rattle.std.proofs.lemmas.List.{get_or_read}
use Rattle.std.proofs.lemmas.List.Sorted.{IsPartitionPoint-from_clause, IsPartitionedBy-leb, IsNonDecreasingBy-from_default}
use Rattle.pj_source.specs.SourceRuns.{AreInOrder, run_at, no_run, place_by, place_in}
use Rattle.pj_source.specs.SourceText.{SourceText}
use Rattle.pj_source.specs.declared.source.run.Run.{Run}
use Rattle.pj_source.proofs.source.Source.place.Goals as goal
use Rattle.pj_source.proofs.SourceRunPlaces.{IsFound, found, slice_get-each_below}

-- the runs are in order, so that the test splits them
parted : (runs slice : List Run) (end offset : ℕ) → slice ≡ runs → AreInOrder runs end 0 → IsPartitionedBy (λ r. leb r.from offset) slice
parted runs slice end offset e s = rw e (IsPartitionedBy-leb (λ (r : Run). r.from) runs offset (IsNonDecreasingBy-from_default (λ (r : Run). r.from) runs no_run s.sorted))

at_point : (runs slice : List Run) (end offset i : ℕ) → slice ≡ runs → AreInOrder runs end 0 → i ≤ length slice
    → IsPartitionPoint (λ r. leb r.from offset ≡ true) (λ r. leb r.from offset ≡ false) slice i → IsFound runs offset i
at_point runs slice end offset i e s h split = found runs end offset i s (omega (arith, ap length e, h)) (rw e at split)

pub overflow_sub-behind : goal.overflow_sub-behind
overflow_sub-behind c =
    let f : IsFound c.self.inside.runs.items c.args.offset c.partition_point-behind.result = at_point c.self.inside.runs.items c.as_slice.result.now (string_len c.self.inside.text) c.args.offset c.partition_point-behind.result c.as_slice.ensures.value c.self.invariant c.partition_point-behind.ensures.bound
    (IsPartitionPoint-from_clause (λ r. leb r.from c.args.offset) _ _ c.partition_point-behind.ensures.partitioned (parted c.self.inside.runs.items c.as_slice.result.now (string_len c.self.inside.text) c.args.offset c.as_slice.ensures.value c.self.invariant) (λ a r q k. search rules)) in
    f.some

pub place_of-requires : goal.place_of-requires
place_of-requires c =
    let f : IsFound c.self.inside.runs.items c.args.offset c.partition_point-behind.result = at_point c.self.inside.runs.items c.as_slice.result.now (string_len c.self.inside.text) c.args.offset c.partition_point-behind.result c.as_slice.ensures.value c.self.invariant c.partition_point-behind.ensures.bound
    (IsPartitionPoint-from_clause (λ r. leb r.from c.args.offset) _ _ c.partition_point-behind.ensures.partitioned (parted c.self.inside.runs.items c.as_slice.result.now (string_len c.self.inside.text) c.args.offset c.as_slice.ensures.value c.self.invariant) (λ a r q k. search rules)) in
    let run : c.index-run.result.now ≡ run_at c.self.inside.runs.items (c.partition_point-behind.result - 1) = get_or_read c.self.inside.runs.items (c.partition_point-behind.result - 1) c.index-run.result.now f.in_runs c.index-run.ensures no_run in
    let len : length c.args.self.now.text ≡ string_len c.self.inside.text = ap (λ (s : SourceText). length s.text) (sym c.self.view_is) ∙ sym c.self.inside.text.bytes.ok.0 in
    record {
      wide = rw run (c.self.invariant.widths (c.partition_point-behind.result - 1) f.in_runs);
      begins = rw run f.low;
      column = rw run (omega (arith, c.self.invariant.columns (c.partition_point-behind.result - 1) f.in_runs, len, c.requires.inside));
    }

pub returns : goal.returns
returns c =
    let f : IsFound c.self.inside.runs.items c.args.offset c.partition_point-behind.result = at_point c.self.inside.runs.items c.as_slice.result.now (string_len c.self.inside.text) c.args.offset c.partition_point-behind.result c.as_slice.ensures.value c.self.invariant c.partition_point-behind.ensures.bound
    (IsPartitionPoint-from_clause (λ r. leb r.from c.args.offset) _ _ c.partition_point-behind.ensures.partitioned (parted c.self.inside.runs.items c.as_slice.result.now (string_len c.self.inside.text) c.args.offset c.as_slice.ensures.value c.self.invariant) (λ a r q k. search rules)) in
    let run : c.index-run.result.now ≡ run_at c.self.inside.runs.items (c.partition_point-behind.result - 1) = get_or_read c.self.inside.runs.items (c.partition_point-behind.result - 1) c.index-run.result.now f.in_runs c.index-run.ensures no_run in
    let len : length c.args.self.now.text ≡ string_len c.self.inside.text = ap (λ (s : SourceText). length s.text) (sym c.self.view_is) ∙ sym c.self.inside.text.bytes.ok.0 in
    record {
      value = ap (λ (s : SourceText). slice_get s.places c.args.offset) (sym c.self.view_is)
          ∙ (slice_get-each_below (place_by c.self.inside.runs.items) (string_len c.self.inside.text + 1) c.args.offset (omega (arith, len, c.requires.inside))
          ∙ ap Some (f.is ∙ (ap (λ (x : Run). place_in x c.args.offset) (sym run) ∙ sym c.place_of.ensures)));
    }

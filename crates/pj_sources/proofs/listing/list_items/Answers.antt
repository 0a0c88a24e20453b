use Rattle.std.proofs.Common.{◌≡◌, ◌∙◌, ◌+◌, List, Some, take, filter, sym, subst}
use Rattle.std.specs.Prelude.{MatchResult, Result}
use Rattle.std.proofs.lemmas.Result.{err_from_is_err_and}
use Rattle.pj_sources.specs.declared.listing.Listing.{Listing}
use Rattle.pj_sources.specs.declared.refused.ListRefused.{ListRefused}
use Rattle.std.proofs.lemmas.List.Elements.{All-append}
use Rattle.pj_outside.specs.Files.{Bytes, listed_at}
use Rattle.pj_sources.specs.Paths.{is_source, path_listed}
use Rattle.pj_sources.specs.Listing.{AreSourcesOf, IsSourceOf, IsUnordered, SaysNoItem, SaysNoListing}
use Rattle.pj_sources.proofs.Items.{next_item, refused_item, sources_of_item}
use Rattle.pj_sources.proofs.Told.{told_both}
use Rattle.pj_sources.proofs.listing.list_items.Goals as goal

pub returns-in_err-listed-clause-listed : goal.returns-in_err-listed-clause-listed
returns-in_err-listed-clause-listed g c =
    let items = c.as_slice-item-items.result.now in
    let exit = err_from_is_err_and c.from_residual.result c.from_residual.ensures.1 in
    told_both (g.T.Tree.holds c.args.tree.now) (g.T.Tree.holds c.loop-item.tree)
    (λ files. IsUnordered files (take c.loop-item.item-index items) c.loop-item.sources)
    (λ files. SaysNoItem files c.item-item.result c.in_err-listed.field-0.0)
    (λ files. MatchResult c.from_residual.result (IsUnordered files c.args.items.now) (SaysNoListing files c.args.items.now))
    c.loop-item.invariant.same_files
    (λ files so_far says.
    subst (λ (r : Result Listing ListRefused). MatchResult r (IsUnordered files c.args.items.now) (SaysNoListing files c.args.items.now)) (sym exit.1)
    (subst (λ (refused : ListRefused). SaysNoListing files c.args.items.now refused) (sym exit.2)
    (subst (λ (all : List Bytes). SaysNoListing files all c.in_err-listed.field-0.0) c.as_slice-item-items.ensures
    (refused_item files items c.loop-item.item-index c.item-item.result c.loop-item.sources c.loop-item-test.true c.item-item.is so_far c.in_err-listed.field-0.0 says))))
    c.loop-item.invariant.listed
    c.in_err-listed.ensures.listed

pub loop-item-preserved : goal.loop-item-preserved
loop-item-preserved g c =
    let items = c.as_slice-item-items.result.now in
    let kept = c.loop-item.invariant in
    let took = c.in_ok-take_listed.ensures in
    record {
      same_files = c.in_ok-listed.ensures.same_files ∙ kept.same_files;
      same_faults = c.in_ok-listed.ensures.counts_faults ∙ kept.same_faults;
      steady = λ s. (c.in_ok-listed.ensures.steady (kept.steady s)).0;
      listed = told_both (g.T.Tree.holds c.args.tree.now) (g.T.Tree.holds c.loop-item.tree)
          (λ files. IsUnordered files (take c.loop-item.item-index items) c.loop-item.sources)
          (λ files. listed_at files (path_listed c.item-item.result) ≡ Some c.in_ok-listed.listed)
          (λ files. IsUnordered files (take (c.loop-item.item-index + 1) items) c.take_listed.new.sources)
          kept.same_files
          (λ files so_far there. next_item files items c.loop-item.item-index c.item-item.result c.loop-item.sources c.loop-item-test.true c.item-item.is so_far c.in_ok-listed.listed c.take_listed.new.sources there took.paths took.skipped)
          kept.listed
          c.in_ok-listed.ensures.listed;
      paths = subst (λ (paths : List Bytes). AreSourcesOf c.args.items.now paths) (sym took.paths)
          (All-append (IsSourceOf c.args.items.now) c.loop-item.sources.paths (filter is_source c.in_ok-listed.listed) kept.paths
          (subst (λ (all : List Bytes). AreSourcesOf all (filter is_source c.in_ok-listed.listed)) c.as_slice-item-items.ensures
          (sources_of_item items c.loop-item.item-index c.item-item.result c.loop-item-test.true c.item-item.is c.in_ok-listed.listed c.in_ok-listed.ensures.at_or_below)));
    }

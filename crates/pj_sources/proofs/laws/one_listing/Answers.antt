use Rattle.std.proofs.Common.{◌∙◌, refl, sym, filter}
use Rattle.pj_sources.specs.Paths.{is_source}
use Rattle.pj_sources.specs.Listing.{listed}
use Rattle.std.specs.Prelude.{count_by}
use Rattle.pj_sources.specs.Paths.{is_module_info}
use Rattle.pj_sources.proofs.Existence.{some_order}
use Rattle.pj_sources.proofs.Ordered.{one_in_order}
use Rattle.pj_sources.proofs.laws.one_listing.Goals as goal

pub returns-clause-one : goal.returns-clause-one
returns-clause-one c = λ files items a b x y.
    let paths = one_in_order (filter is_source (listed files items)) a.paths b.paths x.paths y.paths in
    let skipped = x.skipped ∙ sym y.skipped in
    (λ i. record { paths = paths i; skipped = skipped i })

pub returns-clause-some : goal.returns-clause-some
returns-clause-some c = λ files items there.
    let all = listed files items in
    let order = some_order (filter is_source all) in
    (record { paths = order.0; skipped = count_by is_module_info all }, record { there = there; paths = order.1; skipped = refl })

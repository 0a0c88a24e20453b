use Rattle.std.proofs.Common.{sym, arith}
use Rattle.pj_cache.specs.declared.cache.Entry.{Entry}
use Rattle.pj_cache.proofs.Paths.{not_both, none_at, none_here, some_here}
use Rattle.pj_cache.proofs.cache.Cache.find.Goals as goal

pub returns-then-place-entries : goal.returns-then-place-entries
returns-then-place-entries c =
    sym (none_at (λ (e : Entry). e.path) c.as_slice-entries.result.now c.args.self.now.entries c.args.path.now c.place_of_path-place.result c.as_slice-entries.ensures c.requires c.place_of_path-place.ensures (omega (arith, c.if-place-entries.true)))

pub returns-then-not-is_here : goal.returns-then-not-is_here
returns-then-not-is_here c =
    sym (none_here (λ (e : Entry). e.path) c.as_slice-entries.result.now c.args.self.now.entries c.args.path.now c.place_of_path-place.result c.index-entries-place.result c.as_slice-entries.ensures c.requires c.place_of_path-place.ensures c.index-entries-place.is
    (λ same. not_both c.is-is_here.result (c.is-is_here.ensures.1 same) c.if-not-is_here.true))

pub returns : goal.returns
returns c =
    sym (some_here (λ (e : Entry). e.path) c.as_slice-entries.result.now c.args.self.now.entries c.args.path.now c.place_of_path-place.result c.index-entries-place.result c.as_slice-entries.ensures c.place_of_path-place.ensures (omega (arith, c.if-place-entries.false)) c.index-entries-place.is
    (c.is-is_here.ensures.0 c.if-not-is_here.false))

use Rattle.std.proofs.Common.{◌∙◌, ap, filter, rules}
use Rattle.std.proofs.lemmas.List.Elements.{filter_from_retain}
use Rattle.pj_sources.specs.Paths.{is_source}
use Rattle.pj_sources.proofs.listing.sources_among.Goals as goal

pub returns : goal.returns
returns c =
    c.from_vec.ensures ∙ filter_from_retain _ is_source (λ p x b q k. search rules) _ _ _ c.retain.ensures.filtered ∙ ap (filter is_source) c.into_vec-held.ensures

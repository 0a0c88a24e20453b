use Rattle.std.proofs.Common.{◌≡◌, ◌+◌, length, arith, ap, sym, ◌∙◌, string_len}
use Rattle.pj_source.specs.SourceRuns.{place_by}
use Rattle.pj_source.specs.SourceText.{SourceText}
use Rattle.pj_source.proofs.SourceRunPlaces.{length-each_below}
use Rattle.pj_source.proofs.source.Source.text.Goals as goal

pub returns-clause-places : goal.returns-clause-places
returns-clause-places c =
    let places : length c.args.self.now.places ≡ string_len c.self.inside.text + 1 = ap (λ (s : SourceText). length s.places) (sym c.self.view_is) ∙ length-each_below (place_by c.self.inside.runs.items) (string_len c.self.inside.text + 1) in
    let text : length c.args.self.now.text ≡ string_len c.self.inside.text = ap (λ (s : SourceText). length s.text) (sym c.self.view_is) ∙ sym c.self.inside.text.bytes.ok.0 in
    omega arith

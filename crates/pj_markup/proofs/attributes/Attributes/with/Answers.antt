use Rattle.std.proofs.Common.{ap, sym, ◌∙◌}
use Rattle.pj_markup.specs.Elements.{Attribute}
use Rattle.pj_markup.specs.Names.{has_name}
use Rattle.pj_markup.proofs.Rows.{more_names}
use Rattle.pj_markup.proofs.attributes.Attributes.with.Goals as goal

pub invariant_of-result : goal.invariant_of-result
invariant_of-result c = λ q.
    let a : Attribute = record { name = c.args.name; value = c.args.value } in
    more_names c.self.inside.names.keys c.insert.new.self.keys c.self.inside.list c.in_ok-copied.field-0 a c.in_ok-copied.ensures c.self.invariant (λ p. c.in_ok-insert.ensures.updates.0 p) q
    ∙ ap (has_name q) (sym c.in_ok-push.ensures.ok)

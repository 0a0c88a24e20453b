use Rattle.std.proofs.Common.{ap, sym, ◌∙◌}
use Rattle.std.specs.Prelude.{not}
use Rattle.std.specs.Cmp.Lexicographic.{nat_list_cmp_total}
use Rattle.std.specs.FinSet as set
use Rattle.std.specs.FinSet.{contains-from_list}
use Rattle.pj_names.proofs.NameSets.{from_list-insert}
use Rattle.pj_names.proofs.class_name_set.ClassNameSet.insert.Goals as goal

pub returns-clause-ok : goal.returns-clause-ok
returns-clause-ok c =
    from_list-insert c.self.inside.names.keys c.insert.new.self.keys c.args.name (λ q. c.in_ok-insert.ensures.updates.0 q)
    ∙ ap (λ names. set.insert names c.args.name) c.self.view_is

pub returns-clause-added : goal.returns-clause-added
returns-clause-added c =
    c.in_ok-insert.ensures.added
    ∙ ap not (sym (contains-from_list nat_list_cmp_total c.self.inside.names.keys c.args.name) ∙ ap (λ names. set.contains names c.args.name) c.self.view_is)

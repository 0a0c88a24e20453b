use Rattle.std.proofs.Common.{ap, sym, ◌∙◌}
use Rattle.std.specs.Cmp.Lexicographic.{nat_list_cmp_total}
use Rattle.std.specs.FinSet as set
use Rattle.std.specs.FinSet.{contains-from_list}
use Rattle.pj_names.proofs.class_name_set.ClassNameSet.contains.Goals as goal

pub returns : goal.returns
returns c =
    c.contains.ensures ∙ sym (contains-from_list nat_list_cmp_total c.self.inside.names.keys c.args.name.now)
    ∙ ap (λ names. set.contains names c.args.name.now) c.self.view_is

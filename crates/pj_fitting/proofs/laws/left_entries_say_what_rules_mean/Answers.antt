use Rattle.std.proofs.lemmas.List.Elements.{All-from_recursion}
use Rattle.pj_fitting.specs.Right.{rules_at}
use Rattle.pj_fitting.specs.Left.{IsSaid, rows_at}
use Rattle.pj_fitting.proofs.Lists.{all_map}
use Rattle.pj_fitting.proofs.Merged.{Comes, merged_said, rules_said}
use Rattle.pj_names.specs.Meaning.{whole}
use Rattle.pj_fitting.proofs.laws.left_entries_say_what_rules_mean.Goals as goal

pub returns-clause-each_rule : goal.returns-clause-each_rule
returns-clause-each_rule g c = λ files world found held file e right left.
    let rules = rules_at files file.0 file.1 in
    All-from_recursion (IsSaid rules world e.results) held
    (all_map (λ rule. Comes (whole world) (rules.meaning rule) (rows_at rules e.results rule)) (IsSaid rules world e.results) held (λ rule come. record { names = come.0; comes = come.1 }) (rules_said files world found held file e right left))

pub returns-clause-merged : goal.returns-clause-merged
returns-clause-merged g c = λ files world found held file e merge right left. merged_said files world found held file e merge right left

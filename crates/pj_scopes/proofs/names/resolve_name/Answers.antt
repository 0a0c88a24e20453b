use Rattle.std.proofs.Common.{ap}
use Rattle.pj_names.proofs.ExpandLaws.{asks-inner}
use Rattle.pj_file_oracle.specs.Held.{FileOwn, own_answer}
use Rattle.pj_scopes.specs.VariableName.{variable_name}
use Rattle.pj_scopes.proofs.names.resolve_name.Goals as goal

pub returns-clause-asks : goal.returns-clause-asks
returns-clause-asks g c =
    let file = c.args.oracle.now.file.now in
    let own : FileOwn = record { tree = file; held = c.args.oracle.now.held.ghost_name } in
    asks-inner _ _ own _ own_answer (variable_name file c.args.at c.args.name.now) c.variable_name.ensures.asks

pub returns-clause-file : goal.returns-clause-file
returns-clause-file g c = ap (λ k. k.own.tree) c.variable_name.ensures.asks.same_kept

pub returns-clause-held : goal.returns-clause-held
returns-clause-held g c = ap (λ k. k.reference) c.variable_name.ensures.asks.same_kept

pub returns-clause-same_table : goal.returns-clause-same_table
returns-clause-same_table g c = ap (λ k. k.own.held) c.variable_name.ensures.asks.same_kept

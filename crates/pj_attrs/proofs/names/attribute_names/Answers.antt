use Rattle.pj_attrs.specs.Laws.{few_of, different_of}
use Rattle.pj_attrs.proofs.names.attribute_names.Goals as goal

pub returns-clause-once : goal.returns-clause-once
returns-clause-once c = different_of c.table_of.result.names.now c.args.kind c.table_of.ensures.names

pub returns-clause-few : goal.returns-clause-few
returns-clause-few c = few_of c.table_of.result.names.now c.args.kind c.table_of.ensures.names

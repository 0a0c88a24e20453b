use Rattle.pj_parse.specs.Parses.{file_parsed}
use Rattle.pj_attrs.specs.Laws.{typed_of}
use Rattle.pj_attrs.proofs.values.attribute.Goals as goal

pub returns-clause-typed : goal.returns-clause-typed
returns-clause-typed c = typed_of c.value_named.result (file_parsed c.args.parsed.now) c.args.n c.args.name.now c.value_named.ensures

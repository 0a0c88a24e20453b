use Rattle.rows_evaluation.specs.TableLaws as laws
use Rattle.rows_evaluation.proofs.facts.FactsAttributes.attribute.Goals as goal

pub returns-in-Name-clause-typed : goal.returns-in-Name-clause-typed
returns-in-Name-clause-typed c = laws.named_typed c.args.name.now c.args.n c.named.result c.in-Name.is c.named.ensures

pub returns-in-Size-clause-typed : goal.returns-in-Size-clause-typed
returns-in-Size-clause-typed c = laws.sized_typed c.args.name.now c.args.n c.sized.result c.in-Size.is c.sized.ensures

pub returns-in-Final-clause-typed : goal.returns-in-Final-clause-typed
returns-in-Final-clause-typed c = laws.last_typed c.args.name.now c.args.n c.is_final.result c.in-Final.is c.is_final.ensures

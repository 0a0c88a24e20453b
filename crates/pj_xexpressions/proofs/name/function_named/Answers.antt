use Rattle.std.proofs.Common.{◌∙◌}
use Rattle.pj_xexpressions.proofs.Names.{callee_is}
use Rattle.pj_xexpressions.proofs.name.function_named.Goals as goal

pub returns : goal.returns
returns c =
    c.either.ensures
    ∙ callee_is c.args.name.now c.unprefixed.result.now c.xpath_function-function.result c.pmd_function-other.result c.unprefixed.ensures c.xpath_function-function.ensures c.pmd_function-other.ensures

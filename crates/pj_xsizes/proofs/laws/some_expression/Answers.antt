use Rattle.std.proofs.Common.{◌∙◌, sym, le_trans}
use Rattle.pj_xsizes.proofs.FewTokens.{few_tokens}
use Rattle.pj_xsizes.proofs.Reading.{read_expression}
use Rattle.pj_xsizes.proofs.laws.some_expression.Goals as goal

pub returns : goal.returns
returns c variables text tree short spells =
    let made = read_expression spells.tokens spells.said (le_trans (few_tokens c.tokens_are_not_empty.ensures c.gaps_stand_in_front.ensures spells.read) short) spells.says in (made.0, made.1 ∙ sym spells.means)

use Rattle.std.proofs.Common.{sym, ap, length, arith}
use Rattle.pj_tree.proofs.own_tokens.OwnTokens.new.Goals as goal
use Rattle.pj_tree.proofs.TokenLists.{texts_skip, texts_few}

pub returns-clause-value : goal.returns-clause-value
returns-clause-value c =
    sym (texts_skip c.args.text.now c.args.tokens.now c.args.owner 0 c.args.first c.requires.first)

pub returns-clause-few : goal.returns-clause-few
returns-clause-few c =
    omega (arith, c.requires.few, ap length (texts_skip c.args.text.now c.args.tokens.now c.args.owner 0 c.args.first c.requires.first), texts_few c.args.text.now c.args.tokens.now c.args.owner.0)

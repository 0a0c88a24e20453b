use Rattle.std.proofs.Common.{◌≡◌, [], ◌∷◌, rules}
use Rattle.tests_xpath.proofs.Made.{either_is}
use Rattle.tests_xpath.proofs.expressions.either.Goals as goal

pub returns : goal.returns
returns c =
    let items : c.push-2.new.self.items ≡ c.args.left ∷ c.args.right ∷ [] = search rules in
    either_is c.push-2.new.self c.args.left c.args.right items c.requires.left c.requires.right c.requires.room_left c.requires.room_right

use Rattle.std.proofs.Common.{◌≡◌, List, ℕ, arith, string_bytes, subst}
use Rattle.std.proofs.lemmas.Grind.{common_steps}
use Rattle.std.specs.Str.{encode_utf8_all}
use Rattle.pj_xfuncs.proofs.Words.{joined-words}
use Rattle.pj_xfuncs.proofs.spaces.words_joined.Goals as goal

pub returns : goal.returns
returns c = subst (λ (x : List ℕ). string_bytes c.content.joined ≡ encode_utf8_all x) (joined-words c.args.characters.now) (grind (arith, common_steps))

use Rattle.std.proofs.Common.{take}
use Rattle.std.specs.List.{AllByRecursion}
use Rattle.std.specs.Str.{IsUtf8}
use Rattle.pj_lex.specs.declared.token.Token.{Token}
use Rattle.pj_workers.proofs.file.tokens_are_texts.Given as goal

abbrev pub invariant-loop-token : goal.invariant-loop-token
invariant-loop-token l = AllByRecursion (λ (token : Token). IsUtf8 token.text.now) (take l.token-index l.tokens)

use Rattle.std.proofs.Common.{map, subst, sym, ap, ◌∷◌, refl, [], length, length-append, arith}
use Rattle.std.proofs.lemmas.List.{map-append}
use Rattle.pj_grammar.specs.Words.{seen}
use Rattle.pj_parse.proofs.Going.{GoesOn, begin, all, faulty, one_more}
use Rattle.pj_parse.proofs.lexing.collect_tokens.Goals as goal

pub returns-in-None-clause-tokens : goal.returns-in-None-clause-tokens
returns-in-None-clause-tokens c = all c.args.source.now.text (map seen c.loop.found) c.loop.lexer c.loop.invariant.0 (c.in-None.ensures.none.0 refl)

pub returns-in-Some-Err-clause-tokens : goal.returns-in-Some-Err-clause-tokens
returns-in-Some-Err-clause-tokens c =
    let next = rw c.in-Some-Err.field-0-is at c.in-Some-Err.ensures.next in
    let text = rw c.in-Some-Err.field-0-is at c.in-Some-Err.ensures.text in
    faulty c.args.source.now.text (map seen c.loop.found) c.loop.lexer c.next_token.new.self c.in-Some-Err.fault c.loop.invariant.0 next text

pub loop-preserved : goal.loop-preserved
loop-preserved c =
    let next = rw c.in-Some-Ok.field-0-is at c.in-Some-Ok.ensures.next in
    let more = one_more c.args.source.now.text (map seen c.loop.found) c.loop.lexer c.next_token.new.self (seen c.in-Some-Ok.token) c.loop.invariant.0 next in
    let e = c.in_ok-push-in-Some-Ok.ensures.ok in
    (rw (e, map-append) more, (let l = ap length e in omega (arith, l, length-append c.loop.found (c.in-Some-Ok.token ∷ []))))

pub loop-init : goal.loop-init
loop-init c = (subst (λ l. GoesOn c.args.source.now.text (map seen l) c.tokens-lexer.result) (sym c.new-found.ensures) (begin c.args.source.now.text c.tokens-lexer.result c.tokens-lexer.ensures.begins), (let l = ap length c.new-found.ensures in omega (arith, l)))

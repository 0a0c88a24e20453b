use Rattle.std.proofs.Common.{◌≡◌, ◌<◌, ◌≤◌, true, false, List, length, refl, sym, subst, arith}
use Rattle.pj_ll.specs.declared.parser.End.TheVariants.{Stops, TooDeep}
use Rattle.pj_ll.specs.declared.parser.Step.{Step}
use Rattle.pj_ll.specs.Grammar.{grammar_of}
use Rattle.pj_ll.specs.Parsing.{HasEnded}
use Rattle.pj_ll.specs.Steps.{ArePlaced, productions_in}
use Rattle.pj_ll.proofs.Places.{whole, stops_at_end, too_deep_at_end}
use Rattle.pj_ll.proofs.Placing.{productions_back, placed_take, come_led}
use Rattle.pj_ll.proofs.parser.finish.Goals as goal
use Rattle.pj_ll.proofs.parser.finish.Goals.{else-not-is_deep-via-then-not-is_deep+else-is_empty, else-not-is_deep-via-else-not-is_deep}

never : false ≡ true → ⊥
never e = cc

pub returns-then-is_empty-clause-ended : goal.returns-then-is_empty-clause-ended
returns-then-is_empty-clause-ended g c =
    whole g.facts c.args.table.now c.requires.0 c.args.terminals.now c.args.deepest c.args.stack.now (productions_in c.args.steps.now.items) c.requires.1.1
    c.expand.new.stack (productions_in c.expand.new.steps.items) c.in_ok-expand.ensures.moved (subst (λ n. n ≤ c.args.deepest) c.closes.ensures c.if-not-is_deep.true) (c.if-is_empty.ensures.0 refl)

pub returns-then-is_deep-clause-ended : goal.returns-then-is_deep-clause-ended
returns-then-is_deep-clause-ended g c =
    let back = productions_back c.args.steps.now.items c.expand.new.steps.items c.truncate.new.self.items c.in_ok-expand.ensures.moved.moving.moved c.len-written.result
    (omega arith) c.in_ok-expand.ensures.moved.moving.productions_are c.truncate.ensures.items in
    subst (λ l. HasEnded c.args.table.now c.args.terminals.now c.args.deepest l (TooDeep (length c.args.terminals.now))) (sym back)
    (too_deep_at_end g.facts c.args.table.now c.requires.0 c.args.terminals.now c.args.deepest c.args.stack.now (productions_in c.args.steps.now.items) c.requires.1.1
    c.expand.new.stack (productions_in c.expand.new.steps.items) c.in_ok-expand.ensures.moved
    (subst (λ n. c.args.deepest < n) c.closes.ensures c.if-is_deep.true))

pub returns-clause-ended : goal.returns-clause-ended
returns-clause-ended g c =
    let back = productions_back c.args.steps.now.items c.expand.new.steps.items c.truncate.new.self.items c.in_ok-expand.ensures.moved.moving.moved c.len-written.result
    (omega arith) c.in_ok-expand.ensures.moved.moving.productions_are c.truncate.ensures.items in
    subst (λ l. HasEnded c.args.table.now c.args.terminals.now c.args.deepest l (Stops (length c.args.terminals.now))) (sym back)
    (stops_at_end g.facts c.args.table.now c.requires.0 c.args.terminals.now c.args.deepest c.args.stack.now (productions_in c.args.steps.now.items) c.requires.1.1
    c.expand.new.stack (productions_in c.expand.new.steps.items) c.in_ok-expand.ensures.moved
    (subst (λ n. n ≤ c.args.deepest) c.closes.ensures c.if-is_deep.false)
    (elim c.else-not-is_deep.branch [
      | else-not-is_deep-via-then-not-is_deep+else-is_empty w ↦ λ e. never (w.if-is_empty.ensures.1 e)
      | else-not-is_deep-via-else-not-is_deep w ↦ let deep = w.if-not-is_deep.false in let few = c.if-is_deep.false in absurd (omega arith)
    ]))

pub returns-then-is_empty-clause-places : goal.returns-then-is_empty-clause-places
returns-then-is_empty-clause-places g c = λ placed. (c.in_ok-expand.ensures.led c.args.terminals.now (come_led c.args.steps.now.items c.requires.1.1 placed)).placed

pub returns-then-is_deep-clause-places : goal.returns-then-is_deep-clause-places
returns-then-is_deep-clause-places g c = λ placed.
    let led = c.in_ok-expand.ensures.led c.args.terminals.now (come_led c.args.steps.now.items c.requires.1.1 placed) in
    subst (ArePlaced (grammar_of c.args.table.now) c.args.terminals.now) (sym {A = List Step} c.truncate.ensures.items)
    (placed_take (grammar_of c.args.table.now) c.args.terminals.now c.len-written.result c.expand.new.steps.items led.placed)

pub returns-clause-places : goal.returns-clause-places
returns-clause-places g c = λ placed.
    let led = c.in_ok-expand.ensures.led c.args.terminals.now (come_led c.args.steps.now.items c.requires.1.1 placed) in
    subst (ArePlaced (grammar_of c.args.table.now) c.args.terminals.now) (sym {A = List Step} c.truncate.ensures.items)
    (placed_take (grammar_of c.args.table.now) c.args.terminals.now c.len-written.result c.expand.new.steps.items led.placed)

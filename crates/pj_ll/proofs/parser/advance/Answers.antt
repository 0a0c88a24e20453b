use Rattle.std.proofs.Common.{◌≡◌, ◌<◌, ◌≤◌, ◌+◌, ◌∷◌, List, ℕ, true, false, refl, sym, ◌∙◌, subst, arith}
use Rattle.std.proofs.lemmas.Option.{slice_get-get_or}
use Rattle.pj_ll.specs.declared.grammar.Symbol.{Symbol}
use Rattle.pj_ll.specs.declared.grammar.Symbol.TheVariants as s
use Rattle.pj_ll.specs.declared.parser.End.TheVariants.{Stops, LeftOut, TooDeep}
use Rattle.pj_ll.specs.declared.parser.Step.{Step}
use Rattle.pj_ll.specs.Grammar.{grammar_of}
use Rattle.pj_ll.specs.Parsing.{HasComeTo, HasEnded}
use Rattle.pj_ll.specs.Steps.{ArePlaced, productions_in}
use Rattle.pj_ll.proofs.Places.{past, stops, too_deep, left_out}
use Rattle.pj_ll.proofs.Placing.{productions_back, placed_take, come_led}
use Rattle.pj_ll.proofs.parser.advance.Goals as goal
use Rattle.pj_ll.proofs.parser.advance.Goals.{else-not-is_deep-via-then-not-is_deep+else-begins_with, else-not-is_deep-via-else-not-is_deep}

never : false ≡ true → ⊥
never e = cc

other_symbol : {t u : ℕ} {xs ys zs : List Symbol} → zs ≡ s.Terminal t ∷ xs → zs ≡ s.LeftOut u ∷ ys → ⊥
other_symbol e h = let z = sym e ∙ h in cc

pub returns-then-begins_with-clause-past : goal.returns-then-begins_with-clause-past
returns-then-begins_with-clause-past g c =
    let top = c.if-begins_with.ensures.0 refl in
    subst (λ s. HasComeTo g.facts c.args.table.now c.args.terminals.now c.args.deepest (c.args.place + 1) s (productions_in c.expand.new.steps.items)) (sym c.pop.ensures)
    (past g.facts c.args.table.now c.requires.0 c.args.terminals.now c.args.deepest c.args.place c.args.stack.now (productions_in c.args.steps.now.items) c.requires.1.1
    _ c.expand.new.stack (productions_in c.expand.new.steps.items) c.in_ok-expand.ensures.moved (slice_get-get_or c.args.terminals.now c.args.place 0 c.requires.1.0)
    (other_symbol top) (subst (λ n. n ≤ c.args.deepest) c.closes.ensures c.if-not-is_deep.true) top)

pub returns-then-begins_with-2-clause-ended : goal.returns-then-begins_with-2-clause-ended
returns-then-begins_with-2-clause-ended g c =
    let back = productions_back c.args.steps.now.items c.expand.new.steps.items c.truncate.new.self.items c.in_ok-expand.ensures.moved.moving.moved c.len-written.result
    (omega arith) c.in_ok-expand.ensures.moved.moving.productions_are c.truncate.ensures.items in
    subst (λ l. HasEnded c.args.table.now c.args.terminals.now c.args.deepest l (LeftOut c.args.place)) (sym back)
    (left_out g.facts c.args.table.now c.requires.0 c.args.terminals.now c.args.deepest c.args.place c.args.stack.now (productions_in c.args.steps.now.items) c.requires.1.1
    _ c.expand.new.stack (productions_in c.expand.new.steps.items) c.in_ok-expand.ensures.moved (slice_get-get_or c.args.terminals.now c.args.place 0 c.requires.1.0)
    (c.if-begins_with-2.ensures.0 refl))

pub returns-then-is_deep-clause-ended : goal.returns-then-is_deep-clause-ended
returns-then-is_deep-clause-ended g c =
    let back = productions_back c.args.steps.now.items c.expand.new.steps.items c.truncate.new.self.items c.in_ok-expand.ensures.moved.moving.moved c.len-written.result
    (omega arith) c.in_ok-expand.ensures.moved.moving.productions_are c.truncate.ensures.items in
    subst (λ l. HasEnded c.args.table.now c.args.terminals.now c.args.deepest l (TooDeep c.args.place)) (sym back)
    (too_deep g.facts c.args.table.now c.requires.0 c.args.terminals.now c.args.deepest c.args.place c.args.stack.now (productions_in c.args.steps.now.items) c.requires.1.1
    _ c.expand.new.stack (productions_in c.expand.new.steps.items) c.in_ok-expand.ensures.moved (slice_get-get_or c.args.terminals.now c.args.place 0 c.requires.1.0)
    (λ e. never (c.if-begins_with-2.ensures.1 e)) (subst (λ n. c.args.deepest < n) c.closes.ensures c.if-is_deep.true))

pub returns-clause-ended : goal.returns-clause-ended
returns-clause-ended g c =
    let back = productions_back c.args.steps.now.items c.expand.new.steps.items c.truncate.new.self.items c.in_ok-expand.ensures.moved.moving.moved c.len-written.result
    (omega arith) c.in_ok-expand.ensures.moved.moving.productions_are c.truncate.ensures.items in
    subst (λ l. HasEnded c.args.table.now c.args.terminals.now c.args.deepest l (Stops c.args.place)) (sym back)
    (stops g.facts c.args.table.now c.requires.0 c.args.terminals.now c.args.deepest c.args.place c.args.stack.now (productions_in c.args.steps.now.items) c.requires.1.1
    _ c.expand.new.stack (productions_in c.expand.new.steps.items) c.in_ok-expand.ensures.moved (slice_get-get_or c.args.terminals.now c.args.place 0 c.requires.1.0)
    (λ e. never (c.if-begins_with-2.ensures.1 e)) (subst (λ n. n ≤ c.args.deepest) c.closes.ensures c.if-is_deep.false)
    (elim c.else-not-is_deep.branch [
      | else-not-is_deep-via-then-not-is_deep+else-begins_with w ↦ λ e. never (w.if-begins_with.ensures.1 e)
      | else-not-is_deep-via-else-not-is_deep w ↦ let deep = w.if-not-is_deep.false in let few = c.if-is_deep.false in absurd (omega arith)
    ]))

pub returns-then-begins_with-clause-places : goal.returns-then-begins_with-clause-places
returns-then-begins_with-clause-places g c = λ placed. (c.in_ok-expand.ensures.led c.args.terminals.now (come_led c.args.steps.now.items c.requires.1.1 placed)).placed

pub returns-then-begins_with-2-clause-places : goal.returns-then-begins_with-2-clause-places
returns-then-begins_with-2-clause-places g c = λ placed.
    let led = c.in_ok-expand.ensures.led c.args.terminals.now (come_led c.args.steps.now.items c.requires.1.1 placed) in
    subst (ArePlaced (grammar_of c.args.table.now) c.args.terminals.now) (sym {A = List Step} c.truncate.ensures.items)
    (placed_take (grammar_of c.args.table.now) c.args.terminals.now c.len-written.result c.expand.new.steps.items led.placed)

pub returns-then-is_deep-clause-places : goal.returns-then-is_deep-clause-places
returns-then-is_deep-clause-places g c = λ placed.
    let led = c.in_ok-expand.ensures.led c.args.terminals.now (come_led c.args.steps.now.items c.requires.1.1 placed) in
    subst (ArePlaced (grammar_of c.args.table.now) c.args.terminals.now) (sym {A = List Step} c.truncate.ensures.items)
    (placed_take (grammar_of c.args.table.now) c.args.terminals.now c.len-written.result c.expand.new.steps.items led.placed)

pub returns-clause-places : goal.returns-clause-places
returns-clause-places g c = λ placed.
    let led = c.in_ok-expand.ensures.led c.args.terminals.now (come_led c.args.steps.now.items c.requires.1.1 placed) in
    subst (ArePlaced (grammar_of c.args.table.now) c.args.terminals.now) (sym {A = List Step} c.truncate.ensures.items)
    (placed_take (grammar_of c.args.table.now) c.args.terminals.now c.len-written.result c.expand.new.steps.items led.placed)

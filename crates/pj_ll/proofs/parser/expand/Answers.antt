use Rattle.std.proofs.Common.{◌≡◌, [], ◌∷◌, ◌++◌, ◌∙◌, sym, ap, subst, arith}
use Rattle.std.proofs.lemmas.List.{append-nil}
use Rattle.std.proofs.lemmas.Option.{slice_get_within}
use Rattle.pj_ll.specs.declared.grammar.Symbol.TheVariants.{Rule, Close}
use Rattle.pj_ll.specs.declared.parser.Step.{Step}
use Rattle.pj_ll.specs.Grammar.{line_of, grammar_of}
use Rattle.pj_ll.specs.Stack.{behind_top}
use Rattle.pj_ll.specs.Predictive.{weight_of}
use Rattle.pj_ll.specs.Parsing.{HasLed, IsMoving, rests}
use Rattle.pj_ll.specs.Steps.{productions_in}
use Rattle.pj_ll.proofs.Going.{moves_close, moves_replace, lighter}
use Rattle.pj_ll.proofs.Lines.{line_at}
use Rattle.pj_ll.proofs.Placing.{productions_push, led_close, led_replace}
use Rattle.pj_ll.proofs.parser.expand.Goals as goal

pub loop-symbol-init : goal.loop-symbol-init
loop-symbol-init g c = record {
  moving = record { moved = []; productions_are = sym (append-nil (productions_in c.args.steps.now.items)); moves = rests; stack = c.requires.1 };
  led = λ terminals led. led;
}

pub loop-symbol-preserved-in-Close : goal.loop-symbol-preserved-in-Close
loop-symbol-preserved-in-Close g c =
    let stack = c.loop-symbol.stack in
    let is : stack ≡ Close ∷ c.pop.new.self =
    c.in-Some.ensures ∙ ap (λ s. s ∷ behind_top stack) c.in-Close.is ∙ ap (λ l. Close ∷ l) (sym c.pop.ensures) in
    record {
      moving = moves_close g.facts c.args.table.now c.requires.0
          (subst (λ s. IsMoving g.facts c.args.table.now c.args.ahead c.args.stack.now (productions_in c.args.steps.now.items) s (productions_in c.loop-symbol.steps.items)) is
          c.loop-symbol.invariant.moving);
      led = λ terminals led. led_close (grammar_of c.args.table.now) terminals
          (subst (HasLed (grammar_of c.args.table.now) terminals c.args.place c.loop-symbol.steps.items) is (c.loop-symbol.invariant.led terminals led));
    }

pub symbols-requires : goal.symbols-requires
symbols-requires g c =
    let (x, at, rule, chosen) = c.in-Some-choice.ensures in
    slice_get_within c.args.table.now c.in-Some-choice.production x at

pub loop-symbol-smaller : goal.loop-symbol-smaller
loop-symbol-smaller g c =
    let (x, at, rule, chosen) = c.in-Some-choice.ensures in
    let stack = c.loop-symbol.stack in
    let rest = c.pop-in-Some-choice.new.self in
    let is : stack ≡ Rule c.in-Rule.rule ∷ rest =
    c.in-Some.ensures ∙ ap (λ s. s ∷ behind_top stack) c.in-Rule.is ∙ ap (λ l. Rule c.in-Rule.rule ∷ l) (sym c.pop-in-Some-choice.ensures) in
    let new : c.put.new.self ≡ x.symbols ++ rest = c.in_ok-put-in-Some-choice.ensures ∙ ap (λ l. l ++ rest) (c.symbols.ensures x at) in
    let less = lighter g.facts c.args.table.now c.requires.0 c.in-Rule.rule c.in-Some-choice.production x rest at rule in
    let old = ap (weight_of g.facts) is in
    let after = ap (weight_of g.facts) new in
    omega arith

pub loop-symbol-preserved : goal.loop-symbol-preserved
loop-symbol-preserved g c =
    let (x, at, rule, chosen) = c.in-Some-choice.ensures in
    let stack = c.loop-symbol.stack in
    let rest = c.pop-in-Some-choice.new.self in
    let is : stack ≡ Rule c.in-Rule.rule ∷ rest =
    c.in-Some.ensures ∙ ap (λ s. s ∷ behind_top stack) c.in-Rule.is ∙ ap (λ l. Rule c.in-Rule.rule ∷ l) (sym c.pop-in-Some-choice.ensures) in
    let new : c.put.new.self ≡ x.symbols ++ rest = c.in_ok-put-in-Some-choice.ensures ∙ ap (λ l. l ++ rest) (c.symbols.ensures x at) in
    let step : Step = record { production = c.in-Some-choice.production; place = c.args.place } in
    let pushed : c.push.new.self.items ≡ c.loop-symbol.steps.items ++ step ∷ [] = c.in_ok-push-in-Some-choice.ensures.items in
    let moved = moves_replace g.facts c.args.table.now c.requires.0 c.in-Rule.rule c.in-Some-choice.production x
    (subst (λ s. IsMoving g.facts c.args.table.now c.args.ahead c.args.stack.now (productions_in c.args.steps.now.items) s (productions_in c.loop-symbol.steps.items)) is
    c.loop-symbol.invariant.moving)
    at rule chosen in
    record {
      moving = subst (λ s. IsMoving g.facts c.args.table.now c.args.ahead c.args.stack.now (productions_in c.args.steps.now.items) s (productions_in c.push.new.self.items)) (sym new)
          (subst (λ l. IsMoving g.facts c.args.table.now c.args.ahead c.args.stack.now (productions_in c.args.steps.now.items) (x.symbols ++ rest) l)
          (sym (ap productions_in pushed ∙ productions_push c.loop-symbol.steps.items step)) moved);
      led = λ terminals led.
          let there = led_replace (grammar_of c.args.table.now) terminals c.in-Rule.rule c.in-Some-choice.production (line_of x)
          (line_at c.args.table.now c.in-Some-choice.production x at) rule
          (subst (HasLed (grammar_of c.args.table.now) terminals c.args.place c.loop-symbol.steps.items) is (c.loop-symbol.invariant.led terminals led)) in
          subst (λ s. HasLed (grammar_of c.args.table.now) terminals c.args.place c.push.new.self.items s) (sym new)
          (subst (λ l. HasLed (grammar_of c.args.table.now) terminals c.args.place l (x.symbols ++ rest)) (sym pushed) there);
    }

use Rattle.std.proofs.Common.{◌≡◌, [], ◌++◌, ◌∙◌, sym, ap, subst}
use Rattle.pj_ll.specs.Grammar.{grammar_of}
use Rattle.pj_ll.specs.Leads.{start}
use Rattle.pj_ll.specs.Parsing.{HasComeTo}
use Rattle.pj_ll.specs.Steps.{ArePlaced, productions_in}
use Rattle.pj_ll.proofs.Places.{at_first}
use Rattle.pj_ll.proofs.Placing.{none_placed}
use Rattle.pj_ll.proofs.parser.parse.Goals as goal

pub loop-place-init : goal.loop-place-init
loop-place-init g c =
    let first = at_first g.facts c.args.table.now c.requires.0 c.args.terminals.now c.args.deepest in
    let stack : c.put.new.self ≡ start = c.in_ok-put.ensures ∙ ap (λ s. start ++ s) c.new-stack.ensures in
    let none : c.new-steps.result.items ≡ [] = c.new-steps.ensures.items in
    record {
      come = subst (λ s. HasComeTo g.facts c.args.table.now c.args.terminals.now c.args.deepest 0 s (productions_in c.new-steps.result.items)) (sym stack)
          (subst (λ l. HasComeTo g.facts c.args.table.now c.args.terminals.now c.args.deepest 0 start (productions_in l)) (sym none) first);
      placed = subst (ArePlaced (grammar_of c.args.table.now) c.args.terminals.now) (sym none) (none_placed (grammar_of c.args.table.now) c.args.terminals.now);
    }

use Rattle.std.proofs.Common.{map, reverse, sym, ◌∙◌, ap}
use Rattle.pj_peg_grammar.specs.Form.{form_of}
use Rattle.pj_grammar.proofs.Stack.{popped_some, popped_none, empty_items}
use Rattle.pj_grammar.proofs.decoder.take_parts.Goals.{in-Some+in_ok-push, in_default}
use Rattle.pj_grammar.proofs.decoder.take_parts.Goals as goal

pub loop-preserved : goal.loop-preserved
loop-preserved c = elim c.match-pop.branch [
  | in-Some+in_ok-push w ↦
      let h = popped_some form_of (map form_of (reverse c.args.stack.now.items)) c.loop.counter c.loop.parts.items c.loop.stack.items c.pop.new.self.items c.loop.invariant.taken c.loop.invariant.left
      c.match-pop.parts.items w.in-Some.part w.in-Some.ensures.items (ap (λ v. v.items) w.parts-is ∙ w.in_ok-push.ensures.items) in
      record { taken = h.0; left = h.1 }
  | in_default w ↦
      let h = popped_none form_of (map form_of (reverse c.args.stack.now.items)) c.loop.counter c.loop.parts.items c.loop.stack.items c.pop.new.self.items c.loop.invariant.taken c.loop.invariant.left
      (empty_items c.loop.stack.items (sym c.loop.stack.ok.0 ∙ w.in_default.ensures.cases.0)) (empty_items c.pop.new.self.items (sym c.pop.new.self.ok.0 ∙ w.in_default.ensures.cases.1)) in
      record { taken = ap (λ v. map form_of v.items) w.parts-is ∙ h.0; left = h.1 }
]

use Rattle.std.proofs.Common.{◌+◌, length, None, ◌∷◌, [], sym, ◌∙◌, ap, arith, rules, length-append}
use Rattle.std.specs.List.{fold}
use Rattle.std.proofs.lemmas.Option.{slice_get_within}
use Rattle.pj_tree.specs.Building.{after_call}
use Rattle.pj_tree.specs.Nested.{calls_of}
use Rattle.pj_shape.specs.Typed.{typed}
use Rattle.pj_shape.specs.ShapedTree.{roots_of}
use Rattle.pj_shape.specs.Writing.{root_of}
use Rattle.pj_shape.specs.Written.{end_of}
use Rattle.pj_shape.proofs.WriteTurns.{begin, within_at, top_within, top_open, close_next, node_within, mark_within, next_fits, open_next, type_next, all_done, root_within}
use Rattle.pj_shape.proofs.writing.write_nodes.Goals as goal

pub loop-top-init : goal.loop-top-init
loop-top-init c = record {
  within = let h = slice_get_within c.args.nodes.now 0 c.node_at-root.result c.node_at-root.ensures.value in omega arith;
  each = λ w r is. begin c.args.text.now c.args.tokens.now w r c.args.nodes.now c.args.marked.now c.args.builder.now c.open_node.new.builder c.node_at-root.result c.around_at-around.result c.new-stack.result.items c.open_node.new.stack.items
      is (root_within (length c.args.tokens.now) w r c.args.nodes.now c.args.marked.now is c.requires.within) c.node_at-root.ensures.value c.in_ok-open_node.ensures.builder c.around_at-around.ensures.value c.new-stack.ensures.items c.in_ok-open_node.ensures.stack;
}

pub own_tokens-requires-clause-within : goal.own_tokens-requires-clause-within
own_tokens-requires-clause-within c = top_within c.args.text.now c.args.tokens.now c.requires.root.0 c.args.nodes.now c.args.marked.now (fold after_call c.args.builder.now (calls_of (roots_of c.args.text.now c.args.tokens.now (typed c.requires.root.0 None (root_of c.requires.root.1))))) c.loop-top.builder c.loop-top.next c.loop-top.at c.loop-top.around c.loop-top.stack.items c.pop.new.self.items c.in-Some.top (c.loop-top.invariant.each c.requires.root.0 c.requires.root.1 c.requires.root.2) c.in-Some.ensures.items

pub own_tokens-requires-clause-open : goal.own_tokens-requires-clause-open
own_tokens-requires-clause-open c = top_open c.args.text.now c.args.tokens.now c.requires.root.0 c.args.nodes.now c.args.marked.now (fold after_call c.args.builder.now (calls_of (roots_of c.args.text.now c.args.tokens.now (typed c.requires.root.0 None (root_of c.requires.root.1))))) c.loop-top.builder c.loop-top.next c.loop-top.at c.loop-top.around c.loop-top.stack.items c.pop.new.self.items c.in-Some.top (c.loop-top.invariant.each c.requires.root.0 c.requires.root.1 c.requires.root.2) c.in-Some.ensures.items

pub loop-top-preserved-then-top-next : goal.loop-top-preserved-then-top-next
loop-top-preserved-then-top-next c = record {
  within = c.loop-top.invariant.within;
  each = λ w r is. close_next c.args.text.now c.args.tokens.now w c.args.nodes.now c.args.marked.now (fold after_call c.args.builder.now (calls_of (roots_of c.args.text.now c.args.tokens.now (typed w None (root_of r))))) c.loop-top.builder c.loop-top.next c.loop-top.at c.loop-top.around c.loop-top.stack.items c.pop.new.self.items c.in-Some.top (c.loop-top.invariant.each w r is) c.in-Some.ensures.items c.own_tokens.new.builder c.close.new.self c.if-top-next.true c.in_ok-own_tokens.ensures.value c.close.ensures.value;
}

pub node_at-node-requires : goal.node_at-node-requires
node_at-node-requires c = record { within = node_within c.args.text.now c.args.tokens.now c.requires.root.0 c.args.nodes.now c.args.marked.now (fold after_call c.args.builder.now (calls_of (roots_of c.args.text.now c.args.tokens.now (typed c.requires.root.0 None (root_of c.requires.root.1))))) c.loop-top.builder c.loop-top.next c.loop-top.at c.loop-top.around c.loop-top.stack.items c.pop.new.self.items c.in-Some.top (c.loop-top.invariant.each c.requires.root.0 c.requires.root.1 c.requires.root.2) c.in-Some.ensures.items c.if-top-next.false }

pub own_tokens-requires-else-top-next-clause-within : goal.own_tokens-requires-else-top-next-clause-within
own_tokens-requires-else-top-next-clause-within c =
    let h = within_at (length c.args.tokens.now) c.args.nodes.now c.loop-top.next c.node_at-node.result c.requires.within c.node_at-node.ensures.value in
    let a = h.0 in let b = h.1 in omega arith

pub own_tokens-requires-else-top-next-clause-open : goal.own_tokens-requires-else-top-next-clause-open
own_tokens-requires-else-top-next-clause-open c = top_open c.args.text.now c.args.tokens.now c.requires.root.0 c.args.nodes.now c.args.marked.now (fold after_call c.args.builder.now (calls_of (roots_of c.args.text.now c.args.tokens.now (typed c.requires.root.0 None (root_of c.requires.root.1))))) c.loop-top.builder c.loop-top.next c.loop-top.at c.loop-top.around c.loop-top.stack.items c.pop.new.self.items c.in-Some.top (c.loop-top.invariant.each c.requires.root.0 c.requires.root.1 c.requires.root.2) c.in-Some.ensures.items

pub mark_at-requires : goal.mark_at-requires
mark_at-requires c = record { within = mark_within c.args.text.now c.args.tokens.now c.requires.root.0 c.args.nodes.now c.args.marked.now (fold after_call c.args.builder.now (calls_of (roots_of c.args.text.now c.args.tokens.now (typed c.requires.root.0 None (root_of c.requires.root.1))))) c.loop-top.builder c.loop-top.next c.loop-top.at c.loop-top.around c.loop-top.stack.items c.pop.new.self.items c.in-Some.top (c.loop-top.invariant.each c.requires.root.0 c.requires.root.1 c.requires.root.2) c.in-Some.ensures.items c.if-top-next.false }

pub write_type-requires-clause-within : goal.write_type-requires-clause-within
write_type-requires-clause-within c = (within_at (length c.args.tokens.now) c.args.nodes.now c.loop-top.next c.node_at-node.result c.requires.within c.node_at-node.ensures.value).1

pub overflow_add-next : goal.overflow_add-next
overflow_add-next c =
    let h = next_fits c.args.text.now c.args.tokens.now c.requires.root.0 c.args.nodes.now c.args.marked.now (fold after_call c.args.builder.now (calls_of (roots_of c.args.text.now c.args.tokens.now (typed c.requires.root.0 None (root_of c.requires.root.1))))) c.loop-top.builder c.loop-top.next c.loop-top.at c.loop-top.around c.loop-top.stack.items c.pop.new.self.items c.in-Some.top (c.loop-top.invariant.each c.requires.root.0 c.requires.root.1 c.requires.root.2) c.in-Some.ensures.items c.if-top-next.false c.node_at-node.result c.node_at-node.ensures.value in let a = h.0 in search rules

pub loop-top-smaller-then-is_class_at : goal.loop-top-smaller-then-is_class_at
loop-top-smaller-then-is_class_at c =
    let h = next_fits c.args.text.now c.args.tokens.now c.requires.root.0 c.args.nodes.now c.args.marked.now (fold after_call c.args.builder.now (calls_of (roots_of c.args.text.now c.args.tokens.now (typed c.requires.root.0 None (root_of c.requires.root.1))))) c.loop-top.builder c.loop-top.next c.loop-top.at c.loop-top.around c.loop-top.stack.items c.pop.new.self.items c.in-Some.top (c.loop-top.invariant.each c.requires.root.0 c.requires.root.1 c.requires.root.2) c.in-Some.ensures.items c.if-top-next.false c.node_at-node.result c.node_at-node.ensures.value in let a = h.0 in let b = h.1 in
    let l = c.in_ok-push.ensures.len in let m = c.in-Some.ensures.cases in omega arith

pub loop-top-preserved-then-is_class_at : goal.loop-top-preserved-then-is_class_at
loop-top-preserved-then-is_class_at c = record {
  within = (next_fits c.args.text.now c.args.tokens.now c.requires.root.0 c.args.nodes.now c.args.marked.now (fold after_call c.args.builder.now (calls_of (roots_of c.args.text.now c.args.tokens.now (typed c.requires.root.0 None (root_of c.requires.root.1))))) c.loop-top.builder c.loop-top.next c.loop-top.at c.loop-top.around c.loop-top.stack.items c.pop.new.self.items c.in-Some.top (c.loop-top.invariant.each c.requires.root.0 c.requires.root.1 c.requires.root.2) c.in-Some.ensures.items c.if-top-next.false c.node_at-node.result c.node_at-node.ensures.value).0;
  each = λ w r is. type_next c.args.text.now c.args.tokens.now w c.args.nodes.now c.args.marked.now (fold after_call c.args.builder.now (calls_of (roots_of c.args.text.now c.args.tokens.now (typed w None (root_of r))))) c.loop-top.builder c.loop-top.next c.loop-top.at c.loop-top.around c.loop-top.stack.items c.pop.new.self.items c.in-Some.top (c.loop-top.invariant.each w r is) c.in-Some.ensures.items c.if-top-next.false c.node_at-node.result c.node_at-node.ensures.value c.mark_at.result c.is_class_at.result c.mark_at.ensures.value c.is_class_at.ensures.value
      c.own_tokens-else-top-next.new.builder c.write_type.new.builder c.push.new.self.items c.if-is_class_at.true c.in_ok-own_tokens-2.ensures.value c.in_ok-write_type.ensures.value c.in_ok-push.ensures.items;
}

pub open_node-requires-else-is_class_at-clause-within : goal.open_node-requires-else-is_class_at-clause-within
open_node-requires-else-is_class_at-clause-within c = (within_at (length c.args.tokens.now) c.args.nodes.now c.loop-top.next c.node_at-node.result c.requires.within c.node_at-node.ensures.value).1

pub open_node-requires-else-is_class_at-clause-size : goal.open_node-requires-else-is_class_at-clause-size
open_node-requires-else-is_class_at-clause-size c =
    let h = next_fits c.args.text.now c.args.tokens.now c.requires.root.0 c.args.nodes.now c.args.marked.now (fold after_call c.args.builder.now (calls_of (roots_of c.args.text.now c.args.tokens.now (typed c.requires.root.0 None (root_of c.requires.root.1))))) c.loop-top.builder c.loop-top.next c.loop-top.at c.loop-top.around c.loop-top.stack.items c.pop.new.self.items c.in-Some.top (c.loop-top.invariant.each c.requires.root.0 c.requires.root.1 c.requires.root.2) c.in-Some.ensures.items c.if-top-next.false c.node_at-node.result c.node_at-node.ensures.value in let a = h.0 in search rules

pub loop-top-smaller : goal.loop-top-smaller
loop-top-smaller c =
    let h = next_fits c.args.text.now c.args.tokens.now c.requires.root.0 c.args.nodes.now c.args.marked.now (fold after_call c.args.builder.now (calls_of (roots_of c.args.text.now c.args.tokens.now (typed c.requires.root.0 None (root_of c.requires.root.1))))) c.loop-top.builder c.loop-top.next c.loop-top.at c.loop-top.around c.loop-top.stack.items c.pop.new.self.items c.in-Some.top (c.loop-top.invariant.each c.requires.root.0 c.requires.root.1 c.requires.root.2) c.in-Some.ensures.items c.if-top-next.false c.node_at-node.result c.node_at-node.ensures.value in let a = h.0 in let b = h.1 in
    let l = c.in_ok-push.ensures.len in let m = c.in-Some.ensures.cases in
    let p = ap length c.in_ok-open_node-2.ensures.stack in
    let q = length-append c.push.new.self.items (record { end = c.loop-top.next + c.node_at-node.result.size; to = c.node_at-node.result.to; close = end_of c.args.text.now c.args.tokens.now c.node_at-node.result.from c.node_at-node.result.to } ∷ []) in
    omega arith

pub loop-top-preserved : goal.loop-top-preserved
loop-top-preserved c = record {
  within = let h = next_fits c.args.text.now c.args.tokens.now c.requires.root.0 c.args.nodes.now c.args.marked.now (fold after_call c.args.builder.now (calls_of (roots_of c.args.text.now c.args.tokens.now (typed c.requires.root.0 None (root_of c.requires.root.1))))) c.loop-top.builder c.loop-top.next c.loop-top.at c.loop-top.around c.loop-top.stack.items c.pop.new.self.items c.in-Some.top (c.loop-top.invariant.each c.requires.root.0 c.requires.root.1 c.requires.root.2) c.in-Some.ensures.items c.if-top-next.false c.node_at-node.result c.node_at-node.ensures.value in let a = h.0 in let b = h.1 in omega arith;
  each = λ w r is. open_next c.args.text.now c.args.tokens.now w c.args.nodes.now c.args.marked.now (fold after_call c.args.builder.now (calls_of (roots_of c.args.text.now c.args.tokens.now (typed w None (root_of r))))) c.loop-top.builder c.loop-top.next c.loop-top.at c.loop-top.around c.loop-top.stack.items c.pop.new.self.items c.in-Some.top (c.loop-top.invariant.each w r is) c.in-Some.ensures.items c.if-top-next.false c.node_at-node.result c.node_at-node.ensures.value c.mark_at.result c.is_class_at.result c.mark_at.ensures.value c.is_class_at.ensures.value
      c.own_tokens-else-top-next.new.builder c.open_node-else-is_class_at.new.builder c.around_at-around-else-is_class_at.result c.push.new.self.items c.open_node-else-is_class_at.new.stack.items c.if-is_class_at.false
      (within_at (length c.args.tokens.now) c.args.nodes.now c.loop-top.next c.node_at-node.result c.requires.within c.node_at-node.ensures.value).1
      c.in_ok-own_tokens-2.ensures.value c.in_ok-open_node-2.ensures.builder c.around_at-around-else-is_class_at.ensures.value c.in_ok-push.ensures.items c.in_ok-open_node-2.ensures.stack;
}

pub returns : goal.returns
returns c = record {
  value = λ w r is. all_done c.args.text.now c.args.tokens.now w c.args.nodes.now c.args.marked.now (fold after_call c.args.builder.now (calls_of (roots_of c.args.text.now c.args.tokens.now (typed w None (root_of r)))))
      c.loop-top.builder c.loop-top.next c.loop-top.at c.loop-top.around c.loop-top.stack.items [] (c.loop-top.invariant.each w r is) (sym c.loop-top.stack.ok.0 ∙ c.in_default.ensures.cases.0);
}

use Rattle.std.proofs.Common.{◌<◌, ◌∙◌, sym, subst, length, arith}
use Rattle.pj_peg_grammar.specs.Graph.{Marks, IsIn}
use Rattle.pj_peg_grammar.proofs.Sets.{bit_at, set_within}
use Rattle.pj_peg_grammar.proofs.Marking.{search_start, search_on, search_end, calls_at, none_of, in_last, empty_list}
use Rattle.pj_peg_grammar.proofs.graph.comes_to_itself.Goals as goal

pub loop-next-init : goal.loop-next-init
loop-next-init c =
    let calls = c.deref.ensures.value ∙ sym (calls_at c.args.graph.now c.args.rule c.index-graph-rule.result c.requires c.index-graph-rule.is) in
    search_start c.args.graph.now c.args.rule c.resize.new.self.items _ c.new-todo.result.items _ (sym c.resize.new.self.ok.0 ∙ c.in_ok-resize.ensures.len)
    (none_of _ _ c.new-seen.result.items c.resize.new.self.items c.new-seen.ensures.items c.in_ok-resize.ensures.items) c.new-todo.ensures.items
    (subst (λ l. Marks l c.resize.new.self.items c.new-todo.result.items c.mark.new.seen.items c.mark.new.todo.items) calls c.in_ok-mark.ensures)

pub bounds-graph-next : goal.bounds-graph-next
bounds-graph-next c =
    let here = c.loop-next.invariant.todo_seen c.in-Some.next (subst (λ l. IsIn l c.in-Some.next) (sym c.in-Some.ensures.items) (in_last c.pop.new.self.items c.in-Some.next)) in
    let lt = set_within c.loop-next.seen.items c.in-Some.next here in
    let count = c.loop-next.invariant.count in
    omega arith

pub loop-next-preserved : goal.loop-next-preserved
loop-next-preserved c =
    let here = c.loop-next.invariant.todo_seen c.in-Some.next (subst (λ l. IsIn l c.in-Some.next) (sym c.in-Some.ensures.items) (in_last c.pop.new.self.items c.in-Some.next)) in
    let lt = set_within c.loop-next.seen.items c.in-Some.next here in
    let count = c.loop-next.invariant.count in
    let within : c.in-Some.next < length c.args.graph.now = omega arith in
    let calls = c.deref-in-Some.ensures.value ∙ sym (calls_at c.args.graph.now c.in-Some.next c.index-graph-next.result within c.index-graph-next.is) in
    search_on c.args.graph.now c.args.rule c.loop-next.seen.items _ c.loop-next.todo.items c.pop.new.self.items _ c.in-Some.next c.loop-next.invariant c.in-Some.ensures.items
    (subst (λ l. Marks l c.loop-next.seen.items c.pop.new.self.items c.mark-in-Some.new.seen.items c.mark-in-Some.new.todo.items) calls c.in_ok-mark-2.ensures)

pub returns : goal.returns
returns c =
    let count = c.loop-next.invariant.count in
    let lt : c.args.rule < length c.loop-next.seen.items = let h = c.requires in omega arith in
    let bit = bit_at c.loop-next.seen.items c.args.rule c.index.result.now lt c.index.ensures in (
      λ t. c.loop-next.invariant.sound c.args.rule (bit ∙ t),
      λ x. sym bit ∙ search_end c.args.graph.now c.args.rule c.loop-next.seen.items c.loop-next.todo.items c.loop-next.invariant
          (empty_list c.loop-next.todo.items (sym c.loop-next.todo.ok.0 ∙ c.in_default.ensures.cases.0)) c.requires x,
    )

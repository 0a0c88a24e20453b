use Rattle.std.proofs.Common.{List, Option, Err, Ok, ◌≡◌, ◌<◌, ap, length, map, reverse, refl, subst, sym, ◌∙◌}
use Rattle.std.specs.Option.{ForSome}
use Rattle.std.proofs.lemmas.Result.{err_from_is_err_and}
use Rattle.pj_names.specs.Told.{Asks}
use Rattle.pj_tree.specs.declared.node.Node.{Node}
use Rattle.pj_xvalue.specs.Items.{ItemValue, IsOfTree, value_of_item, values_of}
use Rattle.pj_xvalue.specs.OfTree.{ArgumentsOfTree}
use Rattle.pj_xvalue.specs.Replies.{outcome}
use Rattle.pj_xsteps.specs.Calls.{node_in}
use Rattle.pj_xsteps.specs.Context.{Context, around, given_of}
use Rattle.pj_xsteps.specs.Means.{Means}
use Rattle.pj_xframes.specs.declared.frame.Frame.{Frame}
use Rattle.pj_xeval.specs.Whole.{resumed, FramesOfTree, PauseOfTree, pause_meaning, state_meaning}
use Rattle.pj_xeval.specs.declared.machine.Pause.{Pause}
use Rattle.pj_xeval.proofs.Asked.{done, settled-err, replied, replied-err, wants}
use Rattle.pj_xeval.proofs.Asking.{node-inside, given-of_tree, begun}
use Rattle.pj_xeval.proofs.OfTree.{frames-nil, given-of_tree as answer-of_tree}
use Rattle.pj_xeval.proofs.evaluator.value_of.Goals as goal

pub loop-call-init : goal.loop-call-init
loop-call-init g c =
    let a = around c.args.setting.now.tree.now (g.A.Attributes.attribute_of c.args.setting.now.facts.now) (g.A.Attributes.names_of c.args.setting.now.facts.now) c.args.setting.now.patterns.now in
    let n = length c.args.setting.now.tree.now.nodes in
    record {
      nodes = refl;
      same_reply = refl;
      next = tt;
      frames = subst (λ (fs : List Frame). FramesOfTree n fs) (sym c.new-frames.ensures) (frames-nil n);
      item = c.requires.item;
      variables = given-of_tree n (given_of c.args.variables.now) c.new-scope.result c.new-scope.ensures c.requires.variables;
      rest = begun a (g.C.Calls.reply c.args.calls.now) (g.C.Calls.tells c.args.calls.now) c.args.expr.now c.new-frames.result c.args.at c.new-scope.result (given_of c.args.variables.now) c.new-frames.ensures c.new-scope.ensures;
    }

pub returns-in_err-value-clause-nodes : goal.returns-in_err-value-clause-nodes
returns-in_err-value-clause-nodes g c = c.loop-call.invariant.nodes

pub returns-in_err-value-clause-reply : goal.returns-in_err-value-clause-reply
returns-in_err-value-clause-reply g c = c.loop-call.invariant.same_reply

pub returns-in_err-value-clause-asks : goal.returns-in_err-value-clause-asks
returns-in_err-value-clause-asks g c =
    let a = around c.args.setting.now.tree.now (g.A.Attributes.attribute_of c.args.setting.now.facts.now) (g.A.Attributes.names_of c.args.setting.now.facts.now) c.args.setting.now.patterns.now in
    let reply = g.C.Calls.reply c.args.calls.now in
    let p = err_from_is_err_and c.from_residual.result c.from_residual.ensures.1 in
    rw (p.1, p.2)
    (settled-err (state_meaning a reply c.loop-call.next c.loop-call.frames c.loop-call.at c.loop-call.scope) c.loop-call.invariant.rest (λ (pause : Pause). pause_meaning a reply pause c.loop-call.frames c.loop-call.at c.loop-call.scope) values_of c.in_err-value.field-0.0
    (c.in_err-value.ensures.comes reply))

pub returns-in-Done-clause-nodes : goal.returns-in-Done-clause-nodes
returns-in-Done-clause-nodes g c = c.loop-call.invariant.nodes

pub returns-in-Done-clause-reply : goal.returns-in-Done-clause-reply
returns-in-Done-clause-reply g c = c.loop-call.invariant.same_reply

pub returns-in-Done-clause-asks : goal.returns-in-Done-clause-asks
returns-in-Done-clause-asks g c =
    let a = around c.args.setting.now.tree.now (g.A.Attributes.attribute_of c.args.setting.now.facts.now) (g.A.Attributes.names_of c.args.setting.now.facts.now) c.args.setting.now.patterns.now in
    let reply = g.C.Calls.reply c.args.calls.now in
    done (state_meaning a reply c.loop-call.next c.loop-call.frames c.loop-call.at c.loop-call.scope) c.loop-call.invariant.rest (values_of c.in-Done.value)
    (sym (ap (λ (pause : Pause). pause_meaning a reply pause c.settle.new.frames c.settle.new.at c.settle.new.scope) c.in-Done.is) ∙ c.in_ok-value.ensures.comes reply)

pub pmd-requires-clause-inside : goal.pmd-requires-clause-inside
pmd-requires-clause-inside g c =
    let n = length c.args.setting.now.tree.now.nodes in
    let there : value_of_item c.at.inside.item ≡ c.settle.new.at.item = ap (λ (d : Context). d.item) c.at.view_is in
    subst (λ k. ForSome c.node_in-node.result (λ m. m.0 < k)) (sym (c.loop-call.invariant.nodes ∙ c.requires.nodes))
    (subst (λ (o : Option Node). ForSome o (λ m. m.0 < n)) (sym c.node_in-node.ensures)
    (node-inside n (value_of_item c.at.inside.item) (subst (λ (x : ItemValue). IsOfTree n x) (sym there) c.in_ok-value.ensures.item)))

pub pmd-requires-clause-of_tree : goal.pmd-requires-clause-of_tree
pmd-requires-clause-of_tree g c =
    let n = length c.args.setting.now.tree.now.nodes in
    subst (λ k. ArgumentsOfTree k (map values_of c.in-Reply.arguments)) (sym (c.loop-call.invariant.nodes ∙ c.requires.nodes)) (subst (λ (pause : Pause). PauseOfTree n pause) c.in-Reply.is c.in_ok-value.ensures.of_tree).each

pub returns-in_err-value-in-Reply-clause-nodes : goal.returns-in_err-value-in-Reply-clause-nodes
returns-in_err-value-in-Reply-clause-nodes g c = c.pmd.ensures.same_nodes ∙ c.loop-call.invariant.nodes

pub returns-in_err-value-in-Reply-clause-reply : goal.returns-in_err-value-in-Reply-clause-reply
returns-in_err-value-in-Reply-clause-reply g c = c.pmd.ensures.same_reply ∙ c.loop-call.invariant.same_reply

pub returns-in_err-value-in-Reply-clause-asks : goal.returns-in_err-value-in-Reply-clause-asks
returns-in_err-value-in-Reply-clause-asks g c =
    let a = around c.args.setting.now.tree.now (g.A.Attributes.attribute_of c.args.setting.now.facts.now) (g.A.Attributes.names_of c.args.setting.now.facts.now) c.args.setting.now.patterns.now in
    let reply = g.C.Calls.reply c.args.calls.now in
    let there : value_of_item c.at.inside.item ≡ c.settle.new.at.item = ap (λ (d : Context). d.item) c.at.view_is in
    let node : c.node_in-node.result ≡ node_in c.settle.new.at.item = c.node_in-node.ensures ∙ ap node_in there in
    let is = sym (ap (λ (pause : Pause). pause_meaning a reply pause c.settle.new.frames c.settle.new.at c.settle.new.scope) c.in-Reply.is) ∙ c.in_ok-value.ensures.comes reply in
    let p = err_from_is_err_and c.from_residual-in_err-value-in-Reply.result c.from_residual-in_err-value-in-Reply.ensures.1 in
    rw (p.1, p.2)
    (replied-err (state_meaning a reply c.loop-call.next c.loop-call.frames c.loop-call.at c.loop-call.scope) c.loop-call.invariant.rest
    (reply c.in-Reply.function (node_in c.settle.new.at.item) (map values_of c.in-Reply.arguments)) (λ value. resumed a reply (reverse c.settle.new.frames) c.settle.new.at c.settle.new.scope value)
    (g.C.Calls.tells c.pmd.new.self) values_of values_of c.in_err-value-in-Reply.field-0.0 is
    (subst (λ (m : Means (List ItemValue)). Asks m (g.C.Calls.tells c.loop-call.calls) (g.C.Calls.tells c.pmd.new.self) (outcome values_of (Err c.in_err-value-in-Reply.field-0.0)))
    (λ i. c.loop-call.invariant.same_reply i c.in-Reply.function (node i) (map values_of c.in-Reply.arguments)) c.in_err-value-in-Reply.ensures.asks))

pub loop-call-preserved : goal.loop-call-preserved
loop-call-preserved g c =
    let a = around c.args.setting.now.tree.now (g.A.Attributes.attribute_of c.args.setting.now.facts.now) (g.A.Attributes.names_of c.args.setting.now.facts.now) c.args.setting.now.patterns.now in
    let reply = g.C.Calls.reply c.args.calls.now in
    let there : value_of_item c.at.inside.item ≡ c.settle.new.at.item = ap (λ (d : Context). d.item) c.at.view_is in
    let node : c.node_in-node.result ≡ node_in c.settle.new.at.item = c.node_in-node.ensures ∙ ap node_in there in
    let is = sym (ap (λ (pause : Pause). pause_meaning a reply pause c.settle.new.frames c.settle.new.at c.settle.new.scope) c.in-Reply.is) ∙ c.in_ok-value.ensures.comes reply in
    record {
      nodes = c.pmd.ensures.same_nodes ∙ c.loop-call.invariant.nodes;
      same_reply = c.pmd.ensures.same_reply ∙ c.loop-call.invariant.same_reply;
      next = answer-of_tree (length c.args.setting.now.tree.now.nodes) c.in-Reply.function (map values_of c.in-Reply.arguments) (values_of c.in_ok-value-in-Reply.value) c.in_ok-value-in-Reply.ensures.kind;
      frames = c.in_ok-value.ensures.frames;
      item = c.in_ok-value.ensures.item;
      variables = c.in_ok-value.ensures.variables;
      rest = replied (state_meaning a reply c.loop-call.next c.loop-call.frames c.loop-call.at c.loop-call.scope) c.loop-call.invariant.rest
          (reply c.in-Reply.function (node_in c.settle.new.at.item) (map values_of c.in-Reply.arguments)) (λ value. resumed a reply (reverse c.settle.new.frames) c.settle.new.at c.settle.new.scope value)
          (g.C.Calls.tells c.pmd.new.self) (values_of c.in_ok-value-in-Reply.value) is
          (subst (λ (m : Means (List ItemValue)). Asks m (g.C.Calls.tells c.loop-call.calls) (g.C.Calls.tells c.pmd.new.self) (Ok (Ok (values_of c.in_ok-value-in-Reply.value))))
          (λ i. c.loop-call.invariant.same_reply i c.in-Reply.function (node i) (map values_of c.in-Reply.arguments)) c.in_ok-value-in-Reply.ensures.asks);
    }

pub returns-clause-nodes : goal.returns-clause-nodes
returns-clause-nodes g c = c.loop-call.invariant.nodes

pub returns-clause-reply : goal.returns-clause-reply
returns-clause-reply g c = c.loop-call.invariant.same_reply

pub returns-clause-asks : goal.returns-clause-asks
returns-clause-asks g c = wants values_of c.loop-call.invariant.rest

use Rattle.std.proofs.Common.{◌≡◌, ◌∙◌, ap, length, rules, subst, sym}
use Rattle.pj_exprtypes.specs.Table.{KeepsOver}
use Rattle.pj_file_oracle.specs.Held.{Holds}
use Rattle.pj_javafuncs.specs.Facts.{facts as known}
use Rattle.pj_names.specs.Asking.{Asking}
use Rattle.pj_names.specs.Told.{Asks}
use Rattle.pj_reports.specs.declared.ruled.Ruled.{Ruled}
use Rattle.pj_tree.specs.Tree.{Tree}
use Rattle.pj_workers.specs.JavaReplies.{java_replies}
use Rattle.pj_xlaws.specs.Laws.{Reply}
use Rattle.pj_workers.specs.RuleMeaning.{rule_in_file}
use Rattle.pj_workers.specs.Views.{AreRight, file_seen}
use Rattle.pj_workers.proofs.Replying.{asks-under, replies_seen}
use Rattle.pj_workers.proofs.TextLaws.{same_in_file}
use Rattle.pj_workers.proofs.runs.active_result.Goals as goal

pub new-over-requires : goal.new-over-requires
new-over-requires g c =
    subst (λ h. Holds c.args.java.now (g.O.Oracle.tells c.args.oracle.now) h) (sym c.replace-own_held.ensures.value)
    (subst (λ (t : Tree). Holds t (g.O.Oracle.tells c.args.oracle.now) c.args.held.now) (sym c.requires.java) c.requires.right.answers)

pub new-calls-requires-clause-keeps : goal.new-calls-requires-clause-keeps
new-calls-requires-clause-keeps g c =
    subst (λ o. KeepsOver c.new-over.result.file.now (g.O.Oracle.tells o) c.replace-own_types.result.entries) (sym c.new-over.ensures.inner)
    (subst (λ (t : Tree). KeepsOver t (g.O.Oracle.tells c.args.oracle.now) c.replace-own_types.result.entries) (sym (c.new-over.ensures.file ∙ c.requires.java))
    (subst (λ types. KeepsOver (file_seen c.args.file.now).tree (g.O.Oracle.tells c.args.oracle.now) types.entries) (sym c.replace-own_types.ensures.value) c.requires.right.types))

pub new-calls-requires-clause-of_tree : goal.new-calls-requires-clause-of_tree
new-calls-requires-clause-of_tree g c = c.requires.nodes ∙ ap (λ (t : Tree). length t.nodes) (sym (c.new-over.ensures.file ∙ c.requires.java))

pub new-calls-requires-clause-text : goal.new-calls-requires-clause-text
new-calls-requires-clause-text g c = c.requires.text ∙ ap (λ (t : Tree). length t.text) (sym (c.new-over.ensures.file ∙ c.requires.java))

pub result_by-came_to-requires-clause-nodes : goal.result_by-came_to-requires-clause-nodes
result_by-came_to-requires-clause-nodes g c = ap (λ o. length o.file.now.nodes) c.new-calls.ensures.oracle ∙ ap (λ (t : Tree). length t.nodes) (c.new-over.ensures.file ∙ c.requires.java)

pub returns-clause-asks : goal.returns-clause-asks
returns-clause-asks g c = λ meant is.
    let view = c.args.file.now in
    let file = file_seen view in
    let before = c.new-calls.result in
    let after = c.result_by-came_to.new.calls in
    let spelled = c.result_by-came_to.ensures.asks in
    let tree = ap (λ o. o.file.now) c.new-calls.ensures.oracle ∙ c.new-over.ensures.file ∙ c.requires.java in
    let same_facts = c.new-calls.ensures.facts in
    let first : known (g.A.Attributes.attribute_of before.facts.now) (g.A.Attributes.names_of before.facts.now) (g.A.Attributes.modifiers_of before.facts.now) (g.A.Attributes.place_of before.facts.now) before.path.now
    ≡ known (g.A.Attributes.attribute_of c.args.facts.now) (g.A.Attributes.names_of c.args.facts.now) (g.A.Attributes.modifiers_of c.args.facts.now) (g.A.Attributes.place_of c.args.facts.now) view.path.now
    = λ i. known (g.A.Attributes.attribute_of (same_facts i)) (g.A.Attributes.names_of (same_facts i)) (g.A.Attributes.modifiers_of (same_facts i)) (g.A.Attributes.place_of (same_facts i)) (c.new-calls.ensures.path i) in
    let replies = replies_seen view _ before.oracle.file.now (first ∙ c.requires.known) tree in
    let of = spelled.1 in
    let alike = of.2 ∙ ap (λ (r : Reply). rule_in_file r file of.0) replies
    ∙ same_in_file c.one_expression.ensures c.trees_tell_expressions.ensures c.trees_tell_patterns.ensures (java_replies view.path.now file) file of.0 meant (of.1.source ∙ sym is.source) of.1.spelled is.spelled in
    let m = rule_in_file (java_replies view.path.now file) file meant in
    let begun = ap (λ o. o.inner.now) c.new-calls.ensures.oracle ∙ c.new-over.ensures.inner in
    let place = c.give_back-inner.ensures.same_oracle ∙ ap (λ k. k.reference) spelled.2.same_kept ∙ ap (λ o. o.inner.ghost_name) c.new-calls.ensures.oracle ∙ c.new-over.ensures.held in
    let now = c.give_back-inner.ensures.oracle in
    let same : after.oracle.inner.now ≡ c.oracle-1.given.0 = search rules in
    subst (λ o. Asks m (g.O.Oracle.tells c.args.oracle.now) (g.O.Oracle.tells o) c.result_by-came_to.result) same
    (subst (λ o. Asks m (g.O.Oracle.tells o) (g.O.Oracle.tells after.oracle.inner.now) c.result_by-came_to.result) begun
    (subst (λ (n : Asking Ruled). Asks n (g.O.Oracle.tells before.oracle.inner.now) (g.O.Oracle.tells after.oracle.inner.now) c.result_by-came_to.result) alike (asks-under spelled.2)))

pub returns-clause-kept : goal.returns-clause-kept
returns-clause-kept g c =
    let spelled = c.result_by-came_to.ensures.asks in
    let begun = ap (λ o. o.inner.now) c.new-calls.ensures.oracle ∙ c.new-over.ensures.inner in
    let place = c.give_back-inner.ensures.same_oracle ∙ ap (λ k. k.reference) spelled.2.same_kept ∙ ap (λ o. o.inner.ghost_name) c.new-calls.ensures.oracle ∙ c.new-over.ensures.held in
    let now = c.give_back-inner.ensures.oracle in
    let same : c.result_by-came_to.new.calls.oracle.inner.now ≡ c.oracle-1.given.0 = search rules in
    ap (λ o. (g.O.Oracle.tells o).kept) (sym same) ∙ ap (λ k. k.kept) spelled.2.same_kept ∙ ap (λ o. (g.O.Oracle.tells o).kept) begun

pub returns-clause-right : goal.returns-clause-right
returns-clause-right g c =
    let tree = (file_seen c.args.file.now).tree in
    let after = c.result_by-came_to.new.calls in
    let back = c.give_back-inner in
    let spelled = c.result_by-came_to.ensures.asks in
    let file : after.oracle.file.now ≡ tree = ap (λ k. k.own.tree) spelled.2.same_kept ∙ ap (λ o. o.file.now) c.new-calls.ensures.oracle ∙ c.new-over.ensures.file ∙ c.requires.java in
    let place = back.ensures.same_oracle ∙ ap (λ k. k.reference) spelled.2.same_kept ∙ ap (λ o. o.inner.ghost_name) c.new-calls.ensures.oracle ∙ c.new-over.ensures.held in
    let now = back.ensures.oracle in
    let same : after.oracle.inner.now ≡ c.oracle-1.given.0 = search rules in
    subst (λ o. AreRight tree (g.O.Oracle.tells o) back.new.held back.new.types.entries) same
    (subst (λ h. AreRight tree (g.O.Oracle.tells after.oracle.inner.now) h back.new.types.entries) (sym back.ensures.held)
    (subst (λ types. AreRight tree (g.O.Oracle.tells after.oracle.inner.now) after.oracle.held.now types.entries) (sym back.ensures.types) (record {
      answers = subst (λ (t : Tree). Holds t (g.O.Oracle.tells after.oracle.inner.now) after.oracle.held.now) file after.oracle.holds;
      types = subst (λ (t : Tree). KeepsOver t (g.O.Oracle.tells after.oracle.inner.now) after.types.now.entries) file after.keeps;
    })))

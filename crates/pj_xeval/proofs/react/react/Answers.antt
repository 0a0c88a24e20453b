use Rattle.std.proofs.Common.{Ok, length, refl}
use Rattle.pj_xvalue.specs.Items.{IsOfTree, values_of}
use Rattle.pj_xvalue.specs.OfTree.{VariablesOfTree}
use Rattle.pj_xsteps.specs.Context.{around}
use Rattle.pj_xframes.specs.declared.frame.Frame.TheVariants as frame
use Rattle.pj_xframes.specs.declared.frame.Next.TheVariants as next
use Rattle.pj_xframes.specs.declared.frame.Task.TheVariants as task
use Rattle.pj_xframes.specs.Scopes.{variables_of}
use Rattle.pj_xeval.proofs.Arms.{frame-is, goes-frame}
use Rattle.pj_xeval.proofs.Kept.{on-ok}
use Rattle.pj_xeval.proofs.react.react.Goals as goal

pub returns-in-Items-clause-goes : goal.returns-in-Items-clause-goes
returns-in-Items-clause-goes g c = λ reply.
    let a = around c.args.setting.now.tree.now (g.A.Attributes.attribute_of c.args.setting.now.facts.now) (g.A.Attributes.names_of c.args.setting.now.facts.now) c.args.setting.now.patterns.now in
    let at = c.args.at.now in
    let s = c.args.scope.now in
    goes-frame a reply c.args.frame _ at s (values_of c.args.value) at s c.items_after.result c.in-Items.is (c.items_after.ensures.goes a reply at s)

pub returns-in-Items-clause-of_tree : goal.returns-in-Items-clause-of_tree
returns-in-Items-clause-of_tree g c = c.items_after.ensures.of_tree (length c.args.setting.now.tree.now.nodes) (frame-is (length c.args.setting.now.tree.now.nodes) c.args.frame _ c.in-Items.is c.requires.frame) c.requires.value

pub returns-in-Items-clause-item : goal.returns-in-Items-clause-item
returns-in-Items-clause-item g c = on-ok (IsOfTree (length c.args.setting.now.tree.now.nodes) c.args.at.now.item) c.items_after.result c.requires.item

pub returns-in-Items-clause-variables : goal.returns-in-Items-clause-variables
returns-in-Items-clause-variables g c = on-ok (VariablesOfTree (length c.args.setting.now.tree.now.nodes) (variables_of c.args.scope.now)) c.items_after.result c.requires.variables

pub returns-in-Text-clause-goes : goal.returns-in-Text-clause-goes
returns-in-Text-clause-goes g c = λ reply.
    let a = around c.args.setting.now.tree.now (g.A.Attributes.attribute_of c.args.setting.now.facts.now) (g.A.Attributes.names_of c.args.setting.now.facts.now) c.args.setting.now.patterns.now in
    let at = c.args.at.now in
    let s = c.args.scope.now in
    goes-frame a reply c.args.frame _ at s (values_of c.args.value) at s c.texts_after.result c.in-Text.is (c.texts_after.ensures.goes reply at s)

pub returns-in-Text-clause-of_tree : goal.returns-in-Text-clause-of_tree
returns-in-Text-clause-of_tree g c = c.texts_after.ensures.of_tree (length c.args.setting.now.tree.now.nodes)

pub returns-in-Text-clause-item : goal.returns-in-Text-clause-item
returns-in-Text-clause-item g c = on-ok (IsOfTree (length c.args.setting.now.tree.now.nodes) c.args.at.now.item) c.texts_after.result c.requires.item

pub returns-in-Text-clause-variables : goal.returns-in-Text-clause-variables
returns-in-Text-clause-variables g c = on-ok (VariablesOfTree (length c.args.setting.now.tree.now.nodes) (variables_of c.args.scope.now)) c.texts_after.result c.requires.variables

pub returns-in-Nodes-clause-goes : goal.returns-in-Nodes-clause-goes
returns-in-Nodes-clause-goes g c = λ reply.
    let a = around c.args.setting.now.tree.now (g.A.Attributes.attribute_of c.args.setting.now.facts.now) (g.A.Attributes.names_of c.args.setting.now.facts.now) c.args.setting.now.patterns.now in
    let at = c.args.at.now in
    let s = c.args.scope.now in
    goes-frame a reply c.args.frame _ at s (values_of c.args.value) at s c.nodes_after.result c.in-Nodes.is (c.nodes_after.ensures.goes a reply at s)

pub returns-in-Nodes-clause-of_tree : goal.returns-in-Nodes-clause-of_tree
returns-in-Nodes-clause-of_tree g c = c.nodes_after.ensures.of_tree (length c.args.setting.now.tree.now.nodes) (frame-is (length c.args.setting.now.tree.now.nodes) c.args.frame _ c.in-Nodes.is c.requires.frame) c.requires.value

pub returns-in-Nodes-clause-item : goal.returns-in-Nodes-clause-item
returns-in-Nodes-clause-item g c = on-ok (IsOfTree (length c.args.setting.now.tree.now.nodes) c.args.at.now.item) c.nodes_after.result c.requires.item

pub returns-in-Nodes-clause-variables : goal.returns-in-Nodes-clause-variables
returns-in-Nodes-clause-variables g c = on-ok (VariablesOfTree (length c.args.setting.now.tree.now.nodes) (variables_of c.args.scope.now)) c.nodes_after.result c.requires.variables

pub returns-in-Arguments-clause-goes : goal.returns-in-Arguments-clause-goes
returns-in-Arguments-clause-goes g c = λ reply.
    let a = around c.args.setting.now.tree.now (g.A.Attributes.attribute_of c.args.setting.now.facts.now) (g.A.Attributes.names_of c.args.setting.now.facts.now) c.args.setting.now.patterns.now in
    let at = c.args.at.now in
    let s = c.args.scope.now in
    goes-frame a reply c.args.frame _ at s (values_of c.args.value) at s c.arguments_after.result c.in-Arguments.is (c.arguments_after.ensures.goes reply s)

pub returns-in-Arguments-clause-of_tree : goal.returns-in-Arguments-clause-of_tree
returns-in-Arguments-clause-of_tree g c = c.arguments_after.ensures.of_tree

pub returns-in-Arguments-clause-item : goal.returns-in-Arguments-clause-item
returns-in-Arguments-clause-item g c = on-ok (IsOfTree (length c.args.setting.now.tree.now.nodes) c.args.at.now.item) c.arguments_after.result c.requires.item

pub returns-in-Arguments-clause-variables : goal.returns-in-Arguments-clause-variables
returns-in-Arguments-clause-variables g c = on-ok (VariablesOfTree (length c.args.setting.now.tree.now.nodes) (variables_of c.args.scope.now)) c.arguments_after.result c.requires.variables

pub arguments_after-requires-clause-item : goal.arguments_after-requires-clause-item
arguments_after-requires-clause-item g c = c.requires.item

pub arguments_after-requires-clause-values : goal.arguments_after-requires-clause-values
arguments_after-requires-clause-values g c = frame-is (length c.args.setting.now.tree.now.nodes) c.args.frame _ c.in-Arguments.is c.requires.frame

pub arguments_after-requires-clause-value : goal.arguments_after-requires-clause-value
arguments_after-requires-clause-value g c = c.requires.value

pub returns-in-PmdArguments-clause-goes : goal.returns-in-PmdArguments-clause-goes
returns-in-PmdArguments-clause-goes g c = λ reply.
    let a = around c.args.setting.now.tree.now (g.A.Attributes.attribute_of c.args.setting.now.facts.now) (g.A.Attributes.names_of c.args.setting.now.facts.now) c.args.setting.now.patterns.now in
    let at = c.args.at.now in
    let s = c.args.scope.now in
    goes-frame a reply c.args.frame _ at s (values_of c.args.value) at s c.pmd_arguments_after.result c.in-PmdArguments.is (c.pmd_arguments_after.ensures.goes a reply at s)

pub returns-in-PmdArguments-clause-of_tree : goal.returns-in-PmdArguments-clause-of_tree
returns-in-PmdArguments-clause-of_tree g c = c.pmd_arguments_after.ensures.of_tree (length c.args.setting.now.tree.now.nodes) (frame-is (length c.args.setting.now.tree.now.nodes) c.args.frame _ c.in-PmdArguments.is c.requires.frame) c.requires.value

pub returns-in-PmdArguments-clause-item : goal.returns-in-PmdArguments-clause-item
returns-in-PmdArguments-clause-item g c = on-ok (IsOfTree (length c.args.setting.now.tree.now.nodes) c.args.at.now.item) c.pmd_arguments_after.result c.requires.item

pub returns-in-PmdArguments-clause-variables : goal.returns-in-PmdArguments-clause-variables
returns-in-PmdArguments-clause-variables g c = on-ok (VariablesOfTree (length c.args.setting.now.tree.now.nodes) (variables_of c.args.scope.now)) c.pmd_arguments_after.result c.requires.variables

pub returns-in-FirstTerm-clause-goes : goal.returns-in-FirstTerm-clause-goes
returns-in-FirstTerm-clause-goes g c = λ reply.
    let a = around c.args.setting.now.tree.now (g.A.Attributes.attribute_of c.args.setting.now.facts.now) (g.A.Attributes.names_of c.args.setting.now.facts.now) c.args.setting.now.patterns.now in
    let at = c.args.at.now in
    let s = c.args.scope.now in
    goes-frame a reply c.args.frame _ at s (values_of c.args.value) at s c.terms_from.result c.in-FirstTerm.is (c.terms_from.ensures.goes reply at s)

pub returns-in-FirstTerm-clause-of_tree : goal.returns-in-FirstTerm-clause-of_tree
returns-in-FirstTerm-clause-of_tree g c = c.terms_from.ensures.of_tree (length c.args.setting.now.tree.now.nodes)

pub returns-in-FirstTerm-clause-item : goal.returns-in-FirstTerm-clause-item
returns-in-FirstTerm-clause-item g c = on-ok (IsOfTree (length c.args.setting.now.tree.now.nodes) c.args.at.now.item) c.terms_from.result c.requires.item

pub returns-in-FirstTerm-clause-variables : goal.returns-in-FirstTerm-clause-variables
returns-in-FirstTerm-clause-variables g c = on-ok (VariablesOfTree (length c.args.setting.now.tree.now.nodes) (variables_of c.args.scope.now)) c.terms_from.result c.requires.variables

pub terms_from-requires : goal.terms_from-requires
terms_from-requires g c = c.requires.value

pub returns-in-Term-clause-goes : goal.returns-in-Term-clause-goes
returns-in-Term-clause-goes g c = λ reply.
    let a = around c.args.setting.now.tree.now (g.A.Attributes.attribute_of c.args.setting.now.facts.now) (g.A.Attributes.names_of c.args.setting.now.facts.now) c.args.setting.now.patterns.now in
    let at = c.args.at.now in
    let s = c.args.scope.now in
    goes-frame a reply c.args.frame _ at s (values_of c.args.value) at s c.terms_after.result c.in-Term.is (c.terms_after.ensures.goes reply at s)

pub returns-in-Term-clause-of_tree : goal.returns-in-Term-clause-of_tree
returns-in-Term-clause-of_tree g c = c.terms_after.ensures.of_tree (length c.args.setting.now.tree.now.nodes)

pub returns-in-Term-clause-item : goal.returns-in-Term-clause-item
returns-in-Term-clause-item g c = on-ok (IsOfTree (length c.args.setting.now.tree.now.nodes) c.args.at.now.item) c.terms_after.result c.requires.item

pub returns-in-Term-clause-variables : goal.returns-in-Term-clause-variables
returns-in-Term-clause-variables g c = on-ok (VariablesOfTree (length c.args.setting.now.tree.now.nodes) (variables_of c.args.scope.now)) c.terms_after.result c.requires.variables

pub terms_after-requires : goal.terms_after-requires
terms_after-requires g c = c.requires.value

pub returns-in-FirstFactor-clause-goes : goal.returns-in-FirstFactor-clause-goes
returns-in-FirstFactor-clause-goes g c = λ reply.
    let a = around c.args.setting.now.tree.now (g.A.Attributes.attribute_of c.args.setting.now.facts.now) (g.A.Attributes.names_of c.args.setting.now.facts.now) c.args.setting.now.patterns.now in
    let at = c.args.at.now in
    let s = c.args.scope.now in
    goes-frame a reply c.args.frame _ at s (values_of c.args.value) at s c.factors_from.result c.in-FirstFactor.is (c.factors_from.ensures.goes reply at s)

pub returns-in-FirstFactor-clause-of_tree : goal.returns-in-FirstFactor-clause-of_tree
returns-in-FirstFactor-clause-of_tree g c = c.factors_from.ensures.of_tree (length c.args.setting.now.tree.now.nodes)

pub returns-in-FirstFactor-clause-item : goal.returns-in-FirstFactor-clause-item
returns-in-FirstFactor-clause-item g c = on-ok (IsOfTree (length c.args.setting.now.tree.now.nodes) c.args.at.now.item) c.factors_from.result c.requires.item

pub returns-in-FirstFactor-clause-variables : goal.returns-in-FirstFactor-clause-variables
returns-in-FirstFactor-clause-variables g c = on-ok (VariablesOfTree (length c.args.setting.now.tree.now.nodes) (variables_of c.args.scope.now)) c.factors_from.result c.requires.variables

pub factors_from-requires : goal.factors_from-requires
factors_from-requires g c = c.requires.value

pub returns-in-Factor-clause-goes : goal.returns-in-Factor-clause-goes
returns-in-Factor-clause-goes g c = λ reply.
    let a = around c.args.setting.now.tree.now (g.A.Attributes.attribute_of c.args.setting.now.facts.now) (g.A.Attributes.names_of c.args.setting.now.facts.now) c.args.setting.now.patterns.now in
    let at = c.args.at.now in
    let s = c.args.scope.now in
    goes-frame a reply c.args.frame _ at s (values_of c.args.value) at s c.factors_after.result c.in-Factor.is (c.factors_after.ensures.goes reply at s)

pub returns-in-Factor-clause-of_tree : goal.returns-in-Factor-clause-of_tree
returns-in-Factor-clause-of_tree g c = c.factors_after.ensures.of_tree (length c.args.setting.now.tree.now.nodes)

pub returns-in-Factor-clause-item : goal.returns-in-Factor-clause-item
returns-in-Factor-clause-item g c = on-ok (IsOfTree (length c.args.setting.now.tree.now.nodes) c.args.at.now.item) c.factors_after.result c.requires.item

pub returns-in-Factor-clause-variables : goal.returns-in-Factor-clause-variables
returns-in-Factor-clause-variables g c = on-ok (VariablesOfTree (length c.args.setting.now.tree.now.nodes) (variables_of c.args.scope.now)) c.factors_after.result c.requires.variables

pub factors_after-requires : goal.factors_after-requires
factors_after-requires g c = c.requires.value

pub returns-in-From-clause-goes : goal.returns-in-From-clause-goes
returns-in-From-clause-goes g c = λ reply.
    let a = around c.args.setting.now.tree.now (g.A.Attributes.attribute_of c.args.setting.now.facts.now) (g.A.Attributes.names_of c.args.setting.now.facts.now) c.args.setting.now.patterns.now in
    let at = c.args.at.now in
    let s = c.args.scope.now in
    goes-frame a reply c.args.frame _ at s (values_of c.args.value) at s c.range_from.result c.in-From.is (c.range_from.ensures.goes reply at s)

pub returns-in-From-clause-of_tree : goal.returns-in-From-clause-of_tree
returns-in-From-clause-of_tree g c = c.range_from.ensures.of_tree (length c.args.setting.now.tree.now.nodes)

pub returns-in-From-clause-item : goal.returns-in-From-clause-item
returns-in-From-clause-item g c = on-ok (IsOfTree (length c.args.setting.now.tree.now.nodes) c.args.at.now.item) c.range_from.result c.requires.item

pub returns-in-From-clause-variables : goal.returns-in-From-clause-variables
returns-in-From-clause-variables g c = on-ok (VariablesOfTree (length c.args.setting.now.tree.now.nodes) (variables_of c.args.scope.now)) c.range_from.result c.requires.variables

pub range_from-requires : goal.range_from-requires
range_from-requires g c = c.requires.value

pub returns-in-To-clause-goes : goal.returns-in-To-clause-goes
returns-in-To-clause-goes g c = λ reply.
    let a = around c.args.setting.now.tree.now (g.A.Attributes.attribute_of c.args.setting.now.facts.now) (g.A.Attributes.names_of c.args.setting.now.facts.now) c.args.setting.now.patterns.now in
    let at = c.args.at.now in
    let s = c.args.scope.now in
    goes-frame a reply c.args.frame _ at s (values_of c.args.value) at s c.range_to.result c.in-To.is (c.range_to.ensures.goes reply at s)

pub returns-in-To-clause-of_tree : goal.returns-in-To-clause-of_tree
returns-in-To-clause-of_tree g c = c.range_to.ensures.of_tree (length c.args.setting.now.tree.now.nodes)

pub returns-in-To-clause-item : goal.returns-in-To-clause-item
returns-in-To-clause-item g c = on-ok (IsOfTree (length c.args.setting.now.tree.now.nodes) c.args.at.now.item) c.range_to.result c.requires.item

pub returns-in-To-clause-variables : goal.returns-in-To-clause-variables
returns-in-To-clause-variables g c = on-ok (VariablesOfTree (length c.args.setting.now.tree.now.nodes) (variables_of c.args.scope.now)) c.range_to.result c.requires.variables

pub range_to-requires : goal.range_to-requires
range_to-requires g c = c.requires.value

pub returns-in-Sign-clause-goes : goal.returns-in-Sign-clause-goes
returns-in-Sign-clause-goes g c = λ reply.
    let a = around c.args.setting.now.tree.now (g.A.Attributes.attribute_of c.args.setting.now.facts.now) (g.A.Attributes.names_of c.args.setting.now.facts.now) c.args.setting.now.patterns.now in
    let at = c.args.at.now in
    let s = c.args.scope.now in
    goes-frame a reply c.args.frame _ at s (values_of c.args.value) at s c.signed_value.result c.in-Sign.is (c.signed_value.ensures.goes reply at s)

pub returns-in-Sign-clause-of_tree : goal.returns-in-Sign-clause-of_tree
returns-in-Sign-clause-of_tree g c = c.signed_value.ensures.of_tree (length c.args.setting.now.tree.now.nodes)

pub returns-in-Sign-clause-item : goal.returns-in-Sign-clause-item
returns-in-Sign-clause-item g c = on-ok (IsOfTree (length c.args.setting.now.tree.now.nodes) c.args.at.now.item) c.signed_value.result c.requires.item

pub returns-in-Sign-clause-variables : goal.returns-in-Sign-clause-variables
returns-in-Sign-clause-variables g c = on-ok (VariablesOfTree (length c.args.setting.now.tree.now.nodes) (variables_of c.args.scope.now)) c.signed_value.result c.requires.variables

pub signed_value-requires : goal.signed_value-requires
signed_value-requires g c = c.requires.value

pub texts_after-requires : goal.texts_after-requires
texts_after-requires g c = c.requires.value

pub returns-in-FirstSet-clause-goes : goal.returns-in-FirstSet-clause-goes
returns-in-FirstSet-clause-goes g c = λ reply.
    let a = around c.args.setting.now.tree.now (g.A.Attributes.attribute_of c.args.setting.now.facts.now) (g.A.Attributes.names_of c.args.setting.now.facts.now) c.args.setting.now.patterns.now in
    let at = c.args.at.now in
    let s = c.args.scope.now in
    goes-frame a reply c.args.frame _ at s (values_of c.args.value) at s c.sets_from.result c.in-FirstSet.is (c.sets_from.ensures.goes a reply at s)

pub returns-in-FirstSet-clause-of_tree : goal.returns-in-FirstSet-clause-of_tree
returns-in-FirstSet-clause-of_tree g c = c.sets_from.ensures.of_tree (length c.args.setting.now.tree.now.nodes) c.requires.value

pub returns-in-FirstSet-clause-item : goal.returns-in-FirstSet-clause-item
returns-in-FirstSet-clause-item g c = on-ok (IsOfTree (length c.args.setting.now.tree.now.nodes) c.args.at.now.item) c.sets_from.result c.requires.item

pub returns-in-FirstSet-clause-variables : goal.returns-in-FirstSet-clause-variables
returns-in-FirstSet-clause-variables g c = on-ok (VariablesOfTree (length c.args.setting.now.tree.now.nodes) (variables_of c.args.scope.now)) c.sets_from.result c.requires.variables

pub returns-in-Set-clause-goes : goal.returns-in-Set-clause-goes
returns-in-Set-clause-goes g c = λ reply.
    let a = around c.args.setting.now.tree.now (g.A.Attributes.attribute_of c.args.setting.now.facts.now) (g.A.Attributes.names_of c.args.setting.now.facts.now) c.args.setting.now.patterns.now in
    let at = c.args.at.now in
    let s = c.args.scope.now in
    goes-frame a reply c.args.frame _ at s (values_of c.args.value) at s c.sets_after.result c.in-Set.is (c.sets_after.ensures.goes a reply at s)

pub returns-in-Set-clause-of_tree : goal.returns-in-Set-clause-of_tree
returns-in-Set-clause-of_tree g c = c.sets_after.ensures.of_tree (length c.args.setting.now.tree.now.nodes) (frame-is (length c.args.setting.now.tree.now.nodes) c.args.frame _ c.in-Set.is c.requires.frame) c.requires.value

pub returns-in-Set-clause-item : goal.returns-in-Set-clause-item
returns-in-Set-clause-item g c = on-ok (IsOfTree (length c.args.setting.now.tree.now.nodes) c.args.at.now.item) c.sets_after.result c.requires.item

pub returns-in-Set-clause-variables : goal.returns-in-Set-clause-variables
returns-in-Set-clause-variables g c = on-ok (VariablesOfTree (length c.args.setting.now.tree.now.nodes) (variables_of c.args.scope.now)) c.sets_after.result c.requires.variables

pub returns-in-Truths-clause-goes : goal.returns-in-Truths-clause-goes
returns-in-Truths-clause-goes g c = λ reply.
    let a = around c.args.setting.now.tree.now (g.A.Attributes.attribute_of c.args.setting.now.facts.now) (g.A.Attributes.names_of c.args.setting.now.facts.now) c.args.setting.now.patterns.now in
    let at = c.args.at.now in
    let s = c.args.scope.now in
    goes-frame a reply c.args.frame _ at s (values_of c.args.value) at s c.truths_after.result c.in-Truths.is (c.truths_after.ensures.goes a reply at s)

pub returns-in-Truths-clause-of_tree : goal.returns-in-Truths-clause-of_tree
returns-in-Truths-clause-of_tree g c = c.truths_after.ensures.of_tree (length c.args.setting.now.tree.now.nodes)

pub returns-in-Truths-clause-item : goal.returns-in-Truths-clause-item
returns-in-Truths-clause-item g c = on-ok (IsOfTree (length c.args.setting.now.tree.now.nodes) c.args.at.now.item) c.truths_after.result c.requires.item

pub returns-in-Truths-clause-variables : goal.returns-in-Truths-clause-variables
returns-in-Truths-clause-variables g c = on-ok (VariablesOfTree (length c.args.setting.now.tree.now.nodes) (variables_of c.args.scope.now)) c.truths_after.result c.requires.variables

pub returns-in-Truth-clause-goes : goal.returns-in-Truth-clause-goes
returns-in-Truth-clause-goes g c = λ reply.
    let a = around c.args.setting.now.tree.now (g.A.Attributes.attribute_of c.args.setting.now.facts.now) (g.A.Attributes.names_of c.args.setting.now.facts.now) c.args.setting.now.patterns.now in
    let at = c.args.at.now in
    let s = c.args.scope.now in
    goes-frame a reply c.args.frame _ at s (values_of c.args.value) at s c.tested.result c.in-Truth.is (c.tested.ensures.goes a reply at s)

pub returns-in-Truth-clause-of_tree : goal.returns-in-Truth-clause-of_tree
returns-in-Truth-clause-of_tree g c = c.tested.ensures.of_tree (length c.args.setting.now.tree.now.nodes)

pub returns-in-Truth-clause-item : goal.returns-in-Truth-clause-item
returns-in-Truth-clause-item g c = on-ok (IsOfTree (length c.args.setting.now.tree.now.nodes) c.args.at.now.item) c.tested.result c.requires.item

pub returns-in-Truth-clause-variables : goal.returns-in-Truth-clause-variables
returns-in-Truth-clause-variables g c = on-ok (VariablesOfTree (length c.args.setting.now.tree.now.nodes) (variables_of c.args.scope.now)) c.tested.result c.requires.variables

pub returns-in-If-clause-goes : goal.returns-in-If-clause-goes
returns-in-If-clause-goes g c = λ reply.
    let a = around c.args.setting.now.tree.now (g.A.Attributes.attribute_of c.args.setting.now.facts.now) (g.A.Attributes.names_of c.args.setting.now.facts.now) c.args.setting.now.patterns.now in
    let at = c.args.at.now in
    let s = c.args.scope.now in
    goes-frame a reply c.args.frame _ at s (values_of c.args.value) at s c.chosen.result c.in-If.is (c.chosen.ensures.goes a reply at s)

pub returns-in-If-clause-of_tree : goal.returns-in-If-clause-of_tree
returns-in-If-clause-of_tree g c = c.chosen.ensures.of_tree (length c.args.setting.now.tree.now.nodes)

pub returns-in-If-clause-item : goal.returns-in-If-clause-item
returns-in-If-clause-item g c = on-ok (IsOfTree (length c.args.setting.now.tree.now.nodes) c.args.at.now.item) c.chosen.result c.requires.item

pub returns-in-If-clause-variables : goal.returns-in-If-clause-variables
returns-in-If-clause-variables g c = on-ok (VariablesOfTree (length c.args.setting.now.tree.now.nodes) (variables_of c.args.scope.now)) c.chosen.result c.requires.variables

pub returns-in-Left-clause-goes : goal.returns-in-Left-clause-goes
returns-in-Left-clause-goes g c = λ reply.
    let a = around c.args.setting.now.tree.now (g.A.Attributes.attribute_of c.args.setting.now.facts.now) (g.A.Attributes.names_of c.args.setting.now.facts.now) c.args.setting.now.patterns.now in
    let at = c.args.at.now in
    let s = c.args.scope.now in
    goes-frame a reply c.args.frame _ at s (values_of c.args.value) at s (Ok (next.Within (task.Expression c.in-Left.right) (frame.Right c.in-Left.op c.args.value))) c.in-Left.is (record { meaning = refl; context = refl; scope = refl })

pub returns-in-Left-clause-of_tree : goal.returns-in-Left-clause-of_tree
returns-in-Left-clause-of_tree g c = c.requires.value

pub returns-in-Left-clause-item : goal.returns-in-Left-clause-item
returns-in-Left-clause-item g c = c.requires.item

pub returns-in-Left-clause-variables : goal.returns-in-Left-clause-variables
returns-in-Left-clause-variables g c = c.requires.variables

pub returns-in-Right-clause-goes : goal.returns-in-Right-clause-goes
returns-in-Right-clause-goes g c = λ reply.
    let a = around c.args.setting.now.tree.now (g.A.Attributes.attribute_of c.args.setting.now.facts.now) (g.A.Attributes.names_of c.args.setting.now.facts.now) c.args.setting.now.patterns.now in
    let at = c.args.at.now in
    let s = c.args.scope.now in
    goes-frame a reply c.args.frame _ at s (values_of c.args.value) at s c.comparison.result c.in-Right.is (c.comparison.ensures.goes reply at s)

pub returns-in-Right-clause-of_tree : goal.returns-in-Right-clause-of_tree
returns-in-Right-clause-of_tree g c = c.comparison.ensures.of_tree (length c.args.setting.now.tree.now.nodes)

pub returns-in-Right-clause-item : goal.returns-in-Right-clause-item
returns-in-Right-clause-item g c = on-ok (IsOfTree (length c.args.setting.now.tree.now.nodes) c.args.at.now.item) c.comparison.result c.requires.item

pub returns-in-Right-clause-variables : goal.returns-in-Right-clause-variables
returns-in-Right-clause-variables g c = on-ok (VariablesOfTree (length c.args.setting.now.tree.now.nodes) (variables_of c.args.scope.now)) c.comparison.result c.requires.variables

pub comparison-requires-clause-left : goal.comparison-requires-clause-left
comparison-requires-clause-left g c = frame-is (length c.args.setting.now.tree.now.nodes) c.args.frame _ c.in-Right.is c.requires.frame

pub comparison-requires-clause-value : goal.comparison-requires-clause-value
comparison-requires-clause-value g c = c.requires.value

pub returns-in-First-clause-goes : goal.returns-in-First-clause-goes
returns-in-First-clause-goes g c = λ reply.
    let a = around c.args.setting.now.tree.now (g.A.Attributes.attribute_of c.args.setting.now.facts.now) (g.A.Attributes.names_of c.args.setting.now.facts.now) c.args.setting.now.patterns.now in
    let at = c.args.at.now in
    let s = c.args.scope.now in
    goes-frame a reply c.args.frame _ at s (values_of c.args.value) at s (Ok (next.Over c.in-First.what c.in-First.rest c.args.value)) c.in-First.is (record { meaning = refl; context = refl; scope = refl })

pub returns-in-First-clause-of_tree : goal.returns-in-First-clause-of_tree
returns-in-First-clause-of_tree g c = c.requires.value

pub returns-in-First-clause-item : goal.returns-in-First-clause-item
returns-in-First-clause-item g c = c.requires.item

pub returns-in-First-clause-variables : goal.returns-in-First-clause-variables
returns-in-First-clause-variables g c = c.requires.variables

pub returns-in-Turns-clause-goes : goal.returns-in-Turns-clause-goes
returns-in-Turns-clause-goes g c = λ reply.
    let a = around c.args.setting.now.tree.now (g.A.Attributes.attribute_of c.args.setting.now.facts.now) (g.A.Attributes.names_of c.args.setting.now.facts.now) c.args.setting.now.patterns.now in
    let at = c.args.at.now in
    let s = c.args.scope.now in
    goes-frame a reply c.args.frame _ at s (values_of c.args.value) c.turn_after.new.at s c.turn_after.result c.in-Turns.is (c.turn_after.ensures.goes a reply s)

pub returns-in-Turns-clause-of_tree : goal.returns-in-Turns-clause-of_tree
returns-in-Turns-clause-of_tree g c = c.turn_after.ensures.of_tree (length c.args.setting.now.tree.now.nodes) (frame-is (length c.args.setting.now.tree.now.nodes) c.args.frame _ c.in-Turns.is c.requires.frame) c.requires.value c.requires.item

pub returns-in-Turns-clause-item : goal.returns-in-Turns-clause-item
returns-in-Turns-clause-item g c = c.turn_after.ensures.item (length c.args.setting.now.tree.now.nodes) (frame-is (length c.args.setting.now.tree.now.nodes) c.args.frame _ c.in-Turns.is c.requires.frame)

pub returns-in-Turns-clause-variables : goal.returns-in-Turns-clause-variables
returns-in-Turns-clause-variables g c = on-ok (VariablesOfTree (length c.args.setting.now.tree.now.nodes) (variables_of c.args.scope.now)) c.turn_after.result c.requires.variables

pub returns-in-Source-clause-goes : goal.returns-in-Source-clause-goes
returns-in-Source-clause-goes g c = λ reply.
    let a = around c.args.setting.now.tree.now (g.A.Attributes.attribute_of c.args.setting.now.facts.now) (g.A.Attributes.names_of c.args.setting.now.facts.now) c.args.setting.now.patterns.now in
    let at = c.args.at.now in
    let s = c.args.scope.now in
    goes-frame a reply c.args.frame _ at s (values_of c.args.value) at c.source_after.new.scope c.source_after.result c.in-Source.is (c.source_after.ensures.goes a reply at)

pub returns-in-Source-clause-of_tree : goal.returns-in-Source-clause-of_tree
returns-in-Source-clause-of_tree g c = c.source_after.ensures.of_tree (length c.args.setting.now.tree.now.nodes) c.requires.value

pub returns-in-Source-clause-item : goal.returns-in-Source-clause-item
returns-in-Source-clause-item g c = on-ok (IsOfTree (length c.args.setting.now.tree.now.nodes) c.args.at.now.item) c.source_after.result c.requires.item

pub returns-in-Source-clause-variables : goal.returns-in-Source-clause-variables
returns-in-Source-clause-variables g c = c.source_after.ensures.scope (length c.args.setting.now.tree.now.nodes) c.requires.value c.requires.variables

pub returns-in-For-clause-goes : goal.returns-in-For-clause-goes
returns-in-For-clause-goes g c = λ reply.
    let a = around c.args.setting.now.tree.now (g.A.Attributes.attribute_of c.args.setting.now.facts.now) (g.A.Attributes.names_of c.args.setting.now.facts.now) c.args.setting.now.patterns.now in
    let at = c.args.at.now in
    let s = c.args.scope.now in
    goes-frame a reply c.args.frame _ at s (values_of c.args.value) at c.for_after.new.scope c.for_after.result c.in-For.is (c.for_after.ensures.goes a reply at)

pub returns-in-For-clause-of_tree : goal.returns-in-For-clause-of_tree
returns-in-For-clause-of_tree g c = c.for_after.ensures.of_tree (length c.args.setting.now.tree.now.nodes) (frame-is (length c.args.setting.now.tree.now.nodes) c.args.frame _ c.in-For.is c.requires.frame) c.requires.value

pub returns-in-For-clause-item : goal.returns-in-For-clause-item
returns-in-For-clause-item g c = on-ok (IsOfTree (length c.args.setting.now.tree.now.nodes) c.args.at.now.item) c.for_after.result c.requires.item

pub returns-in-For-clause-variables : goal.returns-in-For-clause-variables
returns-in-For-clause-variables g c = c.for_after.ensures.scope (length c.args.setting.now.tree.now.nodes) (frame-is (length c.args.setting.now.tree.now.nodes) c.args.frame _ c.in-For.is c.requires.frame) c.requires.variables

pub returns-in-Quantified-clause-goes : goal.returns-in-Quantified-clause-goes
returns-in-Quantified-clause-goes g c = λ reply.
    let a = around c.args.setting.now.tree.now (g.A.Attributes.attribute_of c.args.setting.now.facts.now) (g.A.Attributes.names_of c.args.setting.now.facts.now) c.args.setting.now.patterns.now in
    let at = c.args.at.now in
    let s = c.args.scope.now in
    goes-frame a reply c.args.frame _ at s (values_of c.args.value) at c.quantified_after.new.scope c.quantified_after.result c.in-Quantified.is (c.quantified_after.ensures.goes a reply at)

pub returns-in-Quantified-clause-of_tree : goal.returns-in-Quantified-clause-of_tree
returns-in-Quantified-clause-of_tree g c = c.quantified_after.ensures.of_tree (length c.args.setting.now.tree.now.nodes) (frame-is (length c.args.setting.now.tree.now.nodes) c.args.frame _ c.in-Quantified.is c.requires.frame)

pub returns-in-Quantified-clause-item : goal.returns-in-Quantified-clause-item
returns-in-Quantified-clause-item g c = on-ok (IsOfTree (length c.args.setting.now.tree.now.nodes) c.args.at.now.item) c.quantified_after.result c.requires.item

pub returns-in-Quantified-clause-variables : goal.returns-in-Quantified-clause-variables
returns-in-Quantified-clause-variables g c = c.quantified_after.ensures.scope (length c.args.setting.now.tree.now.nodes) (frame-is (length c.args.setting.now.tree.now.nodes) c.args.frame _ c.in-Quantified.is c.requires.frame) c.requires.variables

pub returns-in-LetBody-clause-goes : goal.returns-in-LetBody-clause-goes
returns-in-LetBody-clause-goes g c = λ reply.
    let a = around c.args.setting.now.tree.now (g.A.Attributes.attribute_of c.args.setting.now.facts.now) (g.A.Attributes.names_of c.args.setting.now.facts.now) c.args.setting.now.patterns.now in
    let at = c.args.at.now in
    let s = c.args.scope.now in
    goes-frame a reply c.args.frame _ at s (values_of c.args.value) at c.let_body.new.scope (Ok c.let_body.result) c.in-LetBody.is (c.let_body.ensures.goes a reply at)

pub returns-in-LetBody-clause-of_tree : goal.returns-in-LetBody-clause-of_tree
returns-in-LetBody-clause-of_tree g c = c.let_body.ensures.of_tree (length c.args.setting.now.tree.now.nodes) c.requires.value

pub returns-in-LetBody-clause-item : goal.returns-in-LetBody-clause-item
returns-in-LetBody-clause-item g c = c.requires.item

pub returns-in-LetBody-clause-variables : goal.returns-in-LetBody-clause-variables
returns-in-LetBody-clause-variables g c = c.let_body.ensures.scope (length c.args.setting.now.tree.now.nodes) c.requires.variables

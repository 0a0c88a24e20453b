use Rattle.std.proofs.Common.{◌∷◌, [], ◌∙◌, ℕ, List, Ok, length, map, sym, subst, ap}
use Rattle.std.specs.Prelude.{if◌then◌else◌}
use Rattle.pj_xexpressions.specs.declared.operator.Quantifier.TheVariants as quantifier
use Rattle.pj_xvalue.specs.Boolean.{effective_boolean}
use Rattle.pj_xvalue.specs.Comparison.{general_comparison}
use Rattle.pj_xvalue.specs.declared.item.Item.{Item}
use Rattle.pj_xvalue.specs.Items.{ItemValue, String, value_of_item, values_of}
use Rattle.pj_xvalue.specs.OfTree.{OfTree, ArgumentsOfTree}
use Rattle.pj_xvalue.proofs.OfTreeLaws.{arguments-nil, of_tree-one}
use Rattle.pj_xaxes.specs.Axes.{is_reverse}
use Rattle.pj_xaxes.specs.Order.{ordered}
use Rattle.pj_xsteps.specs.Arithmetic.{number_items, range, signed}
use Rattle.pj_xsteps.specs.Bindings.{for_in, let_in, quantified}
use Rattle.pj_xsteps.specs.Calls.{call, pmd_call}
use Rattle.pj_xsteps.specs.Context.{Context, around}
use Rattle.pj_xsteps.specs.Denotes.{behind, denotes, here, with_argument, with_factor, with_nodes, with_set, with_term, with_text}
use Rattle.pj_xsteps.specs.Means.{◌>>=◌, chain, decided, give, judged, one_boolean}
use Rattle.pj_xsteps.specs.Operands.{only_nodes, operand, with_values}
use Rattle.pj_xsteps.specs.Parts.{bindings_of, operated_by}
use Rattle.pj_xsteps.specs.Steps.{attributes, from_node, in_document_order, stepped}
use Rattle.pj_xsteps.specs.Turns.{narrowed, path, simple_map, with_all}
use Rattle.pj_xsteps.proofs.Forms.{denotes_additive, denotes_and, denotes_attribute, denotes_call, denotes_comma, denotes_comparison, denotes_concatenation, denotes_context, denotes_filter, denotes_for, denotes_if, denotes_integer, denotes_intersect, denotes_let, denotes_map, denotes_multiplicative, denotes_or, denotes_path, denotes_pmd, denotes_quantified, denotes_range, denotes_root, denotes_step, denotes_string, denotes_unary, denotes_union, denotes_variable}
use Rattle.pj_xframes.specs.Scopes.{variables_of}
use Rattle.pj_xeval.proofs.Arms.{goes-form, literal-of_tree}
use Rattle.pj_xeval.proofs.Kept.{none-of_tree}
use Rattle.pj_xeval.proofs.OfTree.{variable-of_tree}
use Rattle.pj_xeval.proofs.begin.expression.Goals as goal

pub returns-in-Comma-clause-goes : goal.returns-in-Comma-clause-goes
returns-in-Comma-clause-goes g c = λ reply.
    let a = around c.args.setting.now.tree.now (g.A.Attributes.attribute_of c.args.setting.now.facts.now) (g.A.Attributes.names_of c.args.setting.now.facts.now) c.args.setting.now.patterns.now in
    let at = c.args.at.now in
    let s = c.args.scope.now in
    let v = variables_of s in
    goes-form a reply at s (Ok c.items.result) c.args.expr.now _ _ c.in-Comma.is
    ((λ i. chain (here at v) with_all (map (denotes a reply) (c.as_slice.ensures.value i)) (values_of (c.new.ensures i)))
    ∙ sym (denotes_comma a reply at v c.in-Comma.parts))
    (c.items.ensures.goes a reply at s)

pub returns-in-For-clause-goes : goal.returns-in-For-clause-goes
returns-in-For-clause-goes g c = λ reply.
    let a = around c.args.setting.now.tree.now (g.A.Attributes.attribute_of c.args.setting.now.facts.now) (g.A.Attributes.names_of c.args.setting.now.facts.now) c.args.setting.now.patterns.now in
    let at = c.args.at.now in
    let s = c.args.scope.now in
    let v = variables_of s in
    goes-form a reply at s (Ok c.for_from.result) c.args.expr.now _ _ c.in-For.is
    ((λ i. for_in (bindings_of (denotes a reply) (c.as_slice-in-For.ensures.value i)) (denotes a reply (c.deref.ensures i)) at v)
    ∙ sym (denotes_for a reply at v c.in-For.bindings c.in-For.body))
    (c.for_from.ensures.goes a reply at s)

pub returns-in-Let-clause-goes : goal.returns-in-Let-clause-goes
returns-in-Let-clause-goes g c = λ reply.
    let a = around c.args.setting.now.tree.now (g.A.Attributes.attribute_of c.args.setting.now.facts.now) (g.A.Attributes.names_of c.args.setting.now.facts.now) c.args.setting.now.patterns.now in
    let at = c.args.at.now in
    let s = c.args.scope.now in
    let v = variables_of s in
    goes-form a reply at s (Ok c.let_from.result) c.args.expr.now _ _ c.in-Let.is
    ((λ i. let_in (bindings_of (denotes a reply) (c.as_slice-in-Let.ensures.value i)) (denotes a reply (c.deref-in-Let.ensures i)) at v)
    ∙ sym (denotes_let a reply at v c.in-Let.bindings c.in-Let.body))
    (c.let_from.ensures.goes a reply at s)

pub returns-in-Quantified-clause-goes : goal.returns-in-Quantified-clause-goes
returns-in-Quantified-clause-goes g c = λ reply.
    let a = around c.args.setting.now.tree.now (g.A.Attributes.attribute_of c.args.setting.now.facts.now) (g.A.Attributes.names_of c.args.setting.now.facts.now) c.args.setting.now.patterns.now in
    let at = c.args.at.now in
    let s = c.args.scope.now in
    let v = variables_of s in
    goes-form a reply at s (Ok c.quantified_from.result) c.args.expr.now _ _ c.in-Quantified.is
    ((λ i. quantified c.in-Quantified.quantifier (bindings_of (denotes a reply) (c.as_slice-in-Quantified.ensures.value i)) (denotes a reply (c.deref-in-Quantified.ensures i)) at v)
    ∙ sym (denotes_quantified a reply at v c.in-Quantified.quantifier c.in-Quantified.bindings c.in-Quantified.test))
    (c.quantified_from.ensures.goes a reply at s)

pub returns-in-If-clause-goes : goal.returns-in-If-clause-goes
returns-in-If-clause-goes g c = λ reply.
    let a = around c.args.setting.now.tree.now (g.A.Attributes.attribute_of c.args.setting.now.facts.now) (g.A.Attributes.names_of c.args.setting.now.facts.now) c.args.setting.now.patterns.now in
    let at = c.args.at.now in
    let s = c.args.scope.now in
    let v = variables_of s in
    goes-form a reply at s c.within.result c.args.expr.now _ _ c.in-If.is
    ((λ i. denotes a reply (c.deref-in-If.ensures i) at v >>= λ value. judged (effective_boolean value) >>= λ truth. if truth then denotes a reply (c.deref-in-If-2.ensures i) at v else denotes a reply (c.deref-in-If-3.ensures i) at v)
    ∙ sym (denotes_if a reply at v c.in-If.test c.in-If.chosen c.in-If.other))
    (c.within.ensures.goes a reply at s)

pub returns-in-Or-clause-goes : goal.returns-in-Or-clause-goes
returns-in-Or-clause-goes g c = λ reply.
    let a = around c.args.setting.now.tree.now (g.A.Attributes.attribute_of c.args.setting.now.facts.now) (g.A.Attributes.names_of c.args.setting.now.facts.now) c.args.setting.now.patterns.now in
    let at = c.args.at.now in
    let s = c.args.scope.now in
    let v = variables_of s in
    goes-form a reply at s c.truths.result c.args.expr.now _ _ c.in-Or.is
    ((λ i. decided quantifier.Some (here at v) (map (denotes a reply) (c.as_slice-in-Or.ensures.value i)))
    ∙ sym (denotes_or a reply at v c.in-Or.parts))
    (c.truths.ensures.goes a reply at s)

pub returns-in-And-clause-goes : goal.returns-in-And-clause-goes
returns-in-And-clause-goes g c = λ reply.
    let a = around c.args.setting.now.tree.now (g.A.Attributes.attribute_of c.args.setting.now.facts.now) (g.A.Attributes.names_of c.args.setting.now.facts.now) c.args.setting.now.patterns.now in
    let at = c.args.at.now in
    let s = c.args.scope.now in
    let v = variables_of s in
    goes-form a reply at s c.truths-in-And.result c.args.expr.now _ _ c.in-And.is
    ((λ i. decided quantifier.Every (here at v) (map (denotes a reply) (c.as_slice-in-And.ensures.value i)))
    ∙ sym (denotes_and a reply at v c.in-And.parts))
    (c.truths-in-And.ensures.goes a reply at s)

pub returns-in-Comparison-clause-goes : goal.returns-in-Comparison-clause-goes
returns-in-Comparison-clause-goes g c = λ reply.
    let a = around c.args.setting.now.tree.now (g.A.Attributes.attribute_of c.args.setting.now.facts.now) (g.A.Attributes.names_of c.args.setting.now.facts.now) c.args.setting.now.patterns.now in
    let at = c.args.at.now in
    let s = c.args.scope.now in
    let v = variables_of s in
    goes-form a reply at s c.within-in-Comparison.result c.args.expr.now _ _ c.in-Comparison.is
    ((λ i. denotes a reply (c.deref-in-Comparison.ensures i) at v >>= λ xs. denotes a reply (c.deref-in-Comparison-2.ensures i) at v >>= λ ys. judged (general_comparison c.in-Comparison.op (with_values a xs) (with_values a ys)) >>= λ truth. give (one_boolean truth))
    ∙ sym (denotes_comparison a reply at v c.in-Comparison.op c.in-Comparison.left c.in-Comparison.right))
    (c.within-in-Comparison.ensures.goes a reply at s)

pub returns-in-Concatenation-clause-goes : goal.returns-in-Concatenation-clause-goes
returns-in-Concatenation-clause-goes g c = λ reply.
    let a = around c.args.setting.now.tree.now (g.A.Attributes.attribute_of c.args.setting.now.facts.now) (g.A.Attributes.names_of c.args.setting.now.facts.now) c.args.setting.now.patterns.now in
    let at = c.args.at.now in
    let s = c.args.scope.now in
    let v = variables_of s in
    goes-form a reply at s c.texts.result c.args.expr.now _ _ c.in-Concatenation.is
    ((λ i. chain (here at v) (with_text a) (map (denotes a reply) (c.as_slice-in-Concatenation.ensures.value i)) (c.new-in-Concatenation.ensures.bytes i) >>= λ text. give (String text ∷ []))
    ∙ sym (denotes_concatenation a reply at v c.in-Concatenation.parts))
    (c.texts.ensures.goes a reply at s)

pub returns-in-Range-clause-goes : goal.returns-in-Range-clause-goes
returns-in-Range-clause-goes g c = λ reply.
    let a = around c.args.setting.now.tree.now (g.A.Attributes.attribute_of c.args.setting.now.facts.now) (g.A.Attributes.names_of c.args.setting.now.facts.now) c.args.setting.now.patterns.now in
    let at = c.args.at.now in
    let s = c.args.scope.now in
    let v = variables_of s in
    goes-form a reply at s c.within-in-Range.result c.args.expr.now _ _ c.in-Range.is
    ((λ i. denotes a reply (c.deref-in-Range.ensures i) at v >>= λ xs. judged (operand a xs) >>= λ x. denotes a reply (c.deref-in-Range-2.ensures i) at v >>= λ ys. judged (operand a ys) >>= λ y. give (range x y))
    ∙ sym (denotes_range a reply at v c.in-Range.from c.in-Range.to))
    (c.within-in-Range.ensures.goes a reply at s)

pub returns-in-Additive-clause-goes : goal.returns-in-Additive-clause-goes
returns-in-Additive-clause-goes g c = λ reply.
    let a = around c.args.setting.now.tree.now (g.A.Attributes.attribute_of c.args.setting.now.facts.now) (g.A.Attributes.names_of c.args.setting.now.facts.now) c.args.setting.now.patterns.now in
    let at = c.args.at.now in
    let s = c.args.scope.now in
    let v = variables_of s in
    goes-form a reply at s c.within-in-Additive.result c.args.expr.now _ _ c.in-Additive.is
    ((λ i. denotes a reply (c.deref-in-Additive.ensures i) at v >>= λ value. judged (operand a value) >>= λ first. chain (behind at v) (with_term a) (operated_by (denotes a reply) (c.as_slice-in-Additive.ensures.value i)) first >>= λ total. give (number_items total))
    ∙ sym (denotes_additive a reply at v c.in-Additive.first c.in-Additive.rest))
    (c.within-in-Additive.ensures.goes a reply at s)

pub returns-in-Multiplicative-clause-goes : goal.returns-in-Multiplicative-clause-goes
returns-in-Multiplicative-clause-goes g c = λ reply.
    let a = around c.args.setting.now.tree.now (g.A.Attributes.attribute_of c.args.setting.now.facts.now) (g.A.Attributes.names_of c.args.setting.now.facts.now) c.args.setting.now.patterns.now in
    let at = c.args.at.now in
    let s = c.args.scope.now in
    let v = variables_of s in
    goes-form a reply at s c.within-in-Multiplicative.result c.args.expr.now _ _ c.in-Multiplicative.is
    ((λ i. denotes a reply (c.deref-in-Multiplicative.ensures i) at v >>= λ value. judged (operand a value) >>= λ first. chain (behind at v) (with_factor a) (operated_by (denotes a reply) (c.as_slice-in-Multiplicative.ensures.value i)) first >>= λ total. give (number_items total))
    ∙ sym (denotes_multiplicative a reply at v c.in-Multiplicative.first c.in-Multiplicative.rest))
    (c.within-in-Multiplicative.ensures.goes a reply at s)

pub returns-in-Union-clause-goes : goal.returns-in-Union-clause-goes
returns-in-Union-clause-goes g c = λ reply.
    let a = around c.args.setting.now.tree.now (g.A.Attributes.attribute_of c.args.setting.now.facts.now) (g.A.Attributes.names_of c.args.setting.now.facts.now) c.args.setting.now.patterns.now in
    let at = c.args.at.now in
    let s = c.args.scope.now in
    let v = variables_of s in
    goes-form a reply at s (Ok c.nodes.result) c.args.expr.now _ _ c.in-Union.is
    ((λ i. chain (here at v) with_nodes (map (denotes a reply) (c.as_slice-in-Union.ensures.value i)) (values_of (c.new-in-Union.ensures i)) >>= λ found. give (ordered found))
    ∙ sym (denotes_union a reply at v c.in-Union.parts))
    (c.nodes.ensures.goes a reply at s)

pub returns-in-IntersectExcept-clause-goes : goal.returns-in-IntersectExcept-clause-goes
returns-in-IntersectExcept-clause-goes g c = λ reply.
    let a = around c.args.setting.now.tree.now (g.A.Attributes.attribute_of c.args.setting.now.facts.now) (g.A.Attributes.names_of c.args.setting.now.facts.now) c.args.setting.now.patterns.now in
    let at = c.args.at.now in
    let s = c.args.scope.now in
    let v = variables_of s in
    goes-form a reply at s c.within-in-IntersectExcept.result c.args.expr.now _ _ c.in-IntersectExcept.is
    ((λ i. denotes a reply (c.deref-in-IntersectExcept.ensures i) at v >>= λ value. judged (only_nodes value) >>= λ found. chain (behind at v) with_set (operated_by (denotes a reply) (c.as_slice-in-IntersectExcept.ensures.value i)) found)
    ∙ sym (denotes_intersect a reply at v c.in-IntersectExcept.first c.in-IntersectExcept.rest))
    (c.within-in-IntersectExcept.ensures.goes a reply at s)

pub returns-in-Unary-clause-goes : goal.returns-in-Unary-clause-goes
returns-in-Unary-clause-goes g c = λ reply.
    let a = around c.args.setting.now.tree.now (g.A.Attributes.attribute_of c.args.setting.now.facts.now) (g.A.Attributes.names_of c.args.setting.now.facts.now) c.args.setting.now.patterns.now in
    let at = c.args.at.now in
    let s = c.args.scope.now in
    let v = variables_of s in
    goes-form a reply at s c.within-in-Unary.result c.args.expr.now _ _ c.in-Unary.is
    ((λ i. denotes a reply (c.deref-in-Unary.ensures i) at v >>= λ value. judged (operand a value) >>= λ number. judged (signed c.in-Unary.sign number) >>= λ all. give (number_items all))
    ∙ sym (denotes_unary a reply at v c.in-Unary.sign c.in-Unary.operand))
    (c.within-in-Unary.ensures.goes a reply at s)

pub returns-in-SimpleMap-clause-goes : goal.returns-in-SimpleMap-clause-goes
returns-in-SimpleMap-clause-goes g c = λ reply.
    let a = around c.args.setting.now.tree.now (g.A.Attributes.attribute_of c.args.setting.now.facts.now) (g.A.Attributes.names_of c.args.setting.now.facts.now) c.args.setting.now.patterns.now in
    let at = c.args.at.now in
    let s = c.args.scope.now in
    let v = variables_of s in
    goes-form a reply at s (Ok c.map_from.result) c.args.expr.now _ _ c.in-SimpleMap.is
    ((λ i. simple_map (map (denotes a reply) (c.as_slice-in-SimpleMap.ensures.value i)) at v)
    ∙ sym (denotes_map a reply at v c.in-SimpleMap.parts))
    (c.map_from.ensures.goes a reply at s)

pub returns-in-Path-clause-goes : goal.returns-in-Path-clause-goes
returns-in-Path-clause-goes g c = λ reply.
    let a = around c.args.setting.now.tree.now (g.A.Attributes.attribute_of c.args.setting.now.facts.now) (g.A.Attributes.names_of c.args.setting.now.facts.now) c.args.setting.now.patterns.now in
    let at = c.args.at.now in
    let s = c.args.scope.now in
    let v = variables_of s in
    goes-form a reply at s (Ok c.path_from.result) c.args.expr.now _ _ c.in-Path.is
    ((λ i. path (map (denotes a reply) (c.as_slice-in-Path.ensures.value i)) at v)
    ∙ sym (denotes_path a reply at v c.in-Path.steps))
    (c.path_from.ensures.goes a reply at s)

pub returns-in-Root-clause-goes : goal.returns-in-Root-clause-goes
returns-in-Root-clause-goes g c = λ reply.
    let a = around c.args.setting.now.tree.now (g.A.Attributes.attribute_of c.args.setting.now.facts.now) (g.A.Attributes.names_of c.args.setting.now.facts.now) c.args.setting.now.patterns.now in
    let at = c.args.at.now in
    let s = c.args.scope.now in
    let v = variables_of s in
    goes-form a reply at s c.root.result c.args.expr.now _ _ c.in-Root.is
    (sym (denotes_root a reply at v))
    (c.root.ensures.goes a reply s)

pub returns-in-Step-clause-goes : goal.returns-in-Step-clause-goes
returns-in-Step-clause-goes g c = λ reply.
    let a = around c.args.setting.now.tree.now (g.A.Attributes.attribute_of c.args.setting.now.facts.now) (g.A.Attributes.names_of c.args.setting.now.facts.now) c.args.setting.now.patterns.now in
    let at = c.args.at.now in
    let s = c.args.scope.now in
    let v = variables_of s in
    goes-form a reply at s c.axis_step.result c.args.expr.now _ _ c.in-Step.is
    ((λ i. from_node at.item (narrowed v (map (denotes a reply) (c.as_slice-in-Step.ensures.value i)) (stepped a.tree c.in-Step.along c.in-Step.test at.item) >>= λ found. give (in_document_order (is_reverse c.in-Step.along) found)))
    ∙ sym (denotes_step a reply at v c.in-Step.along c.in-Step.test c.in-Step.predicates))
    (c.axis_step.ensures.goes reply s)

pub returns-in-AttributeStep-clause-goes : goal.returns-in-AttributeStep-clause-goes
returns-in-AttributeStep-clause-goes g c = λ reply.
    let a = around c.args.setting.now.tree.now (g.A.Attributes.attribute_of c.args.setting.now.facts.now) (g.A.Attributes.names_of c.args.setting.now.facts.now) c.args.setting.now.patterns.now in
    let at = c.args.at.now in
    let s = c.args.scope.now in
    let v = variables_of s in
    goes-form a reply at s c.attribute_step.result c.args.expr.now _ _ c.in-AttributeStep.is
    ((λ i. from_node at.item (narrowed v (map (denotes a reply) (c.as_slice-in-AttributeStep.ensures.value i)) (attributes a c.in-AttributeStep.test at.item)))
    ∙ sym (denotes_attribute a reply at v c.in-AttributeStep.test c.in-AttributeStep.predicates))
    (c.attribute_step.ensures.goes reply s)

pub returns-in-Filter-clause-goes : goal.returns-in-Filter-clause-goes
returns-in-Filter-clause-goes g c = λ reply.
    let a = around c.args.setting.now.tree.now (g.A.Attributes.attribute_of c.args.setting.now.facts.now) (g.A.Attributes.names_of c.args.setting.now.facts.now) c.args.setting.now.patterns.now in
    let at = c.args.at.now in
    let s = c.args.scope.now in
    let v = variables_of s in
    goes-form a reply at s c.within-in-Filter.result c.args.expr.now _ _ c.in-Filter.is
    ((λ i. denotes a reply (c.deref-in-Filter.ensures i) at v >>= λ found. narrowed v (map (denotes a reply) (c.as_slice-in-Filter.ensures.value i)) found)
    ∙ sym (denotes_filter a reply at v c.in-Filter.primary c.in-Filter.predicates))
    (c.within-in-Filter.ensures.goes a reply at s)

pub returns-in-Integer-clause-goes : goal.returns-in-Integer-clause-goes
returns-in-Integer-clause-goes g c = λ reply.
    let a = around c.args.setting.now.tree.now (g.A.Attributes.attribute_of c.args.setting.now.facts.now) (g.A.Attributes.names_of c.args.setting.now.facts.now) c.args.setting.now.patterns.now in
    let at = c.args.at.now in
    let s = c.args.scope.now in
    let v = variables_of s in
    goes-form a reply at s c.valued.result c.args.expr.now _ _ c.in-Integer.is
    ((λ i. judged (c.in_ok-literal-in-Integer.ensures i))
    ∙ sym (denotes_integer a reply at v c.in-Integer.value))
    (c.valued.ensures.goes a reply at s)

pub returns-in-Variable-clause-goes : goal.returns-in-Variable-clause-goes
returns-in-Variable-clause-goes g c = λ reply.
    let a = around c.args.setting.now.tree.now (g.A.Attributes.attribute_of c.args.setting.now.facts.now) (g.A.Attributes.names_of c.args.setting.now.facts.now) c.args.setting.now.patterns.now in
    let at = c.args.at.now in
    let s = c.args.scope.now in
    let v = variables_of s in
    goes-form a reply at s c.valued-in-Variable.result c.args.expr.now _ _ c.in-Variable.is
    ((λ i. give (c.in_ok-value_of-in-Variable.ensures i))
    ∙ sym (denotes_variable a reply at v c.in-Variable.name))
    (c.valued-in-Variable.ensures.goes a reply at s)

pub returns-in-Call-clause-goes : goal.returns-in-Call-clause-goes
returns-in-Call-clause-goes g c = λ reply.
    let a = around c.args.setting.now.tree.now (g.A.Attributes.attribute_of c.args.setting.now.facts.now) (g.A.Attributes.names_of c.args.setting.now.facts.now) c.args.setting.now.patterns.now in
    let at = c.args.at.now in
    let s = c.args.scope.now in
    let v = variables_of s in
    goes-form a reply at s c.arguments.result c.args.expr.now _ _ c.in-Call.is
    ((λ i. chain (here at v) with_argument (map (denotes a reply) (c.as_slice-in-Call.ensures.value i)) (map values_of (c.new-in-Call.ensures i)) >>= λ values. judged (call a c.in-Call.function at values))
    ∙ sym (denotes_call a reply at v c.in-Call.function c.in-Call.parts))
    (c.arguments.ensures.goes reply s)

pub returns-in-PmdCall-clause-goes : goal.returns-in-PmdCall-clause-goes
returns-in-PmdCall-clause-goes g c = λ reply.
    let a = around c.args.setting.now.tree.now (g.A.Attributes.attribute_of c.args.setting.now.facts.now) (g.A.Attributes.names_of c.args.setting.now.facts.now) c.args.setting.now.patterns.now in
    let at = c.args.at.now in
    let s = c.args.scope.now in
    let v = variables_of s in
    goes-form a reply at s c.pmd_arguments.result c.args.expr.now _ _ c.in-PmdCall.is
    ((λ i. chain (here at v) with_argument (map (denotes a reply) (c.as_slice-in-PmdCall.ensures.value i)) (map values_of (c.new-in-PmdCall.ensures i)) >>= λ values. pmd_call reply c.in-PmdCall.function at values)
    ∙ sym (denotes_pmd a reply at v c.in-PmdCall.function c.in-PmdCall.parts))
    (c.pmd_arguments.ensures.goes a reply at s)

pub returns-in-Comma-clause-of_tree : goal.returns-in-Comma-clause-of_tree
returns-in-Comma-clause-of_tree g c = c.items.ensures.of_tree (length c.args.setting.now.tree.now.nodes) (none-of_tree (length c.args.setting.now.tree.now.nodes) c.new.result c.new.ensures)

pub returns-in-For-clause-of_tree : goal.returns-in-For-clause-of_tree
returns-in-For-clause-of_tree g c = c.for_from.ensures.of_tree (length c.args.setting.now.tree.now.nodes)

pub returns-in-Let-clause-of_tree : goal.returns-in-Let-clause-of_tree
returns-in-Let-clause-of_tree g c = c.let_from.ensures.of_tree (length c.args.setting.now.tree.now.nodes)

pub returns-in-Quantified-clause-of_tree : goal.returns-in-Quantified-clause-of_tree
returns-in-Quantified-clause-of_tree g c = c.quantified_from.ensures.of_tree (length c.args.setting.now.tree.now.nodes)

pub returns-in-If-clause-of_tree : goal.returns-in-If-clause-of_tree
returns-in-If-clause-of_tree g c = c.within.ensures.of_tree (length c.args.setting.now.tree.now.nodes) tt

pub returns-in-Or-clause-of_tree : goal.returns-in-Or-clause-of_tree
returns-in-Or-clause-of_tree g c = c.truths.ensures.of_tree (length c.args.setting.now.tree.now.nodes)

pub returns-in-And-clause-of_tree : goal.returns-in-And-clause-of_tree
returns-in-And-clause-of_tree g c = c.truths-in-And.ensures.of_tree (length c.args.setting.now.tree.now.nodes)

pub returns-in-Concatenation-clause-of_tree : goal.returns-in-Concatenation-clause-of_tree
returns-in-Concatenation-clause-of_tree g c = c.texts.ensures.of_tree (length c.args.setting.now.tree.now.nodes)

pub returns-in-Comparison-clause-of_tree : goal.returns-in-Comparison-clause-of_tree
returns-in-Comparison-clause-of_tree g c = c.within-in-Comparison.ensures.of_tree (length c.args.setting.now.tree.now.nodes) tt

pub returns-in-Range-clause-of_tree : goal.returns-in-Range-clause-of_tree
returns-in-Range-clause-of_tree g c = c.within-in-Range.ensures.of_tree (length c.args.setting.now.tree.now.nodes) tt

pub returns-in-Additive-clause-of_tree : goal.returns-in-Additive-clause-of_tree
returns-in-Additive-clause-of_tree g c = c.within-in-Additive.ensures.of_tree (length c.args.setting.now.tree.now.nodes) tt

pub returns-in-Multiplicative-clause-of_tree : goal.returns-in-Multiplicative-clause-of_tree
returns-in-Multiplicative-clause-of_tree g c = c.within-in-Multiplicative.ensures.of_tree (length c.args.setting.now.tree.now.nodes) tt

pub returns-in-IntersectExcept-clause-of_tree : goal.returns-in-IntersectExcept-clause-of_tree
returns-in-IntersectExcept-clause-of_tree g c = c.within-in-IntersectExcept.ensures.of_tree (length c.args.setting.now.tree.now.nodes) tt

pub returns-in-Unary-clause-of_tree : goal.returns-in-Unary-clause-of_tree
returns-in-Unary-clause-of_tree g c = c.within-in-Unary.ensures.of_tree (length c.args.setting.now.tree.now.nodes) tt

pub returns-in-Filter-clause-of_tree : goal.returns-in-Filter-clause-of_tree
returns-in-Filter-clause-of_tree g c = c.within-in-Filter.ensures.of_tree (length c.args.setting.now.tree.now.nodes) tt

pub returns-in-Union-clause-of_tree : goal.returns-in-Union-clause-of_tree
returns-in-Union-clause-of_tree g c = c.nodes.ensures.of_tree (length c.args.setting.now.tree.now.nodes) (none-of_tree (length c.args.setting.now.tree.now.nodes) c.new-in-Union.result c.new-in-Union.ensures)

pub returns-in-SimpleMap-clause-of_tree : goal.returns-in-SimpleMap-clause-of_tree
returns-in-SimpleMap-clause-of_tree g c = c.map_from.ensures.of_tree (length c.args.setting.now.tree.now.nodes)

pub returns-in-Path-clause-of_tree : goal.returns-in-Path-clause-of_tree
returns-in-Path-clause-of_tree g c = c.path_from.ensures.of_tree (length c.args.setting.now.tree.now.nodes)

pub returns-in-Root-clause-of_tree : goal.returns-in-Root-clause-of_tree
returns-in-Root-clause-of_tree g c = c.root.ensures.of_tree (length c.args.setting.now.tree.now.nodes)

pub returns-in-Integer-clause-of_tree : goal.returns-in-Integer-clause-of_tree
returns-in-Integer-clause-of_tree g c = c.valued.ensures.of_tree (length c.args.setting.now.tree.now.nodes) (literal-of_tree (length c.args.setting.now.tree.now.nodes) c.in-Integer.value (values_of c.in_ok-literal-in-Integer.field-0) c.in_ok-literal-in-Integer.ensures)

pub returns-in-String-clause-of_tree : goal.returns-in-String-clause-of_tree
returns-in-String-clause-of_tree g c = c.valued-in-String.ensures.of_tree (length c.args.setting.now.tree.now.nodes) (subst (λ (xs : List ItemValue). OfTree (length c.args.setting.now.tree.now.nodes) xs) (sym c.in_ok-one-in-String.ensures) (of_tree-one (length c.args.setting.now.tree.now.nodes) (String c.in_ok-copied-in-String.field-0) tt))

pub returns-in-Variable-clause-of_tree : goal.returns-in-Variable-clause-of_tree
returns-in-Variable-clause-of_tree g c = c.valued-in-Variable.ensures.of_tree (length c.args.setting.now.tree.now.nodes) (subst (λ (xs : List ItemValue). OfTree (length c.args.setting.now.tree.now.nodes) xs) (sym c.in_ok-value_of-in-Variable.ensures) (variable-of_tree (length c.args.setting.now.tree.now.nodes) c.in-Variable.name (variables_of c.args.scope.now) c.requires.variables))

pub returns-in-ContextItem-clause-of_tree : goal.returns-in-ContextItem-clause-of_tree
returns-in-ContextItem-clause-of_tree g c = c.valued-in-ContextItem.ensures.of_tree (length c.args.setting.now.tree.now.nodes) (subst (λ (xs : List ItemValue). OfTree (length c.args.setting.now.tree.now.nodes) xs) (sym (c.in_ok-one-in-ContextItem.ensures ∙ ap (λ (item : Item). value_of_item item ∷ []) c.in_ok-copied-in-ContextItem.ensures ∙ ap (λ (at : Context). at.item ∷ []) c.at.view_is)) (of_tree-one (length c.args.setting.now.tree.now.nodes) c.args.at.now.item c.requires.item))

pub returns-in-PmdCall-clause-of_tree : goal.returns-in-PmdCall-clause-of_tree
returns-in-PmdCall-clause-of_tree g c = c.pmd_arguments.ensures.of_tree (length c.args.setting.now.tree.now.nodes) (subst (λ (xss : List (List Item)). ArgumentsOfTree (length c.args.setting.now.tree.now.nodes) (map values_of xss)) (sym c.new-in-PmdCall.ensures) (arguments-nil (length c.args.setting.now.tree.now.nodes)))

pub returns-in-String-clause-goes : goal.returns-in-String-clause-goes
returns-in-String-clause-goes g c = λ reply.
    let a = around c.args.setting.now.tree.now (g.A.Attributes.attribute_of c.args.setting.now.facts.now) (g.A.Attributes.names_of c.args.setting.now.facts.now) c.args.setting.now.patterns.now in
    let at = c.args.at.now in
    let s = c.args.scope.now in
    let v = variables_of s in
    goes-form a reply at s c.valued-in-String.result c.args.expr.now _ _ c.in-String.is
    (ap (λ (items : List ItemValue). give items) (c.in_ok-one-in-String.ensures ∙ ap (λ (text : List ℕ). String text ∷ []) c.in_ok-copied-in-String.ensures)
    ∙ sym (denotes_string a reply at v c.in-String.text))
    (c.valued-in-String.ensures.goes a reply at s)

pub returns-in-ContextItem-clause-goes : goal.returns-in-ContextItem-clause-goes
returns-in-ContextItem-clause-goes g c = λ reply.
    let a = around c.args.setting.now.tree.now (g.A.Attributes.attribute_of c.args.setting.now.facts.now) (g.A.Attributes.names_of c.args.setting.now.facts.now) c.args.setting.now.patterns.now in
    let at = c.args.at.now in
    let s = c.args.scope.now in
    let v = variables_of s in
    goes-form a reply at s c.valued-in-ContextItem.result c.args.expr.now _ _ c.in-ContextItem.is
    (ap (λ (items : List ItemValue). give items) (c.in_ok-one-in-ContextItem.ensures ∙ ap (λ (item : Item). value_of_item item ∷ []) c.in_ok-copied-in-ContextItem.ensures ∙ ap (λ (at : Context). at.item ∷ []) c.at.view_is)
    ∙ sym (denotes_context a reply at v))
    (c.valued-in-ContextItem.ensures.goes a reply at s)

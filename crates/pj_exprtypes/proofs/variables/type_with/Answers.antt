use Rattle.std.proofs.Common.{◌≡◌, Some, ap, sym, ◌∙◌}
use Rattle.pj_tree.specs.Tree.{kind_of}
use Rattle.pj_names.specs.JavaType.{type_list}
use Rattle.pj_scopes.proofs.Turns.{asks-as}
use Rattle.pj_exprtypes.specs.Expressions.{expression_with}
use Rattle.pj_exprtypes.specs.TypeOf.{type_with}
use Rattle.pj_exprtypes.specs.Typing.{known}
use Rattle.pj_exprtypes.proofs.Others.{other-kind}
use Rattle.pj_exprtypes.proofs.variables.type_with.Goals as goal

pub returns-in_default : goal.returns-in_default
returns-in_default g c =
    let t = c.args.file.now in
    let types = type_list c.args.operand_types in
    let kind : kind_of t c.args.n ≡ Some c.kind.result = rw c.tree.ensures at c.kind.ensures.value in
    let is = c.in_default in
    let other = other-kind t c.args.n types c.kind.result is.not-VariableAccess is.not-MethodCall is.not-VariableId is.not-VariableDeclarator is.not-FormalParameter is.not-LambdaParameter is.not-CatchParameter is.not-RecordComponent is.not-EnumConstant is.not-FieldDeclaration is.not-LocalVariableDeclaration in
    record {
      inside = c.known_type.ensures.inside;
      asks =
          asks-as (ap (λ kind. type_with t c.args.n kind types) kind ∙ other ∙ ap (λ kind. known (expression_with t c.args.n kind types)) (sym kind)) c.known_type.ensures.asks;
    }

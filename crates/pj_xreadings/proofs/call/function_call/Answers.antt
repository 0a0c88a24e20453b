use Rattle.std.proofs.Common.{◌≡◌, ◌∙◌, ◌++◌, List, ℕ, Bool, map, length, ap, sym, rules, arith}
use Rattle.std.proofs.lemmas.List.{length-map}
use Rattle.pj_xexpressions.specs.Names.{callee_of}
use Rattle.pj_xexpressions.specs.Trees.{tree_of}
use Rattle.pj_xreadings.specs.Mentions.{Call, roles_named}
use Rattle.pj_xreadings.specs.Operands.{arguments_in, in_roles, is_closed, names_of, other, told, trees_of}
use Rattle.pj_xreadings.specs.Seen.{seen_arguments, seen_mentions, seen_reading}
use Rattle.pj_xreadings.specs.Steps as forms
use Rattle.pj_xreadings.specs.declared.role.Role.{Role}
use Rattle.pj_xreadings.proofs.Calls.{closed_given, given_count}
use Rattle.pj_xreadings.proofs.call.function_call.Goals as goal

pub returns : goal.returns
returns c =
    let name = c.args.name.now in
    let callee = callee_of name in
    let arguments = seen_arguments c.args.arguments in
    let predicates = map seen_reading c.args.predicates in
    let closed = c.args.arguments.closed in
    let exprs = c.in_ok-arguments.arguments.items in
    let inner = seen_mentions c.in_ok-arguments.inner.items in
    let len : c.len.result ≡ length exprs = first_of (search rules, grind arith) in
    let count : c.len.result ≡ length (arguments_in arguments) =
    len ∙ sym (length-map exprs tree_of) ∙ given_count (map tree_of exprs) arguments c.in_ok-arguments.ensures.exprs in
    let behind : inner ≡ in_roles (roles_named name) arguments ++ names_of predicates =
    c.in_ok-arguments.ensures.names
    ∙ ap (λ (r : List Role). in_roles r arguments ++ seen_mentions c.in_ok-predicates.behind.items) c.roles_named.ensures
    ∙ ap (λ l. in_roles (roles_named name) arguments ++ l) c.in_ok-predicates.ensures.names in
    let names : seen_mentions c.in_ok-names.names.items ≡ told (is_closed arguments) callee (Call name (length (arguments_in arguments)) c.args.from) ++ (in_roles (roles_named name) arguments ++ names_of predicates) =
    c.in_ok-names.ensures
    ∙ ap (λ (b : Bool). told b callee (Call name c.len.result c.args.from) ++ inner) (sym (closed_given closed c.args.arguments.list))
    ∙ ap (λ (n : ℕ). told (is_closed arguments) callee (Call name n c.args.from) ++ inner) count
    ∙ ap (λ l. told (is_closed arguments) callee (Call name (length (arguments_in arguments)) c.args.from) ++ l) behind in
    let tree : tree_of c.in_ok-expr.expr ≡ forms.filtered (forms.called callee (trees_of (arguments_in arguments))) (trees_of predicates) =
    c.in_ok-expr.ensures
    ∙ ap (λ t. forms.filtered t (map tree_of c.in_ok-predicates.predicates.items)) c.called.ensures
    ∙ ap (λ l. forms.filtered (forms.called callee l) (map tree_of c.in_ok-predicates.predicates.items)) c.in_ok-arguments.ensures.exprs
    ∙ ap (λ l. forms.filtered (forms.called callee (trees_of (arguments_in arguments))) l) c.in_ok-predicates.ensures.exprs in
    c.other.ensures ∙ ap (λ t. other t (seen_mentions c.in_ok-names.names.items)) tree ∙ ap (λ l. other (forms.filtered (forms.called callee (trees_of (arguments_in arguments))) (trees_of predicates)) l) names

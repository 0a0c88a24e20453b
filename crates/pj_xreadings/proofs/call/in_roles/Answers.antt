use Rattle.std.proofs.Common.{◌≡◌, ◌∙◌, ◌++◌, ◌∷◌, [], List, ℕ, true, map, drop, length, ap, sym, rules, arith, append_assoc}
use Rattle.std.proofs.lemmas.List.{map-append}
use Rattle.pj_xexpressions.specs.Trees.{tree_of}
use Rattle.pj_xreadings.specs.Operands.{in_roles}
use Rattle.pj_xreadings.specs.Seen.{seen_mentions, seen_given}
use Rattle.pj_xreadings.specs.declared.role.Role.{Role}
use Rattle.pj_xreadings.specs.declared.operand.Reading.{Reading}
use Rattle.pj_xreadings.proofs.Calls.{argument_moved, no_arguments, trees_given}
use Rattle.pj_xreadings.proofs.call.in_roles.Goals as goal

pub arguments-preserved : goal.arguments-preserved
arguments-preserved c =
    let roles = c.args.roles.now in
    let ended = c.arguments.ended in
    let tree = λ (next : ℕ × Reading). tree_of next.1.expr in
    let next : ℕ × Reading = (c.in-Some.from, c.in-Some.reading) in
    let others = c.pop.new.self.items in
    let behind = seen_mentions c.arguments.all.items in
    let popped : c.arguments.left.items ≡ others ++ next ∷ [] = first_of (search rules, grind arith) in
    let count : c.len.result ≡ length others = first_of (search rules, grind arith) in
    let from : c.roles_from.result.now ≡ drop (length others) roles = c.roles_from.ensures ∙ ap (λ n. drop n roles) count in
    let made : seen_mentions c.in_ok-expr.names.items ≡ in_roles (drop (length others) roles) (seen_given ended (next ∷ [])) ++ behind =
    c.in_ok-expr.ensures.names ∙ ap (λ (r : List Role). in_roles r (seen_given ended (next ∷ [])) ++ behind) from in
    let done = map tree_of c.arguments.exprs in
    let front : map tree_of c.in_ok-exprs.exprs ≡ tree next ∷ done = ap (map tree_of) c.in_ok-exprs.ensures ∙ ap (λ t. t ∷ done) c.in_ok-expr.ensures.expr in
    record {
      trees =
          ap (λ l. map tree others ++ l) front
          ∙ sym (append_assoc (map tree others) (tree next ∷ []) done)
          ∙ ap (λ l. l ++ done) (sym (map-append tree others (next ∷ [])))
          ∙ ap (λ l. map tree l ++ done) (sym popped)
          ∙ c.arguments.invariant.trees;
      names =
          ap (λ l. in_roles roles (seen_given true others) ++ l) made
          ∙ argument_moved roles ended others next behind
          ∙ ap (λ l. in_roles roles (seen_given ended l) ++ behind) (sym popped)
          ∙ c.arguments.invariant.names;
    }

pub returns : goal.returns
returns c =
    let roles = c.args.roles.now in
    let closed = c.args.arguments.closed in
    let list = c.args.arguments.list in
    let tree = λ (next : ℕ × Reading). tree_of next.1.expr in
    let behind = seen_mentions c.arguments.all.items in
    let none : c.arguments.left.items ≡ [] = first_of (search rules, grind arith) in
    let all : c.into_vec-left.result.items ≡ list = c.into_vec-left.ensures in
    record {
      exprs =
          ap (map tree_of) c.into_vec.ensures
          ∙ ap (λ l. map tree l ++ map tree_of c.arguments.exprs) (sym none)
          ∙ c.arguments.invariant.trees
          ∙ ap (map tree) all
          ∙ sym (trees_given closed list);
      names =
          ap (λ l. l ++ behind) (sym (no_arguments roles c.arguments.ended))
          ∙ ap (λ l. in_roles roles (seen_given c.arguments.ended l) ++ behind) (sym none)
          ∙ c.arguments.invariant.names
          ∙ ap (λ l. in_roles roles (seen_given closed l) ++ seen_mentions c.args.behind.items) all;
    }

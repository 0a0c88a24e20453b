use Rattle.std.proofs.Common.{◌≡◌, ◌∙◌, ◌++◌, ◌∷◌, [], List, ℕ, map, length, ap, sym, rules, arith, append_assoc}
use Rattle.std.specs.Prelude.{reverse}
use Rattle.std.proofs.lemmas.List.{map-append}
use Rattle.pj_xexpressions.specs.Trees.{tree_of}
use Rattle.pj_xreadings.specs.Operands.{scopes_of}
use Rattle.pj_xreadings.specs.Seen.{seen_bound, seen_mentions, behind_of}
use Rattle.pj_xreadings.proofs.Lists.{pushed}
use Rattle.pj_xreadings.proofs.Scopes.{count_of_scopes, opened, opened_next, scoped_all, variable_of, variables_of}
use Rattle.pj_xreadings.proofs.clause.scoped.Goals as goal

pub variables-preserved : goal.variables-preserved
variables-preserved c =
    let others = c.pop.new.self.items in
    let last = c.in-Some.variable in
    let behind = seen_mentions c.variables.all.items in
    let done = map behind_of (reverse c.variables.pairs.items) in
    let popped : c.variables.left.items ≡ others ++ last ∷ [] = first_of (search rules, grind arith) in
    let more : c.push.new.self.items ≡ c.variables.pairs.items ++ (c.in_ok-name.name, last.value.expr) ∷ [] = first_of (search rules, grind arith) in
    let front : map behind_of (reverse c.push.new.self.items) ≡ variable_of last ∷ done =
    ap (λ l. map behind_of (reverse l)) more
    ∙ pushed behind_of c.variables.pairs.items (c.in_ok-name.name, last.value.expr)
    ∙ ap (λ (name : List ℕ). (name, tree_of last.value.expr) ∷ done) c.in_ok-name.ensures.name in
    record {
      trees =
          ap (λ l. map variable_of others ++ l) front
          ∙ sym (append_assoc (map variable_of others) (variable_of last ∷ []) done)
          ∙ ap (λ l. l ++ done) (sym (map-append variable_of others (last ∷ [])))
          ∙ ap (λ l. map variable_of l ++ done) (sym popped)
          ∙ c.variables.invariant.trees;
      names =
          ap (opened (scopes_of (map seen_bound others))) c.in_ok-name.ensures.names
          ∙ sym (opened_next others last behind)
          ∙ ap (λ l. opened (scopes_of (map seen_bound l)) behind) (sym popped)
          ∙ c.variables.invariant.names;
    }

pub returns : goal.returns
returns c =
    let list = c.args.variables in
    let scopes = scopes_of (map seen_bound list) in
    let pairs = map behind_of (reverse c.variables.pairs.items) in
    let none : c.variables.left.items ≡ [] = first_of (search rules, grind arith) in
    let all : c.into_vec-left.result.items ≡ list = c.into_vec-left.ensures in
    let reversed : c.reverse.new.self.items ≡ reverse c.variables.pairs.items = first_of (search rules, grind arith) in
    let count : c.len.result ≡ length c.into_vec-left.result.items = first_of (search rules, grind arith) in
    let same : c.len.result ≡ length scopes = count ∙ ap length all ∙ sym (count_of_scopes list) in (
      ap (map behind_of) reversed
          ∙ ap (λ l. map variable_of l ++ pairs) (sym none)
          ∙ c.variables.invariant.trees
          ∙ ap (map variable_of) all
          ∙ variables_of list,
      ap (λ l. opened (scopes_of (map seen_bound l)) (seen_mentions c.variables.all.items)) (sym none)
          ∙ c.variables.invariant.names
          ∙ ap (λ l. opened (scopes_of (map seen_bound l)) (seen_mentions c.in_ok-all.all.items)) all
          ∙ ap (opened scopes) c.in_ok-all.ensures
          ∙ sym (scoped_all scopes c.len.result (seen_mentions c.args.body.items) same),
    )

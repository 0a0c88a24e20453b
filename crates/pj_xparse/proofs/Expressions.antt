-- What is read of tokens, where no name has a fault, is an expression.
use Rattle.std.proofs.Common.{◌≡◌, ℕ, ◌≤◌, true, List, [], None, sym, ◌∙◌, ap, subst, arith}
use Rattle.pj_xtokens.specs.Tokens.{Lexed}
use Rattle.pj_xexpressions.specs.declared.expr.Expr.{Expr}
use Rattle.pj_xexpressions.specs.Expressions.{Part, IsExpression, part_of}
use Rattle.pj_xexpressions.specs.Trees.{Tree, tree_of}
use Rattle.pj_xreadings.specs.Operands.{Operand}
use Rattle.pj_xmeaning.specs.Reads.{AreRead}
use Rattle.pj_xparse.specs.NameFaults.{first_fault}
use Rattle.pj_xreadings.specs.Shapes.{part_of_tree}
use Rattle.pj_xreadings.specs.Nesting.{nesting_of_tree}

-- where what is read fits and nests at most 200, expressions have the shapes of their trees, and the nesting that is said of a tree is at least
-- that of its expression
module _ (fits : (tokens : List Lexed) (a : Operand) (variables : List (List ℕ)) → AreRead tokens a → first_fault variables a.names ≡ None →
    (part_of_tree a.tree).fits (record { given = variables; bound = [] }) ≡ true)
    (nesting : (tokens : List Lexed) (a : Operand) → AreRead tokens a → nesting_of_tree a.tree ≤ 200)
    (shapes : (e : Expr) → part_of e ≡ part_of_tree (tree_of e))
    (least : (t : Tree) → (part_of_tree t).nesting ≤ nesting_of_tree t) where
  pub reading_is_expression : (variables : List (List ℕ)) (tokens : List Lexed) (a : Operand) (e : Expr) → AreRead tokens a → first_fault variables a.names ≡ None →
      tree_of e ≡ a.tree → IsExpression variables e
  reading_is_expression variables tokens a e read named is =
      let shape : part_of_tree a.tree ≡ part_of e = ap part_of_tree (sym is) ∙ sym (shapes e) in
      let nests : nesting_of_tree a.tree ≤ 200 = nesting tokens a read in
      let at_least : (part_of_tree a.tree).nesting ≤ nesting_of_tree a.tree = least a.tree in
      let shallow : (part_of_tree a.tree).nesting ≤ 200 = omega (arith, nests, at_least) in
      record {
        fits = subst (λ (p : Part). p.fits (record { given = variables; bound = [] }) ≡ true) shape (fits tokens a variables read named);
        shallow = subst (λ (p : Part). p.nesting ≤ 200) shape shallow;
      }

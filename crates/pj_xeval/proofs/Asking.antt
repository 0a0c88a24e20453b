-- The beginning of a whole evaluation, and its calls of functions of PMD.
use Rattle.std.proofs.Common.{◌≡◌, ℕ, ◌<◌, List, [], reverse, sym, ◌∙◌, subst}
use Rattle.std.specs.Option.{ForSome}
use Rattle.pj_names.specs.Told.{Told}
use Rattle.pj_names.proofs.AskingLaws.{ComesTo, comes-begin}
use Rattle.pj_tree.specs.declared.node.Node.{Node}
use Rattle.pj_xexpressions.specs.declared.expr.Expr.{Expr}
use Rattle.pj_xvalue.specs.Items.{ItemValue, Document, Element, Attribute, String, Integer, Boolean, IsOfTree}
use Rattle.pj_xvalue.specs.OfTree.{VariablesOfTree}
use Rattle.pj_xsteps.specs.Means.{Means, ◌>>=◌}
use Rattle.pj_xsteps.specs.Context.{Around, Context, Variables}
use Rattle.pj_xsteps.specs.Calls.{node_in}
use Rattle.pj_xsteps.specs.Denotes.{denotes}
use Rattle.pj_xsteps.proofs.SequenceLaws.{then-give}
use Rattle.pj_xframes.specs.declared.frame.Frame.{Frame}
use Rattle.pj_xframes.specs.Scopes.{Scoped, variables_of}
use Rattle.pj_xframes.specs.Frames.{Replies}
use Rattle.pj_xeval.specs.Whole.{resumed}
use Rattle.pj_xeval.proofs.Whole.{resumed-nil}

-- the context node is of the tree
pub node-inside : (n : ℕ) (x : ItemValue) → IsOfTree n x → ForSome (node_in x) (λ m. m.0 < n)
node-inside n Document h = λ m is. absurd (cc)
node-inside n (Element k) h = λ m is. let same : k ≡ m = cc in subst (λ (y : Node). y.0 < n) same h
node-inside n (Attribute k place) h = λ m is. absurd (cc)
node-inside n (String text) h = λ m is. absurd (cc)
node-inside n (Integer z) h = λ m is. absurd (cc)
node-inside n (Boolean b) h = λ m is. absurd (cc)

-- the variables that are given
pub given-of_tree : (n : ℕ) (given : Variables) (s : Scoped) → s ≡ record { bound = []; given = given } → VariablesOfTree n given → VariablesOfTree n (variables_of s)
given-of_tree n given s is h = subst (λ (t : Scoped). VariablesOfTree n (variables_of t)) (sym is) h

module _ (a : Around) (reply : Replies) where
  -- an expression with no frame behind it
  pub alone : (e : Expr) (frames : List Frame) (c : Context) (s : Scoped) (given : Variables) → frames ≡ [] → s ≡ record { bound = []; given = given }
      → denotes a reply e c given ≡ (denotes a reply e c (variables_of s) >>= λ value. resumed a reply (reverse frames) c s value)
  alone e frames c s given none is =
      sym ((λ i. denotes a reply e c (variables_of (is i)) >>= λ value. resumed a reply (reverse (none i)) c (is i) value)
      ∙ (λ i. denotes a reply e c given >>= λ value. resumed-nil a reply c (record { bound = []; given = given }) value i)
      ∙ then-give (denotes a reply e c given))

  pub begun : {K : Type 0} (t : Told K) (e : Expr) (frames : List Frame) (c : Context) (s : Scoped) (given : Variables) → frames ≡ [] → s ≡ record { bound = []; given = given }
      → ComesTo (denotes a reply e c given) t (denotes a reply e c (variables_of s) >>= λ value. resumed a reply (reverse frames) c s value) t
  begun t e frames c s given none is =
      subst (λ (m : Means (List ItemValue)). ComesTo (denotes a reply e c given) t m t) (alone e frames c s given none is) (comes-begin {m = denotes a reply e c given} {t = t})

-- What the nodes of a program stand for.
use Rattle.std.specs.Prelude.{◌≡◌, ℕ, ◌<◌, ◌≤◌, ◌⊎◌, List, [], ◌∷◌, ◌++◌, length, map, Some, slice_get, slice_index_or, ⊤}
use Rattle.pj_peg_grammar.specs.declared.program.Node.{Node}
use Rattle.pj_peg_grammar.specs.declared.program.Node.TheVariants.{Token, Any, Rule, Nothing, Never, Seq, Choice, Star, Maybe, And, Not}
use Rattle.pj_peg_grammar.specs.declared.program.Program.{Program}
use Rattle.pj_peg_grammar.specs.WellFormed.{Repeats}
use Rattle.pj_peg_grammar.specs.Form.{Form, token, any, rule, nothing, seq, never, choice, star, maybe, ahead, not_ahead}

abbrev pub form_at : List Form → ℕ → Form
form_at forms k = slice_index_or forms k never

-- what a node stands for, by the forms of those before it
abbrev pub node_form : List Form → Node → Form
node_form forms (Token k) = token k
node_form forms Any = any
node_form forms (Rule r) = rule r
node_form forms Nothing = nothing
node_form forms Never = never
node_form forms (Seq a b) = seq (form_at forms a) (form_at forms b)
node_form forms (Choice a b) = choice (form_at forms a) (form_at forms b)
node_form forms (Star a n) = star (form_at forms a)
node_form forms (Maybe a) = maybe (form_at forms a)
node_form forms (And a) = ahead (form_at forms a)
node_form forms (Not a) = not_ahead (form_at forms a)

abbrev pub forms_after : List Form → List Node → List Form
forms_after forms [] = forms
forms_after forms (n ∷ ns) = forms_after (forms ++ node_form forms n ∷ []) ns

-- the form of each node
unfoldable pub forms_in : List Node → List Form
forms_in nodes = forms_after [] nodes

-- the parts of a node stand before it, and a repetition is listed with its part
abbrev pub PartsBelow : List ℕ → ℕ → Node → Type 0
PartsBelow stars k (Token c) = ⊤
PartsBelow stars k Any = ⊤
PartsBelow stars k (Rule r) = ⊤
PartsBelow stars k Nothing = ⊤
PartsBelow stars k Never = ⊤
PartsBelow stars k (Seq a b) = (a < k) × (b < k)
PartsBelow stars k (Choice a b) = (a < k) × (b < k)
PartsBelow stars k (Star a n) = (a < k) × (slice_get stars n ≡ Some a)
PartsBelow stars k (Maybe a) = a < k
PartsBelow stars k (And a) = a < k
PartsBelow stars k (Not a) = a < k

pub record AreNodes (nodes : List Node) (stars : List ℕ) : Type 0 where
  pub parts : (k : ℕ) (n : Node) → slice_get nodes k ≡ Some n → PartsBelow stars k n
  pub star_parts : (n a : ℕ) → slice_get stars n ≡ Some a → a < length nodes

-- nodes were added, and the earlier ones stand for what they stood for
pub record Extends (old new : List Node) (stars : List ℕ) : Type 0 where
  pub nodes_are : AreNodes new stars
  pub longer : length old ≤ length new
  pub keeps : (k : ℕ) → k < length old → form_at (forms_in new) k ≡ form_at (forms_in old) k

-- nodes were added, of which one stands for the form; repetitions that are new are those of the form
pub record AddsForm (old new : List Node) (stars stars' : List ℕ) (index : ℕ) (f : Form) : Type 0 where
  pub extends : Extends old new stars'
  pub there : index < length new
  pub stands : form_at (forms_in new) index ≡ f
  pub used : (n a : ℕ) → slice_get stars' n ≡ Some a → (slice_get stars n ≡ Some a) ⊎ Repeats f (form_at (forms_in new) a)

-- the nodes of the rules stand among the nodes, each repetition is in a rule, and a node stands for what its parts stand for
pub record IsProgram (p : Program) : Type 0 where
  pub nodes_are : AreNodes p.nodes.items p.stars.items
  pub there : (r k : ℕ) → slice_get p.roots.items r ≡ Some k → k < length p.nodes.items
  pub used : (n a : ℕ) → slice_get p.stars.items n ≡ Some a →
      (r : ℕ) × (k : ℕ) × (slice_get p.roots.items r ≡ Some k) × Repeats (form_at (forms_in p.nodes.items) k) (form_at (forms_in p.nodes.items) a)
  pub stands : (k : ℕ) (n : Node) → slice_get p.nodes.items k ≡ Some n → form_at (forms_in p.nodes.items) k ≡ node_form (forms_in p.nodes.items) n

-- the rules of a program
abbrev pub rules_of : Program → List Form
rules_of p = map (form_at (forms_in p.nodes.items)) p.roots.items

-- What frames mean: what a construct comes to once the value is there that its frame waits for.
use Rattle.std.specs.Prelude.{ℕ, ◌+◌, Bool, true, List, [], ◌∷◌, ◌++◌, map, reverse, Option, Result, if◌then◌else◌, string_bytes}
use Rattle.pj_tree.specs.declared.node.Node.{Node}
use Rattle.pj_xvalue.specs.declared.fault.XCode.{XCode}
use Rattle.pj_xexpressions.specs.declared.pmd_function.PmdFunction.{PmdFunction}
use Rattle.pj_xvalue.specs.Boolean.{effective_boolean}
use Rattle.pj_xvalue.specs.Comparison.{general_comparison}
use Rattle.pj_xvalue.specs.Items.{ItemValue, String, values_of}
use Rattle.pj_xaxes.specs.Order.{ordered}
use Rattle.pj_xsteps.specs.Means.{Means, give, judged, ◌>>=◌, chain, decides, decided, one_boolean}
use Rattle.pj_xsteps.specs.Context.{Around, Context, Variables, Denotation}
use Rattle.pj_xsteps.specs.Operands.{with_values, operand, only_nodes}
use Rattle.pj_xsteps.specs.Arithmetic.{signed, range, number_items}
use Rattle.pj_xsteps.specs.Turns.{numbered, in_turn, step_in_turn, with_kept, with_all, walked, mapped, through, narrowed, united}
use Rattle.pj_xsteps.specs.Steps.{in_document_order}
use Rattle.pj_xsteps.specs.Bindings.{with_item, for_in, quantified, let_in}
use Rattle.pj_xsteps.specs.Calls.{call, pmd_call, node_in}
use Rattle.pj_xsteps.specs.Parts.{bindings_of, operated_by}
use Rattle.pj_xsteps.specs.Denotes.{here, behind, with_text, with_nodes, with_term, with_factor, with_set, with_argument, denotes}
use Rattle.pj_xframes.specs.declared.frame.Task.{Task}
use Rattle.pj_xframes.specs.declared.frame.Task.TheVariants as task
use Rattle.pj_xframes.specs.declared.frame.Turn.{Turn}
use Rattle.pj_xframes.specs.declared.frame.Turn.TheVariants as turn
use Rattle.pj_xframes.specs.declared.frame.Turns.{Turns}
use Rattle.pj_xframes.specs.declared.frame.ForTurns.{ForTurns}
use Rattle.pj_xframes.specs.declared.frame.QuantifiedTurns.{QuantifiedTurns}
use Rattle.pj_xframes.specs.declared.frame.Binding.TheVariants as binding
use Rattle.pj_xframes.specs.declared.frame.Frame.{Frame}
use Rattle.pj_xframes.specs.declared.frame.Frame.TheVariants as frame
use Rattle.pj_xframes.specs.declared.frame.Next.{Next}
use Rattle.pj_xframes.specs.declared.frame.Next.TheVariants as next
use Rattle.pj_xframes.specs.Scopes.{Scoped, variables_of, without}

-- what the functions of PMD reply
abbrev pub Replies : Type 0
Replies = PmdFunction → Option Node → List (List ItemValue) → Means (List ItemValue)

-- one evaluation after another, as clauses write it
infixl 10 ◌▷◌
abbrev pub ◌▷◌ : {A B : Type 0} → Means A → (A → Means B) → Means B
meaning ▷ next = meaning >>= next

-- predicates, steps or parts over items
abbrev pub over : Turn → Variables → List Denotation → List ItemValue → Means (List ItemValue)
over turn.Forward variables ds items = narrowed variables ds items
over turn.Backward variables ds items = narrowed variables ds items >>= λ found. give (in_document_order true found)
over turn.Step variables ds items = through (walked variables) ds items
over turn.Part variables ds items = through (mapped variables) ds items

abbrev pub evaluated : Turn → Denotation → ℕ → Variables → ℕ × ItemValue → Means (List ItemValue)
evaluated turn.Step d size variables it = step_in_turn d size variables it
evaluated _ d size variables it = in_turn d size variables it

-- whether an item, which is or is not a node, may be the context
abbrev pub may_turn : Turn → Bool → Bool
may_turn turn.Step is_node = is_node
may_turn turn.Forward is_node = true
may_turn turn.Backward is_node = true
may_turn turn.Part is_node = true

abbrev pub taken : Turn → ℕ × ItemValue → List ItemValue → List ItemValue → Result (List ItemValue) XCode
taken turn.Forward it found value = with_kept it found value
taken turn.Backward it found value = with_kept it found value
taken _ it found value = with_all it found value

-- what follows the last turn of a predicate, a step or a part
abbrev pub finished : Turn → Variables → List Denotation → List ItemValue → Means (List ItemValue)
finished turn.Step variables ds found = judged (united found) >>= λ nodes. through (walked variables) ds nodes
finished turn.Forward variables ds found = over turn.Forward variables ds found
finished turn.Backward variables ds found = over turn.Backward variables ds found
finished turn.Part variables ds found = over turn.Part variables ds found

-- the context once a frame has done its work
abbrev pub context_left : Frame → Context → Context
context_left (frame.Turns turns) c = turns.value.outer
context_left _ c = c

-- the variables then
abbrev pub scope_left : Frame → Scoped → Scoped
scope_left (frame.For turns) s = without 1 s
scope_left (frame.Quantified turns) s = without 1 s
scope_left (frame.Source (binding.Let bound) binder) s = without bound s
scope_left (frame.LetBody count) s = without count s
scope_left _ s = s

abbrev pub context_after : Next → Context → Context
context_after (next.Within task frame) c = context_left frame c
context_after _ c = c

abbrev pub scope_after : Next → Scoped → Scoped
scope_after (next.Within task frame) s = scope_left frame s
scope_after _ s = s

module _ (a : Around) (reply : Replies) where
  abbrev pub task_meaning : Task → Context → Variables → Means (List ItemValue)
  task_meaning (task.Expression e) c v = denotes a reply e.now c v
  task_meaning (task.For bindings body) c v = for_in (bindings_of (denotes a reply) bindings.now) (denotes a reply body.now) c v
  task_meaning (task.Quantified q bindings test) c v = quantified q (bindings_of (denotes a reply) bindings.now) (denotes a reply test.now) c v

  -- the turns that are still to come
  abbrev pub turns_left : Turns → List ItemValue → Variables → Means (List ItemValue)
  turns_left turns found v =
      chain (evaluated turns.what (denotes a reply turns.part.now) turns.size v) (taken turns.what) (numbered (turns.position + 1) (reverse (values_of turns.left))) found
      >>= λ all. finished turns.what v (map (denotes a reply) turns.rest.now) all

  -- the same, once the value of a turn is there
  abbrev pub turns_after : Turns → List ItemValue → Context → Variables → Means (List ItemValue)
  turns_after turns value c v =
      (judged (taken turns.what (turns.position, c.item) (values_of turns.found) value)
      >>= λ found. chain (evaluated turns.what (denotes a reply turns.part.now) turns.size v) (taken turns.what) (numbered (turns.position + 1) (reverse (values_of turns.left))) found)
      >>= λ all. finished turns.what v (map (denotes a reply) turns.rest.now) all

  abbrev pub for_left : ForTurns → List ItemValue → Context → Variables → Means (List ItemValue)
  for_left turns found c v =
      chain (with_item turns.name.now (for_in (bindings_of (denotes a reply) turns.rest.now) (denotes a reply turns.body.now)) c v) with_all (reverse (values_of turns.left)) found

  abbrev pub quantified_left : QuantifiedTurns → Context → Variables → Means (List ItemValue)
  quantified_left turns c v =
      decided turns.quantifier (with_item turns.name.now (quantified turns.quantifier (bindings_of (denotes a reply) turns.rest.now) (denotes a reply turns.test.now)) c v) (reverse (values_of turns.left))

  -- what a frame comes to with the value that it waits for
  abbrev pub reacted : Frame → Context → Scoped → List ItemValue → Means (List ItemValue)
  reacted (frame.Items found rest) c s value = chain (here c (variables_of s)) with_all (map (denotes a reply) rest.now) (values_of found ++ value)
  reacted (frame.Text text rest) c s value =
      (judged (with_text a (tt {0}) (string_bytes text) value) >>= λ more. chain (here c (variables_of s)) (with_text a) (map (denotes a reply) rest.now) more) >>= λ all. give (String all ∷ [])
  reacted (frame.Nodes found rest) c s value =
      (judged (with_nodes (tt {0}) (values_of found) value) >>= λ more. chain (here c (variables_of s)) with_nodes (map (denotes a reply) rest.now) more) >>= λ all. give (ordered all)
  reacted (frame.Arguments function arguments rest) c s value =
      chain (here c (variables_of s)) with_argument (map (denotes a reply) rest.now) (map values_of arguments ++ value ∷ []) >>= λ values. judged (call a function c values)
  reacted (frame.PmdArguments function arguments rest) c s value =
      chain (here c (variables_of s)) with_argument (map (denotes a reply) rest.now) (map values_of arguments ++ value ∷ []) >>= λ values. pmd_call reply function c values
  reacted (frame.FirstTerm rest) c s value =
      judged (operand a value) >>= λ term. chain (behind c (variables_of s)) (with_term a) (operated_by (denotes a reply) rest.now) term >>= λ total. give (number_items total)
  reacted (frame.Term total operator rest) c s value =
      (judged (with_term a (operator, tt {0}) total value) >>= λ more. chain (behind c (variables_of s)) (with_term a) (operated_by (denotes a reply) rest.now) more) >>= λ all. give (number_items all)
  reacted (frame.FirstFactor rest) c s value =
      judged (operand a value) >>= λ factor. chain (behind c (variables_of s)) (with_factor a) (operated_by (denotes a reply) rest.now) factor >>= λ total. give (number_items total)
  reacted (frame.Factor total operator rest) c s value =
      (judged (with_factor a (operator, tt {0}) total value) >>= λ more. chain (behind c (variables_of s)) (with_factor a) (operated_by (denotes a reply) rest.now) more) >>= λ all. give (number_items all)
  reacted (frame.FirstSet rest) c s value = judged (only_nodes value) >>= λ nodes. chain (behind c (variables_of s)) with_set (operated_by (denotes a reply) rest.now) nodes
  reacted (frame.Set nodes operator rest) c s value =
      judged (with_set (operator, tt {0}) (values_of nodes) value) >>= λ more. chain (behind c (variables_of s)) with_set (operated_by (denotes a reply) rest.now) more
  reacted (frame.Truths q rest) c s value =
      judged (effective_boolean value) >>= λ truth. if decides q truth then give (one_boolean truth) else decided q (here c (variables_of s)) (map (denotes a reply) rest.now)
  reacted frame.Truth c s value = judged (effective_boolean value) >>= λ truth. give (one_boolean truth)
  reacted (frame.If chosen other) c s value =
      judged (effective_boolean value) >>= λ truth. if truth then denotes a reply chosen.now c (variables_of s) else denotes a reply other.now c (variables_of s)
  reacted (frame.Left op right) c s value =
      denotes a reply right.now c (variables_of s) >>= λ ys. judged (general_comparison op (with_values a value) (with_values a ys)) >>= λ truth. give (one_boolean truth)
  reacted (frame.Right op left) c s value = judged (general_comparison op (with_values a (values_of left)) (with_values a value)) >>= λ truth. give (one_boolean truth)
  reacted (frame.From to) c s value =
      judged (operand a value) >>= λ x. denotes a reply to.now c (variables_of s) >>= λ ys. judged (operand a ys) >>= λ y. give (range x y)
  reacted (frame.To from) c s value = judged (operand a value) >>= λ y. give (range from y)
  reacted (frame.Sign sign) c s value = judged (operand a value) >>= λ number. judged (signed sign number) >>= λ result. give (number_items result)
  reacted (frame.First what rest) c s value = over what (variables_of s) (map (denotes a reply) rest.now) value
  reacted (frame.Turns turns) c s value = turns_after turns.value value c (variables_of s)
  reacted (frame.Source binding.For binder) c s value =
      chain (with_item binder.name.now (for_in (bindings_of (denotes a reply) binder.rest.now) (denotes a reply binder.body.now)) c (variables_of s)) with_all value []
  reacted (frame.Source (binding.Quantified q) binder) c s value =
      decided q (with_item binder.name.now (quantified q (bindings_of (denotes a reply) binder.rest.now) (denotes a reply binder.body.now)) c (variables_of s)) value
  reacted (frame.Source (binding.Let bound) binder) c s value =
      let_in (bindings_of (denotes a reply) binder.rest.now) (denotes a reply binder.body.now) c ((binder.name.now, value) ∷ variables_of s)
  reacted (frame.For turns) c s value = for_left turns.value (values_of turns.value.found ++ value) c (variables_of (without 1 s))
  reacted (frame.Quantified turns) c s value =
      judged (effective_boolean value) >>= λ truth. if decides turns.value.quantifier truth then give (one_boolean truth) else quantified_left turns.value c (variables_of (without 1 s))
  reacted (frame.LetBody count) c s value = give value

  -- what it comes to from here on
  abbrev pub next_meaning : Next → Context → Scoped → Means (List ItemValue)
  next_meaning (next.Value items) c s = give (values_of items)
  next_meaning (next.Within task frame) c s = task_meaning task c (variables_of s) >>= λ value. reacted frame c s value
  next_meaning (next.Instead task) c s = task_meaning task c (variables_of s)
  next_meaning (next.Over what parts items) c s = over what (variables_of s) (map (denotes a reply) parts.now) (values_of items)
  next_meaning (next.Reply function arguments) c s = reply function (node_in c.item) (map values_of arguments)

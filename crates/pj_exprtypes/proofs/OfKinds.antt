-- The type of an expression by its kind: its operands, and what is made of their types.
use Rattle.std.proofs.Common.{◌≡◌, List, [], ◌∷◌, Option, None, Some, length, refl, sym, ap, ◌∙◌}
use Rattle.pj_tree.specs.Tree.{IsSyntaxTree, Tree, children_of, kind_of}
use Rattle.pj_tree.specs.Words.{last_of, words_of}
use Rattle.pj_tree.specs.declared.kind.Kind.{Kind}
use Rattle.pj_tree.specs.declared.kind.Kind.TheVariants as k
use Rattle.pj_tree.specs.declared.node.Node.{Node}
use Rattle.pj_names.specs.declared.ty.PrimitiveType.TheVariants as p
use Rattle.pj_names.specs.JavaType.{JavaType, Primitive}
use Rattle.pj_names.specs.Asking.{Asking, Return, bind, each}
use Rattle.pj_names.proofs.MeaningLaws.{bind-bind, bind-Return}
use Rattle.pj_types.specs.Conversions.{promoted}
use Rattle.pj_operators.specs.Conditional.{conditional_type}
use Rattle.pj_operators.specs.declared.operators.Infix.{Infix}
use Rattle.pj_operators.specs.declared.operators.Infix.TheVariants as i
use Rattle.pj_operators.specs.declared.operators.Unary.{Unary}
use Rattle.pj_operators.specs.declared.operators.Unary.TheVariants as u
use Rattle.pj_operators.specs.Operators.{infix_of, unary_of}
use Rattle.pj_receivers.specs.Elements.{element_of}
use Rattle.pj_receivers.specs.Fields.{field_of}
use Rattle.pj_calls.specs.Nodes.{arguments_of, before_dot, functions_of, receiver_by}
use Rattle.pj_calls.specs.Candidates.{Candidates, candidates_of}
use Rattle.pj_calls.specs.Choosing.{Chosen, chosen_among}
use Rattle.pj_calls.specs.Results.{result_or_unknown}
use Rattle.pj_calls.specs.Calls.{call_type, chosen_with, type_if_any}
use Rattle.pj_exprtypes.specs.Calls.{call_with, typing_of}
use Rattle.pj_exprtypes.specs.ByKind.{IsOfBoth, IsOfFirst, IsOfLeft, IsOfNone, IsOfNoOperand, IsOfOperand, IsOfSecondAndThird}
use Rattle.pj_exprtypes.specs.Expressions.{branches_with, infix_with, only, pair_of, unary_with}
use Rattle.pj_exprtypes.specs.Operands.{but_first, first_only, if_some, infix_operands, unary_operands}
use Rattle.pj_exprtypes.specs.TypeOf.{earlier, final_type, type_of}
use Rattle.pj_exprtypes.specs.Typing.{Typing, Known, known}
use Rattle.pj_exprtypes.proofs.Depth.{type-goes-on, whole-by}

-- ---- what is made of some types

abbrev made : Tree → (Node → Asking JavaType) → (Node → Asking JavaType) → Node → (List JavaType → Asking JavaType) → List JavaType → Asking JavaType
made t var f place next types = bind (known (next types)) (λ found. final_type t var f place found)

known-final : (t : Tree) (var f : Node → Asking JavaType) (place : Node) (m : Asking JavaType) → bind (known m) (λ found. final_type t var f place found) ≡ m
known-final t var f place m = bind-bind m (λ ty. Return (Known ty)) (λ found. final_type t var f place found) ∙ bind-Return m

-- of one operand
one : (t : Tree) (var f : Node → Asking JavaType) (place n : Node) (next : List JavaType → Asking JavaType) → bind (each f (n ∷ [])) (made t var f place next) ≡ bind (f n) (λ ty. next (ty ∷ []))
one t var f place n next = bind-bind (f n) (λ ty. Return (ty ∷ [])) (made t var f place next) ∙ (λ j. bind (f n) (λ ty. known-final t var f place (next (ty ∷ [])) j))

-- of two
behind : (t : Tree) (var f : Node → Asking JavaType) (place m : Node) (ty : JavaType) (next : List JavaType → Asking JavaType)
    → bind (bind (each f (m ∷ [])) (λ types. Return (ty ∷ types))) (made t var f place next) ≡ bind (f m) (λ other. next (ty ∷ other ∷ []))
behind t var f place m ty next = bind-bind (each f (m ∷ [])) (λ types. Return (ty ∷ types)) (made t var f place next) ∙ one t var f place m (λ types. next (ty ∷ types))

two : (t : Tree) (var f : Node → Asking JavaType) (place n m : Node) (next : List JavaType → Asking JavaType) → bind (each f (n ∷ m ∷ [])) (made t var f place next) ≡ bind (f n) (λ ty. bind (f m) (λ other. next (ty ∷ other ∷ [])))
two t var f place n m next = bind-bind (f n) (λ ty. bind (each f (m ∷ [])) (λ types. Return (ty ∷ types))) (made t var f place next) ∙ (λ j. bind (f n) (λ ty. behind t var f place m ty next j))

-- ---- by the kind

module _ (t : Tree) (tree : IsSyntaxTree t) where
  by-kind : (n : Node) (kind : Kind) → kind_of t n ≡ Some kind → type_of t n ≡ whole-by t (earlier t (length t.nodes)) (type_of t) n (Some kind)
  by-kind n kind is = type-goes-on t tree n ∙ ap (whole-by t (earlier t (length t.nodes)) (type_of t) n) is

  abbrev first-made : Node → (List JavaType → Asking JavaType) → List Node → Asking JavaType
  first-made n next ns = bind (each (type_of t) (first_only ns)) (made t (earlier t (length t.nodes)) (type_of t) n next)

  pub fields : IsOfFirst t k.FieldAccess (λ n ty. field_of t (last_of [] (words_of t n)) ty)
  fields n first rest is children =
      let next = λ (types : List JavaType). field_of t (last_of [] (words_of t n)) (only types) in
      by-kind n k.FieldAccess is ∙ ap (first-made n next) children ∙ one t (earlier t (length t.nodes)) (type_of t) n first next

  pub arrays : IsOfFirst t k.ArrayAccess (λ n ty. Return (element_of ty))
  arrays n first rest is children =
      let next = λ (types : List JavaType). Return (element_of (only types)) in
      by-kind n k.ArrayAccess is ∙ ap (first-made n next) children ∙ one t (earlier t (length t.nodes)) (type_of t) n first next

  pub assignments : IsOfFirst t k.AssignmentExpression (λ n ty. Return ty)
  assignments n first rest is children =
      let next = λ (types : List JavaType). Return (only types) in
      by-kind n k.AssignmentExpression is ∙ ap (first-made n next) children ∙ one t (earlier t (length t.nodes)) (type_of t) n first next

  pub conditionals : IsOfSecondAndThird t k.ConditionalExpression conditional_type
  conditionals n first second third is children =
      let next = λ (types : List JavaType). branches_with (pair_of types) in
      by-kind n k.ConditionalExpression is
      ∙ ap (λ (ns : List Node). bind (each (type_of t) (but_first ns)) (made t (earlier t (length t.nodes)) (type_of t) n next)) children
      ∙ two t (earlier t (length t.nodes)) (type_of t) n second third next

  -- infix expressions

  abbrev infix-by : Node → List Node → Option Infix → Asking JavaType
  infix-by n ns operator = bind (each (type_of t) (infix_operands operator ns)) (made t (earlier t (length t.nodes)) (type_of t) n (λ types. Return (infix_with operator types)))

  by-operator : (n : Node) (operator : Infix) → kind_of t n ≡ Some k.InfixExpression → infix_of t n ≡ Some operator → type_of t n ≡ infix-by n (children_of t n) (Some operator)
  by-operator n operator is told = by-kind n k.InfixExpression is ∙ ap (infix-by n (children_of t n)) told

  pub tests : IsOfNone t i.Test (Primitive p.Boolean)
  tests n is told = by-operator n i.Test is told

  pub shifts : IsOfLeft t i.Shift promoted
  shifts n left rest is told children =
      by-operator n i.Shift is told ∙ ap (λ (ns : List Node). infix-by n ns (Some i.Shift)) children
      ∙ one t (earlier t (length t.nodes)) (type_of t) n left (λ types. Return (infix_with (Some i.Shift) types))

  pub sums : IsOfBoth t i.Sum
  sums n left right is told children =
      by-operator n i.Sum is told ∙ ap (λ (ns : List Node). infix-by n ns (Some i.Sum)) children
      ∙ two t (earlier t (length t.nodes)) (type_of t) n left right (λ types. Return (infix_with (Some i.Sum) types))

  pub bits : IsOfBoth t i.Bitwise
  bits n left right is told children =
      by-operator n i.Bitwise is told ∙ ap (λ (ns : List Node). infix-by n ns (Some i.Bitwise)) children
      ∙ two t (earlier t (length t.nodes)) (type_of t) n left right (λ types. Return (infix_with (Some i.Bitwise) types))

  pub arithmetic : IsOfBoth t i.Arithmetic
  arithmetic n left right is told children =
      by-operator n i.Arithmetic is told ∙ ap (λ (ns : List Node). infix-by n ns (Some i.Arithmetic)) children
      ∙ two t (earlier t (length t.nodes)) (type_of t) n left right (λ types. Return (infix_with (Some i.Arithmetic) types))

  -- unary expressions

  abbrev unary-by : Node → List Node → Option Unary → Asking JavaType
  unary-by n ns operator = bind (each (type_of t) (unary_operands operator ns)) (made t (earlier t (length t.nodes)) (type_of t) n (λ types. Return (unary_with operator types)))

  by-sign : (n : Node) (operator : Unary) → kind_of t n ≡ Some k.UnaryExpression → unary_of t n ≡ Some operator → type_of t n ≡ unary-by n (children_of t n) (Some operator)
  by-sign n operator is told = by-kind n k.UnaryExpression is ∙ ap (unary-by n (children_of t n)) told

  pub negations : IsOfNoOperand t u.Not (Primitive p.Boolean)
  negations n is told = by-sign n u.Not is told

  pub steps : IsOfOperand t u.Step (λ ty. ty)
  steps n operand rest is told children =
      by-sign n u.Step is told ∙ ap (λ (ns : List Node). unary-by n ns (Some u.Step)) children
      ∙ one t (earlier t (length t.nodes)) (type_of t) n operand (λ types. Return (unary_with (Some u.Step) types))

  pub signs : IsOfOperand t u.Sign promoted
  signs n operand rest is told children =
      by-sign n u.Sign is told ∙ ap (λ (ns : List Node). unary-by n ns (Some u.Sign)) children
      ∙ one t (earlier t (length t.nodes)) (type_of t) n operand (λ types. Return (unary_with (Some u.Sign) types))

  -- method calls

  module _ (n : Node) where
    -- what follows, by the recursion and by the definition of a call
    abbrev made-call : Typing → Asking JavaType
    made-call found = final_type t (earlier t (length t.nodes)) (type_of t) n found

    abbrev result : Option Chosen → Asking JavaType
    result found = Return (result_or_unknown found)

    abbrev chosen-of : Option JavaType → Asking (Option Chosen)
    chosen-of receiver = bind (candidates_of t n receiver) (λ found. chosen_with t (type_of t) n found)

    found-same : (found : Option Candidates) → made-call (typing_of found) ≡ bind (chosen_with t (type_of t) n found) result
    found-same None = refl
    found-same (Some candidates) = sym (bind-bind (each (type_of t) (arguments_of t n)) (λ types. chosen_among candidates types (functions_of t n)) result)

    by-found : (receiver : Option JavaType) → bind (bind (candidates_of t n receiver) (λ found. Return (typing_of found))) made-call ≡ bind (chosen-of receiver) result
    by-found receiver =
        bind-bind (candidates_of t n receiver) (λ found. Return (typing_of found)) made-call ∙ (λ j. bind (candidates_of t n receiver) (λ found. found-same found j))
        ∙ sym (bind-bind (candidates_of t n receiver) (λ found. chosen_with t (type_of t) n found) result)

    by-receiver : (before : Option Node) → bind (each (type_of t) (if_some before)) (λ types. bind (call_with t n types) made-call) ≡ bind (bind (type_if_any t (type_of t) before) chosen-of) result
    by-receiver None = by-found None
    by-receiver (Some m) =
        bind-bind (type_of t m) (λ ty. Return (ty ∷ [])) (λ types. bind (call_with t n types) made-call)
        ∙ (λ j. bind (type_of t m) (λ ty. by-found (Some ty) j))
        ∙ sym (bind-bind (type_of t m) (λ ty. chosen-of (Some ty)) result)
        ∙ sym (ap (λ (chosen : Asking (Option Chosen)). bind chosen result) (bind-bind (type_of t m) (λ ty. Return (Some ty)) chosen-of))

    pub calls : kind_of t n ≡ Some k.MethodCall → type_of t n ≡ call_type t (type_of t) n
    calls is =
        by-kind n k.MethodCall is ∙ by-receiver (before_dot t n)
        ∙ sym (ap (λ (before : Option Node). bind (bind (type_if_any t (type_of t) before) chosen-of) result) (ap (receiver_by t n) is))

-- What tells the type of a node: a type, or a variable whose type it is, one that is declared by `var` or one with the type that its declaration writes, or methods among which one is chosen by arguments.
use Rattle.pj_tree.specs.declared.node.Node.{Node}
use Rattle.pj_names.specs.JavaType.{JavaType}
use Rattle.pj_names.specs.Asking.{Asking, Return, bind}
use Rattle.pj_calls.specs.Candidates.{Candidates}

pub data Typing : Type 0 where
  Known : JavaType → Typing
  OfVar : Node → Typing
  OfWritten : Node → Node → Typing
  OfCall : Candidates → Typing

-- a type that is found without one of a variable or of arguments
abbrev pub known : Asking JavaType → Asking Typing
known meaning = bind meaning (λ ty. Return (Known ty))

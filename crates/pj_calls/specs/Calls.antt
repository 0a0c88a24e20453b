-- What a call comes to, by what the types of nodes are (JLS 8.8.7.1, 15.9.3, 15.12): the method or constructor that is chosen, and the type of a method call.
--
-- The receiver is typed first, and then the candidates are looked for. Where there are some, all arguments are typed, from left to right, and then one is chosen.
-- Where there is no candidate, no argument is looked at.
use Rattle.std.specs.Prelude.{Option, None, Some}
use Rattle.pj_tree.specs.Tree.{Tree}
use Rattle.pj_tree.specs.declared.node.Node.{Node}
use Rattle.pj_names.specs.JavaType.{JavaType}
use Rattle.pj_names.specs.Asking.{Asking, Return, bind, each}
use Rattle.pj_calls.specs.Nodes.{arguments_of, functions_of, receiver_of}
use Rattle.pj_calls.specs.Candidates.{Candidates, candidates_of}
use Rattle.pj_calls.specs.Choosing.{Chosen, chosen_among}
use Rattle.pj_calls.specs.Results.{result_or_unknown}

module _ (t : Tree) (type_of : Node → Asking JavaType) where
  abbrev pub type_if_any : Option Node → Asking (Option JavaType)
  type_if_any None = Return None
  type_if_any (Some n) = bind (type_of n) (λ ty. Return (Some ty))

  abbrev pub chosen_with : Node → Option Candidates → Asking (Option Chosen)
  chosen_with n None = Return None
  chosen_with n (Some candidates) = bind (each type_of (arguments_of t n)) (λ types. chosen_among candidates types (functions_of t n))

  -- the method or constructor of a call; of every other node there is none
  abbrev pub chosen : Node → Asking (Option Chosen)
  chosen n = bind (type_if_any (receiver_of t n)) (λ receiver. bind (candidates_of t n receiver) (λ found. chosen_with n found))

  -- the type of a method call
  abbrev pub call_type : Node → Asking JavaType
  call_type n = bind (chosen n) (λ found. Return (result_or_unknown found))

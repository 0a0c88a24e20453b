-- Calls of methods (JLS 15.12): by the type of the receiver there are candidates, and by those of the arguments one is chosen. Arguments are typed where there is a candidate.
use Rattle.std.specs.Prelude.{Option, None, Some, List, [], ◌∷◌}
use Rattle.pj_tree.specs.Tree.{Tree}
use Rattle.pj_tree.specs.declared.node.Node.{Node}
use Rattle.pj_names.specs.JavaType.{JavaType, Unknown}
use Rattle.pj_names.specs.Asking.{Asking, Return, bind, each}
use Rattle.pj_calls.specs.Nodes.{arguments_of, functions_of}
use Rattle.pj_calls.specs.Candidates.{Candidates, candidates_of}
use Rattle.pj_calls.specs.Results.{chosen_result}
use Rattle.pj_exprtypes.specs.Typing.{Typing, Known, OfCall}

-- ---- by the type of the receiver, where there is one

abbrev pub receiver_in : List JavaType → Option JavaType
receiver_in [] = None
receiver_in (ty ∷ types) = Some ty

abbrev pub typing_of : Option Candidates → Typing
typing_of None = Known Unknown
typing_of (Some candidates) = OfCall candidates

module _ (t : Tree) where
  abbrev pub call_with : Node → List JavaType → Asking Typing
  call_with n types = bind (candidates_of t n (receiver_in types)) (λ found. Return (typing_of found))

  -- ---- by what the types of the arguments are

  abbrev pub passed_type : (Node → Asking JavaType) → Node → Candidates → Asking JavaType
  passed_type type_of n candidates = bind (each type_of (arguments_of t n)) (λ types. chosen_result candidates types (functions_of t n))

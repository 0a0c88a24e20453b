-- The method or constructor that is chosen for a call, by the types of nodes (JLS 8.8.7.1, 15.9.3, 15.12).
use Rattle.std.specs.Prelude.{Option, None, Some}
use Rattle.std.specs.Option.{option_map}
use Rattle.pj_tree.specs.Tree.{Tree}
use Rattle.pj_tree.specs.declared.node.Node.{Node}
use Rattle.pj_names.specs.declared.ty.Ty.{Ty}
use Rattle.pj_names.specs.JavaType.{JavaType, java_type}
use Rattle.pj_names.specs.Asking.{Asking, Return, bind}
use Rattle.pj_types.specs.declared.members.Method.{Method}
use Rattle.pj_types.specs.Members.{FoundMethod, method_view}
use Rattle.pj_calls.specs.Calls.{chosen}
use Rattle.pj_calls.specs.Choosing.{Chosen}
use Rattle.pj_exprtypes.specs.TypeOf.{type_of}

-- the type that it was looked for in, and the method
abbrev pub pair_of : Chosen → JavaType × FoundMethod
pair_of chosen = (chosen.receiver, chosen.method)

abbrev pub chosen_pair : Tree → Node → Asking (Option (JavaType × FoundMethod))
chosen_pair t n = bind (chosen t (type_of t) n) (λ found. Return (option_map pair_of found))

abbrev pub seen_pair : Option (Ty × Method) → Option (JavaType × FoundMethod)
seen_pair None = None
seen_pair (Some pair) = Some (java_type pair.0, method_view pair.1)

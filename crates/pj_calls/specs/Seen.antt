-- What the code answers, as the definitions have it.
use Rattle.std.specs.Prelude.{Option, None, Some}
use Rattle.pj_names.specs.JavaType.{java_type, type_list}
use Rattle.pj_types.specs.declared.members.Method.{Method}
use Rattle.pj_types.specs.Members.{FoundMethod, all_methods, method_view}
use Rattle.pj_calls.specs.declared.candidates.Candidates as held
use Rattle.pj_calls.specs.declared.choosing.Chosen as code
use Rattle.pj_calls.specs.Candidates.{Candidates}
use Rattle.pj_calls.specs.Choosing.{Chosen}

abbrev pub candidates_view : held.Candidates → Candidates
candidates_view candidates = record { receiver = java_type candidates.receiver; methods = all_methods candidates.methods }

-- candidates, where there are some
abbrev pub seen_candidates : Option held.Candidates → Option Candidates
seen_candidates None = None
seen_candidates (Some candidates) = Some (candidates_view candidates)

-- a method, where there is one
abbrev pub seen_method : Option Method → Option FoundMethod
seen_method None = None
seen_method (Some method) = Some (method_view method)

abbrev pub chosen_view : code.Chosen → Chosen
chosen_view chosen = record { receiver = java_type chosen.receiver; method = method_view chosen.method; arguments = type_list chosen.arguments }

-- what was chosen, where something was
abbrev pub seen_chosen : Option code.Chosen → Option Chosen
seen_chosen None = None
seen_chosen (Some chosen) = Some (chosen_view chosen)

-- What a class of the file answers: from its declaration, by the types that it writes (JVMS 4.1, 4.5, 4.6). It is itself a meaning, and
-- its names are those of these types.
--
-- First its header is resolved, in which it is itself the class whose header is being resolved; then its members in the order of the text, where none is,
-- and of each its types in the order of its signature. So an inherited member class is found in the members of a class and not in its own header.
use Rattle.std.specs.Prelude.{ℕ, Option, None, Some, List, [], ◌∷◌}
use Rattle.pj_tree.specs.Tree.{Tree}
use Rattle.pj_tree.specs.declared.node.Node.{Node}
use Rattle.pj_names.specs.declared.answer.Answer.{Answer}
use Rattle.pj_names.specs.declared.answer.Answer.TheVariants.{Found}
use Rattle.pj_names.specs.ClassName.{Name}
use Rattle.pj_names.specs.Asking.{Asking, Return, ask, bind}
use Rattle.pj_written.specs.Flags.{class_flags}
use Rattle.pj_written.specs.Spelling.{class_signature_text}
use Rattle.pj_outer_names.specs.Candidates.{file_classes, node_named}
use Rattle.pj_file_oracle.specs.declared.members.MemberLists.{MemberLists}
use Rattle.pj_file_oracle.specs.Types.{type_parameters}
use Rattle.pj_file_oracle.specs.Supertypes.{supertypes_of}
use Rattle.pj_file_oracle.specs.Members.{members_of}

-- ---- the signature of a class (JVMS 4.7.9.1)

-- where the headers of some classes are being resolved
abbrev pub header_within : Tree → List ℕ → Node → Asking (List ℕ)
header_within t busy class =
    bind (type_parameters t busy class) (λ parameters.
    bind (supertypes_of t busy class) (λ types.
    Return (class_signature_text parameters types.superclass types.interfaces)))

-- where its own header is
abbrev pub header_text : Tree → Node → Asking (List ℕ)
header_text t class = header_within t (class.0 ∷ []) class

-- ---- the answer

-- by the signature and the members
abbrev pub found_with : Tree → Name → Node → List ℕ → MemberLists → Answer
found_with t name class signature members =
    Found (record { name = name; flags = class_flags t class; signature = signature; fields = members.fields; methods = members.methods })

-- of a class of the file, by its node
unfoldable pub class_answer : Tree → Name → Node → Asking Answer
class_answer t name class =
    bind (header_text t class) (λ signature.
    bind (members_of t class) (λ members.
    Return (found_with t name class signature members)))

-- by the node of the class of the file that has the name, if there is one
abbrev pub answer_by : Tree → Name → Option Node → Asking Answer
answer_by t name None = ask name
answer_by t name (Some class) = class_answer t name class

-- What the oracle of a file answers for a name: of a class of the file, the first in the text that has the name, by its declaration; every other name is asked.
abbrev pub file_answer : Tree → Name → Asking Answer
file_answer t name = answer_by t name (node_named (file_classes t) name)

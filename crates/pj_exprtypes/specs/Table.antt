-- The table of types that are held: each with the names that its definition asks, so that it can be given again.
use Rattle.std.specs.Prelude.{List, IsTrue}
use Rattle.std.specs.List.{All}
use Rattle.pj_tree.specs.Tree.{Tree}
use Rattle.pj_names.specs.ClassName.{name_set}
use Rattle.pj_names.specs.JavaType.{JavaType, java_type}
use Rattle.pj_names.specs.Asking.{Asking}
use Rattle.pj_names.specs.Expand.{world_by}
use Rattle.pj_names.specs.Held.{IsHeld}
use Rattle.pj_names.specs.Told.{Told, Worlds}
use Rattle.pj_file_oracle.specs.FileAnswer.{file_answer}
use Rattle.pj_leaf_types.specs.Variables.{declared_by}
use Rattle.pj_exprtypes.specs.declared.held.HeldType.{HeldType}
use Rattle.pj_exprtypes.specs.declared.held.Subject.{Subject}
use Rattle.pj_exprtypes.specs.declared.held.Subject.TheVariants as subject
use Rattle.pj_exprtypes.specs.TypeOf.{typed_before, var_of}

-- what is held of a subject
abbrev pub meaning_of : Tree → Subject → Asking JavaType
meaning_of t (subject.Var id) = var_of t id
meaning_of t (subject.Written id declaration) = declared_by t id declaration
meaning_of t (subject.Expression before n) = typed_before t before n

-- an entry has the type of its subject, with the names that its definition asks
abbrev pub Holds : Tree → Worlds → HeldType → Type 0
Holds t worlds entry = IsHeld worlds (meaning_of t entry.subject) (java_type entry.ty) (name_set entry.names)

-- all entries do, where the world is told
abbrev pub Keeps : {K : Type 0} → Tree → Told K → List HeldType → Type 0
Keeps t told types = IsTrue told.is_told → All (Holds t told.world) types

-- The same over the oracle of the file, by what the oracle beneath tells. It depends on nothing but the file and the worlds, so it holds for every oracle of the file over one of these worlds.
abbrev pub KeepsOver : {K : Type 0} → Tree → Told K → List HeldType → Type 0
KeepsOver t told types = IsTrue told.is_told → All (Holds t (λ depth. world_by (file_answer t) depth (told.world depth))) types

-- The classes of a generated project: class i extends class i / 2, and class 0 nothing.
use Rattle.std.specs.Prelude.{◌==◌, ◌/◌, ℕ, [], ◌++◌, if◌then◌else◌, codes}
use Rattle.std.specs.Fmt.{decimal}
use Rattle.pj_outside.specs.Files.{Bytes}

-- the number of the superclass
abbrev pub above : ℕ → ℕ
above i = i / 2

abbrev pub simple_name : ℕ → Bytes
simple_name i = codes "C" ++ decimal i

-- the name of a class, as class files write it
abbrev pub internal_name : ℕ → Bytes
internal_name i = codes "gen/" ++ simple_name i

-- what its superclass is, as class files write it
abbrev pub internal_super : ℕ → Bytes
internal_super i = if i == 0 then codes "java/lang/Object" else internal_name (above i)

abbrev pub extends_clause : ℕ → Bytes
extends_clause i = if i == 0 then [] else codes " extends " ++ simple_name (above i)

abbrev pub source_text : ℕ → Bytes
source_text i = codes "package gen;\nclass " ++ (simple_name i ++ (extends_clause i
    ++ (codes " {\n  int f(int a) { return a + " ++ (decimal i ++ codes " + 1; }\n}\n"))))

abbrev pub source_path : ℕ → Bytes
source_path i = internal_name i ++ codes ".java"

abbrev pub class_path : ℕ → Bytes
class_path i = internal_name i ++ codes ".class"

-- Meanings that ask for nothing.
use Rattle.std.specs.Prelude.{⊤, Bool, IsTrue, List, Option}
use Rattle.pj_names.specs.Asking.{Asking, Return, Ask, Unbounded}
use Rattle.pj_tree.specs.declared.node.Node.{Node}
use Rattle.pj_xexpressions.specs.declared.pmd_function.PmdFunction.{PmdFunction}
use Rattle.pj_xvalue.specs.Items.{ItemValue}
use Rattle.pj_xlaws.specs.Laws.{Reply}

-- The meaning is a value: it asks for no class, and goes into no recursion that nothing bounds.
abbrev pub IsPlain : {A : Type 0} → Asking A → Type 0
IsPlain (Return value) = ⊤
IsPlain (Ask name rest) = ⊥
IsPlain (Unbounded recursion) = ⊥

-- Such functions of PMD reply so, whatever they are called with.
abbrev pub RepliesPlain : (PmdFunction → Bool) → Reply → Type 0
RepliesPlain may reply = (function : PmdFunction) → IsTrue (may function) → (at : Option Node) (arguments : List (List ItemValue)) → IsPlain (reply function at arguments)

-- What the tokens of a text name, in their order: variables with their scopes, and functions with what they want of their arguments.
use Rattle.std.specs.Prelude.{ℕ, ◌+◌, List, [], ◌∷◌, ◌++◌, Option, Some, None}
use Rattle.pj_xexpressions.specs.declared.function.Function.{Function}
use Rattle.pj_xexpressions.specs.declared.function.Function.TheVariants as f
use Rattle.pj_xexpressions.specs.Expressions.{Written}
use Rattle.pj_xexpressions.specs.declared.name.Callee.{Callee}
use Rattle.pj_xexpressions.specs.declared.name.Callee.TheVariants as callee
use Rattle.pj_xexpressions.specs.Names.{callee_of}
use Rattle.pj_xreadings.specs.declared.role.Role.{Role}
use Rattle.pj_xreadings.specs.declared.role.Role.TheVariants as role

-- The roles of a function's arguments, as far as they are not any expression (XQuery 1.0 and XPath 2.0 Functions and Operators, 7.6).
abbrev pub roles_of : Function → List Role
roles_of f.Matches = role.Any ∷ role.Pattern ∷ role.Flags ∷ []
roles_of f.Tokenize = role.Any ∷ role.Pattern ∷ role.Flags ∷ []
roles_of f.Replace = role.Any ∷ role.Pattern ∷ role.Replacement ∷ role.Flags ∷ []
roles_of _ = []

-- those of a function, if there is one; the functions of PMD take any expressions
abbrev pub roles_in : Option Callee → List Role
roles_in None = []
roles_in (Some (callee.XPath function)) = roles_of function
roles_in (Some (callee.Pmd function)) = []

-- those of the function that a name calls
abbrev pub roles_named : List ℕ → List Role
roles_named name = roles_in (callee_of name)

-- Offsets are bytes of the text. Names are bytes in UTF-8.
pub data Mention : Type 0 where
  -- a variable; the offset is that of its `$`
  Variable : List ℕ → ℕ → Mention
  -- A call of a function with so many arguments; the offset is that of its name. Where its `)` is not there, and no function has the name, the
  -- number is that of the arguments up to where the tokens are cut off, with the one that could begin there, and decides nothing.
  Call : List ℕ → ℕ → ℕ → Mention
  -- an argument of this role, as it is written; the offset is that of its first token
  Argument : Role → Written → ℕ → Mention
  -- a variable is bound from here on
  Binds : List ℕ → Mention
  -- the scope of so many variables, those that were bound last, ends here
  Ends : ℕ → Mention

-- What variables name with their expressions, and what follows them: each variable is seen by the expressions behind its own, and by the body.
abbrev pub scoped : List (List ℕ × List Mention) → ℕ → List Mention → List Mention
scoped [] count body = body ++ Ends count ∷ []
scoped (variable ∷ more) count body = variable.1 ++ (Binds variable.0 ∷ scoped more (count + 1) body)

-- What the readings of the code say.
use Rattle.std.specs.Prelude.{ℕ, Bool, true, false, List, [], ◌∷◌, map, reverse}
use Rattle.std.specs.declared.alloc.Global.{Global}
use Rattle.std.proofs.Common.{Box}
use Rattle.pj_xexpressions.specs.declared.operator.Compare.{Compare}
use Rattle.pj_xexpressions.specs.declared.expr.Expr.{Expr}
use Rattle.pj_xexpressions.specs.Trees.{Tree, tree_of}
use Rattle.pj_xexpressions.specs.Expressions.{Written, Literal, Number, Name, Other}
use Rattle.pj_xtokens.specs.Literals.{string_of}
use Rattle.pj_xreadings.specs.Mentions as mention
use Rattle.pj_xreadings.specs.Mentions.{Mention}
use Rattle.pj_xreadings.specs.Operands.{Operand, Binding, Arguments, Closed, Open, Next}
use Rattle.pj_xreadings.specs.declared.named.Spelling.{Spelling}
use Rattle.pj_xreadings.specs.declared.named.Spelling.TheVariants as spelling
use Rattle.pj_xreadings.specs.declared.named.Named.{Named}
use Rattle.pj_xreadings.specs.declared.named.Named.TheVariants as named
use Rattle.pj_xreadings.specs.declared.operand.Reading.{Reading}
use Rattle.pj_xreadings.specs.declared.operand.Bound.{Bound}
use Rattle.pj_xreadings.specs.declared.operand.Given.{Given}

-- how an argument is written; a literal stands for the string that its token spells
abbrev pub seen_written : Spelling → Written
seen_written (spelling.Literal token) = Literal (string_of token.now)
seen_written spelling.Number = Number
seen_written (spelling.Name name) = Name name.now
seen_written spelling.Other = Other

-- a mention
abbrev pub seen_mention : Named → Mention
seen_mention (named.Variable name from) = mention.Variable name.now from
seen_mention (named.Call name count from) = mention.Call name.now count from
seen_mention (named.Argument role written from) = mention.Argument role (seen_written written) from
seen_mention (named.Binds name) = mention.Binds name.now
seen_mention (named.Ends count) = mention.Ends count

-- mentions, of which the first one stands last
abbrev pub seen_mentions : List Named → List Mention
seen_mentions list = map seen_mention (reverse list)

-- an expression
abbrev pub seen_reading : Reading → Operand
seen_reading a = record { tree = tree_of a.expr; written = seen_written a.written; names = seen_mentions a.names.items }

-- the tree of an expression behind an operator, or of one that is bound to a name
abbrev pub behind_of : {A : Type 0} → A × Expr → A × Tree
behind_of next = (next.0, tree_of next.1)

-- an operand behind an operator
abbrev pub seen_behind : {Operator : Type 0} → Operator × Reading → Operator × Operand
seen_behind next = (next.0, seen_reading next.1)

-- a variable with its expression
abbrev pub seen_bound : Bound → Binding
seen_bound b = record { name = b.name.now; bound = seen_reading b.value }

-- arguments, each with its offset
abbrev pub seen_given : Bool → List (ℕ × Reading) → Arguments
seen_given true [] = Closed
seen_given false [] = Open
seen_given closed (argument ∷ more) = Next argument.0 (seen_reading argument.1) (seen_given closed more)

-- the arguments of a call
abbrev pub seen_arguments : Given → Arguments
seen_arguments given = seen_given given.closed given.list

-- the second operand of a comparison with its operator, and the operand up to which another one ranges
abbrev pub seen_second : Compare × Box Reading Global → Compare × Operand
seen_second next = (next.0, seen_reading next.1.value)

abbrev pub seen_last : Box Reading Global → Operand
seen_last a = seen_reading a.value

-- Kinds of nodes by which the names of types are told.
use Rattle.std.specs.Prelude.{Bool, true, false}
use Rattle.pj_tree.specs.declared.kind.Kind.{Kind}
use Rattle.pj_tree.specs.declared.kind.Kind.TheVariants as k

-- a name alone
abbrev pub is_variable_access : Kind → Bool
is_variable_access k.VariableAccess = true
is_variable_access other = false

-- what stands before it, a dot, and a name
abbrev pub is_field_access : Kind → Bool
is_field_access k.FieldAccess = true
is_field_access other = false

-- the name of a variable that is declared
abbrev pub is_variable_id : Kind → Bool
is_variable_id k.VariableId = true
is_variable_id other = false

-- a node over names that may end with a type
abbrev pub may_follow_type : Kind → Bool
may_follow_type k.FieldAccess = true
may_follow_type k.MethodCall = true
may_follow_type k.MethodReference = true
may_follow_type other = false

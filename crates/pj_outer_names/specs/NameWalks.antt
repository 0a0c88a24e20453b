-- Which class the code's walk along supertypes leaves out.
use Rattle.std.specs.Prelude.{Bool, false, if◌then◌else◌}
use Rattle.pj_names.specs.ClassName.{Name}
use Rattle.pj_written.specs.Words.{same_text}

-- by the code's flag, whether a class is left out: none is where the own member classes of the class count that the walk begins with,
-- and else that class is
abbrev pub left_out : Bool → Name → Name → Bool
left_out own_counts class name = if own_counts then false else same_text class name

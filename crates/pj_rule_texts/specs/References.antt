-- References to rulesets, as they are written.
use Rattle.std.specs.Prelude.{ℕ, ◌==◌, ◌||◌, Bool, [], ◌∷◌, ◌++◌, Option, Some, None, codes, nat_eq, if◌then◌else◌}
use Rattle.std.specs.List.{starts_with, ends_with}
use Rattle.pj_rule_texts.specs.Values.{Text}

-- A reference means all rules of a file, or the rule of a name in a file.
pub data Meant : Type 0 where
  WholeFile : Text → Meant
  OneRule : Text → Text → Meant

abbrev pub put_before : ℕ → Text × Text → Text × Text
put_before c parts = (c ∷ parts.0, parts.1)

-- the last slash of a text is that of its rest, or else its first character
abbrev pub or_here : ℕ → Text → Option (Text × Text) → Option (Text × Text)
or_here c cs (Some parts) = Some (put_before c parts)
or_here c cs None = if c == 47 then Some ([], cs) else None

-- what stands before the last slash, and what stands behind it; none where there is no slash
abbrev pub around_last_slash : Text → Option (Text × Text)
around_last_slash [] = None
around_last_slash (c ∷ cs) = or_here c cs (around_last_slash cs)

abbrev pub rule_in_file : Option (Text × Text) → Option Meant
rule_in_file None = None
rule_in_file (Some parts) = Some (OneRule parts.0 parts.1)

abbrev pub is_file : Text → Bool
is_file text = ends_with nat_eq text (codes ".xml")

-- A text that ends in `.xml` is a file; any other is cut at its last slash, into a file and a name. A text without a slash is neither.
abbrev pub reference_of : Text → Option Meant
reference_of text = if is_file text then Some (WholeFile text) else rule_in_file (around_last_slash text)

-- the file of this name in the folder of another file, which is the other's path up to and including its last slash
abbrev pub in_folder : Option (Text × Text) → Text → Text
in_folder None file = file
in_folder (Some parts) file = parts.0 ++ 47 ∷ file

abbrev pub beside : Text → Text → Text
beside path file = in_folder (around_last_slash path) file

-- whether a file of this name may be absent: those that come with PMD begin so
abbrev pub is_from_elsewhere : Text → Bool
is_from_elsewhere file = starts_with nat_eq file (codes "category/") || starts_with nat_eq file (codes "rulesets/")

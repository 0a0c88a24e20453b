-- For a private clause: one rule is put, unless it is excluded.
use Rattle.std.specs.Prelude.{List, if◌then◌else◌}
use Rattle.pj_rule_texts.specs.Values.{Text}
use Rattle.pj_rule_sets.specs.Lists.{Taken, is_excluded, name_of, put}

abbrev pub put_unless : List Text → Taken → List Taken → List Taken
put_unless excludes taken list = if is_excluded excludes (name_of taken.1) then list else put list taken

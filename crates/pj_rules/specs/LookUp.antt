-- Where files are looked up.
use Rattle.std.specs.Prelude.{Option, Some, None, if◌then◌else◌}
use Rattle.pj_outside.specs.Files.{Files}
use Rattle.pj_rule_texts.specs.Files.{is_there}
use Rattle.pj_rule_texts.specs.References.{beside}
use Rattle.pj_rule_texts.specs.Values.{Text, is_empty}

module _ (files : Files) where
  -- A file that is referred to is looked up as written, and then in the folder of the referring file; one without a name is not looked up.
  abbrev pub look_up : Text → Text → Option Text
  look_up from file = if is_empty file then None
      else (if is_there files file then Some file else (if is_there files (beside from file) then Some (beside from file) else None))

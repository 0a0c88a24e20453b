-- What follows from the definitions, without a premise.
use Rattle.std.specs.Prelude.{◌⊎◌, List, Bool, true}
use Rattle.pj_outside.specs.Doors.{ClassFolders}
use Rattle.pj_outside.specs.Files.{Bytes, Files}
use Rattle.pj_workers.specs.Cold.{FileSettles, RepliesSettle}
use Rattle.pj_workers.specs.JavaReplies.{java_replies}
use Rattle.pj_workers.specs.Rules.{Rule}
use Rattle.pj_parse.specs.JavaFile.{JavaFile}
use Rattle.pj_xexpressions.specs.declared.pmd_function.PmdFunction.{PmdFunction}
use Rattle.pj_runs.specs.Laws.{RunSettles}
use Rattle.pj_runs.specs.Refused.{IsRefused}
use Rattle.pj_runs.specs.Run.{IsRun, Run}
use Rattle.pj_outcomes.specs.declared.outcome.Outcome.{Outcome}
use Rattle.pj_table.specs.ClassWorld.{folders_world}
use Rattle.pj_settling.specs.Settling.{FindsFinitely, World}

-- all functions
abbrev pub any_function : PmdFunction → Bool
any_function function = true

-- Class folders have finitely many classes.
abbrev pub FoldersFindFinitely : Type 0
FoldersFindFinitely = (folders : List Files) → FindsFinitely (folders_world folders).answer

-- In a world that finds finitely many classes all functions of PMD reply something in a Java file, whatever they are called with.
abbrev pub AllRepliesSettle : Type 0
AllRepliesSettle = (world : World) → FindsFinitely world → (path : Bytes) (file : JavaFile) → RepliesSettle any_function world (java_replies path file)

-- So what rules mean at a file comes to something there.
abbrev pub AllFilesSettle : Type 0
AllFilesSettle = (world : World) → FindsFinitely world → (rules : List Rule) (path bytes : Bytes) → FileSettles java_replies world rules (path, bytes)

-- And so does what the rules of words and files mean at their sources, over all class folders.
abbrev pub AllRunsSettle : Type 0
AllRunsSettle = (words : List Bytes) (held : Files) (classes : ClassFolders) → RunSettles words held classes

-- Words, files and class folders have a run or a cause of refusal.
abbrev pub SomeRunOrRefusal : Type 0
SomeRunOrRefusal = (words : List Bytes) (held : Files) (classes : ClassFolders) → ((run : Run) × IsRun words held classes run) ⊎ ((outcome : Outcome) × IsRefused words held outcome)

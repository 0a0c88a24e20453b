-- The world of class folders, as oracles tell it.
use Rattle.std.specs.Prelude.{List, [], ◌∷◌, Some, None}
use Rattle.pj_names.specs.Told as told
use Rattle.pj_outside.specs.Files.{Files}
use Rattle.pj_classfile.specs.ClassOf.{folder_world}
use Rattle.pj_table.specs.Worlds.{World}

-- The world of class folders: each name has the answer of the first folder with the class's file, of at most 4,194,304
-- bytes, and needs just itself.
abbrev pub folders_world : List Files → told.World
folders_world folders = record { answer = λ name. folder_world 4194304 folders name; needs = λ name. name ∷ [] }

-- The same world at each depth. Where the folders are not told it is that of no folders, of which nothing is said.
abbrev pub worlds_of : World → told.Worlds
worlds_of None = λ depth. folders_world []
worlds_of (Some folders) = λ depth. folders_world folders

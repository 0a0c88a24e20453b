-- What looking a file up finds.
use Rattle.std.specs.Prelude.{◌≡◌, Bool, true, false, List, ◌++◌, [], ◌∷◌, Some, None}
use Rattle.pj_outside.specs.Files.{Files}
use Rattle.pj_rule_texts.specs.Files.{IsRead, is_there}
use Rattle.pj_rule_sets.specs.Lists.{is_among}
use Rattle.pj_rule_texts.specs.Values.{Text}
use Rattle.pj_rules.specs.Effective.{FileFaults}
use Rattle.pj_rule_sets.specs.ReadFiles.{list_at}
use Rattle.pj_rules.specs.LookUp.{look_up}
use Rattle.pj_rules.specs.declared.fault.RuleFault.{RuleFault}
use Rattle.pj_rule_sets.specs.declared.known.Known.{Known}
use Rattle.pj_rules.specs.declared.looking_up.Found.{Found}
use Rattle.pj_rules.specs.declared.looking_up.Found.TheVariants as found

-- a path that was opened before is open where its file is not read to its end
abbrev pub IsBefore : Known → Text → Type 0
IsBefore known path = list_at known.read path ≡ None → is_among path known.open_paths ≡ true

module _ (files : Files) where
  -- the fault of a whole file, wherever it is read
  abbrev pub IsFaultAt : Text → RuleFault → Type 0
  IsFaultAt path fault = (is_top : Bool) (open_ : List Text) → FileFaults files is_top open_ path fault

  pub record IsNewFault (known : Known) (path : Text) (fault : RuleFault) : Type 0 where
    pub is_new : is_among path known.open_paths ≡ false
    pub faults : FileFaults files false (known.open_paths ++ path ∷ []) path fault

  abbrev pub IsFoundAt : Known → Text → Found → Type 0
  IsFoundAt known path found.Nowhere = is_there files path ≡ false
  IsFoundAt known path (found.Before other) = (other ≡ path) × (is_there files path ≡ true) × IsBefore known path
  IsFoundAt known path (found.New other written) = (other ≡ path) × IsRead files path written × (is_among path known.open_paths ≡ false)

  abbrev pub IsFound : Known → Text → Text → Found → Type 0
  IsFound known from file found.Nowhere = look_up files from file ≡ None
  IsFound known from file (found.Before other) = (look_up files from file ≡ Some other) × IsBefore known other
  IsFound known from file (found.New other written) = (look_up files from file ≡ Some other) × IsRead files other written × (is_among other known.open_paths ≡ false)

  pub record IsFoundFault (known : Known) (from file : Text) (fault : RuleFault) : Type 0 where
    pub other : Text
    pub found : look_up files from file ≡ Some other
    pub faults : IsNewFault known other fault

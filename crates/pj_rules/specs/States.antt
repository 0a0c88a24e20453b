-- For private clauses: how far a load has come.
use Rattle.std.specs.Prelude.{⊤, ◌≡◌, Bool, true, false, List, [], ◌∷◌, ◌++◌, Option, Some, None, is_some}
use Rattle.std.specs.List.{filter_map}
use Rattle.std.specs.Option.{option_to_list}
use Rattle.pj_outside.specs.Files.{Files}
use Rattle.pj_rule_texts.specs.Files.{IsRead}
use Rattle.pj_rule_sets.specs.Lists.{is_among}
use Rattle.pj_rule_texts.specs.Values.{Text}
use Rattle.pj_rule_texts.specs.declared.written.Part.{Part}
use Rattle.pj_rule_texts.specs.declared.written.Part.TheVariants as part
use Rattle.pj_rule_texts.specs.declared.written.WrittenRuleset.{WrittenRuleset}
use Rattle.pj_rules.specs.Effective.{AddAll, Adds, AreJudged, FileFaults, PartFault, nothing, path_pattern}
use Rattle.pj_rules.specs.Known.{AreKnown, AreRead}
use Rattle.pj_rules.specs.Load.{TopRules, exclude_of, include_of}
use Rattle.pj_rules.specs.Referring.{Leads}
use Rattle.pj_rules.specs.declared.fault.RuleFault.{RuleFault}
use Rattle.pj_rule_sets.specs.declared.known.Known.{Known}
use Rattle.pj_rules.specs.declared.open_file.OpenFile.{OpenFile}
use Rattle.pj_rules.specs.declared.open_file.Waiting.{Waiting}
use Rattle.pj_rule_sets.specs.declared.path_patterns.PathPatterns.{PathPatterns}
use Rattle.pj_rules.specs.declared.reading.Next.{Next}
use Rattle.pj_rules.specs.declared.reading.Next.TheVariants as next
use Rattle.pj_rules.specs.declared.reading.Opening.{Opening}
use Rattle.pj_rules.specs.declared.reading.Stack.{Stack}
use Rattle.pj_rules.specs.declared.top.Top.{Top}
use Rattle.pj_xpatterns.specs.Refusing.{AreTaken}

abbrev pub is_top : OpenFile → Bool
is_top file = is_some file.patterns

abbrev pub left : OpenFile → List Part
left file = file.rest

-- ---- path patterns, where the file is a top ruleset

abbrev pub Gathers : Option PathPatterns → Part → Option PathPatterns → Type 0
Gathers None p None = ⊤
Gathers (Some old) p (Some new) = AreTaken (path_pattern p) × (new.exclude ≡ old.exclude ++ option_to_list (exclude_of p)) × (new.include ≡ old.include ++ option_to_list (include_of p))
Gathers _ p _ = ⊥

abbrev pub AreGathered : Option PathPatterns → List Part → Type 0
AreGathered None parts = ⊤
AreGathered (Some patterns) parts = (patterns.exclude ≡ filter_map exclude_of parts) × (patterns.include ≡ filter_map include_of parts)

module _ (files : Files) where
  -- the file is read up to these parts
  pub record IsOpen (file : OpenFile) (rest : List Part) : Type 0 where
    pub written : WrittenRuleset
    pub before : List Part
    pub is_read : IsRead files file.path written
    pub rule_set : file.rule_set ≡ written.rule_set
    pub stands : written.parts ≡ before ++ rest
    pub added : AddAll files file.path written.rule_set nothing before file.progress
    pub judged : AreJudged (is_top file) before
    pub gathered : AreGathered file.patterns before

  -- a part is taken
  pub record Takes (old : OpenFile) (p : Part) (new : OpenFile) : Type 0 where
    pub path : new.path ≡ old.path
    pub rule_set : new.rule_set ≡ old.rule_set
    pub rest : left new ≡ left old
    pub adds : Adds files old.path old.rule_set old.progress p new.progress
    pub gathers : Gathers old.patterns p new.patterns

  -- a part is a reference to a file that is to be read first
  pub record Opens (known : Known) (file : OpenFile) (p : Part) (opening : Opening) : Type 0 where
    pub is_reference : p ≡ part.Rule opening.referral.rule
    pub leads : Leads files file.path opening.referral opening.path
    pub is_new : is_among opening.path known.open_paths ≡ false
    pub is_read : IsRead files opening.path opening.written

  abbrev pub TakesOrOpens : Known → OpenFile → Part → OpenFile → Option Opening → Type 0
  TakesOrOpens known old p new None = Takes old p new
  TakesOrOpens known old p new (Some opening) = (new ≡ old) × Opens known old p opening

  abbrev pub IsFaultOf : Known → OpenFile → Part → RuleFault → Type 0
  IsFaultOf known file p fault = PartFault files (is_top file) known.open_paths file.path file.rule_set file.progress p fault

  -- Where a file stands: it is the top ruleset, or a file below refers to it, whose reference waits.
  pub data IsChain (top : Text) : List Waiting → List Text → Text → Bool → Type 0 where
    alone : {below : List Waiting} {open_ : List Text} {path : Text} {of_top : Bool} → below ≡ [] → open_ ≡ top ∷ [] → path ≡ top → of_top ≡ true → IsChain top below open_ path of_top
    behind : {below : List Waiting} {open_ : List Text} {path : Text} {of_top : Bool} (further : List Waiting) (waiting : Waiting) (before : List Text) →
        below ≡ further ++ waiting ∷ [] → open_ ≡ before ++ path ∷ [] → IsChain top further before waiting.file.path (is_top waiting.file) →
        IsOpen waiting.file (part.Rule waiting.referral.rule ∷ left waiting.file) → Leads files waiting.file.path waiting.referral path → is_among path before ≡ false →
        of_top ≡ false → IsChain top below open_ path of_top

  -- a part of a file is being taken
  pub record IsTaking (top : Text) (known : Known) (below : List Waiting) (file : OpenFile) (p : Part) : Type 0 where
    pub known_files : AreKnown files known
    pub chain : IsChain top below known.open_paths file.path (is_top file)
    pub current : IsOpen file (p ∷ left file)

  -- a file is read to its end
  pub record IsDone (top : Text) (known : Known) (below : List Waiting) (file : OpenFile) : Type 0 where
    pub known_files : AreKnown files known
    pub chain : IsChain top below known.open_paths file.path (is_top file)
    pub whole : IsOpen file []

  pub record IsStack (top : Text) (known : Known) (stack : Stack) : Type 0 where
    pub known_files : AreKnown files known
    pub chain : IsChain top stack.below known.open_paths stack.current.path (is_top stack.current)
    pub current : IsOpen stack.current (left stack.current)

  -- the top ruleset is read to its end
  pub record IsEnded (top : Text) (file : OpenFile) : Type 0 where
    pub path : file.path ≡ top
    pub of_top : is_top file ≡ true
    pub whole : IsOpen file []

  abbrev pub GoesOn : Text → Known → Next → Type 0
  GoesOn top known (next.Goes stack) = IsStack top known stack
  GoesOn top known (next.Ends file) = AreRead files known.read × IsEnded top file

  abbrev pub IsFaultOfTop : Text → RuleFault → Type 0
  IsFaultOfTop top fault = FileFaults files true (top ∷ []) top fault

abbrev pub top_rules : Top → TopRules
top_rules top = record { list = top.list; exclude = top.patterns.exclude; include = top.patterns.include }

-- What is made over the cache that was found.
use Rattle.std.proofs.Common.{◌≡◌, ◌∙◌, ℕ, Bool, ◌||◌, List, [], ◌∷◌, map, Option, None, Some, IfSome, Result, Ok, Err, IfOk, OnOk, inl, inr, ap, sym, subst, refl}
use Rattle.std.specs.Cmp.Lexicographic.{nat_list_cmp_total, slice_cmp}
use Rattle.std.specs.FinSet as name_sets
use Rattle.std.specs.FinSet.{contains-empty, contains-union}
use Rattle.std.specs.List.{All, AllZip}
use Rattle.std.specs.Ordering.{nat_cmp}
use Rattle.std.proofs.lemmas.List.Elements.{All-head, All-nil, All-weaker}
use Rattle.pj_cache.specs.declared.cache.Cache.{Cache}
use Rattle.pj_cache_laws.specs.Reported.{report_of, rules_of}
use Rattle.pj_cache_laws.specs.Written.{AreFiles, AreWrittenRules, WrittenRule}
use Rattle.pj_cached_files.specs.LeftFile.{IsRun, StandsIn}
use Rattle.pj_cached_files.specs.LeftFiles.{HasClassesByName, LeavesAll, Lists, LooksAtAll}
use Rattle.pj_cached_files.specs.declared.files.LeftFiles.{LeftFiles}
use Rattle.pj_fitting.specs.Fits.{CacheFits, IsFound, empty}
use Rattle.pj_fitting.specs.Left.{IsLeftCache}
use Rattle.pj_fitting.specs.Right as right
use Rattle.pj_names.proofs.NameLists.{same_names}
use Rattle.pj_names.specs.ClassName.{NameSet}
use Rattle.pj_names.specs.Told.{Told}
use Rattle.pj_names.specs.declared.oracle.AskFault.{AskFault}
use Rattle.pj_names.specs.declared.rule_row.ConfigError.{ConfigError}
use Rattle.pj_outside.specs.Files.{Bytes, Files}
use Rattle.pj_reports.specs.declared.report.Report.{Report}
use Rattle.pj_rule_keys.specs.Keys.{FitsKey, HasRoom}
use Rattle.pj_rule_sets.specs.Rules.{EffectiveRule, EffectiveRules}
use Rattle.pj_table.specs.ClassWorld.{folders_world}
use Rattle.pj_table.specs.Telling.{tells_of}
use Rattle.pj_workers.specs.Cold.{IsCold, World}
use Rattle.pj_workers.specs.FileMeaning.{Replies}
use Rattle.pj_workers.specs.JavaReplies.{java_replies}
use Rattle.pj_workers.specs.Rules.{AreRulesOf, IsRuleOf, Rule}
use Rattle.pj_cold.specs.Cold.{IsColdOf}
use Rattle.pj_cold.specs.Finds.{CountsNames}
use Rattle.pj_cold.proofs.Gathering.{rows_are}
use Rattle.pj_check.specs.Caching.{IsDoneOver, IsFitting, IsLeftOver, WorkSeen}
use Rattle.pj_check.specs.Steps.{AreDoneFiles, IsLeftFiles}

-- ---- laws of the layers below

-- there are files as they are
abbrev pub FilesLaw : Type 0
FilesLaw = (replies : Replies) → (files : right.Files WrittenRule) × AreFiles replies files

-- rules of a set are written, where keys have room for them
abbrev pub WrittenLaw : Type 0
WrittenLaw = (set : EffectiveRules) (meant : List Rule) → AreRulesOf set meant → HasRoom set.marker → All FitsKey set.rules → (held : List WrittenRule) × AreWrittenRules set meant held

-- the report that a cache makes which a run leaves is the cold one
abbrev pub ColdLaw : Type 0
ColdLaw = (replies : Replies) (files : right.Files WrittenRule) → AreFiles replies files → (world : World) (content : Option (List ℕ)) (found : Cache) (held : List WrittenRule) (unusable : List ConfigError) (list : Files) (c : Cache)
    → CacheFits files content → IsFound content found → IsLeftCache files world found held list c → IsCold replies world list (rules_of held) unusable (report_of files held unusable list c)

-- class folders have each class under its name
abbrev pub NamedLaw : Type 0
NamedLaw = (folders : List Files) → HasClassesByName (folders_world folders).answer

-- ---- what fits is right

right_by : (files : right.Files WrittenRule) (content : Option Bytes) (found : Cache) → IsFound content found → CacheFits files content → right.IsRightCache files found
right_by files None found is fits = subst (λ (c : Cache). right.IsRightCache files c) (sym is) (All-nil (right.IsRightEntry files empty.answers))
right_by files (Some bytes) found (inl readable) fits = fits found readable
right_by files (Some bytes) found (inr none) fits = subst (λ (c : Cache). right.IsRightCache files c) (sym none.1) (All-nil (right.IsRightEntry files empty.answers))

pub right_of : (found : Cache) → IsFitting found → (files : right.Files WrittenRule) → AreFiles java_replies files → right.IsRightCache files found
right_of found fitting files are = right_by files fitting.content found fitting.is_found (fitting.fits files are)

-- ---- rules

held_by : (set : EffectiveRules) (rules : List EffectiveRule) (meant : List Rule) → set.rules ≡ rules → AllZip (IsRuleOf set.marker) rules meant → All (λ (rule : EffectiveRule). HasRoom set.marker × FitsKey rule) rules → WrittenLaw
    → (held : List WrittenRule) × AreWrittenRules set meant held
held_by set [] [] is are room law = ([], record { rules = refl; effective = sym is; marker = All-nil (λ (w : WrittenRule). w.marker ≡ set.marker) })
held_by set [] (m ∷ ms) is are room law = absurd are
held_by set (r ∷ rs) meant is are room law =
    law set meant (subst (λ (rules : List EffectiveRule). AllZip (IsRuleOf set.marker) rules meant) (sym is) are) (All-head (λ (rule : EffectiveRule). HasRoom set.marker × FitsKey rule) r rs room).0
    (subst (λ (rules : List EffectiveRule). All FitsKey rules) (sym is) (All-weaker (λ (rule : EffectiveRule). HasRoom set.marker × FitsKey rule) FitsKey (λ rule h. h.1) (r ∷ rs) room))

pub held_of : (set : EffectiveRules) (meant : List Rule) → AreRulesOf set meant → All (λ (rule : EffectiveRule). HasRoom set.marker × FitsKey rule) set.rules → WrittenLaw → (held : List WrittenRule) × AreWrittenRules set meant held
held_of set meant are room law = held_by set set.rules meant refl are room law

-- ---- over a door

-- over a door that tells its folders, what is left of files is what is left in their world
pub left_over_door : {K : Type 0} (folders : Option (List Files)) (kept : K) (asked : NameSet) (faults : ℕ) (t : Told K) (set : EffectiveRules) (found : Cache) (sources : Files) (r : Result LeftFiles AskFault)
    → NamedLaw → t ≡ tells_of kept folders asked faults → IfOk r (LeavesAll t set found sources)
    → IfSome folders (λ held. IfOk r (IsLeftFiles (folders_world held).answer set found sources))
left_over_door None kept asked faults t set found sources r named tells leaves = tt
left_over_door (Some folders) kept asked faults t set found sources (Err fault) named tells leaves = tt
left_over_door {K} (Some folders) kept asked faults t set found sources (Ok left) named tells leaves =
    λ files rules held are written is_right.
    let is : IsRun t set found files (folders_world folders).answer rules held = record {
      files_are = are;
      rules_are = written;
      is_told = λ i. (tells i).is_told;
      one_world = λ depth far. (λ i. ((tells i).world depth).answer);
      right = is_right;
    } in leaves files (folders_world folders).answer rules held is (named folders)

-- ---- the report

same_report : (a b : Report) → a.rules ≡ b.rules → a.files ≡ b.files → a.errors ≡ b.errors → a ≡ b
same_report a b rules files errors = λ i. record { rules = rules i; files = files i; errors = errors i }

-- what is made of what is left is the cold report
pub over_cache : (set : EffectiveRules) (found : Cache) (world : World) (sources : Files) (left : LeftFiles) (report : Report) (meant : List Rule) (held : List WrittenRule) (files : right.Files WrittenRule)
    → AreRulesOf set meant → AreWrittenRules set meant held → AreFiles java_replies files → ColdLaw → IsLeftFiles world set found sources left
    → report.rules ≡ map (λ (rule : EffectiveRule). rule.row) set.rules → report.files ≡ left.rows → report.errors ≡ set.unusable → IsFitting found
    → IsColdOf world sources set report × IsLeftOver found world sources set left.cache
over_cache set found world sources left report meant held files are written of_files law leaves rules_are files_are errors_are fitting =
    let leaving = leaves files meant held of_files written (right_of found fitting files of_files) in
    let cold = law java_replies files of_files world fitting.content found held set.unusable sources left.cache (fitting.fits files of_files) fitting.is_found leaving.cache in
    let rows : report.rules ≡ map (λ (rule : Rule). rule.source.texts.row) (rules_of held) =
    rules_are ∙ rows_are set.marker set.rules meant are ∙ ap (map (λ (rule : Rule). rule.source.texts.row)) (sym written.rules) in
    let same : report ≡ report_of files held set.unusable sources left.cache = same_report report (report_of files held set.unusable sources left.cache) rows (files_are ∙ leaving.rows) errors_are in (
      record {
        rules = meant;
        are_rules = are;
        cold = subst (λ (rules : List Rule). IsCold java_replies world sources rules set.unusable report) written.rules
            (subst (λ (r : Report). IsCold java_replies world sources (rules_of held) set.unusable r) (sym same) cold);
      },
      record {
        meant = meant;
        held = held;
        written = written;
        is_left = λ fs are_fs. (leaves fs meant held are_fs written (right_of found fitting fs are_fs)).cache;
      },
    )

-- so it is over a door
pub over_door : (folders : Option (List Files)) (set : EffectiveRules) (found : Cache) (sources listed : Files) (left : LeftFiles) (report : Report) (meant : List Rule) (held : List WrittenRule) (files : right.Files WrittenRule)
    → listed ≡ sources → AreRulesOf set meant → AreWrittenRules set meant held → AreFiles java_replies files → ColdLaw → IfSome folders (λ held. IsLeftFiles (folders_world held).answer set found listed left)
    → report.rules ≡ map (λ (rule : EffectiveRule). rule.row) set.rules → report.files ≡ left.rows → report.errors ≡ set.unusable
    → IfSome folders (λ held. IsFitting found → IsColdOf (folders_world held).answer sources set report × IsLeftOver found (folders_world held).answer sources set left.cache)
over_door None set found sources listed left report meant held files same are written of_files law leaves rules_are files_are errors_are = tt
over_door (Some folders) set found sources listed left report meant held files same are written of_files law leaves rules_are files_are errors_are = λ fitting.
    over_cache set found (folders_world folders).answer sources left report meant held files are written of_files law
    (subst (λ (list : Files). IsLeftFiles (folders_world folders).answer set found list left) same leaves) rules_are files_are errors_are fitting

-- ---- what was done

none_besides : (names : NameSet) → name_sets.union name_sets.empty names ≡ names
none_besides names = same_names (name_sets.union name_sets.empty names) names (λ q.
    contains-union nat_list_cmp_total name_sets.empty names q ∙ ap (λ (b : Bool). b || name_sets.contains names q) (contains-empty (slice_cmp nat_cmp) q))

-- over a door that tells its folders, what was done with files is what is done in their world, and just the names that are asked for there were looked for
pub done_over_door : {K : Type 0} (folders : Option (List Files)) (kept : K) (faults : ℕ) (t : Told K) (asked : NameSet) (set : EffectiveRules) (found : Cache) (sources : Files) (before after : WorkSeen) (r : Result LeftFiles AskFault)
    → t ≡ tells_of kept folders name_sets.empty faults → OnOk r (Lists t set found sources before.work after.work) → IfOk r (λ left. LooksAtAll t asked set found sources) → CountsNames before.finds after.finds asked
    → IfSome folders (λ held. OnOk r (AreDoneFiles (folders_world held).answer set found sources before after))
done_over_door None kept faults t asked set found sources before after r tells does looks counts = tt
done_over_door (Some folders) kept faults t asked set found sources before after (Err fault) tells does looks counts = tt
done_over_door {K} (Some folders) kept faults t asked set found sources before after (Ok left) tells does looks counts =
    λ files rules held are written.
    let world = (folders_world folders).answer in
    let stands : StandsIn t set files world rules held = record {
      files_are = are;
      rules_are = written;
      is_told = λ i. (tells i).is_told;
      one_world = λ depth far. (λ i. ((tells i).world depth).answer);
    } in
    let looked = looks files world rules held stands (λ depth far name. (λ i. ((tells i).world depth).needs name)) in
    let same : asked ≡ looked.0 = looked.2 ∙ ap (λ (names : NameSet). name_sets.union names looked.0) (λ i. (tells i).asked) ∙ none_besides looked.0 in (
      does files world rules held stands,
      record { names = looked.0; looked = looked.1; counts = subst (λ (names : NameSet). CountsNames before.finds after.finds names) same counts },
    )

-- so it is noted of the sources, by rules as they are written
pub done_at_door : (folders : Option (List Files)) (set : EffectiveRules) (found : Cache) (sources listed : Files) (before after : WorkSeen) (meant : List Rule) (held : List WrittenRule) → listed ≡ sources → AreWrittenRules set meant held
    → IfSome folders (λ held. AreDoneFiles (folders_world held).answer set found listed before after) → IfSome folders (λ held. IsDoneOver found (folders_world held).answer sources set before after)
done_at_door None set found sources listed before after meant held same written done = tt
done_at_door (Some folders) set found sources listed before after meant held same written done =
    let here : AreDoneFiles (folders_world folders).answer set found sources before after = subst (λ (list : Files). AreDoneFiles (folders_world folders).answer set found list before after) same done in record {
      meant = meant;
      held = held;
      written = written;
      is_done = λ files are. (here files meant held are written).0;
      looked = λ files are. (here files meant held are written).1;
    }

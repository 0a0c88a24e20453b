-- There are files with all written rules, and what a run leaves of them gives the cold report.
use Rattle.std.proofs.Common.{◌≡◌, ℕ, List, [], ◌∷◌, map, Result, Ok, Err, Option, refl, sym, ap, subst, ◌∙◌}
use Rattle.std.specs.List.{All, AllByRecursion, AllZip}
use Rattle.std.proofs.lemmas.List.Elements.{All-from_recursion, recursion_from_All}
use Rattle.pj_cache.specs.declared.cache.Cache.{Cache}
use Rattle.pj_cache.specs.declared.cache.Entry.{Entry}
use Rattle.pj_findings.specs.Merged.{merge}
use Rattle.pj_fitting.specs.Fits.{CacheFits, IsFound}
use Rattle.pj_fitting.specs.Left.{File, IsLeftCache, IsLeftEntry, rows_at}
use Rattle.pj_fitting.specs.Right.{Files, IsRightCache, rules_at}
use Rattle.pj_fitting.proofs.Fits.{found_right}
use Rattle.pj_fitting.proofs.Merged.{Comes, merged_said}
use Rattle.pj_names.specs.Asking.{Asking, Return, bind, each}
use Rattle.pj_names.specs.ClassName.{Name}
use Rattle.pj_names.specs.Meaning.{whole}
use Rattle.pj_names.specs.declared.answer.Answer.{Answer}
use Rattle.pj_names.specs.declared.rule_row.ConfigError.{ConfigError}
use Rattle.pj_parse.specs.FileOutcome.{outcome_of}
use Rattle.pj_parse.specs.JavaFile.{JavaFile}
use Rattle.pj_parse.specs.declared.file_fault.FileFault.{FileFault}
use Rattle.pj_reports.specs.declared.rows.FileRows.{FileRows}
use Rattle.pj_reports.specs.declared.ruled.Head.TheVariants.{Message}
use Rattle.pj_rule_keys.specs.Keys.{FitsKey, HasRoom, IsSameRule, key_of}
use Rattle.pj_rule_sets.specs.Rules.{EffectiveRule, EffectiveRules}
use Rattle.pj_rule_texts.specs.Values.{Text}
use Rattle.pj_workers.specs.Cold.{AreRowsOf, IsCold}
use Rattle.pj_outside.specs.Files.{Bytes}
use Rattle.pj_workers.specs.FileMeaning.{Replies, file_meaning, head_of, nothing, rule_at, rule_meaning}
use Rattle.pj_workers.specs.Laws.{InactiveIsNothing, RulesAreTexts}
use Rattle.pj_workers.specs.Rules.{AreRulesOf, IsRuleOf, Rule, is_active, source_of}
use Rattle.pj_cache_laws.specs.Reported.{all_rows, report_of, rows_of, rules_of}
use Rattle.pj_cache_laws.specs.Written.{AreFiles, AreWrittenRules, WrittenRule}

-- keys tell rules
abbrev pub KeysTell : Type 0
KeysTell = (marker other : Text) (first second : EffectiveRule) → HasRoom marker → HasRoom other → FitsKey first → FitsKey second → key_of marker first ≡ key_of other second → (marker ≡ other) × IsSameRule first second

same_source : (marker other : Text) (a b : EffectiveRule) → marker ≡ other → IsSameRule a b → source_of marker a ≡ source_of other b
same_source marker other a b m s = λ i. record { texts = record { row = s.row i; xpath = s.xpath i; properties = s.properties i }; exclude = s.exclude i; include = s.include i; marker = m i }

-- rules of one key have one meaning
pub one_meaning : KeysTell → RulesAreTexts → (replies : Replies) (path bytes : Bytes) (a b : WrittenRule) → key_of a.marker a.effective ≡ key_of b.marker b.effective → rule_meaning replies path bytes a.rule ≡ rule_meaning replies path bytes b.rule
one_meaning tell same replies path bytes a b e =
    let told = tell a.marker b.marker a.effective b.effective a.marker_room b.marker_room a.fits b.fits e in
    same replies path bytes a.rule b.rule (a.is.source ∙ same_source a.marker b.marker a.effective b.effective told.0 told.1 ∙ sym b.is.source) a.is.spelled b.is.spelled

no_tree : (replies : Replies) (path message : Bytes) (rule : Rule) (o : Result JavaFile FileFault) → head_of o ≡ Message message → rule_at replies path o rule ≡ nothing
no_tree replies path message rule (Ok file) e = absurd cc
no_tree replies path message rule (Err fault) e = refl

-- there are such files
files_with : KeysTell → RulesAreTexts → InactiveIsNothing → Replies → Files WrittenRule
files_with tell same idle replies = record {
  head = λ bytes. head_of (outcome_of bytes);
  key = λ w. key_of w.marker w.effective;
  is_active = λ path w. is_active w.rule.source path;
  meaning = λ path bytes w. rule_meaning replies path bytes w.rule;
  one_meaning = λ path bytes a b e. one_meaning tell same replies path bytes a b e;
  inactive_is_nothing = λ path bytes a e. idle replies path bytes a.rule e;
  no_tree_is_nothing = λ path bytes message a e. no_tree replies path message a.rule (outcome_of bytes) e;
}

pub some_files : KeysTell → RulesAreTexts → InactiveIsNothing → (replies : Replies) → (files : Files WrittenRule) × AreFiles replies files
unfolding files_with
some_files tell same idle replies = (
  files_with tell same idle replies,
  record { head = λ bytes. refl; key = λ w. refl; active = λ path w. refl; meaning = λ path bytes w. refl },
)

-- ---- the rules of a set

record Of (marker : Text) (effective : List EffectiveRule) (meant : List Rule) : Type 0 where
  held : List WrittenRule
  rules : map (λ (w : WrittenRule). w.rule) held ≡ meant
  effective_are : map (λ (w : WrittenRule). w.effective) held ≡ effective
  markers : AllByRecursion (λ (w : WrittenRule). w.marker ≡ marker) held

written_of : (marker : Text) (effective : List EffectiveRule) (meant : List Rule) → AllZip (IsRuleOf marker) effective meant → HasRoom marker → AllByRecursion FitsKey effective → Of marker effective meant
written_of marker [] [] are room fits = record { held = []; rules = refl; effective_are = refl; markers = tt }
written_of marker [] (r ∷ rs) are room fits = absurd are
written_of marker (e ∷ es) [] are room fits = absurd are
written_of marker (e ∷ es) (r ∷ rs) are room fits =
    let rest = written_of marker es rs are.1 room fits.1 in
    let one : WrittenRule = record { marker = marker; effective = e; rule = r; is = are.0; marker_room = room; fits = fits.0 } in
    record {
      held = one ∷ rest.held;
      rules = ap (λ (l : List Rule). r ∷ l) rest.rules;
      effective_are = ap (λ (l : List EffectiveRule). e ∷ l) rest.effective_are;
      markers = (refl, rest.markers);
    }

-- the rules of a set whose texts have room are written rules
pub set_written : (set : EffectiveRules) (meant : List Rule) → AreRulesOf set meant → HasRoom set.marker → All FitsKey set.rules → (held : List WrittenRule) × AreWrittenRules set meant held
set_written set meant are room fits =
    let all = written_of set.marker set.rules meant are room (recursion_from_All FitsKey set.rules fits) in (
      all.held,
      record { rules = all.rules; effective = all.effective_are; marker = All-from_recursion (λ (w : WrittenRule). w.marker ≡ set.marker) all.held all.markers },
    )

-- ---- reports

module _ (replies : Replies) (files : Files WrittenRule) (are : AreFiles replies files) where
  same_each : (path bytes : Bytes) (held : List WrittenRule) → each (files.meaning path bytes) held ≡ each (rule_at replies path (outcome_of bytes)) (rules_of held)
  same_each path bytes [] = refl
  same_each path bytes (w ∷ ws) = λ i. bind (are.meaning path bytes w i) (λ value. bind (same_each path bytes ws i) (λ values. Return (value ∷ values)))

  same_file : (path bytes : Bytes) (held : List WrittenRule) → bind (each (files.meaning path bytes) held) (λ results. Return (merge (files.head bytes) results)) ≡ file_meaning replies path bytes (rules_of held)
  same_file path bytes held = λ i. bind (same_each path bytes held i) (λ results. Return (merge (are.head bytes i) results))

  module _ (world : Name → Answer) (found : Cache) (held : List WrittenRule) (right : IsRightCache files found) where
    rows_cold : (file : File) (e : Entry) → IsLeftEntry files world found held file e → AreRowsOf replies world (rules_of held) file (rows_of files held file e)
    rows_cold file e left =
        let said = merged_said files world found held file e merge right left in
        let rows : FileRows = merge e.head (map (rows_at (rules_at files file.0 file.1) e.results) held) in
        let cold = subst (λ (m : Asking FileRows). Comes (whole world) m rows) (same_file file.0 file.1 held) said in
        record { path = left.path; names = cold.0; comes = cold.1 }

    all_cold : (list : List File) (es : List Entry) → AllZip (IsLeftEntry files world found held) list es → AllZip (AreRowsOf replies world (rules_of held)) list (all_rows files held list es)
    all_cold [] [] left = tt
    all_cold [] (e ∷ es) left = absurd left
    all_cold (file ∷ rest) [] left = absurd left
    all_cold (file ∷ rest) (e ∷ es) left = (rows_cold file e left.0, all_cold rest es left.1)

  -- what a run leaves makes the cold report
  pub report_cold : (world : Name → Answer) (content : Option (List ℕ)) (found : Cache) (held : List WrittenRule) (unusable : List ConfigError) (list : List File) (c : Cache) → CacheFits files content → IsFound content found → IsLeftCache files world found held list c
      → IsCold replies world list (rules_of held) unusable (report_of files held unusable list c)
  report_cold world content found held unusable list c fits is left = record {
    rules_are = refl;
    files_are = all_cold world found held (found_right files content found fits is) list c.entries left.entries;
    errors_are = refl;
  }

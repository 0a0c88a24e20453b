-- What words ask for: first the line, as `clap` takes it, then the values of the options, in the order of the options.
use Rattle.std.specs.Prelude.{◌≡◌, ⊤, Bool, false, List, [], ◌∷◌, Option, Result, Ok, Err, codes, unwrap_or}
use Rattle.std.specs.Prelude.{if◌then◌else◌}
use Rattle.std.specs.Str.{bytes_eq}
use Rattle.clap.specs.Words.{Kinds, Row, Text, fault_of, first_of, matches_of}
use Rattle.pj_settings.specs.Options.{check_app}
use Rattle.pj_settings.specs.Values.{classes_value, format_value, list_value, marker_value, number_value, version_value}
use Rattle.pj_settings.specs.declared.settings.Settings.{Settings}
use Rattle.pj_settings.specs.declared.usage.UsageFault.{UsageFault}
use Rattle.pj_settings.specs.declared.usage.UsageFault.TheVariants as usage
use Rattle.pj_settings.specs.declared.usage.UsageRefused.{UsageRefused}
use Rattle.pj_settings.specs.declared.usage.UsageRefused.TheVariants as refused

-- the value of an option, or its default; `clap` sees to it that the first two are there
pub record Given : Type 0 where
  pub dir : Text
  pub rulesets : Text
  pub format : Text
  pub classes : Option Text
  pub threads : Text
  pub minimum : Text
  pub marker : Text
  pub cache : Option Text
  pub version : Text

abbrev pub value_of : Text → Text → List Row → Text
value_of option default rows = unwrap_or (first_of option rows) default

abbrev pub given_of : List Row → Given
given_of rows = record {
  dir = value_of (codes "dir") [] rows;
  rulesets = value_of (codes "rulesets") [] rows;
  format = value_of (codes "format") (codes "text") rows;
  classes = first_of (codes "aux-classpath") rows;
  threads = value_of (codes "threads") (codes "1") rows;
  minimum = value_of (codes "minimum-priority") (codes "5") rows;
  marker = value_of (codes "suppress-marker") (codes "NOPMD") rows;
  cache = first_of (codes "cache") rows;
  version = value_of (codes "use-version") (codes "java-17") rows;
}

module _ {A B : Type 0} where
  -- the first fault is the answer
  abbrev pub and_then : Result A UsageFault → (A → Result B UsageFault) → Result B UsageFault
  and_then (Ok value) next = next value
  and_then (Err fault) next = Err fault

-- the settings, or the first option whose value is none of its own
abbrev pub settings_of : Given → Result Settings UsageFault
settings_of g =
    and_then (list_value 44 (codes "--dir") g.dir) (λ dirs.
    and_then (list_value 44 (codes "--rulesets") g.rulesets) (λ rulesets.
    and_then (format_value g.format) (λ form.
    and_then (classes_value g.classes) (λ classes.
    and_then (number_value (codes "--threads") 0 64 g.threads) (λ threads.
    and_then (number_value (codes "--minimum-priority") 1 5 g.minimum) (λ minimum.
    and_then (marker_value g.marker) (λ marker.
    and_then (version_value g.version) (λ _.
    Ok (record { dirs = dirs; rulesets = rulesets; format = form; classes = classes; threads = threads; minimum = minimum; marker = marker; cache = g.cache })))))))))

abbrev pub rows_job : List Row → Result Settings UsageFault
rows_job rows = settings_of (given_of rows)

-- the words are refused where `clap` finds a fault in them
abbrev pub line_job : Kinds → List Row → Result Settings UsageFault
line_job [] rows = rows_job rows
line_job (fault ∷ faults) rows = Err usage.Line

abbrev pub is_check : List Text → Bool
is_check [] = false
is_check (word ∷ words) = bytes_eq word (codes "check")

abbrev pub job : List Text → Result Settings UsageFault
job words = if is_check words then line_job (fault_of check_app words) (matches_of check_app words)
    else Err usage.Command

-- ---- what a call gives: the value, or its fault, or it wanted memory

abbrev pub RefusedBy : UsageFault → UsageRefused → Type 0
RefusedBy fault (refused.Fault given) = given ≡ fault
RefusedBy fault refused.Memory = ⊤

module _ {A : Type 0} where
  abbrev pub Gives : Result A UsageRefused → Result A UsageFault → Type 0
  Gives (Ok value) (Ok wanted) = value ≡ wanted
  Gives (Ok value) (Err fault) = ⊥
  Gives (Err refused.Memory) wanted = ⊤
  Gives (Err (refused.Fault given)) (Ok wanted) = ⊥
  Gives (Err (refused.Fault given)) (Err fault) = given ≡ fault

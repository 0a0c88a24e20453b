-- The values of options: what a word means, or that it is none of the option's own.
use Rattle.std.specs.Prelude.{◌==◌, ◌&&◌, ◌||◌, ℕ, Bool, not, List, [], ◌∷◌, ◌++◌, Option, Some, None, Result, Ok, Err, length, codes, nat_le, slice_index}
use Rattle.std.specs.Prelude.{if◌then◌else◌}
use Rattle.std.specs.List.{list_any}
use Rattle.std.specs.Str.{all_ascii_digits, bytes_eq}
use Rattle.std.specs.Str.Parse.{digits_value}
use Rattle.clap.specs.Words.{Text}
use Rattle.pj_settings.specs.declared.settings.Format.{Format}
use Rattle.pj_settings.specs.declared.settings.Format.TheVariants as format
use Rattle.pj_settings.specs.declared.usage.UsageFault.{UsageFault}
use Rattle.pj_settings.specs.declared.usage.UsageFault.TheVariants as usage

-- the value, or the fault of the option's word
abbrev pub or_bad : {A : Type 0} → Text → Text → Option A → Result A UsageFault
or_bad option word None = Err (usage.Value option word)
or_bad option word (Some value) = Ok value

abbrev pub is_empty : Text → Bool
is_empty text = length text == 0

-- the pieces between the bytes `mark`; `held` is the piece so far
abbrev pub cut_onto : ℕ → Text → Text → List Text
cut_onto mark held [] = held ∷ []
cut_onto mark held (byte ∷ bytes) =
    if byte == mark then held ∷ cut_onto mark [] bytes else cut_onto mark (held ++ byte ∷ []) bytes

abbrev pub cut_at : ℕ → Text → List Text
cut_at mark text = cut_onto mark [] text

-- the items of a list, none of which is empty
abbrev pub list_value : ℕ → Text → Text → Result (List Text) UsageFault
list_value mark option word =
    if list_any is_empty (cut_at mark word) then Err (usage.Value option word)
    else Ok (cut_at mark word)

-- the class folders are split at `:`; without the option there are none
abbrev pub classes_value : Option Text → Result (List Text) UsageFault
classes_value None = Ok []
classes_value (Some word) = list_value 58 (codes "--aux-classpath") word

-- a decimal has no sign, and no leading zero but `0` itself
abbrev pub is_decimal : Text → Bool
is_decimal text = all_ascii_digits text
    && (not (is_empty text) && (length text == 1 || not (slice_index text 0 == 48)))

abbrev pub number_between : ℕ → ℕ → Text → Option ℕ
number_between least most text =
    if is_decimal text && (nat_le least (digits_value 10 text) && nat_le (digits_value 10 text) most) then Some (digits_value 10 text)
    else None

abbrev pub number_value : Text → ℕ → ℕ → Text → Result ℕ UsageFault
number_value option least most word = or_bad option word (number_between least most word)

abbrev pub format_named : Text → Option Format
format_named word = if bytes_eq word (codes "text") then Some format.Text
    else (if bytes_eq word (codes "csv") then Some format.Csv
    else (if bytes_eq word (codes "json") then Some format.Json else None))

abbrev pub format_value : Text → Result Format UsageFault
format_value word = or_bad (codes "--format") word (format_named word)

abbrev pub marker_value : Text → Result Text UsageFault
marker_value word = if is_empty word then Err (usage.Value (codes "--suppress-marker") word) else Ok word

-- one version of the language is read
abbrev pub version_value : Text → Result (Unit {0}) UsageFault
version_value word = if bytes_eq word (codes "java-17") then Ok tt else Err (usage.Value (codes "--use-version") word)

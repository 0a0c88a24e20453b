-- How a call and the next one give a job.
use Rattle.std.proofs.Common.{◌≡◌, ◌∙◌, ◌<◌, ◌++◌, ◌^◌, ℕ, None, false, length, not, arith, ◌≢◌, ◌⊎◌, inl, inr, List, [], ◌∷◌, true, ap, refl, sym, Bool, Result, Ok, Err, ◌&&◌}
use Rattle.std.specs.Prelude.{nat_le}
use Rattle.clap.specs.Words.{Kinds, Row, Text, fault_of, matches_of}
use Rattle.clap.proofs.WalkLemmas.{both}
use Rattle.std.proofs.lemmas.Bool.{lt-leb}
use Rattle.std.proofs.lemmas.List.Folds.{list_any-append}
use Rattle.std.specs.List.{list_any}
use Rattle.std.specs.Str.{all_ascii_digits}
use Rattle.std.specs.Str.Parse.{digits_value}
use Rattle.pj_settings.specs.Options.{check_app}
use Rattle.pj_settings.specs.Values.{cut_at, is_decimal, is_empty, list_value, number_between}
use Rattle.pj_settings.specs.Job.{Gives, and_then, is_check, job, line_job, rows_job}
use Rattle.pj_settings.specs.declared.settings.Settings.{Settings}
use Rattle.pj_settings.specs.declared.usage.UsageFault.{UsageFault}
use Rattle.pj_settings.specs.declared.usage.UsageFault.TheVariants as usage
use Rattle.pj_settings.specs.declared.usage.UsageRefused.{UsageRefused}
use Rattle.pj_settings.specs.declared.usage.UsageRefused.TheVariants as refused

module _ {A : Type 0} where
  -- what a call gave is the value
  pub gave : (value : A) (wanted : Result A UsageFault) → Gives (Ok value) wanted → wanted ≡ Ok value
  gave value (Ok other) e = ap (λ (v : A). Ok v) (sym e)
  gave value (Err fault) e = absurd e

module _ {A B : Type 0} where
  -- a call was refused
  pub Gives-stop : (e : UsageRefused) (job : Result A UsageFault) (next : A → Result B UsageFault)
      → Gives {A = A} (Err e) job → Gives {A = B} (Err e) (and_then job next)
  Gives-stop refused.Memory job next h = tt
  Gives-stop (refused.Fault g) (Ok b) next h = absurd h
  Gives-stop (refused.Fault g) (Err f) next h = h

-- a decimal that `parse` refuses is above the most
pub number_between-big : (least most : ℕ) (text : Text) → is_decimal text ≡ true → most < 2 ^ 31
    → ((0 < length text) × (digits_value 10 text < 2 ^ 32) → ⊥) → None ≡ number_between least most text
number_between-big least most text dec small big =
    let split = both (all_ascii_digits text) _ dec in
    let full = both (not (is_empty text)) _ split.1 in
    let long : 0 < length text = go text full.0 in
    let over : most < digits_value 10 text = grind (arith, big, long, small) in
    rw (dec, lt-leb (digits_value 10 text) most over, and-false (nat_le least (digits_value 10 text))) refl
  where
    go : (t : Text) → not (is_empty t) ≡ true → 0 < length t
    go [] h = absurd (cc h)
    go (x ∷ xs) h = omega arith

    and-false : (b : Bool) → (b && false) ≡ false
    and-false true = refl
    and-false false = refl

-- the pieces that were found
pub list_value-is : (mark : ℕ) (option word : Text) (pieces : List Text) → cut_at mark word ≡ pieces → list_any is_empty pieces ≡ false
    → Gives {A = List Text} (Ok pieces) (list_value mark option word)
list_value-is mark option word pieces cut full = rw (cut, full) refl

pub full-push : (pieces : List Text) (piece : Text) → list_any is_empty pieces ≡ false → is_empty piece ≡ false
    → list_any is_empty (pieces ++ piece ∷ []) ≡ false
full-push pieces piece all last = list_any-append is_empty pieces (piece ∷ []) ∙ rw (all, last) refl

-- `clap` refused the words, or wanted memory
pub job-refused : (words : List Text) (e : UsageRefused) → is_check words ≡ true
    → (e ≡ refused.Memory) ⊎ ((e ≡ refused.Fault usage.Line) × (fault_of check_app words ≢ []))
    → Gives {A = Settings} (Err e) (job words)
job-refused words e check (inl h) = rw h tt
job-refused words e check (inr h) = rw (h.0, check) (go (fault_of check_app words) (matches_of check_app words) h.1)
  where
    go : (ks : Kinds) (rows : List Row) → ks ≢ [] → Gives {A = Settings} (Err (refused.Fault usage.Line)) (line_job ks rows)
    go [] rows h = absurd (h refl)
    go (k ∷ ks) rows h = refl

-- `clap` took them
pub job-taken : (words : List Text) (r : Result Settings UsageRefused) → is_check words ≡ true → fault_of check_app words ≡ []
    → Gives r (rows_job (matches_of check_app words)) → Gives r (job words)
job-taken words r check none h = rw (check, none) h

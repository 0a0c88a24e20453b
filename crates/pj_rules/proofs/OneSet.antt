-- The files that are named have one set of rules at most.
use Rattle.std.proofs.Common.{◌≡◌, ◌∙◌, ℕ, Bool, true, false, List, ◌∷◌, refl, sym, ap, ap₂, subst}
use Rattle.std.specs.List.{filter_map}
use Rattle.pj_markup.specs.declared.element.Row.{Row}
use Rattle.pj_markup.specs.Faults.{IsMarkup}
use Rattle.pj_outside.specs.Files.{Files}
use Rattle.pj_rule_texts.specs.Files.{is_there}
use Rattle.pj_rule_sets.specs.Lists.{Taken}
use Rattle.pj_rule_sets.specs.Rules.{EffectiveRules}
use Rattle.pj_rule_texts.specs.Values.{Text}
use Rattle.pj_rule_texts.specs.declared.written.WrittenRuleset.{WrittenRuleset}
use Rattle.pj_rules.specs.Load.{AreTops, IsEffective, IsTop, TopRules, effective, exclude_of, include_of}
use Rattle.pj_rules.specs.declared.progress.Progress.{Progress}
use Rattle.pj_rules.proofs.KnownFiles.{there_read}
use Rattle.pj_rules.proofs.OneList.{one_read, same_up_to}

pub true_false : (b : Bool) → b ≡ true → b ≡ false → ⊥
true_false b t f = let both : true ≡ false = sym t ∙ f in absurd (cc)

abbrev made : List Taken → List Text → List Text → TopRules
made list exclude include = record { list = list; exclude = exclude; include = include }

module _ (files : Files) (one_reading : (text : List ℕ) (rows others : List Row) → IsMarkup text rows → IsMarkup text others → rows ≡ others) where
  one_top : (path : Text) (a b : TopRules) → IsTop files path a → IsTop files path b → a ≡ b
  one_top path a b (IsTop.file {written = written} {progress = progress} read adds judged) (IsTop.file {written = written_too} {progress = progress_too} read_too adds_too judged_too) =
      let w : written ≡ written_too = one_read files one_reading path path written written_too refl read read_too in
      let p = same_up_to files one_reading adds adds_too refl (ap (λ (x : WrittenRuleset). x.rule_set) w) refl (ap (λ (x : WrittenRuleset). x.parts) w) in
      ap₂ (λ (x : Progress) (y : WrittenRuleset). made x.list (filter_map exclude_of y.parts) (filter_map include_of y.parts)) p.0 w
  one_top path a b (IsTop.file {written = written} read adds judged) (IsTop.elsewhere gone elsewhere) = absurd (true_false (is_there files path) (there_read files path written read) gone)
  one_top path a b (IsTop.elsewhere gone elsewhere) (IsTop.file {written = written} read adds judged) = absurd (true_false (is_there files path) (there_read files path written read) gone)
  one_top path a b (IsTop.elsewhere gone elsewhere) (IsTop.elsewhere gone_too elsewhere_too) = refl

  pub same_tops : {paths : List Text} {a : List TopRules} (h : AreTops files paths a) {others : List Text} {b : List TopRules} (k : AreTops files others b) → paths ≡ others → a ≡ b
  same_tops AreTops.none AreTops.none e = refl
  same_tops AreTops.none (AreTops.more is_top rest) e = absurd (cc)
  same_tops (AreTops.more is_top rest) AreTops.none e = absurd (cc)
  same_tops (AreTops.more {path = path} {paths = paths} {top = top} is_top rest) (AreTops.more {path = path_too} {paths = others} {top = top_too} is_top_too rest_too) e =
      let one : path ≡ path_too = cc in
      let more : paths ≡ others = cc in
      ap₂ (λ (x : TopRules) (xs : List TopRules). x ∷ xs) (one_top path_too top top_too (subst (λ x. IsTop files x top) one is_top) is_top_too) (same_tops rest rest_too more)

  pub same_sets : (paths : List Text) (minimum : ℕ) (marker : Text) (a b : EffectiveRules) → IsEffective files paths minimum marker a → IsEffective files paths minimum marker b → a ≡ b
  same_sets paths minimum marker a b h k = h.is ∙ ap (λ (tops : List TopRules). effective minimum marker tops) (same_tops h.are_tops k.are_tops refl) ∙ sym k.is

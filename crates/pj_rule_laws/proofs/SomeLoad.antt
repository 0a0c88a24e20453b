-- The files that are named come to rules, or they have a first fault.
use Rattle.std.proofs.Common.{◌≡◌, ◌⊎◌, inl, inr, Bool, true, false, List, [], ◌∷◌, refl, ap}
use Rattle.pj_outside.specs.Files.{Files}
use Rattle.pj_rule_texts.specs.Files.{is_there}
use Rattle.pj_rule_texts.specs.References.{is_from_elsewhere}
use Rattle.pj_rule_texts.specs.Values.{Text}
use Rattle.pj_rules.specs.Laws.{ReadOrFault}
use Rattle.pj_rules.specs.Load.{AreTops, IsFirstFault, IsTop, IsTopFault, TopRules, effective}
use Rattle.pj_rules.specs.declared.fault.RuleFault.{RuleFault}
use Rattle.pj_rule_laws.specs.Laws.{ReadIsShort, RulesOrFirstFault, SoundOrSomeFault}
use Rattle.pj_rule_laws.proofs.SomeFile.{Outcome, some_outcome}

module _ (read_or_fault : ReadOrFault) (read_short : ReadIsShort) (settled : SoundOrSomeFault) (files : Files) where
  abbrev Top : Text → Type 0
  Top path = ((top : TopRules) × IsTop files path top) ⊎ ((fault : RuleFault) × IsTopFault files path fault)

  top_outcome : (path : Text) → Top path
  top_outcome path = by (is_there files path) refl
    where
      of_file : Outcome files true (path ∷ []) path → Top path
      of_file (inl done) = inl (_, IsTop.file done.read done.added done.judged)
      of_file (inr (fault, is)) = inr (fault, IsTopFault.file is)

      of_nothing : is_there files path ≡ false → (b : Bool) → is_from_elsewhere path ≡ b → Top path
      of_nothing gone true elsewhere = inl (_, IsTop.elsewhere gone elsewhere)
      of_nothing gone false own = inr (_, IsTopFault.missing gone own)

      by : (b : Bool) → is_there files path ≡ b → Top path
      by true there = of_file (some_outcome files read_or_fault read_short settled true (path ∷ []) path there)
      by false gone = of_nothing gone (is_from_elsewhere path) refl

  abbrev Tops : List Text → Type 0
  Tops paths = ((tops : List TopRules) × AreTops files paths tops) ⊎ ((fault : RuleFault) × IsFirstFault files paths fault)

  tops_outcome : (paths : List Text) → Tops paths
  tops_outcome [] = inl ([], AreTops.none)
  tops_outcome (path ∷ paths) = by (top_outcome path) (tops_outcome paths)
    where
      behind : (top : TopRules) → IsTop files path top → Tops paths → Tops (path ∷ paths)
      behind top is (inl (tops, are)) = inl (top ∷ tops, AreTops.more is are)
      behind top is (inr (fault, bad)) = inr (
        fault,
        record {
          before = path ∷ bad.before;
          path = bad.path;
          behind = bad.behind;
          tops = top ∷ bad.tops;
          stands = ap (λ (ps : List Text). path ∷ ps) bad.stands;
          fine = AreTops.more is bad.fine;
          is_fault = bad.is_fault;
        },
      )

      by : Top path → Tops paths → Tops (path ∷ paths)
      by (inl (top, is)) rest = behind top is rest
      by (inr (fault, is)) rest = inr (fault, record { before = []; path = path; behind = paths; tops = []; stands = refl; fine = AreTops.none; is_fault = is })

pub rules_or_first_fault : ReadOrFault → ReadIsShort → SoundOrSomeFault → RulesOrFirstFault
rules_or_first_fault read_or_fault read_short settled files paths minimum marker = elim (tops_outcome read_or_fault read_short settled files paths) [
  | inl (tops, are) ↦ inl (effective minimum marker tops, record { tops = tops; are_tops = are; is = refl })
  | inr (fault, is) ↦ inr (fault, is)
]

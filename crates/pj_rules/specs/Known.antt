-- Which files are known.
use Rattle.std.specs.Prelude.{⊤, ◌≡◌, true, List, [], ◌∷◌}
use Rattle.pj_outside.specs.Files.{Files}
use Rattle.pj_rule_texts.specs.Files.{is_there}
use Rattle.pj_rule_sets.specs.ReadFiles.{Read}
use Rattle.pj_rule_texts.specs.Values.{Text}
use Rattle.pj_rules.specs.Effective.{HasRules}
use Rattle.pj_rule_sets.specs.declared.known.Known.{Known}

module _ (files : Files) where
  -- each has its list
  abbrev pub AreRead : Read → Type 0
  AreRead [] = ⊤
  AreRead (file ∷ read) = HasRules files file.0 file.1 × AreRead read

  abbrev pub AreThere : List Text → Type 0
  AreThere [] = ⊤
  AreThere (path ∷ paths) = (is_there files path ≡ true) × AreThere paths

  -- what is kept of the files that are known is so
  pub record AreKnown (known : Known) : Type 0 where
    pub read : AreRead known.read
    pub there : AreThere known.open_paths

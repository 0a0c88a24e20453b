-- Files that are known.
use Rattle.std.proofs.Common.{◌≡◌, ◌∙◌, Bool, true, false, cond, ◌||◌, List, [], ◌∷◌, ◌++◌, Some, is_some, refl, sym, ap, subst}
use Rattle.std.specs.Cmp.Lexicographic.{same_text}
use Rattle.std.specs.Map.{lookup}
use Rattle.pj_outside.specs.Files.{Files}
use Rattle.pj_rule_texts.specs.Files.{IsRead, is_there}
use Rattle.pj_rule_sets.specs.Lists.{Taken, is_among}
use Rattle.pj_rule_texts.specs.Values.{Text, is_same}
use Rattle.pj_rule_texts.specs.declared.written.WrittenRuleset.{WrittenRuleset}
use Rattle.pj_rules.specs.Effective.{HasRules}
use Rattle.pj_rules.specs.Known.{AreRead, AreThere}
use Rattle.pj_rule_sets.specs.ReadFiles.{Read, list_at, put_list}

pub same_texts : (a b : Text) → is_same a b ≡ true → a ≡ b
same_texts a b e = same_text a b (sym e)

module _ (files : Files) where
  pub there_read : (path : Text) (written : WrittenRuleset) → IsRead files path written → is_there files path ≡ true
  there_read path written read = ap is_some read.held

  pub there_list : (path : Text) (list : List Taken) → HasRules files path list → is_there files path ≡ true
  there_list path list (HasRules.file {written} read adds) = there_read path written read

  -- ---- files that are read

  pub list_found : (read : Read) (path : Text) (list : List Taken) → AreRead files read → list_at read path ≡ Some list → HasRules files path list
  list_found [] path list all e = absurd (cc)
  list_found (file ∷ read) path list all e = at (λ e. list_found read path list all.1 e) (is_same path file.0) refl e
    where
      at : (lookup (is_same path) read ≡ Some list → HasRules files path list) → (b : Bool) → is_same path file.0 ≡ b → cond b (Some file.1) (lookup (is_same path) read) ≡ Some list → HasRules files path list
      at rest true same e =
          let lists : file.1 ≡ list = cc in
          subst (λ p. HasRules files p list) (sym (same_texts path file.0 same)) (subst (HasRules files file.0) lists all.0)
      at rest false other e = rest e

  pub read_put : (read : Read) (path : Text) (list : List Taken) → AreRead files read → HasRules files path list → AreRead files (put_list read path list)
  read_put [] path list all has = (has, tt)
  read_put (file ∷ read) path list all has = at (read_put read path list all.1 has) (is_same path file.0) refl
    where
      at : AreRead files (put_list read path list) → (b : Bool) → is_same path file.0 ≡ b → AreRead files (cond b ((file.0, list) ∷ read) (file ∷ put_list read path list))
      at rest true same = (subst (λ p. HasRules files p list) (same_texts path file.0 same) has, all.1)
      at rest false other = (all.0, rest)

  -- ---- files that are being read

  pub there_among : (paths : List Text) (path : Text) → AreThere files paths → is_among path paths ≡ true → is_there files path ≡ true
  there_among [] path all e = absurd (cc)
  there_among (other ∷ paths) path all e = at (λ e. there_among paths path all.1 e) (is_same path other) refl e
    where
      at : (is_among path paths ≡ true → is_there files path ≡ true) → (b : Bool) → is_same path other ≡ b → (b || is_among path paths) ≡ true → is_there files path ≡ true
      at rest true same e = ap (is_there files) (same_texts path other same) ∙ all.0
      at rest false apart e = rest e

  pub there_more : (paths : List Text) (path : Text) → AreThere files paths → is_there files path ≡ true → AreThere files (paths ++ path ∷ [])
  there_more [] path all there = (there, tt)
  there_more (other ∷ paths) path all there = (all.0, there_more paths path all.1 there)

  pub there_less : (paths : List Text) (path : Text) → AreThere files (paths ++ path ∷ []) → AreThere files paths
  there_less [] path all = tt
  there_less (other ∷ paths) path all = (all.0, there_less paths path all.1)

-- Parts of a file, one more.
use Rattle.std.proofs.Common.{◌≡◌, ◌∙◌, List, [], ◌∷◌, ◌++◌, Option, Some, None, is_some, refl, sym, ap₂, subst, append_assoc, append-nil}
use Rattle.std.specs.List.{AllByRecursion, filter_map, flat_map}
use Rattle.std.specs.Option.{option_to_list}
use Rattle.std.proofs.lemmas.Grind.{flat_map-append}
use Rattle.std.proofs.lemmas.List.Elements.{filter_map-append}
use Rattle.pj_outside.specs.Files.{Files}
use Rattle.pj_rule_texts.specs.Values.{Text}
use Rattle.pj_rule_texts.specs.declared.written.Part.{Part}
use Rattle.pj_rules.specs.Effective.{AddAll, Adds, AreJudged, nothing, path_pattern}
use Rattle.pj_rules.specs.Load.{exclude_of, include_of}
use Rattle.pj_rules.specs.States.{AreGathered, Gathers, IsOpen, Takes}
use Rattle.pj_rules.specs.declared.open_file.OpenFile.{OpenFile}
use Rattle.pj_rule_sets.specs.declared.path_patterns.PathPatterns.{PathPatterns}
use Rattle.pj_rules.specs.declared.progress.Progress.{Progress}

all_more : {A : Type 0} (P : A → Type 0) (xs ys : List A) → AllByRecursion P xs → AllByRecursion P ys → AllByRecursion P (xs ++ ys)
all_more P [] ys all more = more
all_more P (x ∷ xs) ys all more = (all.0, all_more P xs ys all.1 more)

filtered_one : {A B : Type 0} (f : A → Option B) (x : A) → filter_map f (x ∷ []) ≡ option_to_list (f x)
filtered_one {A} {B} f x = at (f x) refl
  where
    at : (o : Option B) → f x ≡ o → filter_map f (x ∷ []) ≡ option_to_list (f x)
    at None e = rw e refl
    at (Some y) e = rw e refl

-- ---- path patterns

pub gathers_top : (old : Option PathPatterns) (p : Part) (new : Option PathPatterns) → Gathers old p new → is_some new ≡ is_some old
gathers_top None p None h = refl
gathers_top None p (Some new) h = absurd h
gathers_top (Some old) p None h = absurd h
gathers_top (Some old) p (Some new) h = refl

judged_more : (old : Option PathPatterns) (p : Part) (new : Option PathPatterns) (before : List Part) → Gathers old p new → AreJudged (is_some old) before →
    AreJudged (is_some new) (before ++ p ∷ [])
judged_more None p None before h judged = tt
judged_more None p (Some new) before h judged = absurd h
judged_more (Some old) p None before h judged = absurd h
judged_more (Some old) p (Some new) before h judged =
    let last : flat_map path_pattern (p ∷ []) ≡ path_pattern p = append-nil (path_pattern p) in
    rw (flat_map-append path_pattern before (p ∷ []), last) (all_more _ (flat_map path_pattern before) (path_pattern p) judged h.0)

gathered_more : (old : Option PathPatterns) (p : Part) (new : Option PathPatterns) (before : List Part) → Gathers old p new → AreGathered old before →
    AreGathered new (before ++ p ∷ [])
gathered_more None p None before h gathered = tt
gathered_more None p (Some new) before h gathered = absurd h
gathered_more (Some old) p None before h gathered = absurd h
gathered_more (Some old) p (Some new) before h gathered = (
  h.1 ∙ ap₂ (λ (a b : List Text). a ++ b) gathered.0 (sym (filtered_one exclude_of p)) ∙ sym (filter_map-append exclude_of before (p ∷ [])),
  h.2 ∙ ap₂ (λ (a b : List Text). a ++ b) gathered.1 (sym (filtered_one include_of p)) ∙ sym (filter_map-append include_of before (p ∷ [])),
)

-- ---- rules

module _ (files : Files) where
  pub add_one : {path rule_set : Text} {before after last : Progress} {parts : List Part} {p : Part} → AddAll files path rule_set before parts after →
      Adds files path rule_set after p last → AddAll files path rule_set before (parts ++ p ∷ []) last
  add_one AddAll.none adds = AddAll.more adds AddAll.none
  add_one (AddAll.more first rest) adds = AddAll.more first (add_one rest adds)

  pub took : (old : OpenFile) (p : Part) (rest : List Part) (new : OpenFile) → IsOpen files old (p ∷ rest) → Takes files old p new → IsOpen files new rest
  took old p rest new is_open takes = record {
    written = is_open.written;
    before = is_open.before ++ p ∷ [];
    is_read = rw takes.path is_open.is_read;
    rule_set = takes.rule_set ∙ is_open.rule_set;
    stands = is_open.stands ∙ sym (append_assoc is_open.before (p ∷ []) rest);
    added = subst (λ path. AddAll files path is_open.written.rule_set nothing (is_open.before ++ p ∷ []) new.progress) (sym takes.path)
        (add_one is_open.added (subst (λ rule_set. Adds files old.path rule_set old.progress p new.progress) is_open.rule_set takes.adds));
    judged = judged_more old.patterns p new.patterns is_open.before takes.gathers is_open.judged;
    gathered = gathered_more old.patterns p new.patterns is_open.before takes.gathers is_open.gathered;
  }

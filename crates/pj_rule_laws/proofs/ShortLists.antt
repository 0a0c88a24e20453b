-- The rules of a list have short texts.
use Rattle.std.proofs.Common.{◌≡◌, Bool, true, false, cond, not, List, [], ◌∷◌, Some, subst}
use Rattle.std.specs.Prelude.{⊤}
use Rattle.pj_rule_sets.specs.Lists.{Taken, is_called, is_excluded, name_of, named, put, put_all, same_origin, without}
use Rattle.pj_rule_sets.specs.declared.entry.Entry.{Entry}
use Rattle.pj_rule_sets.specs.declared.entry.Entry.TheVariants as entry
use Rattle.pj_rule_texts.specs.Values.{Text}
use Rattle.pj_rule_laws.specs.Sizes.{HasShortTexts}

abbrev pub IsShortEntry : Entry → Type 0
IsShortEntry (entry.Rule texts) = HasShortTexts texts
IsShortEntry (entry.Unusable unusable) = ⊤

abbrev pub AreShort : List Taken → Type 0
AreShort [] = ⊤
AreShort (taken ∷ list) = IsShortEntry taken.1 × AreShort list

pub put_short : (list : List Taken) (taken : Taken) → AreShort list → IsShortEntry taken.1 → AreShort (put list taken)
put_short [] taken h s = (s, tt)
put_short (other ∷ rest) taken h s = by (same_origin taken.0 other.0) (put_short rest taken h.1 s)
  where
    by : (b : Bool) → AreShort (put rest taken) → AreShort (cond b ((other.0, taken.1) ∷ rest) (other ∷ put rest taken))
    by true more = (s, h.1)
    by false more = (h.0, more)

pub put_all_short : (list more : List Taken) → AreShort list → AreShort more → AreShort (put_all list more)
put_all_short list [] h k = h
put_all_short list (taken ∷ more) h k = put_all_short (put list taken) more (put_short list taken h k.0) k.1

pub without_short : (excludes : List Text) (list : List Taken) → AreShort list → AreShort (without excludes list)
without_short excludes [] h = tt
without_short excludes (taken ∷ list) h = by (not (is_excluded excludes (name_of taken.1))) (without_short excludes list h.1)
  where
    by : (b : Bool) → AreShort (without excludes list) → AreShort (cond b (taken ∷ without excludes list) (without excludes list))
    by true more = (h.0, more)
    by false more = more

pub named_short : (name : Text) (list : List Taken) (taken : Taken) → AreShort list → named name list ≡ Some taken → IsShortEntry taken.1
named_short name [] taken h e = absurd (cc)
named_short name (first ∷ list) taken h e = by (is_called name (name_of first.1)) (λ f. named_short name list taken h.1 f) e
  where
    same : Some first ≡ Some taken → first ≡ taken
    same f = cc

    by : (b : Bool) → (named name list ≡ Some taken → IsShortEntry taken.1) → cond b (Some first) (named name list) ≡ Some taken → IsShortEntry taken.1
    by true later f = subst (λ (t : Taken). IsShortEntry t.1) (same f) h.0
    by false later f = later f

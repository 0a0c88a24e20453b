-- How many files of a tree are not open.
use Rattle.std.proofs.Common.{◌≡◌, ◌∙◌, ◌||◌, ◌<◌, ◌≤◌, ℕ, suc, Bool, true, false, cond, List, [], ◌∷◌, ◌++◌, Some, is_some, refl, sym, ap, subst, arith}
use Rattle.std.proofs.lemmas.List.Folds.{list_any-append}
use Rattle.std.proofs.lemmas.Slice.Eq.{bytes_eq-Decides}
use Rattle.pj_outside.specs.Files.{Files, bytes_at}
use Rattle.pj_rule_sets.specs.Lists.{is_among}
use Rattle.pj_rule_texts.specs.Files.{is_there}
use Rattle.pj_rule_texts.specs.Values.{Text, is_same}

abbrev pub unopened : Files → List Text → ℕ
unopened [] open_ = 0
unopened (f ∷ fs) open_ = cond (is_among f.0 open_) (unopened fs open_) (suc (unopened fs open_))

-- what is among the texts and one more
among_more : (text : Text) (texts : List Text) (other : Text) → is_among text (texts ++ other ∷ []) ≡ (is_among text texts || (is_same text other || false))
among_more text texts other = list_any-append (is_same text) texts (other ∷ [])

-- with one more open, no more are not
no_more : (open_ : List Text) (other : Text) (fs : Files) → unopened fs (open_ ++ other ∷ []) ≤ unopened fs open_
no_more open_ other [] = omega arith
no_more open_ other (f ∷ fs) =
    let rest = no_more open_ other fs in
    subst (λ b. cond b (unopened fs (open_ ++ other ∷ [])) (suc (unopened fs (open_ ++ other ∷ []))) ≤ unopened (f ∷ fs) open_) (sym (among_more f.0 open_ other))
    (by (is_among f.0 open_) (is_same f.0 other || false) rest)
  where
    by : (a b : Bool) → unopened fs (open_ ++ other ∷ []) ≤ unopened fs open_ →
        cond (a || b) (unopened fs (open_ ++ other ∷ [])) (suc (unopened fs (open_ ++ other ∷ []))) ≤ cond a (unopened fs open_) (suc (unopened fs open_))
    by true b rest = rest
    by false true rest = omega (arith, rest)
    by false false rest = omega (arith, rest)

-- with one more open that is there and was not, fewer are not
pub one_fewer : (open_ : List Text) (other : Text) → is_among other open_ ≡ false → (fs : Files) → is_there fs other ≡ true → unopened fs (open_ ++ other ∷ []) < unopened fs open_
one_fewer open_ other fresh [] there = absurd (cc)
one_fewer open_ other fresh (f ∷ fs) there =
    subst (λ b. cond b (unopened fs (open_ ++ other ∷ [])) (suc (unopened fs (open_ ++ other ∷ []))) < unopened (f ∷ fs) open_) (sym (among_more f.0 open_ other))
    (by (one_fewer open_ other fresh fs) (is_among f.0 open_) (is_same f.0 other) refl refl there)
  where
    -- it stands behind this one
    behind : (a : Bool) → unopened fs (open_ ++ other ∷ []) < unopened fs open_ →
        cond (a || false) (unopened fs (open_ ++ other ∷ [])) (suc (unopened fs (open_ ++ other ∷ []))) < cond a (unopened fs open_) (suc (unopened fs open_))
    behind true rest = rest
    behind false rest = omega (arith, rest)

    by : (is_there fs other ≡ true → unopened fs (open_ ++ other ∷ []) < unopened fs open_) → (a b : Bool) → is_among f.0 open_ ≡ a → is_same f.0 other ≡ b → is_some (cond b (Some f.1) (bytes_at fs other)) ≡ true →
        cond (a || (b || false)) (unopened fs (open_ ++ other ∷ [])) (suc (unopened fs (open_ ++ other ∷ []))) < cond a (unopened fs open_) (suc (unopened fs open_))
    by later true true among same here =
        let name : f.0 ≡ other = (bytes_eq-Decides f.0 other).0 same in
        let both : true ≡ false = sym among ∙ ap (λ (t : Text). is_among t open_) name ∙ fresh in absurd (cc)
    by later false true among same here = let rest = no_more open_ other fs in omega (arith, rest)
    by later a false among same here = behind a (later here)

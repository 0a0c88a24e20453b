-- The longest front of a text without some signs.
use Rattle.std.proofs.Common.{◌≡◌, ◌++◌, ◌<◌, ℕ, Bool, true, false, List, [], ◌∷◌, ap, refl, sym, ◌∙◌, arith, cond, append_assoc, append-nil}
use Rattle.std.specs.Prelude.{◌==◌, Some, None, nat_eq, nat_lt}
use Rattle.std.specs.List.{list_all}
use Rattle.std.proofs.lemmas.Bool.Decides.{nat_tests}
use Rattle.pj_signatures.specs.Names.{is_none_of, dotted}
use Rattle.pj_signatures.specs.Reading.{run, past_run, behind}

-- a front and the rest are the text
pub run_parts : (signs text : List ℕ) → run signs text ++ past_run signs text ≡ text
run_parts signs [] = refl
run_parts signs (b ∷ bs) = parts_of (is_none_of signs b) (run_parts signs bs)
  where
    parts_of : (keeps : Bool) → run signs bs ++ past_run signs bs ≡ bs → cond keeps (b ∷ run signs bs) [] ++ cond keeps (past_run signs bs) (b ∷ bs) ≡ b ∷ bs
    parts_of true h = ap (λ (r : List ℕ). b ∷ r) h
    parts_of false h = refl

-- where all signs are ASCII characters, so is a byte that is one of them
pub stop_is_ascii : (signs : List ℕ) (b : ℕ) → list_all (λ sign. nat_lt sign 128) signs ≡ true → is_none_of signs b ≡ false → b < 128
stop_is_ascii [] b all stop = absurd cc
stop_is_ascii (s ∷ ss) b all stop = grind (arith, nat_tests, stop_is_ascii ss b)

-- a text that is at a solidus, or at its end
abbrev pub at_solidus : List ℕ → Bool
at_solidus [] = true
at_solidus (b ∷ bs) = b == 47

pub solidus_past : (text : List ℕ) → at_solidus (past_run (47 ∷ []) text) ≡ true
solidus_past [] = refl
solidus_past (b ∷ bs) = at (nat_eq 47 b) refl (solidus_past bs)
  where
    at : (test : Bool) → nat_eq 47 b ≡ test → at_solidus (past_run (47 ∷ []) bs) ≡ true → at_solidus (past_run (47 ∷ []) (b ∷ bs)) ≡ true
    at true is h = rw is (grind (arith, nat_tests))
    at false is h = rw is h

pub dotted_parts : (text : List ℕ) → dotted text ≡ run (47 ∷ []) text ++ dotted (past_run (47 ∷ []) text)
dotted_parts [] = refl
dotted_parts (b ∷ bs) = at (nat_eq 47 b) refl (dotted_parts bs)
  where
    at : (test : Bool) → nat_eq 47 b ≡ test → dotted bs ≡ run (47 ∷ []) bs ++ dotted (past_run (47 ∷ []) bs) → dotted (b ∷ bs) ≡ run (47 ∷ []) (b ∷ bs) ++ dotted (past_run (47 ∷ []) (b ∷ bs))
    at true is h = rw is refl
    at false is h = let other : (b == 47) ≡ false = grind (arith, nat_tests) in rw (is, other) (ap (λ (r : List ℕ). b ∷ r) h)

solidus_then : (rest after : List ℕ) → behind 47 rest ≡ Some after → rest ≡ 47 ∷ after
solidus_then [] after e = absurd cc
solidus_then (b ∷ bs) after e = at (b == 47) refl e
  where
    at : (test : Bool) → (b == 47) ≡ test → cond test (Some bs) None ≡ Some after → b ∷ bs ≡ 47 ∷ after
    at true is h = let same : b ≡ 47 = grind (arith, nat_tests) in rw same cc
    at false is h = absurd cc

pub dotted_more : (made rest after text : List ℕ) → behind 47 rest ≡ Some after → made ++ dotted rest ≡ text
    → ((made ++ 46 ∷ []) ++ run (47 ∷ []) after) ++ dotted (past_run (47 ∷ []) after) ≡ text
dotted_more made rest after text found h =
    let e : rest ≡ 47 ∷ after = solidus_then rest after found in
    simp append_assoc (rw (← dotted_parts after) (rw (← h, e) refl))

pub dotted_end : (made rest text : List ℕ) → at_solidus rest ≡ true → behind 47 rest ≡ None → made ++ dotted rest ≡ text → made ≡ text
dotted_end made [] text stops none h = sym (append-nil made) ∙ h
dotted_end made (b ∷ bs) text stops none h = absurd (let no : Some bs ≡ None = rw stops at none in cc)

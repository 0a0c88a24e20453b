-- The grammar is well-formed.
use Rattle.std.proofs.Common.{◌≡◌, ◌<◌, ◌≤◌, ◌^◌, ℕ, zero, suc, Bool, true, false, ◌||◌, ◌==◌, List, [], ◌∷◌, length, refl, arith}
use Rattle.pj_peg_grammar.specs.WellFormed.{IsWellFormed}
use Rattle.pj_peg_grammar.proofs.Decided.{well_formed_by, well_formed_from_test}
use Rattle.pj_lex.specs.Words.{reserved_words}
use Rattle.pj_grammar.specs.Java17.{java_17, rules, java_17_forms}
use Rattle.pj_grammar.proofs.Places.{nullable, places}

abbrev pub is_in : List ℕ → ℕ → Bool
is_in [] r = false
is_in (x ∷ xs) r = (x == r) || is_in xs r

abbrev nth : List ℕ → ℕ → ℕ
nth [] r = 0
nth (x ∷ xs) zero = x
nth (x ∷ xs) (suc r) = nth xs r

test_is : well_formed_by 179 (is_in nullable) (nth places) java_17_forms ≡ true
unfolding java_17 rules java_17_forms reserved_words
test_is = refl

pub rule_count : length java_17_forms ≡ 179
unfolding java_17 rules java_17_forms
rule_count = refl

pub java_17_well_formed : IsWellFormed java_17_forms
java_17_well_formed = well_formed_from_test 179 (is_in nullable) (nth places) java_17_forms rule_count test_is

pub some_rule : 0 < length java_17_forms
some_rule = let n = rule_count in omega arith

pub few_rules : length java_17_forms ≤ 2 ^ 16
few_rules = let n = rule_count in omega arith

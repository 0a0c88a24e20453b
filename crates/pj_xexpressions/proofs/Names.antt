-- Names in tables.
use Rattle.std.proofs.Common.{◌≡◌, ◌∙◌, ℕ, List, [], ◌∷◌, true, false, cond, Option, Some, None, sym, refl, ap, ⊎_elim}
use Rattle.std.proofs.lemmas.Bool.{false≢true, and_parts, cases_Bool, eqb-true}
use Rattle.pj_xexpressions.specs.declared.function.Function.{Function}
use Rattle.pj_xexpressions.specs.declared.pmd_function.PmdFunction.{PmdFunction}
use Rattle.pj_base.specs.WordTable.{value_in}
use Rattle.pj_xexpressions.specs.Names.{functions, pmd_functions, unprefixed, xpath_or_pmd, callee_of}

pub callee_is : (name rest : List ℕ) (function : Option Function) (pmd : Option PmdFunction) → rest ≡ unprefixed name → function ≡ value_in functions rest → pmd ≡ value_in pmd_functions name → xpath_or_pmd function pmd ≡ callee_of name
unfolding callee_of
callee_is name rest function pmd same is others = λ i. xpath_or_pmd ((is ∙ ap (value_in functions) same) i) (others i)

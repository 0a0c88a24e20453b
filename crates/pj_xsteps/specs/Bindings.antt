-- Expressions that bind variables: `for` (XPath 2.0, 3.7), `some` and `every` (3.9), and `let` (XPath 3.1, 3.10).
use Rattle.std.specs.Prelude.{ℕ, List, [], ◌∷◌}
use Rattle.pj_xexpressions.specs.declared.operator.Quantifier.{Quantifier}
use Rattle.pj_xvalue.specs.Boolean.{effective_boolean}
use Rattle.pj_xvalue.specs.Items.{ItemValue}
use Rattle.pj_xsteps.specs.Means.{Means, ◌>>=◌, give, judged, chain, decided, one_boolean}
use Rattle.pj_xsteps.specs.Context.{Context, Variables, Denotation}
use Rattle.pj_xsteps.specs.Turns.{with_all}

-- what an expression denotes where a variable has one item
abbrev pub with_item : List ℕ → Denotation → Context → Variables → ItemValue → Means (List ItemValue)
with_item name d context variables item = d context ((name, item ∷ []) ∷ variables)

-- The sequence of the first variable is evaluated whole, and then the rest for each of its items.
abbrev pub for_in : List (List ℕ × Denotation) → Denotation → Denotation
for_in [] body context variables = body context variables
for_in (first ∷ rest) body context variables =
    first.1 context variables >>= λ items. chain (with_item first.0 (for_in rest body) context variables) with_all items []

-- The same, up to the first item that decides.
abbrev pub quantified : Quantifier → List (List ℕ × Denotation) → Denotation → Denotation
quantified quantifier [] test context variables = test context variables >>= λ value. judged (effective_boolean value) >>= λ truth. give (one_boolean truth)
quantified quantifier (first ∷ rest) test context variables =
    first.1 context variables >>= λ items. decided quantifier (with_item first.0 (quantified quantifier rest test) context variables) items

-- Each variable has its whole sequence.
abbrev pub let_in : List (List ℕ × Denotation) → Denotation → Denotation
let_in [] body context variables = body context variables
let_in (first ∷ rest) body context variables = first.1 context variables >>= λ items. let_in rest body context ((first.0, items) ∷ variables)

-- What holds of each predictive grammar holds of that of expressions.
use Rattle.std.proofs.Common.{◌≡◌, List, subst}
use Rattle.pj_ll.specs.Grammar.{Entry, Grammar, grammar_of}
use Rattle.pj_ll.specs.Predictive.{RuleFacts, IsPredictive}
use Rattle.pj_xgrammar.specs.XPath.{xpath_grammar}

-- the grammar of expressions is that of some productions for which the parser is exact
abbrev pub IsPredictiveXPath : Type 0
IsPredictiveXPath = (facts : List RuleFacts) × ((entries : List Entry) × (grammar_of entries ≡ xpath_grammar) × IsPredictive facts entries)

pub of_xpath : IsPredictiveXPath → (P : Grammar → Type 0) → ((facts : List RuleFacts) (entries : List Entry) → IsPredictive facts entries → P (grammar_of entries)) →
    P xpath_grammar
of_xpath predictive P law =
    let (facts, rest) = predictive in
    let (entries, is, ok) = rest in
    subst P is (law facts entries ok)

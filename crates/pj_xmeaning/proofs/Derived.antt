-- Which tokens a rule derives, by which productions, and which value the code makes of them: rule by rule, where leftmost derivations say the same
-- of a text, or of the beginning of one, production by production.
use Rattle.std.specs.Prelude.{◌≡◌, ℕ, ◌+◌, List, [], ◌∷◌, ◌++◌, Some, slice_get}
use Rattle.pj_ll.specs.declared.grammar.Symbol.{Symbol}
use Rattle.pj_ll.specs.declared.grammar.Symbol.TheVariants as symbol
use Rattle.pj_ll.specs.Grammar.{Line, closes}
use Rattle.pj_xtokens.specs.Tokens.{Lexed}
use Rattle.pj_xgrammar.specs.XPath.{xpath_grammar}
use Rattle.pj_xmeaning.specs.Actions.{action_of}
use Rattle.pj_xmeaning.specs.Parts.{RuleValue}
use Rattle.pj_xmeaning.specs.Reach.{Reach, IsBefore, IsBehindLeftOut, IsCut, Within}
use Rattle.pj_xmeaning.specs.Reads.{IsNumbered}
use Rattle.pj_xmeaning.specs.Values.{made}

mutual
  -- `Derived reach around behind n ts ps v`: where so many things that nest are open, and these tokens stand behind, rule n derives the tokens by
  -- the productions (in the order of a leftmost derivation), and v is the value of the rule. Each of its tokens is within reach.
  pub data Derived (reach : Reach) : ℕ → List Lexed → ℕ → List Lexed → List ℕ → RuleValue → Type 0 where
    -- the rule is replaced by the symbols of one of its productions
    by : {around n : ℕ} {behind ts : List Lexed} {ps qs : List ℕ} {vs : List RuleValue} {v : RuleValue} (p : ℕ) (line : Line) →
        IsBefore reach (ts ++ behind) → slice_get xpath_grammar p ≡ Some line → line.rule ≡ n → Fill reach around behind line.symbols ts qs vs → ps ≡ p ∷ qs →
        v ≡ made (action_of p) (ts ++ behind) vs → Derived reach around behind n ts ps v

  -- `Fill reach around behind ss ts ps vs`: the symbols of a production derive the tokens by the productions, and vs are the values of the rules among
  -- them. What is left out derives its first token, behind which the tokens are cut off.
  pub data Fill (reach : Reach) : ℕ → List Lexed → List Symbol → List Lexed → List ℕ → List RuleValue → Type 0 where
    -- the empty list of symbols derives the empty list of tokens
    none : {around : ℕ} {behind : List Lexed} → Fill reach around behind [] [] [] []
    -- a terminal derives a token within reach that is read as it
    token : {around : ℕ} {behind ts : List Lexed} {ss : List Symbol} {ps : List ℕ} {vs : List RuleValue} (x : Lexed) (t : ℕ) →
        IsNumbered x (ts ++ behind) t → Within reach (around + closes ss) (x ∷ (ts ++ behind)) → Fill reach around behind ss ts ps vs →
        Fill reach around behind (symbol.Terminal t ∷ ss) (x ∷ ts) ps vs
    -- A rule derives the first tokens, and the symbols behind it derive the others. What ends among these symbols is open within the rule.
    rule : {around n : ℕ} {behind ts us all : List Lexed} {ss : List Symbol} {ps qs rs : List ℕ} {v : RuleValue} {vs : List RuleValue} →
        Derived reach (around + closes ss) (us ++ behind) n ts ps v → Fill reach around behind ss us qs vs → all ≡ ts ++ us → rs ≡ ps ++ qs →
        Fill reach around behind (symbol.Rule n ∷ ss) all rs (v ∷ vs)
    -- a construct that is left out begins with the token, behind which the tokens are cut off
    left_out : {around : ℕ} {behind : List Lexed} {ss : List Symbol} (x : Lexed) (t : ℕ) → IsNumbered x behind t → IsBehindLeftOut reach behind →
        Fill reach around behind (symbol.LeftOut t ∷ ss) (x ∷ []) [] []
    -- the end of something that nests takes no token
    close : {around : ℕ} {behind ts : List Lexed} {ss : List Symbol} {ps : List ℕ} {vs : List RuleValue} →
        Fill reach around behind ss ts ps vs → Fill reach around behind (symbol.Close ∷ ss) ts ps vs
    -- where the tokens are cut off, whatever symbols there are derive nothing
    cut : {around : ℕ} {behind : List Lexed} {ss : List Symbol} → IsCut reach behind → Fill reach around behind ss [] [] []

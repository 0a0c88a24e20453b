-- The beginning of a text, up to some tokens that are left: leftmost derivations of it.
use Rattle.std.proofs.Common.{◌≡◌, ℕ, List, [], ◌∷◌, ◌++◌, length, take, refl, sym, ◌∙◌, ap, arith, length-append}
use Rattle.pj_ll.specs.declared.grammar.Symbol.{Symbol}
use Rattle.pj_ll.specs.declared.grammar.Symbol.TheVariants.{Terminal, LeftOut}
use Rattle.pj_ll.specs.Grammar.{closes}
use Rattle.pj_ll.specs.Leads.{Leads}
use Rattle.pj_xtokens.specs.Tokens.{Lexed}
use Rattle.pj_xgrammar.specs.declared.terminal.Behind.TheVariants as b
use Rattle.pj_xgrammar.specs.Terminals.{first_behind, numbers}
use Rattle.pj_xgrammar.specs.XPath.{xpath_grammar}
use Rattle.pj_xmeaning.specs.Reach.{Ending, Outside, UpTo, IsBefore, MayEnd}
use Rattle.pj_xmeaning.proofs.Counts.{number, length_numbers}

-- the first of the symbols takes the last token, where the beginning ends so
pub data Last : Ending → ℕ → List Symbol → Type 0 where
  token : {ending : Ending} {t : ℕ} {after : List Symbol} → MayEnd ending (closes after) → Last ending t (Terminal t ∷ after)
  left_out : {t : ℕ} {after : List Symbol} → Last Outside t (LeftOut t ∷ after)

-- The symbols lead, by these productions, to where the last of the tokens before those that are left is taken; where there is none, no
-- production is used.
pub data Going (ending : Ending) (left : List Lexed) (ss : List Symbol) : List Lexed → List ℕ → Type 0 where
  ended : Going ending left ss [] []
  going : {tokens : List Lexed} {ps : List ℕ} (before : List ℕ) (t : ℕ) (last : List Symbol) →
      numbers (tokens ++ left) ≡ (before ++ t ∷ []) ++ numbers left → Leads xpath_grammar ss before ps last → Last ending t last → Going ending left ss tokens ps

module _ (ending : Ending) (left : List Lexed) where
  -- ---- tokens before those that are left

  pub some_before : (x : Lexed) (xs : List Lexed) → IsBefore (UpTo ending left) (x ∷ (xs ++ left))
  some_before x xs e =
      let sum = length-append (x ∷ xs) left in
      let same = ap length e in
      absurd (omega arith)

  -- there are as many as there are terminals of them
  pub count_before : (xs : List Lexed) (ks : List ℕ) → numbers (xs ++ left) ≡ ks ++ numbers left → length xs ≡ length ks
  count_before xs ks is =
      let all = length_numbers b.End (xs ++ left) in
      let rest = length_numbers b.End left in
      let sum = length-append xs left in
      let other = length-append ks (numbers left) in
      let same = ap length is in
      omega arith

  -- the last terminal is still to come
  pub before_last : (xs : List Lexed) (before : List ℕ) (t : ℕ) → numbers (xs ++ left) ≡ (before ++ t ∷ []) ++ numbers left → IsBefore (UpTo ending left) (xs ++ left)
  before_last [] before t is =
      let count = count_before [] (before ++ t ∷ []) is in
      let sum = length-append before (t ∷ []) in
      absurd (omega arith)
  before_last (x ∷ xs) before t is = some_before x xs

-- their terminals are the first ones of all
first_numbers : (left xs : List Lexed) → numbers (xs ++ left) ≡ take (length xs) (numbers (xs ++ left)) ++ numbers left
first_numbers left [] = refl
first_numbers left (x ∷ xs) = ap (λ l. number x (first_behind b.End (xs ++ left)) ∷ l) (first_numbers left xs)

-- the terminals of the first tokens
pub first_are : (tokens first left : List Lexed) (i : ℕ) → tokens ≡ first ++ left → length first ≡ i → numbers (first ++ left) ≡ take i (numbers tokens) ++ numbers left
first_are tokens first left i are count =
    first_numbers left first ∙ ap (λ n. take n (numbers (first ++ left)) ++ numbers left) count ∙ ap (λ l. take i (numbers l) ++ numbers left) (sym are)

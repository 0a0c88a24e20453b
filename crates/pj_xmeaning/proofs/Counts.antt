-- How many terminals tokens have, and how many things symbols close.
use Rattle.std.proofs.Common.{◌≡◌, ℕ, suc, ◌+◌, ◌<◌, ◌≤◌, List, [], ◌∷◌, ◌++◌, length, refl, ap, subst, arith, Some, slice_get}
use Rattle.std.proofs.lemmas.Option.{slice_get_within}
use Rattle.pj_ll.specs.declared.grammar.Symbol.{Symbol}
use Rattle.pj_ll.specs.declared.grammar.Symbol.TheVariants.{Terminal, Rule, LeftOut, Close}
use Rattle.pj_ll.specs.declared.parser.End.TheVariants.{LeftOut as LeftOutAt}
use Rattle.pj_ll.specs.Grammar.{closes}
use Rattle.pj_ll.specs.Outcome.{IsEnd}
use Rattle.pj_xtokens.specs.Tokens.{Lexed}
use Rattle.pj_xgrammar.specs.declared.terminal.Behind.{Behind}
use Rattle.pj_xgrammar.specs.declared.terminal.Behind.TheVariants as b
use Rattle.pj_xgrammar.specs.Terminals.{terminal_of, terminal_number, numbers, numbers_before}
use Rattle.pj_xgrammar.specs.XPath.{greatest_nesting, xpath_grammar}

-- the number of the terminal that a token is before this
abbrev pub number : Lexed → Behind → ℕ
number x behind = terminal_number (terminal_of x behind)

-- each token has a terminal
pub length_numbers : (end : Behind) (xs : List Lexed) → length (numbers_before end xs) ≡ length xs
length_numbers end [] = refl
length_numbers end (x ∷ xs) = ap suc (length_numbers end xs)

-- a place among the terminals is one among the tokens
pub within_tokens : (tokens : List Lexed) (i : ℕ) → i ≤ length (numbers tokens) → i ≤ length tokens
within_tokens tokens i le = subst (λ n. i ≤ n) (length_numbers b.End tokens) le

-- the place of a terminal is that of a token
pub token_within : (tokens : List Lexed) (i t : ℕ) → slice_get (numbers tokens) i ≡ Some t → i < length tokens
token_within tokens i t at = subst (λ n. i < n) (length_numbers b.End tokens) (slice_get_within (numbers tokens) i t at)

-- the place at which something is left out is one of a token
pub left_out_within : (tokens : List Lexed) (i : ℕ) → IsEnd xpath_grammar (numbers tokens) greatest_nesting (LeftOutAt i) → i ≤ length tokens
left_out_within tokens i it =
    let (t, there, leads) = it.left_out in
    let w = token_within tokens i t there in
    omega (arith, w)

-- symbols behind others close what both close
pub closes-append : (xs ys : List Symbol) → closes (xs ++ ys) ≡ closes xs + closes ys
closes-append [] ys = omega arith
closes-append (Terminal t ∷ xs) ys = closes-append xs ys
closes-append (LeftOut t ∷ xs) ys = closes-append xs ys
closes-append (Rule n ∷ xs) ys = closes-append xs ys
closes-append (Close ∷ xs) ys = let e = closes-append xs ys in omega arith

-- No decimal or double number stands in what begins an expression.
use Rattle.std.proofs.Common.{◌≡◌, ℕ, zero, suc, ◌<◌, ◌⊎◌, inl, inr, ⊎_elim, Bool, true, false, not, List, [], ◌∷◌, ◌++◌, take, Option, Some, None, refl, sym, ap, ◌∙◌, arith}
use Rattle.std.specs.Prelude.{nat_eq, slice_get}
use Rattle.std.specs.List.{list_all}
use Rattle.std.proofs.lemmas.Bool.{and_parts, and_from, eq-eqb, false≢true}
use Rattle.std.proofs.lemmas.List.Folds.{list_all-append}
use Rattle.pj_ll.specs.declared.grammar.Symbol.{Symbol}
use Rattle.pj_ll.specs.declared.grammar.Symbol.TheVariants.{Terminal}
use Rattle.pj_ll.specs.Grammar.{Line}
use Rattle.pj_ll.specs.Leads.{Leads, stay, take_terminal, close, expand}
use Rattle.pj_xtokens.specs.Tokens.{Lexed}
use Rattle.pj_xtokens.specs.declared.token.TokenKind.{TokenKind}
use Rattle.pj_xtokens.specs.declared.token.TokenKind.TheVariants as kinds
use Rattle.pj_xgrammar.specs.declared.terminal.Behind.{Behind}
use Rattle.pj_xgrammar.specs.Terminals.{kind_terminal, terminal_number}
use Rattle.pj_xgrammar.specs.XPath.{xpath, rules, xpath_grammar}
use Rattle.pj_xgrammar.specs.Standing.{is_left_out_kind, is_left_out_token}
use Rattle.pj_xderive.specs.Expressions.{CanGoOn, IsExpression}
use Rattle.pj_xderive.proofs.Outcomes.{read_at}
use Rattle.pj_xderive.proofs.Reading.{number}
use Rattle.pj_xderive.proofs.Standing.{test_at}

-- the symbol is not this terminal
abbrev is_not : ℕ → Symbol → Bool
is_not t (Terminal u) = not (nat_eq u t)
is_not t s = true

abbrev lacks : ℕ → Line → Bool
lacks t line = list_all (is_not t) line.symbols

some_one : {A : Type 0} {x y : A} → Some x ≡ Some y → x ≡ y
some_one e = cc

-- what no production has is never taken
never_taken : (t : ℕ) → list_all (lacks t) xpath_grammar ≡ true → {ss after : List Symbol} {ts ps : List ℕ} → Leads xpath_grammar ss ts ps after →
    list_all (is_not t) ss ≡ true → (i : ℕ) → slice_get ts i ≡ Some t → ⊥
never_taken t all stay h i at = absurd (let z = at in cc)
never_taken t all (take_terminal {ss} u d) h zero at =
    let it : not (nat_eq u t) ≡ false = ap not (eq-eqb u t (some_one at)) in
    false≢true (sym it ∙ (and_parts (not (nat_eq u t)) (list_all (is_not t) ss) h).0)
never_taken t all (take_terminal {ss} u d) h (suc i) at = never_taken t all d (and_parts (not (nat_eq u t)) (list_all (is_not t) ss) h).1 i at
never_taken t all (close d) h i at = never_taken t all d h i at
never_taken t all (expand {ss} n p line there rule d) h i at =
    never_taken t all d (list_all-append (is_not t) line.symbols ss ∙ and_from _ _ (test_at (lacks t) xpath_grammar p line all there) h) i at

no_decimal : list_all (lacks 2) xpath_grammar ≡ true
unfolding xpath rules xpath_grammar
no_decimal = refl

no_double : list_all (lacks 3) xpath_grammar ≡ true
unfolding xpath rules xpath_grammar
no_double = refl

-- the terminals of decimal and double numbers, whatever stands behind them
left_out_terminals : (kind : TokenKind) (text : List ℕ) (behind : Behind) → is_left_out_kind kind ≡ true →
    (terminal_number (kind_terminal kind text behind) ≡ 2) ⊎ (terminal_number (kind_terminal kind text behind) ≡ 3)
left_out_terminals kinds.Decimal text behind is = inl refl
left_out_terminals kinds.Double text behind is = inr refl
left_out_terminals kinds.Name text behind is = absurd (false≢true is)
left_out_terminals kinds.Integer text behind is = absurd (false≢true is)
left_out_terminals kinds.String text behind is = absurd (false≢true is)
left_out_terminals (kinds.Sign s) text behind is = absurd (false≢true is)

pub token_there : (token : Option Lexed) → is_left_out_token token ≡ true → (x : Lexed) × (token ≡ Some x) × (is_left_out_kind x.kind ≡ true)
token_there None is = absurd (false≢true is)
token_there (Some x) is = (x, refl, is)

-- none stands in an expression
pub none_within : (ts : List Lexed) (i : ℕ) → IsExpression ts → is_left_out_token (slice_get ts i) ≡ true → ⊥
none_within ts i (ps, d) is =
    let (x, at, left_out) = token_there (slice_get ts i) is in
    let (behind, there) = read_at ts i x at in
    ⊎_elim
    (λ (two : number x behind ≡ 2). never_taken 2 no_decimal d refl i (there ∙ ap Some two))
    (λ (three : number x behind ≡ 3). never_taken 3 no_double d refl i (there ∙ ap Some three))
    (left_out_terminals x.kind x.text behind left_out)

in_front : (ts more : List Lexed) (j i : ℕ) (x : Lexed) → i < j → slice_get ts i ≡ Some x → slice_get (take j ts ++ more) i ≡ Some x
in_front [] more j i x lt at = absurd (let z = at in cc)
in_front (y ∷ ts) more zero i x lt at = absurd (omega arith)
in_front (y ∷ ts) more (suc j) zero x lt at = at
in_front (y ∷ ts) more (suc j) (suc i) x lt at = in_front ts more j i x (omega arith) at

-- and none in what begins one
pub none_before : (ts : List Lexed) (i j : ℕ) → i < j → CanGoOn (take j ts) → is_left_out_token (slice_get ts i) ≡ true → ⊥
none_before ts i j lt (more, sentence) is =
    let (x, at, left_out) = token_there (slice_get ts i) is in
    none_within (take j ts ++ more) i sentence (ap is_left_out_token (in_front ts more j i x lt at) ∙ left_out)

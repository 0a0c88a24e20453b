-- Tokens that begin an expression, and productions that lead behind their terminals.
use Rattle.std.proofs.Common.{◌≡◌, ℕ, List, [], ◌∷◌, ◌++◌, length, take, refl, sym, ap, subst, ◌∙◌, append_assoc}
use Rattle.std.proofs.Math.Seq.{take-append_seam}
use Rattle.pj_ll.specs.declared.grammar.Symbol.{Symbol}
use Rattle.pj_ll.specs.declared.grammar.Symbol.TheVariants.{Terminal}
use Rattle.pj_ll.specs.Leads as leads
use Rattle.pj_ll.specs.Leads.{Leads, stay, take_terminal, close, expand, at_start, behind, start}
use Rattle.pj_ll.specs.Composing.{behind_leads}
use Rattle.pj_ll.specs.Outcome.{LeadBehind}
use Rattle.pj_xtokens.specs.Tokens.{Lexed}
use Rattle.pj_xgrammar.specs.declared.terminal.Behind as terminal
use Rattle.pj_xgrammar.specs.declared.terminal.Behind.TheVariants as b
use Rattle.pj_xgrammar.specs.Terminals.{first_behind, numbers_before, numbers}
use Rattle.pj_xgrammar.specs.XPath.{xpath_grammar}
use Rattle.pj_xderive.specs.Expressions.{CanGoOn, LeadBehindFirst}
use Rattle.pj_xderive.proofs.Reading.{number, numbers_append}
use Rattle.pj_xderive.proofs.Widening.{reached}
use Rattle.pj_xderive.proofs.Lifting.{Ended, none, last, ended, lifted}
use Rattle.pj_xderive.proofs.Outcomes.{length_numbers}

-- a derivation up to one of its terminals
record UpTo (ss : List Symbol) (before : List ℕ) (t : ℕ) : Type 0 where
  productions : List ℕ
  rest : List Symbol
  leads : Leads xpath_grammar ss before productions (Terminal t ∷ rest)

up_to : {ss after : List Symbol} {ts ps : List ℕ} (before : List ℕ) (t : ℕ) (more : List ℕ) → Leads xpath_grammar ss ts ps after → ts ≡ before ++ t ∷ more → UpTo ss before t
up_to [] t more stay is = absurd (cc)
up_to (u ∷ before) t more stay is = absurd (cc)
up_to [] t more (take_terminal {ss} u d) is =
    let same : u ≡ t = cc in
    record { productions = []; rest = ss; leads = subst (λ k. Leads xpath_grammar (Terminal u ∷ ss) [] [] (Terminal k ∷ ss)) same stay }
up_to (v ∷ before) t more (take_terminal {ss} {ts} u d) is =
    let same : u ≡ v = cc in
    let tail : ts ≡ before ++ t ∷ more = cc in
    let e = up_to before t more d tail in
    record { productions = e.productions; rest = e.rest; leads = subst (λ k. Leads xpath_grammar (Terminal u ∷ ss) (k ∷ before) e.productions (Terminal t ∷ e.rest)) same (take_terminal u e.leads) }
up_to before t more (close d) is =
    let e = up_to before t more d is in
    record { productions = e.productions; rest = e.rest; leads = close e.leads }
up_to before t more (expand n p line at rule d) is =
    let e = up_to before t more d is in
    record { productions = p ∷ e.productions; rest = e.rest; leads = expand n p line at rule e.leads }

-- ---- terminals

-- a list that is not empty has a last member
last_of : (t : ℕ) (ts : List ℕ) → (before : List ℕ) × ((end : ℕ) × (t ∷ ts ≡ before ++ end ∷ []))
last_of t [] = ([], (t, refl))
last_of t (u ∷ us) = let (before, (end, e)) = last_of u us in (t ∷ before, (end, ap (λ l. t ∷ l) e))

-- what begins a sentence has productions that are used up to its last terminal
pub terminals_lead : (ts : List ℕ) → leads.CanGoOn xpath_grammar ts → (productions : List ℕ) × LeadBehind xpath_grammar ts productions
terminals_lead [] goes = ([], (start, at_start))
terminals_lead (x ∷ xs) (more, (ps, derives)) =
    let (before, (t, e)) = last_of x xs in
    let u = up_to before t more derives (ap (λ l. l ++ more) e ∙ append_assoc before (t ∷ []) more) in
    (u.productions, (u.rest, behind before t e u.leads))

-- and what has such productions begins one
pub lead_on : (ts productions : List ℕ) → LeadBehind xpath_grammar ts productions → leads.CanGoOn xpath_grammar ts
lead_on ts productions (ss, way) = reached ts productions ss (behind_leads xpath_grammar way)

-- ---- tokens

-- the terminals of tokens before others are the first of all
first_numbers : (tokens more : List Lexed) → take (length tokens) (numbers (tokens ++ more)) ≡ numbers_before (first_behind b.End more) tokens
first_numbers tokens more =
    let us = numbers_before (first_behind b.End more) tokens in
    ap (take (length tokens)) (numbers_append b.End tokens more)
    ∙ ap (λ n. take n (us ++ numbers more)) (sym (length_numbers (first_behind b.End more) tokens)) ∙ take-append_seam us (numbers more)

-- what is derived of tokens with others behind them leads behind them
behind_tokens : (c : terminal.Behind) (more : List ℕ) {ts ps : List ℕ} {after : List Symbol} → Leads xpath_grammar start ts ps after → {xs : List Lexed} → Ended xs →
    ts ≡ numbers_before c xs ++ more → (productions : List ℕ) × LeadBehind xpath_grammar (numbers_before c xs) productions
behind_tokens c more d none is = ([], (start, at_start))
behind_tokens c more d (last xs x) is =
    let us = numbers_before (first_behind c (x ∷ [])) xs in
    let t = number x c in
    let all : numbers_before c (xs ++ x ∷ []) ≡ us ++ t ∷ [] = numbers_append c xs (x ∷ []) in
    let u = up_to us t more d (is ∙ ap (λ l. l ++ more) all ∙ append_assoc us (t ∷ []) more) in
    (u.productions, (u.rest, behind us t all u.leads))

pub begun_leads : (tokens : List Lexed) → CanGoOn tokens → (more : List Lexed) × ((productions : List ℕ) × LeadBehindFirst (tokens ++ more) (length tokens) productions)
begun_leads tokens (more, (ps, d)) =
    let w = behind_tokens (first_behind b.End more) (numbers more) d (ended tokens) (numbers_append b.End tokens more) in
    (more, (w.0, subst (λ l. LeadBehind xpath_grammar l w.0) (sym (first_numbers tokens more)) w.1))

pub leads_begin : (tokens more : List Lexed) (productions : List ℕ) → LeadBehindFirst (tokens ++ more) (length tokens) productions → CanGoOn tokens
leads_begin tokens more productions (ss, way) =
    let us = numbers_before (first_behind b.End more) tokens in
    let led : Leads xpath_grammar start us productions ss = subst (λ l. Leads xpath_grammar start l productions ss) (first_numbers tokens more) (behind_leads xpath_grammar way) in
    lifted tokens (first_behind b.End more) (reached us productions ss led)

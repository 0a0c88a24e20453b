-- From the terminals of tokens to the tokens.
use Rattle.std.proofs.Common.{◌≡◌, ℕ, List, [], ◌∷◌, ◌++◌, refl, sym, ap, subst, ◌∙◌, append_assoc}
use Rattle.pj_ll.specs.Leads.{Leads, take_terminal, start, IsSentence}
use Rattle.pj_ll.specs.Composing.{join}
use Rattle.pj_xtokens.specs.Tokens.{Lexed}
use Rattle.pj_xgrammar.specs.declared.terminal.Behind.{Behind}
use Rattle.pj_xgrammar.specs.declared.terminal.Behind.TheVariants as b
use Rattle.pj_xgrammar.specs.Terminals.{first_behind, behind_of, numbers_before, numbers}
use Rattle.pj_xgrammar.specs.XPath.{xpath_grammar}
use Rattle.pj_xderive.specs.Expressions.{CanGoOn}
use Rattle.pj_xderive.proofs.Reading.{number, numbers_append, keep, turns}
use Rattle.pj_xderive.proofs.Completing.{completion, ends}
use Rattle.pj_xderive.proofs.Standing.{come, taken}
use Rattle.pj_xderive.proofs.Widening.{widens}

-- the terminals begin a sentence
abbrev pub Goes : List ℕ → Type 0
Goes us = (more : List ℕ) × IsSentence xpath_grammar (us ++ more)

pub goes_before : (us vs : List ℕ) → Goes (us ++ vs) → Goes us
goes_before us vs (more, sentence) = (vs ++ more, subst (IsSentence xpath_grammar) (append_assoc us vs more) sentence)

-- the terminals of tokens in two parts, of which the second has a first token
pub numbers_at : (before : List Lexed) (x : Lexed) (behind : List Lexed) →
    numbers (before ++ x ∷ behind) ≡ numbers_before (behind_of x) before ++ number x (first_behind b.End behind) ∷ numbers behind
numbers_at before x behind = numbers_append b.End before (x ∷ behind)

-- ---- the last token read as before an ordinary name

-- tokens begin an expression, if their terminals so begin one
pub up : (before : List Lexed) (x : Lexed) → Goes (numbers_before (behind_of x) before ++ number x b.Name ∷ []) → CanGoOn (before ++ x ∷ [])
up before x (more, (ps, d)) =
    let us = numbers_before (behind_of x) before in
    let t = number x b.Name in
    let c = come us (subst (λ l. Leads xpath_grammar start l ps []) (append_assoc us (t ∷ []) more) d) in
    let w = taken t c.from c.good in
    let e = ends w.rest w.clean in
    let tokens = completion w.rest in
    let d' : Leads xpath_grammar start (us ++ t ∷ numbers tokens) (c.before ++ (w.before ++ e.productions)) [] =
    join xpath_grammar (t ∷ numbers tokens) (w.before ++ e.productions) [] c.to
    (join xpath_grammar (t ∷ numbers tokens) e.productions [] w.to (take_terminal t e.leads)) in
    let read : number x (first_behind b.End tokens) ≡ t = keep x (first_behind b.End tokens) w.fits in
    let is : numbers ((before ++ x ∷ []) ++ tokens) ≡ us ++ t ∷ numbers tokens =
    ap numbers (append_assoc before (x ∷ []) tokens) ∙ numbers_at before x tokens ∙ ap (λ k. us ++ k ∷ numbers tokens) read in
    (tokens, (c.before ++ (w.before ++ e.productions), subst (λ l. Leads xpath_grammar start l (c.before ++ (w.before ++ e.productions)) []) (sym is) d'))

-- and only then
pub down : (before : List Lexed) (x : Lexed) → CanGoOn (before ++ x ∷ []) → Goes (numbers_before (behind_of x) before ++ number x b.Name ∷ [])
down before x (more, sentence) =
    let us = numbers_before (behind_of x) before in
    let c = first_behind b.End more in
    let is : numbers ((before ++ x ∷ []) ++ more) ≡ (us ++ number x c ∷ []) ++ numbers more =
    ap numbers (append_assoc before (x ∷ []) more) ∙ numbers_at before x more ∙ sym (append_assoc us (number x c ∷ []) (numbers more)) in
    widens (number x c) (number x b.Name) us (turns x c) (numbers more, subst (IsSentence xpath_grammar) is sentence)

-- ---- all beginnings

-- a list is empty, or has a last element
pub data Ended : List Lexed → Type 0 where
  none : Ended []
  last : (xs : List Lexed) (x : Lexed) → Ended (xs ++ x ∷ [])

pub ended : (xs : List Lexed) → Ended xs
ended [] = none
ended (x ∷ xs) = behind_one (ended xs)
  where
    behind_one : {ys : List Lexed} → Ended ys → Ended (x ∷ ys)
    behind_one none = last [] x
    behind_one (last zs z) = last (x ∷ zs) z

-- no tokens begin an expression
nothing_goes : CanGoOn []
nothing_goes = let e = ends start refl in (completion start, (e.productions, e.leads))

-- tokens begin an expression, if their terminals before anything begin one
pub lifted : (before : List Lexed) (end : Behind) → Goes (numbers_before end before) → CanGoOn before
lifted before end go = of_ended (ended before) go
  where
    of_ended : {xs : List Lexed} → Ended xs → Goes (numbers_before end xs) → CanGoOn xs
    of_ended none h = nothing_goes
    of_ended (last xs x) h =
        up xs x (widens (number x end) (number x b.Name) (numbers_before (behind_of x) xs) (turns x end) (subst Goes (numbers_append end xs (x ∷ [])) h))

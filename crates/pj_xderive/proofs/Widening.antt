-- What a token is before an ordinary name can stand wherever it can stand as anything else.
use Rattle.std.proofs.Common.{◌≡◌, ℕ, ⊎_elim, Bool, true, false, ◌||◌, not, List, [], ◌∷◌, ◌++◌, refl, sym, ap, subst, ◌∙◌, append_assoc}
use Rattle.std.specs.Prelude.{nat_eq}
use Rattle.std.specs.List.{list_all}
use Rattle.std.proofs.lemmas.Bool.{and_parts, and_from, eqb-true, eq-eqb, cases_Bool}
use Rattle.std.proofs.lemmas.List.{append-nil}
use Rattle.std.proofs.lemmas.List.Folds.{list_all-append}
use Rattle.pj_ll.specs.declared.grammar.Symbol.{Symbol}
use Rattle.pj_ll.specs.declared.grammar.Symbol.TheVariants.{Terminal, Rule, LeftOut, Close}
use Rattle.pj_ll.specs.Grammar.{Line}
use Rattle.pj_ll.specs.Leads.{Leads, stay, take_terminal, close, expand, start, CanGoOn}
use Rattle.pj_ll.specs.Composing.{join, frame, and_take}
use Rattle.pj_xgrammar.specs.declared.word.Phrase.{Phrase}
use Rattle.pj_xgrammar.specs.declared.word.Phrase.TheVariants as p
use Rattle.pj_xgrammar.specs.declared.terminal.Behind.TheVariants as b
use Rattle.pj_xgrammar.specs.declared.terminal.Terminal.TheVariants as terminal
use Rattle.pj_xgrammar.specs.Terminals.{numbers_before, terminal_number}
use Rattle.pj_xgrammar.specs.XPath.{xpath, rules, xpath_grammar}
use Rattle.pj_xderive.proofs.Reading.{Turns, same, slash, phrase}
use Rattle.pj_xderive.proofs.Completing.{completion, is_clean, ends}
use Rattle.pj_xderive.proofs.Standing.{Good, good_expanded, good_rest, clean_append, test_at, come}

-- what is still to come, once the terminals are taken, can be derived
finished : (us ps : List ℕ) (rest : List Symbol) → Leads xpath_grammar start us ps rest → list_all is_clean rest ≡ true → CanGoOn xpath_grammar us
finished us ps rest d clean =
    let e = ends rest clean in
    (numbers_before b.End (completion rest), (ps ++ e.productions, join xpath_grammar (numbers_before b.End (completion rest)) e.productions [] d e.leads))

-- terminals to which a derivation comes can go on
pub reached : (us ps : List ℕ) (after : List Symbol) → Leads xpath_grammar start us ps after → CanGoOn xpath_grammar us
reached us ps after d =
    let c = come us (subst (λ l. Leads xpath_grammar start l ps after) (sym (append-nil us)) d) in
    finished us c.before c.rest c.to c.clean

-- ---- routes

-- the rule comes to the terminal
record Route (n t : ℕ) : Type 0 where
  productions : List ℕ
  rest : List Symbol
  leads : Leads xpath_grammar (Rule n ∷ []) [] productions (Terminal t ∷ rest)
  clean : list_all is_clean rest ≡ true

-- the symbols begin with the terminal
begins : ℕ → List Symbol → Bool
begins a [] = false
begins a (Terminal t ∷ ss) = nat_eq t a
begins a (Rule n ∷ ss) = false
begins a (LeftOut t ∷ ss) = false
begins a (Close ∷ ss) = false

-- only productions of the rule begin with the terminal
abbrev begins_alone : ℕ → ℕ → Line → Bool
begins_alone a n line = not (begins a line.symbols) || nat_eq line.rule n

-- symbols that come to the terminal
record Reaches (ss : List Symbol) (t : ℕ) : Type 0 where
  productions : List ℕ
  rest : List Symbol
  leads : Leads xpath_grammar ss [] productions (Terminal t ∷ rest)
  clean : list_all is_clean rest ≡ true

no_first : (a : ℕ) (ss : List Symbol) → is_clean (Terminal a) ≡ false → list_all is_clean ss ≡ true → begins a ss ≡ false
unfolding begins
no_first a [] other clean = refl
no_first a (Terminal t ∷ ss) other clean = ⊎_elim
    (λ (e : nat_eq t a ≡ true). absurd (let z : is_clean (Terminal t) ≡ false = subst (λ k. is_clean (Terminal k) ≡ false) (sym (eqb-true t a e)) other in
    let y : is_clean (Terminal t) ≡ true = (and_parts (is_clean (Terminal t)) (list_all is_clean ss) clean).0 in cc))
    (λ (e : nat_eq t a ≡ false). e) (cases_Bool (nat_eq t a))
no_first a (Rule n ∷ ss) other clean = refl
no_first a (LeftOut t ∷ ss) other clean = refl
no_first a (Close ∷ ss) other clean = refl

first_of_expanded : (a : ℕ) (xs ss : List Symbol) → is_clean (Terminal a) ≡ false → begins a xs ≡ false → list_all is_clean ss ≡ true → begins a (xs ++ ss) ≡ false
unfolding begins
first_of_expanded a [] ss other absent clean = no_first a ss other clean
first_of_expanded a (Terminal t ∷ xs) ss other absent clean = absent
first_of_expanded a (Rule n ∷ xs) ss other absent clean = refl
first_of_expanded a (LeftOut t ∷ xs) ss other absent clean = refl
first_of_expanded a (Close ∷ xs) ss other absent clean = refl

module _ (a t n : ℕ) (other : is_clean (Terminal a) ≡ false) (route : Route n t) (alone : list_all (begins_alone a n) xpath_grammar ≡ true) where
  rule_is : (b : Bool) → (not true || b) ≡ true → b ≡ true
  rule_is true h = refl
  rule_is false h = absurd (let z = h in cc)

  by_route : (m : ℕ) (ss : List Symbol) → m ≡ n → list_all is_clean ss ≡ true → Reaches (Rule m ∷ ss) t
  by_route m ss is clean = record {
    productions = route.productions;
    rest = route.rest ++ ss;
    leads = subst (λ k. Leads xpath_grammar (Rule k ∷ ss) [] route.productions (Terminal t ∷ (route.rest ++ ss))) (sym is) (frame xpath_grammar ss route.leads);
    clean = clean_append route.rest ss route.clean clean;
  }

  reaches : {ss after : List Symbol} {ts ps : List ℕ} → Leads xpath_grammar ss (a ∷ ts) ps after → Good ss → begins a ss ≡ false → Reaches ss t
  unfolding begins
  reaches (take_terminal u d) good absent = absurd (let z = eq-eqb a a refl in cc)
  reaches (close {ss} d) good absent =
      let r = reaches d (good_rest Close ss good) (no_first a ss other good.clean) in
      record { productions = r.productions; rest = r.rest; leads = close r.leads; clean = r.clean }
  reaches (expand {ss} m p line at rule d) good absent =
      of_first (λ first. reaches d (good_expanded m p line ss at good) first) (begins a line.symbols) refl
    where
      of_first : (begins a (line.symbols ++ ss) ≡ false → Reaches (line.symbols ++ ss) t) → (b : Bool) → begins a line.symbols ≡ b → Reaches (Rule m ∷ ss) t
      of_first further true e =
          let h = test_at (begins_alone a n) xpath_grammar p line alone at in
          let is = eqb-true line.rule n (rule_is (nat_eq line.rule n) (subst (λ b. (not b || nat_eq line.rule n) ≡ true) e h)) in
          by_route m ss (sym rule ∙ is) good.clean
      of_first further false e =
          let r = further (first_of_expanded a line.symbols ss other e good.clean) in
          record { productions = p ∷ r.productions; rest = r.rest; leads = expand m p line at rule r.leads; clean = r.clean }

  widened : (us : List ℕ) → CanGoOn xpath_grammar (us ++ a ∷ []) → CanGoOn xpath_grammar (us ++ t ∷ [])
  widened us (more, (ps, d)) =
      let c = come us (subst (λ l. Leads xpath_grammar start l ps []) (append_assoc us (a ∷ []) more) d) in
      let r = reaches c.from c.good (no_first a c.rest other c.clean) in
      finished (us ++ t ∷ []) (c.before ++ r.productions) r.rest
      (join xpath_grammar (t ∷ []) r.productions r.rest c.to (and_take xpath_grammar t r.leads)) r.clean

-- ---- the routes that there are

abbrev line_of : ℕ → List Symbol → Line
line_of rule symbols = record { rule = rule; symbols = symbols }

-- an expression without a comma (rule 2) can begin with a name (terminal 0)
to_name_leads : Leads xpath_grammar (Rule 2 ∷ []) [] (8 ∷ 22 ∷ 25 ∷ 28 ∷ 36 ∷ 39 ∷ 42 ∷ 46 ∷ 51 ∷ 55 ∷ 61 ∷ 62 ∷ 65 ∷ 88 ∷ 89 ∷ 101 ∷ 137 ∷ []) (Terminal 0 ∷ Rule 42 ∷ Rule 39 ∷ Rule 36 ∷ Rule 34 ∷ Rule 31 ∷ Rule 29 ∷ Rule 27 ∷ Rule 25 ∷ Rule 23 ∷ Rule 21 ∷ Rule 19 ∷ Rule 17 ∷ Rule 15 ∷ [])
unfolding xpath rules xpath_grammar
to_name_leads =
    expand 2 8 (line_of 2 (Rule 14 ∷ [])) refl refl (
    expand 14 22 (line_of 14 (Rule 16 ∷ Rule 15 ∷ [])) refl refl (
    expand 16 25 (line_of 16 (Rule 18 ∷ Rule 17 ∷ [])) refl refl (
    expand 18 28 (line_of 18 (Rule 20 ∷ Rule 19 ∷ [])) refl refl (
    expand 20 36 (line_of 20 (Rule 22 ∷ Rule 21 ∷ [])) refl refl (
    expand 22 39 (line_of 22 (Rule 24 ∷ Rule 23 ∷ [])) refl refl (
    expand 24 42 (line_of 24 (Rule 26 ∷ Rule 25 ∷ [])) refl refl (
    expand 26 46 (line_of 26 (Rule 28 ∷ Rule 27 ∷ [])) refl refl (
    expand 28 51 (line_of 28 (Rule 30 ∷ Rule 29 ∷ [])) refl refl (
    expand 30 55 (line_of 30 (Rule 32 ∷ Rule 31 ∷ [])) refl refl (
    expand 32 61 (line_of 32 (Rule 33 ∷ [])) refl refl (
    expand 33 62 (line_of 33 (Rule 35 ∷ Rule 34 ∷ [])) refl refl (
    expand 35 65 (line_of 35 (Rule 37 ∷ Rule 36 ∷ [])) refl refl (
    expand 37 88 (line_of 37 (Rule 38 ∷ [])) refl refl (
    expand 38 89 (line_of 38 (Rule 40 ∷ Rule 39 ∷ [])) refl refl (
    expand 40 101 (line_of 40 (Rule 51 ∷ Rule 42 ∷ [])) refl refl (
    expand 51 137 (line_of 51 (Terminal 0 ∷ [])) refl refl (
    stay)))))))))))))))))

to_name : Route 2 0
to_name = record { productions = 8 ∷ 22 ∷ 25 ∷ 28 ∷ 36 ∷ 39 ∷ 42 ∷ 46 ∷ 51 ∷ 55 ∷ 61 ∷ 62 ∷ 65 ∷ 88 ∷ 89 ∷ 101 ∷ 137 ∷ []; rest = Rule 42 ∷ Rule 39 ∷ Rule 36 ∷ Rule 34 ∷ Rule 31 ∷ Rule 29 ∷ Rule 27 ∷ Rule 25 ∷ Rule 23 ∷ Rule 21 ∷ Rule 19 ∷ Rule 17 ∷ Rule 15 ∷ []; leads = to_name_leads; clean = refl }

-- a path (rule 37) can begin with a slash (terminal 15)
to_slash_leads : Leads xpath_grammar (Rule 37 ∷ []) [] (86 ∷ []) (Terminal 15 ∷ Rule 38 ∷ [])
unfolding xpath rules xpath_grammar
to_slash_leads =
    expand 37 86 (line_of 37 (Terminal 15 ∷ Rule 38 ∷ [])) refl refl (
    stay)

to_slash : Route 37 15
to_slash = record { productions = 86 ∷ []; rest = Rule 38 ∷ []; leads = to_slash_leads; clean = refl }

-- a lone slash (terminal 5) begins paths alone
slash_alone : list_all (begins_alone 5 37) xpath_grammar ≡ true
unfolding xpath rules xpath_grammar begins
slash_alone = refl

-- a phrase begins expressions without a comma alone, if anything
phrase_alone : (q : Phrase) → list_all (begins_alone (terminal_number (terminal.Phrase q)) 2) xpath_grammar ≡ true
unfolding xpath rules xpath_grammar begins
phrase_alone p.Array = refl
phrase_alone p.CastableAs = refl
phrase_alone p.CastAs = refl
phrase_alone p.Every = refl
phrase_alone p.For = refl
phrase_alone p.Function = refl
phrase_alone p.If = refl
phrase_alone p.InstanceOf = refl
phrase_alone p.Let = refl
phrase_alone p.Map = refl
phrase_alone p.Some = refl
phrase_alone p.TreatAs = refl

phrase_other : (q : Phrase) → is_clean (Terminal (terminal_number (terminal.Phrase q))) ≡ false
phrase_other p.Array = refl
phrase_other p.CastableAs = refl
phrase_other p.CastAs = refl
phrase_other p.Every = refl
phrase_other p.For = refl
phrase_other p.Function = refl
phrase_other p.If = refl
phrase_other p.InstanceOf = refl
phrase_other p.Let = refl
phrase_other p.Map = refl
phrase_other p.Some = refl
phrase_other p.TreatAs = refl

-- where the first terminal can follow, the second one can
pub widens : (a t : ℕ) (us : List ℕ) → Turns a t → CanGoOn xpath_grammar (us ++ a ∷ []) → CanGoOn xpath_grammar (us ++ t ∷ [])
widens a t us (same k) go = go
widens a t us slash go = widened 5 15 37 refl to_slash slash_alone us go
widens a t us (phrase q) go = widened (terminal_number (terminal.Phrase q)) 0 2 (phrase_other q) to_name (phrase_alone q) us go

-- ---- a name and a `/` begin nothing that is left out

abbrev not_left_out : ℕ → Symbol → Bool
not_left_out t (LeftOut u) = not (nat_eq u t)
not_left_out t s = true

abbrev leaves_in : ℕ → Line → Bool
leaves_in t line = list_all (not_left_out t) line.symbols

left_in : (t : ℕ) → list_all (leaves_in t) xpath_grammar ≡ true → {ss behind : List Symbol} {ts ps : List ℕ} → Leads xpath_grammar ss ts ps (LeftOut t ∷ behind) →
    list_all (not_left_out t) ss ≡ true → ⊥
left_in t all {behind = behind} stay h =
    let z : not (nat_eq t t) ≡ true = (and_parts (not (nat_eq t t)) (list_all (not_left_out t) behind) h).0 in
    let y : not (nat_eq t t) ≡ false = ap not (eq-eqb t t refl) in
    cc
left_in t all (take_terminal u d) h = left_in t all d h
left_in t all (close d) h = left_in t all d h
left_in t all (expand {ss} n p line at rule d) h =
    left_in t all d (list_all-append (not_left_out t) line.symbols ss ∙ and_from _ _ (test_at (leaves_in t) xpath_grammar p line all at) h)

name_left_in : list_all (leaves_in 0) xpath_grammar ≡ true
unfolding xpath rules xpath_grammar
name_left_in = refl

slash_left_in : list_all (leaves_in 15) xpath_grammar ≡ true
unfolding xpath rules xpath_grammar
slash_left_in = refl

-- what is left out behind these is the terminal that the token itself is
pub left_out_same : (a t : ℕ) {us ps : List ℕ} {behind : List Symbol} → Turns a t → Leads xpath_grammar start us ps (LeftOut t ∷ behind) → a ≡ t
left_out_same a t (same k) d = refl
left_out_same a t slash d = absurd (left_in 15 slash_left_in d refl)
left_out_same a t (phrase q) d = absurd (left_in 0 name_left_in d refl)

-- What is still to come behind the terminals of the beginning of a derivation.
use Rattle.std.proofs.Common.{◌≡◌, ℕ, zero, suc, ◌⊎◌, inl, inr, Bool, true, false, ◌&&◌, not, cond, List, [], ◌∷◌, ◌++◌, Some, refl, sym, ap, subst, ◌∙◌, append_assoc}
use Rattle.std.specs.Prelude.{nat_eq, slice_get}
use Rattle.std.specs.List.{list_all}
use Rattle.std.proofs.lemmas.Bool.{and_parts, and_from, cases_Bool}
use Rattle.std.proofs.lemmas.List.Folds.{list_all-append}
use Rattle.pj_ll.specs.declared.grammar.Symbol.{Symbol}
use Rattle.pj_ll.specs.declared.grammar.Symbol.TheVariants.{Terminal, Rule, LeftOut, Close}
use Rattle.pj_ll.specs.Grammar.{Line}
use Rattle.pj_ll.specs.Leads.{Leads, stay, take_terminal, close, expand, start}
use Rattle.pj_ll.specs.Composing.{join}
use Rattle.pj_xtokens.specs.Tokens.{Lexed}
use Rattle.pj_xgrammar.specs.declared.terminal.Behind.{Behind}
use Rattle.pj_xgrammar.specs.declared.terminal.Behind.TheVariants as b
use Rattle.pj_xgrammar.specs.Terminals.{first_behind, behind_of, begins_step}
use Rattle.pj_xgrammar.specs.XPath.{xpath, rules, xpath_grammar}
use Rattle.pj_xderive.proofs.Endings.{endings}
use Rattle.pj_xderive.proofs.Reading.{is_calm, keeps}
use Rattle.pj_xderive.proofs.Completing.{completion, is_clean, token_of, tokens_of}

-- ---- tests of lists

pub test_at : {A : Type 0} (p : A → Bool) (xs : List A) (i : ℕ) (x : A) → list_all p xs ≡ true → slice_get xs i ≡ Some x → p x ≡ true
test_at p [] i x all at = absurd (let z = at in cc)
test_at p (y ∷ xs) zero x all at =
    let this : p y ≡ true = (and_parts (p y) (list_all p xs) all).0 in
    let is : y ≡ x = cc in
    subst (λ z. p z ≡ true) is this
test_at p (y ∷ xs) (suc i) x all at = test_at p xs i x (and_parts _ _ all).1 at

-- all but the first
abbrev pub behind_first : List Symbol → List Symbol
behind_first [] = []
behind_first (s ∷ ss) = ss

clean_behind : (ss : List Symbol) → list_all is_clean ss ≡ true → list_all is_clean (behind_first ss) ≡ true
clean_behind [] h = refl
clean_behind (s ∷ ss) h = (and_parts _ _ h).1

pub clean_append : (xs ys : List Symbol) → list_all is_clean xs ≡ true → list_all is_clean ys ≡ true → list_all is_clean (xs ++ ys) ≡ true
clean_append xs ys h k = list_all-append is_clean xs ys ∙ and_from _ _ h k

-- ---- what stands behind a symbol, when the rest is completed

-- this can stand behind the symbol, so that the token before is what it is before an ordinary name
abbrev fits : Symbol → Behind → Bool
fits (Terminal t) behind = keeps t behind
fits (Rule n) behind = is_calm behind
fits (LeftOut t) behind = true
fits Close behind = true

abbrev tidy : List Symbol → Bool
tidy [] = true
tidy (s ∷ ss) = fits s (first_behind b.End (completion ss)) && tidy ss

-- the same within a production, behind which something calm stands
abbrev fits_any : Symbol → Bool
fits_any (Terminal t) = not (nat_eq t 15)
fits_any s = true

abbrev fits_within : Symbol → List Lexed → Bool
fits_within s [] = fits_any s
fits_within s (x ∷ xs) = fits s (behind_of x)

abbrev tidy_within : List Symbol → Bool
tidy_within [] = true
tidy_within (s ∷ ss) = fits_within s (completion ss) && tidy_within ss

completion_append : (xs ys : List Symbol) → completion (xs ++ ys) ≡ completion xs ++ completion ys
completion_append [] ys = refl
completion_append (Terminal t ∷ xs) ys = ap (λ l. token_of t ∷ l) (completion_append xs ys)
completion_append (Rule n ∷ xs) ys = ap (λ l. tokens_of n ++ l) (completion_append xs ys) ∙ sym (append_assoc (tokens_of n) (completion xs) (completion ys))
completion_append (LeftOut t ∷ xs) ys = completion_append xs ys
completion_append (Close ∷ xs) ys = completion_append xs ys

keeps_any : (t : ℕ) (behind : Behind) → not (nat_eq t 15) ≡ true → is_calm behind ≡ true → keeps t behind ≡ true
keeps_any t behind other calm = of_name (cases_Bool (nat_eq t 0))
  where
    of_slash : (nat_eq t 15 ≡ true) ⊎ (nat_eq t 15 ≡ false) → cond (nat_eq t 15) (begins_step behind) true ≡ true
    of_slash (inl e) = absurd (let z : not (nat_eq t 15) ≡ false = ap not e in cc)
    of_slash (inr e) = ap (λ b. cond b (begins_step behind) true) e

    of_name : (nat_eq t 0 ≡ true) ⊎ (nat_eq t 0 ≡ false) → keeps t behind ≡ true
    of_name (inl e) = ap (λ b. cond b (is_calm behind) (cond (nat_eq t 15) (begins_step behind) true)) e ∙ calm
    of_name (inr e) = ap (λ b. cond b (is_calm behind) (cond (nat_eq t 15) (begins_step behind) true)) e ∙ of_slash (cases_Bool (nat_eq t 15))

fits_calm : (s : Symbol) (behind : Behind) → fits_any s ≡ true → is_calm behind ≡ true → fits s behind ≡ true
fits_calm (Terminal t) behind other calm = keeps_any t behind other calm
fits_calm (Rule n) behind other calm = calm
fits_calm (LeftOut t) behind other calm = refl
fits_calm Close behind other calm = refl

fits_before : (s : Symbol) (xs ys : List Lexed) → fits_within s xs ≡ true → is_calm (first_behind b.End ys) ≡ true → fits s (first_behind b.End (xs ++ ys)) ≡ true
fits_before s [] ys h calm = fits_calm s (first_behind b.End ys) h calm
fits_before s (x ∷ xs) ys h calm = h

tidy_append : (xs ys : List Symbol) → tidy_within xs ≡ true → is_calm (first_behind b.End (completion ys)) ≡ true → tidy ys ≡ true → tidy (xs ++ ys) ≡ true
tidy_append [] ys h calm more = more
tidy_append (s ∷ xs) ys h calm more =
    let (this, rest) = and_parts _ _ h in
    let here = fits_before s (completion xs) (completion ys) this calm in
    and_from _ _ (subst (λ l. fits s (first_behind b.End l) ≡ true) (sym (completion_append xs ys)) here) (tidy_append xs ys rest calm more)

-- ---- productions

-- all but the first symbol can stand directly behind a token, and behind each something fits
abbrev is_orderly : Line → Bool
is_orderly line = list_all is_clean (behind_first line.symbols) && tidy_within line.symbols

all_orderly : list_all is_orderly xpath_grammar ≡ true
unfolding xpath rules xpath_grammar endings
all_orderly = refl

-- what is still to come
pub record Good (ss : List Symbol) : Type 0 where
  pub clean : list_all is_clean (behind_first ss) ≡ true
  pub tidy : tidy ss ≡ true

pub good_rest : (s : Symbol) (ss : List Symbol) → Good (s ∷ ss) → Good ss
good_rest s ss g = record { clean = clean_behind ss g.clean; tidy = (and_parts _ _ g.tidy).1 }

clean_expanded : (xs ss : List Symbol) → list_all is_clean (behind_first xs) ≡ true → list_all is_clean ss ≡ true → list_all is_clean (behind_first (xs ++ ss)) ≡ true
clean_expanded [] ss h k = clean_behind ss k
clean_expanded (x ∷ xs) ss h k = clean_append xs ss h k

pub good_expanded : (n p : ℕ) (line : Line) (ss : List Symbol) → slice_get xpath_grammar p ≡ Some line → Good (Rule n ∷ ss) → Good (line.symbols ++ ss)
good_expanded n p line ss at g =
    let (tail, within) = and_parts _ _ (test_at is_orderly xpath_grammar p line all_orderly at) in
    let (calm, more) = and_parts _ _ g.tidy in
    record { clean = clean_expanded line.symbols ss tail g.clean; tidy = tidy_append line.symbols ss within calm more }

-- ---- derivations

-- a derivation comes to the terminal, and goes on behind it
pub record Taken (ss : List Symbol) (u : ℕ) (ts : List ℕ) (after : List Symbol) : Type 0 where
  pub rest : List Symbol
  pub before : List ℕ
  pub behind : List ℕ
  pub to : Leads xpath_grammar ss [] before (Terminal u ∷ rest)
  pub from : Leads xpath_grammar rest ts behind after
  pub clean : list_all is_clean rest ≡ true
  pub good : Good rest
  pub fits : keeps u (first_behind b.End (completion rest)) ≡ true

pub taken : {ss after : List Symbol} {ts ps : List ℕ} (u : ℕ) → Leads xpath_grammar ss (u ∷ ts) ps after → Good ss → Taken ss u ts after
taken u (take_terminal {ss} {ps = ps} t d) g = record {
  rest = ss;
  before = [];
  behind = ps;
  to = stay;
  from = d;
  clean = g.clean;
  good = good_rest (Terminal t) ss g;
  fits = (and_parts _ _ g.tidy).0;
}
taken u (close {ss} d) g =
    let w = taken u d (good_rest Close ss g) in
    record { rest = w.rest; before = w.before; behind = w.behind; to = close w.to; from = w.from; clean = w.clean; good = w.good; fits = w.fits }
taken u (expand {ss} n p line at rule d) g =
    let w = taken u d (good_expanded n p line ss at g) in
    record { rest = w.rest; before = p ∷ w.before; behind = w.behind; to = expand n p line at rule w.to; from = w.from; clean = w.clean; good = w.good; fits = w.fits }

-- a derivation comes past the first terminals to what is directly behind the last of them
pub record Come (ss : List Symbol) (us ts : List ℕ) (after : List Symbol) : Type 0 where
  pub rest : List Symbol
  pub before : List ℕ
  pub behind : List ℕ
  pub to : Leads xpath_grammar ss us before rest
  pub from : Leads xpath_grammar rest ts behind after
  pub clean : list_all is_clean rest ≡ true
  pub good : Good rest

come_on : (us : List ℕ) {ss after : List Symbol} {ts ps : List ℕ} → Leads xpath_grammar ss (us ++ ts) ps after → list_all is_clean ss ≡ true → Good ss → Come ss us ts after
come_on [] {ss} {ps = ps} d clean good = record { rest = ss; before = []; behind = ps; to = stay; from = d; clean = clean; good = good }
come_on (u ∷ us) d clean good =
    let w = taken u d good in
    let c = come_on us w.from w.clean w.good in
    record {
      rest = c.rest;
      before = w.before ++ c.before;
      behind = c.behind;
      to = join xpath_grammar (u ∷ us) c.before c.rest w.to (take_terminal u c.to);
      from = c.from;
      clean = c.clean;
      good = c.good;
    }

pub good_start : Good start
unfolding endings
good_start = record { clean = refl; tidy = refl }

pub come : (us : List ℕ) {after : List Symbol} {ts ps : List ℕ} → Leads xpath_grammar start (us ++ ts) ps after → Come start us ts after
come us d = come_on us d refl good_start

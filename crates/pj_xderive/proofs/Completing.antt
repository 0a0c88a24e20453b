-- What is still to come directly behind a token can be completed, with tokens that are what they are whatever stands behind them.
use Rattle.std.proofs.Common.{arith, ◌+◌, ◌≡◌, ◌<◌, ℕ, zero, suc, Bool, true, false, cond, List, [], ◌∷◌, ◌++◌, length, codes, ◌||◌, Option, Some, None, refl, sym, ap, subst, ◌∙◌}
use Rattle.std.specs.Prelude.{nat_eq, nat_lt, slice_get}
use Rattle.std.specs.List.{list_all}
use Rattle.std.specs.Option.{option_map}
use Rattle.std.proofs.lemmas.Bool.{and_parts, eqb-true, ltb-true}
use Rattle.pj_ll.specs.declared.grammar.Symbol.{Symbol}
use Rattle.pj_ll.specs.declared.grammar.Symbol.TheVariants.{Terminal, Rule, LeftOut, Close}
use Rattle.pj_ll.specs.Grammar.{Grammar, Line}
use Rattle.pj_ll.specs.Leads.{Leads, stay, take_terminal, close, expand}
use Rattle.pj_ll.specs.Composing.{join, frame}
use Rattle.pj_xtokens.specs.Tokens.{Lexed}
use Rattle.pj_xtokens.specs.declared.token.Sign.TheVariants as s
use Rattle.pj_xgrammar.specs.declared.terminal.Behind.{Behind}
use Rattle.pj_xgrammar.specs.declared.terminal.Behind.TheVariants as b
use Rattle.pj_xgrammar.specs.Terminals.{first_behind, numbers_before}
use Rattle.pj_xgrammar.specs.XPath.{xpath, rules, xpath_grammar}
use Rattle.pj_xderive.proofs.Endings.{Ending, endings, sign}
use Rattle.pj_xderive.proofs.Reading.{numbers_append}

-- ---- derivations by a list of their productions

-- the production of the number, where it is of the rule
abbrev symbols_if : ℕ → Line → Option (List Symbol)
symbols_if n line = cond (nat_eq line.rule n) (Some line.symbols) None

abbrev symbols_in : ℕ → Option Line → Option (List Symbol)
symbols_in n None = None
symbols_in n (Some line) = symbols_if n line

abbrev none_left : List ℕ → Option (List ℕ)
none_left [] = Some []
none_left (p ∷ ps) = None

abbrev with_first : List ℕ → (ℕ → List ℕ → Option (List ℕ)) → Option (List ℕ)
with_first [] f = None
with_first (p ∷ ps) f = f p ps

abbrev with_symbols : Option (List Symbol) → (List Symbol → Option (List ℕ)) → Option (List ℕ)
with_symbols None f = None
with_symbols (Some symbols) f = f symbols

-- the terminals that the symbols derive by the productions, in at most so many steps
abbrev replay : Grammar → ℕ → List ℕ → List Symbol → Option (List ℕ)
replay g zero ps ss = None
replay g (suc k) ps [] = none_left ps
replay g (suc k) ps (Terminal t ∷ ss) = option_map (λ ts. t ∷ ts) (replay g k ps ss)
replay g (suc k) ps (Close ∷ ss) = replay g k ps ss
replay g (suc k) ps (LeftOut t ∷ ss) = None
replay g (suc k) ps (Rule n ∷ ss) = with_first ps (λ p rest. with_symbols (symbols_in n (slice_get g p)) (λ symbols. replay g k rest (symbols ++ ss)))

some_one : {A : Type 0} {x y : A} → Some x ≡ Some y → x ≡ y
some_one e = cc

mapped : (f : List ℕ → List ℕ) (o : Option (List ℕ)) (ts : List ℕ) → option_map f o ≡ Some ts → (us : List ℕ) × (o ≡ Some us) × (f us ≡ ts)
mapped f None ts e = absurd (let z = e in cc)
mapped f (Some us) ts e = (us, refl, some_one e)

-- the production that is used
record Used (g : Grammar) (n p : ℕ) (f : List Symbol → Option (List ℕ)) (ts : List ℕ) : Type 0 where
  line : Line
  at : slice_get g p ≡ Some line
  rule : line.rule ≡ n
  comes : f line.symbols ≡ Some ts

used : (g : Grammar) (n p : ℕ) (f : List Symbol → Option (List ℕ)) (ts : List ℕ) (o : Option Line) → slice_get g p ≡ o →
    with_symbols (symbols_in n o) f ≡ Some ts → Used g n p f ts
used g n p f ts None at h = absurd (let z = h in cc)
used g n p f ts (Some line) at h = of_rule (nat_eq line.rule n) refl
  where
    of_rule : (same : Bool) → nat_eq line.rule n ≡ same → Used g n p f ts
    of_rule true e = record { line = line; at = at; rule = eqb-true line.rule n e; comes = sym (ap (λ b. with_symbols (cond b (Some line.symbols) None) f) e) ∙ h }
    of_rule false e = absurd (let z = sym (ap (λ b. with_symbols (cond b (Some line.symbols) None) f) e) ∙ h in cc)

replay_leads : (g : Grammar) (k : ℕ) (ps : List ℕ) (ss : List Symbol) (ts : List ℕ) → replay g k ps ss ≡ Some ts → Leads g ss ts ps []
replay_leads g zero ps ss ts h = absurd (let z = h in cc)
replay_leads g (suc k) [] [] ts h = subst (λ l. Leads g [] l [] []) (some_one h) stay
replay_leads g (suc k) (p ∷ ps) [] ts h = absurd (let z = h in cc)
replay_leads g (suc k) ps (Terminal t ∷ ss) ts h =
    let (us, comes, is) = mapped (λ l. t ∷ l) (replay g k ps ss) ts h in
    subst (λ l. Leads g (Terminal t ∷ ss) l ps []) is (take_terminal t (replay_leads g k ps ss us comes))
replay_leads g (suc k) ps (Close ∷ ss) ts h = close (replay_leads g k ps ss ts h)
replay_leads g (suc k) ps (LeftOut t ∷ ss) ts h = absurd (let z = h in cc)
replay_leads g (suc k) [] (Rule n ∷ ss) ts h = absurd (let z = h in cc)
replay_leads g (suc k) (p ∷ ps) (Rule n ∷ ss) ts h =
    let u = used g n p (λ symbols. replay g k ps (symbols ++ ss)) ts (slice_get g p) refl h in
    expand n p u.line u.at u.rule (replay_leads g k ps (u.line.symbols ++ ss) ts u.comes)

-- ---- completions

abbrev pub nth : List Ending → ℕ → Ending
nth [] n = record { productions = []; tokens = [] }
nth (e ∷ es) zero = e
nth (e ∷ es) (suc n) = nth es n

-- some tokens that the rule of this number spells
abbrev pub tokens_of : ℕ → List Lexed
tokens_of n = (nth endings n).tokens

-- the tokens that stand behind others in a production: 7 is `)`, and 9 is `]`
abbrev pub token_of : ℕ → Lexed
token_of t = cond (nat_eq t 7) (sign (codes ")") s.RightParenthesis) (sign (codes "]") s.RightBracket)

-- tokens that complete an expression
abbrev pub completion : List Symbol → List Lexed
completion [] = []
completion (Terminal t ∷ ss) = token_of t ∷ completion ss
completion (Rule n ∷ ss) = tokens_of n ++ completion ss
completion (LeftOut t ∷ ss) = completion ss
completion (Close ∷ ss) = completion ss

-- what can be still to come directly behind a token: `)`, `]`, one of the 52 rules, or the end of something that nests
abbrev pub is_clean : Symbol → Bool
is_clean (Terminal t) = nat_eq t 7 || nat_eq t 9
is_clean (Rule n) = nat_lt n 52
is_clean (LeftOut t) = false
is_clean Close = true

-- what the endings of the rules derive, from the rule of a number on
abbrev replays : Grammar → ℕ → List Ending → List (Option (List ℕ))
replays g n [] = []
replays g n (e ∷ es) = replay g 64 e.productions (Rule n ∷ []) ∷ replays g (suc n) es

abbrev readings : Behind → List Ending → List (Option (List ℕ))
readings end [] = []
readings end (e ∷ es) = Some (numbers_before end e.tokens) ∷ readings end es

all_replayed : (end : Behind) → replays xpath_grammar 0 endings ≡ readings end endings
unfolding xpath rules xpath_grammar endings
all_replayed end = refl

count : length endings ≡ 52
unfolding endings
count = refl

-- an ending derives what its tokens are
replayed_at : (g : Grammar) (end : Behind) (k n : ℕ) (es : List Ending) → replays g k es ≡ readings end es → n < length es →
    replay g 64 (nth es n).productions (Rule (k + n) ∷ []) ≡ Some (numbers_before end (nth es n).tokens)
replayed_at g end k n [] h lt = absurd (omega arith)
replayed_at g end k zero (e ∷ es) h lt =
    let first : replay g 64 e.productions (Rule k ∷ []) ≡ Some (numbers_before end e.tokens) = cc in
    subst (λ m. replay g 64 e.productions (Rule m ∷ []) ≡ Some (numbers_before end e.tokens)) (let e : k ≡ k + 0 = omega arith in e) first
replayed_at g end k (suc n) (e ∷ es) h lt =
    let more : replays g (suc k) es ≡ readings end es = cc in
    let it = replayed_at g end (suc k) n es more (omega arith) in
    subst (λ m. replay g 64 (nth es n).productions (Rule m ∷ []) ≡ Some (numbers_before end (nth es n).tokens)) (let e : suc k + n ≡ k + suc n = omega arith in e) it

rule_ends : (end : Behind) (n : ℕ) → n < 52 → Leads xpath_grammar (Rule n ∷ []) (numbers_before end (tokens_of n)) (nth endings n).productions []
rule_ends end n lt =
    let known : n < length endings = subst (λ k. n < k) (sym count) lt in
    let it = replayed_at xpath_grammar end 0 n endings (all_replayed end) known in
    replay_leads xpath_grammar 64 (nth endings n).productions (Rule n ∷ []) (numbers_before end (tokens_of n))
    (subst (λ m. replay xpath_grammar 64 (nth endings n).productions (Rule m ∷ []) ≡ Some (numbers_before end (nth endings n).tokens)) (let e : 0 + n ≡ n = omega arith in e) it)

is_token : (t : ℕ) (end : Behind) → is_clean (Terminal t) ≡ true → numbers_before end (token_of t ∷ []) ≡ t ∷ []
is_token t end h = of_seven (nat_eq t 7) refl
  where
    of_nine : nat_eq t 7 ≡ false → (same : Bool) → nat_eq t 9 ≡ same → numbers_before end (token_of t ∷ []) ≡ t ∷ []
    of_nine other true e = ap (λ b. numbers_before end (cond b (sign (codes ")") s.RightParenthesis) (sign (codes "]") s.RightBracket) ∷ [])) other
        ∙ ap (λ k. k ∷ []) (sym (eqb-true t 9 e))
    of_nine other false e = absurd (let z : (nat_eq t 7 || nat_eq t 9) ≡ false = rw other e in cc)

    of_seven : (same : Bool) → nat_eq t 7 ≡ same → numbers_before end (token_of t ∷ []) ≡ t ∷ []
    of_seven true e = ap (λ b. numbers_before end (cond b (sign (codes ")") s.RightParenthesis) (sign (codes "]") s.RightBracket) ∷ [])) e
        ∙ ap (λ k. k ∷ []) (sym (eqb-true t 7 e))
    of_seven false e = of_nine e (nat_eq t 9) refl

-- symbols that lead to nothing left by the terminals of their completion
pub record Ends (ss : List Symbol) : Type 0 where
  pub productions : List ℕ
  pub leads : Leads xpath_grammar ss (numbers_before b.End (completion ss)) productions []

pub ends : (ss : List Symbol) → list_all is_clean ss ≡ true → Ends ss
ends [] h = record { productions = []; leads = stay }
ends (Terminal t ∷ ss) h =
    let (this, more) = and_parts _ _ h in
    let rest = ends ss more in
    let is : numbers_before b.End (token_of t ∷ completion ss) ≡ t ∷ numbers_before b.End (completion ss) =
    numbers_append b.End (token_of t ∷ []) (completion ss) ∙ ap (λ l. l ++ numbers_before b.End (completion ss)) (is_token t (first_behind b.End (completion ss)) this) in
    record {
      productions = rest.productions;
      leads = subst (λ l. Leads xpath_grammar (Terminal t ∷ ss) l rest.productions []) (sym is) (take_terminal t rest.leads);
    }
ends (Close ∷ ss) h = let rest = ends ss h in record { productions = rest.productions; leads = close rest.leads }
ends (LeftOut t ∷ ss) h = absurd (let z = h in cc)
ends (Rule n ∷ ss) h =
    let (this, more) = and_parts _ _ h in
    let rest = ends ss more in
    let here = rule_ends (first_behind b.End (completion ss)) n (ltb-true n 52 this) in
    record {
      productions = (nth endings n).productions ++ rest.productions;
      leads = subst (λ l. Leads xpath_grammar (Rule n ∷ ss) l ((nth endings n).productions ++ rest.productions) []) (sym (numbers_append b.End (tokens_of n) (completion ss)))
          (join xpath_grammar (numbers_before b.End (completion ss)) rest.productions [] (frame xpath_grammar ss here) rest.leads);
    }

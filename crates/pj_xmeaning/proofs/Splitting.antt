-- What symbols in two parts derive, the one part before the other.
use Rattle.std.proofs.Common.{◌≡◌, ℕ, ◌+◌, List, [], ◌∷◌, ◌++◌, refl, sym, ◌∙◌, ap, subst, arith, append_assoc}
use Rattle.pj_ll.specs.declared.grammar.Symbol.{Symbol}
use Rattle.pj_ll.specs.declared.grammar.Symbol.TheVariants.{Terminal, Rule, LeftOut, Close}
use Rattle.pj_ll.specs.Grammar.{closes}
use Rattle.pj_xtokens.specs.Tokens.{Lexed}
use Rattle.pj_xmeaning.specs.Parts.{RuleValue}
use Rattle.pj_xmeaning.specs.Reach.{Reach, Within, IsBehindLeftOut, IsCut}
use Rattle.pj_xmeaning.specs.Reads.{IsNumbered}
use Rattle.pj_xmeaning.proofs.Derived.{Derived, Fill, none, token, rule, left_out, close, cut}
use Rattle.pj_xmeaning.proofs.Counts.{closes-append}
use Rattle.pj_xmeaning.proofs.Taking.{cut_behind}

-- the tokens, productions and values of the first symbols, and those of the others behind them
pub record Parts (reach : Reach) (around : ℕ) (behind : List Lexed) (xs ys : List Symbol) (tokens : List Lexed) (productions : List ℕ) : Type 0 where
  pub first_tokens : List Lexed
  pub other_tokens : List Lexed
  pub first_productions : List ℕ
  pub other_productions : List ℕ
  pub first_values : List RuleValue
  pub other_values : List RuleValue
  pub tokens_are : tokens ≡ first_tokens ++ other_tokens
  pub productions_are : productions ≡ first_productions ++ other_productions
  pub first : Fill reach (around + closes ys) (other_tokens ++ behind) xs first_tokens first_productions first_values
  pub other : Fill reach around behind ys other_tokens other_productions other_values

open_is : (around : ℕ) (xs ys : List Symbol) → around + closes (xs ++ ys) ≡ (around + closes ys) + closes xs
open_is around xs ys = let e = closes-append xs ys in omega arith

-- what stands behind the first of the tokens
pub behind_is : (behind tokens first other : List Lexed) → tokens ≡ first ++ other → tokens ++ behind ≡ first ++ (other ++ behind)
behind_is behind tokens first other is = ap (λ l. l ++ behind) is ∙ append_assoc first other behind

module _ {reach : Reach} {around : ℕ} {behind : List Lexed} (ys : List Symbol) where
  with_token : {tokens : List Lexed} {ps : List ℕ} (xs : List Symbol) (x : Lexed) (t : ℕ) → IsNumbered x (tokens ++ behind) t →
      Within reach (around + closes (xs ++ ys)) (x ∷ (tokens ++ behind)) → Parts reach around behind xs ys tokens ps → Parts reach around behind (Terminal t ∷ xs) ys (x ∷ tokens) ps
  with_token {tokens} xs x t read within parts = record {
    first_tokens = x ∷ parts.first_tokens;
    other_tokens = parts.other_tokens;
    first_productions = parts.first_productions;
    other_productions = parts.other_productions;
    first_values = parts.first_values;
    other_values = parts.other_values;
    tokens_are = ap (λ l. x ∷ l) parts.tokens_are;
    productions_are = parts.productions_are;
    first = token x t
        (subst (λ l. IsNumbered x l t) (behind_is behind tokens parts.first_tokens parts.other_tokens parts.tokens_are) read)
        (subst (λ l. Within reach ((around + closes ys) + closes xs) (x ∷ l)) (behind_is behind tokens parts.first_tokens parts.other_tokens parts.tokens_are)
        (subst (λ k. Within reach k (x ∷ (tokens ++ behind))) (open_is around xs ys) within))
        parts.first;
    other = parts.other;
  }

  with_rule : {n : ℕ} {ts us all : List Lexed} {ps qs rs : List ℕ} {v : RuleValue} (xs : List Symbol) →
      Derived reach (around + closes (xs ++ ys)) (us ++ behind) n ts ps v → Parts reach around behind xs ys us qs → all ≡ ts ++ us → rs ≡ ps ++ qs →
      Parts reach around behind (Rule n ∷ xs) ys all rs
  with_rule {n} {ts} {us} {ps = ps} {v = v} xs d parts tokens_are productions_are = record {
    first_tokens = ts ++ parts.first_tokens;
    other_tokens = parts.other_tokens;
    first_productions = ps ++ parts.first_productions;
    other_productions = parts.other_productions;
    first_values = v ∷ parts.first_values;
    other_values = parts.other_values;
    tokens_are = tokens_are ∙ ap (λ l. ts ++ l) parts.tokens_are ∙ sym (append_assoc ts parts.first_tokens parts.other_tokens);
    productions_are = productions_are ∙ ap (λ l. ps ++ l) parts.productions_are ∙ sym (append_assoc ps parts.first_productions parts.other_productions);
    first = rule
        (subst (λ k. Derived reach k (parts.first_tokens ++ (parts.other_tokens ++ behind)) n ts ps v) (open_is around xs ys)
        (subst (λ l. Derived reach (around + closes (xs ++ ys)) l n ts ps v) (behind_is behind us parts.first_tokens parts.other_tokens parts.tokens_are) d))
        parts.first refl refl;
    other = parts.other;
  }

  with_close : {tokens : List Lexed} {ps : List ℕ} (xs : List Symbol) → Parts reach around behind xs ys tokens ps → Parts reach around behind (Close ∷ xs) ys tokens ps
  with_close xs parts = record {
    first_tokens = parts.first_tokens;
    other_tokens = parts.other_tokens;
    first_productions = parts.first_productions;
    other_productions = parts.other_productions;
    first_values = parts.first_values;
    other_values = parts.other_values;
    tokens_are = parts.tokens_are;
    productions_are = parts.productions_are;
    first = close parts.first;
    other = parts.other;
  }

  with_left_out : (xs : List Symbol) (x : Lexed) (t : ℕ) → IsNumbered x behind t → IsBehindLeftOut reach behind → Parts reach around behind (LeftOut t ∷ xs) ys (x ∷ []) []
  with_left_out xs x t read is = record {
    first_tokens = x ∷ [];
    other_tokens = [];
    first_productions = [];
    other_productions = [];
    first_values = [];
    other_values = [];
    tokens_are = refl;
    productions_are = refl;
    first = left_out x t read is;
    other = cut (cut_behind reach behind is);
  }

  -- where the tokens are cut off, neither part derives any
  both_cut : (xs : List Symbol) → IsCut reach behind → Parts reach around behind xs ys [] []
  both_cut xs c = record {
    first_tokens = [];
    other_tokens = [];
    first_productions = [];
    other_productions = [];
    first_values = [];
    other_values = [];
    tokens_are = refl;
    productions_are = refl;
    first = cut c;
    other = cut c;
  }

  pub split : {tokens : List Lexed} {ps : List ℕ} {vs : List RuleValue} (xs : List Symbol) →
      Fill reach around behind (xs ++ ys) tokens ps vs → Parts reach around behind xs ys tokens ps
  split {tokens} {ps} {vs} [] fill = record {
    first_tokens = [];
    other_tokens = tokens;
    first_productions = [];
    other_productions = ps;
    first_values = [];
    other_values = vs;
    tokens_are = refl;
    productions_are = refl;
    first = none;
    other = fill;
  }
  split (Terminal t ∷ xs) (cut c) = both_cut (Terminal t ∷ xs) c
  split (Terminal t ∷ xs) (token x u read within fill) = with_token xs x t read within (split xs fill)
  split (Rule n ∷ xs) (cut c) = both_cut (Rule n ∷ xs) c
  split (Rule n ∷ xs) (rule d fill tokens_are productions_are) = with_rule xs d (split xs fill) tokens_are productions_are
  split (LeftOut t ∷ xs) (cut c) = both_cut (LeftOut t ∷ xs) c
  split (LeftOut t ∷ xs) (left_out x u read is) = with_left_out xs x t read is
  split (Close ∷ xs) (cut c) = both_cut (Close ∷ xs) c
  split (Close ∷ xs) (close fill) = with_close xs (split xs fill)

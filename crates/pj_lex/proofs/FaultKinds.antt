-- The kinds of faults.
use Rattle.std.proofs.Common.{◌≡◌, ℕ, Bool, true, false, cond, ◌&&◌, List, [], ◌∷◌, Ok, Err, inl, inr, sym, refl, ap, ◌∙◌, subst, arith}
use Rattle.std.specs.Prelude.{nat_le}
use Rattle.std.specs.List.{list_all}
use Rattle.std.proofs.lemmas.Bool.{and_parts, leb-true}
use Rattle.pj_lex.specs.Characters.{continues_name}
use Rattle.pj_lex.specs.Rules.{Rule, rules, FirstOf, Outcome, outcome, heads}
use Rattle.pj_lex.specs.Tokens.{Begins, longest, nothing, Lexed, Tokens, ended, token, fault, HasKind, HaveKinds}
use Rattle.pj_lex.specs.declared.category.Category.{Category}
use Rattle.pj_lex.specs.declared.category.Category.TheVariants.{Name, Number, Token, Greater, Fault}
use Rattle.pj_lex.specs.declared.token.TokenKind.{TokenKind}

abbrev is_known : Category → Bool
is_known (Fault f) = nat_le 1 f && nat_le f 5
is_known Name = true
is_known (Number k) = true
is_known (Token k) = true
is_known Greater = true

all_known : list_all (λ (r : Rule). is_known r.kind) rules ≡ true
unfolding rules
all_known = refl

first_known : (rs : List Rule) (w : List ℕ) (s : Category) → list_all (λ (r : Rule). is_known r.kind) rs ≡ true → FirstOf rs w s → is_known s ≡ true
first_known [] w s h f = absurd f
first_known (r ∷ rs) w s h (inl (m, e)) = let a = and_parts _ _ h in ap is_known e ∙ a.0
first_known (r ∷ rs) w s h (inr (n, f)) = let a = and_parts _ _ h in first_known rs w s a.1 f

number_kind : (k : TokenKind) (b : Bool) → HasKind (cond b (Err 5) (Ok k))
number_kind k true = (omega arith, omega arith)
number_kind k false = tt

outcome_kind : (s : Category) (w behind : List ℕ) → is_known s ≡ true → HasKind (outcome s w behind)
outcome_kind Name w behind h = tt
outcome_kind (Number k) w behind h = number_kind k (heads continues_name behind)
outcome_kind (Token k) w behind h = tt
outcome_kind Greater w behind h = tt
outcome_kind (Fault f) w behind h = let a = and_parts _ _ h in (leb-true _ _ a.0, leb-true _ _ a.1)

begins_kind : (text behind : List ℕ) (l : Outcome) → Begins text l behind → HasKind l
begins_kind text behind l (longest w s x far) = subst HasKind (sym x.is) (outcome_kind x.category w behind (first_known rules w x.category all_known x.first))
begins_kind text behind l (nothing none e) = subst HasKind (sym e) (omega arith, omega arith)

pub kinds : (at : ℕ) (text : List ℕ) (ls : List Lexed) → Tokens at text ls → HaveKinds ls
kinds _ _ _ (ended at text h) = tt
kinds _ _ _ (token at text gap w behind k more s h b rest) = (tt, kinds _ _ _ rest)
kinds _ _ _ (fault at text gap behind rest c f s h n b) = (begins_kind (c ∷ rest) behind (Err f) b, tt)

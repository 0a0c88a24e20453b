-- The characters that no word of a pattern has.
use Rattle.std.proofs.Common.{◌≡◌, ◌≢◌, ℕ, Bool, true, false, ◌||◌, ◌&&◌, inl, inr, List, [], ◌∷◌, ◌++◌, refl, sym, ap, ◌∙◌, arith}
use Rattle.std.specs.Prelude.{not}
use Rattle.std.specs.List.{All, list_all}
use Rattle.std.proofs.lemmas.Bool.{false≢true, and_parts}
use Rattle.std.proofs.lemmas.Bool.Decides.{nat_tests}
use Rattle.std.proofs.lemmas.List.Elements.{All-nil, All-cons, All-same, All-append}
use Rattle.pj_xtokens.specs.Characters.{is_white, holds}
use Rattle.pj_xtokens.specs.Pattern.{Pattern, Nothing, Empty, One, Then, Either, Many, Repeats, none, more, Matches}
use Rattle.pj_xtokens.specs.Rules.{Rule, rules, FirstOf, Spells}
use Rattle.pj_xtokens.specs.declared.token.TokenKind.{TokenKind}
use Rattle.pj_xtokens.specs.declared.token.TokenKind.TheVariants as t

-- no set of the pattern holds the character
abbrev lacks : ℕ → Pattern → Bool
lacks c Nothing = true
lacks c Empty = true
lacks c (One s) = not (holds s c)
lacks c (Then p q) = lacks c p && lacks c q
lacks c (Either p q) = lacks c p && lacks c q
lacks c (Many p) = lacks c p

module _ (c : ℕ) where
  -- the character is not in the word
  abbrev IsFree : List ℕ → Type 0
  IsFree w = All (λ d. d ≢ c) w

  free_join : (w u v : List ℕ) → w ≡ u ++ v → IsFree u → IsFree v → IsFree w
  free_join w u v e f g = All-same (λ d. d ≢ c) w (u ++ v) e (All-append (λ d. d ≢ c) u v f g)

  free_one : (d : ℕ) (w : List ℕ) → w ≡ d ∷ [] → d ≢ c → IsFree w
  free_one d w e n = All-same (λ x. x ≢ c) w (d ∷ []) e (All-cons (λ x. x ≢ c) d [] n (All-nil (λ x. x ≢ c)))

  free_many : (p : Pattern) → ((w : List ℕ) → Matches p w → IsFree w) → (w : List ℕ) → Repeats (Matches p) w → IsFree w
  free_many p go _ (none w e) = All-same (λ d. d ≢ c) w [] e (All-nil (λ d. d ≢ c))
  free_many p go _ (more w u v e a b) = free_join w u v e (go u a) (free_many p go v b)

  free : (p : Pattern) → lacks c p ≡ true → (w : List ℕ) → Matches p w → IsFree w
  free Nothing h w m = absurd m
  free Empty h w m = All-same (λ d. d ≢ c) w [] m (All-nil (λ d. d ≢ c))
  free (One s) h w (d, e, y) = free_one d w e (λ q. false≢true (sym (ap not (sym (ap (holds s) q) ∙ y)) ∙ h))
  free (Then p q) h w (u, (v, e, a, b)) = let parts = and_parts _ _ h in free_join w u v e (free p parts.0 u a) (free q parts.1 v b)
  free (Either p q) h w (inl m) = free p (and_parts _ _ h).0 w m
  free (Either p q) h w (inr m) = free q (and_parts _ _ h).1 w m
  free (Many p) h w m = free_many p (free p h) w m

abbrev is_string : TokenKind → Bool
is_string t.Name = false
is_string t.Integer = false
is_string t.Decimal = false
is_string t.Double = false
is_string t.String = true
is_string (t.Sign s) = false

string_is : (k : TokenKind) → is_string k ≡ true → k ≡ t.String
string_is t.Name h = absurd (false≢true h)
string_is t.Integer h = absurd (false≢true h)
string_is t.Decimal h = absurd (false≢true h)
string_is t.Double h = absurd (false≢true h)
string_is t.String h = refl
string_is (t.Sign s) h = absurd (false≢true h)

-- the rule is one of strings, or none of its words has the character
abbrev is_tight : ℕ → Rule → Bool
is_tight c r = is_string r.kind || lacks c r.pattern

module _ (c : ℕ) where
  tight_free : (r : Rule) (b : Bool) (w : List ℕ) → is_string r.kind ≡ b → (b || lacks c r.pattern) ≡ true → r.kind ≢ t.String → Matches r.pattern w → All (λ d. d ≢ c) w
  tight_free r true w e h n m = absurd (n (string_is r.kind e))
  tight_free r false w e h n m = free c r.pattern h w m

  first_free : (rs : List Rule) → list_all (is_tight c) rs ≡ true → (w : List ℕ) (k : TokenKind) → FirstOf rs w k → k ≢ t.String → All (λ d. d ≢ c) w
  first_free [] h w k f n = absurd f
  first_free (r ∷ rs) h w k (inl (m, e)) n = tight_free r (is_string r.kind) w refl (and_parts _ _ h).0 (λ q. n (e ∙ q)) m
  first_free (r ∷ rs) h w k (inr (x, f)) n = first_free rs (and_parts _ _ h).1 w k f n

no_space : list_all (is_tight 32) rules ≡ true
unfolding rules
no_space = refl

no_tab : list_all (is_tight 9) rules ≡ true
unfolding rules
no_tab = refl

no_line_feed : list_all (is_tight 10) rules ≡ true
unfolding rules
no_line_feed = refl

no_return : list_all (is_tight 13) rules ≡ true
unfolding rules
no_return = refl

none_white : (c : ℕ) → c ≢ 32 → c ≢ 9 → c ≢ 10 → c ≢ 13 → is_white c ≡ false
none_white c space tab line_feed return = grind (arith, nat_tests, space, tab, line_feed, return)

pub no_white : (k : TokenKind) (w : List ℕ) → Spells k w → k ≢ t.String → All (λ d. is_white d ≡ false) w
no_white k w f n =
    let space = first_free 32 rules no_space w k f n in
    let tab = first_free 9 rules no_tab w k f n in
    let line_feed = first_free 10 rules no_line_feed w k f n in
    let return = first_free 13 rules no_return w k f n in
    λ i d h. none_white _ (space i d h) (tab i d h) (line_feed i d h) (return i d h)

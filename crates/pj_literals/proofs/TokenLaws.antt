-- What a token of a literal's kind is spelled by.
use Rattle.std.proofs.Common.{◌≡◌, ℕ, ◌+◌, List, [], ◌∷◌, ◌++◌, Bool, true, false, cond, ◌||◌, ◌==◌, inl, inr, Option, Some, Ok, Err, All, sym, refl, ap, ◌∙◌, subst}
use Rattle.std.proofs.lemmas.Bool.{false≢true}
use Rattle.std.proofs.lemmas.List.Elements.{All-cons, All-nil}
use Rattle.pj_lex.specs.Characters.{continues_name}
use Rattle.pj_lex.specs.Numbers.{integer_literal}
use Rattle.pj_lex.specs.Pattern.{Pattern, Nothing, Either, Matches}
use Rattle.pj_lex.specs.Quoted as quoted
use Rattle.pj_lex.specs.Rules.{Rule, rules, FirstOf, Outcome, Spells, outcome, heads, greater_kind}
use Rattle.pj_lex.specs.Size.{size}
use Rattle.pj_lex.specs.Tokens.{Lexed, Tokens, ended, token, fault, token_of, fault_of, Begins, longest, nothing}
use Rattle.std.proofs.lemmas.List.{append_cancel_right}
use Rattle.pj_lex.specs.Words.{Entry, same, kind_in, or_identifier, reserved_words, name_kind}
use Rattle.pj_lex.specs.declared.token.TokenKind.{TokenKind}
use Rattle.pj_lex.specs.declared.token.TokenKind.TheVariants as t
use Rattle.pj_lex.specs.declared.category.Category.{Category}
use Rattle.pj_lex.specs.declared.category.Category.TheVariants.{Name, Number, Token, Greater, Fault}
use Rattle.pj_literals.specs.IntegerValue.{IsInteger}
use Rattle.pj_literals.specs.StringValue.{IsQuoted}
use Rattle.pj_literals.specs.Spellings.{IsSpelled}

-- four kinds
abbrev is_integer : TokenKind → Bool
is_integer t.IntLiteral = true
is_integer k = false

abbrev is_character : TokenKind → Bool
is_character t.CharLiteral = true
is_character k = false

abbrev is_string : TokenKind → Bool
is_string t.StringLiteral = true
is_string k = false

abbrev is_block : TokenKind → Bool
is_block t.TextBlock = true
is_block k = false

-- outcomes
abbrev good : TokenKind → Outcome
good k = Ok k

abbrev bad : ℕ → Outcome
bad f = Err f

-- a kind that no name has, and that the sign > does not have
abbrev no_name : (TokenKind → Bool) → List Entry → Bool
no_name is [] = true
no_name is (e ∷ es) = cond (is e.kind) false (no_name is es)

module _ (is : TokenKind → Bool) where
  -- the words of a category may be of the kind
  abbrev may_be : Category → Bool
  may_be Name = false
  may_be (Number k) = is k
  may_be (Token k) = is k
  may_be Greater = false
  may_be (Fault f) = false

  -- the rules whose words may be of the kind
  abbrev of_kind : List Rule → Pattern
  of_kind [] = Nothing
  of_kind (r ∷ rs) = cond (may_be r.kind) (Either r.pattern (of_kind rs)) (of_kind rs)

  here : (b : Bool) (p q : Pattern) (w : List ℕ) → b ≡ true → Matches p w → Matches (cond b (Either p q) q) w
  here true p q w h m = inl m
  here false p q w h m = absurd (false≢true h)

  further : (b : Bool) (p q : Pattern) (w : List ℕ) → Matches q w → Matches (cond b (Either p q) q) w
  further true p q w m = inr m
  further false p q w m = m

  spelled_of_kind : (rs : List Rule) (w : List ℕ) (c : Category) → FirstOf rs w c → may_be c ≡ true → Matches (of_kind rs) w
  spelled_of_kind [] w c f h = absurd f
  spelled_of_kind (r ∷ rs) w c (inl (m, e)) h = here (may_be r.kind) r.pattern (of_kind rs) w (ap may_be (sym e) ∙ h) m
  spelled_of_kind (r ∷ rs) w c (inr (n, f)) h = further (may_be r.kind) r.pattern (of_kind rs) w (spelled_of_kind rs w c f h)

  in_table : (b : Bool) (k : TokenKind) (o : Option TokenKind) → is k ≡ false → is (or_identifier o) ≡ false → is (or_identifier (cond b (Some k) o)) ≡ false
  in_table true k o h g = h
  in_table false k o h g = g

  kinds_of_names : (es : List Entry) (w : List ℕ) → no_name is es ≡ true → is t.Identifier ≡ false → is (or_identifier (kind_in es w)) ≡ false
  kinds_of_names [] w h i = i
  kinds_of_names (e ∷ es) w h i =
      let P : Bool → Type 0 = λ b. is e.kind ≡ b → cond b false (no_name is es) ≡ true → is (or_identifier (kind_in (e ∷ es) w)) ≡ false in
      (elim (is e.kind) as P [
        | true ↦ λ _ (g : false ≡ true). absurd (false≢true g)
        | false ↦ λ (f : is e.kind ≡ false) (g : no_name is es ≡ true). in_table (same e.text w) e.kind (kind_in es w) f (kinds_of_names es w g i)
      ]) refl h

  same_kind : (k j : TokenKind) → good j ≡ good k → is k ≡ true → is j ≡ true
  same_kind k j e h = let kinds : j ≡ k = cc in ap is kinds ∙ h

  number_kind : (b : Bool) (k j : TokenKind) → cond b (bad 5) (good j) ≡ good k → is k ≡ true → is j ≡ true
  number_kind true k j e h = absurd (cc)
  number_kind false k j e h = same_kind k j e h

  sign_kind : (b : Bool) → is t.GreaterJoined ≡ false → is t.Greater ≡ false → is (cond b t.GreaterJoined t.Greater) ≡ true → ⊥
  sign_kind true j g h = false≢true (sym j ∙ h)
  sign_kind false j g h = false≢true (sym g ∙ h)

  category_of : (c : Category) (w behind : List ℕ) (k : TokenKind) → is (name_kind w) ≡ false → is t.GreaterJoined ≡ false → is t.Greater ≡ false
      → outcome c w behind ≡ Ok k → is k ≡ true → may_be c ≡ true
  category_of Name w behind k n j g e h = absurd (false≢true (sym n ∙ same_kind k (name_kind w) e h))
  category_of (Number q) w behind k n j g e h = number_kind (heads continues_name behind) k q e h
  category_of (Token q) w behind k n j g e h = same_kind k q e h
  category_of Greater w behind k n j g e h = absurd (sign_kind (heads (λ c. (c == 62) || (c == 61)) behind) j g (same_kind k (greater_kind behind) e h))
  category_of (Fault f) w behind k n j g e h = absurd (cc)

  -- a word that spells a token of the kind matches one of these rules
  pub spelling_of : (behind w : List ℕ) (k : TokenKind) → no_name is reserved_words ≡ true → is t.Identifier ≡ false → is t.GreaterJoined ≡ false → is t.Greater ≡ false
      → Spells behind (Ok k) w → is k ≡ true → Matches (of_kind rules) w
  unfolding name_kind
  spelling_of behind w k r i j g s h =
      spelled_of_kind rules w s.category s.first (category_of s.category w behind k (kinds_of_names reserved_words w r i) j g (sym s.is) h)

without_nothing : (p : Pattern) (w : List ℕ) → Matches (Either p Nothing) w → Matches p w
without_nothing p w (inl m) = m
without_nothing p w (inr m) = absurd m

integer : (behind w : List ℕ) → Spells behind (Ok t.IntLiteral) w → IsInteger w
unfolding rules reserved_words
integer behind w s = without_nothing integer_literal w (spelling_of is_integer behind w t.IntLiteral refl refl refl refl s refl)

character : (behind w : List ℕ) → Spells behind (Ok t.CharLiteral) w → IsQuoted w
unfolding rules reserved_words
character behind w s = inl (without_nothing quoted.char_literal w (spelling_of is_character behind w t.CharLiteral refl refl refl refl s refl))

string : (behind w : List ℕ) → Spells behind (Ok t.StringLiteral) w → IsQuoted w
unfolding rules reserved_words
string behind w s = inr (inl (without_nothing quoted.string_literal w (spelling_of is_string behind w t.StringLiteral refl refl refl refl s refl)))

block : (behind w : List ℕ) → Spells behind (Ok t.TextBlock) w → IsQuoted w
unfolding rules reserved_words
block behind w s = inr (inr (without_nothing quoted.text_block w (spelling_of is_block behind w t.TextBlock refl refl refl refl s refl)))

spells_kind : (behind w : List ℕ) (k j : TokenKind) → good k ≡ good j → Spells behind (Ok k) w → Spells behind (Ok j) w
spells_kind behind w k j e s = subst (λ (l : Outcome). Spells behind l w) e s

spelled : (w behind : List ℕ) (k : TokenKind) → Begins (w ++ behind) (Ok k) behind → Spells behind (Ok k) w
spelled w behind k (longest v s x far) = subst (λ (z : List ℕ). Spells behind (Ok k) z) (append_cancel_right v w behind (sym s)) x
spelled w behind k (nothing none e) = absurd (cc)

is_spelled : (behind w : List ℕ) (k : TokenKind) (from : ℕ) → Spells behind (Ok k) w → IsSpelled (token_of k w from)
is_spelled behind w k from s = record {
  integer = λ e. integer behind w (spells_kind behind w k t.IntLiteral e s);
  character = λ e. character behind w (spells_kind behind w k t.CharLiteral e s);
  string = λ e. string behind w (spells_kind behind w k t.StringLiteral e s);
  block = λ e. block behind w (spells_kind behind w k t.TextBlock e s);
}

no_token : (f : ℕ) (k : TokenKind) → bad f ≡ good k → ⊥
no_token f k e = cc

fault_spelled : (f from : ℕ) → IsSpelled (fault_of f from)
fault_spelled f from = record {
  integer = λ e. absurd (no_token f t.IntLiteral e);
  character = λ e. absurd (no_token f t.CharLiteral e);
  string = λ e. absurd (no_token f t.StringLiteral e);
  block = λ e. absurd (no_token f t.TextBlock e);
}

pub all_spelled : (at : ℕ) (text : List ℕ) (ls : List Lexed) → Tokens at text ls → All IsSpelled ls
all_spelled _ _ _ (ended at text h) = All-nil IsSpelled
all_spelled _ _ _ (token at text gap w behind k more s h b rest) =
    All-cons IsSpelled (token_of k w (at + size gap)) more (is_spelled behind w k (at + size gap) (spelled w behind k b)) (all_spelled (at + size (gap ++ w)) behind more rest)
all_spelled _ _ _ (fault at text gap behind rest c f s h n b) = All-cons IsSpelled (fault_of f (at + size gap)) [] (fault_spelled f (at + size gap)) (All-nil IsSpelled)

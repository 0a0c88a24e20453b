-- The tokens of a text stand in its order.
use Rattle.std.proofs.Common.{ℕ, zero, suc, ◌≡◌, ◌+◌, ◌<◌, ◌≤◌, List, [], ◌∷◌, ◌++◌, length, map, get_or, subst, arith, Ok, Err, Result}
use Rattle.std.specs.List.Sorted.{IsNonDecreasingBy}
use Rattle.std.specs.Str.{chars}
use Rattle.pj_lex.proofs.Ends.{size-append}
use Rattle.pj_lex.specs.Size.{size}
use Rattle.pj_lex.specs.Tokens.{Lexed, Tokens, ended, token, fault}
use Rattle.pj_lex.specs.declared.token.Token.{Token}
use Rattle.pj_parse.specs.Parses.{Parses, FileParsed, lexical_fault, too_many_tokens, syntax_fault, too_deep, too_many, parsed}
use Rattle.pj_parse.specs.declared.fault.ParseFault.{ParseFault}
use Rattle.pj_grammar.specs.Words.{TokenSeen, seen, as_lexed}

-- each begins where the one before begins, or behind that, and the first at an offset or behind it
abbrev Rises : ℕ → List Lexed → Type 0
Rises at [] = Unit {0}
Rises at (l ∷ ls) = (at ≤ l.from) × Rises l.from ls

rises_lower : (n m : ℕ) (ls : List Lexed) → n ≤ m → Rises m ls → Rises n ls
rises_lower n m [] le r = tt
rises_lower n m (l ∷ ls) le r = (omega (arith, le, r.0), r.1)

lexed_rise : (at : ℕ) (rest : List ℕ) (ls : List Lexed) → Tokens at rest ls → Rises at ls
lexed_rise _ _ _ (ended at rest h) = tt
lexed_rise _ _ _ (token at rest gap w behind k more p h b next) =
    (omega arith, rises_lower (at + size gap) (at + size (gap ++ w)) more (omega (arith, size-append gap w)) (lexed_rise (at + size (gap ++ w)) behind more next))
lexed_rise _ _ _ (fault at rest gap behind more c f p h n b) = (omega arith, tt)

-- ---- of the tokens of the program

abbrev lexed : List Token → List Lexed
lexed ts = map as_lexed (map seen ts)

at_least : (ts : List Token) (at j : ℕ) (d : Token) → Rises at (lexed ts) → j < length ts → at ≤ (get_or ts j d).span.from
at_least [] at j d r h = absurd (omega (arith, h))
at_least (t ∷ ts) at zero d r h = r.0
at_least (t ∷ ts) at (suc j) d r h = omega (arith, r.0, at_least ts t.span.from j d r.1 (omega (arith, h)))

in_order : (ts : List Token) (at : ℕ) → Rises at (lexed ts) → IsNonDecreasingBy (λ (t : Token). t.span.from) ts
in_order [] at r i j d le h = absurd (omega (arith, h))
in_order (t ∷ ts) at r zero zero d le h = omega arith
in_order (t ∷ ts) at r zero (suc j) d le h = at_least ts t.span.from j d r.1 (omega (arith, h))
in_order (t ∷ ts) at r (suc i) zero d le h = absurd (omega (arith, le))
in_order (t ∷ ts) at r (suc i) (suc j) d le h = in_order ts t.span.from r.1 i j d (omega (arith, le)) (omega (arith, h))

abbrev TokensIn : List ℕ → Result FileParsed ParseFault → Type 0
TokensIn text (Ok f) = Tokens 0 (chars text) (map as_lexed f.tokens)
TokensIn text (Err e) = Unit {0}

tokens_in : (text : List ℕ) (o : Result FileParsed ParseFault) → Parses text o → TokensIn text o
tokens_in text _ (lexical_fault f e) = tt
tokens_in text _ (too_many_tokens ts h m) = tt
tokens_in text _ (syntax_fault ts h f) = tt
tokens_in text _ (too_deep ts d depth h s) = tt
tokens_in text _ (too_many ts d count h s) = tt
tokens_in text _ (parsed ts d tree h s) = h.words_are.tokens

pub parsed_in_order : (text : List ℕ) (ts : List Token) (f : FileParsed) → Parses text (Ok f) → f.tokens ≡ map seen ts → IsNonDecreasingBy (λ (t : Token). t.span.from) ts
parsed_in_order text ts f p e =
    in_order ts 0 (subst (λ (l : List TokenSeen). Rises 0 (map as_lexed l)) e (lexed_rise 0 (chars text) (map as_lexed f.tokens) (tokens_in text (Ok f) p)))

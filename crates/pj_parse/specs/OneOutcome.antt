-- One outcome comes of each text: a proof, on which a definition rests.
use Rattle.std.proofs.Common.{◌≡◌, ◌≤◌, ◌<◌, ◌+◌, ℕ, Bool, true, false, nat_lt, if◌then◌else◌, List, [], ◌∷◌, ◌++◌, length, map, Result, Ok, Err, ◌⊎◌, inl, inr, None, refl, sym, ◌∙◌, ap, subst, arith}
use Rattle.std.specs.Str.{chars}
use Rattle.pj_lex.specs.Tokens.{Lexed, Tokens, ended, token, fault, fault_of}
use Rattle.pj_lex.specs.Size.{size}
use Rattle.pj_lex.specs.declared.token.LexFault.{LexFault}
use Rattle.pj_peg_grammar.specs.Form.{rule}
use Rattle.pj_peg_grammar.specs.Derivation.{Forest}
use Rattle.pj_peg_grammar.specs.Derives.{Derives, Outcome, To, Fails}
use Rattle.pj_tree.specs.Tree.{Tree, greatest_depth}
use Rattle.pj_tree.specs.Building.{Building, finished, tree_of}
use Rattle.pj_tree.specs.Nested.{preorder}
use Rattle.pj_tree.specs.declared.shape_fault.ShapeFault.{ShapeFault}
use Rattle.pj_tree.specs.declared.shape_fault.ShapeFault.TheVariants as shape
use Rattle.pj_grammar.specs.Java17.{java_17_forms, java_17_shapes}
use Rattle.pj_shape.specs.ShapedTree.{shaped_tree, parts_of_derivation}
use Rattle.pj_parse.specs.declared.fault.ParseFault.{ParseFault}
use Rattle.pj_parse.specs.declared.fault.ParseFault.TheVariants.{Lex, TooManyTokens, Syntax, TooDeep, TooMany}
use Rattle.pj_parse.specs.declared.fault.ParseFault.TheVariants as unparsed
use Rattle.pj_grammar.specs.Words.{TokenSeen, as_lexed, AreTokens, EndsInFault, words, spans, terminals}
use Rattle.pj_parse.specs.Faults.{of_shape}
use Rattle.pj_parse.specs.Laws.{HasOneOutcome}
use Rattle.pj_parse.specs.Parses.{Parses, FileParsed, HasWords, HasDerivation, most_words, lexical_fault, too_many_tokens, syntax_fault, too_deep, too_many, parsed}

-- ---- lists of what is lexed

-- the last one is a fault, or none is
same_tokens : (ts us : List TokenSeen) → map as_lexed ts ≡ map as_lexed us → ts ≡ us
same_tokens [] [] e = refl
same_tokens [] (u ∷ us) e = absurd (cc)
same_tokens (t ∷ ts) [] e = absurd (cc)
same_tokens (t ∷ ts) (u ∷ us) e =
    let heads : as_lexed t ≡ as_lexed u = cc in
    let tails : map as_lexed ts ≡ map as_lexed us = cc in
    let what : Ok t.kind ≡ Ok u.kind = ap (λ (l : Lexed). l.what) heads in
    let kind : t.kind ≡ u.kind = cc in
    let text = ap (λ (l : Lexed). l.text) heads in
    let from = ap (λ (l : Lexed). l.from) heads in
    let to = ap (λ (l : Lexed). l.to) heads in
    λ i. record { kind = kind i; text = text i; span = record { from = from i; to = to i } } ∷ same_tokens ts us tails i

no_fault : (ts us : List TokenSeen) (f : LexFault) → map as_lexed ts ≡ map as_lexed us ++ fault_of f.kind f.offset ∷ [] → ⊥
no_fault [] [] f e = cc
no_fault [] (u ∷ us) f e = cc
no_fault (t ∷ ts) [] f e =
    let heads : as_lexed t ≡ fault_of f.kind f.offset = cc in
    let what : Ok t.kind ≡ Err f.kind = ap (λ (l : Lexed). l.what) heads in
    cc
no_fault (t ∷ ts) (u ∷ us) f e = let tails : map as_lexed ts ≡ map as_lexed us ++ fault_of f.kind f.offset ∷ [] = cc in no_fault ts us f tails

same_fault : (ts us : List TokenSeen) (f g : LexFault) → map as_lexed ts ++ fault_of f.kind f.offset ∷ [] ≡ map as_lexed us ++ fault_of g.kind g.offset ∷ [] → f ≡ g
same_fault [] [] f g e =
    let heads : fault_of f.kind f.offset ≡ fault_of g.kind g.offset = cc in
    let what : Err f.kind ≡ Err g.kind = ap (λ (l : Lexed). l.what) heads in
    let kind : f.kind ≡ g.kind = cc in
    let from = ap (λ (l : Lexed). l.from) heads in
    λ i. record { kind = kind i; offset = from i }
same_fault [] (u ∷ us) f g e =
    let heads : fault_of f.kind f.offset ≡ as_lexed u = cc in
    let what : Err f.kind ≡ Ok u.kind = ap (λ (l : Lexed). l.what) heads in
    absurd (cc)
same_fault (t ∷ ts) [] f g e =
    let heads : as_lexed t ≡ fault_of g.kind g.offset = cc in
    let what : Ok t.kind ≡ Err g.kind = ap (λ (l : Lexed). l.what) heads in
    absurd (cc)
same_fault (t ∷ ts) (u ∷ us) f g e =
    let tails : map as_lexed ts ++ fault_of f.kind f.offset ∷ [] ≡ map as_lexed us ++ fault_of g.kind g.offset ∷ [] = cc in
    same_fault ts us f g tails

-- what is lexed are tokens, or tokens and then a fault
abbrev Split : List Lexed → Type 0
Split ls = ((ts : List TokenSeen) × (map as_lexed ts ≡ ls)) ⊎ ((ts : List TokenSeen) × ((f : LexFault) × (map as_lexed ts ++ fault_of f.kind f.offset ∷ [] ≡ ls)))

one_before : (t : TokenSeen) (ls : List Lexed) → Split ls → Split (as_lexed t ∷ ls)
one_before t ls (inl (ts, e)) = inl (t ∷ ts, ap (λ l. as_lexed t ∷ l) e)
one_before t ls (inr (ts, (f, e))) = inr (t ∷ ts, (f, ap (λ l. as_lexed t ∷ l) e))

split : (at : ℕ) (text : List ℕ) (ls : List Lexed) → Tokens at text ls → Split ls
split _ _ _ (ended at text h) = inl ([], refl)
split _ _ _ (token at text gap w behind k more p h b rest) = one_before (record { kind = k; text = w; span = record { from = at + size gap; to = at + size gap + size w } }) more (split (at + size (gap ++ w)) behind more rest)
split _ _ _ (fault at text gap behind rest c f p h n b) = inr ([], (record { kind = f; offset = at + size gap }, refl))

-- ---- what comes of tokens

abbrev of_tree : List TokenSeen → Result Tree ShapeFault → Result FileParsed ParseFault
of_tree ts (Ok tree) = Ok (record { tree = tree; tokens = ts })
of_tree ts (Err f) = Err (of_shape f)

abbrev tree_by : List ℕ → List TokenSeen → Forest → Result Tree ShapeFault
tree_by text ts d = shaped_tree text (spans (words ts)) java_17_shapes d

abbrev by_outcome : List ℕ → List TokenSeen → Outcome → Result FileParsed ParseFault
by_outcome text ts Fails = Err Syntax
by_outcome text ts (To j d) = of_tree ts (tree_by text ts d)

abbrev DerivesFirst : List TokenSeen → Outcome → Type 0
DerivesFirst ts q = Derives java_17_forms (terminals (words ts)) (rule 0) 0 q

-- the outcome for these tokens
abbrev Rest : List ℕ → List TokenSeen → Result FileParsed ParseFault → Type 0
Rest text ts o =
    ((most_words < length (words ts)) × (o ≡ Err (TooManyTokens (length (words ts)))))
    ⊎ ((length (words ts) ≤ most_words) × ((q : Outcome) × DerivesFirst ts q × (o ≡ by_outcome text ts q)))

abbrev Cases : List ℕ → Result FileParsed ParseFault → Type 0
Cases text o = ((f : LexFault) × (EndsInFault text f × (o ≡ Err (Lex f)))) ⊎ ((ts : List TokenSeen) × (AreTokens text ts × Rest text ts o))

cases : (text : List ℕ) (o : Result FileParsed ParseFault) → Parses text o → Cases text o
cases text _ (lexical_fault f e) = inl (f, (e, refl))
cases text _ (too_many_tokens ts t m) = inr (ts, (t, inl (m, refl)))
cases text _ (syntax_fault ts h d) = inr (ts, (h.tokens, inr (h.few, (Fails, d, refl))))
cases text _ (too_deep ts d depth h e) = inr (ts, (h.words_are.tokens, inr (h.words_are.few, (To h.end d, h.derives, ap (of_tree ts) (sym e)))))
cases text _ (too_many ts d count h e) = inr (ts, (h.words_are.tokens, inr (h.words_are.few, (To h.end d, h.derives, ap (of_tree ts) (sym e)))))
cases text _ (parsed ts d tree h e) = inr (ts, (h.words_are.tokens, inr (h.words_are.few, (To h.end d, h.derives, ap (of_tree ts) (sym e)))))

-- ---- only one

abbrev OneDerivation : Type 0
OneDerivation = (kinds : List ℕ) → (q : Outcome) × Derives java_17_forms kinds (rule 0) 0 q × ((p : Outcome) → Derives java_17_forms kinds (rule 0) 0 p → p ≡ q)

abbrev OneList : List ℕ → Type 0
OneList text = (ls ms : List Lexed) → Tokens 0 (chars text) ls → Tokens 0 (chars text) ms → ls ≡ ms

same_rest : OneDerivation → (text : List ℕ) (ts : List TokenSeen) (o p : Result FileParsed ParseFault) → Rest text ts o → Rest text ts p → o ≡ p
same_rest one text ts o p (inl (m, e)) (inl (n, f)) = e ∙ sym f
same_rest one text ts o p (inl (m, e)) (inr (n, f)) = absurd (omega arith)
same_rest one text ts o p (inr (m, e)) (inl (n, f)) = absurd (omega arith)
same_rest one text ts o p (inr (m, (q, d, e))) (inr (n, (r, c, f))) =
    let all = one (terminals (words ts)) in
    e ∙ ap (by_outcome text ts) (all.2 q d ∙ sym (all.2 r c)) ∙ sym f

same_cases : (text : List ℕ) → OneList text → OneDerivation → (o p : Result FileParsed ParseFault) → Cases text o → Cases text p → o ≡ p
same_cases text lists one o p (inl (f, ((ts, t), e))) (inl (g, ((us, u), h))) = e ∙ ap (λ x. Err (Lex x)) (same_fault ts us f g (lists _ _ t u)) ∙ sym h
same_cases text lists one o p (inl (f, ((ts, t), e))) (inr (us, (u, r))) = absurd (no_fault us ts f (lists _ _ u t))
same_cases text lists one o p (inr (ts, (t, r))) (inl (g, ((us, u), h))) = absurd (no_fault ts us g (lists _ _ t u))
same_cases text lists one o p (inr (ts, (t, r))) (inr (us, (u, s))) =
    same_rest one text us o p (subst (λ l. Rest text l o) (same_tokens ts us (lists _ _ t u)) r) s

-- ---- and one there is

never_memory : (b : Building) → finished b ≡ Err shape.Memory → ⊥
never_memory b e = by_tests (nat_lt 1000 (greatest_depth b.nodes)) (nat_lt 2000000 (length b.nodes)) (greatest_depth b.nodes) (length b.nodes) e
  where
    by_tests : (deep many : Bool) (depth count : ℕ) → (if deep then Err (shape.TooDeep depth) else if many then Err (shape.TooMany count) else Ok (tree_of b)) ≡ Err shape.Memory → ⊥
    by_tests true many depth count f = cc
    by_tests false true depth count f = cc
    by_tests false false depth count f = cc

abbrev There : List ℕ → Type 0
There text = (o : Result FileParsed ParseFault) × Parses text o

tree_there : (text : List ℕ) (ts : List TokenSeen) (d : Forest) → HasDerivation text ts d → (r : Result Tree ShapeFault) → tree_by text ts d ≡ r → There text
tree_there text ts d h (Ok tree) e = (Ok (record { tree = tree; tokens = ts }), parsed ts d tree h e)
tree_there text ts d h (Err (shape.TooDeep depth)) e = (Err (TooDeep depth), too_deep ts d depth h e)
tree_there text ts d h (Err (shape.TooMany count)) e = (Err (TooMany count), too_many ts d count h e)
tree_there text ts d h (Err shape.Memory) e = absurd (never_memory (record { text = text; nodes = preorder None 0 (parts_of_derivation text (spans (words ts)) java_17_shapes d); current = None }) e)

outcome_there : (text : List ℕ) (ts : List TokenSeen) → HasWords text ts → (q : Outcome) → DerivesFirst ts q → There text
outcome_there text ts h Fails d = (Err Syntax, syntax_fault ts h d)
outcome_there text ts h (To j f) d = tree_there text ts f (record { words_are = h; end = j; derives = d }) (tree_by text ts f) refl

tokens_there : OneDerivation → (text : List ℕ) (ts : List TokenSeen) → AreTokens text ts → There text
tokens_there one text ts t =
    elim (Decided (length (words ts)) most_words) [
      | inl few ↦ (let all = one (terminals (words ts)) in outcome_there text ts (record { tokens = t; few = few }) all.0 all.1)
      | inr many ↦ (Err (TooManyTokens (length (words ts))), too_many_tokens ts t many)
    ]
  where
    Decided : (a b : ℕ) → (a ≤ b) ⊎ (b < a)
    Decided a b = elim (nat_lt b a) as (λ t. nat_lt b a ≡ t → (a ≤ b) ⊎ (b < a)) [ true ↦ λ e. inr (grind arith) | false ↦ λ e. inl (grind arith) ] refl

there : OneDerivation → (text : List ℕ) (ls : List Lexed) → Tokens 0 (chars text) ls → There text
there one text ls t =
    elim (split 0 (chars text) ls t) [
      | inl (ts, e) ↦ tokens_there one text ts (subst (Tokens 0 (chars text)) (sym e) t)
      | inr (ts, (f, e)) ↦ (Err (Lex f), lexical_fault f (ts, subst (Tokens 0 (chars text)) (sym e) t))
    ]

pub one_of_text : (text : List ℕ) → OneList text → OneDerivation → (ls : List Lexed) → Tokens 0 (chars text) ls → HasOneOutcome text
one_of_text text lists one ls t =
    let r = there one text ls t in
    record { outcome = r.0; comes = r.1; one = λ o p. same_cases text lists one o r.0 (cases text o p) (cases text r.0 r.1) }

-- a fault among the tokens is one of the text
pub ends_in_fault : (text : List ℕ) (f : LexFault) → Parses text (Err (Lex f)) → EndsInFault text f
ends_in_fault text f p = from_cases (cases text (Err (Lex f)) p)
  where
    from_outcome : (ts : List TokenSeen) (q : Outcome) → Err (Lex f) ≡ by_outcome text ts q → EndsInFault text f
    from_outcome ts Fails e = absurd (cc)
    from_outcome ts (To j d) e = from_tree (tree_by text ts d) e
      where
        from_tree : (r : Result Tree ShapeFault) → Err (Lex f) ≡ of_tree ts r → EndsInFault text f
        from_tree (Ok tree) h = absurd (cc)
        from_tree (Err (shape.TooDeep depth)) h = absurd (cc)
        from_tree (Err (shape.TooMany count)) h = absurd (cc)
        from_tree (Err shape.Memory) h = absurd (cc)

    from_cases : Cases text (Err (Lex f)) → EndsInFault text f
    from_cases (inl (g, (ends, e))) = (let same : g ≡ f = cc in subst (EndsInFault text) same ends)
    from_cases (inr (ts, (t, inl (m, e)))) = absurd (cc)
    from_cases (inr (ts, (t, inr (m, (q, d, e))))) = from_outcome ts q e

-- want of memory is no outcome of a text
pub never_memory_of_text : (text : List ℕ) → Parses text (Err unparsed.Memory) → ⊥
never_memory_of_text text p = from_cases (cases text (Err unparsed.Memory) p)
  where
    from_tree : (ts : List TokenSeen) (d : Forest) (r : Result Tree ShapeFault) → tree_by text ts d ≡ r → Err unparsed.Memory ≡ of_tree ts r → ⊥
    from_tree ts d (Ok tree) is e = cc
    from_tree ts d (Err (shape.TooDeep depth)) is e = cc
    from_tree ts d (Err (shape.TooMany count)) is e = cc
    from_tree ts d (Err shape.Memory) is e = never_memory (record { text = text; nodes = preorder None 0 (parts_of_derivation text (spans (words ts)) java_17_shapes d); current = None }) is

    from_outcome : (ts : List TokenSeen) (q : Outcome) → Err unparsed.Memory ≡ by_outcome text ts q → ⊥
    from_outcome ts Fails e = cc
    from_outcome ts (To j d) e = from_tree ts d (tree_by text ts d) refl e

    from_cases : Cases text (Err unparsed.Memory) → ⊥
    from_cases (inl (g, (ends, e))) = cc
    from_cases (inr (ts, (t, inl (m, e)))) = cc
    from_cases (inr (ts, (t, inr (m, (q, d, e))))) = from_outcome ts q e

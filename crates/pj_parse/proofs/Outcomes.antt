-- What comes of a text, from what its parts came to.
use Rattle.std.proofs.Common.{◌≡◌, ◌≤◌, ◌<◌, ℕ, Bool, true, false, nat_lt, if◌then◌else◌, None, List, length, Ok, Err, ◌⊎◌, inl, inr, refl, sym, ◌∙◌, ap, subst, arith}
use Rattle.std.proofs.lemmas.List.{length-map}
use Rattle.pj_peg_grammar.specs.Derivation.{Forest}
use Rattle.pj_peg_grammar.specs.Form.{rule}
use Rattle.pj_peg_grammar.specs.Derives.{Derives, To, DerivesSteps, FailsAtStart}
use Rattle.pj_peg_grammar.specs.declared.derivation.Step.{Step}
use Rattle.pj_tree.specs.Tree.{Tree, greatest_depth}
use Rattle.pj_tree.specs.Building.{Building, finished, tree_of}
use Rattle.pj_tree.specs.Nested.{preorder}
use Rattle.pj_tree.specs.declared.node.Span.{Span}
use Rattle.pj_tree.specs.declared.shape_fault.ShapeFault.{ShapeFault}
use Rattle.pj_tree.specs.declared.shape_fault.ShapeFault.TheVariants as shape
use Rattle.pj_shape.specs.ShapedTree.{shaped_tree, parts_of_derivation}
use Rattle.pj_shape.specs.declared.shape.Shape.{Shape}
use Rattle.pj_parse.specs.declared.fault.ParseFault.{ParseFault}
use Rattle.pj_parse.specs.declared.fault.ParseFault.TheVariants.{Lex, TooManyTokens, Syntax, TooDeep, TooMany, Memory}
use Rattle.pj_grammar.specs.Words.{TokenSeen, AreTokens, words, spans, terminals}
use Rattle.pj_grammar.specs.Java17.{java_17_forms, java_17_shapes}
use Rattle.pj_grammar.specs.Terminal.{terminal_of, terminal_number}
use Rattle.pj_parse.specs.Faults.{IsFaultOfTokens, of_shape}
use Rattle.pj_parse.specs.Parses.{Parses, HasWords, HasDerivation, lexical_fault, too_many_tokens, syntax_fault, too_deep, too_many}

-- want of memory, or what comes of the text
abbrev pub Faulty : List ℕ → ParseFault → Type 0
Faulty text f = (f ≡ Memory) ⊎ Parses text (Err f)

pub fault_of_tokens : (text : List ℕ) (f : ParseFault) → IsFaultOfTokens text f → Faulty text f
fault_of_tokens text (Lex f) h = inr (lexical_fault f h)
fault_of_tokens text (TooManyTokens n) h = absurd h
fault_of_tokens text Syntax h = absurd h
fault_of_tokens text (TooDeep d) h = absurd h
fault_of_tokens text (TooMany n) h = absurd h
fault_of_tokens text Memory h = inl refl

count_same : (ts : List TokenSeen) (ks : List ℕ) → ks ≡ terminals (words ts) → length ks ≡ length (words ts)
count_same ts ks e = ap length e ∙ length-map (words ts) (λ (t : TokenSeen). terminal_number (terminal_of t.kind t.text))

pub many_tokens : (text : List ℕ) (ts : List TokenSeen) (ks : List ℕ) → AreTokens text ts → ks ≡ terminals (words ts) → (n : ℕ) → n ≡ length ks → 200000 < n → Faulty text (TooManyTokens n)
many_tokens text ts ks tokens e n c many =
    let same : length (words ts) ≡ n = sym (count_same ts ks e) ∙ sym c in
    inr (subst (λ k. Parses text (Err (TooManyTokens k))) same (too_many_tokens ts tokens (omega arith)))

pub has_words : (text : List ℕ) (ts : List TokenSeen) (ks : List ℕ) → AreTokens text ts → ks ≡ terminals (words ts) → length ks ≤ 200000 → HasWords text ts
has_words text ts ks tokens e few = let same = count_same ts ks e in record { tokens = tokens; few = omega arith }

pub not_derived : (text : List ℕ) (ts : List TokenSeen) (ks : List ℕ) (f : ParseFault) → HasWords text ts → ks ≡ terminals (words ts) →
    ((f ≡ Memory) ⊎ ((f ≡ Syntax) × FailsAtStart java_17_forms ks)) → Faulty text f
not_derived text ts ks f h e (inl m) = inl m
not_derived text ts ks f h e (inr (s, fails)) = inr (subst (λ g. Parses text (Err g)) (sym s) (syntax_fault ts h (subst (FailsAtStart java_17_forms) e fails)))

-- the words of the text are derived by these steps
pub derivation_of : (text : List ℕ) (ts : List TokenSeen) (ks : List ℕ) (steps : List Step) → HasWords text ts → ks ≡ terminals (words ts) →
    (h : DerivesSteps java_17_forms ks steps) → HasDerivation text ts h.1
derivation_of text ts ks steps h e d = record { words_are = h; end = d.0; derives = subst (λ l. Derives java_17_forms l (rule 0) 0 (To d.0 d.1)) e d.2 }

-- ---- the tree

no_memory_fault : (text : List ℕ) (ts : List TokenSeen) (d : Forest) (f : ShapeFault) → HasDerivation text ts d → shaped_tree text (spans (words ts)) java_17_shapes d ≡ Err f → Faulty text (of_shape f)
no_memory_fault text ts d (shape.TooDeep depth) h e = inr (too_deep ts d depth h e)
no_memory_fault text ts d (shape.TooMany count) h e = inr (too_many ts d count h e)
no_memory_fault text ts d shape.Memory h e = inl refl

pub tree_faulty : (text : List ℕ) (ts : List TokenSeen) (d : Forest) (f : ShapeFault) (g : ParseFault) → HasDerivation text ts d → g ≡ of_shape f →
    ((f ≡ shape.Memory) ⊎ (shaped_tree text (spans (words ts)) java_17_shapes d ≡ Err f)) → Faulty text g
tree_faulty text ts d f g h k (inl m) = inl (k ∙ ap of_shape m)
tree_faulty text ts d f g h k (inr s) = subst (Faulty text) (sym k) (no_memory_fault text ts d f h s)

-- the tree is one of the text
pub tree_text : (text : List ℕ) (ss : List Span) (shapes : List Shape) (d : Forest) (tree : Tree) → shaped_tree text ss shapes d ≡ Ok tree → tree.text ≡ text
tree_text text ss shapes d tree e = of_building (record { text = text; nodes = preorder None 0 (parts_of_derivation text ss shapes d); current = None }) e
  where
    by_tests : (b : Building) (deep many : Bool) (depth count : ℕ) → (if deep then Err (shape.TooDeep depth) else if many then Err (shape.TooMany count) else Ok (tree_of b)) ≡ Ok tree → tree.text ≡ b.text
    by_tests b true many depth count f = absurd (cc)
    by_tests b false true depth count f = absurd (cc)
    by_tests b false false depth count f = (let same : tree_of b ≡ tree = cc in sym (ap (λ (t : Tree). t.text) same))

    of_building : (b : Building) → finished b ≡ Ok tree → tree.text ≡ b.text
    of_building b f = by_tests b (nat_lt 1000 (greatest_depth b.nodes)) (nat_lt 2000000 (length b.nodes)) (greatest_depth b.nodes) (length b.nodes) f

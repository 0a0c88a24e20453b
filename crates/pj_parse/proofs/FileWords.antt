-- The tree of a file has each word of its text.
use Rattle.std.proofs.Common.{◌≡◌, ℕ, suc, ◌+◌, ◌<◌, ◌≤◌, inl, inr, Bool, true, false, cond, not, nat_lt, if◌then◌else◌, List, [], ◌∷◌, ◌++◌, length, map, Ok, Err, None, refl, sym, ◌∙◌, ap, subst, arith, length-append}
use Rattle.std.specs.Prelude.{Contains}
use Rattle.std.specs.Char.{encode_utf8}
use Rattle.std.specs.Str.{chars, IsUtf8, encode_utf8_all}
use Rattle.std.proofs.lemmas.List.{length-map}
use Rattle.std.proofs.lemmas.Str.{length-encode, len_utf8_bounds}
use Rattle.pj_lex.specs.Rules.{Spells}
use Rattle.pj_lex.specs.Size.{size}
use Rattle.pj_lex.specs.Tokens.{Lexed, Begins, Tokens, longest, nothing, ended, token, fault}
use Rattle.pj_lex.specs.declared.token.TokenKind.{TokenKind}
use Rattle.pj_source.proofs.FileTexts.{text_placed}
use Rattle.pj_lex.proofs.Unique.{spells_empty}
use Rattle.pj_grammar.specs.Java17.{java_17_forms, java_17_shapes}
use Rattle.pj_grammar.specs.Terminal.{terminal_of, terminal_number}
use Rattle.pj_grammar.proofs.IsWellFormed.{is_in}
use Rattle.pj_grammar.proofs.Numbers.{file_makes_node}
use Rattle.pj_grammar.proofs.Places.{nullable}
use Rattle.pj_grammar.proofs.Shut.{hollow, solid_names, java_17_tight, file_takes_all}
use Rattle.pj_peg_grammar.specs.Derivation.{Forest}
use Rattle.pj_peg_grammar.specs.Derives.{Derives, To}
use Rattle.pj_peg_grammar.specs.Form.{rule}
use Rattle.pj_tree.specs.Building.{Building, finished, tree_of}
use Rattle.pj_tree.specs.Nested.{preorder, tokens_of}
use Rattle.pj_tree.specs.Tree.{Tree, greatest_depth}
use Rattle.pj_tree.specs.declared.node.Span.{Span}
use Rattle.pj_tree.specs.declared.shape_fault.ShapeFault.TheVariants as shape
use Rattle.pj_shape.specs.Shaped.{Nodes, no_nodes, node, nodes_of}
use Rattle.pj_shape.specs.ShapedTree.{roots_of, parts_of_derivation, shaped_tree}
use Rattle.pj_shape.specs.Typed.{with_types}
use Rattle.pj_shape.specs.Words.{AreTokens, is_small}
use Rattle.pj_shape.proofs.Derived.{HaveEachToken, derived_parts}
use Rattle.pj_shape.proofs.Laying.{lies}
use Rattle.pj_parse.specs.JavaFile.{JavaFile, IsJavaFile, file}
use Rattle.pj_parse.specs.OwnTokens.{HasEachWord, HasOwnTokens}
use Rattle.pj_parse.specs.Parses.{Parses, FileParsed, parsed}
use Rattle.pj_grammar.specs.Words.{TokenSeen, as_lexed, words, spans, terminals, is_comment}
use Rattle.pj_parse.proofs.Owners.{own_tokens}
use Rattle.pj_grammar.proofs.Stretches.{words_are_tokens}
use Rattle.pj_parse.proofs.TokenOwners.{Among, among_contains}

-- ---- words are not empty

some_characters : (w : List ℕ) → (w ≡ [] → ⊥) → 0 < size w
some_characters [] h = absurd (h refl)
some_characters (c ∷ cs) h =
    let all = length-append (encode_utf8 c) (encode_utf8_all cs) in
    let one = length-encode c in
    let some = (len_utf8_bounds c).0 in
    omega arith

empty_list : (v : List ℕ) → length v ≡ 0 → v ≡ []
empty_list [] h = refl
empty_list (c ∷ cs) h = absurd (let l : length (c ∷ cs) ≡ suc (length cs) = refl in omega arith)

spelled_some : (w behind : List ℕ) (k : TokenKind) → Begins (w ++ behind) (Ok k) behind → w ≡ [] → ⊥
spelled_some w behind k (longest v is spells most) e =
    let a = length-append w behind in
    let b = length-append v behind in
    let c : length (w ++ behind) ≡ length (v ++ behind) = ap length is in
    let d : length w ≡ 0 = ap length e in
    spells_empty behind (Ok k) (subst (Spells behind (Ok k)) (empty_list v (omega arith)) spells)
spelled_some w behind k (nothing none is) e = cc

abbrev IsSome : Lexed → Type 0
IsSome l = (k : TokenKind) → l.what ≡ Ok k → l.from < l.to

abbrev AreSome : List Lexed → Type 0
AreSome [] = Unit {0}
AreSome (l ∷ ls) = IsSome l × AreSome ls

lexed_some : (at : ℕ) (text : List ℕ) (ls : List Lexed) → Tokens at text ls → AreSome ls
lexed_some _ _ _ (ended at text h) = tt
lexed_some _ _ _ (token at text gap w behind k more p h b rest) =
    (λ j is. (let some = some_characters w (spelled_some w behind k b) in omega arith), lexed_some (at + size (gap ++ w)) behind more rest)
lexed_some _ _ _ (fault at text gap behind rest c f p h n b) = (λ k is. absurd (cc), tt)

words_some : (ts : List TokenSeen) → AreSome (map as_lexed ts) → (s : Span) → Among (spans (words ts)) s → s.from < s.to
words_some [] all s h = absurd h
words_some (t ∷ ts) all s h = by_test (not (is_comment t.kind)) (words_some ts all.1 s) h
  where
    by_test : (b : Bool) → (Among (spans (words ts)) s → s.from < s.to) → Among (spans (cond b (t ∷ words ts) (words ts))) s → s.from < s.to
    by_test true later (inl e) = (let some = all.0 t.kind refl in subst (λ (x : Span). x.from < x.to) e some)
    by_test true later (inr g) = later g
    by_test false later g = later g

-- ---- the tree

tree_nodes : (text : List ℕ) (ss : List Span) (d : Forest) (tree : Tree) → shaped_tree text ss java_17_shapes d ≡ Ok tree → tree ≡ record { text = text; nodes = preorder None 0 (parts_of_derivation text ss java_17_shapes d) }
tree_nodes text ss d tree e = of_building (record { text = text; nodes = preorder None 0 (parts_of_derivation text ss java_17_shapes d); current = None }) e
  where
    by_tests : (b : Building) (deep many : Bool) (depth count : ℕ) → (if deep then Err (shape.TooDeep depth) else if many then Err (shape.TooMany count) else Ok (tree_of b)) ≡ Ok tree → tree ≡ tree_of b
    by_tests b true many depth count f = absurd (cc)
    by_tests b false true depth count f = absurd (cc)
    by_tests b false false depth count f = (let same : tree_of b ≡ tree = cc in sym same)

    of_building : (b : Building) → finished b ≡ Ok tree → tree ≡ tree_of b
    of_building b f = by_tests b (nat_lt 1000 (greatest_depth b.nodes)) (nat_lt 2000000 (length b.nodes)) (greatest_depth b.nodes) (length b.nodes) f

no_outer : (text : List ℕ) (ss : List Span) (ns : Nodes) → tokens_of (roots_of text ss ns) ≡ []
no_outer text ss no_nodes = refl
no_outer text ss (node k i j below after) = no_outer text ss after

pub each_word : (text : List ℕ) (p : FileParsed) → IsUtf8 text → Parses text (Ok p) → HasEachWord p.tree (spans (words p.tokens))
each_word text _ u (parsed ts d tree h e) =
    let ss : List Span = spans (words ts) in
    let kinds : List ℕ = terminals (words ts) in
    let are : AreTokens text ss = words_are_tokens text ts ss u h.words_are.tokens refl in
    let count : length kinds ≡ length ss = length-map (words ts) (λ (t : TokenSeen). terminal_number (terminal_of t.kind t.text)) ∙ sym (length-map (words ts) (λ (t : TokenSeen). t.span)) in
    let all : length kinds ≤ h.end = file_takes_all h.derives in
    let zero_le : 0 ≤ length kinds = omega arith in
    let within : h.end ≤ length kinds = (lies h.derives).1 zero_le in
    let end : h.end ≡ length ss = omega arith in
    let derives : Derives java_17_forms kinds (rule 0) 0 (To (length ss) d) = subst (λ n. Derives java_17_forms kinds (rule 0) 0 (To n d)) end h.derives in
    let have : HaveEachToken text ss (parts_of_derivation text ss java_17_shapes d) = derived_parts hollow solid_names text ss are (is_in nullable) java_17_forms java_17_shapes java_17_tight file_makes_node kinds d derives in
    let made : Tree = record { text = text; nodes = preorder None 0 (parts_of_derivation text ss java_17_shapes d) } in
    let each : HasEachWord made ss = record {
      parts = parts_of_derivation text ss java_17_shapes d;
      nodes_are = refl;
      in_order = have.stand;
      words_are = have.tokens;
      rooted = no_outer text ss (with_types text ss (nodes_of java_17_shapes (is_small text ss) d));
    } in
    subst (λ (t : Tree). HasEachWord t ss) (sym (tree_nodes text ss d tree e)) each

some_words : (text : List ℕ) (p : FileParsed) → Parses text (Ok p) → (s : Span) → Contains (spans (words p.tokens)) s → s.from < s.to
some_words text _ (parsed ts d tree h e) s c =
    words_some ts (lexed_some 0 (chars text) (map as_lexed ts) h.words_are.tokens) s (among_contains (spans (words ts)) s c)

pub tokens_owned : (text : List ℕ) (p : FileParsed) → IsUtf8 text → Parses text (Ok p) → HasOwnTokens p.tree (spans (words p.tokens))
tokens_owned text p u h = own_tokens p.tree (spans (words p.tokens)) (each_word text p u h) (some_words text p h)

-- ---- files

pub file_words : (bytes : List ℕ) (f : JavaFile) → IsJavaFile bytes (Ok f) → HasEachWord f.tree (spans (words f.tokens))
file_words bytes _ (file s p r q) = each_word s.text p (text_placed bytes s r).utf8 q

pub file_tokens : (bytes : List ℕ) (f : JavaFile) → IsJavaFile bytes (Ok f) → HasOwnTokens f.tree (spans (words f.tokens))
file_tokens bytes _ (file s p r q) = tokens_owned s.text p (text_placed bytes s r).utf8 q

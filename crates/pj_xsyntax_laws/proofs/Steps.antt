-- Steps, with their predicates.
use Rattle.std.proofs.Common.{◌≡◌, ◌∙◌, ℕ, suc, ◌+◌, ◌≤◌, List, [], ◌∷◌, ◌++◌, Bool, false, max, Option, Some, codes, refl, sym, ap, subst, arith}
use Rattle.std.specs.Prelude.{IsTrue}
use Rattle.std.specs.Str.{encode_utf8_all}
use Rattle.std.proofs.lemmas.Bool.{false≢true}
use Rattle.pj_xtokens.specs.Tokens.{Lexed, lexed}
use Rattle.pj_xtokens.specs.declared.token.Sign.TheVariants as s
use Rattle.pj_xtokens.specs.declared.token.TokenKind.TheVariants as kind
use Rattle.pj_xgrammar.specs.declared.rule.Rule.TheVariants as r
use Rattle.pj_xgrammar.specs.declared.terminal.Behind.TheVariants as b
use Rattle.pj_xgrammar.specs.Terminals.{first_behind, begins_step, terminal_number, word_terminal}
use Rattle.pj_xgrammar.specs.Words.{word_of}
use Rattle.pj_xgrammar.specs.declared.word.Word.TheVariants as w
use Rattle.pj_xgrammar.specs.declared.word.Keyword.TheVariants as k
use Rattle.pj_xsyntax_laws.specs.Spaced.{Word, placed}
use Rattle.pj_xexpressions.specs.declared.axis.Axis.{Axis}
use Rattle.pj_xexpressions.specs.declared.axis.Axis.TheVariants as axes
use Rattle.pj_xexpressions.specs.declared.expr.NodeTest.{NodeTest}
use Rattle.pj_xexpressions.specs.declared.expr.NodeTest.TheVariants as tests
use Rattle.pj_xexpressions.specs.Expressions.{Scope, Other}
use Rattle.pj_xexpressions.specs.Names.{axis_of}
use Rattle.pj_xexpressions.specs.Trees as tree
use Rattle.pj_xexpressions.specs.Trees.{Tree, Trees, Node, NoMore, More, trees}
use Rattle.pj_xreadings.specs.Steps.{along}
use Rattle.pj_xreadings.specs.Operands.{Test, names_of, trees_of}
use Rattle.pj_xmeaning.specs.Reach.{All}
use Rattle.pj_xmeaning.specs.Reads as relation
use Rattle.pj_xmeaning.specs.Reads.{Takes, token, predicate, no_predicate, parent, axis_name, axis_test}
use Rattle.pj_xreadings.specs.Shapes.{part_of_tree}
use Rattle.pj_xreadings.specs.Spelled.{IsTestSpelled}
use Rattle.pj_xreadings.specs.Nesting as nesting
use Rattle.pj_xreadings.specs.Nesting.{nested_of, nested_each, axis_nesting, test_nesting}
use Rattle.pj_xsyntax_laws.specs.Printed.{printed_of, printed_each, predicates, step_words, test_words, named, axis_name as name_of_axis, sign, words_of}
use Rattle.pj_xsyntax_laws.proofs.Follows.{no_phrase, follows-phrase}
use Rattle.pj_xsyntax_laws.proofs.Names.{test_reads}
use Rattle.pj_xsyntax_laws.proofs.Climbing.{descend}
use Rattle.pj_xsyntax_laws.proofs.Readings.{Reading, ReadsAt, Reads, EachReads, no_parts, more_parts, Listing, no_names, more_names, all-trees, all-clean, list_of, list_is, operand_of, at, next, past, as_reading, together}
use Rattle.pj_xsyntax_laws.proofs.Tables.{axis-word, axis-meaning, attribute-meaning, axis-behind}
use Rattle.pj_xsyntax_laws.proofs.Tails.{max-left, max-right}
use Rattle.pj_xsyntax_laws.proofs.WholeReadings.{reading}

-- predicates are read wherever they stand
pub predicates_read : {scope : Scope} (ts : Trees) → EachReads scope ts → (depth from : ℕ) (ys : List Lexed) → depth + nesting.enclosed (nested_each ts) ≤ 200
    → Listing (relation.Reads All r.PredicateList) depth (placed from (predicates (printed_each ts)) ++ ys) ys scope (list_of ts)
unfolding printed_of nested_of
predicates_read _ no_parts depth from ys h = record { operands = []; reads = reading no_predicate; each = no_names }
predicates_read {scope} _ (more_parts {t = t} {ts = ts} it its) depth from ys h =
    let opening = sign "[" s.LeftBracket in
    let closing = sign "]" s.RightBracket in
    let ws = words_of false t in
    let us = predicates (printed_each ts) in
    let start = past from opening in
    let a = 1 + (nested_of t).nesting false in
    let c = nesting.enclosed (nested_each ts) in
    let i = max-left depth a c 200 h in
    let inside = (descend (printed_of t).level 0 (omega arith) (it.bare false)).reads (suc depth) start (placed (next start ws) (closing ∷ us) ++ ys) (omega (arith, i)) refl in
    let rest = predicates_read ts its depth (past (next start ws) closing) ys (max-right depth a c 200 h) in
    let room : suc depth ≤ 200 = omega (arith, i) in
    let few : depth ≤ 200 = omega (arith, h) in
    together (λ xs. Listing (relation.Reads All r.PredicateList) depth (lexed opening.kind opening.text from ∷ xs) ys scope (t ∷ list_of ts)) start ws (closing ∷ us) ys (record {
      operands = operand_of t (part_of_tree t).written inside.names ∷ rest.operands;
      reads = reading (predicate (token refl room) inside.reads (token refl few) rest.reads);
      each = more_names inside.clean rest.each;
    })

-- what stands behind predicates may stand before them
pub predicates_follow : (ts : Trees) (from : ℕ) (ys : List Lexed) → IsTrue (no_phrase (first_behind b.End ys)) → IsTrue (no_phrase (first_behind b.End (placed from (predicates (printed_each ts)) ++ ys)))
unfolding printed_of
predicates_follow NoMore from ys f = f
predicates_follow (More t ts) from ys f = refl

-- `..` and predicates
dots_reads : {scope : Scope} (ts : Trees) → EachReads scope ts → (flag : Bool)
    → ReadsAt flag 15 (sign ".." s.DotDot ∷ predicates (printed_each ts)) (max 0 (nesting.enclosed (nested_each ts))) scope Other (Node (tree.Step axes.Parent tests.AnyNode) ts)
dots_reads ts its flag = record {
  reads = λ depth from ys h quiet.
      let listing = predicates_read ts its depth (past from (sign ".." s.DotDot)) ys (max-right depth 0 (nesting.enclosed (nested_each ts)) 200 h) in
      let few : depth ≤ 200 = omega (arith, h) in
      as_reading (names_of listing.operands) (reading (parent (token refl few) listing.reads))
      (ap (λ l. Node (tree.Step axes.Parent tests.AnyNode) (trees l)) (all-trees listing.each) ∙ ap (Node (tree.Step axes.Parent tests.AnyNode)) (list_is ts)) (all-clean listing.each);
}

-- an axis, a test and predicates
axis_reads : {scope : Scope} {o : Option Axis} {made : Tree} (text : List ℕ) (t : NodeTest) (ts : Trees) → word_of text ≡ Some (w.Keyword k.Axis) → axis_of (encode_utf8_all text) ≡ o → IsTestSpelled t
    → along o t (list_of ts) ≡ made → EachReads scope ts → (flag : Bool)
    → ReadsAt flag 15 (named text ∷ sign "::" s.ColonColon ∷ (test_words t ++ predicates (printed_each ts))) (max (test_nesting t) (nesting.enclosed (nested_each ts))) scope Other made
axis_reads {scope} {o} {made} text t ts is_axis means spelled same its flag = record {
  reads = λ depth from ys h quiet.
      let colons = sign "::" s.ColonColon in
      let ws = test_words t in
      let us = predicates (printed_each ts) in
      let here = past from (named text) in
      let start = past here colons in
      let m = max-left depth (test_nesting t) (nesting.enclosed (nested_each ts)) 200 h in
      let i = max-right depth (test_nesting t) (nesting.enclosed (nested_each ts)) 200 h in
      let tested = test_reads t spelled depth start (placed (next start ws) us ++ ys) m (predicates_follow ts (next start ws) ys (follows-phrase flag (first_behind b.End ys) quiet)) in
      let listing = predicates_read ts its depth (next start ws) ys i in
      let few : depth ≤ 200 = omega (arith, h) in
      let ops = listing.operands in
      together (λ xs. Reading (at 15) depth (lexed kind.Name text from ∷ lexed colons.kind colons.text here ∷ xs) ys scope Other made) start ws us ys
      (as_reading (names_of ops)
      (reading (axis_name {tail = Test t ops} (token (ap (λ x. terminal_number (word_terminal x (b.Sign s.ColonColon))) is_axis) few) (reading (axis_test (token refl few) tested listing.reads))))
      (ap (λ x. along x t (trees_of ops)) means ∙ ap (along o t) (all-trees listing.each) ∙ same) (all-clean listing.each));
}

-- a step that is written with its axis
along_reads : {scope : Scope} {a : Axis} {t : NodeTest} → step_words a t ≡ named (name_of_axis a) ∷ sign "::" s.ColonColon ∷ test_words t → axis_nesting a t ≡ test_nesting t → (ts : Trees) →
    IsTestSpelled t → EachReads scope ts → Reads scope (Node (tree.Step a t) ts)
unfolding printed_of nested_of part_of_tree
along_reads {scope = scope} {a = a} {t = t} words deep ts spelled its = record {
  bare = λ flag.
      let us = predicates (printed_each ts) in
      let c = nesting.enclosed (nested_each ts) in
      let it = Node (tree.Step a t) ts in
      subst (λ (n : ℕ). ReadsAt flag 15 (step_words a t ++ us) (max n c) scope Other it) (sym deep)
      (subst (λ (ws : List Word). ReadsAt flag 15 (ws ++ us) (max (test_nesting t) c) scope Other it) (sym words)
      (axis_reads (name_of_axis a) t ts (axis-word a) (axis-meaning a) spelled (ap (Node (tree.Step a t)) (list_is ts)) its flag));
  begins = λ h flag from ys.
      subst (λ (ws : List Word). IsTrue (begins_step (first_behind b.End (placed from (ws ++ predicates (printed_each ts)) ++ ys)))) (sym words) (ap begins_step (axis-behind a));
  primary = λ h. absurd (false≢true h);
}

pub step_reads : (scope : Scope) (a : Axis) (t : NodeTest) (ts : Trees) → IsTestSpelled t → EachReads scope ts → Reads scope (Node (tree.Step a t) ts)
unfolding printed_of nested_of part_of_tree
step_reads scope axes.Parent tests.AnyNode ts spelled rs = record {
  bare = dots_reads ts rs;
  begins = λ h flag from ys. refl;
  primary = λ h. absurd (false≢true h);
}
step_reads scope axes.Parent (tests.Name bytes) ts spelled rs = along_reads refl refl ts spelled rs
step_reads scope axes.Parent tests.AnyName ts spelled rs = along_reads refl refl ts spelled rs
step_reads scope axes.Parent tests.AnyElement ts spelled rs = along_reads refl refl ts spelled rs
step_reads scope axes.Child t ts spelled rs = along_reads refl refl ts spelled rs
step_reads scope axes.Descendant t ts spelled rs = along_reads refl refl ts spelled rs
step_reads scope axes.SelfNode t ts spelled rs = along_reads refl refl ts spelled rs
step_reads scope axes.DescendantOrSelf t ts spelled rs = along_reads refl refl ts spelled rs
step_reads scope axes.FollowingSibling t ts spelled rs = along_reads refl refl ts spelled rs
step_reads scope axes.Following t ts spelled rs = along_reads refl refl ts spelled rs
step_reads scope axes.Ancestor t ts spelled rs = along_reads refl refl ts spelled rs
step_reads scope axes.PrecedingSibling t ts spelled rs = along_reads refl refl ts spelled rs
step_reads scope axes.Preceding t ts spelled rs = along_reads refl refl ts spelled rs
step_reads scope axes.AncestorOrSelf t ts spelled rs = along_reads refl refl ts spelled rs

pub attribute_reads : (scope : Scope) (t : NodeTest) (ts : Trees) → IsTestSpelled t → EachReads scope ts → Reads scope (Node (tree.AttributeStep t) ts)
unfolding printed_of nested_of part_of_tree
attribute_reads scope t ts spelled rs = record {
  bare = axis_reads (codes "attribute") t ts refl attribute-meaning spelled (ap (Node (tree.AttributeStep t)) (list_is ts)) rs;
  begins = λ h flag from ys. refl;
  primary = λ h. absurd (false≢true h);
}

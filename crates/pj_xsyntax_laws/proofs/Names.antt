-- Names: any word of the grammar is one where the grammar wants a name.
use Rattle.std.proofs.Common.{◌≡◌, ◌∙◌, ℕ, ◌+◌, ◌≤◌, List, [], ◌∷◌, ◌++◌, Bool, true, false, cond, Option, Some, None, refl, sym, ap, subst, arith}
use Rattle.std.specs.Prelude.{IsTrue, nat_eq}
use Rattle.std.specs.Str.{chars}
use Rattle.std.proofs.lemmas.Bool.{eqb-true, false≢true}
use Rattle.std.proofs.lemmas.Str.{encodes-chars}
use Rattle.pj_ll.specs.declared.grammar.Symbol.{Symbol}
use Rattle.pj_ll.specs.declared.grammar.Symbol.TheVariants.{Terminal}
use Rattle.pj_xtokens.specs.First.{first_text}
use Rattle.pj_xtokens.specs.Tokens.{Lexed, lexed}
use Rattle.pj_xtokens.specs.declared.token.TokenKind.TheVariants as kind
use Rattle.pj_xgrammar.specs.declared.rule.Rule.TheVariants as r
use Rattle.pj_xgrammar.specs.declared.terminal.Behind.TheVariants as b
use Rattle.pj_xgrammar.specs.declared.terminal.Terminal.TheVariants as terminal
use Rattle.pj_xgrammar.specs.declared.word.Word.TheVariants as w
use Rattle.pj_xgrammar.specs.declared.word.Keyword.{Keyword}
use Rattle.pj_xgrammar.specs.declared.word.Keyword.TheVariants as k
use Rattle.pj_xgrammar.specs.declared.word.Word as word
use Rattle.pj_xgrammar.specs.Words.{word_of}
use Rattle.pj_xgrammar.specs.Terminals.{first_behind, terminal_number, word_terminal}
use Rattle.pj_xgrammar.specs.Notation.{t, axis}
use Rattle.pj_xgrammar.specs.XPath.{xpath}
use Rattle.pj_xsyntax_laws.specs.Spaced.{placed}
use Rattle.pj_xexpressions.specs.declared.expr.NodeTest.{NodeTest}
use Rattle.pj_xexpressions.specs.declared.expr.NodeTest.TheVariants as test
use Rattle.pj_xmeaning.specs.Reach.{All}
use Rattle.pj_xmeaning.specs.Reads.{Takes, token, IsAmong, here, further, Reads, variable_name, axis_variable, node_variable, element_variable, plain_name, name_test, axis_name_test, any_name_test, node_test, element_test, kind_parentheses, no_parentheses}
use Rattle.pj_xreadings.specs.Spelled.{IsText, IsTestSpelled}
use Rattle.pj_xreadings.specs.Nesting.{test_nesting}
use Rattle.pj_xsyntax_laws.specs.Printed.{name, test_words}
use Rattle.pj_xsyntax_laws.proofs.Follows.{no_phrase, makes_none}
use Rattle.pj_xsyntax_laws.proofs.WholeReadings.{reading}

-- ---- the words that are plain names

-- whether the terminal is alone in one of the productions
abbrev is_there : ℕ → List (List Symbol) → Bool
is_there n [] = false
is_there n ((Terminal m ∷ []) ∷ more) = cond (nat_eq m n) true (is_there n more)
is_there n (_ ∷ more) = is_there n more

first_or_further : (n m : ℕ) (more : List (List Symbol)) → (is_there n more ≡ true → IsAmong (Terminal n) more) → (same : Bool) → nat_eq m n ≡ same → cond same true (is_there n more) ≡ true
    → IsAmong (Terminal n) ((Terminal m ∷ []) ∷ more)
first_or_further n m more found true e h = subst (λ (x : ℕ). IsAmong (Terminal n) ((Terminal x ∷ []) ∷ more)) (sym (eqb-true m n e)) here
first_or_further n m more found false e h = further (found h)

among : (n : ℕ) (lines : List (List Symbol)) → is_there n lines ≡ true → IsAmong (Terminal n) lines
among n [] h = absurd (false≢true h)
among n ((Terminal m ∷ []) ∷ more) h = first_or_further n m more (among n more) (nat_eq m n) refl h
among n (_ ∷ more) h = further (among n more h)

-- the first token is a plain name, or one of the other words that the grammar takes for a name
data BeginsName (depth : ℕ) (xs ys : List Lexed) : Type 0 where
  plain : Reads All r.PlainName depth xs ys (first_text xs) → BeginsName depth xs ys
  an_axis : Takes All depth axis xs ys → BeginsName depth xs ys
  a_node : Takes All depth (t "node") xs ys → BeginsName depth xs ys
  an_element : Takes All depth (t "element") xs ys → BeginsName depth xs ys

module _ (text : List ℕ) (depth from : ℕ) (ys : List Lexed) (few : depth ≤ 200) where
  abbrev number : Option word.Word → ℕ
  number o = terminal_number (word_terminal o (first_behind b.End ys))

  abbrev IsName : Type 0
  IsName = BeginsName depth (lexed kind.Name text from ∷ ys) ys

  plain_word : (n : ℕ) → is_there n (xpath r.PlainName) ≡ true → number (word_of text) ≡ n → IsName
  plain_word n h e = plain (reading (plain_name (among n (xpath r.PlainName) h) (token e few)))

  of_keyword : (keyword : Keyword) → number (word_of text) ≡ terminal_number (terminal.Keyword keyword) → IsName
  unfolding xpath
  of_keyword k.Axis e = an_axis (token e few)
  of_keyword k.Node e = a_node (token e few)
  of_keyword k.Element e = an_element (token e few)
  of_keyword _ e = plain_word _ refl e

  of_word : IsTrue (no_phrase (first_behind b.End ys)) → (o : Option word.Word) → word_of text ≡ o → IsName
  unfolding xpath
  of_word quiet None e = plain_word 0 refl (ap number e)
  of_word quiet (Some (w.Phrase phrase)) e =
      plain_word 0 refl (ap number e ∙ ap (λ c. terminal_number (cond c (terminal.Phrase phrase) terminal.Name)) (makes_none phrase (first_behind b.End ys) quiet))
  of_word quiet (Some (w.Keyword keyword)) e = of_keyword keyword (ap number e)

  -- any word is a name, before what makes no phrase of it
  is_name : IsTrue (no_phrase (first_behind b.End ys)) → IsName
  is_name quiet = of_word quiet (word_of text) refl

-- ---- where a name is wanted

as_variable : {depth : ℕ} {xs ys : List Lexed} → BeginsName depth xs ys → Reads All r.VarName depth xs ys (first_text xs)
as_variable (plain n) = reading (variable_name n)
as_variable (an_axis k) = reading (axis_variable k)
as_variable (a_node k) = reading (node_variable k)
as_variable (an_element k) = reading (element_variable k)

as_test : {depth : ℕ} {xs ys : List Lexed} → BeginsName depth xs ys → Reads All r.NodeTest depth xs ys (test.Name (first_text xs))
as_test (plain n) = reading (name_test n)
as_test (an_axis k) = reading (axis_name_test k)
as_test (a_node k) = reading (node_test {parentheses = false} k (reading no_parentheses))
as_test (an_element k) = reading (element_test {parentheses = false} k (reading no_parentheses))

-- the names of variables
pub variable_named : (bytes : List ℕ) → IsText bytes → (depth from : ℕ) (ys : List Lexed) → depth ≤ 200 → IsTrue (no_phrase (first_behind b.End ys))
    → Reads All r.VarName depth (placed from (name bytes ∷ []) ++ ys) ys bytes
variable_named bytes is_text depth from ys few quiet =
    subst (λ (x : List ℕ). Reads All r.VarName depth (placed from (name bytes ∷ []) ++ ys) ys x) (encodes-chars bytes is_text) (as_variable (is_name (chars bytes) depth from ys few quiet))

-- node tests
pub test_reads : (t : NodeTest) → IsTestSpelled t → (depth from : ℕ) (ys : List Lexed) → depth + test_nesting t ≤ 200 → IsTrue (no_phrase (first_behind b.End ys))
    → Reads All r.NodeTest depth (placed from (test_words t) ++ ys) ys t
test_reads (test.Name bytes) spelled depth from ys h quiet =
    subst (λ (x : List ℕ). Reads All r.NodeTest depth (placed from (name bytes ∷ []) ++ ys) ys (test.Name x)) (encodes-chars bytes spelled.0)
    (as_test (is_name (chars bytes) depth from ys (omega (arith, h)) quiet))
test_reads test.AnyName spelled depth from ys h quiet = reading (any_name_test (token refl (omega (arith, h))))
test_reads test.AnyNode spelled depth from ys h quiet =
    let few : depth ≤ 200 = omega (arith, h) in
    reading (node_test {parentheses = true} (token refl few) (reading (kind_parentheses (token refl (omega (arith, h))) (token refl few))))
test_reads test.AnyElement spelled depth from ys h quiet =
    let few : depth ≤ 200 = omega (arith, h) in
    reading (element_test {parentheses = true} (token refl few) (reading (kind_parentheses (token refl (omega (arith, h))) (token refl few))))

-- Calls of functions.
use Rattle.std.proofs.Common.{◌≡◌, ◌∙◌, ℕ, suc, ◌+◌, ◌≤◌, List, [], ◌∷◌, ◌++◌, Bool, false, Option, Some, None, length, refl, sym, ap, subst, arith}
use Rattle.std.specs.Prelude.{IsTrue}
use Rattle.std.specs.Str.{encode_utf8_all}
use Rattle.pj_xtokens.specs.Tokens.{lexed}
use Rattle.pj_xtokens.specs.declared.token.TokenKind.TheVariants as kind
use Rattle.pj_xgrammar.specs.declared.terminal.Behind.TheVariants as b
use Rattle.pj_xgrammar.specs.Words.{word_of}
use Rattle.pj_xgrammar.specs.Terminals.{first_behind, begins_step, terminal_number, word_terminal}
use Rattle.pj_xgrammar.specs.XPath.{xpath}
use Rattle.pj_xsyntax_laws.specs.Spaced.{placed}
use Rattle.pj_xexpressions.specs.declared.function.Function.{Function}
use Rattle.pj_xexpressions.specs.declared.pmd_function.PmdFunction.{PmdFunction}
use Rattle.pj_xexpressions.specs.Functions.{takes, pmd_takes}
use Rattle.pj_xexpressions.specs.Expressions.{Scope, Other, arguments_fit}
use Rattle.pj_xexpressions.specs.Names.{callee_of}
use Rattle.pj_xexpressions.specs.Trees as tree
use Rattle.pj_xexpressions.specs.Trees.{Tree, Trees, Node}
use Rattle.pj_xreadings.specs.Steps.{filtered, called}
use Rattle.pj_xexpressions.specs.declared.name.Callee.{Callee}
use Rattle.pj_xparse.specs.NameFaults.{callee_takes, is_function}
use Rattle.pj_xreadings.specs.Mentions.{Mention, Call, roles_in, roles_named}
use Rattle.pj_xreadings.specs.Operands.{Arguments, Called, arguments_in, is_closed, in_roles, told, names_of, trees_of}
use Rattle.pj_xmeaning.specs.Reads.{token, here, plain_name, plain_step, name_call}
use Rattle.pj_xreadings.specs.Shapes.{part_of_tree}
use Rattle.pj_xreadings.specs.Nesting.{nested_of, nested_each, chain_before}
use Rattle.pj_xsyntax_laws.specs.Printed.{enclosed, joined, left, right, comma, named, printed_of, printed_each, function_name, pmd_function_name}
use Rattle.pj_xsyntax_laws.proofs.Mentions.{Clean, clean-append, clean-call}
use Rattle.pj_xsyntax_laws.proofs.Primaries.{primary_alone}
use Rattle.pj_xsyntax_laws.proofs.Roles.{ArgumentNames, arguments-trees, arguments-closed, arguments-length, clean-roles, roles_fit, written_all, arguments_roles}
use Rattle.pj_xsyntax_laws.proofs.Rows.{arguments_read}
use Rattle.pj_xsyntax_laws.proofs.Tables.{function-word, function-meaning, function-behind, pmd-word, pmd-meaning, pmd-behind}
use Rattle.pj_xsyntax_laws.proofs.Readings.{Reading, Primary, Reads, EachReads, list_of, list_is, written_with, all-trees, all-clean, at, next, past, as_reading, together}
use Rattle.pj_xsyntax_laws.proofs.WholeReadings.{reading}

-- a call without predicates is neither a literal nor a variable, as with them
written_with-other : (ts : List Tree) → Other ≡ written_with Other ts
written_with-other [] = refl
written_with-other (t ∷ ts) = refl

-- what a call names is there, where there is such a function and its arguments are written as it wants
clean-callee : {scope : Scope} {ts : List Tree} {arguments : Arguments} {o : Callee} (name : List ℕ) (from : ℕ) (predicates : List Mention) → callee_of name ≡ Some o → ArgumentNames scope ts arguments
    → IsTrue (callee_takes (Some o) (length (written_all ts))) → IsTrue (roles_fit (roles_in (Some o)) scope (written_all ts)) → Clean scope predicates
    → Clean scope (told (is_closed arguments) (callee_of name) (Call name (length (arguments_in arguments)) from) ++ (in_roles (roles_named name) arguments ++ predicates))
clean-callee {scope} {ts} {arguments} {o} name from predicates means names takes fits clean =
    let count = length (arguments_in arguments) in
    let known : IsTrue (is_function name count) = ap (λ c. callee_takes c count) means ∙ ap (callee_takes (Some o)) (arguments-length names) ∙ takes in
    let roles : Clean scope (in_roles (roles_named name) arguments) = subst (λ c. Clean scope (in_roles (roles_in c) arguments)) (sym means) (clean-roles (roles_in (Some o)) names fits) in
    subst (λ (closed : Bool). Clean scope (told closed (callee_of name) (Call name count from) ++ (in_roles (roles_named name) arguments ++ predicates))) (sym (arguments-closed names))
    (clean-call scope name count from (in_roles (roles_named name) arguments ++ predicates) known (clean-append scope (in_roles (roles_named name) arguments) predicates roles clean))

module _ {scope : Scope} {o : Callee} (text : List ℕ) (ts : Trees) (no_word : word_of text ≡ None) (means : callee_of (encode_utf8_all text) ≡ Some o)
    (takes : IsTrue (callee_takes (Some o) (length (written_all (list_of ts))))) (fits : IsTrue (roles_fit (roles_in (Some o)) scope (written_all (list_of ts)))) where
  -- the words of a call
  call_primary : (made : Tree) → called (Some o) (list_of ts) ≡ made → EachReads scope ts
      → Primary (named text ∷ enclosed (joined false false 1 comma (printed_each ts))) (1 + chain_before false false 1 (nested_each ts)) scope Other made
  unfolding xpath
  call_primary made same its = record {
    reads = λ depth from ys zs preds h quiet listing.
        let args = joined false false 1 comma (printed_each ts) in
        let start = past from (named text) in
        let inside = past start left in
        let row = arguments_read ts its (suc depth) inside (placed (next inside args) (right ∷ []) ++ ys) (omega (arith, h)) refl in
        let room : suc depth ≤ 200 = omega (arith, h) in
        let few : depth ≤ 200 = omega (arith, h) in
        let bytes = encode_utf8_all text in
        let arguments = row.arguments in
        let ps = listing.operands in
        let called_as = λ (c : Option Callee). filtered (called c (trees_of (arguments_in arguments))) (trees_of ps) in
        subst (λ w. Reading (at 15) depth (placed from (named text ∷ enclosed args) ++ ys) zs scope w (filtered made preds)) (written_with-other preds)
        (together (λ xs. Reading (at 15) depth (lexed kind.Name text from ∷ lexed left.kind left.text start ∷ xs) zs scope Other (filtered made preds)) inside args (right ∷ []) ys
        (as_reading (told (is_closed arguments) (callee_of bytes) (Call bytes (length (arguments_in arguments)) from) ++ (in_roles (roles_named bytes) arguments ++ names_of ps))
        (reading (plain_step {tail = Called arguments ps} (reading (plain_name here (token (ap (λ x. terminal_number (word_terminal x (first_behind b.End (placed start (left ∷ []))))) no_word) few)))
        (reading (name_call (token refl room) row.reads (token refl few) listing.reads))))
        (ap called_as means ∙ ap (λ l. filtered (called (Some o) l) (trees_of ps)) (arguments-trees row.names) ∙ ap (λ t. filtered t (trees_of ps)) same ∙ ap (filtered made) (all-trees listing.each))
        (clean-callee bytes from (names_of ps) means row.names takes fits (all-clean listing.each))));
  }

call_written : {scope : Scope} (f : Function) (ts : Trees) → IsTrue (takes f (length (written_all (list_of ts)))) → IsTrue (arguments_fit f scope (written_all (list_of ts))) → EachReads scope ts
    → Primary (named (function_name f) ∷ enclosed (joined false false 1 comma (printed_each ts))) (1 + chain_before false false 1 (nested_each ts)) scope Other (Node (tree.Call f) ts)
call_written {scope} f ts n h rs =
    call_primary (function_name f) ts (function-word f) (function-meaning f) n (arguments_roles f scope (written_all (list_of ts)) n h) (Node (tree.Call f) ts) (ap (Node (tree.Call f)) (list_is ts)) rs

pub call_reads : (scope : Scope) (f : Function) (ts : Trees) → IsTrue (takes f (length (written_all (list_of ts)))) → IsTrue (arguments_fit f scope (written_all (list_of ts))) → EachReads scope ts → Reads scope (Node (tree.Call f) ts)
unfolding printed_of nested_of part_of_tree
call_reads scope f ts n h rs = record {
  bare = λ flag. primary_alone flag (call_written f ts n h rs);
  begins = λ _ flag from ys. ap begins_step (function-behind f);
  primary = λ _. call_written f ts n h rs;
}

pmd_written : {scope : Scope} (f : PmdFunction) (ts : Trees) → IsTrue (pmd_takes f (length (written_all (list_of ts)))) → EachReads scope ts
    → Primary (named (pmd_function_name f) ∷ enclosed (joined false false 1 comma (printed_each ts))) (1 + chain_before false false 1 (nested_each ts)) scope Other (Node (tree.PmdCall f) ts)
pmd_written f ts n rs = call_primary (pmd_function_name f) ts (pmd-word f) (pmd-meaning f) n refl (Node (tree.PmdCall f) ts) (ap (Node (tree.PmdCall f)) (list_is ts)) rs

pub pmd_reads : (scope : Scope) (f : PmdFunction) (ts : Trees) → IsTrue (pmd_takes f (length (written_all (list_of ts)))) → EachReads scope ts → Reads scope (Node (tree.PmdCall f) ts)
unfolding printed_of nested_of part_of_tree
pmd_reads scope f ts n rs = record {
  bare = λ flag. primary_alone flag (pmd_written f ts n rs);
  begins = λ _ flag from ys. ap begins_step (pmd-behind f);
  primary = λ _. pmd_written f ts n rs;
}

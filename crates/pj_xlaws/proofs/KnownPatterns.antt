-- What an expression denotes asks of the patterns only which are among them.
use mathlib.Core.Path.{fun_ext}
use Rattle.std.proofs.Common.{◌≡◌, ap, ℕ, cond, List, [], ◌∷◌, length, map, Option, None, Some, Ok, Err, refl}
use Rattle.pj_tree.specs.Tree as syntax
use Rattle.pj_tree.specs.declared.node.Node.{Node}
use Rattle.pj_xsteps.specs.Calls.{call, called, first_as_it_is, of_text, or_context}
use Rattle.pj_xsteps.specs.Context.{Around, Context, Denotation, around}
use Rattle.pj_xsteps.specs.Denotes.{arguments_of, denotes, step}
use Rattle.pj_xsteps.specs.Means.{judged, ◌>>=◌}
use Rattle.pj_xsteps.specs.Operands.{with_values}
use Rattle.pj_xvalue.specs.Arguments.{and_then, one, optional_string, string, truth}
use Rattle.pj_xfuncs.specs.Library.{by_number, is_concat, of_four, of_several, of_three, of_two}
use Rattle.pj_xfuncs.specs.Library.{called as given}
use Rattle.pj_xpatterns.specs.Patterns.{flags_in, known, matches, never_empty, plain, replace, tokenize, tokens}
use Rattle.pj_xpatterns.specs.Meaning.{Pattern, has, is_found, with_replaced}
use Rattle.pj_xexpressions.specs.Functions.{takes}
use Rattle.pj_xvalue.specs.Items.{ItemValue, String}
use Rattle.pj_xexpressions.specs.declared.expr.Expr.{Expr}
use Rattle.pj_xexpressions.specs.declared.expr.Expr.TheFolds.{fold-Expr}
use Rattle.pj_xexpressions.specs.declared.expr.Expr.TheOpen.{Expr-F}
use Rattle.pj_xvalue.specs.declared.fault.XCode.TheVariants.{XPTY0004}
use Rattle.pj_xexpressions.specs.declared.function.Function.{Function}
use Rattle.pj_xexpressions.specs.declared.function.Function.TheVariants as f
use Rattle.pj_xlaws.specs.TreeLaws.{Reply}

module _ (some others : List Pattern) (same : (pattern : Pattern) → has some pattern ≡ has others pattern) where
  known_same : (pattern : Pattern) → known some pattern ≡ known others pattern
  known_same pattern = ap (λ b. cond b (Ok pattern) (Err XPTY0004)) (same pattern)

  matches_same : (text pattern : List ItemValue) (flags : Option (List ItemValue)) → matches some text pattern flags ≡ matches others text pattern flags
  matches_same text pattern flags =
      λ i. and_then (optional_string text) (λ t. and_then (string pattern) (λ p. and_then (flags_in flags) (λ f. and_then (known_same (p, f) i) (λ found. truth (is_found found t)))))

  replace_same : (text pattern replacement : List ItemValue) (flags : Option (List ItemValue)) → replace some text pattern replacement flags ≡ replace others text pattern replacement flags
  replace_same text pattern replacement flags =
      λ i. and_then (optional_string text) (λ t. and_then (string pattern) (λ p. and_then (and_then (string replacement) plain) (λ by. and_then (flags_in flags) (λ f. and_then (and_then (known_same (p, f) i) never_empty) (λ found. one (String (with_replaced found by t)))))))

  tokenize_same : (text pattern : List ItemValue) (flags : Option (List ItemValue)) → tokenize some text pattern flags ≡ tokenize others text pattern flags
  tokenize_same text pattern flags =
      λ i. and_then (optional_string text) (λ t. and_then (string pattern) (λ p. and_then (flags_in flags) (λ f. and_then (and_then (known_same (p, f) i) never_empty) (λ found. Ok (tokens found t)))))

  two_same : (function : Function) (a b : List ItemValue) → of_two some function a b ≡ of_two others function a b
  two_same f.Matches a b = matches_same a b None
  two_same f.Tokenize a b = tokenize_same a b None
  two_same _ a b = refl

  three_same : (function : Function) (a b c : List ItemValue) → of_three some function a b c ≡ of_three others function a b c
  three_same f.Matches a b c = matches_same a b (Some c)
  three_same f.Replace a b c = replace_same a b c None
  three_same f.Tokenize a b c = tokenize_same a b (Some c)
  three_same _ a b c = refl

  four_same : (function : Function) (a b c d : List ItemValue) → of_four some function a b c d ≡ of_four others function a b c d
  four_same f.Replace a b c d = replace_same a b c (Some d)
  four_same _ a b c d = refl

  number_same : (function : Function) (arguments : List (List ItemValue)) → by_number some function arguments ≡ by_number others function arguments
  number_same function [] = refl
  number_same function (a ∷ []) = refl
  number_same function (a ∷ b ∷ []) = two_same function a b
  number_same function (a ∷ b ∷ c ∷ []) = three_same function a b c
  number_same function (a ∷ b ∷ c ∷ d ∷ []) = four_same function a b c d
  number_same function (a ∷ b ∷ c ∷ d ∷ e ∷ rest) = refl

  given_same : (function : Function) (arguments : List (List ItemValue)) → given some function arguments ≡ given others function arguments
  given_same function arguments = ap (λ r. cond (is_concat function) (of_several arguments) r) (number_same function arguments)

  module _ (tree : syntax.Tree) (attribute_of : Node → List ℕ → Option ItemValue) (names_of : Node → List (List ℕ)) where
    abbrev left : Around
    left = around tree attribute_of names_of some

    abbrev right : Around
    right = around tree attribute_of names_of others

    text_same : (function : Function) (context : Context) (arguments : List (List ItemValue)) → of_text left function context arguments ≡ of_text right function context arguments
    text_same function context [] = λ i. and_then (given_same f.String (with_values left (context.item ∷ []) ∷ []) i) (λ text. given_same function (text ∷ []) i)
    text_same function context (argument ∷ rest) = given_same function (map (with_values left) (argument ∷ rest))

    called_same : (function : Function) (context : Context) (arguments : List (List ItemValue)) → called left function context arguments ≡ called right function context arguments
    called_same f.Position context arguments = refl
    called_same f.Last context arguments = refl
    called_same f.Name context arguments = refl
    called_same f.LocalName context arguments = refl
    called_same f.Root context arguments = refl
    called_same f.String context arguments = given_same f.String (with_values left (or_context context arguments) ∷ [])
    called_same f.StringLength context arguments = text_same f.StringLength context arguments
    called_same f.NormalizeSpace context arguments = text_same f.NormalizeSpace context arguments
    called_same f.Count context arguments = given_same f.Count arguments
    called_same f.Exists context arguments = given_same f.Exists arguments
    called_same f.Empty context arguments = given_same f.Empty arguments
    called_same f.Not context arguments = given_same f.Not arguments
    called_same f.Boolean context arguments = given_same f.Boolean arguments
    called_same f.Reverse context arguments = given_same f.Reverse arguments
    called_same f.Subsequence context arguments = given_same f.Subsequence (first_as_it_is left arguments)
    called_same function context arguments = given_same function (map (with_values left) arguments)

    call_same : (function : Function) (context : Context) (arguments : List (List ItemValue)) → call left function context arguments ≡ call right function context arguments
    call_same function context arguments = ap (λ r. cond (takes function (length arguments)) r (Err XPTY0004)) (called_same function context arguments)

    step_same : (reply : Reply) (layer : Expr-F Denotation) → step left reply layer ≡ step right reply layer
    step_same reply (Expr-F.Call function arguments) = λ i c v. arguments_of arguments.items c v >>= λ values. judged (call_same function c values i)
    step_same reply _ = refl

    same_denotation : (reply : Reply) (e : Expr) → denotes left reply e ≡ denotes right reply e
    unfolding denotes
    same_denotation reply e = ap (λ (s : Expr-F Denotation → Denotation). fold-Expr Denotation s e) (fun_ext (step_same reply))

pub denotes_by_patterns : (tree : syntax.Tree) (attribute_of : Node → List ℕ → Option ItemValue) (names_of : Node → List (List ℕ)) (reply : Reply) (some others : List Pattern) (e : Expr)
    → ((pattern : Pattern) → has some pattern ≡ has others pattern) → denotes (around tree attribute_of names_of some) reply e ≡ denotes (around tree attribute_of names_of others) reply e
denotes_by_patterns tree attribute_of names_of reply some others e same = same_denotation some others same tree attribute_of names_of reply e

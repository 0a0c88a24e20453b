-- What the functions give is of the tree that the arguments are of.
use Rattle.std.proofs.Common.{◌≡◌, ℕ, suc, ℤ, pos, Bool, true, false, cond, List, [], ◌∷◌, ◌++◌, map, Option, Some, None, Result, Ok, Err, IfOk, refl, sym, subst}
use Rattle.std.specs.Prelude.{reverse, nat_abs, is_some, nat_eq, length, ◌==◌}
use Rattle.std.specs.List.{AllByRecursion, ends_with, list_any, starts_with}
use Rattle.std.proofs.lemmas.List.{reverse-append}
use Rattle.pj_xvalue.specs.declared.fault.XCode.{XCode}
use Rattle.pj_xvalue.specs.declared.fault.XCode.TheVariants.{FOTY0012}
use Rattle.pj_xvalue.specs.declared.fault.XFault.{XFault}
use Rattle.pj_xexpressions.specs.declared.function.Function.{Function}
use Rattle.pj_xexpressions.specs.declared.function.Function.TheVariants as f
use Rattle.pj_xvalue.specs.declared.item.Item.{Item}
use Rattle.pj_xvalue.specs.Atomic.{has_node, only_atomic}
use Rattle.pj_xvalue.specs.Boolean.{effective_boolean}
use Rattle.pj_xvalue.specs.Items.{ItemValue, String, Integer, Boolean, IsOfTree, values_of}
use Rattle.pj_xvalue.specs.OfTree.{OfTree, ArgumentsOfTree}
use Rattle.pj_xvalue.proofs.OfTreeLaws.{of_tree-nil, of_tree-one, of_tree-append, of_tree-each, each-of_tree, of_tree-head, of_tree-tail, arguments-head, arguments-tail}
use Rattle.pj_xvalue.specs.Replies.{outcome}
use Rattle.pj_xpatterns.specs.Meaning.{Text, Pattern, pieces_between}
use Rattle.pj_xvalue.specs.Arguments.{IsGiven, and_then, atomic, all_integers, item_or_nothing, optional_integer, optional_atomic, optional_string, string, integer, text_in}
use Rattle.pj_xfuncs.specs.General.{texts_joined}
use Rattle.pj_xfuncs.specs.Library.{called, by_number, of_none, of_one, of_two, of_three, of_four, of_several, is_concat}
use Rattle.pj_xfuncs.specs.Numbers.{held, sum_from, sum_or, best_item, magnitude, lesser, greater}
use Rattle.pj_xpatterns.specs.Patterns.{flags_in, known, matches, never_empty, plain, replace, tokenize, tokens}
use Rattle.pj_xfuncs.specs.Sequences.{kept_from, first_occurrences, is_from, is_within, places_from, same}
use Rattle.pj_xfuncs.specs.Strings.{Characters, before, behind, place_of, tested, cut}

-- the items of a value are of a tree
abbrev Gives : ℕ → Result (List ItemValue) XCode → Type 0
Gives n (Ok items) = OfTree n items
Gives n (Err code) = Unit {0}

then : {A : Type 0} (n : ℕ) (r : Result A XCode) (next : A → Result (List ItemValue) XCode) → ((a : A) → r ≡ Ok a → Gives n (next a)) → Gives n (and_then r next)
then n (Ok a) next h = h a refl
then n (Err code) next h = tt

one_string : (n : ℕ) (text : Text) → OfTree n (String text ∷ [])
one_string n text = of_tree-one n (String text) tt

one_truth : (n : ℕ) (b : Bool) → OfTree n (Boolean b ∷ [])
one_truth n b = of_tree-one n (Boolean b) tt

one_integer : (n : ℕ) (z : ℤ) → OfTree n (Integer z ∷ [])
one_integer n z = of_tree-one n (Integer z) tt

-- ---- values that are among those of an argument

atomic-values : (n : ℕ) (items values : List ItemValue) → only_atomic items ≡ Ok values → OfTree n items → OfTree n values
atomic-values n items values is h = go (has_node items) is
  where
    go : (b : Bool) → ◌≡◌ {A = Result (List ItemValue) XCode} (cond b (Err FOTY0012) (Ok items)) (Ok values) → OfTree n values
    go true e = absurd (cc)
    go false e = let same_items : items ≡ values = cc in subst (λ (xs : List ItemValue). OfTree n xs) same_items h

data-gives : (n : ℕ) (items : List ItemValue) → OfTree n items → Gives n (only_atomic items)
data-gives n items h = go (has_node items)
  where
    go : (b : Bool) → Gives n (cond b (Err FOTY0012) (Ok items))
    go true = tt
    go false = h

nothing-values : (n : ℕ) (items values : List ItemValue) → item_or_nothing items ≡ Ok values → OfTree n items → OfTree n values
nothing-values n [] values is h = let same_items : [] ≡ values = cc in subst (λ (xs : List ItemValue). OfTree n xs) same_items h
nothing-values n (x ∷ []) values is h = let same_items : x ∷ [] ≡ values = cc in subst (λ (xs : List ItemValue). OfTree n xs) same_items h
nothing-values n (x ∷ y ∷ items) values is h = absurd (cc)

kept-each : (n : ℕ) (keeps : ℤ → Bool) (place : ℕ) (xs : List ItemValue) → AllByRecursion (IsOfTree n) xs → AllByRecursion (IsOfTree n) (kept_from keeps place xs)
kept-each n keeps place [] h = tt
kept-each n keeps place (x ∷ xs) h = go (kept-each n keeps (suc place) xs h.1) (keeps (pos place))
  where
    go : AllByRecursion (IsOfTree n) (kept_from keeps (suc place) xs) → (b : Bool) → AllByRecursion (IsOfTree n) (cond b (x ∷ kept_from keeps (suc place) xs) (kept_from keeps (suc place) xs))
    go ih true = (h.0, ih)
    go ih false = ih

kept-of_tree : (n : ℕ) (keeps : ℤ → Bool) (xs : List ItemValue) → OfTree n xs → OfTree n (kept_from keeps 1 xs)
kept-of_tree n keeps xs h = of_tree-each n _ (kept-each n keeps 1 xs (each-of_tree n xs h))

first-each : (n : ℕ) (before xs : List ItemValue) → AllByRecursion (IsOfTree n) xs → AllByRecursion (IsOfTree n) (first_occurrences before xs)
first-each n before [] h = tt
first-each n before (x ∷ xs) h = go (first-each n (before ++ x ∷ []) xs h.1) (list_any (same x) before)
  where
    go : AllByRecursion (IsOfTree n) (first_occurrences (before ++ x ∷ []) xs) → (b : Bool) → AllByRecursion (IsOfTree n) (cond b (first_occurrences (before ++ x ∷ []) xs) (x ∷ first_occurrences (before ++ x ∷ []) xs))
    go ih true = ih
    go ih false = (h.0, ih)

places-each : (n : ℕ) (sought : ItemValue) (place : ℕ) (xs : List ItemValue) → AllByRecursion (IsOfTree n) (places_from sought place xs)
places-each n sought place [] = tt
places-each n sought place (x ∷ xs) = go (places-each n sought (suc place) xs) (same x sought)
  where
    go : AllByRecursion (IsOfTree n) (places_from sought (suc place) xs) → (b : Bool) → AllByRecursion (IsOfTree n) (cond b (Integer (pos place) ∷ places_from sought (suc place) xs) (places_from sought (suc place) xs))
    go ih true = (tt, ih)
    go ih false = ih

reverse-each : (n : ℕ) (xs : List ItemValue) → OfTree n xs → OfTree n (reverse xs)
reverse-each n [] h = of_tree-nil n
reverse-each n (x ∷ xs) h = subst (λ (t : List ItemValue). OfTree n t) (sym (reverse-append (x ∷ []) xs)) (of_tree-append n (reverse xs) (reverse (x ∷ [])) (reverse-each n xs (of_tree-tail n x xs h)) (of_tree-one n x (of_tree-head n x xs h)))

strings-each : (n : ℕ) (texts : List Text) → AllByRecursion (IsOfTree n) (map String texts)
strings-each n [] = tt
strings-each n (text ∷ texts) = (tt, strings-each n texts)

tokens-of_tree : (n : ℕ) (pattern : Pattern) (text : Text) → OfTree n (tokens pattern text)
tokens-of_tree n pattern text = go (length text == 0)
  where
    go : (b : Bool) → OfTree n (cond b [] (map String (pieces_between pattern text)))
    go true = of_tree-nil n
    go false = of_tree-each n (map String (pieces_between pattern text)) (strings-each n (pieces_between pattern text))

sum-gives : (n : ℕ) (zero : List ItemValue) (numbers : List ℤ) → OfTree n zero → Gives n (sum_or zero numbers)
sum-gives n zero [] h = h
sum-gives n zero (z ∷ zs) h = then n (sum_from (pos 0) (z ∷ zs)) _ (λ total _. one_integer n total)

best-gives : (n : ℕ) (choice : ℤ → ℤ → ℤ) (numbers : List ℤ) → Gives n (best_item choice numbers)
best-gives n choice [] = of_tree-nil n
best-gives n choice (z ∷ zs) = one_integer n _

magnitude-gives : (n : ℕ) (o : Option ℤ) → Gives n (magnitude o)
magnitude-gives n None = of_tree-nil n
magnitude-gives n (Some z) = then n (held (pos (nat_abs z))) _ (λ v _. one_integer n v)

-- ---- the functions

of_none-gives : (n : ℕ) (function : Function) → Gives n (of_none function)
of_none-gives n f.True = one_truth n true
of_none-gives n f.False = one_truth n false
of_none-gives n _ = tt

of_one-gives : (n : ℕ) (function : Function) (a : List ItemValue) → OfTree n a → Gives n (of_one function a)
of_one-gives n f.Count a h = one_integer n _
of_one-gives n f.Exists a h = one_truth n _
of_one-gives n f.Empty a h = one_truth n _
of_one-gives n f.Not a h = then n (effective_boolean a) _ (λ b _. one_truth n _)
of_one-gives n f.Boolean a h = then n (effective_boolean a) _ (λ b _. one_truth n _)
of_one-gives n f.String a h = then n (text_in a) _ (λ t _. one_string n _)
of_one-gives n f.Data a h = data-gives n a h
of_one-gives n f.StringLength a h = then n (optional_string a) _ (λ t _. one_integer n _)
of_one-gives n f.NormalizeSpace a h = then n (optional_string a) _ (λ t _. one_string n _)
of_one-gives n f.UpperCase a h = then n (optional_string a) _ (λ t _. one_string n _)
of_one-gives n f.LowerCase a h = then n (optional_string a) _ (λ t _. one_string n _)
of_one-gives n f.DistinctValues a h = then n (only_atomic a) _ (λ values is. of_tree-each n _ (first-each n [] values (each-of_tree n values (atomic-values n a values is h))))
of_one-gives n f.Sum a h = then n (all_integers a) _ (λ numbers _. sum-gives n _ numbers (one_integer n (pos 0)))
of_one-gives n f.Min a h = then n (all_integers a) _ (λ numbers _. best-gives n lesser numbers)
of_one-gives n f.Max a h = then n (all_integers a) _ (λ numbers _. best-gives n greater numbers)
of_one-gives n f.Abs a h = then n (optional_integer a) _ (λ o _. magnitude-gives n o)
of_one-gives n f.Reverse a h = reverse-each n a h
of_one-gives n _ a h = tt

module _ (n : ℕ) (patterns : List Pattern) where
  matches-gives : (a b : List ItemValue) (flags : Option (List ItemValue)) → Gives n (matches patterns a b flags)
  matches-gives a b flags = then n (optional_string a) _ (λ t _. then n (string b) _ (λ p _. then n (flags_in flags) _ (λ g _. then n (known patterns (p, g)) _ (λ found _. one_truth n _))))

  tokenize-gives : (a b : List ItemValue) (flags : Option (List ItemValue)) → Gives n (tokenize patterns a b flags)
  tokenize-gives a b flags = then n (optional_string a) _ (λ t _. then n (string b) _ (λ p _. then n (flags_in flags) _ (λ g _. then n (and_then (known patterns (p, g)) never_empty) _ (λ found _. tokens-of_tree n found t))))

  replace-gives : (a b c : List ItemValue) (flags : Option (List ItemValue)) → Gives n (replace patterns a b c flags)
  replace-gives a b c flags = then n (optional_string a) _ (λ t _. then n (string b) _ (λ p _. then n (and_then (string c) plain) _ (λ by _. then n (flags_in flags) _ (λ g _. then n (and_then (known patterns (p, g)) never_empty) _ (λ found _. one_string n _)))))

  tested-gives : (test : Characters → Characters → Bool) (a b : List ItemValue) → Gives n (tested test a b)
  tested-gives test a b = then n (optional_string a) _ (λ t _. then n (optional_string b) _ (λ p _. one_truth n _))

  cut-gives : (part_of : Characters → Characters → Characters) (a b : List ItemValue) → Gives n (cut part_of a b)
  cut-gives part_of a b = then n (optional_string a) _ (λ t _. then n (optional_string b) _ (λ p _. one_string n _))

  of_two-gives : (function : Function) (a b : List ItemValue) → OfTree n a → OfTree n b → Gives n (of_two patterns function a b)
  of_two-gives f.StringJoin a b h k = then n (only_atomic a) _ (λ values _. then n (string b) _ (λ between _. one_string n _))
  of_two-gives f.Contains a b h k = tested-gives (λ text part. is_some (place_of part text)) a b
  of_two-gives f.StartsWith a b h k = tested-gives (λ text part. starts_with nat_eq text part) a b
  of_two-gives f.EndsWith a b h k = tested-gives (λ text part. ends_with nat_eq text part) a b
  of_two-gives f.Substring a b h k = then n (optional_string a) _ (λ t _. then n (integer b) _ (λ first _. one_string n _))
  of_two-gives f.SubstringBefore a b h k = cut-gives before a b
  of_two-gives f.SubstringAfter a b h k = cut-gives behind a b
  of_two-gives f.Matches a b h k = matches-gives a b None
  of_two-gives f.Tokenize a b h k = tokenize-gives a b None
  of_two-gives f.Sum a b h k = then n (all_integers a) _ (λ numbers _. then n (optional_atomic b) _ (λ nothing is. sum-gives n nothing numbers (optional-values b nothing is k)))
    where
      optional-values : (items values : List ItemValue) → optional_atomic items ≡ Ok values → OfTree n items → OfTree n values
      optional-values items values is h = go (only_atomic items) refl is
        where
          go : (r : Result (List ItemValue) XCode) → only_atomic items ≡ r → and_then r item_or_nothing ≡ Ok values → OfTree n values
          go (Ok atoms) e g = nothing-values n atoms values g (atomic-values n items atoms e h)
          go (Err code) e g = absurd (cc)
  of_two-gives f.IndexOf a b h k = then n (only_atomic a) _ (λ values _. then n (atomic b) _ (λ value _. of_tree-each n _ (places-each n value 1 values)))
  of_two-gives f.Subsequence a b h k = then n (integer b) _ (λ first _. kept-of_tree n (is_from first) a h)
  of_two-gives _ a b h k = tt

  of_three-gives : (function : Function) (a b c : List ItemValue) → OfTree n a → Gives n (of_three patterns function a b c)
  of_three-gives f.Substring a b c h = then n (optional_string a) _ (λ t _. then n (integer b) _ (λ first _. then n (integer c) _ (λ number _. one_string n _)))
  of_three-gives f.Translate a b c h = then n (optional_string a) _ (λ t _. then n (string b) _ (λ from _. then n (string c) _ (λ to _. one_string n _)))
  of_three-gives f.Matches a b c h = matches-gives a b (Some c)
  of_three-gives f.Replace a b c h = replace-gives a b c None
  of_three-gives f.Tokenize a b c h = tokenize-gives a b (Some c)
  of_three-gives f.Subsequence a b c h = then n (integer b) _ (λ first _. then n (integer c) _ (λ number _. kept-of_tree n (is_within first number) a h))
  of_three-gives _ a b c h = tt

  of_four-gives : (function : Function) (a b c d : List ItemValue) → Gives n (of_four patterns function a b c d)
  of_four-gives f.Replace a b c d = replace-gives a b c (Some d)
  of_four-gives _ a b c d = tt

  by_number-gives : (function : Function) (arguments : List (List ItemValue)) → ArgumentsOfTree n arguments → Gives n (by_number patterns function arguments)
  by_number-gives function [] h = of_none-gives n function
  by_number-gives function (a ∷ []) h = of_one-gives n function a (arguments-head n a [] h)
  by_number-gives function (a ∷ b ∷ []) h = of_two-gives function a b (arguments-head n a (b ∷ []) h) (arguments-head n b [] (arguments-tail n a (b ∷ []) h))
  by_number-gives function (a ∷ b ∷ c ∷ []) h = of_three-gives function a b c (arguments-head n a (b ∷ c ∷ []) h)
  by_number-gives function (a ∷ b ∷ c ∷ d ∷ []) h = of_four-gives function a b c d
  by_number-gives function (a ∷ b ∷ c ∷ d ∷ e ∷ rest) h = tt

  several-gives : (arguments : List (List ItemValue)) → Gives n (of_several arguments)
  several-gives [] = tt
  several-gives (a ∷ []) = tt
  several-gives (a ∷ b ∷ rest) = then n (texts_joined (a ∷ b ∷ rest)) _ (λ text _. one_string n text)

  called-gives : (function : Function) (arguments : List (List ItemValue)) → ArgumentsOfTree n arguments → Gives n (called patterns function arguments)
  called-gives function arguments h = go (is_concat function)
    where
      go : (b : Bool) → Gives n (cond b (of_several arguments) (by_number patterns function arguments))
      go true = several-gives arguments
      go false = by_number-gives function arguments h

  -- the same of what a call returned
  pub returned-of_tree : (function : Function) (arguments : List (List ItemValue)) (result : Result (List Item) XFault) → IsGiven (called patterns function arguments) (outcome values_of result) → ArgumentsOfTree n arguments → IfOk result (λ items. OfTree n (values_of items))
  returned-of_tree function arguments (Ok items) given h = subst (λ (r : Result (List ItemValue) XCode). Gives n r) (sym given) (called-gives function arguments h)
  returned-of_tree function arguments (Err e) given h = tt

-- A test of whether a table of productions is predictive, for a proof by computation.
use Rattle.std.specs.Prelude.{ℕ, ◌+◌, Bool, true, false, List, [], ◌∷◌, length, ◌&&◌, ◌||◌, not, nat_lt, nat_eq}
use Rattle.pj_ll.specs.Grammar.{Entry}
use Rattle.pj_ll.specs.declared.grammar.Symbol.{Symbol}
use Rattle.pj_ll.specs.declared.grammar.Symbol.TheVariants.{Terminal, Rule, LeftOut, Close}
use Rattle.pj_ll.specs.Predictive.{RuleFacts, fact_at, nullable_of, weight_of}

-- A choice is an `elim`, since other calls compute all their arguments.

-- whether the number is in the list
abbrev pub contains : List ℕ → ℕ → Bool
contains [] a = false
contains (x ∷ xs) a = nat_eq x a || contains xs a

-- Whether each number of the first list is in the second. The numbers of both ascend; else it may say no too often.
abbrev pub are_among : List ℕ → List ℕ → Bool
are_among [] [] = true
are_among (x ∷ xs) [] = false
are_among [] (y ∷ ys) = true
are_among (x ∷ xs) (y ∷ ys) = elim (nat_eq x y) [ true ↦ are_among xs ys | false ↦ are_among (x ∷ xs) ys ]

-- whether no number of the first list is in the second
abbrev pub have_none_in : List ℕ → List ℕ → Bool
have_none_in [] ys = true
have_none_in (x ∷ xs) ys = not (contains ys x) && have_none_in xs ys

-- whether the symbols begin with terminals of the list only
abbrev pub begin_within : List RuleFacts → List ℕ → List Symbol → Bool
begin_within fs among [] = true
begin_within fs among (Terminal t ∷ ss) = contains among t
begin_within fs among (LeftOut t ∷ ss) = contains among t
begin_within fs among (Close ∷ ss) = begin_within fs among ss
begin_within fs among (Rule n ∷ ss) =
    are_among (fact_at fs n).first among && (elim ((fact_at fs n).nullable) [ true ↦ begin_within fs among ss | false ↦ true ])

-- whether what can stand behind the first rule can stand behind the second
abbrev pub follows_by : List RuleFacts → ℕ → ℕ → Bool
follows_by fs n m = are_among (fact_at fs n).follow (fact_at fs m).follow && (not (fact_at fs n).ends || (fact_at fs m).ends)

-- whether what stands behind each rule in the symbols of a production of this rule can stand behind it
abbrev pub followed_by : List RuleFacts → ℕ → List Symbol → Bool
followed_by fs n [] = true
followed_by fs n (Terminal t ∷ ss) = followed_by fs n ss
followed_by fs n (LeftOut t ∷ ss) = followed_by fs n ss
followed_by fs n (Close ∷ ss) = followed_by fs n ss
followed_by fs n (Rule m ∷ ss) =
    ((nat_lt m (length fs) && begin_within fs (fact_at fs m).follow ss) && (elim (nullable_of fs ss) [ true ↦ follows_by fs n m | false ↦ true ])) && followed_by fs n ss

-- whether nothing is left out
abbrev pub none_out : List Symbol → Bool
none_out [] = true
none_out (Terminal t ∷ ss) = none_out ss
none_out (LeftOut t ∷ ss) = false
none_out (Close ∷ ss) = none_out ss
none_out (Rule n ∷ ss) = none_out ss

-- whether nothing is left out but the first symbol, if that
abbrev pub out_first : List Symbol → Bool
out_first [] = true
out_first (s ∷ ss) = none_out ss

-- whether the symbols can be derived, by rules that are all below the height
abbrev pub below_by : List RuleFacts → ℕ → List Symbol → Bool
below_by fs h [] = true
below_by fs h (Terminal t ∷ ss) = below_by fs h ss
below_by fs h (LeftOut t ∷ ss) = false
below_by fs h (Close ∷ ss) = below_by fs h ss
below_by fs h (Rule n ∷ ss) = nat_lt (fact_at fs n).height h && below_by fs h ss

-- whether a production that can take nothing is chosen wherever its rule can be followed
abbrev pub null_fits : List RuleFacts → Entry → Bool
null_fits fs x =
    (fact_at fs x.rule).nullable && (are_among (fact_at fs x.rule).follow x.on && (not (fact_at fs x.rule).ends || x.at_end))

-- whether what is given for the rules holds of the production, and it is chosen wherever it can be needed
abbrev pub fits_by : List RuleFacts → Entry → Bool
fits_by fs x =
    (elim (nullable_of fs x.symbols) [ true ↦ null_fits fs x | false ↦ true ])
    && (begin_within fs (fact_at fs x.rule).first x.symbols
    && (begin_within fs x.on x.symbols
    && (followed_by fs x.rule x.symbols
    && (out_first x.symbols && nat_lt (weight_of fs x.symbols) (fact_at fs x.rule).weight))))

-- whether that is so of each production
abbrev pub all_fit : List RuleFacts → List Entry → Bool
all_fit fs [] = true
all_fit fs (x ∷ xs) = fits_by fs x && all_fit fs xs

-- whether the two are of two rules, or are never chosen at one terminal or both at the end
abbrev pub apart_by : Entry → Entry → Bool
apart_by x y = elim (nat_eq x.rule y.rule) [ true ↦ have_none_in x.on y.on && not (x.at_end && y.at_end) | false ↦ true ]

-- whether that is so of the production and each of the others
abbrev pub apart_from : Entry → List Entry → Bool
apart_from x [] = true
apart_from x (y ∷ ys) = apart_by x y && apart_from x ys

-- whether that is so of any two
abbrev pub all_apart : List Entry → Bool
all_apart [] = true
all_apart (x ∷ xs) = apart_from x xs && all_apart xs

-- whether the rule has a production by rules that are all below its height
abbrev pub finished_by : List RuleFacts → ℕ → List Entry → Bool
finished_by fs n [] = false
finished_by fs n (x ∷ xs) = (elim (nat_eq x.rule n) [ true ↦ below_by fs (fact_at fs n).height x.symbols | false ↦ false ]) || finished_by fs n xs

-- whether that is so of each rule from this number on
abbrev pub all_finished : List RuleFacts → List Entry → List RuleFacts → ℕ → Bool
all_finished fs ps [] n = true
all_finished fs ps (r ∷ rs) n = finished_by fs n ps && all_finished fs ps rs (n + 1)

-- whether the productions pass the test with what is given for the rules
abbrev pub predictive_by : List RuleFacts → List Entry → Bool
predictive_by fs ps = (nat_lt 0 (length fs) && (fact_at fs 0).ends) && (all_fit fs ps && (all_apart ps && all_finished fs ps fs 0))

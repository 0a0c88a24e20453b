-- The grammars for which the predictive parser is exact: LL(1) (Aho, Lam, Sethi, Ullman, section 4.4.3), by sets FIRST and
-- FOLLOW for each rule that are given.
use Rattle.std.specs.Prelude.{◌≡◌, ℕ, zero, suc, ◌+◌, ◌<◌, Bool, true, false, ◌&&◌, ◌⊎◌, ⊤, List, [], ◌∷◌, ◌++◌, length, Some, slice_get, Option, None, cond}
use Rattle.pj_ll.specs.Grammar.{Entry}
use Rattle.pj_ll.specs.declared.grammar.Symbol.{Symbol}
use Rattle.pj_ll.specs.declared.grammar.Symbol.TheVariants.{Terminal, Rule, LeftOut, Close}

-- What is given for a rule: whether it can take nothing; terminals with which it can begin; terminals that can stand behind
-- it, and whether the end can; a number that bounds how many symbols are replaced or passed over before its first terminal; a
-- number above those of the rules in some way to finish it. The sets may have more than the least ones.
pub record RuleFacts : Type 0 where
  pub nullable : Bool
  pub first : List ℕ
  pub follow : List ℕ
  pub ends : Bool
  pub weight : ℕ
  pub height : ℕ

-- what is said of a rule for which nothing is given
abbrev pub unknown : RuleFacts
unknown = record { nullable = false; first = []; follow = []; ends = false; weight = 0; height = 0 }

-- what is given for the rule of this number
abbrev pub fact_at : List RuleFacts → ℕ → RuleFacts
fact_at [] n = unknown
fact_at (f ∷ fs) zero = f
fact_at (f ∷ fs) (suc n) = fact_at fs n

-- the number is in the list
abbrev pub IsIn : List ℕ → ℕ → Type 0
IsIn [] a = ⊥
IsIn (x ∷ xs) a = (a ≡ x) ⊎ IsIn xs a

-- the symbols can take nothing
abbrev pub nullable_of : List RuleFacts → List Symbol → Bool
nullable_of fs [] = true
nullable_of fs (Terminal t ∷ ss) = false
nullable_of fs (LeftOut t ∷ ss) = false
nullable_of fs (Close ∷ ss) = nullable_of fs ss
nullable_of fs (Rule n ∷ ss) = (fact_at fs n).nullable && nullable_of fs ss

-- the terminals with which the symbols can begin; what is left out begins with its terminal
abbrev pub first_of : List RuleFacts → List Symbol → List ℕ
first_of fs [] = []
first_of fs (Terminal t ∷ ss) = t ∷ []
first_of fs (LeftOut t ∷ ss) = t ∷ []
first_of fs (Close ∷ ss) = first_of fs ss
first_of fs (Rule n ∷ ss) = (fact_at fs n).first ++ cond (fact_at fs n).nullable (first_of fs ss) []

-- how many symbols are replaced or passed over at most before a terminal comes
abbrev pub weight_of : List RuleFacts → List Symbol → ℕ
weight_of fs [] = 0
weight_of fs (Terminal t ∷ ss) = 0
weight_of fs (LeftOut t ∷ ss) = 0
weight_of fs (Close ∷ ss) = 1 + weight_of fs ss
weight_of fs (Rule n ∷ ss) = (fact_at fs n).weight + cond (fact_at fs n).nullable (weight_of fs ss) 0

-- a rule that stands before the symbols in a production of another
pub record IsFollowedBy (fs : List RuleFacts) (producer rule : ℕ) (behind : List Symbol) : Type 0 where
  pub known : rule < length fs
  pub first : (a : ℕ) → IsIn (first_of fs behind) a → IsIn (fact_at fs rule).follow a
  pub follow : nullable_of fs behind ≡ true → (a : ℕ) → IsIn (fact_at fs producer).follow a → IsIn (fact_at fs rule).follow a
  pub ends : nullable_of fs behind ≡ true → (fact_at fs producer).ends ≡ true → (fact_at fs rule).ends ≡ true

-- what stands behind each rule in the symbols of a production can stand behind it
abbrev pub AreFollowed : List RuleFacts → ℕ → List Symbol → Type 0
AreFollowed fs producer [] = ⊤
AreFollowed fs producer (Terminal t ∷ ss) = AreFollowed fs producer ss
AreFollowed fs producer (LeftOut t ∷ ss) = AreFollowed fs producer ss
AreFollowed fs producer (Close ∷ ss) = AreFollowed fs producer ss
AreFollowed fs producer (Rule n ∷ ss) = IsFollowedBy fs producer n ss × AreFollowed fs producer ss

abbrev pub HaveNoLeftOut : List Symbol → Type 0
HaveNoLeftOut [] = ⊤
HaveNoLeftOut (Terminal t ∷ ss) = HaveNoLeftOut ss
HaveNoLeftOut (LeftOut t ∷ ss) = ⊥
HaveNoLeftOut (Close ∷ ss) = HaveNoLeftOut ss
HaveNoLeftOut (Rule n ∷ ss) = HaveNoLeftOut ss

-- what is left out stands first, if at all
abbrev pub HaveLeftOutFirst : List Symbol → Type 0
HaveLeftOutFirst [] = ⊤
HaveLeftOutFirst (s ∷ ss) = HaveNoLeftOut ss

-- the symbols can be derived, by rules that are all below the height
abbrev pub AreBelow : List RuleFacts → ℕ → List Symbol → Type 0
AreBelow fs height [] = ⊤
AreBelow fs height (Terminal t ∷ ss) = AreBelow fs height ss
AreBelow fs height (LeftOut t ∷ ss) = ⊥
AreBelow fs height (Close ∷ ss) = AreBelow fs height ss
AreBelow fs height (Rule n ∷ ss) = ((fact_at fs n).height < height) × AreBelow fs height ss

-- the parser chooses the production at the terminal, or at the end
abbrev pub IsChosenAt : Entry → Option ℕ → Type 0
IsChosenAt x (Some a) = IsIn x.on a
IsChosenAt x None = x.at_end ≡ true

-- what is given for the rules holds of one production, and it is chosen wherever it can be needed
pub record FitsFacts (fs : List RuleFacts) (x : Entry) : Type 0 where
  pub nullable : nullable_of fs x.symbols ≡ true → (fact_at fs x.rule).nullable ≡ true
  pub first : (a : ℕ) → IsIn (first_of fs x.symbols) a → IsIn (fact_at fs x.rule).first a
  pub followed : AreFollowed fs x.rule x.symbols
  pub left_out : HaveLeftOutFirst x.symbols
  pub lighter : weight_of fs x.symbols < (fact_at fs x.rule).weight
  pub on_first : (a : ℕ) → IsIn (first_of fs x.symbols) a → IsChosenAt x (Some a)
  pub on_follow : nullable_of fs x.symbols ≡ true → (a : ℕ) → IsIn (fact_at fs x.rule).follow a → IsChosenAt x (Some a)
  pub on_end : nullable_of fs x.symbols ≡ true → (fact_at fs x.rule).ends ≡ true → IsChosenAt x None

-- The parser is exact for the productions: what is given for the rules holds of each production, no two productions of one
-- rule are chosen at one terminal or both at the end, and each rule derives something.
pub record IsPredictive (fs : List RuleFacts) (productions : List Entry) : Type 0 where
  pub some : 0 < length fs
  pub ends : (fact_at fs 0).ends ≡ true
  pub each : (p : ℕ) (x : Entry) → slice_get productions p ≡ Some x → FitsFacts fs x
  pub one : (p q : ℕ) (x y : Entry) (a : Option ℕ) → slice_get productions p ≡ Some x → slice_get productions q ≡ Some y →
      x.rule ≡ y.rule → IsChosenAt x a → IsChosenAt y a → p ≡ q
  pub finished : (n : ℕ) → n < length fs →
      (p : ℕ) × ((x : Entry) × (slice_get productions p ≡ Some x) × (x.rule ≡ n) × AreBelow fs (fact_at fs n).height x.symbols)

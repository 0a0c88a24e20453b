-- Which pattern is refused.
use Rattle.std.specs.Prelude.{◌≡◌, List, ◌∷◌, ◌++◌}
use Rattle.std.specs.List.{AllByRecursion}
use Rattle.pj_xpatterns.specs.declared.compiled.PatternFault.{PatternFault}
use Rattle.pj_xpatterns.specs.declared.compiled.PatternFault.TheVariants.{Refused, Memory}
use Rattle.pj_xpatterns.specs.Meaning.{Text, Pattern, IsNoPattern}

-- a fact of the text, where a pattern is refused
abbrev pub IfRefused : PatternFault → (Text → Type 0) → Type 0
IfRefused (Refused text) fact = fact text
IfRefused Memory fact = Unit {0}

-- each is a pattern
abbrev pub AreTaken : List Pattern → Type 0
AreTaken patterns = AllByRecursion (λ pattern. ¬ IsNoPattern pattern) patterns

-- the text is that of the first pattern among these that is none, in their order
pub record IsFirstRefused (patterns : List Pattern) (text : Text) : Type 0 where
  pub before : List Pattern
  pub pattern : Pattern
  pub behind : List Pattern
  pub stands : patterns ≡ before ++ pattern ∷ behind
  pub taken : AreTaken before
  pub refused : IsNoPattern pattern
  pub its_text : pattern.0 ≡ text

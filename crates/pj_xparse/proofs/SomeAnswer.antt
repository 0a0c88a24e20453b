-- Each text spells an expression or has a first fault.
use Rattle.std.proofs.Common.{◌≡◌, ℕ, List, Option, Some, None, ◌⊎◌, inl, inr, sym, refl, ap, ◌∙◌}
use Rattle.pj_ll.specs.declared.parser.End.{End}
use Rattle.pj_ll.specs.declared.parser.End.TheVariants as outcome
use Rattle.pj_xtokens.specs.Size.{size}
use Rattle.pj_xtokens.specs.Tokens.{Lexed, Tokens}
use Rattle.pj_xtokens.specs.declared.token.End as token
use Rattle.pj_xexpressions.specs.Trees.{Tree}
use Rattle.pj_xreadings.specs.Operands.{Operand}
use Rattle.pj_xmeaning.specs.Reads.{AreRead}
use Rattle.pj_xparse.specs.NameFaults.{Fault, first_fault}
use Rattle.pj_xparse.specs.Spells.{Spells}
use Rattle.pj_xparse.specs.Faults.{IsFault, named_first, syntax_fault, named_fault}
use Rattle.pj_xparse.specs.Outcomes.{IsOutcome, SaySoFar, whole}
use Rattle.pj_xparse.specs.declared.fault.XSyntax.{XSyntax}
use Rattle.pj_xparse.proofs.Parsed.{spelled}

abbrev Answer : List (List ℕ) → List ℕ → Type 0
Answer variables text = ((tree : Tree) × Spells variables text tree) ⊎ ((fault : XSyntax) × IsFault variables text fault)

-- where each list of tokens says something as far as it is read
module _ (say : (tokens : List Lexed) → (a : Operand) × SaySoFar tokens a) where
  module _ (variables : List (List ℕ)) (text : List ℕ) (tokens : List Lexed) (end : token.End) (read : Tokens (size text) text tokens end) where
    module _ (o : End) (is : IsOutcome tokens o) (said : Operand) (so_far : SaySoFar tokens said) where
      faulty : (fault : XSyntax) → Some fault ≡ named_first (first_fault variables said.names) (syntax_fault tokens end o) → Answer variables text
      faulty fault is_fault = inr (fault, record { tokens = tokens; end = end; outcome = o; said = said; read = read; is_outcome = is; say = so_far; is = is_fault })

      -- a fault of what is named, of the tokens, or none
      by_faults : (named : Option Fault) (later : Option XSyntax) → first_fault variables said.names ≡ named → syntax_fault tokens end o ≡ later
          → (later ≡ None → AreRead tokens said) → Answer variables text
      by_faults (Some fault) later n s read_whole = faulty (named_fault fault) (ap (λ (f : Option Fault). named_first f (syntax_fault tokens end o)) (sym n))
      by_faults None (Some fault) n s read_whole = faulty fault (sym s ∙ ap (λ (f : Option Fault). named_first f (syntax_fault tokens end o)) (sym n))
      by_faults None None n s read_whole = inl (said.tree, spelled variables text tokens said end o read s (read_whole refl) n)

    -- what the tokens say as far as they are read
    so_far : (a : Operand) × SaySoFar tokens a
    so_far = say tokens

    by_outcome : (o : End) → IsOutcome tokens o → Answer variables text
    by_outcome outcome.Whole is = by_faults outcome.Whole is is.0 (whole is.1) _ _ refl refl (λ _. is.1)
    by_outcome (outcome.Stops i) is = by_faults (outcome.Stops i) is so_far.0 so_far.1 _ _ refl refl (λ e. absurd (let z = e in cc))
    by_outcome (outcome.LeftOut i) is = by_faults (outcome.LeftOut i) is so_far.0 so_far.1 _ _ refl refl (λ e. absurd (let z = e in cc))
    by_outcome (outcome.TooDeep i) is = by_faults (outcome.TooDeep i) is so_far.0 so_far.1 _ _ refl refl (λ e. absurd (let z = e in cc))

  -- where each text has tokens, and each list of tokens an outcome
  pub some_answer : ((text : List ℕ) → (tokens : List Lexed) × ((end : token.End) × Tokens (size text) text tokens end))
      → ((tokens : List Lexed) → (end : End) × IsOutcome tokens end) → (variables : List (List ℕ)) (text : List ℕ) → Answer variables text
  some_answer some_tokens some_outcome variables text =
      let (tokens, (end, read)) = some_tokens text in
      let (o, is) = some_outcome tokens in
      by_outcome variables text tokens end read o is

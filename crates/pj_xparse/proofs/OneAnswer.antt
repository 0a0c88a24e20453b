-- A text spells one expression at most, or has one first fault at most, and not both.
use Rattle.std.proofs.Common.{◌≡◌, ℕ, List, Some, None, sym, ap, ◌∙◌, subst}
use Rattle.pj_ll.specs.declared.parser.End.{End}
use Rattle.pj_ll.specs.declared.parser.End.TheVariants as outcome
use Rattle.pj_xtokens.specs.Size.{size}
use Rattle.pj_xtokens.specs.Tokens.{Lexed, Tokens}
use Rattle.pj_xtokens.specs.declared.token.End as token
use Rattle.pj_xexpressions.specs.Trees.{Tree}
use Rattle.pj_xreadings.specs.Operands.{Operand}
use Rattle.pj_xmeaning.specs.Reads.{AreRead}
use Rattle.pj_xparse.specs.NameFaults.{first_fault}
use Rattle.pj_xparse.specs.Spells.{Spells}
use Rattle.pj_xparse.specs.Faults.{IsFault, named_first, syntax_fault}
use Rattle.pj_xparse.specs.Outcomes.{IsOutcome, SaySoFar, whole}
use Rattle.pj_xparse.specs.declared.fault.XSyntax.{XSyntax}

-- where the tokens of a text and their end are one
module _ (one_tokens : (text : List ℕ) (xs ys : List Lexed) (e f : token.End) → Tokens (size text) text xs e → Tokens (size text) text ys f → (xs ≡ ys) × (e ≡ f)) where
  -- and are read as one thing
  pub one_expression : ((tokens : List Lexed) (a b : Operand) → AreRead tokens a → AreRead tokens b → a ≡ b)
      → (variables : List (List ℕ)) (text : List ℕ) (a b : Tree) → Spells variables text a → Spells variables text b → a ≡ b
  one_expression one_reading variables text a b s t =
      let tokens : s.tokens ≡ t.tokens = (one_tokens text s.tokens t.tokens _ _ s.read t.read).0 in
      let said : s.said ≡ t.said = one_reading t.tokens s.said t.said (subst (λ ts. AreRead ts s.said) tokens s.says) t.says in
      s.means ∙ ap (λ (o : Operand). o.tree) said ∙ sym t.means

  -- where they have one outcome, and say one thing as far as they are read
  module _ (one_outcome : (tokens : List Lexed) (a b : End) → IsOutcome tokens a → IsOutcome tokens b → a ≡ b)
      (one_saying : (tokens : List Lexed) (a b : Operand) → SaySoFar tokens a → SaySoFar tokens b → a ≡ b) where
    pub not_both : (variables : List (List ℕ)) (text : List ℕ) (tree : Tree) (fault : XSyntax) → Spells variables text tree → IsFault variables text fault → ⊥
    not_both variables text tree fault s f =
        let same = one_tokens text f.tokens s.tokens _ _ f.read s.read in
        let outcomes : f.outcome ≡ outcome.Whole =
        one_outcome s.tokens f.outcome outcome.Whole (subst (λ ts. IsOutcome ts f.outcome) same.0 f.is_outcome) (s.said, s.says) in
        let said : f.said ≡ s.said = one_saying s.tokens f.said s.said (subst (λ ts. SaySoFar ts f.said) same.0 f.say) (whole s.says) in
        let named : first_fault variables f.said.names ≡ None = ap (λ (o : Operand). first_fault variables o.names) said ∙ s.named in
        let syntax : syntax_fault f.tokens f.end f.outcome ≡ None =
        ap (λ o. syntax_fault f.tokens f.end o) outcomes ∙ ap (λ e. syntax_fault f.tokens e outcome.Whole) same.1 in
        let none : Some fault ≡ None = f.is ∙ ap (λ n. named_first n (syntax_fault f.tokens f.end f.outcome)) named ∙ syntax in
        absurd (cc)

    pub one_fault : (variables : List (List ℕ)) (text : List ℕ) (f g : XSyntax) → IsFault variables text f → IsFault variables text g → f ≡ g
    one_fault variables text f g x y =
        let same = one_tokens text x.tokens y.tokens _ _ x.read y.read in
        let outcomes : x.outcome ≡ y.outcome =
        one_outcome y.tokens x.outcome y.outcome (subst (λ ts. IsOutcome ts x.outcome) same.0 x.is_outcome) y.is_outcome in
        let said : x.said ≡ y.said = one_saying y.tokens x.said y.said (subst (λ ts. SaySoFar ts x.said) same.0 x.say) y.say in
        let syntax : syntax_fault x.tokens x.end x.outcome ≡ syntax_fault y.tokens y.end y.outcome =
        ap (λ o. syntax_fault x.tokens x.end o) outcomes ∙ ap (λ e. syntax_fault x.tokens e y.outcome) same.1
        ∙ ap (λ ts. syntax_fault ts y.end y.outcome) same.0 in
        let one : Some f ≡ Some g =
        x.is ∙ ap (λ (o : Operand). named_first (first_fault variables o.names) (syntax_fault x.tokens x.end x.outcome)) said
        ∙ ap (λ s. named_first (first_fault variables y.said.names) s) syntax ∙ sym y.is in
        cc

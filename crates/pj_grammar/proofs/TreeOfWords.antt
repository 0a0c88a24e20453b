-- The tree of a derivation over the words of a source.
use Rattle.std.proofs.Common.{◌≡◌, ℕ, List, length, Result, Ok, Err, ◌⊎◌, sym, ◌∙◌, ap, subst}
use Rattle.std.specs.Prelude.{MatchResult}
use Rattle.std.proofs.lemmas.List.{length-map}
use Rattle.pj_peg_grammar.specs.Derivation.{Forest}
use Rattle.pj_peg_grammar.specs.Derives.{DerivesSteps}
use Rattle.pj_peg_grammar.specs.declared.derivation.Step.{Step}
use Rattle.pj_tree.specs.Tree.{Tree}
use Rattle.pj_tree.specs.declared.node.Span.{Span}
use Rattle.pj_tree.specs.declared.shape_fault.ShapeFault.{ShapeFault}
use Rattle.pj_tree.specs.declared.shape_fault.ShapeFault.TheVariants.{Memory}
use Rattle.pj_shape.specs.ShapedTree.{IsDerived, shaped_tree}
use Rattle.pj_shape.specs.declared.shape.Shape.{Shape}
use Rattle.pj_grammar.specs.Java17.{java_17_forms}
use Rattle.pj_grammar.specs.Terminal.{terminal_of, terminal_number}
use Rattle.pj_grammar.specs.Words.{TokenSeen, words, spans, terminals}

-- as many words as spans of them are derived
pub is_derived : (ts : List TokenSeen) (ss : List Span) (steps : List Step) → ss ≡ spans (words ts) → DerivesSteps java_17_forms (terminals (words ts)) steps → IsDerived (length ss) steps
is_derived ts ss steps e d =
    let count : length (terminals (words ts)) ≡ length ss =
    length-map (words ts) (λ (t : TokenSeen). terminal_number (terminal_of t.kind t.text)) ∙ sym (length-map (words ts) (λ (t : TokenSeen). t.span)) ∙ ap length (sym e) in
    (java_17_forms, terminals (words ts), count, d)

abbrev pub Gives : List ℕ → List Span → List Shape → Forest → Result Tree ShapeFault → Type 0
Gives text ss shapes d r = MatchResult r (λ tree. shaped_tree text ss shapes d ≡ Ok tree) (λ fault. (fault ≡ Memory) ⊎ (shaped_tree text ss shapes d ≡ Err fault))

pub gives_same : (text u : List ℕ) (ss ts : List Span) (shapes hs : List Shape) (d : Forest) (r : Result Tree ShapeFault) → text ≡ u → ss ≡ ts → shapes ≡ hs → Gives text ss shapes d r → Gives u ts hs d r
gives_same text u ss ts shapes hs d r e f g h =
    subst (λ (l : List Shape). Gives u ts l d r) g (subst (λ (l : List Span). Gives u l shapes d r) f (subst (λ (l : List ℕ). Gives l ss shapes d r) e h))

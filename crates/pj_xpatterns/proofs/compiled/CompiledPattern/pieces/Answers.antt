use Rattle.std.proofs.Common.{◌≡◌, ◌∙◌, ◌++◌, ◌<◌, ℕ, List, [], ap, ap₂, arith, get_or, sym, append-nil, length, map, slice_range, rules}
use Rattle.std.proofs.Math.Logic.{∥∥₁_elim}
use Rattle.std.proofs.Props.{props}
use Rattle.regex.specs.Patterns.{Re, find_all_str}
use Rattle.regex.specs.Search.{gaps}
use Rattle.pj_xpatterns.proofs.Pieces.{texts_left}
use Rattle.pj_xpatterns.proofs.PatternFacts.{pieces-compiled}
use Rattle.pj_xpatterns.proofs.compiled.CompiledPattern.pieces.Goals as goal

pub returns : goal.returns
returns c =
    let bytes : (k : ℕ) → get_or c.args.text.now k 0 < 256 = λ k. omega (arith, c.type_inv.text k) in
    let none : texts_left c.loop-piece.piece-iterator ≡ [] = search rules in
    let started : texts_left c.into_iter-piece-iterator.result ≡ texts_left c.split-piece-items.result = search rules in
    let cut = ap₂ (λ (hay : List ℕ) (spans : List (ℕ × ℕ)). map (λ p. slice_range hay p.0 p.1) spans) c.split-piece-items.ensures.within c.split-piece-items.ensures.found in
    sym (append-nil c.loop-piece.pieces) ∙ ap (λ t. c.loop-piece.pieces ++ t) (sym none) ∙ c.loop-piece.invariant ∙ started ∙ cut
    ∙ ap (λ (re : Re). map (λ p. slice_range c.args.text.now p.0 p.1) (gaps (length c.args.text.now) 0 (find_all_str re c.args.text.now))) c.in_ok-matcher.ensures.pattern
    ∙ ∥∥₁_elim c.self.invariant (hlevel props) (λ read. pieces-compiled c.self.inside.regex c.self.inside.flags c.args.self.now read c.self.view_is c.args.text.now bytes)

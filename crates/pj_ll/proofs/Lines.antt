-- The lines of a grammar are those of its productions.
use Rattle.std.proofs.Common.{◌≡◌, ℕ, List, [], Some, sym, ◌∙◌, ap}
use Rattle.std.specs.Prelude.{slice_get}
use Rattle.std.specs.Option.{option_map}
use Rattle.std.proofs.lemmas.Option.{slice_get-map}
use Rattle.pj_ll.specs.declared.grammar.Symbol.{Symbol}
use Rattle.pj_ll.specs.Grammar.{Entry, Line, line_of, grammar_of}
use Rattle.pj_ll.specs.Leads.{Leads, stay, close, expand}
use Rattle.pj_ll.specs.Parsing.{Moves, rests, closes_one, replaces}
use Rattle.pj_ll.proofs.Lists.{mapped}

module _ (productions : List Entry) where
  -- a line of the grammar is that of a production
  pub line_there : (p : ℕ) (line : Line) → slice_get (grammar_of productions) p ≡ Some line →
      (x : Entry) × (slice_get productions p ≡ Some x) × (line ≡ line_of x)
  line_there p line at = mapped line_of (slice_get productions p) line (sym (slice_get-map line_of productions p) ∙ at)

  pub line_at : (p : ℕ) (x : Entry) → slice_get productions p ≡ Some x → slice_get (grammar_of productions) p ≡ Some (line_of x)
  line_at p x at = slice_get-map line_of productions p ∙ ap (option_map line_of) at

  pub moves_lead : {a : _} {ss after : List Symbol} {ps : List ℕ} → Moves productions a ss ps after → Leads (grammar_of productions) ss [] ps after
  moves_lead rests = stay
  moves_lead (closes_one m) = close (moves_lead m)
  moves_lead (replaces n p x at rule chosen m) = expand n p (line_of x) (line_at p x at) rule (moves_lead m)

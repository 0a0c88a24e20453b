use Rattle.std.proofs.Common.{◌≡◌, ◌∙◌, ap, eqb, length, List, ℕ, Bool, true, false, not, Option, Some, None, is_some, refl}
use Rattle.std.specs.Option.{option_copied}
use Rattle.std.proofs.lemmas.Bool.{false≢true}
use denote.Ref.{Bor}
use Rattle.pj_literals.specs.Lines.{lines_left, normalized, between_feeds}
use Rattle.pj_literals.proofs.LineLaws.{lines_some, lines_left_none}
use Rattle.pj_literals.proofs.lines.Lines.is_empty.Goals as goal

none_left : (o : Option (Bor (List ℕ))) (r : Bool) → is_some o ≡ not r → r ≡ eqb (length (lines_left (option_copied o))) 0
none_left None true h = refl
none_left None false h = absurd (false≢true h)
none_left (Some x) true h = absurd (cc)
none_left (Some x) false h = lines_left_none (between_feeds (normalized x.now)) (lines_some (normalized x.now))

pub returns : goal.returns
returns c = none_left c.self.inside.rest c.is_none.result c.is_none.ensures ∙ ap (λ (ls : List (List ℕ)). eqb (length ls) 0) c.self.view_is

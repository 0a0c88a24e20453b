use Rattle.std.proofs.Common.{◌≡◌, ◌∷◌, ◌==◌, ◌&&◌, false, sym, ◌∙◌}
use Rattle.std.specs.Str.{chars}
use Rattle.std.proofs.lemmas.Bool.{ne_eqb}
use Rattle.pj_base.specs.Front.{starts_with}
use Rattle.pj_source.specs.Escapes.{begins_escape}
use Rattle.pj_source.proofs.WrittenLaws.{plain_front, first_false, second_false, third_false}
use Rattle.pj_source.proofs.source.front.split_front.Goals as goal
use Rattle.pj_source.proofs.source.front.split_front.Goals.{else-eligible-via-then-eligible+then-c-eq92+else-begins_with, else-eligible-via-then-eligible+else-c-eq92, else-eligible-via-else-eligible}

pub returns-clause-front : goal.returns-clause-front
returns-clause-front c =
    let none : (c.args.eligible && begins_escape (c.args.c ∷ chars c.args.behind.now)) ≡ false = elim c.else-eligible.branch [
      | else-eligible-via-then-eligible+then-c-eq92+else-begins_with w ↦ third_false c.args.eligible (c.args.c == 92) (starts_with 117 (chars c.args.behind.now)) (sym w.begins_with.ensures ∙ w.if-begins_with.false)
      | else-eligible-via-then-eligible+else-c-eq92 w ↦ second_false c.args.eligible (c.args.c == 92) (starts_with 117 (chars c.args.behind.now)) (ne_eqb c.args.c 92 w.if-c-eq92.false)
      | else-eligible-via-else-eligible w ↦ first_false c.args.eligible (c.args.c == 92) (starts_with 117 (chars c.args.behind.now)) w.if-eligible.false
    ] in
    plain_front c.args.eligible (chars c.args.rest.now) (chars c.args.behind.now) c.args.c c.requires.chars none

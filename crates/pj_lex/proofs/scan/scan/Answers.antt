use Rattle.std.proofs.Common.{sym, subst, []}
use Rattle.std.specs.Str.{chars}
use Rattle.pj_lex.specs.Rules.{Outcome}
use Rattle.pj_lex.specs.Tokens.{Begins}
use Rattle.pj_lex.proofs.Scanned.{begins_found, begins_nothing, found_behind}
use Rattle.pj_lex.proofs.scan.scan.Goals as goal

pub returns-in_default : goal.returns-in_default
returns-in_default c = ([], begins_nothing _ (sym c.in_default.ensures))

pub before-requires : goal.before-requires
before-requires c = found_behind _ _ _ (sym c.in-Some.ensures)

pub returns-in-Ok : goal.returns-in-Ok
returns-in-Ok c =
    subst (λ (l : Outcome). Begins (chars c.args.text.now) l (chars c.in-Some.behind.now)) (sym c.in-Ok.ensures)
    (begins_found _ _ _ _ (sym c.in-Some.ensures) c.before-2.ensures.split)

pub returns-in-Err : goal.returns-in-Err
returns-in-Err c = (
  _,
  subst (λ (l : Outcome). Begins (chars c.args.text.now) l (chars c.in-Some.behind.now)) (sym c.in-Err.ensures)
      (begins_found _ _ _ _ (sym c.in-Some.ensures) c.before-2.ensures.split),
)

use Rattle.std.proofs.Common.{rules, sym, ◌∙◌}
use Rattle.pj_signature_patterns.specs.Reading.{read_types}
use Rattle.pj_signature_patterns.proofs.Listed.{ends, fails, pieces, turns}
use Rattle.pj_signature_patterns.proofs.read.read_some_types.Goals as goal

pub returns-in_default-2 : goal.returns-in_default-2
returns-in_default-2 c =
    fails (read_types (pieces c.args.text.now)) c.loop-piece.types c.loop-piece.left.now c.in-Some.piece.now c.in-Some.rest.now c.loop-piece.invariant.types (sym c.in-Some.ensures.value)
    (sym c.in_default-2.is ∙ c.in_ok-ty.ensures)

pub loop-piece-preserved : goal.loop-piece-preserved
loop-piece-preserved c = record {
  text = search rules;
  types =
      turns (read_types (pieces c.args.text.now)) c.loop-piece.types c.loop-piece.left.now c.in-Some.piece.now c.in-Some.rest.now c.in-Some-2.ty c.push.new.self c.loop-piece.invariant.types
      (sym c.in-Some.ensures.value) (sym c.in-Some-2.is ∙ c.in_ok-ty.ensures) c.in_ok-push.ensures.ok;
}

pub returns : goal.returns
returns c =
    ends (read_types (pieces c.args.text.now)) c.loop-piece.types c.loop-piece.left.now c.in-Some-3.last c.push-2.new.self c.loop-piece.invariant.types (sym c.in_default.ensures.value)
    (sym c.in-Some-3.is ∙ c.in_ok-last.ensures) c.in_ok-push-2.ensures.ok

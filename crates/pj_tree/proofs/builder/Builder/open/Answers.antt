use Rattle.std.proofs.Common.{◌≡◌, length, refl, arith}
use Rattle.pj_tree.proofs.builder.Builder.open.Goals as goal
use Rattle.pj_tree.proofs.Growth.{opened_is}
use Rattle.pj_tree.proofs.Calls.{opened_seen}

pub invariant_of-self-2 : goal.invariant_of-self-2
invariant_of-self-2 c =
    let len : c.len-number.result ≡ length c.self.inside.rows.items = omega (arith, c.len-number.ensures) in
    rw (c.in_ok-push.ensures.items, len, c.max-self-inside.ensures)
    (opened_is c.self.inside.rows.items c.self.inside.tokens.items c.self.inside.current c.self.inside.depth c.self.inside.deepest c.self.inside.last_child _ c.self.invariant (omega (arith, c.if-number-ge-MAX_MEMBERS.false)) refl refl refl refl)

pub returns-clause-ok : goal.returns-clause-ok
returns-clause-ok c =
    let len : c.len-number.result ≡ length c.self.inside.rows.items = omega (arith, c.len-number.ensures) in
    rw (c.in_ok-push.ensures.items, len, ← c.self.view_is)
    (opened_seen c.self.inside.text.now c.self.inside.rows.items c.self.inside.tokens.items c.self.inside.current _ c.self.invariant.owners refl refl)

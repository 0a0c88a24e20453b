use Rattle.std.proofs.Common.{◌≡◌, ◌<◌, length, set, ap, ◌∙◌, arith, subst, Option, Some}
use Rattle.std.proofs.lemmas.List.{get_or_read}
use Rattle.pj_tree.specs.Building.{Building, closed}
use Rattle.pj_tree.specs.Rows.{IsBuilding, row_at, no_row}
use Rattle.pj_tree.specs.declared.node.Node.{Node}
use Rattle.pj_tree.specs.declared.row.Row.{Row}
use Rattle.pj_tree.proofs.builder.Builder.close.Goals as goal
use Rattle.pj_tree.proofs.Growth.{closed_is}
use Rattle.pj_tree.proofs.Calls.{building_seen, closed_seen}
use Rattle.pj_tree.proofs.Seen.{ended_row}

pub invariant_of-self : goal.invariant_of-self
invariant_of-self c =
    let s : IsBuilding c.self.inside.rows.items c.self.inside.tokens.items (Some c.in-Some.node) c.self.inside.depth c.self.inside.deepest c.self.inside.last_child
    = subst (λ (o : Option Node). IsBuilding c.self.inside.rows.items c.self.inside.tokens.items o c.self.inside.depth c.self.inside.deepest c.self.inside.last_child) c.in-Some.is c.self.invariant in
    let in_rows : c.in-Some.node.0 < length c.self.inside.rows.items = omega (arith, s.current_below) in
    let len : c.len-end.result ≡ length c.self.inside.rows.items = omega (arith, c.len-end.ensures) in
    let row : c.index_mut-row.result.now ≡ row_at c.self.inside.rows.items c.in-Some.node.0 = get_or_read c.self.inside.rows.items c.in-Some.node.0 c.index_mut-row.result.now in_rows c.index_mut-row.ensures.value no_row in
    rw (row, len) (closed_is c.self.inside.rows.items c.self.inside.tokens.items c.in-Some.node c.self.inside.depth c.self.inside.deepest c.self.inside.last_child c.args.to s)

pub returns-in-Some : goal.returns-in-Some
returns-in-Some c =
    let s : IsBuilding c.self.inside.rows.items c.self.inside.tokens.items (Some c.in-Some.node) c.self.inside.depth c.self.inside.deepest c.self.inside.last_child
    = subst (λ (o : Option Node). IsBuilding c.self.inside.rows.items c.self.inside.tokens.items o c.self.inside.depth c.self.inside.deepest c.self.inside.last_child) c.in-Some.is c.self.invariant in
    let in_rows : c.in-Some.node.0 < length c.self.inside.rows.items = omega (arith, s.current_below) in
    let row : c.index_mut-row.result.now ≡ row_at c.self.inside.rows.items c.in-Some.node.0 = get_or_read c.self.inside.rows.items c.in-Some.node.0 c.index_mut-row.result.now in_rows c.index_mut-row.ensures.value no_row in
    record {
      value = ap (λ (r : Row). building_seen c.self.inside.text.now (set c.self.inside.rows.items c.in-Some.node.0 (ended_row r c.args.to c.len-end.result)) c.self.inside.tokens.items r.parent) row
          ∙ (closed_seen c.self.inside.text.now c.self.inside.rows.items c.self.inside.tokens.items c.self.inside.current c.in-Some.node c.args.to c.len-end.result c.in-Some.is in_rows
          ∙ ap (λ (b : Building). closed b c.args.to) c.self.view_is);
    }

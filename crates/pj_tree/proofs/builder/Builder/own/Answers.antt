use Rattle.std.proofs.Common.{◌≡◌, List, [], ◌∷◌, ◌++◌, refl, ap, ◌∙◌, arith, subst, Option, Some}
use Rattle.pj_tree.specs.Building.{Building, owned}
use Rattle.pj_tree.specs.Rows.{IsBuilding, beyond}
use Rattle.pj_tree.specs.declared.node.Node.{Node}
use Rattle.pj_tree.specs.declared.row.OwnToken.{OwnToken}
use Rattle.pj_tree.proofs.builder.Builder.own.Goals as goal
use Rattle.pj_tree.proofs.Calls.{building_seen, owned_seen}

pub returns-in_ok-push-clause-ok : goal.returns-in_ok-push-clause-ok
returns-in_ok-push-clause-ok c =
    let s : IsBuilding c.self.inside.rows.items c.self.inside.tokens.items (Some c.in-Some.owner) c.self.inside.depth c.self.inside.deepest c.self.inside.last_child
    = subst (λ (o : Option Node). IsBuilding c.self.inside.rows.items c.self.inside.tokens.items o c.self.inside.depth c.self.inside.deepest c.self.inside.last_child) c.in-Some.is c.self.invariant in
    let t : OwnToken = record { owner = c.in-Some.owner; span = c.args.token; next = beyond } in
    let items : c.push.new.self.items ≡ c.self.inside.tokens.items ++ t ∷ [] = c.in_ok-push.ensures.items in
    ap (λ (ts : List OwnToken). building_seen c.self.inside.text.now c.self.inside.rows.items ts c.self.inside.current) items
    ∙ (owned_seen c.self.inside.text.now c.self.inside.rows.items c.self.inside.tokens.items c.self.inside.current c.in-Some.owner t c.in-Some.is refl (omega (arith, s.current_below))
    ∙ ap (λ (b : Building). owned b c.args.token) c.self.view_is)

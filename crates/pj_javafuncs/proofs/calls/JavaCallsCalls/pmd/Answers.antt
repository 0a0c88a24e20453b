use Rattle.std.proofs.Common.{ap, length, refl, subst, sym, ◌∙◌}
use Rattle.pj_tree.specs.Tree.{Tree}
use Rattle.pj_names.specs.Expand.{expand}
use Rattle.pj_file_oracle.specs.FileAnswer.{file_answer}
use Rattle.pj_file_oracle.specs.Held.{FileOwn}
use Rattle.pj_exprtypes.specs.Table.{KeepsOver}
use Rattle.pj_javafuncs.specs.Facts.{Facts, facts}
use Rattle.pj_javafuncs.specs.Replies.{reply}
use Rattle.pj_javafuncs.proofs.Beneath.{asks-calls}
use Rattle.pj_javafuncs.proofs.calls.JavaCallsCalls.pmd.Goals as goal

pub returns-clause-same_nodes : goal.returns-clause-same_nodes
returns-clause-same_nodes g c = ap (λ k. length k.own.tree.nodes) c.reply.ensures.asks.same_kept

pub returns-clause-same_reply : goal.returns-clause-same_reply
returns-clause-same_reply g c =
    let known : Facts = facts (g.A.Attributes.attribute_of c.args.self.now.facts.now) (g.A.Attributes.names_of c.args.self.now.facts.now) (g.A.Attributes.modifiers_of c.args.self.now.facts.now) (g.A.Attributes.place_of c.args.self.now.facts.now) c.args.self.now.path.now in
    ap (λ k. (λ function at arguments. expand (file_answer k.own.tree) (reply known k.own.tree function at arguments))) c.reply.ensures.asks.same_kept

pub returns-clause-asks : goal.returns-clause-asks
returns-clause-asks g c =
    let own : FileOwn = record { tree = c.args.self.now.oracle.file.now; held = c.args.self.now.oracle.held.ghost_name } in
    asks-calls _ _ own _ c.args.self.now.types.ghost_name _ _ refl c.reply.ensures.asks

pub returns-clause-kind : goal.returns-clause-kind
returns-clause-kind g c = c.reply.ensures.kind

pub invariant_of-self : goal.invariant_of-self
invariant_of-self g c =
    let file = ap (λ k. k.own.tree) c.reply.ensures.asks.same_kept in
    record {
      keeps = subst (λ (t : Tree). KeepsOver t (g.O.Oracle.tells c.reply.new.oracle.inner.now) c.reply.new.types.entries) (sym file) c.reply.ensures.keeps;
      of_tree = c.args.self.now.of_tree ∙ ap (λ (t : Tree). length t.nodes) (sym file);
      text = c.args.self.now.text ∙ ap (λ (t : Tree). length t.text) (sym file);
    }

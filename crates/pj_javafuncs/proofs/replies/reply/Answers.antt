use Rattle.std.proofs.Common.{◌≡◌, ◌∙◌, List, length, map, ap, subst, sym}
use Rattle.pj_type_names.proofs.Turns.{asks-as}
use Rattle.pj_xvalue.specs.Items.{ItemValue, values_of}
use Rattle.pj_xvalue.specs.OfTree.{ArgumentsOfTree}
use Rattle.pj_xvalue.specs.declared.item.Item.{Item}
use Rattle.pj_javafuncs.specs.Facts.{Facts, facts}
use Rattle.pj_javafuncs.specs.Replies.{first_of, reply_to}
use Rattle.pj_javafuncs.proofs.First.{first-is, first-of-tree}
use Rattle.pj_javafuncs.proofs.replies.reply.Goals as goal

pub reply_to-requires-in-len1-up-clause-argument : goal.reply_to-requires-in-len1-up-clause-argument
reply_to-requires-in-len1-up-clause-argument g c =
    let n = length c.args.oracle.now.file.now.nodes in
    first-of-tree n c.as_slice.result.now c.first-item.result c.in-len1-up.len_at_least c.first-item.is
    (subst (λ (l : List (List Item)). ArgumentsOfTree n (map values_of l)) (sym c.as_slice.ensures) c.requires.arguments)

pub returns-in-len1-up-clause-asks : goal.returns-in-len1-up-clause-asks
returns-in-len1-up-clause-asks g c =
    let file = c.args.oracle.now.file.now in
    let known : Facts = facts (g.A.Attributes.attribute_of c.args.setting.now.facts.now) (g.A.Attributes.names_of c.args.setting.now.facts.now) (g.A.Attributes.modifiers_of c.args.setting.now.facts.now) (g.A.Attributes.place_of c.args.setting.now.facts.now) c.args.setting.now.path.now in
    let first : first_of (map values_of c.args.arguments.now) ≡ values_of c.first-item.result =
    ap (λ (l : List (List Item)). first_of (map values_of l)) (sym c.as_slice.ensures) ∙ first-is c.as_slice.result.now c.first-item.result c.in-len1-up.len_at_least c.first-item.is in
    asks-as (ap (λ (argument : List ItemValue). reply_to known file c.args.function c.args.at argument) first) c.reply_to-in-len1-up.ensures.asks

pub returns-in-len1-up-clause-kind : goal.returns-in-len1-up-clause-kind
returns-in-len1-up-clause-kind g c =
    c.reply_to-in-len1-up.ensures.kind (map values_of c.args.arguments.now)
    (ap (λ (l : List (List Item)). first_of (map values_of l)) (sym c.as_slice.ensures) ∙ first-is c.as_slice.result.now c.first-item.result c.in-len1-up.len_at_least c.first-item.is)

use Rattle.std.proofs.Common.{◌≡◌, ◌<◌, length, ap, ◌∙◌, rules, arith, subst}
use Rattle.std.specs.List.{All}
use Rattle.pj_tree.specs.Tree.{Tree}
use Rattle.pj_tree.specs.declared.node.Node.{Node}
use Rattle.pj_calls.specs.Nodes.{arguments_of}
use Rattle.pj_calls.specs.Seen.{candidates_view}
use Rattle.pj_names.specs.Noting.{tells_noting}
use Rattle.pj_exprtypes.specs.declared.found.Found.{Found}
use Rattle.pj_exprtypes.specs.Seen.{seen_typing}
use Rattle.pj_exprtypes.specs.TypeOf.{earlier}
use Rattle.pj_exprtypes.proofs.Due.{adds-arguments-at, adds-nothing, told-asked-at, told-refused-at}
use Rattle.pj_exprtypes.proofs.Parts.{part-begin, part-late}
use Rattle.pj_exprtypes.proofs.order.pass.Goals as goal

pub returns-then-left-eq0-clause-asks : goal.returns-then-left-eq0-clause-asks
returns-then-left-eq0-clause-asks g c = part-begin

pub returns-in_err-found-clause-asks : goal.returns-in_err-found-clause-asks
returns-in_err-found-clause-asks g c =
    let t = c.args.file.now in
    told-refused-at t (earlier t c.args.before) c.args.left c.args.n (omega arith) c.in_err-found.ensures.asks (search rules)

pub returns-in_err-nodes-in-Call-clause-asks : goal.returns-in_err-nodes-in-Call-clause-asks
returns-in_err-nodes-in-Call-clause-asks g c =
    let t = c.args.file.now in
    part-late (told-asked-at t (earlier t c.args.before) c.args.left c.args.n (tt {0}) (omega arith) c.in_ok-found.ensures.asks) (search rules)

pub returns-in_err-put_visits-in-Call-clause-asks : goal.returns-in_err-put_visits-in-Call-clause-asks
returns-in_err-put_visits-in-Call-clause-asks g c =
    let t = c.args.file.now in
    part-late (told-asked-at t (earlier t c.args.before) c.args.left c.args.n (tt {0}) (omega arith) c.in_ok-found.ensures.asks) (search rules)

pub returns-in-Call-clause-due : goal.returns-in-Call-clause-due
returns-in-Call-clause-due g c =
    let t = c.args.file.now in
    let old = tells_noting c.args.oracle.now.inner.ghost_name c.args.oracle.now.noted.ghost_name c.args.oracle.now.noted.now (g.O.Oracle.tells c.args.oracle.now.inner.now) in
    let nodes = c.in_ok-nodes-in-Call.nodes in
    let same : nodes ≡ arguments_of t c.args.n = c.in_ok-nodes-in-Call.ensures.value ∙ ap (λ (t : Tree). arguments_of t c.args.n) c.tree.ensures in
    let inside = subst (λ (t : Tree). All (λ (m : Node). m.0 < length t.nodes) nodes) c.tree.ensures c.in_ok-nodes-in-Call.ensures.inside in
    adds-arguments-at t old.is_told old.world c.args.before c.args.left c.args.n (candidates_view c.in-Call.field-0) (seen_typing c.in_ok-found.found) nodes c.args.all.now c.put_visits.new.all (omega arith)
    (ap (λ (found : Found). seen_typing found) c.in-Call.is) (λ told d far. c.in_ok-found.ensures.asks.value_is told d far) same inside c.in_ok-put_visits-in-Call.ensures

pub returns-in-Call-clause-asks : goal.returns-in-Call-clause-asks
returns-in-Call-clause-asks g c =
    let t = c.args.file.now in
    told-asked-at t (earlier t c.args.before) c.args.left c.args.n _ (omega arith) c.in_ok-found.ensures.asks

pub returns : goal.returns
returns g c =
    let t = c.args.file.now in
    record {
      due = adds-nothing _ _ _ _ _;
      asks = told-asked-at t (earlier t c.args.before) c.args.left c.args.n _ (omega arith) c.in_ok-found.ensures.asks;
      keeps = c.in_ok-found.ensures.keeps;
    }

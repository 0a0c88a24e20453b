use Rattle.std.proofs.Common.{List, ap, subst, sym, ◌∙◌}
use Rattle.pj_names.specs.Asking.{each}
use Rattle.pj_names.specs.JavaType.{java_type, type_list}
use Rattle.pj_names.specs.declared.ty.Ty.{Ty}
use Rattle.pj_names.proofs.AskingLaws.{ComesTo, comes-begin}
use Rattle.pj_names.proofs.MeaningLaws.{each-gather, gather}
use Rattle.pj_file_oracle.proofs.Lists.{gather-turn}
use Rattle.pj_exprtypes.specs.TypeOf.{type_of}
use Rattle.pj_exprtypes.proofs.of_calls.node_types.Goals as goal

pub loop-n-init : goal.loop-n-init
loop-n-init g c =
    let f = type_of c.args.file.now in
    let nodes = c.args.nodes.now in
    let told = g.O.Oracle.tells c.args.oracle.now in
    record {
      comes = subst (λ m. ComesTo (each f nodes) told m told) (each-gather f nodes ∙ ap (λ (types : List Ty). gather f (type_list types) nodes) (sym c.new-found.ensures)) comes-begin;
      keeps = c.requires.keeps;
    }

pub loop-n-preserved : goal.loop-n-preserved
loop-n-preserved g c =
    let f = type_of c.args.file.now in
    record {
      comes = gather-turn f java_type c.loop-n.found c.push.new.self c.args.nodes.now c.loop-n.n-index _ c.in_ok-ty.ty c.loop-n-test.true c.in_ok-push.ensures.ok c.loop-n.invariant.comes c.in_ok-ty.ensures.asks;
      keeps = c.in_ok-ty.ensures.keeps;
    }

use Rattle.std.proofs.Common.{◌∙◌, ◌-◌, ◌+◌, List, ℕ, Option, None, sym, ap}
use Rattle.std.specs.Option.{option_map}
use Rattle.std.proofs.lemmas.Result.{err_from_is_err_and}
use Rattle.pj_format.specs.Format.{first}
use Rattle.pj_classfile.specs.ClassFile.{views, signature_among}
use Rattle.pj_classfile.specs.Passed.{text_at}
use Rattle.pj_classfile.proofs.Among.{among_more, among_ends, among_done}
use Rattle.pj_classfile.proofs.attribute.signature_among_of.Goals as goal

pub returns-in_err-signature-clause-value : goal.returns-in_err-signature-clause-value
returns-in_err-signature-clause-value c =
    let p = err_from_is_err_and c.from_residual.result c.from_residual.ensures.1 in
    let pool = views c.args.pool.now in
    rw (p.1, p.2) (among_ends c.in_err-signature.field-0.0 c.args.holder pool c.args.bytes.now c.args.count c.loop.counter (option_map (text_at pool) c.loop.found) c.loop.place (first (signature_among c.args.holder pool c.args.count None) c.args.bytes.now c.args.at) c.loop-test.true c.in_err-signature.ensures.value c.loop.invariant.read)

pub loop-preserved : goal.loop-preserved
loop-preserved c =
    let pool = views c.args.pool.now in
    let found = option_map (text_at pool) c.loop.found in
    let one = option_map (text_at pool) c.in_ok-signature.signature in
    record {
      read = ap (λ (o : Option (List ℕ)). first (signature_among c.args.holder pool (c.args.count - (c.loop.counter + 1)) o) c.args.bytes.now c.in_ok-signature.behind) (c.earlier-found.ensures pool)
          ∙ sym (among_more c.args.holder pool c.args.bytes.now c.args.count c.loop.counter found one c.loop.place c.in_ok-signature.behind c.loop-test.true c.in_ok-signature.ensures.value) ∙ c.loop.invariant.read;
      passed = c.in_ok-signature.ensures.passed;
    }

pub returns-clause-value : goal.returns-clause-value
returns-clause-value c =
    let pool = views c.args.pool.now in
    sym c.loop.invariant.read ∙ among_done c.args.holder pool c.args.bytes.now c.args.count c.loop.counter (option_map (text_at pool) c.loop.found) c.loop.place c.loop-test.false

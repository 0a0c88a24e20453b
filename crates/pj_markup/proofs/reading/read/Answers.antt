use Rattle.std.proofs.Common.{rules}
use Rattle.std.proofs.lemmas.Result.{err_from_is_err_and}
use Rattle.pj_markup.proofs.Fronts.{nothing_read, offset_is, size_chars, read_more, fault_here, fault_at_end, ends_well}
use Rattle.pj_markup.proofs.reading.read.Goals as goal

pub loop-c-init : goal.loop-c-init
loop-c-init c = record { is_text = search rules; read = nothing_read _ _ c.new-reader.ensures }

pub overflow_sub-at : goal.overflow_sub-at
overflow_sub-at c = (offset_is _ _ _ c.utf8.text c.loop-c.invariant.is_text c.loop-c.invariant.read).0

pub returns-in_err-advance : goal.returns-in_err-advance
returns-in_err-advance c =
    let p = err_from_is_err_and c.from_residual.result c.from_residual.ensures.1 in
    let fault = fault_here _ _ _ _ _ _ _ c.loop-c.invariant.read c.in-Some.ensures.chars (offset_is _ _ _ c.utf8.text c.loop-c.invariant.is_text c.loop-c.invariant.read).1 c.in_err-advance.ensures in
    rw (p.1, p.2) fault

pub loop-c-preserved : goal.loop-c-preserved
loop-c-preserved c = record {
  is_text = search rules;
  read =
      read_more _ _ _ _ _ _ _ c.loop-c.invariant.read c.in-Some.ensures.chars c.in_ok-advance.ensures.0 (offset_is _ _ _ c.utf8.text c.loop-c.invariant.is_text c.loop-c.invariant.read).1
      c.in_ok-advance.ensures.1;
}

pub returns-in_err-markup : goal.returns-in_err-markup
returns-in_err-markup c =
    let p = err_from_is_err_and c.from_residual-in_err-markup.result c.from_residual-in_err-markup.ensures.1 in
    let fault = fault_at_end _ _ _ _ _ c.loop-c.invariant.read c.in_default.ensures.chars (size_chars _ c.utf8.text) c.in_err-markup.ensures in
    rw (p.1, p.2) fault

pub returns : goal.returns
returns c = ends_well _ _ _ _ c.loop-c.invariant.read c.in_default.ensures.chars (c.in_ok-markup.ensures _)

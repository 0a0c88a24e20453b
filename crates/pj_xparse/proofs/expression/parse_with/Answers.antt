use Rattle.std.proofs.Common.{◌≡◌, ◌≤◌, length, map, Option, Some, None, refl, sym, ap, ◌∙◌, arith}
use Rattle.std.specs.Option.{option_map}
use Rattle.std.proofs.lemmas.List.{length-map}
use Rattle.pj_xtokens.specs.Answer.{lexed_of}
use Rattle.pj_xreadings.specs.Seen.{seen_reading}
use Rattle.pj_xparse.specs.Seen.{fault_of}
use Rattle.pj_xparse.specs.NameFaults.{Fault, first_fault}
use Rattle.pj_xparse.specs.Faults.{named_first, syntax_fault}
use Rattle.pj_xparse.proofs.Parsed.{all_read, count_of_tokens, read_slice, say_so_far, spelled}
use Rattle.pj_xparse.proofs.expression.parse_with.Goals as goal

pub derivation-requires : goal.derivation-requires
derivation-requires c =
    let count : length (map lexed_of c.in_ok-found.found.list) ≤ length c.args.text.now = count_of_tokens c.gaps_stand_in_front.ensures c.tokens_are_not_empty.ensures _ _ _ c.utf8.text c.in_ok-found.ensures in
    let slice : length c.as_slice-tokens.result.now ≡ length c.in_ok-found.found.list = ap length c.as_slice-tokens.ensures in
    omega (arith, count, slice, length-map c.in_ok-found.found.list lexed_of)

pub returns-in-Some-clause-fault : goal.returns-in-Some-clause-fault
returns-in-Some-clause-fault c = λ _.
    let later = syntax_fault (map lexed_of c.as_slice-tokens.result.now) c.in_ok-found.found.end c.in_ok-run.run'.end in
    let first : first_fault c.args.variables.now (seen_reading c.in_ok-read.read).names ≡ Some (fault_of c.in-Some.fault) = sym c.in_ok-fault.ensures ∙ ap (option_map fault_of) c.in-Some.is in
    record {
      tokens = map lexed_of c.as_slice-tokens.result.now;
      end = c.in_ok-found.found.end;
      outcome = c.in_ok-run.run'.end;
      said = seen_reading c.in_ok-read.read;
      read = read_slice _ _ _ _ c.as_slice-tokens.ensures c.in_ok-found.ensures;
      is_outcome = c.outcomes_are_read.ensures.read (map lexed_of c.as_slice-tokens.result.now) c.in_ok-run.run'.end c.in_ok-run.ensures.outcome;
      say = say_so_far c.as_slice.ensures.value c.in_ok-run.ensures.places c.in_ok-read.ensures c.sayings_end_with_runs.ensures.say c.in_ok-run.ensures.run;
      is = ap Some c.in_ok-named_fault.ensures ∙ ap (λ (f : Option Fault). named_first f later) (sym first);
    }

pub returns-in-Some-syntax_fault-clause-fault : goal.returns-in-Some-syntax_fault-clause-fault
returns-in-Some-syntax_fault-clause-fault c = λ _.
    let later = syntax_fault (map lexed_of c.as_slice-tokens.result.now) c.in_ok-found.found.end c.in_ok-run.run'.end in
    let none : first_fault c.args.variables.now (seen_reading c.in_ok-read.read).names ≡ None = sym c.in_ok-fault.ensures ∙ ap (option_map fault_of) c.in_default.is in
    record {
      tokens = map lexed_of c.as_slice-tokens.result.now;
      end = c.in_ok-found.found.end;
      outcome = c.in_ok-run.run'.end;
      said = seen_reading c.in_ok-read.read;
      read = read_slice _ _ _ _ c.as_slice-tokens.ensures c.in_ok-found.ensures;
      is_outcome = c.outcomes_are_read.ensures.read (map lexed_of c.as_slice-tokens.result.now) c.in_ok-run.run'.end c.in_ok-run.ensures.outcome;
      say = say_so_far c.as_slice.ensures.value c.in_ok-run.ensures.places c.in_ok-read.ensures c.sayings_end_with_runs.ensures.say c.in_ok-run.ensures.run;
      is = c.in-Some-syntax_fault.ensures ∙ ap (λ (f : Option Fault). named_first f later) (sym none);
    }

pub returns-clause-spells : goal.returns-clause-spells
returns-clause-spells c =
    let none : first_fault c.args.variables.now (seen_reading c.in_ok-read.read).names ≡ None = sym c.in_ok-fault.ensures ∙ ap (option_map fault_of) c.in_default.is in
    let faultless = sym c.in_default-syntax_fault.ensures in
    let says = all_read c.as_slice.ensures.value c.in_ok-run.ensures.places c.in_ok-read.ensures c.in_ok-found.found.end c.in_ok-run.run'.end c.in_ok-run.ensures.outcome c.in_ok-run.ensures.leads faultless in
    spelled _ _ _ (seen_reading c.in_ok-read.read) c.in_ok-found.found.end c.in_ok-run.run'.end
    (read_slice _ _ _ _ c.as_slice-tokens.ensures c.in_ok-found.ensures) faultless says none

pub returns-clause-expression : goal.returns-clause-expression
returns-clause-expression c =
    let none : first_fault c.args.variables.now (seen_reading c.in_ok-read.read).names ≡ None = sym c.in_ok-fault.ensures ∙ ap (option_map fault_of) c.in_default.is in
    let says = all_read c.as_slice.ensures.value c.in_ok-run.ensures.places c.in_ok-read.ensures c.in_ok-found.found.end c.in_ok-run.run'.end c.in_ok-run.ensures.outcome c.in_ok-run.ensures.leads (sym c.in_default-syntax_fault.ensures) in
    c.readings_are_expressions.ensures _ _ (seen_reading c.in_ok-read.read) c.in_ok-read.read.expr says none refl

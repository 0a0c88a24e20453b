use Rattle.std.proofs.Common.{rules, ap, ◌∙◌}
use Rattle.std.specs.Prelude.{Ok}
use Rattle.pj_names.proofs.AskingLaws.{asks-refused, asks-return, asks-stop, asks-then}
use Rattle.pj_names.specs.JavaType.{java_type, type_list}
use Rattle.pj_tree.specs.Tree.{Tree}
use Rattle.pj_written.specs.Seen.{all_parameters}
use Rattle.pj_file_oracle.specs.Members.{method_with}
use Rattle.pj_file_oracle.proofs.methods.method_of.Goals as goal

pub returns-in_err-parameters : goal.returns-in_err-parameters
returns-in_err-parameters g c =
    let parameters = rw c.new-none.ensures at c.in_err-parameters.ensures in
    asks-refused _ parameters (search rules)

pub returns-in_err-arguments : goal.returns-in_err-arguments
returns-in_err-arguments g c =
    let parameters = rw c.new-none.ensures at c.in_ok-parameters.ensures in
    asks-then _ parameters (asks-refused _ c.in_err-arguments.ensures (search rules))

pub returns-in_err-returned : goal.returns-in_err-returned
returns-in_err-returned g c =
    let parameters = rw c.new-none.ensures at c.in_ok-parameters.ensures in
    asks-then _ parameters (asks-then _ c.in_ok-arguments.ensures (asks-refused _ c.in_err-returned.ensures (search rules)))

pub returns-in_err-method : goal.returns-in_err-method
returns-in_err-method g c =
    let parameters = rw c.new-none.ensures at c.in_ok-parameters.ensures in
    asks-then _ parameters (asks-then _ c.in_ok-arguments.ensures (asks-then _ c.in_ok-returned.ensures (asks-stop (search rules))))

pub returns : goal.returns
returns g c =
    let parameters = rw c.new-none.ensures at c.in_ok-parameters.ensures in
    let made = c.in_ok-method.ensures
    ∙ ap (λ (t : Tree). method_with t c.args.n (all_parameters c.in_ok-parameters.parameters) (type_list c.in_ok-arguments.arguments) (java_type c.in_ok-returned.returned)) c.tree.ensures in
    asks-then _ parameters (asks-then _ c.in_ok-arguments.ensures (asks-then _ c.in_ok-returned.ensures (asks-return (ap (λ method. Ok method) made))))

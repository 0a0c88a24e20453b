use Rattle.std.proofs.Common.{◌≡◌, ℕ, ◌/◌, ◌^◌, ◌∙◌, sym, true, arith, get_or}
use Rattle.std.specs.Prelude.{nat_eq, bit_and}
use Rattle.std.proofs.lemmas.Nat.Bits.{shr_and_one}
use Rattle.std.proofs.lemmas.Option.{slice_get-get_or}
use Rattle.pj_peg_grammar.specs.Program.{form_at, forms_in, rules_of}
use Rattle.pj_peg_grammar.specs.Firsts.{IsAlwaysRuledOut}
use Rattle.pj_peg.proofs.Bools.{on_true}
use Rattle.pj_peg.proofs.slots.rules_out.Goals as goal

zero_is : (n : ℕ) → nat_eq n 0 ≡ true → n ≡ 0
zero_is n e = grind arith

pub returns : goal.returns
returns c =
    let set = slice_get-get_or c.args.goings.now c.args.node 0 (omega (arith, c.requires.node, c.requires.goings.count)) in
    let out : nat_eq (bit_and (get_or c.args.goings.now c.args.node 0 / 2 ^ c.args.kind) 1) 0 ≡ true → IsAlwaysRuledOut (rules_of c.args.program.now) c.args.kind (form_at (forms_in c.args.program.now.nodes.items) c.args.node) =
    λ e. c.requires.goings.fails c.args.node (get_or c.args.goings.now c.args.node 0) c.args.kind set c.requires.kind
    (sym (shr_and_one (get_or c.args.goings.now c.args.node 0) c.args.kind) ∙ zero_is _ e) in
    on_true _ _ out

use Rattle.std.proofs.Common.{◌≡◌, ◌∙◌, ℕ, List, [], Option, Some, ap, subst}
use Rattle.pj_names.specs.Asking.{Asking}
use Rattle.pj_names.specs.JavaType.{JavaType, java_type}
use Rattle.pj_names.specs.Told.{Asks, seen}
use Rattle.pj_tree.specs.Tree.{Tree}
use Rattle.pj_tree.specs.declared.node.Node.{Node}
use Rattle.pj_type_names.specs.TypeName.{written_type}
use Rattle.pj_written.specs.Words.{type_child}
use Rattle.pj_file_oracle.specs.Types.{declared_type, type_or_unknown}
use Rattle.pj_file_oracle.proofs.types.declared_type.Goals as goal

written : (t : Tree) (behind : ℕ) (n ty : Node) → Some ty ≡ type_child t n → written_type t [] behind ty ≡ declared_type t behind n
unfolding declared_type
written t behind n ty is = ap (λ (found : Option Node). type_or_unknown t behind found) is

pub returns-in-Some : goal.returns-in-Some
returns-in-Some g c =
    let told = g.O.Oracle.tells c.args.oracle.now in
    let told_then = g.O.Oracle.tells c.written_type.new.oracle in
    let outcome = seen java_type c.written_type.result in
    let here = subst (λ (busy : List ℕ). Asks (written_type c.args.file.now busy c.args.behind c.in-Some.ty) told told_then outcome) c.new-none.ensures c.written_type.ensures in
    let found = c.in-Some.ensures.value ∙ ap (λ (t : Tree). type_child t c.args.n) c.tree.ensures in
    subst (λ (m : Asking JavaType). Asks m told told_then outcome) (written c.args.file.now c.args.behind c.args.n c.in-Some.ty found) here

-- What a level of each recursion that counts its depth comes to.
use Rattle.std.proofs.Common.{ℕ, suc, ◌+◌, ◌-◌, ◌<◌, ◌≤◌, ◌≡◌, ◌&&◌, Bool, true, nat_le, List, [], Option, None, Some, sym, ap, ◌∙◌, arith}
use Rattle.std.proofs.lemmas.Bool.{le-leb}
use Rattle.pj_tree.specs.Tree.{Tree, children_of}
use Rattle.pj_tree.specs.declared.kind.Kind.TheVariants as k
use Rattle.pj_tree.specs.declared.node.Node.{Node}
use Rattle.pj_tree.specs.Children.{child_of}
use Rattle.pj_written.specs.Words.{children_or}
use Rattle.pj_written.specs.Fits.{argument_by, bare, brackets, fits_within, listed_fit, most_signs, most_signs_is}
use Rattle.pj_written.specs.Written.{extended, innermost, name_within, with_outer}

-- ---- names of class types

name_deeper : (t : Tree) (deep : ℕ) (n : Node) → 0 < deep → name_within t deep n ≡ with_outer t (name_within t (deep - 1)) n (child_of t n k.ClassType)
name_deeper t deep n some = let more : deep ≡ suc (deep - 1) = omega (arith, some) in ap (λ d. name_within t d n) more

pub name-some : (t : Tree) (deep : ℕ) (n outer : Node) → 0 < deep → child_of t n k.ClassType ≡ Some outer → name_within t deep n ≡ extended t (name_within t (deep - 1) outer) n
name-some t deep n outer some is = name_deeper t deep n some ∙ ap (λ (o : Option Node). with_outer t (name_within t (deep - 1)) n o) is

pub name-none : (t : Tree) (deep : ℕ) (n : Node) → 0 < deep → child_of t n k.ClassType ≡ None → name_within t deep n ≡ innermost t n
name-none t deep n some is = name_deeper t deep n some ∙ ap (λ (o : Option Node). with_outer t (name_within t (deep - 1)) n o) is

-- ---- types within bounds

-- whether a type with so many brackets and these arguments fits
abbrev fits_by : Tree → ℕ → ℕ → ℕ → List Node → Bool
fits_by t deep around dimensions arguments =
    nat_le (around + dimensions) most_signs && listed_fit t (around + dimensions + 1) (argument_by t (fits_within t deep (around + dimensions + 1))) arguments

fits_deeper : (t : Tree) (deep around : ℕ) (n : Node) → 0 < deep →
    fits_within t deep around n ≡ fits_by t (deep - 1) around (brackets t n) (children_or t (child_of t (bare t n) k.TypeArguments))
fits_deeper t deep around n some = let more : deep ≡ suc (deep - 1) = omega (arith, some) in ap (λ d. fits_within t d around n) more

few_signs : (signs : ℕ) → signs ≤ 255 → nat_le signs most_signs ≡ true
few_signs signs few = ap (λ (most : ℕ). nat_le signs most) most_signs_is ∙ le-leb signs 255 few

none_fits : (t : Tree) (signs : ℕ) (argument_fits : Node → Bool) → true ≡ listed_fit t signs argument_fits []
none_fits t signs argument_fits = sym (ap (λ (b : Bool). b && true) (few_signs 0 (omega arith)))

pub fits-some : (t : Tree) (deep around dimensions : ℕ) (n member list : Node) → 0 < deep → dimensions ≡ brackets t n → member ≡ bare t n →
    child_of t member k.TypeArguments ≡ Some list → around + dimensions ≤ 255 →
    listed_fit t (around + dimensions + 1) (argument_by t (fits_within t (deep - 1) (around + dimensions + 1))) (children_of t list) ≡ fits_within t deep around n
fits-some t deep around dimensions n member list some same_brackets same_member is few =
    let arguments = listed_fit t (around + dimensions + 1) (argument_by t (fits_within t (deep - 1) (around + dimensions + 1))) (children_of t list) in
    let found : child_of t (bare t n) k.TypeArguments ≡ Some list = ap (λ (m : Node). child_of t m k.TypeArguments) (sym same_member) ∙ is in
    sym (ap (λ (b : Bool). b && arguments) (few_signs (around + dimensions) few))
    ∙ ap (λ (b : ℕ). fits_by t (deep - 1) around b (children_of t list)) same_brackets
    ∙ ap (λ (o : Option Node). fits_by t (deep - 1) around (brackets t n) (children_or t o)) (sym found)
    ∙ sym (fits_deeper t deep around n some)

pub fits-none : (t : Tree) (deep around dimensions : ℕ) (n member : Node) → 0 < deep → dimensions ≡ brackets t n → member ≡ bare t n →
    child_of t member k.TypeArguments ≡ None → around + dimensions ≤ 255 → true ≡ fits_within t deep around n
fits-none t deep around dimensions n member some same_brackets same_member is few =
    let argument_fits = argument_by t (fits_within t (deep - 1) (around + dimensions + 1)) in
    let found : child_of t (bare t n) k.TypeArguments ≡ None = ap (λ (m : Node). child_of t m k.TypeArguments) (sym same_member) ∙ is in
    none_fits t (around + dimensions + 1) argument_fits
    ∙ sym (ap (λ (b : Bool). b && listed_fit t (around + dimensions + 1) argument_fits []) (few_signs (around + dimensions) few))
    ∙ ap (λ (b : ℕ). fits_by t (deep - 1) around b []) same_brackets
    ∙ ap (λ (o : Option Node). fits_by t (deep - 1) around (brackets t n) (children_or t o)) (sym found)
    ∙ sym (fits_deeper t deep around n some)

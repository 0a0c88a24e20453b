-- The type of a node is made of the whole types of the nodes below it: a node below another one has a greater number, so the definition counts far enough.
use Rattle.std.proofs.Common.{◌≡◌, ◌<◌, ◌≤◌, ◌+◌, ◌-◌, ℕ, zero, suc, Bool, true, false, cond, List, [], ◌∷◌, Option, None, Some, IsTrue, length, map, filter, refl, sym, ap, subst, ◌∙◌, arith}
use Rattle.std.proofs.lemmas.Bool.{eqb-true}
use Rattle.std.proofs.lemmas.List.{length-map}
use Rattle.std.proofs.lemmas.Option.{slice_get_past}
use Rattle.std.specs.Prelude.{find, slice_index_or, if◌then◌else◌}
use Rattle.std.specs.List.{enumerate_from}
use Rattle.std.specs.Option.{IsSomeAnd, option_and_then, option_map}
use Rattle.pj_tree.specs.Tree.{IsSyntaxTree, Tree, children_of, is_parent, kind_of, node_numbered, parent_of, parents}
use Rattle.pj_tree.specs.Children.{child_of, first_in}
use Rattle.pj_tree.specs.Kinds.{is_kind}
use Rattle.pj_written.specs.Words.{children_or}
use Rattle.pj_tree.specs.declared.kind.Kind.{Kind}
use Rattle.pj_tree.specs.declared.kind.Kind.TheVariants as k
use Rattle.pj_tree.specs.declared.node.Node.{Node}
use Rattle.pj_names.specs.JavaType.{JavaType, Unknown}
use Rattle.pj_names.specs.Asking.{Asking, Return, bind, each}
use Rattle.pj_operators.specs.declared.operators.Infix.{Infix}
use Rattle.pj_operators.specs.declared.operators.Infix.TheVariants as i
use Rattle.pj_operators.specs.declared.operators.Unary.{Unary}
use Rattle.pj_operators.specs.declared.operators.Unary.TheVariants as u
use Rattle.pj_operators.specs.Operators.{infix_of, unary_of}
use Rattle.pj_exprtypes.specs.Operands.{but_first, first_only, if_some, infix_operands, operands, operands_by, unary_operands}
use Rattle.pj_calls.specs.Nodes.{arguments_of, functions_of, unless_arguments}
use Rattle.pj_calls.specs.Results.{chosen_result}
use Rattle.pj_exprtypes.specs.Typing.{Typing, Known, OfVar, OfWritten, OfCall}
use Rattle.pj_exprtypes.specs.TypeOf.{deep, earlier, final_type, made_type, type_of, type_with, typed, whole_type}
use Rattle.pj_exprtypes.proofs.Steps.{typed-some}

-- ---- children

abbrev AreAfter : ℕ → List Node → Type 0
AreAfter n [] = Unit {0}
AreAfter n (m ∷ ms) = (n < m.0) × AreAfter n ms

numbered : (n : ℕ) (b : Bool) (p : ℕ × Option Node) (ps : List (ℕ × Option Node)) → (IsTrue b → n < p.0) → AreAfter n (map node_numbered ps) → AreAfter n (map node_numbered (cond b (p ∷ ps) ps))
numbered n true p ps first rest = (first refl, rest)
numbered n false p ps first rest = rest

enumerated : (n : Node) (from : ℕ) (ps : List (Option Node)) → ((j : ℕ) → j < length ps → IsTrue (is_parent n (slice_index_or ps j None)) → n.0 < from + j)
    → AreAfter n.0 (map node_numbered (filter (λ p. is_parent n p.1) (enumerate_from from ps)))
enumerated n from [] after = tt
enumerated n from (p ∷ ps) after =
    numbered n.0 (is_parent n p) (from, p) (filter (λ p. is_parent n p.1) (enumerate_from (from + 1) ps)) (λ is. omega (arith, after 0 (omega arith) is))
    (enumerated n (from + 1) ps (λ j inside is. omega (arith, after (suc j) (omega (arith, inside)) is)))

parent-before : (n : Node) (parent : Option Node) (j : ℕ) → IsSomeAnd parent (λ p. p.0 < j) → IsTrue (is_parent n parent) → n.0 < j
parent-before n None j before is = absurd (cc)
parent-before n (Some p) j before is = omega (arith, before, eqb-true p.0 n.0 is)

no-parent : (n : Node) (parent : Option Node) → parent ≡ None → IsTrue (is_parent n parent) → ⊥
no-parent n parent none is = let missed : is_parent n parent ≡ false = ap (is_parent n) none in cc

after-parent : (t : Tree) → IsSyntaxTree t → (n : Node) (j : ℕ) → j < length t.nodes → IsTrue (is_parent n (parent_of t (record { 0 = j }))) → n.0 < j
after-parent t tree n zero inside is = absurd (no-parent n (parent_of t (record { 0 = 0 })) tree.root is)
after-parent t tree n (suc j) inside is = parent-before n (parent_of t (record { 0 = suc j })) (suc j) (tree.below (record { 0 = suc j }) (omega arith) inside) is

children-after : (t : Tree) → IsSyntaxTree t → (n : Node) → AreAfter n.0 (children_of t n)
children-after t tree n =
    enumerated n 0 (parents t.nodes) (λ j inside is. omega (arith, after-parent t tree n j (omega (arith, inside, length-map t.nodes (λ x. x.parent))) is))

-- ---- the operands are among them

first-only-after : (n : ℕ) (ms : List Node) → AreAfter n ms → AreAfter n (first_only ms)
first-only-after n [] after = tt
first-only-after n (m ∷ ms) after = (after.0, tt)

but-first-after : (n : ℕ) (ms : List Node) → AreAfter n ms → AreAfter n (but_first ms)
but-first-after n [] after = tt
but-first-after n (m ∷ ms) after = after.1

infix-after : (n : ℕ) (o : Option Infix) (ms : List Node) → AreAfter n ms → AreAfter n (infix_operands o ms)
infix-after n None ms after = tt
infix-after n (Some i.Test) ms after = tt
infix-after n (Some i.Shift) ms after = first-only-after n ms after
infix-after n (Some i.Sum) ms after = after
infix-after n (Some i.Bitwise) ms after = after
infix-after n (Some i.Arithmetic) ms after = after

unary-after : (n : ℕ) (o : Option Unary) (ms : List Node) → AreAfter n ms → AreAfter n (unary_operands o ms)
unary-after n None ms after = tt
unary-after n (Some u.Not) ms after = tt
unary-after n (Some u.Step) ms after = first-only-after n ms after
unary-after n (Some u.Sign) ms after = first-only-after n ms after

unless-after : (n : ℕ) (b : Bool) (m : Node) → n < m.0 → AreAfter n (if_some (if b then None else Some m))
unless-after n true m after = tt
unless-after n false m after = (after, tt)

dot-after : (t : Tree) (n : ℕ) (ms : List Node) → AreAfter n ms → AreAfter n (if_some (option_and_then (unless_arguments t) (first_in ms)))
dot-after t n [] after = tt
dot-after t n (m ∷ ms) after = unless-after n (is_kind t k.ArgumentList m) m after.0

operands-after : (t : Tree) → IsSyntaxTree t → (n : Node) (kind : Option Kind) → AreAfter n.0 (operands_by t n kind)
operands-after t tree n (Some k.InfixExpression) = infix-after n.0 (infix_of t n) (children_of t n) (children-after t tree n)
operands-after t tree n (Some k.UnaryExpression) = unary-after n.0 (unary_of t n) (children_of t n) (children-after t tree n)
operands-after t tree n (Some k.ConditionalExpression) = but-first-after n.0 (children_of t n) (children-after t tree n)
operands-after t tree n (Some k.FieldAccess) = first-only-after n.0 (children_of t n) (children-after t tree n)
operands-after t tree n (Some k.AssignmentExpression) = first-only-after n.0 (children_of t n) (children-after t tree n)
operands-after t tree n (Some k.ArrayAccess) = first-only-after n.0 (children_of t n) (children-after t tree n)
operands-after t tree n (Some k.MethodCall) = dot-after t n.0 (children_of t n) (children-after t tree n)
operands-after t tree n other = tt

-- ---- and so are the arguments of a call

later : (n m : ℕ) (ms : List Node) → n < m → AreAfter m ms → AreAfter n ms
later n m [] less after = tt
later n m (x ∷ xs) less after = (omega (arith, less, after.0), later n m xs less after.1)

abbrev IsAfter : ℕ → Option Node → Type 0
IsAfter n None = Unit {0}
IsAfter n (Some m) = n < m.0

picked-after : (n : ℕ) (b : Bool) (m : Node) (o : Option Node) → n < m.0 → IsAfter n o → IsAfter n (cond b (Some m) o)
picked-after n true m o first rest = first
picked-after n false m o first rest = rest

found-after : (n : ℕ) (p : Node → Bool) (ms : List Node) → AreAfter n ms → IsAfter n (find p ms)
found-after n p [] after = tt
found-after n p (m ∷ ms) after = picked-after n (p m) m (find p ms) after.0 (found-after n p ms after.1)

below-after : (t : Tree) → IsSyntaxTree t → (n : ℕ) (o : Option Node) → IsAfter n o → AreAfter n (children_or t o)
below-after t tree n None after = tt
below-after t tree n (Some m) after = later n m.0 (children_of t m) after (children-after t tree m)

arguments-after : (t : Tree) → IsSyntaxTree t → (n : Node) → AreAfter n.0 (arguments_of t n)
arguments-after t tree n = below-after t tree n.0 (child_of t n k.ArgumentList) (found-after n.0 (is_kind t k.ArgumentList) (children_of t n) (children-after t tree n))

-- ---- types by those of the nodes below

module _ (t : Tree) (tree : IsSyntaxTree t) (var f g : Node → Asking JavaType) (n : Node) (alike : (m : Node) → n.0 < m.0 → f m ≡ g m) where
  each-alike : (ms : List Node) → AreAfter n.0 ms → each f ms ≡ each g ms
  each-alike [] after = refl
  each-alike (m ∷ ms) after = λ j. bind (alike m after.0 j) (λ value. bind (each-alike ms after.1 j) (λ values. Return (value ∷ values)))

  final-alike : (found : Typing) → final_type t var f n found ≡ final_type t var g n found
  final-alike (Known ty) = refl
  final-alike (OfVar id) = refl
  final-alike (OfWritten id declaration) = refl
  final-alike (OfCall candidates) =
      ap (λ (m : Asking (List JavaType)). bind m (λ types. chosen_result candidates types (functions_of t n))) (each-alike (arguments_of t n) (arguments-after t tree n))

  whole-alike : whole_type t var f n ≡ whole_type t var g n
  whole-alike =
      ap (λ (m : Asking (List JavaType)). bind m (λ types. made_type t var f n types)) (each-alike (operands t n) (operands-after t tree n (kind_of t n)))
      ∙ (λ j. bind (each g (operands t n)) (λ types. bind (type_with t n (kind_of t n) types) (λ found. final-alike found j)))

-- ---- counting further changes nothing

no-kind : (t : Tree) (n : Node) → length t.nodes ≤ n.0 → kind_of t n ≡ None
no-kind t n past = ap (option_map (λ x. x.kind)) (slice_get_past t.nodes n.0 past)

-- past the last node there is no type
abbrev pub whole-by : Tree → (Node → Asking JavaType) → (Node → Asking JavaType) → Node → Option Kind → Asking JavaType
whole-by t var f n kind = bind (each f (operands_by t n kind)) (λ types. bind (type_with t n kind types) (λ found. final_type t var f n found))

whole-none : (t : Tree) (var f : Node → Asking JavaType) (n : Node) → length t.nodes ≤ n.0 → whole_type t var f n ≡ Return Unknown
whole-none t var f n past = ap (whole-by t var f n) (no-kind t n past)

typed-more : (t : Tree) → IsSyntaxTree t → (var : Node → Asking JavaType) (left : ℕ) (n : Node) → length t.nodes ≤ n.0 + left → typed t var left n ≡ typed t var (suc left) n
unfolding typed
typed-more t tree var zero n past = sym (whole-none t var (typed t var zero) n (omega (arith, past)))
typed-more t tree var (suc left) n past =
    whole-alike t tree var (typed t var left) (typed t var (suc left)) n (λ m after. typed-more t tree var left m (omega (arith, past, after)))

pub type-goes-on : (t : Tree) → IsSyntaxTree t → (n : Node) → type_of t n ≡ whole_type t (earlier t (length t.nodes)) (type_of t) n
type-goes-on t tree n =
    let var = earlier t (length t.nodes) in
    let less : deep t - 1 ≡ length t.nodes = omega arith in
    let more : suc (length t.nodes) ≡ deep t = omega arith in
    typed-some t var (deep t) n (omega arith)
    ∙ whole-alike t tree var (typed t var (deep t - 1)) (typed t var (deep t)) n
    (λ m after. ap (λ left. typed t var left m) less ∙ typed-more t tree var (length t.nodes) m (omega arith) ∙ ap (λ left. typed t var left m) more)

pub types-go-deeper : (t : Tree) → IsSyntaxTree t → (var : Node → Asking JavaType) (more : ℕ) (n : Node) → typed t var (deep t + more) n ≡ typed t var (deep t) n
types-go-deeper t tree var zero n = let none : deep t + 0 ≡ deep t = omega arith in ap (λ left. typed t var left n) none
types-go-deeper t tree var (suc more) n =
    let next : deep t + suc more ≡ suc (deep t + more) = omega arith in
    ap (λ left. typed t var left n) next ∙ sym (typed-more t tree var (deep t + more) n (omega arith)) ∙ types-go-deeper t tree var more n

typed-further : (t : Tree) → IsSyntaxTree t → (var : Node → Asking JavaType) (left more : ℕ) (n : Node) → length t.nodes ≤ n.0 + left → typed t var (more + left) n ≡ typed t var left n
typed-further t tree var left zero n past = let none : 0 + left ≡ left = omega arith in ap (λ k. typed t var k n) none
typed-further t tree var left (suc more) n past =
    let next : suc more + left ≡ suc (more + left) = omega arith in
    ap (λ k. typed t var k n) next ∙ sym (typed-more t tree var (more + left) n (omega (arith, past))) ∙ typed-further t tree var left more n past

-- a node goes no deeper than there are nodes behind it
pub deep-enough : (t : Tree) → IsSyntaxTree t → (var : Node → Asking JavaType) (left : ℕ) (n : Node) → length t.nodes ≤ n.0 + left → typed t var left n ≡ typed t var (deep t) n
deep-enough t tree var left n past =
    let same : deep t + left ≡ left + deep t = omega arith in
    sym (typed-further t tree var left (deep t) n past) ∙ ap (λ k. typed t var k n) same ∙ typed-further t tree var (deep t) left n (omega arith)

-- the same of a tree and of the one of its file
pub enough-at : (t u : Tree) (before left : ℕ) (n : Node) → u ≡ t → ((var : Node → Asking JavaType) → typed u var left n ≡ typed u var (deep u) n)
    → typed t (earlier t before) left n ≡ typed t (earlier t before) (deep t) n
enough-at t u before left n same enough =
    subst (λ (x : Tree). typed x (earlier t before) left n ≡ typed x (earlier t before) (deep x) n) same (enough (earlier t before))

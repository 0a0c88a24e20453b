-- Nodes stand in one another, one behind the other, and each begins before the last token of the node around it.
use Rattle.std.proofs.Common.{◌≡◌, ℕ, ◌-◌, ◌<◌, ◌≤◌, ◌==◌, ◌||◌, ◌⊎◌, inl, inr, Bool, true, false, not, List, [], ◌∷◌, Option, Some, None, refl, sym, ◌∙◌, arith}
use Rattle.std.specs.Prelude.{if◌then◌else◌}
use Rattle.std.proofs.lemmas.Bool.{and_parts}
use Rattle.pj_tree.specs.declared.kind.Kind.{Kind}
use Rattle.pj_tree.specs.declared.kind.Kind.TheVariants as k
use Rattle.pj_peg_grammar.specs.Derivation.{Forest, no_tree, tree}
use Rattle.pj_shape.specs.declared.shape.Shape.{Shape}
use Rattle.pj_shape.specs.declared.shape.Shape.TheVariants.{Pass, Node, Joined, Turn, Segment}
use Rattle.pj_shape.specs.Kinds.{is_variable_access, is_field_access}
use Rattle.pj_shape.specs.Shaped.{Nodes, no_nodes, node, one_node, joined, with_rule, acts, leads, shape_of, shaped}
use Rattle.pj_shape.specs.Shaped as nodes
use Rattle.pj_shape.specs.Typed.{Words, one_more, names_by, names, is_class_name, around_of, is_class, type_then, typed}
use Rattle.pj_shape.proofs.Laying.{Laid, laid_le}
use Rattle.pj_shape.proofs.Shutting.{IsMadeWell, Shut}

-- the nodes stand between two places, one behind the other, and begin before `stop`; each takes a token unless its kind may be empty
abbrev pub Nested : (Kind → Bool) → ℕ → ℕ → ℕ → Nodes → Type 0
Nested hollow stop at to no_nodes = at ≤ to
Nested hollow stop at to (node kind i j below after) = (at ≤ i) × (i < stop) × ((hollow kind ≡ true) ⊎ (i < j)) × Nested hollow j i j below × Nested hollow stop j to after

module _ (hollow : Kind → Bool) where
  pub nested_le : (stop at to : ℕ) (ns : Nodes) → Nested hollow stop at to ns → at ≤ to
  nested_le stop at to no_nodes h = h
  nested_le stop at to (node kind i j below after) h =
      let a = h.0 in let b = nested_le j i j below h.3 in let c = nested_le stop j to after h.4 in omega arith

  from_before : (stop low at to : ℕ) (ns : Nodes) → low ≤ at → Nested hollow stop at to ns → Nested hollow stop low to ns
  from_before stop low at to no_nodes le h = omega arith
  from_before stop low at to (node kind i j below after) le h = (let a = h.0 in omega arith, h.1, h.2, h.3, h.4)

  to_behind : (stop at to high : ℕ) (ns : Nodes) → to ≤ high → Nested hollow stop at to ns → Nested hollow stop at high ns
  to_behind stop at to high no_nodes le h = omega arith
  to_behind stop at to high (node kind i j below after) le h = (h.0, h.1, h.2, h.3, to_behind stop j to high after le h.4)

  later_stop : (stop stop' at to : ℕ) (ns : Nodes) → stop ≤ stop' → Nested hollow stop at to ns → Nested hollow stop' at to ns
  later_stop stop stop' at to no_nodes le h = h
  later_stop stop stop' at to (node kind i j below after) le h = (h.0, (let a = h.1 in omega arith), h.2, h.3, later_stop stop stop' j to after le h.4)

  -- whatever lies behind them
  stop_behind : (stop stop' at to : ℕ) (ns : Nodes) → to < stop' → Nested hollow stop at to ns → Nested hollow stop' at to ns
  stop_behind stop stop' at to no_nodes lt h = h
  stop_behind stop stop' at to (node kind i j below after) lt h =
      let b = nested_le j i j below h.3 in let c = nested_le stop j to after h.4 in
      (h.0, (let x : i < stop' = omega arith in x), h.2, h.3, stop_behind stop stop' j to after lt h.4)

  nested-append : (stop at mid to : ℕ) (xs ys : Nodes) → Nested hollow stop at mid xs → Nested hollow stop mid to ys → Nested hollow stop at to (nodes.append xs ys)
  nested-append stop at mid to no_nodes ys h g = from_before stop at mid to ys h g
  nested-append stop at mid to (node kind i j below after) ys h g = (h.0, h.1, h.2, h.3, nested-append stop j mid to after ys h.4 g)

  one_nested : (kind : Kind) (stop at i j : ℕ) (ns : Nodes) → at ≤ i → i < stop → (hollow kind ≡ true) ⊎ (i < j) → Nested hollow j i j ns → Nested hollow stop at j (one_node kind i j ns)
  one_nested kind stop at i j ns le lt some h = (le, lt, some, h, (let x : j ≤ j = omega arith in x))

  nested_joined : (kind : Kind) (stop i j : ℕ) (ns : Nodes) → j ≤ stop → Nested hollow j i j ns → Nested hollow stop i j (joined kind i j ns)
  nested_joined kind stop i j no_nodes le h = h
  nested_joined kind stop i j (node l a b below no_nodes) le h = later_stop j stop i j (node l a b below no_nodes) le h
  nested_joined kind stop i j (node l a b below (node l' a' b' under after)) le h =
      let x = h.0 in let y = h.1 in
      one_nested kind stop i i j (node l a b below (node l' a' b' under after)) (omega arith) (omega arith) (inr (omega arith)) h

  turned : (kind : Kind) (start at i j stop : ℕ) (so_far ns : Nodes) → start ≤ at → at ≤ i → i < j → j ≤ stop → Nested hollow stop start at so_far → Nested hollow j i j ns → Nested hollow stop start j (one_node kind start j (nodes.append so_far ns))
  turned kind start at i j stop so_far ns sa ai ij js h g =
      one_nested kind stop start start j (nodes.append so_far ns) (omega arith) (omega arith) (inr (omega arith))
      (nested-append j start at j so_far ns (stop_behind stop j start at so_far (omega arith) h) (from_before j at i j ns ai g))

  nested_rule : (s : Shape) (start at i j stop : ℕ) (so_far ns : Nodes) → start ≤ at → at ≤ i → j ≤ stop → IsMadeWell hollow s i j stop → Nested hollow stop start at so_far → Nested hollow j i j ns → Nested hollow stop start j (with_rule s start i j so_far ns)
  nested_rule Pass start at i j stop so_far ns sa ai js m h g = nested-append stop start at j so_far ns h (from_before stop at i j ns ai (later_stop j stop i j ns js g))
  nested_rule (Node kind) start at i j stop so_far ns sa ai js m h g = nested-append stop start at j so_far (one_node kind i j ns) h (one_nested kind stop at i j ns ai m.0 m.1 g)
  nested_rule (Joined kind) start at i j stop so_far ns sa ai js m h g = nested-append stop start at j so_far (joined kind i j ns) h (from_before stop at i j (joined kind i j ns) ai (nested_joined kind stop i j ns js g))
  nested_rule (Turn kind) start at i j stop so_far ns sa ai js m h g = turned kind start at i j stop so_far ns sa ai m js h g
  nested_rule (Segment kind) start at i j stop so_far ns sa ai js m h g = turned kind start at i j stop so_far ns sa ai m js h g

  made_acts : (s : Shape) (b : Bool) (i j stop : ℕ) → IsMadeWell hollow s i j stop → IsMadeWell hollow (acts s b) i j stop
  made_acts Pass b i j stop m = m
  made_acts (Node kind) b i j stop m = m
  made_acts (Joined kind) b i j stop m = m
  made_acts (Turn kind) b i j stop m = m
  made_acts (Segment kind) true i j stop m = tt
  made_acts (Segment kind) false i j stop m = m

  pub nested_shaped : (shapes : List Shape) (small : ℕ → Bool) (start at to stop : ℕ) (so_far : Nodes) (d : Forest) → start ≤ at → Laid at to d → Shut hollow shapes stop d → to ≤ stop → Nested hollow stop start at so_far → Nested hollow stop start to (shaped shapes small start so_far d)
  nested_shaped shapes small start at to stop so_far no_tree le l s ts h = to_behind stop start at to so_far l h
  nested_shaped shapes small start at to stop so_far (tree r i j below after) le l s ts h =
      let ai = l.0 in
      let ij = laid_le i j below l.1 in
      let jt = laid_le j to after l.2 in
      let js : j ≤ stop = omega arith in
      let sj : start ≤ j = omega arith in
      let ii : i ≤ i = omega arith in
      let jj : j ≤ j = omega arith in
      let inner : Nested hollow j i j (shaped shapes small i no_nodes below) = nested_shaped shapes small i i j j no_nodes below ii l.1 s.1 jj ii in
      let b = leads small i j so_far after in
      nested_shaped shapes small start j to stop _ after sj l.2 s.2 ts
      (nested_rule (acts (shape_of shapes r) b) start at i j stop so_far (shaped shapes small i no_nodes below) le ai js (made_acts (shape_of shapes r) b i j stop s.0) h inner)

-- ---- types among the names

class_by_kind : (cap : ℕ → Bool) (v f : Bool) (last : ℕ) (before : List ℕ) → is_class_name cap (if v then last ∷ [] else if f then one_more last before else []) ≡ true → (v || f) ≡ true
class_by_kind cap true f last before h = refl
class_by_kind cap false true last before h = refl
class_by_kind cap false false last before h = absurd (cc)

class_by_start : (cap : ℕ → Bool) (kind : Kind) (b : Bool) (last : ℕ) (before : List ℕ) → is_class_name cap (if b then names_by kind last before else []) ≡ true → (is_variable_access kind || is_field_access kind) ≡ true
class_by_start cap kind true last before h = class_by_kind cap (is_variable_access kind) (is_field_access kind) last before h
class_by_start cap kind false last before h = absurd (cc)

-- a node that is read as a class is an access of a variable or a field
class_kind : (w : Words) (around : Option ℕ) (kind : Kind) (i j : ℕ) (below : Nodes) → is_class w around (node kind i j below no_nodes) ≡ true → (is_variable_access kind || is_field_access kind) ≡ true
class_kind w None kind i j below h = absurd (cc)
class_kind w (Some start) kind i j below h =
    class_by_start w.capital kind (i == start) (j - 1) (names start below)
    (and_parts (is_class_name w.capital (names start (node kind i j below no_nodes))) (not (w.declared start)) h).0

-- such an access takes a token
pub record HasSolidNames (hollow : Kind → Bool) : Type 0 where
  pub solid : (kind : Kind) → (is_variable_access kind || is_field_access kind) ≡ true → hollow kind ≡ false

pub nested_typed : (hollow : Kind → Bool) → HasSolidNames hollow → (w : Words) (around : Option ℕ) (stop at to : ℕ) (ns : Nodes) → Nested hollow stop at to ns → Nested hollow stop at to (typed w around ns)
nested_typed hollow names_are w around stop at to no_nodes h = h
nested_typed hollow names_are w around stop at to (node kind i j below after) h =
    go (is_class w around (node kind i j below no_nodes)) refl (nested_typed hollow names_are w (around_of kind i) j i j below h.3) (nested_typed hollow names_are w None stop j to after h.4)
  where
    takes : is_class w around (node kind i j below no_nodes) ≡ true → i < j
    takes is = elim h.2 [
      | inl empty ↦ (let no_way : true ≡ false = sym empty ∙ names_are.solid kind (class_kind w around kind i j below is) in absurd (cc))
      | inr some ↦ some
    ]

    class : i < j → Nested hollow j i j (one_node k.ClassType i j no_nodes)
    class lt = one_nested hollow k.ClassType j i i j no_nodes (omega arith) lt (inr lt) (let x : i ≤ j = omega arith in x)

    go : (b : Bool) → is_class w around (node kind i j below no_nodes) ≡ b → Nested hollow j i j (typed w (around_of kind i) below) → Nested hollow stop j to (typed w None after) →
        Nested hollow stop at to (if b then type_then i j (typed w None after) else node kind i j (typed w (around_of kind i) below) (typed w None after))
    go true is f g = (h.0, h.1, inr (takes is), class (takes is), g)
    go false is f g = (h.0, h.1, h.2, f, g)

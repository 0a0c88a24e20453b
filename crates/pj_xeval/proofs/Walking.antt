-- Steps of a path over all items at once, and over those alone at which they find something.
use Rattle.std.proofs.Common.{◌≡◌, ℕ, ◌+◌, Bool, true, false, not, ◌&&◌, ◌||◌, cond, List, [], ◌∷◌, ◌++◌, length, map, filter, Vec, Global, Ok, Err, refl, sym, ap, ◌∙◌, append-nil, append_assoc, true≢false, vec_len, ◌==◌, arith}
use Rattle.std.specs.Prelude.{flat_map, if◌then◌else◌}
use Rattle.std.proofs.lemmas.Bool.{eqb-true}
use Rattle.pj_tree.specs.Tree.{Tree}
use Rattle.pj_xexpressions.specs.declared.axis.Axis.{Axis}
use Rattle.pj_xexpressions.specs.declared.axis.Axis.TheVariants as axis
use Rattle.pj_xexpressions.specs.declared.expr.Expr.{Expr}
use Rattle.pj_xexpressions.specs.declared.expr.Expr.TheVariants as expr
use Rattle.pj_xexpressions.specs.declared.expr.NodeTest.{NodeTest}
use Rattle.pj_xexpressions.specs.declared.expr.NodeTest.TheVariants as tests
use Rattle.pj_xvalue.specs.declared.fault.XCode.TheVariants.{XPTY0018, XPTY0019, XPTY0020}
use Rattle.pj_xvalue.specs.Atomic.{has_node}
use Rattle.pj_xvalue.specs.Items.{ItemValue, is_node, are_nodes}
use Rattle.pj_xaxes.specs.Axes.{is_reverse}
use Rattle.pj_xaxes.specs.Order.{ordered}
use Rattle.pj_xsteps.specs.Means.{Means, give, fail, judged, ◌>>=◌, chain}
use Rattle.pj_xsteps.specs.Context.{Around, Variables, Denotation, at}
use Rattle.pj_xsteps.specs.Turns.{numbered, step_in_turn, with_all, narrowed}
use Rattle.pj_xsteps.specs.Steps.{stepped, in_document_order, from_node}
use Rattle.pj_xeval.specs.Over.{stepped_at, stepped_at_each, has_some, may_go_down}
use Rattle.pj_xeval.proofs.Parents.{below-are_nodes}
use Rattle.pj_xsteps.specs.Denotes.{denotes}
use Rattle.pj_xsteps.proofs.Forms.{denotes_step}
use Rattle.pj_xframes.specs.declared.frame.Turn.TheVariants as turn
use Rattle.pj_xframes.specs.Frames.{Replies, over, finished}
use Rattle.pj_xeval.specs.Plain.{BeginsBelow, plain_step}
use Rattle.pj_xeval.proofs.Kept.{nothing}
use Rattle.pj_xeval.proofs.Steps.{over-cons}

both-true : (a b : Bool) → (a && b) ≡ true → (a ≡ true) × (b ≡ true)
both-true true b h = (refl, h)
both-true false b h = absurd (true≢false (sym h))

-- a step of which is known what it gives at each node
module _ (d : Denotation) (size : ℕ) (v : Variables) (g : ItemValue → List ItemValue) (gives : (position : ℕ) (x : ItemValue) → is_node x ≡ true → d (at x position size) v ≡ give (g x)) where
  one-turn : (position : ℕ) (x : ItemValue) → is_node x ≡ true → step_in_turn d size v (position, x) ≡ give (g x)
  one-turn position x is = ap (λ (b : Bool). if b then d (at x position size) v else fail XPTY0019) is ∙ gives position x is

  all-turns : (position : ℕ) (items found : List ItemValue) → are_nodes items ≡ true → chain (step_in_turn d size v) with_all (numbered position items) found ≡ give (found ++ flat_map g items)
  all-turns position [] found h = ap (λ (xs : List ItemValue). give xs) (sym (append-nil found))
  all-turns position (x ∷ xs) found h =
      let both = both-true (is_node x) (are_nodes xs) h in
      ap (λ (m : Means (List ItemValue)). m >>= λ value. judged (with_all {X = ℕ × ItemValue} (position, x) found value) >>= λ more. chain (step_in_turn d size v) with_all (numbered (position + 1) xs) more) (one-turn position x both.0)
      ∙ all-turns (position + 1) xs (found ++ g x) both.1
      ∙ ap (λ (ys : List ItemValue). give ys) (append_assoc found (g x) (flat_map g xs))

  -- the first that is no node
  no-turns : (position : ℕ) (items found : List ItemValue) → are_nodes items ≡ false → chain (step_in_turn d size v) with_all (numbered position items) found ≡ fail XPTY0019
  no-turns position [] found h = absurd (true≢false h)
  no-turns position (x ∷ xs) found h = elim (is_node x) as (λ b. is_node x ≡ b → (b && are_nodes xs) ≡ false → chain (step_in_turn d size v) with_all (numbered position (x ∷ xs)) found ≡ fail XPTY0019) [
    | true ↦ λ is rest.
        ap (λ (m : Means (List ItemValue)). m >>= λ value. judged (with_all {X = ℕ × ItemValue} (position, x) found value) >>= λ more. chain (step_in_turn d size v) with_all (numbered (position + 1) xs) more) (one-turn position x is)
        ∙ no-turns (position + 1) xs (found ++ g x) rest
    | false ↦ λ is rest.
        ap (λ (b : Bool). (if b then d (at x position size) v else fail XPTY0019) >>= λ value. judged (with_all {X = ℕ × ItemValue} (position, x) found value) >>= λ more. chain (step_in_turn d size v) with_all (numbered (position + 1) xs) more) is
  ] refl h

-- A step that gives the same wherever an item stands, and nothing at those that a test leaves out: these may be left out.
module _ (d : Denotation) (v : Variables) (e : ItemValue → Means (List ItemValue)) (same : (x : ItemValue) (position size : ℕ) → d (at x position size) v ≡ e x) (p : ItemValue → Bool)
    (nothing : (x : ItemValue) → p x ≡ false → (is_node x ≡ true) × (e x ≡ give [])) where
  left-out : (size size' position position' : ℕ) (items found : List ItemValue) → chain (step_in_turn d size v) with_all (numbered position items) found ≡ chain (step_in_turn d size' v) with_all (numbered position' (filter p items)) found
  left-out size size' position position' [] found = refl
  left-out size size' position position' (x ∷ xs) found = elim (p x) as (λ b. p x ≡ b → chain (step_in_turn d size v) with_all (numbered position (x ∷ xs)) found ≡ chain (step_in_turn d size' v) with_all (numbered position' (cond b (x ∷ filter p xs) (filter p xs))) found) [
    | true ↦ λ is. (let here = same x position size ∙ sym (same x position' size') in
        λ i. (if is_node x then here i else fail XPTY0019) >>= λ value. left-out size size' (position + 1) (position' + 1) xs (found ++ value) i)
    | false ↦ λ is.
        let h = nothing x is in
        ap (λ (m : Means (List ItemValue)). m >>= λ value. judged (with_all {X = ℕ × ItemValue} (position, x) found value) >>= λ more. chain (step_in_turn d size v) with_all (numbered (position + 1) xs) more)
        (ap (λ (b : Bool). if b then d (at x position size) v else fail XPTY0019) h.0 ∙ same x position size ∙ h.1)
        ∙ ap (λ (ys : List ItemValue). chain (step_in_turn d size v) with_all (numbered (position + 1) xs) ys) (append-nil found)
        ∙ left-out size size' (position + 1) position' xs found
  ] refl

-- nothing passes predicates where nothing is
narrowed-none : (v : Variables) (ds : List Denotation) → narrowed v ds [] ≡ give []
narrowed-none v [] = refl
narrowed-none v (d ∷ ds) = narrowed-none v ds

no-items : (xs : List ItemValue) → has_some xs ≡ false → xs ≡ []
no-items [] h = refl
no-items (x ∷ xs) h = absurd (true≢false h)

no-children : (t : Tree) (test : NodeTest) (x : ItemValue) → may_go_down t test x ≡ false → (is_node x ≡ true) × (stepped t axis.Child test x ≡ [])
no-children t test x h = elim (is_node x) as (λ b. is_node x ≡ b → (not b || has_some (stepped t axis.Child test x)) ≡ false → (is_node x ≡ true) × (stepped t axis.Child test x ≡ [])) [
  | true ↦ λ is rest. (is, no-items (stepped t axis.Child test x) rest)
  | false ↦ λ is rest. absurd (true≢false rest)
] refl h

module _ (a : Around) (reply : Replies) where
  step-gives : (along : Axis) (test : NodeTest) (predicates : Vec Expr Global) (size : ℕ) (v : Variables) → predicates.items ≡ [] → (position : ℕ) (x : ItemValue) → is_node x ≡ true
      → denotes a reply (expr.Step along test predicates) (at x position size) v ≡ give (stepped_at a.tree along test x)
  step-gives along test predicates size v none position x is =
      denotes_step a reply (at x position size) v along test predicates
      ∙ ap (λ (ps : List Expr). from_node x (narrowed v (map (denotes a reply) ps) (stepped a.tree along test x) >>= λ found. give (in_document_order (is_reverse along) found))) none
      ∙ ap (λ (b : Bool). if b then give (stepped_at a.tree along test x) else fail XPTY0020) is

  -- a step without predicates
  pub plain : (along : Axis) (test : NodeTest) (predicates : Vec Expr Global) (v : Variables) (ds : List Denotation) (items : List ItemValue) → predicates.items ≡ []
      → plain_step a.tree along test v ds items ≡ over turn.Step v (denotes a reply (expr.Step along test predicates) ∷ ds) items
  plain along test predicates v ds items none =
      let d = denotes a reply (expr.Step along test predicates) in
      let gives = step-gives along test predicates (length items) v none in
      elim (are_nodes items) as (λ b. are_nodes items ≡ b → (if b then finished turn.Step v ds (stepped_at_each a.tree along test items) else fail XPTY0019) ≡ over turn.Step v (d ∷ ds) items) [
        | true ↦ λ is.
            sym (ap (λ (m : Means (List ItemValue)). m >>= λ all. finished turn.Step v ds all) (all-turns d (length items) v (stepped_at a.tree along test) gives 1 items [] is))
            ∙ over-cons turn.Step v d ds items
        | false ↦ λ is.
            sym (ap (λ (m : Means (List ItemValue)). m >>= λ all. finished turn.Step v ds all) (no-turns d (length items) v (stepped_at a.tree along test) gives 1 items [] is))
            ∙ over-cons turn.Step v d ds items
      ] refl

  nothing-there : (test : NodeTest) (predicates : List Denotation) (v : Variables) (x : ItemValue) → may_go_down a.tree test x ≡ false
      → (is_node x ≡ true) × (from_node x (narrowed v predicates (stepped a.tree axis.Child test x) >>= λ found. give (in_document_order false found)) ≡ give [])
  nothing-there test predicates v x h =
      let none = no-children a.tree test x h in (
        none.0,
        ap (λ (b : Bool). if b then (narrowed v predicates (stepped a.tree axis.Child test x) >>= λ found. give found) else fail XPTY0020) none.0
            ∙ ap (λ (xs : List ItemValue). narrowed v predicates xs >>= λ found. give found) none.1
            ∙ ap (λ (m : Means (List ItemValue)). m >>= λ found. give found) (narrowed-none v predicates),
      )

  fewer-turns : (test : NodeTest) (predicates : Vec Expr Global) (v : Variables) (ds : List Denotation) (items : List ItemValue)
      → over turn.Step v (denotes a reply (expr.Step axis.Child test predicates) ∷ ds) (filter (may_go_down a.tree test) items) ≡ over turn.Step v (denotes a reply (expr.Step axis.Child test predicates) ∷ ds) items
  fewer-turns test predicates v ds items =
      let d = denotes a reply (expr.Step axis.Child test predicates) in
      let kept = filter (may_go_down a.tree test) items in
      let e = λ (x : ItemValue). from_node x (narrowed v (map (denotes a reply) predicates.items) (stepped a.tree axis.Child test x) >>= λ found. give (in_document_order false found)) in
      sym (over-cons turn.Step v d ds kept)
      ∙ sym (ap (λ (m : Means (List ItemValue)). m >>= λ all. finished turn.Step v ds all)
      (left-out d v e (λ x position size. denotes_step a reply (at x position size) v axis.Child test predicates) (may_go_down a.tree test) (nothing-there test (map (denotes a reply) predicates.items) v) (length items) (length kept) 1 1 items []))
      ∙ over-cons turn.Step v d ds items

  in-order : (v : Variables) (ds : List Denotation) (found : List ItemValue) → are_nodes found ≡ true → finished turn.Step v ds found ≡ over turn.Step v ds (ordered found)
  in-order v ds found all = ap (λ (b : Bool). judged (if b then Ok (ordered found) else (if has_node found then Err XPTY0018 else Ok found)) >>= λ nodes. over turn.Step v ds nodes) all

  -- the step that `//` stands for, with a step along `child` behind it: only what has such children counts
  pub descended : (test : NodeTest) (steps : List Expr) (v : Variables) (items parents : List ItemValue) → BeginsBelow test steps → are_nodes items ≡ true
      → parents ≡ filter (may_go_down a.tree test) (ordered (stepped_at_each a.tree axis.DescendantOrSelf tests.AnyNode items))
      → over turn.Step v (map (denotes a reply) steps) parents ≡ plain_step a.tree axis.DescendantOrSelf tests.AnyNode v (map (denotes a reply) steps) items
  descended test steps v items parents begins all is =
      let below = stepped_at_each a.tree axis.DescendantOrSelf tests.AnyNode items in
      let ds = map (denotes a reply) begins.behind in
      ap (λ (xs : List ItemValue). over turn.Step v (map (denotes a reply) steps) xs) is
      ∙ ap (λ (es : List Expr). over turn.Step v (map (denotes a reply) es) (filter (may_go_down a.tree test) (ordered below))) begins.is
      ∙ fewer-turns test begins.predicates v ds (ordered below)
      ∙ ap (λ (es : List Expr). over turn.Step v (map (denotes a reply) es) (ordered below)) (sym begins.is)
      ∙ sym (in-order v (map (denotes a reply) steps) below (below-are_nodes a.tree items))
      ∙ sym (ap (λ (b : Bool). if b then finished turn.Step v (map (denotes a reply) steps) below else fail XPTY0019) all)

  -- what is no node has no steps
  pub refused : (t : Tree) (along : Axis) (test : NodeTest) (v : Variables) (ds : List Denotation) (items : List ItemValue) → are_nodes items ≡ false → fail XPTY0019 ≡ plain_step t along test v ds items
  refused t along test v ds items none = sym (ap (λ (b : Bool). if b then finished turn.Step v ds (stepped_at_each t along test items) else fail XPTY0019) none)

  pub allowed : (t : Tree) (along : Axis) (test : NodeTest) (v : Variables) (ds : List Denotation) (items found : List ItemValue) → are_nodes items ≡ true → found ≡ stepped_at_each t along test items
      → finished turn.Step v ds found ≡ plain_step t along test v ds items
  allowed t along test v ds items found all is =
      ap (λ (xs : List ItemValue). finished turn.Step v ds xs) is
      ∙ sym (ap (λ (b : Bool). if b then finished turn.Step v ds (stepped_at_each t along test items) else fail XPTY0019) all)

-- without predicates
pub no-predicates : (predicates : Vec Expr Global) → (vec_len predicates == 0) ≡ true → predicates.items ≡ []
no-predicates predicates h = (let none : vec_len predicates ≡ 0 = eqb-true (vec_len predicates) 0 h in nothing predicates.items (omega (arith, none)))

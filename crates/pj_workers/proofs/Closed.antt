-- What expressions denote is of a kind of meanings that has each value and each sequence of its members, where the functions of PMD that are called reply so: as
-- the meanings that ask for nothing, and those that come to something over a world.
use Rattle.std.proofs.Common.{ℕ, sym, subst, cond, Bool, true, false, List, [], ◌∷◌, Option, Result, Ok, Err, refl}
use Rattle.std.specs.Prelude.{⊤, ◌&&◌, IsTrue, length}
use Rattle.std.specs.List.{AllByRecursion, list_all}
use Rattle.pj_names.specs.Asking.{Asking, Return, bind, each}
use Rattle.pj_tree.specs.declared.node.Node.{Node}
use Rattle.pj_xaxes.specs.Axes.{is_reverse}
use Rattle.pj_xaxes.specs.Order.{ordered}
use Rattle.pj_xexpressions.specs.Trees as tree
use Rattle.pj_xexpressions.specs.Trees.{Construct, Tree, Trees, NoMore, More, tree_of}
use Rattle.pj_xexpressions.specs.TreeFolds.{fold_tree, fold_trees, first, rest, bound, behind_all}
use Rattle.pj_xexpressions.specs.declared.expr.Expr.{Expr}
use Rattle.pj_xexpressions.specs.declared.pmd_function.PmdFunction.{PmdFunction}
use Rattle.pj_xexpressions.specs.declared.operator.Quantifier.{Quantifier}
use Rattle.pj_xexpressions.specs.declared.operator.Quantifier.TheVariants as quantifier
use Rattle.pj_xexpressions.specs.Functions.{pmd_takes}
use Rattle.pj_xsteps.specs.Bindings.{for_in, let_in, quantified, with_item}
use Rattle.pj_xsteps.specs.Arithmetic.{number_items, range, signed}
use Rattle.pj_xsteps.specs.Calls.{call, node_in, pmd_call}
use Rattle.pj_xsteps.specs.Context.{Around, Context, Denotation, Variables, at}
use Rattle.pj_xsteps.specs.Denotes.{arguments_of, behind, denotes, here, with_argument, with_factor, with_nodes, with_set, with_term, with_text}
use Rattle.pj_xsteps.specs.Means.{Means, after, chain, decided, decides, fail, give, judged, one_boolean, ◌>>=◌}
use Rattle.pj_xsteps.specs.Operands.{only_nodes, operand, with_values}
use Rattle.pj_xsteps.specs.Steps.{attributes, from_node, in_document_order, stepped}
use Rattle.pj_xsteps.specs.Turns.{in_turn, mapped, narrowed, numbered, passing, path, simple_map, step_in_turn, through, united, walked, with_all, with_kept}
use Rattle.pj_xvalue.specs.Boolean.{effective_boolean}
use Rattle.pj_xvalue.specs.Comparison.{general_comparison}
use Rattle.pj_xvalue.specs.Items.{ItemValue, Document, String, is_node}
use Rattle.pj_xvalue.specs.declared.fault.XCode.{XCode}
use Rattle.pj_xvalue.specs.declared.fault.XCode.TheVariants.{XPTY0004, XPTY0019, XPTY0020}
use Rattle.pj_workers.specs.Calls.{calls_by, calls_only, may_stand}
use Rattle.pj_xlaws.specs.Laws.{Reply}
use Rattle.pj_xlaws.proofs.DenotedTrees.{by, denotes_tree, nothing, of_tree}

-- a kind of meanings
abbrev pub Kind : Type 1
Kind = (A : Type 0) → Asking A → Type 0

-- It has each value, and each meaning that goes on from one of its members with others of them.
pub record IsClosed (P : Kind) : Type 1 where
  pub returned : (A : Type 0) (x : A) → P A (Return x)
  pub sequence : (A B : Type 0) (m : Asking A) (k : A → Asking B) → P A m → ((x : A) → P B (k x)) → P B (bind m k)

first_holds : (a b : Bool) → IsTrue (a && b) → IsTrue a
first_holds true b h = refl
first_holds false b h = h

second_holds : (a b : Bool) → IsTrue (a && b) → IsTrue b
second_holds true b h = h
second_holds false b h = absurd (cc)

module _ (P : Kind) (closed : IsClosed P) where
  pub given : {A : Type 0} (x : A) → P A (Return x)
  given x = closed.returned _ x

  either : {A B : Type 0} (k : A → Means B) → ((x : A) → P _ (k x)) → (r : Result A XCode) → P _ (after k r)
  either k next (Ok x) = next x
  either k next (Err code) = given (Err code)

  pub kept_next : {A B : Type 0} (m : Means A) (k : A → Means B) → P _ m → ((x : A) → P _ (k x)) → P _ (m >>= k)
  kept_next m k h next = closed.sequence _ _ m (after k) h (either k next)

  -- what is made of a value without asking
  pub kept_judged : {A B : Type 0} (m : Means A) (f : A → Result B XCode) → P _ m → P _ (m >>= λ x. judged (f x))
  kept_judged m f h = kept_next m (λ x. judged (f x)) h (λ x. given _)

  pub kept_if : {A : Type 0} (b : Bool) (m n : Asking A) → P _ m → P _ n → P _ (cond b m n)
  kept_if true m n h k = h
  kept_if false m n h k = k

  abbrev Each : {X : Type 0} → (X → Type 0) → List X → Type 0
  Each F [] = ⊤
  Each F (x ∷ xs) = F x × Each F xs

  every : {X : Type 0} (F : X → Type 0) → ((x : X) → F x) → (xs : List X) → Each F xs
  every F h [] = tt
  every F h (x ∷ xs) = (h x, every F h xs)

  module _ {X : Type 0} (m : X → Means (List ItemValue)) where
    kept_chain : {S : Type 0} (taken : X → S → List ItemValue → Result S XCode) (xs : List X) → Each (λ x. P _ (m x)) xs → (s : S) → P _ (chain m taken xs s)
    kept_chain taken [] h s = given _
    kept_chain taken (x ∷ xs) h s =
        kept_next (m x) (λ value. judged (taken x s value) >>= λ next. chain m taken xs next) h.0
        (λ value. kept_next (judged (taken x s value)) (λ next. chain m taken xs next) (given _) (λ next. kept_chain taken xs h.1 next))

    kept_decided : (q : Quantifier) (xs : List X) → Each (λ x. P _ (m x)) xs → P _ (decided q m xs)
    kept_decided q [] h = given _
    kept_decided q (x ∷ xs) h =
        kept_next (m x) (λ value. judged (effective_boolean value) >>= λ truth. cond (decides q truth) (give (one_boolean truth)) (decided q m xs)) h.0
        (λ value. kept_next (judged (effective_boolean value)) (λ truth. cond (decides q truth) (give (one_boolean truth)) (decided q m xs)) (given _)
        (λ truth. kept_if (decides q truth) (give (one_boolean truth)) (decided q m xs) (given _) (kept_decided q xs h.1)))

  abbrev IsKept : Denotation → Type 0
  IsKept d = (c : Context) (v : Variables) → P _ (d c v)

  -- a denotation beside a name or an operator
  abbrev IsBesideKept : {O : Type 0} → O × Denotation → Type 0
  IsBesideKept b = IsKept b.1

  pub kept_bind : {A B : Type 0} (m : Asking A) (k : A → Asking B) → P _ m → ((x : A) → P _ (k x)) → P _ (bind m k)
  kept_bind m k h next = closed.sequence _ _ m k h next

  pub kept_each : {X B : Type 0} (F : X → Type 0) (m : X → Asking B) → ((x : X) → F x → P _ (m x)) → (xs : List X) → AllByRecursion F xs → P _ (each m xs)
  kept_each F m h [] all = given _
  kept_each F m h (x ∷ xs) all =
      kept_bind (m x) (λ value. bind (each m xs) (λ values. Return (value ∷ values))) (h x all.0)
      (λ value. kept_bind (each m xs) (λ values. Return (value ∷ values)) (kept_each F m h xs all.1) (λ values. given _))

  -- ---- parts

  kept_here : (c : Context) (v : Variables) (ds : List Denotation) → Each IsKept ds → Each (λ d. P _ (here c v d)) ds
  kept_here c v [] h = tt
  kept_here c v (d ∷ ds) h = (h.0 c v, kept_here c v ds h.1)

  kept_behind : {O : Type 0} (c : Context) (v : Variables) (bs : List (O × Denotation)) → Each IsBesideKept bs → Each (λ b. P _ (behind c v b)) bs
  kept_behind c v [] h = tt
  kept_behind c v (b ∷ bs) h = (h.0 c v, kept_behind c v bs h.1)

  kept_first : (ds : List Denotation) → Each IsKept ds → IsKept (first nothing ds)
  kept_first [] h c v = given _
  kept_first (d ∷ ds) h c v = h.0 c v

  kept_rest : (ds : List Denotation) → Each IsKept ds → Each IsKept (rest ds)
  kept_rest [] h = tt
  kept_rest (d ∷ ds) h = h.1

  kept_bound : {O : Type 0} (os : List O) (ds : List Denotation) → Each IsKept ds → Each IsBesideKept (bound os ds)
  kept_bound [] ds h = tt
  kept_bound (o ∷ os) [] h = tt
  kept_bound (o ∷ os) (d ∷ ds) h = (h.0, kept_bound os ds h.1)

  kept_last : {O : Type 0} (os : List O) (ds : List Denotation) → Each IsKept ds → IsKept (behind_all nothing os ds)
  kept_last [] ds h = kept_first ds h
  kept_last (o ∷ os) ds h = kept_last os (rest ds) (kept_rest ds h)

  -- ---- bindings

  kept_for : (bs : List (List ℕ × Denotation)) (body : Denotation) → Each IsBesideKept bs → IsKept body → IsKept (for_in bs body)
  kept_for [] body h k c v = k c v
  kept_for (b ∷ bs) body h k c v =
      let m = with_item b.0 (for_in bs body) c v in
      kept_next (b.1 c v) (λ items. chain m with_all items []) (h.0 c v)
      (λ items. kept_chain m with_all items (every (λ item. P _ (m item)) (λ item. kept_for bs body h.1 k c ((b.0, item ∷ []) ∷ v)) items) [])

  kept_quantified : (q : Quantifier) (bs : List (List ℕ × Denotation)) (test : Denotation) → Each IsBesideKept bs → IsKept test → IsKept (quantified q bs test)
  kept_quantified q [] test h k c v =
      kept_next (test c v) (λ value. judged (effective_boolean value) >>= λ truth. give (one_boolean truth)) (k c v)
      (λ value. kept_judged (judged (effective_boolean value)) (λ truth. Ok (one_boolean truth)) (given _))
  kept_quantified q (b ∷ bs) test h k c v =
      let m = with_item b.0 (quantified q bs test) c v in
      kept_next (b.1 c v) (λ items. decided q m items) (h.0 c v)
      (λ items. kept_decided m q items (every (λ item. P _ (m item)) (λ item. kept_quantified q bs test h.1 k c ((b.0, item ∷ []) ∷ v)) items))

  kept_let : (bs : List (List ℕ × Denotation)) (body : Denotation) → Each IsBesideKept bs → IsKept body → IsKept (let_in bs body)
  kept_let [] body h k c v = k c v
  kept_let (b ∷ bs) body h k c v = kept_next (b.1 c v) (λ items. let_in bs body c ((b.0, items) ∷ v)) (h.0 c v) (λ items. kept_let bs body h.1 k c ((b.0, items) ∷ v))

  -- ---- turns

  kept_turns : (d : Denotation) → IsKept d → (size : ℕ) (v : Variables) (turns : List (ℕ × ItemValue)) → Each (λ turn. P _ (in_turn d size v turn)) turns
  kept_turns d h size v turns = every (λ turn. P _ (in_turn d size v turn)) (λ turn. h (at turn.1 turn.0 size) v) turns

  kept_steps : (d : Denotation) → IsKept d → (size : ℕ) (v : Variables) (turns : List (ℕ × ItemValue)) → Each (λ turn. P _ (step_in_turn d size v turn)) turns
  kept_steps d h size v turns =
      every (λ turn. P _ (step_in_turn d size v turn)) (λ turn. kept_if (is_node turn.1) (in_turn d size v turn) (fail XPTY0019) (h (at turn.1 turn.0 size) v) (given _)) turns

  kept_passing : (v : Variables) (d : Denotation) → IsKept d → (items : List ItemValue) → P _ (passing v d items)
  kept_passing v d h items = kept_chain (in_turn d (length items) v) with_kept (numbered 1 items) (kept_turns d h (length items) v (numbered 1 items)) []

  kept_walked : (v : Variables) (d : Denotation) → IsKept d → (items : List ItemValue) → P _ (walked v d items)
  kept_walked v d h items =
      kept_judged (chain (step_in_turn d (length items) v) with_all (numbered 1 items) []) united
      (kept_chain (step_in_turn d (length items) v) with_all (numbered 1 items) (kept_steps d h (length items) v (numbered 1 items)) [])

  kept_mapped : (v : Variables) (d : Denotation) → IsKept d → (items : List ItemValue) → P _ (mapped v d items)
  kept_mapped v d h items = kept_chain (in_turn d (length items) v) with_all (numbered 1 items) (kept_turns d h (length items) v (numbered 1 items)) []

  kept_through : (turned : Denotation → List ItemValue → Means (List ItemValue)) → ((d : Denotation) → IsKept d → (items : List ItemValue) → P _ (turned d items))
      → (ds : List Denotation) → Each IsKept ds → (items : List ItemValue) → P _ (through turned ds items)
  kept_through turned one [] h items = given _
  kept_through turned one (d ∷ ds) h items = kept_next (turned d items) (λ found. through turned ds found) (one d h.0 items) (λ found. kept_through turned one ds h.1 found)

  kept_narrowed : (v : Variables) (ds : List Denotation) → Each IsKept ds → (items : List ItemValue) → P _ (narrowed v ds items)
  kept_narrowed v ds h items = kept_through (passing v) (kept_passing v) ds h items

  kept_path : (ds : List Denotation) → Each IsKept ds → IsKept (path ds)
  kept_path [] h c v = given _
  kept_path (d ∷ ds) h c v = kept_next (d c v) (λ items. through (walked v) ds items) (h.0 c v) (λ items. kept_through (walked v) (kept_walked v) ds h.1 items)

  kept_map : (ds : List Denotation) → Each IsKept ds → IsKept (simple_map ds)
  kept_map [] h c v = given _
  kept_map (d ∷ ds) h c v = kept_next (d c v) (λ items. through (mapped v) ds items) (h.0 c v) (λ items. kept_through (mapped v) (kept_mapped v) ds h.1 items)

  kept_from : {A : Type 0} (item : ItemValue) (m : Means A) → P _ m → P _ (from_node item m)
  kept_from item m h = kept_if (is_node item) m (fail XPTY0020) h (given _)

  -- ---- constructs

  -- the first part's value, and what the parts behind it make of it
  abbrev operated : {O N : Type 0} → List O → List Denotation → Context → Variables → (List ItemValue → Result N XCode) → (O × Denotation → N → List ItemValue → Result N XCode) → Means N
  operated os ds c v judge taken = first nothing ds c v >>= λ value. judged (judge value) >>= λ start. chain (behind c v) taken (bound os (rest ds)) start

  kept_operated : {O N : Type 0} (os : List O) (ds : List Denotation) → Each IsKept ds → (c : Context) (v : Variables) (judge : List ItemValue → Result N XCode)
      (taken : O × Denotation → N → List ItemValue → Result N XCode) → P _ (operated os ds c v judge taken)
  kept_operated os ds h c v judge taken =
      kept_next (first nothing ds c v) (λ value. judged (judge value) >>= λ start. chain (behind c v) taken (bound os (rest ds)) start) (kept_first ds h c v)
      (λ value. kept_next (judged (judge value)) (λ start. chain (behind c v) taken (bound os (rest ds)) start) (given _)
      (λ start. kept_chain (behind c v) taken (bound os (rest ds)) (kept_behind c v (bound os (rest ds)) (kept_bound os (rest ds) (kept_rest ds h))) start))

  -- the same, and what is shown of the last
  kept_shown : {O N : Type 0} (os : List O) (ds : List Denotation) → Each IsKept ds → (c : Context) (v : Variables) (judge : List ItemValue → Result N XCode)
      (taken : O × Denotation → N → List ItemValue → Result N XCode) (shown : N → List ItemValue)
      → P _ (first nothing ds c v >>= λ value. judged (judge value) >>= λ start. chain (behind c v) taken (bound os (rest ds)) start >>= λ last. give (shown last))
  kept_shown os ds h c v judge taken shown =
      kept_next (first nothing ds c v) (λ value. judged (judge value) >>= λ start. chain (behind c v) taken (bound os (rest ds)) start >>= λ last. give (shown last)) (kept_first ds h c v)
      (λ value. kept_next (judged (judge value)) (λ start. chain (behind c v) taken (bound os (rest ds)) start >>= λ last. give (shown last)) (given _)
      (λ start. kept_judged (chain (behind c v) taken (bound os (rest ds)) start) (λ last. Ok (shown last))
      (kept_chain (behind c v) taken (bound os (rest ds)) (kept_behind c v (bound os (rest ds)) (kept_bound os (rest ds) (kept_rest ds h))) start)))

  module _ (may : PmdFunction → Bool) (around : Around) (reply : Reply) (replies : (function : PmdFunction) → IsTrue (may function) → (at : Option Node) (arguments : List (List ItemValue)) → P _ (reply function at arguments)) where
    kept_by : (construct : Construct) → IsTrue (may_stand may construct) → (ds : List Denotation) → Each IsKept ds → IsKept (by around reply construct ds)
    kept_by tree.Comma stands ds h c v = kept_chain (here c v) with_all ds (kept_here c v ds h) []
    kept_by (tree.For names) stands ds h c v = kept_for (bound names ds) (behind_all nothing names ds) (kept_bound names ds h) (kept_last names ds h) c v
    kept_by (tree.Let names) stands ds h c v = kept_let (bound names ds) (behind_all nothing names ds) (kept_bound names ds h) (kept_last names ds h) c v
    kept_by (tree.Quantified q names) stands ds h c v = kept_quantified q (bound names ds) (behind_all nothing names ds) (kept_bound names ds h) (kept_last names ds h) c v
    kept_by tree.If stands ds h c v =
        let chosen = first nothing (rest ds) c v in
        let other = first nothing (rest (rest ds)) c v in
        kept_next (first nothing ds c v) (λ value. judged (effective_boolean value) >>= λ truth. cond truth chosen other) (kept_first ds h c v)
        (λ value. kept_next (judged (effective_boolean value)) (λ truth. cond truth chosen other) (given _)
        (λ truth. kept_if truth chosen other (kept_first (rest ds) (kept_rest ds h) c v) (kept_first (rest (rest ds)) (kept_rest (rest ds) (kept_rest ds h)) c v)))
    kept_by tree.Or stands ds h c v = kept_decided (here c v) quantifier.Some ds (kept_here c v ds h)
    kept_by tree.And stands ds h c v = kept_decided (here c v) quantifier.Every ds (kept_here c v ds h)
    kept_by (tree.Comparison op) stands ds h c v =
        let one = first nothing ds c v in
        let two = first nothing (rest ds) c v in
        let compared = λ (xs ys : List ItemValue). general_comparison op (with_values around xs) (with_values around ys) in
        kept_next one (λ xs. two >>= λ ys. judged (compared xs ys) >>= λ truth. give (one_boolean truth)) (kept_first ds h c v)
        (λ xs. kept_next two (λ ys. judged (compared xs ys) >>= λ truth. give (one_boolean truth)) (kept_first (rest ds) (kept_rest ds h) c v)
        (λ ys. kept_judged (judged (compared xs ys)) (λ truth. Ok (one_boolean truth)) (given _)))
    kept_by tree.Concatenation stands ds h c v = kept_judged (chain (here c v) (with_text around) ds []) (λ text. Ok (String text ∷ [])) (kept_chain (here c v) (with_text around) ds (kept_here c v ds h) [])
    kept_by tree.Range stands ds h c v =
        let one = first nothing ds c v in
        let two = first nothing (rest ds) c v in
        kept_next one (λ xs. judged (operand around xs) >>= λ a. two >>= λ ys. judged (operand around ys) >>= λ b. give (range a b)) (kept_first ds h c v)
        (λ xs. kept_next (judged (operand around xs)) (λ a. two >>= λ ys. judged (operand around ys) >>= λ b. give (range a b)) (given _)
        (λ a. kept_next two (λ ys. judged (operand around ys) >>= λ b. give (range a b)) (kept_first (rest ds) (kept_rest ds h) c v)
        (λ ys. kept_judged (judged (operand around ys)) (λ b. Ok (range a b)) (given _))))
    kept_by (tree.Additive' operators) stands ds h c v = kept_shown operators ds h c v (operand around) (with_term around) number_items
    kept_by (tree.Multiplicative' operators) stands ds h c v = kept_shown operators ds h c v (operand around) (with_factor around) number_items
    kept_by tree.Union stands ds h c v = kept_judged (chain (here c v) with_nodes ds []) (λ found. Ok (ordered found)) (kept_chain (here c v) with_nodes ds (kept_here c v ds h) [])
    kept_by (tree.IntersectExcept operators) stands ds h c v = kept_operated operators ds h c v only_nodes with_set
    kept_by (tree.Unary sign) stands ds h c v =
        kept_next (first nothing ds c v) (λ value. judged (operand around value) >>= λ number. judged (signed sign number) >>= λ result. give (number_items result)) (kept_first ds h c v)
        (λ value. kept_next (judged (operand around value)) (λ number. judged (signed sign number) >>= λ result. give (number_items result)) (given _)
        (λ number. kept_judged (judged (signed sign number)) (λ result. Ok (number_items result)) (given _)))
    kept_by tree.SimpleMap stands ds h c v = kept_map ds h c v
    kept_by tree.Path stands ds h c v = kept_path ds h c v
    kept_by tree.Root stands ds h c v = kept_from c.item (give (Document ∷ [])) (given _)
    kept_by (tree.Step axis test) stands ds h c v =
        let items = stepped around.tree axis test c.item in
        kept_from c.item (narrowed v ds items >>= λ found. give (in_document_order (is_reverse axis) found))
        (kept_judged (narrowed v ds items) (λ found. Ok (in_document_order (is_reverse axis) found)) (kept_narrowed v ds h items))
    kept_by (tree.AttributeStep test) stands ds h c v = kept_from c.item (narrowed v ds (attributes around test c.item)) (kept_narrowed v ds h (attributes around test c.item))
    kept_by tree.Filter stands ds h c v = kept_next (first nothing ds c v) (λ items. narrowed v (rest ds) items) (kept_first ds h c v) (λ items. kept_narrowed v (rest ds) (kept_rest ds h) items)
    kept_by (tree.Integer value) stands ds h c v = given _
    kept_by (tree.String text) stands ds h c v = given _
    kept_by (tree.Variable name) stands ds h c v = given _
    kept_by tree.ContextItem stands ds h c v = given _
    kept_by (tree.Call function) stands ds h c v = kept_judged (arguments_of ds c v) (λ values. call around function c values) (kept_chain (here c v) with_argument ds (kept_here c v ds h) [])
    kept_by (tree.PmdCall function) stands ds h c v =
        kept_next (arguments_of ds c v) (λ values. pmd_call reply function c values) (kept_chain (here c v) with_argument ds (kept_here c v ds h) [])
        (λ values. kept_if (pmd_takes function (length values)) (reply function (node_in c.item) values) (fail XPTY0004) (replies function stands (node_in c.item) values) (given _))

    mutual
      unfolding fold_tree fold_trees

      kept_tree : (t : Tree) → IsTrue (calls_only may t) → IsKept (of_tree around reply t)
      kept_tree (tree.Node construct parts) only =
          let stands = first_holds (may_stand may construct) (list_all (λ part. part) (fold_trees (calls_by may) parts)) only in
          let below = second_holds (may_stand may construct) (list_all (λ part. part) (fold_trees (calls_by may) parts)) only in
          kept_by construct stands (fold_trees (by around reply) parts) (kept_trees parts below)

      kept_trees : (ts : Trees) → IsTrue (list_all (λ part. part) (fold_trees (calls_by may) ts)) → Each IsKept (fold_trees (by around reply) ts)
      kept_trees NoMore only = tt
      kept_trees (More t more) only =
          let first = first_holds (fold_tree (calls_by may) t) (list_all (λ part. part) (fold_trees (calls_by may) more)) only in
          let others = second_holds (fold_tree (calls_by may) t) (list_all (λ part. part) (fold_trees (calls_by may) more)) only in
          (kept_tree t first, kept_trees more others)

    pub kept_denotes : (e : Expr) → IsTrue (calls_only may (tree_of e)) → (c : Context) (v : Variables) → P _ (denotes around reply e c v)
    kept_denotes e only c v = subst (λ (d : Denotation). P _ (d c v)) (sym (denotes_tree around reply e)) (kept_tree (tree_of e) only c v)

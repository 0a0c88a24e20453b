-- The ancestors of the nodes of a list of parents.
use Rattle.std.proofs.Common.{ℕ, zero, suc, ◌≡◌, ◌+◌, ◌<◌, ◌≤◌, List, [], ◌∷◌, ◌++◌, length, get_or, refl, ap, sym, ◌∙◌, arith, Option, None, Some}
use Rattle.std.proofs.lemmas.List.{get_or_append_left, get_or_push, length_push}
use Rattle.pj_tree.specs.Tree.{ancestors, ancestors_by, ancestors_after}
use Rattle.pj_tree.specs.Rows.{above}
use Rattle.pj_tree.specs.declared.node.Node.{Node}

after-push : (known : List (List Node)) (ps : List (Option Node)) (q : Option Node) → ancestors_after known (ps ++ q ∷ []) ≡ ancestors_after known ps ++ ancestors_by (ancestors_after known ps) q ∷ []
after-push known [] q = refl
after-push known (p ∷ ps) q = after-push (known ++ ancestors_by known p ∷ []) ps q

-- one node more
pub ancestors-push : (ps : List (Option Node)) (q : Option Node) → ancestors (ps ++ q ∷ []) ≡ ancestors ps ++ ancestors_by (ancestors ps) q ∷ []
unfolding ancestors
ancestors-push ps q = after-push [] ps q

length-after : (known : List (List Node)) (ps : List (Option Node)) → length (ancestors_after known ps) ≡ length known + length ps
length-after known [] = omega arith
length-after known (p ∷ ps) = omega (arith, length-after (known ++ ancestors_by known p ∷ []) ps, length_push known (ancestors_by known p))

pub length-ancestors : (ps : List (Option Node)) → length (ancestors ps) ≡ length ps
unfolding ancestors
length-ancestors ps = omega (arith, length-after [] ps)

-- what is known stays
after_known : (known : List (List Node)) (ps : List (Option Node)) (i : ℕ) → i < length known → get_or (ancestors_after known ps) i [] ≡ get_or known i []
after_known known [] i h = refl
after_known known (p ∷ ps) i h =
    after_known (known ++ ancestors_by known p ∷ []) ps i (omega (arith, length_push known (ancestors_by known p))) ∙ get_or_append_left known (ancestors_by known p ∷ []) [] i h

by_known : (known : List (List Node)) (ps : List (Option Node)) (q : Option Node) → above q ≤ length known → ancestors_by known q ≡ ancestors_by (ancestors_after known ps) q
by_known known ps None h = refl
by_known known ps (Some n) h = ap (λ (above : List Node). n ∷ above) (sym (after_known known ps n.0 (omega arith)))

after-at : (known : List (List Node)) (ps : List (Option Node)) (j i : ℕ) → i ≡ length known + j → j < length ps → ((k : ℕ) → k < length ps → above (get_or ps k None) ≤ length known + k) → get_or (ancestors_after known ps) i [] ≡ ancestors_by (ancestors_after known ps) (get_or ps j None)
after-at known [] j i e h below = absurd (omega arith)
after-at known (p ∷ ps) zero i e h below =
    let more : List (List Node) = known ++ ancestors_by known p ∷ [] in
    let len : length more ≡ length known + 1 = length_push known (ancestors_by known p) in
    let low : above p ≤ length known = omega (arith, below 0 (omega arith)) in
    after_known more ps i (omega arith) ∙ (get_or_push known (ancestors_by known p) [] i (omega arith) ∙ by_known known (p ∷ ps) p low)
after-at known (p ∷ ps) (suc j) i e h below =
    let more : List (List Node) = known ++ ancestors_by known p ∷ [] in
    let len : length more ≡ length known + 1 = length_push known (ancestors_by known p) in
    after-at more ps j i (omega arith) (omega arith) (λ k l. omega (arith, below (suc k) (omega arith)))

-- the ancestors of a node are its parent and the parent's
pub ancestors-at : (ps : List (Option Node)) (m : ℕ) → ((k : ℕ) → k < length ps → above (get_or ps k None) ≤ k) → m < length ps → get_or (ancestors ps) m [] ≡ ancestors_by (ancestors ps) (get_or ps m None)
unfolding ancestors
ancestors-at ps m below h = after-at [] ps m m (omega arith) h (λ k l. omega (arith, below k l))

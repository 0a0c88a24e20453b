-- The nodes that a query finds are of the tree of its items.
use Rattle.std.proofs.Common.{◌≡◌, ◌<◌, ◌++◌, ℕ, true, false, List, [], ◌∷◌, Result, Ok, Err, cond, subst}
use Rattle.std.specs.List.{All, AllByRecursion, flat_map, list_all}
use Rattle.std.proofs.lemmas.List.Elements.{All-from_recursion}
use Rattle.pj_findings.specs.Denoted.{denoted, element_in, is_element}
use Rattle.pj_tree.specs.declared.node.Node.{Node}
use Rattle.pj_xaxes.specs.Order.{ordered}
use Rattle.pj_xaxes.proofs.Inside.{of_tree-ordered}
use Rattle.pj_xvalue.specs.Items.{ItemValue, Attribute, Boolean, Document, Element, Integer, IsOfTree, String}
use Rattle.pj_xvalue.specs.OfTree.{OfTree}
use Rattle.pj_xvalue.proofs.OfTreeLaws.{each-of_tree}
use Rattle.pj_xvalue.specs.declared.fault.XCode.{XCode}
use Rattle.pj_xvalue.specs.declared.fault.XCode.TheVariants.{XPTY0004}

module _ (n : ℕ) where
  abbrev AreInside : List Node → Type 0
  AreInside ns = AllByRecursion (λ (m : Node). m.0 < n) ns

  in_one : (x : ItemValue) (ms : List Node) → IsOfTree n x → AreInside ms → AreInside (element_in x ++ ms)
  in_one Document ms h k = k
  in_one (Element m) ms h k = (h, k)
  in_one (Attribute m place) ms h k = k
  in_one (String text) ms h k = k
  in_one (Integer z) ms h k = k
  in_one (Boolean b) ms h k = k

  in_each : (xs : List ItemValue) → AllByRecursion (IsOfTree n) xs → AreInside (flat_map element_in xs)
  in_each [] h = tt
  in_each (x ∷ xs) h = in_one x (flat_map element_in xs) h.0 (in_each xs h.1)

  abbrev IfNodes : Result (List Node) XCode → Type 0
  IfNodes (Ok ns) = AreInside ns
  IfNodes (Err code) = Unit {0}

  in_denoted : (items : List ItemValue) → OfTree n items → IfNodes (denoted items)
  in_denoted items h = elim (list_all is_element items) as (λ b. IfNodes (cond b (Ok (flat_map element_in (ordered items))) (Err XPTY0004))) [
    | true ↦ in_each (ordered items) (each-of_tree n (ordered items) (of_tree-ordered n items h))
    | false ↦ tt
  ]

  pub nodes_inside : (items : List ItemValue) (ns : List Node) → OfTree n items → denoted items ≡ Ok ns → All (λ (m : Node). m.0 < n) ns
  nodes_inside items ns h is = All-from_recursion (λ (m : Node). m.0 < n) ns (subst IfNodes is (in_denoted items h))

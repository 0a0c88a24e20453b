-- An expression united with itself.
use Rattle.std.proofs.Common.{◌≡◌, ℕ, Bool, true, false, ◌||◌, ◌&&◌, List, [], ◌++◌, map, Result, Ok, Err, refl, sym, ◌∙◌, ap}
use Rattle.std.specs.Prelude.{filter, if◌then◌else◌}
use Rattle.std.specs.Ordering.{eq_by_cmp}
use Rattle.std.proofs.lemmas.List.Folds.{list_any-append, list_all-append}
use Rattle.pj_names.specs.declared.answer.Answer.{Answer}
use Rattle.pj_names.specs.ClassName.{Name}
use Rattle.pj_names.specs.Asking.{value_of}
use Rattle.pj_names.proofs.MeaningLaws.{value_of-bind}
use Rattle.pj_xexpressions.specs.declared.expr.Expr.{Expr}
use Rattle.pj_xvalue.specs.declared.fault.XCode.{XCode}
use Rattle.pj_xvalue.specs.declared.fault.XCode.TheVariants.{XPTY0004}
use Rattle.pj_xvalue.specs.Items.{ItemValue, is_node, are_nodes}
use Rattle.pj_xaxes.specs.Order.{document_order, ordered, has_item}
use Rattle.pj_xaxes.proofs.Ordered.{ordered-filter, sorted-ordered, has_item-ordered}
use Rattle.pj_xvalue.specs.Arguments.{and_then}
use Rattle.pj_xsteps.specs.Means.{Means, give, judged, after, ◌>>=◌, chain}
use Rattle.pj_xsteps.specs.Denotes.{denotes, here, with_nodes}
use Rattle.pj_xsteps.proofs.Forms.{denotes_union}
use Rattle.pj_xsteps.proofs.Sets.{are_nodes-ordered}
use Rattle.pj_xlaws.specs.Laws.{in_order, UnitedWithItself}

or-self : (b : Bool) → (b || b) ≡ b
or-self true = refl
or-self false = refl

has_item-twice : (xs : List ItemValue) (q : ItemValue) → has_item (xs ++ xs) q ≡ has_item xs q
has_item-twice xs q = list_any-append (eq_by_cmp document_order q) xs xs ∙ or-self (has_item xs q)

ordered-twice : (xs : List ItemValue) → are_nodes xs ≡ true → ordered (xs ++ xs) ≡ ordered xs
ordered-twice xs nodes =
    ordered-filter (xs ++ xs) (ordered xs) (list_all-append is_node xs xs ∙ (λ i. nodes i && nodes i)) (are_nodes-ordered xs nodes) (sorted-ordered xs) (λ q h. has_item-ordered xs q ∙ sym (has_item-twice xs q) ∙ h)
    ∙ (λ i. filter (λ q. has_item-twice xs q i) (ordered xs))
    ∙ sym (ordered-filter xs (ordered xs) nodes (are_nodes-ordered xs nodes) (sorted-ordered xs) (λ q h. has_item-ordered xs q ∙ h))

module _ (d : ℕ) (w : Name → Answer) (m : Means (List ItemValue)) where
  abbrev again : List ItemValue → Means (List ItemValue)
  again found = m >>= λ value. judged (with_nodes (tt {0}) found value) >>= λ more. give more

  abbrev twice : Means (List ItemValue)
  twice = m >>= λ value. judged (with_nodes (tt {0}) [] value) >>= λ found. again found

  again-is : (value found : List ItemValue) → are_nodes value ≡ true → value_of d w m ≡ Ok value → value_of d w (again found) ≡ Ok (found ++ value)
  again-is value found nodes is =
      value_of-bind d w m (after (λ (value : List ItemValue). judged (with_nodes (tt {0}) found value) >>= λ more. give more))
      ∙ ap (λ (r : Result (List ItemValue) XCode). value_of d w (after (λ (value : List ItemValue). judged (with_nodes (tt {0}) found value) >>= λ more. give more) r)) is
      ∙ ap (λ (b : Bool). value_of d w (after (λ (more : List ItemValue). give more) (and_then (if b then Ok value else Err XPTY0004) (λ more. Ok (found ++ more))))) nodes

  twice-begins : (r : Result (List ItemValue) XCode) → value_of d w m ≡ r → value_of d w twice ≡ value_of d w (after (λ (value : List ItemValue). judged (with_nodes (tt {0}) [] value) >>= λ found. again found) r)
  twice-begins r is =
      value_of-bind d w m (after (λ (value : List ItemValue). judged (with_nodes (tt {0}) [] value) >>= λ found. again found))
      ∙ ap (λ (q : Result (List ItemValue) XCode). value_of d w (after (λ (value : List ItemValue). judged (with_nodes (tt {0}) [] value) >>= λ found. again found) q)) is

  twice-nodes : (value : List ItemValue) → are_nodes value ≡ true → value_of d w m ≡ Ok value → value_of d w twice ≡ Ok (value ++ value)
  twice-nodes value nodes is =
      twice-begins (Ok value) is
      ∙ ap (λ (b : Bool). value_of d w (after (λ (found : List ItemValue). again found) (and_then (if b then Ok value else Err XPTY0004) (λ more. Ok ([] ++ more))))) nodes
      ∙ again-is value value nodes is

  twice-others : (value : List ItemValue) → are_nodes value ≡ false → value_of d w m ≡ Ok value → value_of d w twice ≡ Err XPTY0004
  twice-others value others is =
      twice-begins (Ok value) is
      ∙ ap (λ (b : Bool). value_of d w (after (λ (found : List ItemValue). again found) (and_then (if b then Ok value else Err XPTY0004) (λ more. Ok ([] ++ more))))) others

  twice-ordered : value_of d w (twice >>= λ found. give (ordered found)) ≡ in_order (value_of d w m)
  twice-ordered =
      value_of-bind d w twice (after (λ (found : List ItemValue). give (ordered found)))
      ∙ elim (value_of d w m) as (λ r. value_of d w m ≡ r → value_of d w (after (λ (found : List ItemValue). give (ordered found)) (value_of d w twice)) ≡ in_order r) [
        | Ok value ↦ λ is. elim (are_nodes value) as (λ b. are_nodes value ≡ b → value_of d w (after (λ (found : List ItemValue). give (ordered found)) (value_of d w twice)) ≡ and_then (if b then Ok value else Err XPTY0004) (λ nodes. Ok (ordered nodes))) [
          | true ↦ λ nodes. ap (λ (q : Result (List ItemValue) XCode). value_of d w (after (λ (found : List ItemValue). give (ordered found)) q)) (twice-nodes value nodes is) ∙ ap (λ (xs : List ItemValue). Ok xs) (ordered-twice value nodes)
          | false ↦ λ others. ap (λ (q : Result (List ItemValue) XCode). value_of d w (after (λ (found : List ItemValue). give (ordered found)) q)) (twice-others value others is)
        ] refl
        | Err code ↦ λ is. ap (λ (q : Result (List ItemValue) XCode). value_of d w (after (λ (found : List ItemValue). give (ordered found)) q)) (twice-begins (Err code) is)
      ] refl

pub united : UnitedWithItself
united a reply operand parts c v depth world is =
    ap (λ (m : Means (List ItemValue)). value_of depth world m)
    (denotes_union a reply c v parts ∙ ap (λ (es : List Expr). chain (here c v) with_nodes (map (denotes a reply) es) [] >>= λ found. give (ordered found)) is)
    ∙ twice-ordered depth world (denotes a reply operand c v)

-- How the constructs that bind variables go on.
use Rattle.std.proofs.Common.{Box, Global, ◌≡◌, ℕ, ◌+◌, true, not, List, [], ◌∷◌, ◌++◌, reverse, drop, refl, sym, ◌∙◌, ap, subst, add-one}
use Rattle.std.proofs.lemmas.List.{reverse-reverse, map-append}
use Rattle.pj_xexpressions.specs.declared.expr.Expr.{Expr}
use Rattle.pj_xvalue.specs.declared.item.Item.{Item}
use Rattle.pj_xvalue.specs.Items.{ItemValue, value_of_item, values_of}
use Rattle.std.specs.Prelude.{if◌then◌else◌}
use Rattle.pj_xvalue.specs.Boolean.{effective_boolean}
use Rattle.pj_xsteps.specs.Means.{Means, give, judged, ◌>>=◌, chain, decided, decides, one_boolean}
use Rattle.pj_xsteps.specs.Context.{Around, Context, Variables}
use Rattle.pj_xsteps.specs.Turns.{with_all}
use Rattle.pj_xsteps.specs.Bindings.{with_item, for_in, quantified, let_in}
use Rattle.pj_xsteps.specs.Parts.{bindings_of}
use Rattle.pj_xsteps.specs.Denotes.{denotes}
use Rattle.pj_xsteps.proofs.SequenceLaws.{then-give}
use Rattle.pj_xframes.specs.declared.frame.Task.TheVariants as task
use Rattle.pj_xframes.specs.declared.frame.ForTurns.{ForTurns}
use Rattle.pj_xframes.specs.declared.frame.QuantifiedTurns.{QuantifiedTurns}
use Rattle.pj_xframes.specs.declared.frame.Frame.TheVariants as frame
use Rattle.pj_xframes.specs.declared.frame.Next.TheVariants as next
use Rattle.pj_xframes.specs.Scopes.{Scoped, variables_of, with_variable, without}
use Rattle.pj_xframes.specs.Frames.{Replies, for_left, quantified_left}
use Rattle.pj_xframes.specs.Going.{Goes}
use Rattle.pj_xeval.proofs.Turning.{for-next, quantified-next}

-- one variable more to take back
pub without-bound : (name : List ℕ) (items : List ItemValue) (bound count : ℕ) (s more : Scoped) → count ≡ bound + 1 → more ≡ with_variable name items s → without count more ≡ without bound s
without-bound name items bound count s more counted at =
    (λ i. without (counted i) (at i)) ∙ (λ i. record { bound = drop (add-one bound i) ((name, items) ∷ s.bound); given = s.given })

module _ (a : Around) (reply : Replies) (c : Context) where
  -- a `for` with no item left
  pub for-ended : (turns : ForTurns) (s : Scoped) → turns.left ≡ [] → Goes a reply (for_left a reply turns (values_of turns.found) c (variables_of s)) c s c s (next.Value turns.found)
  for-ended turns s is = record {
    meaning = ap (λ (xs : List Item). chain (with_item turns.name.now (for_in (bindings_of (denotes a reply) turns.rest.now) (denotes a reply turns.body.now)) c (variables_of s)) with_all (reverse (values_of xs)) (values_of turns.found)) (sym is);
    context = refl;
    scope = refl;
  }

  -- its next item, where the turns in the box are those without it
  pub for-taken : (turns : ForTurns) (left : List Item) (x : Item) (items : List Item) (s bound : Scoped) (second third : ForTurns) (b : Box ForTurns Global)
      → second ≡ record turns { left = left } → third ≡ record turns { left = left } → b.value ≡ record turns { left = left }
      → turns.left ≡ left ++ x ∷ [] → values_of items ≡ value_of_item x ∷ [] → bound ≡ with_variable turns.name.now (values_of items) s
      → Goes a reply (for_left a reply turns (values_of turns.found) c (variables_of s)) c bound c s (next.Within (task.For second.rest third.body) (frame.For b))
  for-taken turns left x items s bound second third b is_second is_third holds is one at =
      let k = with_variable turns.name.now (value_of_item x ∷ []) s in
      subst (λ (t : Scoped). Goes a reply (for_left a reply turns (values_of turns.found) c (variables_of s)) c t c s (next.Within (task.For second.rest third.body) (frame.For b)))
      (sym (at ∙ ap (λ (vs : List ItemValue). with_variable turns.name.now vs s) one))
      (record {
        meaning = ap (λ (t : ForTurns). for_in (bindings_of (denotes a reply) t.rest.now) (denotes a reply third.body.now) c (variables_of k) >>= λ value. for_left a reply b.value (values_of b.value.found ++ value) c (variables_of (without 1 k))) is_second
            ∙ ap (λ (t : ForTurns). for_in (bindings_of (denotes a reply) turns.rest.now) (denotes a reply t.body.now) c (variables_of k) >>= λ value. for_left a reply b.value (values_of b.value.found ++ value) c (variables_of (without 1 k))) is_third
            ∙ ap (λ (t : ForTurns). for_in (bindings_of (denotes a reply) turns.rest.now) (denotes a reply turns.body.now) c (variables_of k) >>= λ value. for_left a reply t (values_of t.found ++ value) c (variables_of (without 1 k))) holds
            ∙ for-next turns.name.now (for_in (bindings_of (denotes a reply) turns.rest.now) (denotes a reply turns.body.now)) c (variables_of s) turns.left left x (values_of turns.found) is;
        context = refl;
        scope = refl;
      })

  -- its first item
  pub for-begins : (turns : ForTurns) (items : List Item) (v : Variables) → values_of turns.left ≡ reverse (values_of items) → turns.found ≡ []
      → for_left a reply turns (values_of turns.found) c v ≡ chain (with_item turns.name.now (for_in (bindings_of (denotes a reply) turns.rest.now) (denotes a reply turns.body.now)) c v) with_all (values_of items) []
  for-begins turns items v back none =
      ap (λ (xs : List Item). for_left a reply turns (values_of xs) c v) none
      ∙ ap (λ (xs : List ItemValue). chain (with_item turns.name.now (for_in (bindings_of (denotes a reply) turns.rest.now) (denotes a reply turns.body.now)) c v) with_all xs []) (ap reverse back ∙ reverse-reverse (values_of items))

  -- the item after one
  pub for-more : (turns : ForTurns) (found items : List Item) (v : Variables) → found ≡ turns.found ++ items
      → for_left a reply turns (values_of found) c v ≡ for_left a reply turns (values_of turns.found ++ values_of items) c v
  for-more turns found items v is = ap (λ (xs : List ItemValue). for_left a reply turns xs c v) (ap values_of is ∙ map-append value_of_item turns.found items)

  -- a `some` or `every` with no item left, whose truth is known
  pub quantified-ended : (turns : QuantifiedTurns) (v : Variables) → turns.left ≡ [] → give (one_boolean (not (decides turns.quantifier true))) ≡ quantified_left a reply turns c v
  quantified-ended turns v is =
      ap (λ (xs : List Item). decided turns.quantifier (with_item turns.name.now (quantified turns.quantifier (bindings_of (denotes a reply) turns.rest.now) (denotes a reply turns.test.now)) c v) (reverse (values_of xs))) (sym is)

  pub quantified-taken : (turns : QuantifiedTurns) (left : List Item) (x : Item) (items : List Item) (s bound : Scoped) (first second third : QuantifiedTurns) (b : Box QuantifiedTurns Global)
      → first ≡ record turns { left = left } → second ≡ record turns { left = left } → third ≡ record turns { left = left } → b.value ≡ record turns { left = left }
      → turns.left ≡ left ++ x ∷ [] → values_of items ≡ value_of_item x ∷ [] → bound ≡ with_variable turns.name.now (values_of items) s
      → Goes a reply (quantified_left a reply turns c (variables_of s)) c bound c s (next.Within (task.Quantified first.quantifier second.rest third.test) (frame.Quantified b))
  quantified-taken turns left x items s bound first second third b is_first is_second is_third holds is one at =
      let k = with_variable turns.name.now (value_of_item x ∷ []) s in
      let rest : QuantifiedTurns → Variables → List ItemValue → Means (List ItemValue) = λ t v value. judged (effective_boolean value) >>= λ truth. if decides t.quantifier truth then give (one_boolean truth) else quantified_left a reply t c v in
      subst (λ (t : Scoped). Goes a reply (quantified_left a reply turns c (variables_of s)) c t c s (next.Within (task.Quantified first.quantifier second.rest third.test) (frame.Quantified b)))
      (sym (at ∙ ap (λ (vs : List ItemValue). with_variable turns.name.now vs s) one))
      (record {
        meaning = ap (λ (t : QuantifiedTurns). quantified t.quantifier (bindings_of (denotes a reply) second.rest.now) (denotes a reply third.test.now) c (variables_of k) >>= rest b.value (variables_of (without 1 k))) is_first
            ∙ ap (λ (t : QuantifiedTurns). quantified turns.quantifier (bindings_of (denotes a reply) t.rest.now) (denotes a reply third.test.now) c (variables_of k) >>= rest b.value (variables_of (without 1 k))) is_second
            ∙ ap (λ (t : QuantifiedTurns). quantified turns.quantifier (bindings_of (denotes a reply) turns.rest.now) (denotes a reply t.test.now) c (variables_of k) >>= rest b.value (variables_of (without 1 k))) is_third
            ∙ ap (λ (t : QuantifiedTurns). quantified turns.quantifier (bindings_of (denotes a reply) turns.rest.now) (denotes a reply turns.test.now) c (variables_of k) >>= rest t (variables_of (without 1 k))) holds
            ∙ quantified-next turns.name.now (quantified turns.quantifier (bindings_of (denotes a reply) turns.rest.now) (denotes a reply turns.test.now)) c (variables_of s) turns.quantifier turns.left left x is;
        context = refl;
        scope = refl;
      })

  pub quantified-begins : (turns : QuantifiedTurns) (items : List Item) (v : Variables) → values_of turns.left ≡ reverse (values_of items)
      → quantified_left a reply turns c v ≡ decided turns.quantifier (with_item turns.name.now (quantified turns.quantifier (bindings_of (denotes a reply) turns.rest.now) (denotes a reply turns.test.now)) c v) (values_of items)
  quantified-begins turns items v back =
      ap (λ (xs : List ItemValue). decided turns.quantifier (with_item turns.name.now (quantified turns.quantifier (bindings_of (denotes a reply) turns.rest.now) (denotes a reply turns.test.now)) c v) xs) (ap reverse back ∙ reverse-reverse (values_of items))

  -- the body of a `let` whose variables are all bound
  pub let-body : (body : Expr) (bindings : List (List ℕ × Expr)) (v more : Variables) → bindings ≡ [] → more ≡ v
      → (denotes a reply body c more >>= λ value. give value) ≡ let_in (bindings_of (denotes a reply) bindings) (denotes a reply body) c v
  let-body body bindings v more is at =
      then-give (denotes a reply body c more) ∙ ap (λ (w : Variables). denotes a reply body c w) at
      ∙ ap (λ (bs : List (List ℕ × Expr)). let_in (bindings_of (denotes a reply) bs) (denotes a reply body) c v) (sym is)

  -- its next variable
  pub let-next : (body : Expr) (bindings rest : List (List ℕ × Expr)) (first : List ℕ × Expr) (v more : Variables) → bindings ≡ first ∷ rest → more ≡ v
      → (denotes a reply first.1 c more >>= λ items. let_in (bindings_of (denotes a reply) rest) (denotes a reply body) c ((first.0, items) ∷ more)) ≡ let_in (bindings_of (denotes a reply) bindings) (denotes a reply body) c v
  let-next body bindings rest first v more is at =
      ap (λ (w : Variables). denotes a reply first.1 c w >>= λ items. let_in (bindings_of (denotes a reply) rest) (denotes a reply body) c ((first.0, items) ∷ w)) at
      ∙ ap (λ (bs : List (List ℕ × Expr)). let_in (bindings_of (denotes a reply) bs) (denotes a reply body) c v) (sym is)

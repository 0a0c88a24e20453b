-- How the constructs go on whose parts have one item after the other as the context.
use Rattle.std.proofs.Common.{Bor, Box, Global, ◌≡◌, ℕ, ◌+◌, true, List, [], ◌∷◌, ◌++◌, map, length, reverse, Result, Ok, Err, refl, sym, ◌∙◌, ap, subst}
use Rattle.std.proofs.lemmas.List.{reverse-reverse, length-map}
use Rattle.pj_names.specs.declared.oracle.AskFault.TheVariants.{Failed, Memory}
use Rattle.pj_xexpressions.specs.declared.expr.Expr.{Expr}
use Rattle.pj_xvalue.specs.declared.fault.XCode.{XCode}
use Rattle.pj_xvalue.specs.declared.fault.XFault.{XFault}
use Rattle.pj_xvalue.specs.declared.fault.XFault.TheVariants.{Code, Ask}
use Rattle.pj_xvalue.specs.declared.item.Item.{Item}
use Rattle.pj_xvalue.specs.Items.{ItemValue, is_node, value_of_item, values_of}
use Rattle.pj_xvalue.specs.Replies.{outcome}
use Rattle.pj_xvalue.specs.Arguments.{IsGiven}
use Rattle.pj_xsteps.specs.Means.{judged, ◌>>=◌, chain}
use Rattle.pj_xsteps.specs.Context.{Around, Context, Variables, at}
use Rattle.pj_xsteps.specs.Turns.{numbered}
use Rattle.pj_xsteps.specs.Denotes.{denotes}
use Rattle.pj_xframes.specs.declared.frame.Turn.{Turn}
use Rattle.pj_xframes.specs.declared.frame.Turns.{Turns}
use Rattle.pj_xframes.specs.declared.frame.Task.TheVariants as task
use Rattle.pj_xframes.specs.declared.frame.Frame.TheVariants as frame
use Rattle.pj_xframes.specs.declared.frame.Next.TheVariants as next
use Rattle.pj_xframes.specs.Scopes.{Scoped, variables_of}
use Rattle.pj_xframes.specs.Frames.{Replies, evaluated, taken, may_turn, finished, over, turns_left, turns_after}
use Rattle.pj_xframes.specs.Going.{Goes, GoesIf}
use Rattle.pj_xeval.proofs.Steps.{over-cons}
use Rattle.pj_xeval.proofs.Turning.{turn-next}

module _ (a : Around) (reply : Replies) where
  -- no item is left
  pub turns-ended : (turns : Turns) (v : Variables) → turns.left ≡ [] → finished turns.what v (map (denotes a reply) turns.rest.now) (values_of turns.found) ≡ turns_left a reply turns (values_of turns.found) v
  turns-ended turns v is =
      ap (λ (xs : List Item). chain (evaluated turns.what (denotes a reply turns.part.now) turns.size v) (taken turns.what) (numbered (turns.position + 1) (reverse (values_of xs))) (values_of turns.found)
      >>= λ all. finished turns.what v (map (denotes a reply) turns.rest.now) all) (sym is)

  -- the next item's turn, where the turns in the box are those without it
  pub turns-taken : (turns : Turns) (left : List Item) (x : Item) (q : ℕ) (c : Context) (s : Scoped) (part : Bor Expr) (b : Box Turns Global) → b.value ≡ record turns { left = left; position = q } → part ≡ turns.part
      → turns.left ≡ left ++ x ∷ [] → q ≡ turns.position + 1 → c ≡ at (value_of_item x) q turns.size → may_turn turns.what (is_node (value_of_item x)) ≡ true
      → Goes a reply (turns_left a reply turns (values_of turns.found) (variables_of s)) c s turns.outer s (next.Within (task.Expression part) (frame.Turns b))
  turns-taken turns left x q c s part b holds its is at_q there may =
      subst (λ (d : Context). Goes a reply (turns_left a reply turns (values_of turns.found) (variables_of s)) d s turns.outer s (next.Within (task.Expression part) (frame.Turns b)))
      (sym there)
      (record {
        meaning = ap (λ (p : Bor Expr). denotes a reply p.now (at (value_of_item x) q turns.size) (variables_of s) >>= λ value. turns_after a reply b.value value (at (value_of_item x) q turns.size) (variables_of s)) its
            ∙ ap (λ (t : Turns). denotes a reply turns.part.now (at (value_of_item x) q turns.size) (variables_of s) >>= λ value. turns_after a reply t value (at (value_of_item x) q turns.size) (variables_of s)) holds
            ∙ turn-next turns.what (denotes a reply turns.part.now) turns.size (variables_of s) (λ all. finished turns.what (variables_of s) (map (denotes a reply) turns.rest.now) all) turns.left left x turns.position q (values_of turns.found) is at_q may;
        context = ap (λ (t : Turns). t.outer) holds;
        scope = refl;
      })

  -- what the value of a turn adds, before the next turn
  pub turn-added : (turns : Turns) (found value : List Item) (c : Context) (v : Variables) → Ok (values_of found) ≡ taken turns.what (turns.position, c.item) (values_of turns.found) (values_of value)
      → turns_left a reply (record turns { found = found }) (values_of found) v ≡ turns_after a reply turns (values_of value) c v
  turn-added turns found value c v is =
      ap (λ (m : Result (List ItemValue) XCode). (judged m >>= λ more. chain (evaluated turns.what (denotes a reply turns.part.now) turns.size v) (taken turns.what) (numbered (turns.position + 1) (reverse (values_of turns.left))) more)
      >>= λ all. finished turns.what v (map (denotes a reply) turns.rest.now) all) is

  -- a value that is an error
  pub turn-stops : (turns : Turns) (value : List ItemValue) (c : Context) (s : Scoped) (e : XFault) (r : Result (List Item) XFault) → r ≡ Err e → IsGiven (taken turns.what (turns.position, c.item) (values_of turns.found) value) (outcome values_of r)
      → (c' : Context) → GoesIf a reply (turns_after a reply turns value c (variables_of s)) c' s turns.outer s (Err e)
  turn-stops turns value c s (Code code) r is h = λ c'.
      ap (λ (m : Result (List ItemValue) XCode). (judged m >>= λ more. chain (evaluated turns.what (denotes a reply turns.part.now) turns.size (variables_of s)) (taken turns.what) (numbered (turns.position + 1) (reverse (values_of turns.left))) more)
      >>= λ all. finished turns.what (variables_of s) (map (denotes a reply) turns.rest.now) all)
      (subst (λ (q : Result (List Item) XFault). IsGiven (taken turns.what (turns.position, c.item) (values_of turns.found) value) (outcome values_of q)) is h)
  turn-stops turns value c s (Ask Memory) r is h = λ c'. tt
  turn-stops turns value c s (Ask Failed) r is h = λ c'. subst (λ (q : Result (List Item) XFault). IsGiven (taken turns.what (turns.position, c.item) (values_of turns.found) value) (outcome values_of q)) is h

  -- the first turn
  pub turns-begin : (what : Turn) (part : Expr) (rest : List Expr) (size : ℕ) (items left found : List Item) (v : Variables) → size ≡ length items → values_of left ≡ reverse (values_of items) → found ≡ []
      → (chain (evaluated what (denotes a reply part) size v) (taken what) (numbered (0 + 1) (reverse (values_of left))) (values_of found) >>= λ all. finished what v (map (denotes a reply) rest) all)
      ≡ over what v (denotes a reply part ∷ map (denotes a reply) rest) (values_of items)
  turns-begin what part rest size items left found v counted back none =
      ap (λ (xs : List Item). chain (evaluated what (denotes a reply part) size v) (taken what) (numbered 1 (reverse (values_of left))) (values_of xs) >>= λ all. finished what v (map (denotes a reply) rest) all) none
      ∙ ap (λ (xs : List ItemValue). chain (evaluated what (denotes a reply part) size v) (taken what) (numbered 1 xs) [] >>= λ all. finished what v (map (denotes a reply) rest) all) (ap reverse back ∙ reverse-reverse (values_of items))
      ∙ ap (λ (k : ℕ). chain (evaluated what (denotes a reply part) k v) (taken what) (numbered 1 (values_of items)) [] >>= λ all. finished what v (map (denotes a reply) rest) all) (counted ∙ sym (length-map items value_of_item))
      ∙ over-cons what v (denotes a reply part) (map (denotes a reply) rest) (values_of items)

-- The steps of a whole evaluation, with its stack of frames.
use Rattle.std.proofs.Common.{◌≡◌, List, [], ◌∷◌, ◌++◌, reverse, refl, sym, ◌∙◌, ap}
use Rattle.std.proofs.lemmas.List.{reverse-append}
use Rattle.pj_xvalue.specs.declared.fault.XCode.{XCode}
use Rattle.pj_xvalue.specs.declared.item.Item.{Item}
use Rattle.pj_xvalue.specs.Items.{ItemValue, values_of}
use Rattle.pj_xsteps.specs.Means.{Means, give, fail, ◌>>=◌}
use Rattle.pj_xsteps.specs.Context.{Around, Context}
use Rattle.pj_xsteps.proofs.SequenceLaws.{then-assoc}
use Rattle.pj_xframes.specs.declared.frame.Task.{Task}
use Rattle.pj_xframes.specs.declared.frame.Frame.{Frame}
use Rattle.pj_xframes.specs.declared.frame.Next.{Next}
use Rattle.pj_xframes.specs.declared.frame.Next.TheVariants as next
use Rattle.pj_xframes.specs.Scopes.{Scoped, variables_of}
use Rattle.pj_xframes.specs.Frames.{Replies, task_meaning, reacted, context_left, scope_left}
use Rattle.pj_xframes.specs.Going.{Goes}
use Rattle.pj_xeval.specs.Whole.{resumed, state_meaning}

module _ (a : Around) (reply : Replies) where
  pub resumed-nil : (c : Context) (s : Scoped) (value : List ItemValue) → resumed a reply [] c s value ≡ give value
  unfolding resumed
  resumed-nil c s value = refl

  pub resumed-cons : (top : Frame) (frames : List Frame) (c : Context) (s : Scoped) (value : List ItemValue)
      → resumed a reply (top ∷ frames) c s value ≡ (reacted a reply top c s value >>= λ more. resumed a reply frames (context_left top c) (scope_left top s) more)
  unfolding resumed
  resumed-cons top frames c s value = refl

  -- what goes on with a construct goes on with the whole
  pub goes-on : (meant : Means (List ItemValue)) (frames : List Frame) (c : Context) (s : Scoped) (c_left : Context) (s_left : Scoped) (going : Next)
      → Goes a reply meant c s c_left s_left going → state_meaning a reply going frames c s ≡ (meant >>= λ value. resumed a reply (reverse frames) c_left s_left value)
  goes-on meant frames c s c_left s_left going h = λ i. h.meaning i >>= λ value. resumed a reply (reverse frames) (h.context i) (h.scope i) value

  top_first : (top : Frame) (frames old : List Frame) → old ≡ frames ++ top ∷ [] → reverse old ≡ top ∷ reverse frames
  top_first top frames old is = ap reverse is ∙ reverse-append frames (top ∷ [])

  -- the top frame with its value
  pub value-resumed : (top : Frame) (frames old : List Frame) (c : Context) (s : Scoped) (items : List Item) → old ≡ frames ++ top ∷ []
      → state_meaning a reply (next.Value items) old c s ≡ (reacted a reply top c s (values_of items) >>= λ more. resumed a reply (reverse frames) (context_left top c) (scope_left top s) more)
  value-resumed top frames old c s items is = ap (λ all. resumed a reply all c s (values_of items)) (top_first top frames old is) ∙ resumed-cons top (reverse frames) c s (values_of items)

  pub value-goes : (top : Frame) (frames old : List Frame) (c : Context) (s : Scoped) (items : List Item) (c' : Context) (s' : Scoped) (going : Next) → old ≡ frames ++ top ∷ []
      → Goes a reply (reacted a reply top c s (values_of items)) c' s' (context_left top c) (scope_left top s) going → state_meaning a reply going frames c' s' ≡ state_meaning a reply (next.Value items) old c s
  value-goes top frames old c s items c' s' going is h =
      goes-on (reacted a reply top c s (values_of items)) frames c' s' (context_left top c) (scope_left top s) going h ∙ sym (value-resumed top frames old c s items is)

  pub value-fails : (top : Frame) (frames old : List Frame) (c : Context) (s : Scoped) (items : List Item) (code : XCode) → old ≡ frames ++ top ∷ []
      → fail code ≡ reacted a reply top c s (values_of items) → fail code ≡ state_meaning a reply (next.Value items) old c s
  value-fails top frames old c s items code is h =
      ap (λ (m : Means (List ItemValue)). m >>= λ more. resumed a reply (reverse frames) (context_left top c) (scope_left top s) more) h ∙ sym (value-resumed top frames old c s items is)

  -- a task whose value goes to a new top frame
  pub within-resumed : (task : Task) (top : Frame) (frames new : List Frame) (c : Context) (s : Scoped) → new ≡ frames ++ top ∷ []
      → (task_meaning a reply task c (variables_of s) >>= λ value. resumed a reply (reverse new) c s value) ≡ state_meaning a reply (next.Within task top) frames c s
  within-resumed task top frames new c s is =
      (λ i. task_meaning a reply task c (variables_of s) >>= λ value. (ap (λ all. resumed a reply all c s value) (top_first top frames new is) ∙ resumed-cons top (reverse frames) c s value) i)
      ∙ sym (then-assoc (task_meaning a reply task c (variables_of s)) (λ value. reacted a reply top c s value) (λ more. resumed a reply (reverse frames) (context_left top c) (scope_left top s) more))

  pub within-goes : (task : Task) (top : Frame) (frames new : List Frame) (c : Context) (s : Scoped) (going : Next) → new ≡ frames ++ top ∷ []
      → Goes a reply (task_meaning a reply task c (variables_of s)) c s c s going → state_meaning a reply going new c s ≡ state_meaning a reply (next.Within task top) frames c s
  within-goes task top frames new c s going is h = goes-on (task_meaning a reply task c (variables_of s)) new c s c s going h ∙ within-resumed task top frames new c s is

  pub within-fails : (task : Task) (top : Frame) (frames new : List Frame) (c : Context) (s : Scoped) (code : XCode) → new ≡ frames ++ top ∷ []
      → fail code ≡ task_meaning a reply task c (variables_of s) → fail code ≡ state_meaning a reply (next.Within task top) frames c s
  within-fails task top frames new c s code is h =
      ap (λ (m : Means (List ItemValue)). m >>= λ value. resumed a reply (reverse new) c s value) h ∙ within-resumed task top frames new c s is

  -- a construct in the place of another
  pub same-goes : (meant : Means (List ItemValue)) (frames : List Frame) (c : Context) (s : Scoped) (c' : Context) (s' : Scoped) (going : Next)
      → Goes a reply meant c' s' c s going → state_meaning a reply going frames c' s' ≡ (meant >>= λ value. resumed a reply (reverse frames) c s value)
  same-goes meant frames c s c' s' going h = goes-on meant frames c' s' c s going h

  pub same-fails : (meant : Means (List ItemValue)) (frames : List Frame) (c : Context) (s : Scoped) (code : XCode)
      → fail code ≡ meant → fail code ≡ (meant >>= λ value. resumed a reply (reverse frames) c s value)
  same-fails meant frames c s code h = ap (λ (m : Means (List ItemValue)). m >>= λ value. resumed a reply (reverse frames) c s value) h

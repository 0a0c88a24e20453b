-- The steps of a whole evaluation, as they come to a code, want memory, or go on.
use Rattle.std.proofs.Common.{◌≡◌, List, [], ◌∷◌, ◌++◌, reverse, Err, sym, ◌∙◌, ap}
use Rattle.pj_names.specs.declared.oracle.AskFault.TheVariants.{Failed, Memory}
use Rattle.pj_xvalue.specs.declared.fault.XCode.{XCode}
use Rattle.pj_xvalue.specs.declared.fault.XFault.{XFault}
use Rattle.pj_xvalue.specs.declared.fault.XFault.TheVariants.{Code, Ask}
use Rattle.pj_xvalue.specs.declared.item.Item.{Item}
use Rattle.pj_xvalue.specs.Items.{ItemValue, values_of}
use Rattle.pj_xsteps.specs.Means.{Means, give, fail, ◌>>=◌}
use Rattle.pj_xsteps.specs.Context.{Around, Context}
use Rattle.pj_xframes.specs.declared.frame.Task.{Task}
use Rattle.pj_xframes.specs.declared.frame.Frame.{Frame}
use Rattle.pj_xframes.specs.declared.frame.Next.TheVariants as next
use Rattle.pj_xframes.specs.Scopes.{Scoped, variables_of}
use Rattle.pj_xframes.specs.Frames.{Replies, task_meaning, reacted}
use Rattle.pj_xframes.specs.Going.{GoesIf}
use Rattle.pj_xeval.specs.Whole.{resumed, ComesIf, state_meaning}
use Rattle.pj_xeval.proofs.Whole.{resumed-nil, value-fails, within-fails, same-fails}

-- what is no value, whatever a value would come to
pub stops-alike : {A B : Type 0} (there : A → Means (List ItemValue)) (here : B → Means (List ItemValue)) (m n : Means (List ItemValue)) (e : XFault) → m ≡ n → ComesIf there m (Err e) → ComesIf here n (Err e)
stops-alike there here m n (Code code) is h = h ∙ is
stops-alike there here m n (Ask Memory) is h = tt
stops-alike there here m n (Ask Failed) is h = h

module _ (a : Around) (reply : Replies) where
  pub stops-as : {A : Type 0} (there : A → Means (List ItemValue)) (meant whole : Means (List ItemValue)) (c c' : Context) (s s' : Scoped) (e : XFault)
      → ((code : XCode) → fail code ≡ meant → fail code ≡ whole) → GoesIf a reply meant c s c' s' (Err e) → ComesIf there whole (Err e)
  stops-as there meant whole c c' s s' (Code code) k h = k code h
  stops-as there meant whole c c' s s' (Ask Memory) k h = tt
  stops-as there meant whole c c' s s' (Ask Failed) k h = h

  pub value-stops : {A : Type 0} (there : A → Means (List ItemValue)) (top : Frame) (frames old : List Frame) (c : Context) (s : Scoped) (items : List Item) (c' c_left : Context) (s' s_left : Scoped) (e : XFault) → old ≡ frames ++ top ∷ []
      → GoesIf a reply (reacted a reply top c s (values_of items)) c' s' c_left s_left (Err e) → ComesIf there (state_meaning a reply (next.Value items) old c s) (Err e)
  value-stops there top frames old c s items c' c_left s' s_left e is h =
      stops-as there (reacted a reply top c s (values_of items)) (state_meaning a reply (next.Value items) old c s) c' c_left s' s_left e (λ code k. value-fails a reply top frames old c s items code is k) h

  pub within-stops : {A : Type 0} (there : A → Means (List ItemValue)) (task : Task) (top : Frame) (frames new : List Frame) (c : Context) (s : Scoped) (e : XFault) → new ≡ frames ++ top ∷ []
      → GoesIf a reply (task_meaning a reply task c (variables_of s)) c s c s (Err e) → ComesIf there (state_meaning a reply (next.Within task top) frames c s) (Err e)
  within-stops there task top frames new c s e is h =
      stops-as there (task_meaning a reply task c (variables_of s)) (state_meaning a reply (next.Within task top) frames c s) c c s s e (λ code k. within-fails a reply task top frames new c s code is k) h

  pub same-stops : {A : Type 0} (there : A → Means (List ItemValue)) (meant : Means (List ItemValue)) (frames : List Frame) (c c' : Context) (s s' : Scoped) (e : XFault)
      → GoesIf a reply meant c' s' c s (Err e) → ComesIf there (meant >>= λ value. resumed a reply (reverse frames) c s value) (Err e)
  same-stops there meant frames c c' s s' e h =
      stops-as there meant (meant >>= λ value. resumed a reply (reverse frames) c s value) c' c s' s e (λ code k. same-fails a reply meant frames c s code k) h

  -- the value of the whole
  pub value-done : (items : List Item) (frames : List Frame) (c : Context) (s : Scoped) → frames ≡ [] → give (values_of items) ≡ state_meaning a reply (next.Value items) frames c s
  value-done items frames c s is = sym (resumed-nil a reply c s (values_of items)) ∙ ap (λ (all : List Frame). resumed a reply (reverse all) c s (values_of items)) (sym is)

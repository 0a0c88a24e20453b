-- What the arms of a match promise, where the value is of one form.
use Rattle.std.proofs.Common.{◌≡◌, ℕ, ℤ, List, [], ◌∷◌, Option, Some, None, Result, Ok, sym, ◌∙◌, ap, subst}
use Rattle.pj_xexpressions.specs.declared.expr.Expr.{Expr}
use Rattle.pj_xvalue.specs.declared.fault.XFault.{XFault}
use Rattle.pj_xvalue.specs.Items.{ItemValue, Integer}
use Rattle.pj_xvalue.specs.OfTree.{OfTree}
use Rattle.pj_xvalue.proofs.OfTreeLaws.{of_tree-one}
use Rattle.pj_xsteps.specs.Arithmetic.{literal}
use Rattle.pj_xsteps.specs.Context.{Around, Context}
use Rattle.pj_xsteps.specs.Denotes.{denotes}
use Rattle.pj_xsteps.specs.Means.{Means}
use Rattle.pj_xframes.specs.declared.frame.Binder.{Binder}
use Rattle.pj_xframes.specs.declared.frame.Binding.{Binding}
use Rattle.pj_xframes.specs.declared.frame.Frame.{Frame}
use Rattle.pj_xframes.specs.declared.frame.Frame.TheVariants as frame
use Rattle.pj_xframes.specs.declared.frame.Next.{Next}
use Rattle.pj_xframes.specs.declared.frame.Task.{Task}
use Rattle.pj_xframes.specs.Frames.{Replies, context_left, reacted, scope_left, task_meaning}
use Rattle.pj_xframes.specs.Going.{FrameOfTree, GoesIf}
use Rattle.pj_xframes.specs.Scopes.{Scoped, variables_of}

-- a task of one form
pub goes-task : (a : Around) (reply : Replies) (c : Context) (s : Scoped) (result : Result Next XFault) (task form : Task) → task ≡ form
    → GoesIf a reply (task_meaning a reply form c (variables_of s)) c s c s result → GoesIf a reply (task_meaning a reply task c (variables_of s)) c s c s result
goes-task a reply c s result task form is h = subst (λ (t : Task). GoesIf a reply (task_meaning a reply t c (variables_of s)) c s c s result) (sym is) h

-- an expression of one form, which means what the form denotes
pub goes-form : (a : Around) (reply : Replies) (c : Context) (s : Scoped) (result : Result Next XFault) (e form : Expr) (m : Means (List ItemValue)) → e ≡ form → m ≡ denotes a reply form c (variables_of s)
    → GoesIf a reply m c s c s result → GoesIf a reply (denotes a reply e c (variables_of s)) c s c s result
goes-form a reply c s result e form m is means h = subst (λ (meant : Means (List ItemValue)). GoesIf a reply meant c s c s result) (means ∙ ap (λ (x : Expr). denotes a reply x c (variables_of s)) (sym is)) h

-- a frame of one form
pub goes-frame : (a : Around) (reply : Replies) (top form : Frame) (c : Context) (s : Scoped) (value : List ItemValue) (c_new : Context) (s_new : Scoped) (result : Result Next XFault) → top ≡ form
    → GoesIf a reply (reacted a reply form c s value) c_new s_new (context_left form c) (scope_left form s) result
    → GoesIf a reply (reacted a reply top c s value) c_new s_new (context_left top c) (scope_left top s) result
goes-frame a reply top form c s value c_new s_new result is h = subst (λ (f : Frame). GoesIf a reply (reacted a reply f c s value) c_new s_new (context_left f c) (scope_left f s) result) (sym is) h

pub frame-is : (n : ℕ) (top form : Frame) → top ≡ form → FrameOfTree n top → FrameOfTree n form
frame-is n top form is h = subst (λ (f : Frame). FrameOfTree n f) is h

-- the variable of one construct
pub goes-source : (a : Around) (reply : Replies) (b like : Binding) (binder : Binder) (c : Context) (s s_new : Scoped) (value : List ItemValue) (result : Result Next XFault) → b ≡ like
    → GoesIf a reply (reacted a reply (frame.Source like binder) c s value) c s_new c (scope_left (frame.Source like binder) s) result
    → GoesIf a reply (reacted a reply (frame.Source b binder) c s value) c s_new c (scope_left (frame.Source b binder) s) result
goes-source a reply b like binder c s s_new value result is h = subst (λ (x : Binding). GoesIf a reply (reacted a reply (frame.Source x binder) c s value) c s_new c (scope_left (frame.Source x binder) s) result) (sym is) h

-- a literal is of every tree
pub literal-of_tree : (n : ℕ) (value : Option ℤ) (items : List ItemValue) → Ok items ≡ literal value → OfTree n items
literal-of_tree n (Some z) items is =
    let same : items ≡ Integer z ∷ [] = cc in
    subst (λ (xs : List ItemValue). OfTree n xs) (sym same) (of_tree-one n (Integer z) tt)
literal-of_tree n None items is = absurd (cc)

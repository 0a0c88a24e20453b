-- The steps of a whole evaluation, with its stack of frames. This serves private clauses.
use Rattle.std.specs.Prelude.{◌≡◌, ℕ, List, [], ◌∷◌, map, reverse, Result, Ok, Err}
use Rattle.std.specs.List.{All}
use Rattle.pj_names.specs.declared.oracle.AskFault.TheVariants.{Failed, Memory}
use Rattle.pj_xvalue.specs.declared.fault.XFault.{XFault}
use Rattle.pj_xvalue.specs.declared.fault.XFault.TheVariants.{Code, Ask}
use Rattle.pj_xvalue.specs.Items.{ItemValue, values_of}
use Rattle.pj_xvalue.specs.OfTree.{OfTree}
use Rattle.pj_xsteps.specs.Means.{Means, give, fail, ◌>>=◌}
use Rattle.pj_xsteps.specs.Calls.{node_in}
use Rattle.pj_xsteps.specs.Context.{Around, Context}
use Rattle.pj_xframes.specs.declared.frame.Frame.{Frame}
use Rattle.pj_xframes.specs.declared.frame.Next.{Next}
use Rattle.pj_xframes.specs.Scopes.{Scoped}
use Rattle.pj_xframes.specs.Frames.{Replies, next_meaning, reacted, context_after, context_left, scope_after, scope_left}
use Rattle.pj_xframes.specs.Going.{CallOfTree, FrameOfTree, NextOfTree}
use Rattle.pj_xeval.specs.declared.machine.Pause.{Pause}
use Rattle.pj_xeval.specs.declared.machine.Pause.TheVariants as pause
use Rattle.pj_xeval.specs.declared.machine.Stepped.{Stepped}
use Rattle.pj_xeval.specs.declared.machine.Stepped.TheVariants as stepped

module _ (a : Around) (reply : Replies) where
  -- what a stack of frames, the top one first, comes to with the value that the top one waits for
  unfoldable pub resumed : List Frame → Context → Scoped → List ItemValue → Means (List ItemValue)
  resumed [] c s value = give value
  resumed (top ∷ frames) c s value = reacted a reply top c s value >>= λ more. resumed frames (context_left top c) (scope_left top s) more

-- ---- the stack of frames, the top one last

-- what the whole comes to from here on
abbrev pub state_meaning : Around → Replies → Next → List Frame → Context → Scoped → Means (List ItemValue)
state_meaning a reply going frames c s = next_meaning a reply going c s >>= λ value. resumed a reply (reverse frames) (context_after going c) (scope_after going s) value

abbrev pub pause_meaning : Around → Replies → Pause → List Frame → Context → Scoped → Means (List ItemValue)
pause_meaning a reply (pause.Done items) frames c s = give (values_of items)
pause_meaning a reply (pause.Reply function arguments) frames c s = reply function (node_in c.item) (map values_of arguments) >>= λ value. resumed a reply (reverse frames) c s value

abbrev pub stepped_meaning : Around → Replies → Stepped → List Frame → Context → Scoped → Means (List ItemValue)
stepped_meaning a reply (stepped.Going going) frames c s = state_meaning a reply going frames c s
stepped_meaning a reply (stepped.Paused pause) frames c s = pause_meaning a reply pause frames c s

-- a whole that means this comes to it from what a step gave on, or the step came to the code or wanted memory
abbrev pub ComesIf : {A : Type 0} → (A → Means (List ItemValue)) → Means (List ItemValue) → Result A XFault → Type 0
ComesIf from_here meant (Ok there) = from_here there ≡ meant
ComesIf from_here meant (Err (Code code)) = fail code ≡ meant
ComesIf from_here meant (Err (Ask Memory)) = Unit {0}
ComesIf from_here meant (Err (Ask Failed)) = ⊥

-- ---- that all is of the tree

-- all frames of a stack
pub record FramesOfTree (nodes : ℕ) (frames : List Frame) : Type 0 where
  pub each : All (FrameOfTree nodes) frames

abbrev pub PauseOfTree : ℕ → Pause → Type 0
PauseOfTree nodes (pause.Done items) = OfTree nodes (values_of items)
PauseOfTree nodes (pause.Reply function arguments) = CallOfTree nodes function arguments

abbrev pub SteppedOfTree : ℕ → Stepped → Type 0
SteppedOfTree nodes (stepped.Going going) = NextOfTree nodes going
SteppedOfTree nodes (stepped.Paused pause) = PauseOfTree nodes pause

-- What a construct promises of how it goes on.
use Rattle.std.specs.Prelude.{◌≡◌, ℕ, IsTrue, length, List, map, Result, Ok, Err}
use Rattle.pj_names.specs.declared.oracle.AskFault.TheVariants.{Failed, Memory}
use Rattle.pj_xvalue.specs.declared.fault.XFault.{XFault}
use Rattle.pj_xvalue.specs.declared.fault.XFault.TheVariants.{Code, Ask}
use Rattle.pj_xvalue.specs.Items.{ItemValue, values_of, IsOfTree}
use Rattle.pj_xexpressions.specs.Functions.{pmd_takes}
use Rattle.pj_xvalue.specs.declared.item.Item.{Item}
use Rattle.pj_xexpressions.specs.declared.pmd_function.PmdFunction.{PmdFunction}
use Rattle.pj_xvalue.specs.OfTree.{OfTree, ArgumentsOfTree}
use Rattle.pj_xsteps.specs.Means.{Means, fail}
use Rattle.pj_xsteps.specs.Context.{Around, Context}
use Rattle.pj_xframes.specs.declared.frame.Turns.{Turns}
use Rattle.pj_xframes.specs.declared.frame.ForTurns.{ForTurns}
use Rattle.pj_xframes.specs.declared.frame.Frame.{Frame}
use Rattle.pj_xframes.specs.declared.frame.Frame.TheVariants as frame
use Rattle.pj_xframes.specs.declared.frame.Next.{Next}
use Rattle.pj_xframes.specs.declared.frame.Next.TheVariants as next
use Rattle.pj_xframes.specs.Scopes.{Scoped}
use Rattle.pj_xframes.specs.Frames.{Replies, next_meaning, context_after, scope_after}

-- A construct that means this comes to it from here on, where the context and the variables are c and s; it leaves the
-- context and the variables that are named last.
pub record Goes (a : Around) (reply : Replies) (meant : Means (List ItemValue)) (c : Context) (s : Scoped) (c_left : Context) (s_left : Scoped) (going : Next) : Type 0 where
  pub meaning : next_meaning a reply going c s ≡ meant
  pub context : context_after going c ≡ c_left
  pub scope : scope_after going s ≡ s_left

-- the same of a step that may come to a code or want memory, and asks for no class
abbrev pub GoesIf : Around → Replies → Means (List ItemValue) → Context → Scoped → Context → Scoped → Result Next XFault → Type 0
GoesIf a reply meant c s c_left s_left (Ok going) = Goes a reply meant c s c_left s_left going
GoesIf a reply meant c s c_left s_left (Err (Code code)) = fail code ≡ meant
GoesIf a reply meant c s c_left s_left (Err (Ask Memory)) = Unit {0}
GoesIf a reply meant c s c_left s_left (Err (Ask Failed)) = ⊥

-- ---- that all is of the tree

-- the items that are still to come in turn, those found, and the context item around
pub record TurnsOfTree (nodes : ℕ) (turns : Turns) : Type 0 where
  pub left : OfTree nodes (values_of turns.left)
  pub found : OfTree nodes (values_of turns.found)
  pub outer : IsOfTree nodes turns.outer.item

pub record ForTurnsOfTree (nodes : ℕ) (turns : ForTurns) : Type 0 where
  pub left : OfTree nodes (values_of turns.left)
  pub found : OfTree nodes (values_of turns.found)

abbrev pub FrameOfTree : ℕ → Frame → Type 0
FrameOfTree nodes (frame.Items found rest) = OfTree nodes (values_of found)
FrameOfTree nodes (frame.Nodes found rest) = OfTree nodes (values_of found)
FrameOfTree nodes (frame.Arguments function arguments rest) = ArgumentsOfTree nodes (map values_of arguments)
FrameOfTree nodes (frame.PmdArguments function arguments rest) = ArgumentsOfTree nodes (map values_of arguments)
FrameOfTree nodes (frame.Set found operator rest) = OfTree nodes (values_of found)
FrameOfTree nodes (frame.Right op left) = OfTree nodes (values_of left)
FrameOfTree nodes (frame.Turns turns) = TurnsOfTree nodes turns.value
FrameOfTree nodes (frame.For turns) = ForTurnsOfTree nodes turns.value
FrameOfTree nodes (frame.Quantified turns) = OfTree nodes (values_of turns.value.left)
FrameOfTree nodes _ = Unit {0}

-- a call that may be made
pub record CallOfTree (nodes : ℕ) (function : PmdFunction) (arguments : List (List Item)) : Type 0 where
  pub each : ArgumentsOfTree nodes (map values_of arguments)
  pub counted : IsTrue (pmd_takes function (length arguments))

abbrev pub NextOfTree : ℕ → Next → Type 0
NextOfTree nodes (next.Value items) = OfTree nodes (values_of items)
NextOfTree nodes (next.Within task frame) = FrameOfTree nodes frame
NextOfTree nodes (next.Over what parts items) = OfTree nodes (values_of items)
NextOfTree nodes (next.Reply function arguments) = CallOfTree nodes function arguments
NextOfTree nodes (next.Instead task) = Unit {0}

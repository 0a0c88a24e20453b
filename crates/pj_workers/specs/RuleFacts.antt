-- What laws say of a rule in a file that has a tree: by a world of classes, where recursions go at most so deep.
use Rattle.std.specs.Prelude.{◌≡◌, ◌⊎◌, ℕ, false, List, [], ◌∷◌, Option, Some, None, Result, Ok, Err, IsOk, ⊤}
use Rattle.pj_findings.specs.Denoted.{denoted}
use Rattle.pj_names.specs.Asking.{value_of}
use Rattle.pj_parse.specs.JavaFile.{JavaFile}
use Rattle.pj_reports.specs.declared.rows.Reason.{Reason}
use Rattle.pj_tree.specs.declared.node.Node.{Node}
use Rattle.pj_xexpressions.specs.declared.expr.Expr.{Expr}
use Rattle.pj_xsteps.specs.Context.{at}
use Rattle.pj_xvalue.specs.Boolean.{effective_boolean}
use Rattle.pj_xvalue.specs.Items.{ItemValue, Element}
use Rattle.pj_xvalue.specs.declared.fault.XCode.{XCode}
use Rattle.pj_workers.specs.Cold.{World}
use Rattle.pj_workers.specs.Reasons.{plain_reason_of}
use Rattle.pj_xlaws.specs.Laws.{Reply}
use Rattle.pj_workers.specs.RuleMeaning.{extent_at, items, reason_at, value_of as denoted_by}
use Rattle.pj_workers.specs.Rules.{Rule}

module _ (depth : ℕ) (world : World) (reply : Reply) (file : JavaFile) (rule : Rule) where
  -- what the query denotes, or its code
  abbrev pub items_in : Result (List ItemValue) XCode
  items_in = value_of depth world (items reply file rule)

  -- what an expression of the rule denotes with a node as its context item, or its code
  abbrev pub value_at : Expr → Node → Result (List ItemValue) XCode
  value_at expr n = value_of depth world (denoted_by reply file rule expr (at (Element n) 1 1))

  -- the first reason that covers a finding at a node, if there is one, or the code of the rule's XPath
  abbrev pub reason_in : Node → Result (Option Reason) XCode
  reason_in n = value_of depth world (reason_at reply file rule n)

  -- ---- codes

  -- This is the code of the first of the nodes whose reason is a code.
  abbrev pub IsFirstOfReasons : List Node → XCode → Type 0
  IsFirstOfReasons [] code = ⊥
  IsFirstOfReasons (n ∷ ns) code = (reason_in n ≡ Err code) ⊎ (IsOk (reason_in n) × IsFirstOfReasons ns code)

  -- This is the first code of the rule: the query's; or that of its items, where one of them is no node of the tree; or that of a
  -- reason, at the first of the nodes whose reason is a code.
  abbrev pub IsFirstCode : XCode → Type 0
  IsFirstCode code = (items_in ≡ Err code)
      ⊎ (((values : List ItemValue) × (items_in ≡ Ok values) × (denoted values ≡ Err code))
      ⊎ ((values : List ItemValue) × (nodes : List Node) × (items_in ≡ Ok values) × (denoted values ≡ Ok nodes) × IsFirstOfReasons nodes code))

  -- ---- suppressions

  -- There is no such expression, or what it denotes at the node has the effective boolean value false.
  abbrev pub IsFalseAt : Option Expr → Node → Type 0
  IsFalseAt None n = ⊤
  IsFalseAt (Some expr) n = (values : List ItemValue) × (value_at expr n ≡ Ok values) × (effective_boolean values ≡ Ok false)

  -- Nothing covers a finding at the node: no annotation, no comment, no regular expression, and no XPath of the rule.
  pub record IsUncovered (n : Node) : Type 0 where
    pub plain : plain_reason_of file rule n (extent_at reply file rule n) ≡ None
    pub xpath : IsFalseAt rule.suppression n

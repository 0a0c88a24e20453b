-- What a rule means in a Java file: the nodes that its query denotes, each with the first reason that suppresses it, or a code.
--
-- The functions of PMD reply as is given: for a function, a context node and arguments a sequence or a code, with the classes asked.
use Rattle.std.specs.Prelude.{List, [], ◌∷◌, Option, Some, None, Result, Ok, Err}
use Rattle.pj_findings.specs.Denoted.{denoted}
use Rattle.pj_findings.specs.Messages.{rule_message}
use Rattle.pj_findings.specs.Extents.{extent_of}
use Rattle.pj_reports.specs.declared.ruled.Spot.{Spot}
use Rattle.pj_reports.specs.declared.ruled.Ruled.{Ruled}
use Rattle.pj_reports.specs.declared.ruled.Ruled.TheVariants.{Spots, Message}
use Rattle.pj_findings.specs.declared.extent.Extent.{Extent}
use Rattle.pj_names.specs.Asking.{Asking, Return, bind}
use Rattle.pj_parse.specs.JavaFile.{JavaFile}
use Rattle.pj_reports.specs.declared.rows.Reason.{Reason}
use Rattle.pj_rule_sets.specs.Expressions.{variables_of}
use Rattle.pj_tree.specs.declared.node.Node.{Node}
use Rattle.pj_xsteps.specs.Context.{Context, at}
use Rattle.pj_xsteps.specs.Denotes.{denotes}
use Rattle.pj_xsteps.specs.Means.{Means, give, judged, ◌>>=◌}
use Rattle.pj_xvalue.specs.Boolean.{effective_boolean}
use Rattle.pj_xvalue.specs.Items.{ItemValue, Document, Element}
use Rattle.pj_xexpressions.specs.declared.expr.Expr.{Expr}
use Rattle.pj_xvalue.specs.declared.fault.XCode.{XCode}
use Rattle.pj_xlaws.specs.Laws.{Reply}
use Rattle.pj_workers.specs.FileFacts.{around_file, place_of}
use Rattle.pj_workers.specs.Reasons.{plain_reason_of, xpath_reason}
use Rattle.pj_workers.specs.Rules.{Rule, patterns_of}

-- a finding at a node that stands there
abbrev pub found_of : Node → Extent → Option Reason → Spot
found_of n extent why = record { node = n.0; begin = extent.begin; end = extent.end; reason = why }

-- a code is the rule's one error in the file, and it has no findings there
abbrev pub result_of : Rule → Result (List Spot) XCode → Ruled
result_of rule (Ok found) = Spots found
result_of rule (Err code) = Message (rule_message rule.source.texts.row.name code)

module _ (reply : Reply) (file : JavaFile) (rule : Rule) where
  -- what an expression of the rule denotes in a context, with the rule's variables and patterns
  abbrev pub value_of : Expr → Context → Means (List ItemValue)
  value_of expr context = denotes (around_file file (patterns_of rule expr)) reply expr context (variables_of rule.source.texts)

  -- the query begins with the document
  abbrev pub items : Means (List ItemValue)
  items = value_of rule.query (at Document 1 1)

  -- whether an expression has the effective boolean value true with the finding's node as context
  abbrev pub covers : Expr → Node → Means (Option Reason)
  covers expr n = value_of expr (at (Element n) 1 1) >>= λ value. judged (effective_boolean value) >>= λ truth. give (xpath_reason truth)

  -- the rule's XPath is evaluated only where no reason before it covers the finding
  abbrev pub reason_after : Option Reason → Option Expr → Node → Means (Option Reason)
  reason_after (Some why) suppression n = give (Some why)
  reason_after None None n = give None
  reason_after None (Some expr) n = covers expr n

  abbrev pub extent_at : Node → Extent
  extent_at n = extent_of (place_of file) file.tree n

  abbrev pub reason_at : Node → Means (Option Reason)
  reason_at n = reason_after (plain_reason_of file rule n (extent_at n)) rule.suppression n

  -- The findings at nodes, in their order: reasons are sought up to the first code.
  abbrev pub found_at : List Node → Means (List Spot)
  found_at [] = give []
  found_at (n ∷ ns) = reason_at n >>= λ why. found_at ns >>= λ found. give (found_of n (extent_at n) why ∷ found)

  -- Reasons are sought once the whole query and its items gave no code.
  abbrev pub found : Means (List Spot)
  found = items >>= λ values. judged (denoted values) >>= λ nodes. found_at nodes

  -- what the rule comes to in the file
  abbrev pub rule_in_file : Asking Ruled
  rule_in_file = bind found (λ came_to. Return (result_of rule came_to))

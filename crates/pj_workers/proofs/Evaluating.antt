-- An expression of a rule, with the patterns that are known, and the steps of its code.
use Rattle.std.proofs.Common.{◌≡◌, Bool, List, Option, Result, Err, ap, refl}
use Rattle.pj_attrs.specs.FileFacts.{attribute_in, names_at}
use Rattle.pj_findings.specs.Denoted.{denoted}
use Rattle.pj_names.proofs.AskingLaws.{asks-refused, asks-return, asks-then}
use Rattle.pj_names.specs.Told.{Asks, Told}
use Rattle.pj_parse.specs.JavaFile.{JavaFile}
use Rattle.pj_reports.specs.declared.rows.Reason.{Reason}
use Rattle.pj_rule_sets.specs.Expressions.{HasPatterns, variables_of}
use Rattle.pj_rule_sets.specs.declared.spelled.Spelled.{Spelled}
use Rattle.pj_rule_sets.specs.Rules.{texts_of}
use Rattle.pj_tree.specs.Tree.{Tree}
use Rattle.pj_tree.specs.declared.node.Node.{Node}
use Rattle.pj_xsteps.specs.Context.{Context, Variables, around}
use Rattle.pj_xsteps.specs.Denotes.{denotes}
use Rattle.pj_xsteps.specs.Means.{Means, after, give, judged, ◌>>=◌}
use Rattle.pj_xpatterns.specs.Written.{patterns_in}
use Rattle.pj_xlaws.specs.TreeLaws.{DenotesByPatterns}
use Rattle.pj_xvalue.specs.Boolean.{effective_boolean}
use Rattle.pj_xvalue.specs.Items.{ItemValue}
use Rattle.pj_xvalue.specs.Replies.{outcome}
use Rattle.pj_xvalue.specs.declared.fault.XCode.{XCode}
use Rattle.pj_xvalue.specs.declared.fault.XFault.{XFault}
use Rattle.pj_xvalue.specs.declared.fault.XFault.TheVariants.{Ask, Code}
use Rattle.pj_workers.specs.Reasons.{xpath_reason}
use Rattle.pj_xlaws.specs.Laws.{Reply}
use Rattle.pj_workers.specs.RuleMeaning.{found_at, value_of}
use Rattle.pj_workers.specs.Rules.{Rule}
use Rattle.pj_workers.specs.Views.{file_seen, rule_seen}
use Rattle.pj_workers.specs.declared.view.RuleView.{RuleView}

-- with the tree that is at hand, the patterns that are known and the variables of the rule it denotes what it means in the file
pub value_known : DenotesByPatterns → (reply : Reply) (view : RuleView) (spelled : Spelled) (tree : Tree) (context : Context) (variables : Variables)
    → tree ≡ view.file.now.facts.now.file.tree → variables ≡ variables_of (texts_of view.rule.now) → HasPatterns (variables_of (texts_of view.rule.now)) spelled
    → denotes (around tree (attribute_in view.file.now.facts.now) (names_at view.file.now.facts.now) spelled.patterns) reply spelled.expr context variables
    ≡ value_of reply (file_seen view.file.now) (rule_seen view) spelled.expr context
value_known alike reply view spelled tree context variables is are has =
    let facts = view.file.now.facts.now in
    λ i. alike (is i) (attribute_in facts) (names_at facts) reply spelled.patterns (patterns_in (variables_of (texts_of view.rule.now)) spelled.expr) spelled.expr has i context (are i)

-- ---- steps of the code

-- a call that gave a code or was refused, in front of what follows
pub refused : {K A B X Y : Type 0} {t u : Told K} (m : Means A) (k : A → Means B) (v : X → A) (w : Y → B) (e : XFault) → Asks m t u (outcome v (Err e)) → Asks (m >>= k) t u (outcome w (Err e))
refused m k v w (Code code) h = asks-then (after k) h (asks-return refl)
refused m k v w (Ask fault) h = asks-refused (after k) h refl

-- whether a value covers a finding
abbrev pub covered : List ItemValue → Means (Option Reason)
covered value = judged (effective_boolean value) >>= λ truth. give (xpath_reason truth)

pub covered_by : (value : List ItemValue) (r : Result Bool XCode) → effective_boolean value ≡ r → covered value ≡ after (λ truth. give (xpath_reason truth)) r
covered_by value r is = ap (λ o. after (λ truth. give (xpath_reason truth)) o) is

-- the findings of the nodes that a query's items denote
pub nodes_by : (reply : Reply) (file : JavaFile) (rule : Rule) (values : List ItemValue) (r : Result (List Node) XCode) → denoted values ≡ r
    → (judged (denoted values) >>= λ ns. found_at reply file rule ns) ≡ after (λ ns. found_at reply file rule ns) r
nodes_by reply file rule values r is = ap (λ o. after (λ ns. found_at reply file rule ns) o) is

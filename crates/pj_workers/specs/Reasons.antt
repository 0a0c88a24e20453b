-- Why a finding is suppressed: the first reason that covers it, tried in the order annotation, comment, regular expression, XPath.
use Rattle.std.specs.Prelude.{Bool, Option, Some, None, if◌then◌else◌}
use Rattle.pj_findings.specs.Reasons.{plain_reason}
use Rattle.pj_findings.specs.declared.extent.Extent.{Extent}
use Rattle.pj_parse.specs.JavaFile.{JavaFile}
use Rattle.pj_reports.specs.declared.rows.Reason.{Reason}
use Rattle.pj_reports.specs.declared.rows.Reason.TheVariants as reason
use Rattle.pj_rule_sets.specs.Patterns.{is_covered}
use Rattle.pj_suppress.specs.Annotation.{by_annotation}
use Rattle.pj_tree.specs.declared.node.Node.{Node}
use Rattle.pj_workers.specs.FileFacts.{attribute_of}
use Rattle.pj_workers.specs.Marked.{is_marked}
use Rattle.pj_workers.specs.Rules.{Rule}

-- the first of the reasons that ask for nothing, at a node that stands there
abbrev pub plain_reason_of : JavaFile → Rule → Node → Extent → Option Reason
plain_reason_of file rule n extent =
    plain_reason (by_annotation file.tree (attribute_of file) rule.source.texts.row.name n) (is_marked file rule.source.marker extent.begin.line) (is_covered rule.source.texts)

-- where the rule's XPath is evaluated: whether it covers the finding
abbrev pub xpath_reason : Bool → Option Reason
xpath_reason covers = if covers then Some reason.XPath else None

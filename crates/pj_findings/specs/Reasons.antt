-- Why a finding is suppressed, as far as no expression has to be evaluated for it.
use Rattle.std.specs.Prelude.{Bool, Option, Some, None, if◌then◌else◌}
use Rattle.pj_reports.specs.declared.rows.Reason.{Reason}
use Rattle.pj_reports.specs.declared.rows.Reason.TheVariants.{Annotation, Comment, Regex}

-- the first reason that covers the finding, tried in this order: an annotation, a comment, the rule's regular expression
abbrev pub plain_reason : Bool → Bool → Bool → Option Reason
plain_reason by_annotation by_comment by_regex =
    if by_annotation then Some Annotation else (if by_comment then Some Comment else (if by_regex then Some Regex else None))

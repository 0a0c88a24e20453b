-- Which rows a file may have in format 1: those of a file without a tree, or those of rules in one with a tree.
use Rattle.std.specs.Prelude.{ℕ, Bool, true, false, not, ◌==◌, ◌&&◌, ◌||◌, List, [], ◌∷◌, length, nat_lt, Option, Some, None, if◌then◌else◌}
use Rattle.std.specs.List.{list_any}
use Rattle.pj_reports.specs.declared.rows.Finding.{Finding}
use Rattle.pj_reports.specs.declared.rows.FileError.{FileError}
use Rattle.pj_reports.specs.declared.rows.FileRows.{FileRows}
use Rattle.pj_cache_format.specs.FormatTwo.{has, with_places}

-- The message of a file without a tree.

abbrev pub without_rule : Option ℕ → List ℕ → Option (List ℕ)
without_rule None message = Some message
without_rule (Some rule) message = None

-- of one error without a rule
abbrev pub message_of : List FileError → Option (List ℕ)
message_of [] = None
message_of (e ∷ []) = without_rule e.rule e.message
message_of (e ∷ f ∷ more) = None

-- one error without a rule, no findings, and an empty package
abbrev pub lone_message : FileRows → Option (List ℕ)
lone_message r = if (length r.«package» == 0) && (length r.findings == 0) then message_of r.errors else None

-- The rows of rules.

-- whether a finding stands behind another one: by its node, and at one node by its rule
abbrev pub is_finding_behind : Option (ℕ × ℕ) → Finding → Bool
is_finding_behind None f = true
is_finding_behind (Some before) f = nat_lt before.0 f.node || (before.0 == f.node && nat_lt before.1 f.rule)

abbrev pub are_findings_from : Option (ℕ × ℕ) → List Finding → Bool
are_findings_from before [] = true
are_findings_from before (f ∷ fs) = is_finding_behind before f && are_findings_from (Some (f.node, f.rule)) fs

-- whether a rule stands behind another one
abbrev pub is_rule_behind : Option ℕ → Option ℕ → Bool
is_rule_behind before None = false
is_rule_behind None (Some rule) = true
is_rule_behind (Some before) (Some rule) = nat_lt before rule

-- errors of rules, by strictly ascending rule
abbrev pub are_errors_from : Option ℕ → List FileError → Bool
are_errors_from before [] = true
are_errors_from before (e ∷ es) = is_rule_behind before e.rule && are_errors_from e.rule es

-- the rules of errors, in their order, each once, with some more of them
abbrev pub with_error_rule : List ℕ → Option ℕ → List ℕ
with_error_rule held None = held
with_error_rule held (Some rule) = with_places held (rule ∷ [])

abbrev pub with_error_rules : List ℕ → List FileError → List ℕ
with_error_rules held [] = held
with_error_rules held (e ∷ es) = with_error_rules (with_error_rule held e.rule) es

-- whether a rule stands in both
abbrev pub some_in_both : FileRows → Bool
some_in_both r = list_any (λ (f : Finding). has (with_error_rules [] r.errors) f.rule) r.findings

-- findings by strictly ascending node and then rule, errors by strictly ascending rule, and no rule in both
abbrev pub are_of_rules : FileRows → Bool
are_of_rules r = are_findings_from None r.findings && (are_errors_from None r.errors && not (some_in_both r))

-- For private clauses: what the refusals of the crates below become.
use Rattle.std.specs.Prelude.{◌≡◌}
use Rattle.pj_rule_sets.specs.declared.fault.ExpressionFault.{ExpressionFault}
use Rattle.pj_rule_sets.specs.declared.fault.ExpressionFault.TheVariants.{XPath, Pattern, Memory}
use Rattle.pj_xparse.specs.declared.fault.XSyntax.{XSyntax}
use Rattle.pj_xparse.specs.declared.fault.XSyntax.TheVariants as syntax
use Rattle.pj_xpatterns.specs.declared.compiled.PatternFault.{PatternFault}
use Rattle.pj_xpatterns.specs.declared.compiled.PatternFault.TheVariants as patterns

abbrev pub of_pattern : PatternFault → ExpressionFault
of_pattern (patterns.Refused text) = Pattern
of_pattern patterns.Memory = Memory

abbrev pub OfPattern : PatternFault → ExpressionFault → Type 0
OfPattern fault given = given ≡ of_pattern fault

abbrev pub of_syntax : XSyntax → ExpressionFault
of_syntax syntax.Memory = Memory
of_syntax fault = XPath fault

abbrev pub OfSyntax : XSyntax → ExpressionFault → Type 0
OfSyntax fault given = given ≡ of_syntax fault

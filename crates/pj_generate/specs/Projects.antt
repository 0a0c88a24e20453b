-- A generated project of n classes.
use Rattle.std.specs.Prelude.{ℕ, map, codes, ◌++◌}
use Rattle.std.specs.List.{range_with_len}
use Rattle.pj_outside.specs.Files.{Bytes, Files}
use Rattle.pj_generate.specs.ClassFile.{small_class}
use Rattle.pj_generate.specs.Source.{class_path, internal_name, internal_super, source_path, source_text}

-- a source, with its path
abbrev pub source_row : ℕ → Bytes × Bytes
source_row i = (source_path i, source_text i)

-- a class file, with its path in a class folder
abbrev pub class_row : ℕ → Bytes × Bytes
class_row i = (class_path i, small_class (internal_name i) (internal_super i))

-- the sources, in the order of their numbers
abbrev pub sources : ℕ → Files
sources n = map source_row (range_with_len 0 n)

-- the class files of these classes, in the same order
abbrev pub classes : ℕ → Files
classes n = map class_row (range_with_len 0 n)

abbrev pub rule_head : Bytes
rule_head = codes " class=\"net.sourceforge.pmd.lang.rule.xpath.XPathRule\"><properties><property name=\"xpath\"><value>"

abbrev pub rule_end : Bytes
rule_end = codes "</value></property></properties></rule>\n"

-- the classes that are a gen.C2, and operators between operands
abbrev pub rules_text : Bytes
rules_text = codes "<ruleset name=\"generated\">\n<rule name=\"T\" language=\"java\" message=\"A class that is a C2\""
    ++ (rule_head ++ (codes "//ClassDeclaration[pmd-java:typeIs('gen.C2')]" ++ (rule_end
    ++ (codes "<rule name=\"I\" language=\"java\" message=\"An operator between operands\"" ++ (rule_head ++ (codes "//InfixExpression" ++ (rule_end ++ codes "</ruleset>\n")))))))

-- The message of a rule that could not be evaluated in a file.
use Rattle.std.specs.Prelude.{ℕ, List, ◌++◌, codes}
use Rattle.pj_xvalue.specs.declared.fault.XCode.{XCode}
use Rattle.pj_xvalue.specs.declared.fault.XCode.TheVariants as code

-- the code's name, as the standard writes it (XPath 2.0, appendix G)
abbrev pub code_name : XCode → List ℕ
code_name code.FORG0006 = codes "FORG0006"
code_name code.XPTY0004 = codes "XPTY0004"
code_name code.XPTY0018 = codes "XPTY0018"
code_name code.XPTY0019 = codes "XPTY0019"
code_name code.XPTY0020 = codes "XPTY0020"
code_name code.FOAR0001 = codes "FOAR0001"
code_name code.FOAR0002 = codes "FOAR0002"
code_name code.FOTY0012 = codes "FOTY0012"
code_name code.FORX0003 = codes "FORX0003"

-- the rule's name, a colon, a space and the code
abbrev pub rule_message : List ℕ → XCode → List ℕ
rule_message name code = name ++ (codes ": " ++ code_name code)

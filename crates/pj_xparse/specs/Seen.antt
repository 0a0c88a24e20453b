-- What a fault of the code says.
use Rattle.pj_xparse.specs.NameFaults as fault
use Rattle.pj_xparse.specs.NameFaults.{Fault}
use Rattle.pj_xparse.specs.declared.named.NameFault.{NameFault}
use Rattle.pj_xparse.specs.declared.named.NameFault.TheVariants as said

-- the fault that the code answers, whose name is a slice of the text
abbrev pub fault_of : NameFault → Fault
fault_of (said.Form from) = fault.Form from
fault_of (said.Function name from) = fault.Function name.now from
fault_of (said.Variable name from) = fault.Variable name.now from

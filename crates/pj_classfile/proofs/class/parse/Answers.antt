use Rattle.pj_format.proofs.Spelling.{read_means}
use Rattle.pj_classfile.specs.ClassFile.{class_file, class_structure}
use Rattle.pj_classfile.proofs.class.parse.Goals as goal

pub returns-in-Ok : goal.returns-in-Ok
unfolding class_file
returns-in-Ok c = read_means 10 class_structure c.args.bytes.now _ c.in-Ok.ensures

pub returns-in-Err-Fault : goal.returns-in-Err-Fault
unfolding class_file
returns-in-Err-Fault c =
    let e = rw c.in-Err-Fault.field-0-is at c.in-Err-Fault.ensures in read_means 10 class_structure c.args.bytes.now _ e

use Rattle.std.proofs.Common.{◌≡◌, rules}
use Rattle.pj_names.specs.JavaType.{java_type, type_list}
use Rattle.pj_names.proofs.Lists.{alike_at}
use Rattle.pj_names.proofs.ty.same_types.Goals as goal

pub returns-then-not-is : goal.returns-then-not-is
returns-then-not-is c =
    let same_members : type_list c.args.ours.now ≡ type_list c.args.theirs.now → java_type c.index-ours-i.result ≡ java_type c.index-theirs-i.result =
    λ same. alike_at java_type c.args.ours.now c.args.theirs.now c.loop-i.i c.index-ours-i.result c.index-theirs-i.result same (search rules) (search rules) (search rules) (search rules) in
    search rules

use Rattle.std.proofs.Common.{◌≡◌, ℕ, List, Option, None, Some, IsPermutation, ap, sym, ◌∙◌}
use Rattle.std.specs.Option.{option_map}
use Rattle.pj_tree.specs.Tree.{Tree}
use Rattle.pj_declared.specs.declared.imports.ImportSort.{ImportSort}
use Rattle.pj_declared.specs.declared.named.Named.{Named}
use Rattle.pj_declared.specs.declared.nearest.Declared.{Declared}
use Rattle.pj_declared.specs.Nearest.{meant_among, single_import}
use Rattle.pj_declared.specs.Imports.{imports_of}
use Rattle.pj_declared.proofs.Along.{meant_moved}
use Rattle.pj_declared.proofs.declarations.Declarations.single_import.Goals as goal

-- what is found among the rows in their order is what is meant among the imports of the file
found : (t u : Tree) (rows : List Named) (sort : ImportSort) (name : List ℕ) (r s : Option Declared) → r ≡ s → r ≡ meant_among u rows name (record { 0 = 0 }) → u ≡ t → IsPermutation (imports_of t sort) rows →
    option_map (λ (d : Declared). d.node) s ≡ single_import t sort name
found t u rows sort name r s same is of moved =
    ap (λ (x : Option Declared). option_map (λ (d : Declared). d.node) x)
    (sym same ∙ is ∙ ap (λ (v : Tree). meant_among v rows name (record { 0 = 0 })) of ∙ meant_moved t (imports_of t sort) rows name (record { 0 = 0 }) moved)

pub returns-in-Some : goal.returns-in-Some
returns-in-Some c = found c.args.self.now c.self.inside.tree.now c.imports.result.now c.args.sort c.args.name.now c.meant_among.result (Some c.in-Some.import) c.in-Some.is c.meant_among.ensures c.self.view_is c.imports.ensures.0

pub returns-in-None : goal.returns-in-None
returns-in-None c = found c.args.self.now c.self.inside.tree.now c.imports.result.now c.args.sort c.args.name.now c.meant_among.result None c.in-None.is c.meant_among.ensures c.self.view_is c.imports.ensures.0

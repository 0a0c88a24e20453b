use Rattle.std.proofs.Common.{◌∙◌, ap}
use Rattle.pj_tree.specs.Building.{Building, opened, closed}
use Rattle.pj_tree.specs.declared.kind.Kind.TheVariants.{CompilationUnit, ClassDeclaration, MethodDeclaration, VariableId, Block}
use Rattle.rows_evaluation.proofs.tree.write_nodes.Goals as goal

pub returns : goal.returns
returns c =
    let made = c.requires in
    let step_1 = c.in_ok-open.ensures.ok ∙ ap (λ (b : Building). opened b CompilationUnit 0) made in
    let step_2 = c.in_ok-open-2.ensures.ok ∙ ap (λ (b : Building). opened b ClassDeclaration 0) step_1 in
    let step_3 = c.in_ok-open-3.ensures.ok ∙ ap (λ (b : Building). opened b VariableId 0) step_2 in
    let step_4 = c.close.ensures.value ∙ ap (λ (b : Building). closed b 0) step_3 in
    let step_5 = c.in_ok-open-4.ensures.ok ∙ ap (λ (b : Building). opened b Block 0) step_4 in
    let step_6 = c.in_ok-open-5.ensures.ok ∙ ap (λ (b : Building). opened b VariableId 0) step_5 in
    let step_7 = c.close-2.ensures.value ∙ ap (λ (b : Building). closed b 0) step_6 in
    let step_8 = c.close-3.ensures.value ∙ ap (λ (b : Building). closed b 0) step_7 in
    let step_9 = c.close-4.ensures.value ∙ ap (λ (b : Building). closed b 0) step_8 in
    let step_10 = c.in_ok-open-6.ensures.ok ∙ ap (λ (b : Building). opened b ClassDeclaration 0) step_9 in
    let step_11 = c.in_ok-open-7.ensures.ok ∙ ap (λ (b : Building). opened b Block 0) step_10 in
    let step_12 = c.in_ok-open-8.ensures.ok ∙ ap (λ (b : Building). opened b VariableId 0) step_11 in
    let step_13 = c.close-5.ensures.value ∙ ap (λ (b : Building). closed b 0) step_12 in
    let step_14 = c.close-6.ensures.value ∙ ap (λ (b : Building). closed b 0) step_13 in
    let step_15 = c.in_ok-open-9.ensures.ok ∙ ap (λ (b : Building). opened b VariableId 0) step_14 in
    let step_16 = c.close-7.ensures.value ∙ ap (λ (b : Building). closed b 0) step_15 in
    let step_17 = c.in_ok-open-10.ensures.ok ∙ ap (λ (b : Building). opened b Block 0) step_16 in
    let step_18 = c.close-8.ensures.value ∙ ap (λ (b : Building). closed b 0) step_17 in
    let step_19 = c.close-9.ensures.value ∙ ap (λ (b : Building). closed b 0) step_18 in
    let step_20 = c.in_ok-open-11.ensures.ok ∙ ap (λ (b : Building). opened b MethodDeclaration 0) step_19 in
    let step_21 = c.in_ok-open-12.ensures.ok ∙ ap (λ (b : Building). opened b Block 0) step_20 in
    let step_22 = c.close-10.ensures.value ∙ ap (λ (b : Building). closed b 0) step_21 in
    let step_23 = c.close-11.ensures.value ∙ ap (λ (b : Building). closed b 0) step_22 in
    let step_24 = c.close-12.ensures.value ∙ ap (λ (b : Building). closed b 0) step_23 in
    step_24

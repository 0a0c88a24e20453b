-- There is one cold report at most.
use Rattle.std.proofs.Common.{◌≡◌, ◌∙◌, List, [], ◌∷◌, arith, max, refl, sym}
use Rattle.std.specs.List.{AllZip}
use Rattle.pj_names.specs.ClassName.{NameSet}
use Rattle.pj_names.specs.Meaning.{Gives, Means, Source}
use Rattle.pj_names.specs.Asking.{Asking}
use Rattle.pj_outside.specs.Files.{Bytes, Files}
use Rattle.pj_reports.specs.declared.report.Report.{Report}
use Rattle.pj_reports.specs.declared.rows.FileRows.{FileRows}
use Rattle.pj_names.specs.declared.rule_row.ConfigError.{ConfigError}
use Rattle.pj_workers.specs.Cold.{AreRowsOf, IsCold, World}
use Rattle.pj_workers.specs.FileMeaning.{Replies}
use Rattle.pj_workers.specs.Rules.{Rule}

one_value : {A : Type 0} (v w : A) (m n : NameSet) → Gives v m ≡ Gives w n → v ≡ w
one_value v w m n e = cc

one_outcome : {A : Type 0} (source : Source) (meaning : Asking A) (v w : A) (m n : NameSet) → Means source meaning (Gives v m) → Means source meaning (Gives w n) → v ≡ w
one_outcome source meaning v w m n a b =
    let depth = max a.least b.least in
    one_value v w m n (sym (a.is depth (omega arith)) ∙ b.is depth (omega arith))

one_rows : (replies : Replies) (world : World) (rules : List Rule) (files : Files) (xs ys : List (Bytes × FileRows)) → AllZip (AreRowsOf replies world rules) files xs → AllZip (AreRowsOf replies world rules) files ys → xs ≡ ys
one_rows replies world rules [] [] [] a b = refl
one_rows replies world rules [] [] (y ∷ ys) a b = absurd b
one_rows replies world rules [] (x ∷ xs) ys a b = absurd a
one_rows replies world rules (file ∷ files) [] ys a b = absurd a
one_rows replies world rules (file ∷ files) (x ∷ xs) [] a b = absurd b
one_rows replies world rules (file ∷ files) (x ∷ xs) (y ∷ ys) a b =
    let path : x.0 ≡ y.0 = a.0.path ∙ sym b.0.path in
    let rows : x.1 ≡ y.1 = one_outcome _ _ x.1 y.1 a.0.names b.0.names a.0.comes b.0.comes in
    λ i. (path i, rows i) ∷ one_rows replies world rules files xs ys a.1 b.1 i

pub one_cold : (replies : Replies) (world : World) (files : Files) (rules : List Rule) (unusable : List ConfigError) (r s : Report)
    → IsCold replies world files rules unusable r → IsCold replies world files rules unusable s → r ≡ s
one_cold replies world files rules unusable r s a b =
    let rows : r.rules ≡ s.rules = a.rules_are ∙ sym b.rules_are in
    let found : r.files ≡ s.files = one_rows replies world rules files r.files s.files a.files_are b.files_are in
    let errors : r.errors ≡ s.errors = a.errors_are ∙ sym b.errors_are in
    λ i. record { rules = rows i; files = found i; errors = errors i }

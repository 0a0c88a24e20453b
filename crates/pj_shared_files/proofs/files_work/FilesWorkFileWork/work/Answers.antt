use Rattle.std.proofs.Common.{get_or, subst}
use Rattle.std.specs.Prelude.{Result, Ok, Err, IfOk}
use Rattle.pj_cached_files.specs.declared.entry.LeftFile.{LeftFile}
use Rattle.pj_fitting.specs.Left.{File}
use Rattle.pj_seats.proofs.Working.{asks_stay}
use Rattle.pj_shared_files.proofs.InWorlds.{item_is, leaves_in}
use Rattle.pj_shared_files.specs.InWorlds.{LeavesIn}
use Rattle.pj_shared_files.proofs.files_work.FilesWorkFileWork.work.Goals as goal

all_four : {A E : Type 0} {P Q R S T : A → Type 0} (r : Result A E) → ((x : A) → P x → Q x → R x → S x → T x) → IfOk r P → IfOk r Q → IfOk r R → IfOk r S → IfOk r T
all_four (Ok x) f p q s t = f x p q s t
all_four (Err e) f p q s t = tt

pub returns-clause-stays : goal.returns-clause-stays
returns-clause-stays g c = asks_stay (λ (left : LeftFile). left.is_reused) c.file_entry.result (c.file_entry.ensures.asks c.sets_have_rules.ensures.0 c.sets_have_rules.ensures.1)

pub returns-clause-comes : goal.returns-clause-comes
returns-clause-comes g c = λ told.
    let t = g.O.Oracle.tells c.args.oracle.now in let asked = (g.O.Oracle.tells c.file_entry.new.oracle).asked in
    let rules = c.args.self.now.run.now.rules.now in let found = c.args.self.now.run.now.found.now in let files = c.args.self.now.files.now in let item : File = get_or files c.args.file c.index-self-file.result in
    all_four c.file_entry.result (λ left leaves reuses evaluates looks one is.
    subst (λ (f : File). LeavesIn rules found f t.world asked left) (item_is files c.args.file one c.index-self-file.result is) (leaves_in t rules found item asked left told c.requires.fresh leaves reuses evaluates looks))
    c.file_entry.ensures.left c.file_entry.ensures.reused c.file_entry.ensures.ran c.file_entry.ensures.looked

-- The functions of PMD over a file that is seen: what they reply, and what they ask beneath.
use Rattle.std.proofs.Common.{◌≡◌, Result, ap}
use Rattle.std.specs.Borrow.{GName}
use Rattle.pj_file_oracle.specs.FileAnswer.{file_answer}
use Rattle.pj_javafuncs.specs.Facts.{Facts}
use Rattle.pj_javafuncs.specs.Replies.{reply}
use Rattle.pj_javafuncs.specs.Telling.{CallsOwn, tells_calls}
use Rattle.pj_names.specs.Asking.{Asking}
use Rattle.pj_names.specs.Expand.{expand}
use Rattle.pj_names.specs.Told.{Asks, Told}
use Rattle.pj_names.specs.declared.oracle.AskFault.{AskFault}
use Rattle.pj_tree.specs.Tree.{Tree}
use Rattle.pj_workers.specs.JavaReplies.{java_replies, known_in}
use Rattle.pj_xlaws.specs.Laws.{Reply}
use Rattle.pj_workers.specs.Views.{file_seen}
use Rattle.pj_workers.specs.declared.view.FileView.{FileView}

-- what they reply by what is known and a tree
abbrev pub replied : Facts → Tree → Reply
replied known tree function at arguments = expand (file_answer tree) (reply known tree function at arguments)

pub replies_seen : (view : FileView) (known : Facts) (tree : Tree) → known ≡ known_in view.path.now (file_seen view) → tree ≡ (file_seen view).tree → replied known tree ≡ java_replies view.path.now (file_seen view)
replies_seen view known tree same_known same_tree = λ i. replied (same_known i) (same_tree i)

-- what asks over the functions asks the oracle beneath that of the file
pub asks-under : {K A : Type 0} {by on : GName} {own after : CallsOwn} {m : Asking A} {t u : Told K} {r : Result A AskFault} → Asks m (tells_calls by own t) (tells_calls on after u) r → Asks m t u r
asks-under h = record {
  same_told = h.same_told;
  same_world = h.same_world;
  same_kept = ap (λ k. k.kept) h.same_kept;
  faults_grow = h.faults_grow;
  faults_stay = h.faults_stay;
  failed = h.failed;
  value_is = h.value_is;
  asked_is = h.asked_is;
  asked_stays = h.asked_stays;
  asked_within = h.asked_within;
}

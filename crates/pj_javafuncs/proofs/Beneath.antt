-- Over the oracle of a file, and over the one beneath it.
use Rattle.std.specs.Borrow.{GName}
use Rattle.std.proofs.Common.{◌≡◌, List, ap, subst, sym, ◌∙◌}
use Rattle.std.specs.Prelude.{Result}
use Rattle.std.specs.List.{All}
use Rattle.pj_tree.specs.Tree.{Tree}
use Rattle.pj_names.specs.declared.oracle.AskFault.{AskFault}
use Rattle.pj_names.specs.Asking.{Asking}
use Rattle.pj_names.specs.Expand.{expand, tells_by, world_by}
use Rattle.pj_names.specs.Told.{Asks, Told, Worlds}
use Rattle.pj_names.proofs.ExpandLaws.{asks-inner, asks-outer}
use Rattle.pj_file_oracle.specs.FileAnswer.{file_answer}
use Rattle.pj_file_oracle.specs.Held.{FileOwn, own_answer}
use Rattle.pj_exprtypes.specs.declared.held.HeldType.{HeldType}
use Rattle.pj_exprtypes.specs.Table.{Holds, KeepsOver}
use Rattle.pj_javafuncs.specs.Telling.{tells_calls}

-- what asks beneath as the expanded meaning says asks the oracle of the file as the meaning says, where that one is the one that it was
pub asks-over : {K A : Type 0} (by on : GName) (own after : FileOwn) (m : Asking A) {t u : Told K} {r : Result A AskFault}
    → on ≡ by → after ≡ own → Asks (expand (own_answer own) m) t u r → Asks m (tells_by by own own_answer t) (tells_by on after own_answer u) r
asks-over by on own after m {t = t} {u = u} {r = r} same_place same_own h =
    subst (λ (x : GName). Asks m (tells_by by own own_answer t) (tells_by x after own_answer u) r) (sym same_place)
    (subst (λ (x : FileOwn). Asks m (tells_by by own own_answer t) (tells_by by x own_answer u) r) (sym same_own) (asks-outer by own own_answer m h))

-- what is held of types stays right in a call over the oracle of the file
pub keeps-beneath : {K A : Type 0} {by on : GName} {own after : FileOwn} {m : Asking A} {t u : Told K} {r : Result A AskFault} (tree : Tree) (types : List HeldType)
    → Asks m (tells_by by own own_answer t) (tells_by on after own_answer u) r → KeepsOver tree t types → KeepsOver tree u types
keeps-beneath tree types h keeps = λ is.
    subst (λ (w : Worlds). All (Holds tree (λ depth. world_by (file_answer tree) depth (w depth))) types) (sym (ap (λ k. k.world) h.same_kept)) (keeps (sym h.same_told ∙ is))

-- the functions ask beneath as the oracle of the file does
pub asks-calls : {K A : Type 0} (by on : GName) (own after : FileOwn) (place then : GName) (m : Asking A) {t u : Told K} {r : Result A AskFault}
    → then ≡ place → Asks m (tells_by by own own_answer t) (tells_by on after own_answer u) r
    → Asks (expand (file_answer own.tree) m) (tells_calls by (record { tree = own.tree; held = own.held; types = place }) t) (tells_calls on (record { tree = after.tree; held = after.held; types = then }) u) r
asks-calls by on own after place then m same h =
    let beneath = asks-inner by on own after own_answer m h in
    record {
      same_told = beneath.same_told;
      same_world = beneath.same_world;
      same_kept = λ i. record {
        own = record { tree = (h.same_kept i).own.tree; held = (h.same_kept i).own.held; types = same i };
        reference = (h.same_kept i).reference;
        is_told = (h.same_kept i).is_told;
        world = (h.same_kept i).world;
        kept = (h.same_kept i).kept;
      };
      faults_grow = beneath.faults_grow;
      faults_stay = beneath.faults_stay;
      failed = beneath.failed;
      value_is = beneath.value_is;
      asked_is = beneath.asked_is;
      asked_stays = beneath.asked_stays;
      asked_within = beneath.asked_within;
    }

-- The world in which the classes of a file answer by their declarations finds finitely many classes, if the world beneath does.
use Rattle.std.specs.Prelude.{◌≡◌, false, refl}
use Rattle.std.proofs.Common.{sym, ◌∙◌, ap, subst}
use Rattle.pj_names.specs.Asking.{Asking, has_name}
use Rattle.pj_names.specs.ClassName.{Name}
use Rattle.pj_names.specs.Expand.{expand}
use Rattle.pj_tree.specs.Tree.{Tree}
use Rattle.pj_file_oracle.specs.FileAnswer.{answer_by, file_answer}
use Rattle.pj_settling.specs.Settling.{FindsFinitely, Settles, World, is_found}
use Rattle.pj_settling.proofs.Comes.{Comes, always, one_value}
use Rattle.pj_settling.proofs.Expanded.{expanded, outer}
use Rattle.pj_settling.proofs.Settled.{asked_comes}
use Rattle.pj_settled_names.proofs.Declared.{file_answer_settles}
use Rattle.pj_settled_names.proofs.Headers.{unfound, unnamed, with_file}

module _ {world : World} (finite : FindsFinitely world) (t : Tree) where
  -- what the names come to
  abbrev pub file_world : World
  file_world = outer world (file_answer t) (file_answer_settles finite t)

  as_beneath : (name : Name) → has_name (with_file finite t) name ≡ false → file_world name ≡ world name
  as_beneath name other =
      one_value world (file_answer t name) (file_answer_settles finite t name) (world name)
      (subst (λ class. Comes world (always (answer_by t name class)) (world name)) (sym (unnamed finite t name other)) (asked_comes name))

  pub file_world_finite : FindsFinitely file_world
  file_world_finite = record { among = with_file finite t; no_others = λ name other. ap is_found (as_beneath name other) ∙ unfound finite t name other }

  -- So what comes to something in each world that finds finitely many classes does so beneath, where the classes of the file answer.
  pub in_file : {A : Type 0} {m : Asking A} → ((above : World) → FindsFinitely above → Settles above m) → Settles world (expand (file_answer t) m)
  in_file {m = m} h = expanded world (file_answer t) (file_answer_settles finite t) {m = m} (h file_world file_world_finite)

-- What is held of a file is right by what a world answers alone: so it is right over an oracle that notes names if and only if it is over the one beneath.
use Rattle.std.proofs.Common.{◌≡◌, ℕ, List, [], ◌∷◌, IsTrue, ap, subst}
use Rattle.pj_exprtypes.specs.Table.{KeepsOver}
use Rattle.pj_exprtypes.specs.declared.held.HeldType.{HeldType}
use Rattle.pj_file_oracle.specs.FileAnswer.{file_answer}
use Rattle.pj_file_oracle.specs.Held.{AreHeld}
use Rattle.pj_file_oracle.specs.declared.held.Held.{Held}
use Rattle.pj_file_oracle.specs.declared.held.HeldAnswer.{HeldAnswer}
use Rattle.pj_names.specs.Asking.{Asking, names_of, value_of}
use Rattle.pj_names.specs.ClassName.{Name, NameSet, name_set}
use Rattle.pj_names.specs.Expand.{world_by}
use Rattle.pj_names.specs.Held.{IsHeld}
use Rattle.pj_names.specs.Told.{Told, Worlds}
use Rattle.pj_tree.specs.Tree.{Tree}
use Rattle.pj_workers.specs.Views.{AreRight}

held_alike : {A : Type 0} {m : Asking A} {value : A} {names : NameSet} (v w : Worlds) → ((d : ℕ) → (v d).answer ≡ (w d).answer) → IsHeld v m value names → IsHeld w m value names
held_alike {m = m} {value = value} {names = names} v w same held = record {
  value_is = λ d far. subst (λ answer. value_of d answer m ≡ value) (same d) (held.value_is d far);
  names_are = λ d far. subst (λ answer. name_set (names_of d answer m) ≡ names) (same d) (held.names_are d far);
}

module _ {K L : Type 0} (tree : Tree) (t : Told K) (u : Told L) (told : u.is_told ≡ t.is_told) (same : (d : ℕ) → (t.world d).answer ≡ (u.world d).answer) where
  answers_alike : (entries : List (Name × HeldAnswer)) → AreHeld (file_answer tree) t entries → AreHeld (file_answer tree) u entries
  answers_alike [] held = tt
  answers_alike (entry ∷ entries) held = (λ is. held_alike t.world u.world same (held.0 (subst (λ b. IsTrue b) told is)), answers_alike entries held.1)

  types_alike : (types : List HeldType) → KeepsOver tree t types → KeepsOver tree u types
  types_alike types keeps =
      λ is k d below. held_alike (λ depth. world_by (file_answer tree) depth (t.world depth)) (λ depth. world_by (file_answer tree) depth (u.world depth))
      (λ depth. ap (λ answer. (λ name. value_of depth answer (file_answer tree name))) (same depth)) (keeps (subst (λ b. IsTrue b) told is) k d below)

  pub right_alike : (held : Held) (types : List HeldType) → AreRight tree t held types → AreRight tree u held types
  right_alike held types right = record { answers = answers_alike held.answers.entries right.answers; types = types_alike types right.types }

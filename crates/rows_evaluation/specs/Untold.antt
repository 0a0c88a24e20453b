-- Replies that tell nothing of themselves.
use Rattle.std.proofs.Common.{◌≡◌, false, IsTrue, Result, Ok, Err, refl, sym, ◌∙◌, arith}
use Rattle.std.proofs.lemmas.Bool.{false≢true}
use Rattle.pj_names.specs.declared.oracle.AskFault.{AskFault}
use Rattle.pj_names.specs.declared.oracle.AskFault.TheVariants.{Failed, Memory}
use Rattle.pj_names.specs.Asking.{Asking}
use Rattle.pj_names.specs.Told.{Told, Asks}
use Rattle.pj_names.proofs.AskingLaws.{within-self}

pub untold : {K A : Type 0} (m : Asking A) (t : Told K) (r : Result A AskFault) → t.is_told ≡ false → (r ≡ Err Failed → ⊥) → Asks m t t r
untold m t (Ok v) none lives = record {
  same_told = refl;
  same_world = refl;
  same_kept = refl;
  faults_grow = omega arith;
  faults_stay = refl;
  failed = λ e. absurd (lives e);
  value_is = λ told. absurd (false≢true (sym none ∙ told));
  asked_is = λ told. absurd (false≢true (sym none ∙ told));
  asked_stays = within-self t.asked;
  asked_within = λ told. absurd (false≢true (sym none ∙ told));
}
untold m t (Err Memory) none lives = record {
  same_told = refl;
  same_world = refl;
  same_kept = refl;
  faults_grow = omega arith;
  faults_stay = refl;
  failed = λ e. absurd (lives e);
  value_is = λ told. absurd (false≢true (sym none ∙ told));
  asked_is = λ told. absurd (false≢true (sym none ∙ told));
  asked_stays = within-self t.asked;
  asked_within = λ told. absurd (false≢true (sym none ∙ told));
}
untold m t (Err Failed) none lives = absurd (lives refl)

pub never : IsTrue false → ⊥
never h = false≢true h

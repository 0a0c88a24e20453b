-- How an oracle over a list of answers meets the oracle's law.
use Rattle.std.specs.Prelude.{◌≡◌, List, [], ◌∷◌, Result, Ok, Err, IfOk, OnOk, refl}
use Rattle.std.proofs.Common.{sym, subst, arith}
use Rattle.std.specs.FinSet as set
use Rattle.pj_names.specs.declared.answer.Answer.{Answer}
use Rattle.pj_names.specs.declared.oracle.AskFault.{AskFault}
use Rattle.pj_names.specs.declared.oracle.AskFault.TheVariants.{Failed, Memory}
use Rattle.pj_names.specs.ClassName.{Name, NameSet}
use Rattle.pj_names.specs.Asking.{ask}
use Rattle.pj_names.specs.Told.{IsWithin, Asks, UnlessFailed}
use Rattle.pj_names.proofs.AskingLaws.{within-names, within-self}
use Rattle.pj_names.specs.Meaning.{found_in}
use Rattle.pj_names.specs.AnswerList.{or_absent, list_tells}

on_ok : {A E : Type 0} {P : Type 0} (r : Result A E) → P → OnOk r P
on_ok (Ok v) p = p
on_ok (Err e) p = tt

unless : {A : Type 0} {P : Type 0} (r : Result A AskFault) → P → UnlessFailed r P
unless (Ok v) p = p
unless (Err Memory) p = p
unless (Err Failed) p = tt

-- an `ask` that asked the name alone, and answers what the list has for it or stops for want of memory
pub list-asks : (answers : List (Name × Answer)) {old new : NameSet} {name : Name} {r : Result Answer AskFault} → new ≡ set.insert old name
    → IfOk r (λ answer. answer ≡ or_absent (found_in answers name)) → (r ≡ Err Failed → ⊥) → Asks (ask name) (list_tells answers old) (list_tells answers new) r
list-asks answers {old = old} {new = new} {name = name} {r = r} is right never = record {
  same_told = refl;
  same_world = refl;
  same_kept = refl;
  faults_grow = omega arith;
  faults_stay = unless r refl;
  failed = λ e. absurd (never e);
  value_is = λ told d far. right;
  asked_is = λ told d far. on_ok r is;
  asked_stays = subst (λ s. IsWithin old s) (sym is) (within-names {t = old} (name ∷ []) (within-self old));
  asked_within = λ told d far. subst (λ s. IsWithin new s) is (within-self new);
}

-- What a rule means in a file where it is active, and where it is not.
use Rattle.std.proofs.Common.{◌≡◌, ◌<◌, ◌∙◌, ℕ, zero, suc, Bool, true, false, List, [], ◌∷◌, Ok, Result, ap, arith, get_or, length, map, subst, sym}
use Rattle.pj_names.specs.Asking.{Asking}
use Rattle.pj_names.specs.ClassName.{Name}
use Rattle.pj_names.specs.Told.{Asks, Told}
use Rattle.pj_names.specs.declared.oracle.AskFault.{AskFault}
use Rattle.pj_names.proofs.AskingLaws.{asks-return}
use Rattle.pj_parse.specs.JavaFile.{JavaFile}
use Rattle.pj_reports.specs.declared.ruled.Ruled.{Ruled}
use Rattle.pj_reports.specs.declared.ruled.Ruled.TheVariants.{Spots}
use Rattle.pj_rule_sets.specs.Active.{are_active}
use Rattle.pj_rule_sets.specs.Rules.{EffectiveRule}
use Rattle.pj_outside.specs.Files.{Bytes}
use Rattle.pj_workers.specs.FileMeaning.{rule_at}
use Rattle.pj_workers.specs.JavaReplies.{java_replies}
use Rattle.pj_workers.specs.Results.{RestsOn}
use Rattle.pj_workers.specs.RuleMeaning.{rule_in_file}
use Rattle.pj_workers.specs.Rules.{IsRuleOf, Rule, is_active}
use Rattle.pj_workers.specs.Views.{if_active}

module _ (path : Bytes) (file : JavaFile) (rule : Rule) where
  pub active_asks : {K : Type 0} {t u : Told K} {r : Result Ruled AskFault} (b : Bool) → b ≡ true → Asks (rule_in_file (java_replies path file) file rule) t u r → Asks (if_active b path file rule) t u r
  active_asks {t = t} {u = u} {r = r} b is asks = subst (λ a. Asks (if_active a path file rule) t u r) (sym is) asks

  pub inactive_asks : {K : Type 0} {t : Told K} {r : Result Ruled AskFault} (b : Bool) → b ≡ false → r ≡ Ok (Spots []) → Asks (if_active b path file rule) t t r
  inactive_asks {t = t} {r = r} b is nothing = subst (λ a. Asks (if_active a path file rule) t t r) (sym is) (asks-return nothing)

-- Where it is known of a path whether the rule is active, it means what it means at a file of this path.
module _ (marker path : Bytes) (file : JavaFile) (effective : EffectiveRule) (rule : Rule) (b : Bool) (is : IsRuleOf marker effective rule) (known : b ≡ are_active effective.exclude effective.include path) where
  activity_known : if_active b path file rule ≡ rule_at java_replies path (Ok file) rule
  activity_known = ap (λ a. if_active a path file rule) (known ∙ sym (ap (λ s. is_active s path) is.source))

  pub known_asks : {K : Type 0} {t u : Told K} {r : Result Ruled AskFault} → Asks (if_active b path file rule) t u r → Asks (rule_at java_replies path (Ok file) rule) t u r
  known_asks {t = t} {u = u} {r = r} asks = subst (λ (m : Asking Ruled). Asks m t u r) activity_known asks

  pub known_rests : {K : Type 0} {t : Told K} {v : Ruled} {names : List Name} → RestsOn t (if_active b path file rule) v names → RestsOn t (rule_at java_replies path (Ok file) rule) v names
  known_rests {t = t} {v = v} {names = names} rests = subst (λ (m : Asking Ruled). RestsOn t m v names) activity_known rests

-- the member of a list that stands where another one does
pub mapped_at : {X Y : Type 0} (f : X → Y) (xs : List X) (i : ℕ) (x : X) (d : Y) → i < length xs → x ≡ get_or xs i x → get_or (map f xs) i d ≡ f x
mapped_at f [] i x d below is = absurd (omega (arith, below))
mapped_at f (y ∷ xs) zero x d below is = ap f (sym is)
mapped_at f (y ∷ xs) (suc i) x d below is = mapped_at f xs i x d (omega (arith, below)) is

-- whether a rule is active for a path, of those of which this is known
pub active_at : (path : Bytes) (rules : List EffectiveRule) (active : List Bool) (i : ℕ) (rule : EffectiveRule) (d : Bool) → active ≡ map (λ (r : EffectiveRule). are_active r.exclude r.include path) rules
    → i < length rules → rule ≡ get_or rules i rule → get_or active i d ≡ are_active rule.exclude rule.include path
active_at path rules active i rule d each below is = ap (λ l. get_or l i d) each ∙ mapped_at (λ (r : EffectiveRule). are_active r.exclude r.include path) rules i rule d below is

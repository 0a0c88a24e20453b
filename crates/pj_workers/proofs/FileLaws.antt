-- Where rules mean nothing.
use Rattle.std.proofs.Common.{◌≡◌, ◌∙◌, false, cond, List, [], ◌∷◌, Result, Ok, Err, ap, refl}
use Rattle.pj_findings.specs.Merged.{merge, only_error}
use Rattle.pj_reports.specs.declared.ruled.Head.TheVariants.{Message}
use Rattle.pj_reports.specs.declared.ruled.Ruled.{Ruled}
use Rattle.pj_reports.specs.declared.ruled.Ruled.TheVariants.{Spots}
use Rattle.pj_names.specs.Asking.{Return, bind, each}
use Rattle.pj_parse.specs.FileOutcome.{outcome_of}
use Rattle.pj_parse.specs.JavaFile.{JavaFile}
use Rattle.pj_parse.specs.declared.file_fault.FileFault.{FileFault}
use Rattle.pj_parse.specs.Messages.{fault_message}
use Rattle.pj_outside.specs.Files.{Bytes}
use Rattle.pj_workers.specs.FileMeaning.{Replies, file_at, file_meaning, nothing, rule_at, rule_meaning}
use Rattle.pj_workers.specs.RuleMeaning.{rule_in_file}
use Rattle.pj_workers.specs.Rules.{Rule, is_active}

inactive_at : (replies : Replies) (path : Bytes) (rule : Rule) (o : Result JavaFile FileFault) → is_active rule.source path ≡ false → rule_at replies path o rule ≡ nothing
inactive_at replies path rule (Ok file) h = ap (λ b. cond b (rule_in_file (replies path file) file rule) nothing) h
inactive_at replies path rule (Err fault) h = refl

pub inactive : (replies : Replies) (path bytes : Bytes) (rule : Rule) → is_active rule.source path ≡ false → rule_meaning replies path bytes rule ≡ nothing
inactive replies path bytes rule h = inactive_at replies path rule (outcome_of bytes) h

-- rules over a file without a tree
all_nothing : (replies : Replies) (path : Bytes) (fault : FileFault) (rules : List Rule) → (results : List Ruled) × (each (rule_at replies path (Err fault)) rules ≡ Return results)
all_nothing replies path fault [] = ([], refl)
all_nothing replies path fault (rule ∷ rules) =
    let rest = all_nothing replies path fault rules in
    (Spots [] ∷ rest.0, ap (λ m. bind m (λ results. Return (Spots [] ∷ results))) rest.1)

-- the rules together
pub one_error : (replies : Replies) (path : Bytes) (rules : List Rule) (fault : FileFault) → file_at replies path (Err fault) rules ≡ Return (only_error (fault_message fault))
one_error replies path rules fault = ap (λ m. bind m (λ results. Return (merge (Message (fault_message fault)) results))) (all_nothing replies path fault rules).1

pub no_tree : (replies : Replies) (path bytes : Bytes) (rules : List Rule) (fault : FileFault) → outcome_of bytes ≡ Err fault → file_meaning replies path bytes rules ≡ Return (only_error (fault_message fault))
no_tree replies path bytes rules fault h = ap (λ outcome. file_at replies path outcome rules) h ∙ one_error replies path rules fault

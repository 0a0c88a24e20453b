-- Files that are being read, one behind the other.
use Rattle.std.proofs.Common.{◌≡◌, Bool, true, false, List, [], ◌∷◌, ◌++◌, sym, subst}
use Rattle.pj_outside.specs.Files.{Files}
use Rattle.pj_rule_texts.specs.Values.{Text}
use Rattle.pj_rule_texts.specs.declared.written.Part.{Part}
use Rattle.pj_rule_texts.specs.declared.written.Part.TheVariants as part
use Rattle.pj_rules.specs.Effective.{FileFaults, PartFault}
use Rattle.pj_rules.specs.Referring.{Leads}
use Rattle.pj_rules.specs.States.{IsChain, IsFaultOfTop, IsOpen, is_top, left}
use Rattle.pj_rules.specs.declared.fault.RuleFault.{RuleFault}
use Rattle.pj_rules.specs.declared.open_file.OpenFile.{OpenFile}
use Rattle.pj_rules.specs.declared.open_file.Waiting.{Waiting}
use Rattle.pj_rules.proofs.TakeFacts.{refers}
use Rattle.pj_rules.proofs.Lists.{nothing_snoc, snoc_same}

module _ (files : Files) where
  -- a fault of the part that comes next is one of the file
  pub fault_of_file : (file : OpenFile) (p : Part) (rest : List Part) (open_ : List Text) (fault : RuleFault) → IsOpen files file (p ∷ rest) →
      PartFault files (is_top file) open_ file.path file.rule_set file.progress p fault → FileFaults files (is_top file) open_ file.path fault
  fault_of_file file p rest open_ fault is_open h =
      FileFaults.in_part rest is_open.is_read is_open.stands is_open.added is_open.judged
      (subst (λ rule_set. PartFault files (is_top file) open_ file.path rule_set file.progress p fault) is_open.rule_set h)

  -- a fault of a file is one of the top ruleset that leads to it
  pub raise : (top : Text) (below : List Waiting) (open_ : List Text) (path : Text) (of_top : Bool) (fault : RuleFault) → IsChain files top below open_ path of_top →
      FileFaults files of_top open_ path fault → IsFaultOfTop files top fault
  raise top below open_ path of_top fault (IsChain.alone b o p t) h =
      subst (λ x. FileFaults files true (top ∷ []) x fault) p
      (subst (λ paths. FileFaults files true paths path fault) o (subst (λ t. FileFaults files t open_ path fault) t h))
  raise top below open_ path of_top fault (IsChain.behind further waiting before b o chain is_open leads fresh t) h =
      let inner : FileFaults files false (before ++ path ∷ []) path fault =
      subst (λ paths. FileFaults files false paths path fault) o (subst (λ t. FileFaults files t open_ path fault) t h) in
      raise top further before waiting.file.path (is_top waiting.file) fault chain
      (fault_of_file waiting.file (part.Rule waiting.referral.rule) (left waiting.file) before fault is_open
      (PartFault.within leads.by.is_reference (refers files waiting.referral leads.by) leads.found fresh inner))

  -- a file below which none waits is the top ruleset
  pub alone : (top : Text) (open_ : List Text) (path : Text) (of_top : Bool) → IsChain files top [] open_ path of_top → (path ≡ top) × (of_top ≡ true)
  alone top open_ path of_top (IsChain.alone b o p t) = (p, t)
  alone top open_ path of_top (IsChain.behind further waiting before b o chain is_open leads fresh t) = absurd (nothing_snoc further waiting b)

  -- what stands below a file
  pub record Below (top : Text) (below : List Waiting) (waiting : Waiting) (open_ : List Text) (path : Text) (of_top : Bool) : Type 0 where
    pub before : List Text
    pub open_paths : open_ ≡ before ++ path ∷ []
    pub chain : IsChain files top below before waiting.file.path (is_top waiting.file)
    pub is_open : IsOpen files waiting.file (part.Rule waiting.referral.rule ∷ left waiting.file)
    pub leads : Leads files waiting.file.path waiting.referral path
    pub not_top : of_top ≡ false

  pub go_below : (top : Text) (below : List Waiting) (waiting : Waiting) (open_ : List Text) (path : Text) (of_top : Bool) →
      IsChain files top (below ++ waiting ∷ []) open_ path of_top → Below top below waiting open_ path of_top
  go_below top below waiting open_ path of_top (IsChain.alone b o p t) = absurd (nothing_snoc below waiting (sym b))
  go_below top below waiting open_ path of_top (IsChain.behind further other before b o chain is_open leads fresh t) =
      let both = snoc_same below further waiting other b in
      subst (λ (w : Waiting). Below top below w open_ path of_top) (sym both.1)
      (subst (λ (ws : List Waiting). Below top ws other open_ path of_top) (sym both.0)
      (record { before = before; open_paths = o; chain = chain; is_open = is_open; leads = leads; not_top = t }))

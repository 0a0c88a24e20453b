-- Turns of reading.
use Rattle.std.proofs.Common.{◌≡◌, ◌∙◌, Bool, true, false, List, [], ◌∷◌, ◌++◌, Option, Some, None, is_some, sym, ap, subst, append-nil}
use Rattle.std.specs.Prelude.{MatchOption}
use Rattle.pj_outside.specs.Files.{Files}
use Rattle.pj_rule_texts.specs.Files.{IsRead}
use Rattle.pj_rule_sets.specs.Lists.{Taken}
use Rattle.pj_rule_texts.specs.Values.{Text}
use Rattle.pj_rule_texts.specs.declared.written.Part.{Part}
use Rattle.pj_rule_texts.specs.declared.written.Part.TheVariants as part
use Rattle.pj_rule_texts.specs.declared.written.WrittenRule.{WrittenRule}
use Rattle.pj_rule_texts.specs.declared.written.WrittenRuleset.{WrittenRuleset}
use Rattle.pj_rules.specs.Effective.{AddAll, AreJudged, HasRules, nothing}
use Rattle.pj_rules.specs.Known.{AreRead, AreThere}
use Rattle.pj_rule_sets.specs.ReadFiles.{put_list}
use Rattle.pj_rules.specs.Referring.{AddsTaken, IsTakenFault}
use Rattle.pj_rules.specs.States.{AreGathered, Gathers, IsChain, IsDone, IsEnded, IsFaultOf, IsFaultOfTop, IsOpen, IsStack, IsTaking, Opens, Takes, is_top, left}
use Rattle.pj_rules.specs.declared.fault.RuleFault.{RuleFault}
use Rattle.pj_rule_sets.specs.declared.known.Known.{Known}
use Rattle.pj_rules.specs.declared.open_file.OpenFile.{OpenFile}
use Rattle.pj_rules.specs.declared.open_file.Waiting.{Waiting}
use Rattle.pj_rule_sets.specs.declared.path_patterns.PathPatterns.{PathPatterns}
use Rattle.pj_rules.specs.declared.reading.Opening.{Opening}
use Rattle.pj_rules.proofs.Chains.{alone, fault_of_file, go_below, raise}
use Rattle.pj_rules.proofs.Lists.{nothing_snoc, snoc_same}
use Rattle.pj_rules.proofs.KnownFiles.{read_put, there_less, there_more, there_read}
use Rattle.pj_rules.proofs.Parts.{gathers_top, took}

judged_nothing : (b : Bool) → AreJudged b []
judged_nothing true = tt
judged_nothing false = tt

-- a rule gathers no path pattern
pub gathers_rule : (rule : WrittenRule) (patterns : Option PathPatterns) → Gathers patterns (part.Rule rule) patterns
gathers_rule rule None = tt
gathers_rule rule (Some patterns) = (tt, sym (append-nil patterns.exclude), sym (append-nil patterns.include))

-- no pattern is gathered yet
pub data HasNone : Option PathPatterns → Type 0 where
  not_top : HasNone None
  top : {patterns : PathPatterns} → patterns.exclude ≡ [] → patterns.include ≡ [] → HasNone (Some patterns)

gathered_nothing : (patterns : Option PathPatterns) → HasNone patterns → AreGathered patterns []
gathered_nothing None none = tt
gathered_nothing (Some patterns) (HasNone.top e i) = (e, i)

-- the last path is taken
abbrev pub Pops : List Text → Option Text → List Text → Type 0
Pops old last new = MatchOption last ((old ≡ []) × (new ≡ [])) (λ path. old ≡ new ++ path ∷ [])

popped : (old new : List Text) (last : Option Text) → Pops old last new → (before : List Text) (path : Text) → old ≡ before ++ path ∷ [] → new ≡ before
popped old new None h before path e = absurd (nothing_snoc before path (sym h.0 ∙ e))
popped old new (Some last) h before path e = (snoc_same new before last path (sym h ∙ e)).0

module _ (files : Files) where
  -- a file of which nothing is read
  pub begun : (file : OpenFile) (path : Text) (written : WrittenRuleset) → IsRead files path written → file.path ≡ path → file.rule_set ≡ written.rule_set →
      left file ≡ written.parts → file.progress ≡ nothing → HasNone file.patterns → IsOpen files file (left file)
  begun file path written read p s r e none = record {
    written = written;
    before = [];
    is_read = subst (λ q. IsRead files q written) (sym p) read;
    rule_set = s;
    stands = sym r;
    added = subst (λ progress. AddAll files file.path written.rule_set nothing [] progress) (sym e) AddAll.none;
    judged = judged_nothing (is_top file);
    gathered = gathered_nothing file.patterns none;
  }

  -- the same file with other parts before it
  pub moved : (old new : OpenFile) (parts : List Part) → new.path ≡ old.path → new.rule_set ≡ old.rule_set → new.progress ≡ old.progress → new.patterns ≡ old.patterns →
      IsOpen files old parts → IsOpen files new parts
  moved old new parts p s e t h = record {
    written = h.written;
    before = h.before;
    is_read = subst (λ q. IsRead files q h.written) (sym p) h.is_read;
    rule_set = s ∙ h.rule_set;
    stands = h.stands;
    added = subst (λ q. AddAll files q h.written.rule_set nothing h.before new.progress) (sym p)
        (subst (λ progress. AddAll files old.path h.written.rule_set nothing h.before progress) (sym e) h.added);
    judged = subst (λ (o : Option PathPatterns). AreJudged (is_some o) h.before) (sym t) h.judged;
    gathered = subst (λ (o : Option PathPatterns). AreGathered o h.before) (sym t) h.gathered;
  }

  -- the list of a file that is read to its end
  pub whole_list : (file : OpenFile) → IsOpen files file [] → HasRules files file.path file.progress.list
  whole_list file h =
      HasRules.file h.is_read (subst (λ parts. AddAll files file.path h.written.rule_set nothing parts file.progress) (sym (h.stands ∙ append-nil h.before)) h.added)

  module _ (top : Text) where
    -- a part is taken
    pub goes_on : (known : Known) (below : List Waiting) (old : OpenFile) (p : Part) (new : OpenFile) → IsTaking files top known below old p → Takes files old p new →
        IsStack files top known (record { below = below; current = new })
    goes_on known below old p new taking takes = record {
      known_files = taking.known_files;
      chain = subst (λ path. IsChain files top below known.open_paths path (is_top new)) (sym takes.path)
          (subst (λ t. IsChain files top below known.open_paths old.path t) (sym (gathers_top old.patterns p new.patterns takes.gathers)) taking.chain);
      current = took files old p (left new) new (subst (λ rest. IsOpen files old (p ∷ rest)) (sym takes.rest) taking.current) takes;
    }

    pub stops : (known : Known) (below : List Waiting) (file : OpenFile) (p : Part) (fault : RuleFault) → IsTaking files top known below file p →
        IsFaultOf files known file p fault → IsFaultOfTop files top fault
    stops known below file p fault taking h =
        raise files top below known.open_paths file.path (is_top file) fault taking.chain
        (fault_of_file files file p (left file) known.open_paths fault taking.current h)

    -- a file is opened
    pub opened : (old known : Known) (below all : List Waiting) (file : OpenFile) (p : Part) (opening : Opening) (new : OpenFile) →
        IsTaking files top old below file p → Opens files old file p opening → all ≡ below ++ (record { file = file; referral = opening.referral }) ∷ [] → known.read ≡ old.read →
        known.open_paths ≡ old.open_paths ++ opening.path ∷ [] → new.path ≡ opening.path → new.rule_set ≡ opening.written.rule_set → left new ≡ opening.written.parts →
        new.progress ≡ nothing → new.patterns ≡ None → IsStack files top known (record { below = all; current = new })
    opened old known below all file p opening new taking opens a r o np ns nr ne nt = record {
      known_files = record {
        read = subst (AreRead files) (sym r) taking.known_files.read;
        there = subst (AreThere files) (sym o)
            (there_more files old.open_paths opening.path taking.known_files.there (there_read files opening.path opening.written opens.is_read));
      };
      chain = subst (λ path. IsChain files top all known.open_paths path (is_top new)) (sym np)
          (IsChain.behind below (record { file = file; referral = opening.referral }) old.open_paths a o taking.chain
          (subst (λ q. IsOpen files file (q ∷ left file)) opens.is_reference taking.current) opens.leads opens.is_new (ap (λ (t : Option PathPatterns). is_some t) nt));
      current = begun new opening.path opening.written opens.is_read np ns nr ne (subst HasNone (sym nt) HasNone.not_top);
    }

    -- a file is read to its end
    pub ended : (known : Known) (file : OpenFile) → IsDone files top known [] file → AreRead files known.read × IsEnded files top file
    ended known file done =
        let is = alone files top known.open_paths file.path (is_top file) done.chain in
        (done.known_files.read, record { path = is.0; of_top = is.1; whole = done.whole })

    pub goes_back : (old known : Known) (below : List Waiting) (waiting : Waiting) (done new : OpenFile) (last : Option Text) (list : List Taken) →
        IsDone files top old (below ++ waiting ∷ []) done → list ≡ done.progress.list → Pops old.open_paths last known.open_paths →
        known.read ≡ put_list old.read done.path list →
        AddsTaken waiting.file.path waiting.file.progress waiting.referral list new.progress →
        new.path ≡ waiting.file.path → new.rule_set ≡ waiting.file.rule_set → left new ≡ left waiting.file → new.patterns ≡ waiting.file.patterns →
        IsStack files top known (record { below = below; current = new })
    goes_back old known below waiting done new last list is_done l o r adds np ns nr nt =
        let b = go_below files top below waiting old.open_paths done.path (is_top done) is_done.chain in
        let has : HasRules files done.path list = subst (HasRules files done.path) (sym l) (whole_list done is_done.whole) in
        let paths : known.open_paths ≡ b.before = popped old.open_paths known.open_paths last o b.before done.path b.open_paths in
        let taking : IsTaking files top known below waiting.file (part.Rule waiting.referral.rule) = record {
          known_files = record {
            read = subst (AreRead files) (sym r) (read_put files old.read done.path list is_done.known_files.read has);
            there = subst (AreThere files) (sym paths) (there_less files b.before done.path (subst (AreThere files) b.open_paths is_done.known_files.there));
          };
          chain = subst (λ ps. IsChain files top below ps waiting.file.path (is_top waiting.file)) (sym paths) b.chain;
          current = b.is_open;
        } in
        goes_on known below waiting.file (part.Rule waiting.referral.rule) new taking (record {
          path = np;
          rule_set = ns;
          rest = nr;
          adds = adds files waiting.file.rule_set done.path b.leads has;
          gathers = subst (λ (t : Option PathPatterns). Gathers waiting.file.patterns (part.Rule waiting.referral.rule) t) (sym nt) (gathers_rule waiting.referral.rule waiting.file.patterns);
        })

    pub stops_back : (old : Known) (below : List Waiting) (waiting : Waiting) (done : OpenFile) (list : List Taken) (fault : RuleFault) →
        IsDone files top old (below ++ waiting ∷ []) done → list ≡ done.progress.list →
        IsTakenFault waiting.file.path waiting.file.progress waiting.referral list fault → IsFaultOfTop files top fault
    stops_back old below waiting done list fault is_done l h =
        let b = go_below files top below waiting old.open_paths done.path (is_top done) is_done.chain in
        let has : HasRules files done.path list = subst (HasRules files done.path) (sym l) (whole_list done is_done.whole) in
        raise files top below b.before waiting.file.path (is_top waiting.file) fault b.chain
        (fault_of_file files waiting.file (part.Rule waiting.referral.rule) (left waiting.file) b.before fault b.is_open
        (h files (is_top waiting.file) b.before waiting.file.rule_set done.path b.leads has))

    -- ---- one turn

    -- the next part is taken out of those that are left
    pub takes_next : (known : Known) (below : List Waiting) (old new : OpenFile) (p : Part) → new.path ≡ old.path → new.rule_set ≡ old.rule_set → new.progress ≡ old.progress →
        new.patterns ≡ old.patterns → left old ≡ p ∷ left new → IsStack files top known (record { below = below; current = old }) → IsTaking files top known below new p
    takes_next known below old new p np ns ne nt rest h = record {
      known_files = h.known_files;
      chain = subst (λ path. IsChain files top below known.open_paths path (is_top new)) (sym np)
          (subst (λ t. IsChain files top below known.open_paths old.path t) (sym (ap (λ (o : Option PathPatterns). is_some o) nt)) h.chain);
      current = moved old new (p ∷ left new) np ns ne nt (subst (IsOpen files old) rest h.current);
    }

    -- no part is left
    pub ends_next : (known : Known) (below : List Waiting) (old new : OpenFile) → new.path ≡ old.path → new.rule_set ≡ old.rule_set → new.progress ≡ old.progress →
        new.patterns ≡ old.patterns → left old ≡ [] → IsStack files top known (record { below = below; current = old }) → IsDone files top known below new
    ends_next known below old new np ns ne nt rest h = record {
      known_files = h.known_files;
      chain = subst (λ path. IsChain files top below known.open_paths path (is_top new)) (sym np)
          (subst (λ t. IsChain files top below known.open_paths old.path t) (sym (ap (λ (o : Option PathPatterns). is_some o) nt)) h.chain);
      whole = moved old new [] np ns ne nt (subst (IsOpen files old) rest h.current);
    }

  -- a top ruleset is opened
  pub begins : (old known : Known) (path : Text) (written : WrittenRuleset) (below : List Waiting) (file : OpenFile) (patterns : PathPatterns) → AreRead files old.read → IsRead files path written →
      known ≡ record { read = old.read; open_paths = path ∷ [] } → below ≡ [] → file.path ≡ path → file.rule_set ≡ written.rule_set → left file ≡ written.parts → file.progress ≡ nothing →
      file.patterns ≡ Some patterns → patterns.exclude ≡ [] → patterns.include ≡ [] → IsStack files path known (record { below = below; current = file })
  begins old known path written below file patterns are_read read k b p s r e t none none_too = record {
    known_files = record {
      read = subst (AreRead files) (sym (ap (λ (x : Known). x.read) k)) are_read;
      there = subst (AreThere files) (sym (ap (λ (x : Known). x.open_paths) k)) (there_read files path written read, tt);
    };
    chain = IsChain.alone b (ap (λ (x : Known). x.open_paths) k) p (ap (λ (o : Option PathPatterns). is_some o) t);
    current = begun file path written read p s r e (subst HasNone (sym t) (HasNone.top none none_too));
  }

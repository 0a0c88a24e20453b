-- Top rulesets, one after the other.
use Rattle.std.proofs.Common.{◌≡◌, ◌∙◌, ℕ, ◌+◌, ◌<◌, true, false, List, [], ◌∷◌, ◌++◌, length, take, drop, get_or, map, Option, Some, None, is_some, sym, ap, ap₂, subst, append-nil}
use Rattle.std.specs.List.{filter_map}
use Rattle.std.proofs.lemmas.List.{drop_more, take_more, take-append-drop, map-append}
use Rattle.pj_outside.specs.Files.{Files}
use Rattle.pj_rule_texts.specs.Files.{is_there}
use Rattle.pj_rule_sets.specs.Lists.{Taken, not_available, referred_in}
use Rattle.pj_rule_sets.specs.declared.entry.Entry.{Entry}
use Rattle.pj_rule_texts.specs.References.{is_from_elsewhere}
use Rattle.pj_rule_texts.specs.Values.{Text}
use Rattle.pj_rules.specs.Effective.{AddAll, AreJudged, nothing}
use Rattle.pj_rules.specs.Load.{AreTops, IsFirstFault, IsTop, IsTopFault, TopRules, exclude_of, include_of}
use Rattle.pj_rules.specs.States.{AreGathered, IsEnded, top_rules}
use Rattle.pj_rules.specs.declared.fault.RuleFault.{RuleFault}
use Rattle.pj_rules.specs.declared.fault.RuleWhat.TheVariants.{MissingRef}
use Rattle.pj_rules.specs.declared.open_file.OpenFile.{OpenFile}
use Rattle.pj_rule_sets.specs.declared.path_patterns.PathPatterns.{PathPatterns}
use Rattle.pj_rules.specs.declared.top.Top.{Top}
use Rattle.pj_rules.proofs.Refusing.{same_fault}

module _ (files : Files) where
  -- the top ruleset that is read to its end
  pub top_ended : (path : Text) (file : OpenFile) (list : List Taken) (patterns : PathPatterns) → IsEnded files path file → list ≡ file.progress.list →
      file.patterns ≡ Some patterns → IsTop files path (record { list = list; exclude = patterns.exclude; include = patterns.include })
  top_ended path file list patterns e l t =
      let parts : e.whole.written.parts ≡ e.whole.before = e.whole.stands ∙ append-nil e.whole.before in
      let judged : AreJudged true e.whole.before = subst (λ b. AreJudged b e.whole.before) e.of_top e.whole.judged in
      let gathered : AreGathered (Some patterns) e.whole.before = subst (λ (o : Option PathPatterns). AreGathered o e.whole.before) t e.whole.gathered in
      let top : IsTop files file.path (record { list = file.progress.list; exclude = filter_map exclude_of e.whole.written.parts; include = filter_map include_of e.whole.written.parts }) =
      IsTop.file e.whole.is_read (subst (λ ps. AddAll files file.path e.whole.written.rule_set nothing ps file.progress) (sym parts) e.whole.added)
      (subst (AreJudged true) (sym parts) judged) in
      let made : List Taken → List Text → List Text → TopRules = λ ts xs is. record { list = ts; exclude = xs; include = is } in
      subst (λ p. IsTop files p (record { list = list; exclude = patterns.exclude; include = patterns.include })) e.path
      (subst (λ ts. IsTop files file.path (made ts patterns.exclude patterns.include)) (sym l)
      (subst (λ xs. IsTop files file.path (made file.progress.list xs patterns.include)) (sym (gathered.0 ∙ ap (filter_map exclude_of) (sym parts)))
      (subst (λ is. IsTop files file.path (made file.progress.list (filter_map exclude_of e.whole.written.parts) is)) (sym (gathered.1 ∙ ap (filter_map include_of) (sym parts))) top)))

  pub no_patterns : (path : Text) (file : OpenFile) → IsEnded files path file → file.patterns ≡ None → ⊥
  no_patterns path file e none = let is : is_some file.patterns ≡ true = e.of_top in let o : is_some file.patterns ≡ false = ap (λ (o : Option PathPatterns). is_some o) none in absurd (cc)

  -- ---- a path at which nothing is

  pub one_absent : (path p t reference : Text) (e : Entry) (before all : List Taken) → all ≡ before ++ (referred_in p t, e) ∷ [] → before ≡ [] → p ≡ path → t ≡ path →
      e ≡ not_available None reference → reference ≡ path → all ≡ (referred_in path path, not_available None path) ∷ []
  one_absent path p t reference e before all a b ep et ee er =
      a ∙ ap (λ (ts : List Taken). ts ++ (referred_in p t, e) ∷ []) b
      ∙ ap₂ (λ (x y : Text). alone (referred_in x y, e)) ep et
      ∙ ap (λ (x : Entry). alone (referred_in path path, x)) (ee ∙ ap (not_available None) er)
    where
      alone : Taken → List Taken
      alone taken = taken ∷ []

  pub absent : (path : Text) (list : List Taken) (exclude include : List Text) → list ≡ (referred_in path path, not_available None path) ∷ [] → exclude ≡ [] → include ≡ [] →
      is_there files path ≡ false → is_from_elsewhere path ≡ true → IsTop files path (record { list = list; exclude = exclude; include = include })
  absent path list exclude include l x i gone elsewhere =
      subst (λ (ts : List Taken). IsTop files path (record { list = ts; exclude = exclude; include = include })) (sym l)
      (subst (λ (xs : List Text). IsTop files path (record { list = (referred_in path path, not_available None path) ∷ []; exclude = xs; include = include })) (sym x)
      (subst (λ (is : List Text). IsTop files path (record { list = (referred_in path path, not_available None path) ∷ []; exclude = []; include = is })) (sym i)
      (IsTop.elsewhere gone elsewhere)))

  pub missing_top : (path : Text) (fault : RuleFault) → is_there files path ≡ false → is_from_elsewhere path ≡ false → (fault.path ≡ path) × (fault.what ≡ MissingRef path) →
      IsTopFault files path fault
  missing_top path fault gone own h = subst (IsTopFault files path) (sym (same_fault fault path (MissingRef path) h.0 h.1)) (IsTopFault.missing gone own)

  -- ---- one after the other

  tops_more : (paths : List Text) (tops : List TopRules) (path : Text) (top : TopRules) → AreTops files paths tops → IsTop files path top →
      AreTops files (paths ++ path ∷ []) (tops ++ top ∷ [])
  tops_more [] [] path top AreTops.none is = AreTops.more is AreTops.none
  tops_more [] (t ∷ tops) path top so_far is = elim so_far [ ]
  tops_more (p ∷ paths) [] path top so_far is = elim so_far [ ]
  tops_more (p ∷ paths) (t ∷ tops) path top (AreTops.more first rest) is = AreTops.more first (tops_more paths tops path top rest is)

  module _ (paths : List Text) (i : ℕ) (path : Text) (inside : i < length paths) (here : path ≡ get_or paths i path) (tops : List Top) (so_far : AreTops files (take i paths) (map top_rules tops)) where
    pub next_top : (top : Top) (all : List Top) → all ≡ tops ++ top ∷ [] → IsTop files path (top_rules top) → AreTops files (take (i + 1) paths) (map top_rules all)
    next_top top all e is =
        let front : take (i + 1) paths ≡ take i paths ++ path ∷ [] = take_more paths i path inside ∙ ap (λ y. take i paths ++ y ∷ []) (sym here) in
        subst (λ ps. AreTops files ps (map top_rules all)) (sym front)
        (subst (AreTops files (take i paths ++ path ∷ [])) (sym (ap (map top_rules) e ∙ map-append top_rules tops (top ∷ [])))
        (tops_more (take i paths) (map top_rules tops) path (top_rules top) so_far is))

    pub first_fault : (fault : RuleFault) → IsTopFault files path fault → IsFirstFault files paths fault
    first_fault fault h = record {
      before = take i paths;
      path = path;
      behind = drop (i + 1) paths;
      tops = map top_rules tops;
      stands = sym (take-append-drop i paths) ∙ ap (λ r. take i paths ++ r) (drop_more paths i path inside ∙ ap (λ y. y ∷ drop (i + 1) paths) (sym here));
      fine = so_far;
      is_fault = h;
    }

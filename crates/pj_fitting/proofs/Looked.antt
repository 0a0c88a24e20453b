-- There is at most one set of names for which a run asks.
use Rattle.std.proofs.Common.{◌≡◌, List, [], ◌∷◌, sym, ◌∙◌}
use Rattle.std.specs.FinSet as set
use Rattle.pj_names.specs.declared.answer.Answer.{Answer}
use Rattle.pj_names.specs.ClassName.{Name, NameSet}
use Rattle.pj_names.specs.Meaning.{Gives, whole}
use Rattle.pj_names.proofs.MeaningLaws.{means-one}
use Rattle.pj_reports.specs.declared.ruled.Ruled.{Ruled}
use Rattle.pj_cache.specs.declared.cache.Cache.{Cache}
use Rattle.pj_fitting.specs.Right.{RulesAt, Files, rules_at}
use Rattle.pj_fitting.specs.Left.{File}
use Rattle.pj_fitting.specs.Looked.{AskFor, analysed, is_reusable, LookedFile, Looked, told}

same_names : (v w : Ruled) (s t : NameSet) → Gives v s ≡ Gives w t → s ≡ t
same_names v w s t e = cc

one_union : (s t u v : NameSet) → s ≡ t → u ≡ v → set.union s u ≡ set.union t v
one_union s t u v e h = λ i. set.union (e i) (h i)

module _ {R : Type 0} (rules : RulesAt R) (world : Name → Answer) where
  one_asked : (held : List R) (s t : NameSet) → AskFor rules world held s → AskFor rules world held t → s ≡ t
  one_asked [] s t first second = first ∙ sym second
  one_asked (rule ∷ rest) s t first second =
      let own = same_names first.first.rows second.first.rows first.own second.own (means-one (whole world) (rules.meaning rule) (Gives first.first.rows first.own) (Gives second.first.rows second.own) first.first.means second.first.means) in
      first.all ∙ one_union first.own second.own first.others second.others own (one_asked rest first.others second.others first.rest second.rest) ∙ sym second.all

module _ {R : Type 0} (files : Files R) (found : Cache) (world : Name → Answer) (held : List R) where
  one_file : (file : File) (s t : NameSet) → LookedFile files found world held file s → LookedFile files found world held file t → s ≡ t
  one_file file s t first second =
      let names : NameSet = told files found world held file in
      let asked = one_asked (rules_at files file.0 file.1) world (analysed files found world held file (is_reusable files found world held file)) first.asked second.asked first.comes second.comes in
      first.all ∙ (λ i. set.union names (asked i)) ∙ sym second.all

  pub one_looked : (list : List File) (s t : NameSet) → Looked files found world held list s → Looked files found world held list t → s ≡ t
  one_looked [] s t first second = first ∙ sym second
  one_looked (file ∷ rest) s t first second =
      first.all ∙ one_union first.own second.own first.others second.others (one_file file first.own second.own first.first second.first) (one_looked rest first.others second.others first.rest second.rest) ∙ sym second.all

use Rattle.std.proofs.Common.{◌≡◌, ◌∙◌, ◌++◌, ◌∷◌, ◌<◌, [], ℕ, List, ap, arith, get_or, length, map, not, refl, rules, subst, sym}
use Rattle.std.proofs.lemmas.List.{length-append, length-map, map-append}
use Rattle.std.specs.List.{AllByRecursion}
use Rattle.std.specs.Prelude.{Bool}
use Rattle.pj_cache.specs.declared.cache.Entry.{Entry}
use Rattle.pj_cached_files.proofs.Gathering.{rows_last}
use Rattle.pj_cached_files.proofs.OneMore.{all_last}
use Rattle.pj_cached_files.specs.Gathered.{HasText, put_if}
use Rattle.pj_cached_files.specs.LeftFiles.{path_rows, picked}
use Rattle.pj_cached_files.specs.declared.entry.LeftFile.{LeftFile}
use Rattle.pj_fitting.specs.Left.{File}
use Rattle.pj_outside.specs.Files.{Bytes}
use Rattle.pj_shared_files.proofs.AllLeft.{entries_last, none_left, none_ran, picked_last, ran_last}
use Rattle.pj_shared_files.specs.Gathering.{entry_of, flags_of}
use Rattle.pj_workers.specs.Evaluated.{with_path}
use Rattle.pj_shared_files.proofs.gathering.gather.Goals as goal

pub loop-left-init : goal.loop-left-init
loop-left-init c =
    let is = c.new-all.ensures in
    record {
      place = refl;
      count = search rules;
      entries = ap (λ a. a.entries) is ∙ sym (none_left c.args.files.now);
      rows = ap (λ a. a.rows) is ∙ ap (λ a. map (path_rows c.args.run.now.rules.now) a.entries) (sym is);
      reused = ap (λ a. a.reused) is;
      analysed = ap (λ a. a.analysed) is;
      ran = ap (λ a. a.ran) is ∙ sym (none_ran c.args.files.now);
      texts = subst (λ a. AllByRecursion HasText a.entries) (sym is) tt;
    }

pub loop-left-preserved : goal.loop-left-preserved
loop-left-preserved c =
    let kept = c.loop-left.invariant in let put = c.in_ok-put.ensures in let left = c.in-Some.left in let so_far = c.loop-left.yielded in let list = c.args.files.now in
    let file : File = c.index-files-place.result in
    let paths : List Bytes = map (λ (f : File). f.0) list in
    let all = c.loop-left.all in let more = c.put.new.self in
    let rest : c.loop-left.left-iterator.rest.items ≡ left ∷ c.next.new.self.rest.items = search rules in
    let count = kept.count in let many = c.requires.many in let longer = ap (λ (l : List LeftFile). length l) rest in
    let inside : c.loop-left.place < length list = omega (arith, count, many, longer) in
    let place = kept.place in
    let below : length so_far < length list = omega (arith, inside, place) in
    let at : get_or list (length so_far) file ≡ file = ap (λ n. get_or list n file) (sym place) ∙ sym c.index-files-place.is in
    let flags = flags_of so_far in
    let long : length flags ≡ length so_far = length-map so_far (λ (f : LeftFile). f.is_reused) in
    let nots = map not flags in
    let long_nots : length nots ≡ length so_far = length-map flags not ∙ long in
    record {
      count = omega (arith, count, longer);
      place = (let n = length-append so_far (left ∷ []) in omega (arith, place, n));
      entries = put.entries ∙ ap (λ (l : List Entry). l ++ entry_of file left ∷ []) kept.entries ∙ sym (entries_last list so_far left file below at);
      rows = rows_last c.args.run.now.rules.now all.entries more.entries all.rows more.rows (entry_of file left) kept.rows put.entries put.rows;
      reused = put.reused ∙ ap (λ (l : List Bytes). put_if left.is_reused l file.0) kept.reused
          ∙ sym (ap (λ (l : List Bool). picked l paths) (map-append (λ (f : LeftFile). f.is_reused) so_far (left ∷ []))
          ∙ picked_last flags list left.is_reused file (omega (arith, below, long)) (ap (λ n. get_or list n file) long ∙ at));
      analysed = put.analysed ∙ ap (λ (l : List Bytes). put_if (not left.is_reused) l file.0) kept.analysed
          ∙ sym (ap (λ (l : List Bool). picked (map not l) paths) (map-append (λ (f : LeftFile). f.is_reused) so_far (left ∷ [])) ∙ ap (λ (l : List Bool). picked l paths) (map-append not flags (left.is_reused ∷ []))
          ∙ picked_last nots list (not left.is_reused) file (omega (arith, below, long_nots)) (ap (λ n. get_or list n file) long_nots ∙ at));
      ran = put.ran ∙ ap (λ (l : List (Bytes × ℕ)). l ++ with_path file.0 left.ran) kept.ran ∙ sym (ran_last list so_far left file below at);
      texts = subst (λ (es : List Entry). AllByRecursion HasText es) (sym put.entries) (all_last HasText all.entries (entry_of file left) kept.texts put.text);
    }

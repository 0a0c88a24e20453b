-- Rows put to their rules one after the other are those of each rule.
use Rattle.std.proofs.Common.{◌≡◌, ℕ, zero, suc, ◌+◌, ◌<◌, Bool, true, false, cond, eqb, List, [], ◌∷◌, ◌++◌, length, map, get_or, set, Option, Some, None, refl, sym, ap, ◌∙◌, append_assoc, zero-add, arith}
use Rattle.std.specs.Prelude.{filter, replicate}
use Rattle.std.specs.List.{All, AllByRecursion, range_with_len}
use Rattle.std.proofs.lemmas.Bool.{eqb-true, eqb-false}
use Rattle.std.proofs.lemmas.List.{append-nil, get_or-replicate, get_or-set_other, get_or-set_same, length-map, length-replicate, length-set, ext_get_or}
use Rattle.std.proofs.lemmas.List.Elements.{recursion_from_All}
use Rattle.pj_reports.specs.declared.rows.Finding.{Finding}
use Rattle.pj_reports.specs.declared.rows.FileError.{FileError}
use Rattle.pj_reports.specs.declared.rows.FileRows.{FileRows}
use Rattle.pj_reports.specs.declared.ruled.Ruled.{Ruled}
use Rattle.pj_reports.specs.declared.ruled.Ruled.TheVariants as ruled
use Rattle.pj_reports.specs.declared.ruled.Spot.{Spot}
use Rattle.pj_cache.specs.declared.cache.KeyRows.{KeyRows}
use Rattle.pj_carry.specs.Carried.{First, key_rows}
use Rattle.pj_carry.specs.Rows.{spot_of, spots_of, is_of, said_by, rows_of, rows_by_rule}
use Rattle.pj_carrying.specs.ByRule.{row_at, rows_in, with_spot, with_message, with_finding, with_findings, with_error_of, with_error, with_errors}

abbrev none : Ruled
none = ruled.Spots []

-- ---- findings

findings_long : (all : List Ruled) (fs : List Finding) → length (with_findings all fs) ≡ length all
findings_long all [] = refl
findings_long all (f ∷ fs) = findings_long (with_finding all f) fs ∙ length-set all f.rule (with_spot (row_at all f.rule) (spot_of f))

abbrev spots_by : Bool → Finding → List Spot → List Spot
spots_by true f more = spot_of f ∷ more
spots_by false f more = more

-- the nodes of a rule in one finding and more
spots_more : (i : ℕ) (f : Finding) (fs : List Finding) (b : Bool) → eqb f.rule i ≡ b → spots_of i (f ∷ fs) ≡ spots_by b f (spots_of i fs)
spots_more i f fs true is = ap (λ (b : Bool). map spot_of (cond b (f ∷ filter (λ (g : Finding). eqb g.rule i) fs) (filter (λ (g : Finding). eqb g.rule i) fs))) is
spots_more i f fs false is = ap (λ (b : Bool). map spot_of (cond b (f ∷ filter (λ (g : Finding). eqb g.rule i) fs) (filter (λ (g : Finding). eqb g.rule i) fs))) is

-- the row of a rule, with a finding
row_with : (all : List Ruled) (f : Finding) (i : ℕ) (b : Bool) → eqb f.rule i ≡ b → i < length all → row_at (with_finding all f) i ≡ cond b (with_spot (row_at all i) (spot_of f)) (row_at all i)
row_with all f i true is lt =
    let same : f.rule ≡ i = eqb-true f.rule i is in
    ap (λ (k : ℕ). row_at (set all k (with_spot (row_at all k) (spot_of f))) i) same ∙ get_or-set_same all i (with_spot (row_at all i) (spot_of f)) none lt
row_with all f i false is lt =
    let other : ¬ (i ≡ f.rule) = λ e. eqb-false f.rule i is (sym e) in
    get_or-set_other all f.rule i (with_spot (row_at all f.rule) (spot_of f)) none other

abbrev made : List Spot → Ruled
made spots = ruled.Spots spots

still : (all : List Ruled) (f : Finding) (i : ℕ) → i < length all → i < length (with_finding all f)
still all f i lt = let long : length (with_finding all f) ≡ length all = length-set all f.rule (with_spot (row_at all f.rule) (spot_of f)) in omega (arith, lt, long)

findings_at : (all : List Ruled) (fs : List Finding) (i : ℕ) (spots : List Spot) → i < length all → row_at all i ≡ made spots → row_at (with_findings all fs) i ≡ made (spots ++ spots_of i fs)
findings_at all [] i spots lt e = e ∙ ap made (sym (append-nil spots))
findings_at all (f ∷ fs) i spots lt e = by_rule (eqb f.rule i) refl (λ more here. findings_at (with_finding all f) fs i more (still all f i lt) here) where
  by_rule : (b : Bool) → eqb f.rule i ≡ b → ((more : List Spot) → row_at (with_finding all f) i ≡ made more → row_at (with_findings (with_finding all f) fs) i ≡ made (more ++ spots_of i fs)) → row_at (with_findings (with_finding all f) fs) i ≡ made (spots ++ spots_of i (f ∷ fs))
  by_rule true is rest =
      rest (spots ++ spot_of f ∷ []) (row_with all f i true is lt ∙ ap (λ (r : Ruled). with_spot r (spot_of f)) e)
      ∙ ap made (append_assoc spots (spot_of f ∷ []) (spots_of i fs))
      ∙ ap (λ (l : List Spot). made (spots ++ l)) (sym (spots_more i f fs true is))
  by_rule false is rest =
      rest spots (row_with all f i false is lt ∙ e)
      ∙ ap (λ (l : List Spot). made (spots ++ l)) (sym (spots_more i f fs false is))

-- ---- errors

error_long : (all : List Ruled) (rule : Option ℕ) (message : List ℕ) → length (with_error_of all rule message) ≡ length all
error_long all None message = refl
error_long all (Some rule) message = length-set all rule (with_message (row_at all rule) message)

errors_long : (all : List Ruled) (es : List FileError) → length (with_errors all es) ≡ length all
errors_long all [] = refl
errors_long all (e ∷ es) = errors_long (with_error all e) es ∙ error_long all e.rule e.message

-- the row of a rule, with an error
error_at : (all : List Ruled) (rule : Option ℕ) (message : List ℕ) (i : ℕ) → i < length all → row_at (with_error_of all rule message) i ≡ cond (is_of i rule) (with_message (row_at all i) message) (row_at all i)
error_at all None message i lt = refl
error_at all (Some rule) message i lt = by_rule (eqb rule i) refl where
  by_rule : (b : Bool) → eqb rule i ≡ b → row_at (set all rule (with_message (row_at all rule) message)) i ≡ cond (eqb rule i) (with_message (row_at all i) message) (row_at all i)
  by_rule true is =
      let same : rule ≡ i = eqb-true rule i is in
      ap (λ (k : ℕ). row_at (set all k (with_message (row_at all k) message)) i) same ∙ get_or-set_same all i (with_message (row_at all i) message) none lt
      ∙ ap (λ (b : Bool). cond b (with_message (row_at all i) message) (row_at all i)) (sym is)
  by_rule false is =
      let other : ¬ (i ≡ rule) = λ e. eqb-false rule i is (sym e) in
      get_or-set_other all rule i (with_message (row_at all rule) message) none other
      ∙ ap (λ (b : Bool). cond b (with_message (row_at all i) message) (row_at all i)) (sym is)

abbrev told : List ℕ → Ruled
told message = ruled.Message message

same_both : (b : Bool) (r : Ruled) → cond b r r ≡ r
same_both true r = refl
same_both false r = refl

kept : (all : List Ruled) (e : FileError) (i : ℕ) → i < length all → i < length (with_error all e)
kept all e i lt = let long : length (with_error all e) ≡ length all = error_long all e.rule e.message in omega (arith, lt, long)

-- a message stays
errors_stay : (all : List Ruled) (es : List FileError) (i : ℕ) (message : List ℕ) → i < length all → row_at all i ≡ told message → row_at (with_errors all es) i ≡ told message
errors_stay all [] i message lt is = is
errors_stay all (e ∷ es) i message lt is =
    errors_stay (with_error all e) es i message (kept all e i lt)
    (error_at all e.rule e.message i lt ∙ ap (λ (r : Ruled). cond (is_of i e.rule) (with_message r e.message) r) is ∙ same_both (is_of i e.rule) (told message))

errors_at : (all : List Ruled) (es : List FileError) (i : ℕ) (spots : List Spot) → i < length all → row_at all i ≡ made spots → row_at (with_errors all es) i ≡ said_by i spots es
errors_at all [] i spots lt is = is
errors_at all (e ∷ es) i spots lt is = by_rule (is_of i e.rule) refl (λ stays. errors_at (with_error all e) es i spots (kept all e i lt) stays) where
  here : row_at (with_error all e) i ≡ cond (is_of i e.rule) (told e.message) (made spots)
  here = error_at all e.rule e.message i lt ∙ ap (λ (r : Ruled). cond (is_of i e.rule) (with_message r e.message) r) is

  by_rule : (b : Bool) → is_of i e.rule ≡ b → (row_at (with_error all e) i ≡ made spots → row_at (with_errors (with_error all e) es) i ≡ said_by i spots es) → row_at (with_errors (with_error all e) es) i ≡ cond (is_of i e.rule) (told e.message) (said_by i spots es)
  by_rule true of rest =
      errors_stay (with_error all e) es i e.message (kept all e i lt) (here ∙ ap (λ (b : Bool). cond b (told e.message) (made spots)) of)
      ∙ ap (λ (b : Bool). cond b (told e.message) (said_by i spots es)) (sym of)
  by_rule false of rest =
      rest (here ∙ ap (λ (b : Bool). cond b (told e.message) (made spots)) of)
      ∙ ap (λ (b : Bool). cond b (told e.message) (said_by i spots es)) (sym of)

-- ---- all rules

range_long : (a n : ℕ) → length (range_with_len a n) ≡ n
range_long a zero = refl
range_long a (suc n) = ap suc (range_long (a + 1) n)

none_more : (a : ℕ) → a ≡ a + 0
none_more a = omega arith

one_on : (a b : ℕ) → (a + 1) + b ≡ a + suc b
one_on a b = omega arith

in_range : (f : ℕ → Ruled) (a n i : ℕ) (d : Ruled) → i < n → get_or (map f (range_with_len a n)) i d ≡ f (a + i)
in_range f a zero i d lt = absurd (omega (arith, lt))
in_range f a (suc n) zero d lt = ap f (none_more a)
in_range f a (suc n) (suc i) d lt = in_range f (a + 1) n i d (omega (arith, lt)) ∙ ap f (one_on a i)

abbrev found : ℕ → FileRows → List Ruled
found count r = with_findings (replicate count none) r.findings

found_long : (count : ℕ) (r : FileRows) → length (found count r) ≡ count
found_long count r = findings_long (replicate count none) r.findings ∙ length-replicate count none

all_long : (count : ℕ) (r : FileRows) → length (with_errors (found count r) r.errors) ≡ count
all_long count r = errors_long (found count r) r.errors ∙ found_long count r

listed_long : (count : ℕ) (r : FileRows) → length (rows_by_rule count r) ≡ count
listed_long count r = length-map (range_with_len 0 count) (rows_of r) ∙ range_long 0 count

row_is : (count : ℕ) (r : FileRows) (i : ℕ) → i < count → get_or (with_errors (found count r) r.errors) i none ≡ get_or (rows_by_rule count r) i none
row_is count r i below =
    errors_at (found count r) r.errors i (spots_of i r.findings) (omega (arith, below, found_long count r))
    (findings_at (replicate count none) r.findings i [] (omega (arith, below, length-replicate count none)) (get_or-replicate count i none none below))
    ∙ sym (in_range (rows_of r) 0 count i none below ∙ ap (rows_of r) (zero-add i))

pub all_is : (count : ℕ) (r : FileRows) → with_errors (with_findings (replicate count none) r.findings) r.errors ≡ rows_by_rule count r
all_is count r =
    ext_get_or none (with_errors (found count r) r.errors) (rows_by_rule count r) (all_long count r ∙ sym (listed_long count r))
    (λ i lt. row_is count r i (omega (arith, lt, all_long count r)))

-- rows put one after the other to no nodes, as a reader of both lists has them
pub all_from : (count : ℕ) (r : FileRows) (fs : List Finding) (es : List FileError) (all some more : List Ruled) → fs ≡ r.findings → es ≡ r.errors → all ≡ replicate count none → some ≡ with_findings all fs → more ≡ with_errors some es → more ≡ rows_by_rule count r
all_from count r fs es all some more found erred empty first next =
    next
    ∙ (λ i. with_errors (first i) (erred i))
    ∙ (λ i. with_errors (with_findings (empty i) (found i)) r.errors)
    ∙ all_is count r

-- ---- rows by their places

-- the row at a place, whatever stands for one past the end
pub row_here : (all : List Ruled) (i : ℕ) (x : Ruled) → i < length all → x ≡ get_or all i x → x ≡ row_at all i
row_here [] i x lt is = absurd (omega (arith, lt))
row_here (y ∷ ys) zero x lt is = is
row_here (y ∷ ys) (suc i) x lt is = row_here ys i x (omega (arith, lt)) is

pub rows_long : (count : ℕ) (r : FileRows) (all : List Ruled) → all ≡ rows_by_rule count r → length all ≡ count
rows_long count r all is = ap length is ∙ listed_long count r

pub all_below : (firsts : List First) (count : ℕ) (all : List Ruled) → length all ≡ count → All (λ (f : First). f.1 < count) firsts → All (λ (f : First). f.1 < length all) firsts
all_below firsts count all long below = λ k d lt. omega (arith, long, below k d lt)

same_group : (all : List Ruled) (count : ℕ) (r : FileRows) (fs : List First) → all ≡ rows_by_rule count r → AllByRecursion (λ (f : First). f.1 < count) fs → map (rows_in all) fs ≡ map (key_rows r) fs
same_group all count r [] is below = refl
same_group all count r (f ∷ fs) is below =
    let one : row_at all f.1 ≡ rows_of r f.1 = ap (λ (l : List Ruled). row_at l f.1) is ∙ in_range (rows_of r) 0 count f.1 none below.0 ∙ ap (rows_of r) (zero-add f.1) in
    λ i. let first : KeyRows = record { key = f.0; rows = one i } in first ∷ same_group all count r fs is below.1 i

pub group_is : (count : ℕ) (r : FileRows) (all : List Ruled) (firsts : List First) → all ≡ rows_by_rule count r → All (λ (f : First). f.1 < count) firsts → map (rows_in all) firsts ≡ map (key_rows r) firsts
group_is count r all firsts is below = same_group all count r firsts is (recursion_from_All (λ (f : First). f.1 < count) firsts below)

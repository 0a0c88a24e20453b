-- Whatever the order of lawful events, each file comes to what it means in the world.
use Rattle.std.specs.Prelude.{◌≡◌, ◌⊎◌, ◌<◌, ◌≤◌, ◌+◌, Bool, true, false, cond, nat_lt, ℕ, List, [], ◌∷◌, ◌++◌, length, replicate, take, Option, Some, None, refl}
use Rattle.std.proofs.Common.{sym, ◌∙◌, ap, subst, inl, inr, arith, zero, suc, get_or, set}
use Rattle.std.proofs.lemmas.List.{length-set}
use Rattle.std.proofs.lemmas.Bool.{ltb-true}
use Rattle.std.specs.FinMap as finmap
use Rattle.std.specs.FinMap.{get-insert, get-empty, nat_cmp-IsAntisymmetric, slice_cmp-IsAntisymmetric}
use Rattle.std.specs.Ordering.{eq_by_cmp, nat_cmp}
use Rattle.std.specs.Cmp.{Equal-is}
use Rattle.std.specs.Cmp.Lexicographic.{slice_cmp, nat_list_cmp_total}
use Rattle.pj_names.specs.ClassName.{Name, NameSet}
use Rattle.pj_names.specs.Asking.{Asking, Return, Ask, Unbounded}
use Rattle.pj_names.specs.Meaning.{Source, Meaning, Done, Need, Outcome, Gives, Lacks, Means, also, answered, outcome_of, over, whole}
use Rattle.pj_names.specs.declared.answer.Answer.{Answer}
use Rattle.pj_core.specs.declared.event.Event.{Event}
use Rattle.pj_core.specs.declared.event.Event.TheVariants.{Claim, Look, Finish}
use Rattle.pj_core.specs.Events.{State, file_of, result_of, start, claimed, looked_up, finished_with, step, run}
use Rattle.pj_core.specs.Lawful.{source_of_table, HasRows, IsLawful, AreLawful, IsCold, IsAllFinished, number_in, claims, count_up, IsNoOther}

-- only equal names tie
tie : (m n : Name) → eq_by_cmp (slice_cmp nat_cmp) m n ≡ true → m ≡ n
tie m n e = slice_cmp-IsAntisymmetric nat_cmp-IsAntisymmetric m n ((Equal-is (slice_cmp nat_cmp m n)).0 e)

-- Over a source that says nothing but the truth a meaning comes to what it is over the world, or it needs a name.
truthful : {T : Type 0} (depth : ℕ) (source : Source) (world : Name → Answer) (meaning : Asking T) → ((n : Name) → IsNoOther (source n) (world n))
    → (over depth source meaning ≡ over depth (whole world) meaning) ⊎ ((n : Name) × (over depth source meaning ≡ Need n))
truthful depth source world (Return value) true_source = inl refl
truthful depth source world (Unbounded recursion) true_source = truthful depth source world (recursion depth) true_source
truthful depth source world (Ask n rest) true_source =
    elim (source n) as (λ o. IsNoOther o (world n) → (answered n o (λ a. over depth source (rest a)) ≡ also n (over depth (whole world) (rest (world n)))) ⊎ ((q : Name) × (answered n o (λ a. over depth source (rest a)) ≡ Need q))) [
      | None ↦ λ _. inr (n, refl)
      | Some a ↦ λ is. elim (truthful depth source world (rest (world n)) true_source) [
        | inl same ↦ inl (ap (λ b. also n (over depth source (rest b))) is ∙ ap (also n) same)
        | inr needs ↦ inr (needs.0, ap (λ b. also n (over depth source (rest b))) is ∙ ap (also n) needs.1)
      ]
    ] (true_source n)

not_both : {T : Type 0} (rows : T) (names : NameSet) (n : Name) → Gives rows names ≡ Lacks n → ⊥
not_both {T} rows names n e = subst (λ (o : Outcome T). is_given o) e tt
  where
    is_given : Outcome T → Type 0
    is_given (Gives r ns) = Unit {0}
    is_given (Lacks q) = ⊥

-- what is done over a truthful source is done so over the world
pub truly_done : {T : Type 0} (source : Source) (world : Name → Answer) (meaning : Asking T) (rows : T) → ((n : Name) → IsNoOther (source n) (world n)) → HasRows source meaning rows → HasRows (whole world) meaning rows
truly_done source world meaning rows true_source has = (
  has.0,
  record {
    least = has.1.least;
    is = λ depth enough. elim (truthful depth source world meaning true_source) [
      | inl same ↦ ap (λ m. outcome_of m) (sym same) ∙ has.1.is depth enough
      | inr needs ↦ absurd (not_both rows has.0 needs.0 (sym (has.1.is depth enough) ∙ ap (λ m. outcome_of m) needs.1))
    ];
  },
)

none-yet : {X : Type 0} (n w : ℕ) → get_or (replicate n (let o : Option X = None in o)) w None ≡ None
none-yet zero w = refl
none-yet (suc n) zero = refl
none-yet (suc n) (suc w) = none-yet n w

no-value : {X : Type 0} (o : Option X) (x : X) → o ≡ None → o ≡ Some x → ⊥
no-value o x none some = let bad : None ≡ Some x = cc in cc

-- what is read after a write
pub read-set : {X : Type 0} (xs : List X) (i j : ℕ) (y d : X) → ((get_or (set xs i y) j d ≡ y) × (j ≡ i)) ⊎ (get_or (set xs i y) j d ≡ get_or xs j d)
read-set [] i j y d = inr refl
read-set (x ∷ xs) zero zero y d = inl (refl, refl)
read-set (x ∷ xs) zero (suc j) y d = inr refl
read-set (x ∷ xs) (suc i) zero y d = inr refl
read-set (x ∷ xs) (suc i) (suc j) y d = elim (read-set xs i j y d) [ inl h ↦ inl (h.0, ap suc h.1) | inr h ↦ inr h ]

-- what holds between any two events
pub record Good {R T : Type 0} (rows_of : R → T) (meaning : ℕ → Asking T) (world : Name → Answer) (s : State R) : Type 0 where
  pub true_table : (n : Name) → IsNoOther (finmap.get s.table n) (world n)
  pub held_below : (w f : ℕ) → file_of s w ≡ Some f → f < s.next
  pub right : (f : ℕ) (r : R) → result_of s f ≡ Some r → (f < s.next) × HasRows (whole world) (meaning f) (rows_of r)
  pub bound : s.next ≤ length s.results

-- the first state is good
pub good-start : {R T : Type 0} (rows_of : R → T) (meaning : ℕ → Asking T) (world : Name → Answer) (files workers : ℕ) → Good rows_of meaning world (start files workers)
good-start rows_of meaning world files workers = record {
  true_table = λ n. subst (λ o. IsNoOther o (world n)) (sym (get-empty (slice_cmp nat_cmp) n)) tt;
  held_below = λ w f is. absurd (no-value _ f (none-yet workers w) is);
  right = λ f r is. absurd (no-value _ r (none-yet files f) is);
  bound = omega arith;
}

good-claim : {R T : Type 0} (rows_of : R → T) (meaning : ℕ → Asking T) (world : Name → Answer) (s : State R) (w : ℕ) (b : Bool) → b ≡ nat_lt s.next (length s.results) → Good rows_of meaning world s → Good rows_of meaning world (claimed w s b).0
good-claim rows_of meaning world s w false is g = g
good-claim rows_of meaning world s w true is g =
    let below : s.next < length s.results = ltb-true s.next (length s.results) (sym is) in record {
      true_table = g.true_table;
      held_below = λ q f here. elim (read-set s.held w q (Some s.next) None) [
        | inl now ↦ (let it : s.next ≡ f = cc in omega arith)
        | inr old ↦ (let before = g.held_below q f (sym old ∙ here) in omega (arith, before))
      ];
      right = λ f r here. (let before = g.right f r here in (let l = before.0 in omega (arith, l), before.1));
      bound = omega arith;
    }

good-look : {R T : Type 0} (rows_of : R → T) (meaning : ℕ → Asking T) (world : Name → Answer) (s : State R) (n : Name) (a : Answer) (o : Option Answer) → a ≡ world n → Good rows_of meaning world s → Good rows_of meaning world (looked_up n a s o).0
good-look rows_of meaning world s n a (Some b) is g = g
good-look rows_of meaning world s n a None is g = record {
  true_table = λ q. subst (λ o. IsNoOther o (world q)) (sym (get-insert nat_list_cmp_total s.table n a q)) (elim (eq_by_cmp (slice_cmp nat_cmp) q n) as (λ b. b ≡ eq_by_cmp (slice_cmp nat_cmp) q n → IsNoOther (cond b (Some a) (finmap.get s.table q)) (world q)) [
    | true ↦ λ t. is ∙ ap world (sym (tie q n (sym t)))
    | false ↦ λ _. g.true_table q
  ] refl);
  held_below = g.held_below;
  right = g.right;
  bound = g.bound;
}

good-end : {R T : Type 0} (rows_of : R → T) (meaning : ℕ → Asking T) (world : Name → Answer) (s : State R) (w : ℕ) (r : R) (f : ℕ) → file_of s w ≡ Some f → HasRows (source_of_table s.table) (meaning f) (rows_of r) → Good rows_of meaning world s → Good rows_of meaning world (finished_with w r s (Some f)).0
good-end rows_of meaning world s w r f held comes g =
    let cold : HasRows (whole world) (meaning f) (rows_of r) = truly_done (source_of_table s.table) world (meaning f) (rows_of r) g.true_table comes in record {
      true_table = g.true_table;
      held_below = λ q h here. elim (read-set s.held w q None None) [
        | inl now ↦ absurd (no-value _ h now.0 here)
        | inr old ↦ g.held_below q h (sym old ∙ here)
      ];
      right = λ h q here. elim (read-set s.results f h (Some r) None) [
        | inl now ↦ (let it : r ≡ q = cc in (subst (λ x. x < s.next) (sym now.1) (g.held_below w f held), subst (λ x. HasRows (whole world) (meaning h) (rows_of x)) it (subst (λ n. HasRows (whole world) (meaning n) (rows_of r)) (sym now.1) cold)))
        | inr old ↦ g.right h q (sym old ∙ here)
      ];
      bound = rw (length-set s.results f (Some r)) g.bound;
    }

-- each lawful event keeps it
pub good-step : {R T : Type 0} (rows_of : R → T) (meaning : ℕ → Asking T) (world : Name → Answer) (s : State R) (e : Event R) → IsLawful rows_of meaning world s e → Good rows_of meaning world s → Good rows_of meaning world (step s e).0
good-step rows_of meaning world s (Claim w) h g = good-claim rows_of meaning world s w (nat_lt s.next (length s.results)) refl g
good-step rows_of meaning world s (Look w n a) h g = good-look rows_of meaning world s n a.value (finmap.get s.table n) h.1 g
good-step rows_of meaning world s (Finish w r) (_, f, held, comes) g = subst (λ o. Good rows_of meaning world (finished_with w r s o).0) (sym held) (good-end rows_of meaning world s w r f held comes g)

pub good-run : {R T : Type 0} (rows_of : R → T) (meaning : ℕ → Asking T) (world : Name → Answer) (s : State R) (es : List (Event R)) → AreLawful rows_of meaning world s es → Good rows_of meaning world s → Good rows_of meaning world (run s es)
good-run rows_of meaning world s [] h g = g
good-run rows_of meaning world s (e ∷ es) h g = good-run rows_of meaning world (step s e).0 es h.1 (good-step rows_of meaning world s e h.0 g)

lawful-take : {R T : Type 0} (rows_of : R → T) (meaning : ℕ → Asking T) (world : Name → Answer) (s : State R) (k : ℕ) (es : List (Event R)) → AreLawful rows_of meaning world s es → AreLawful rows_of meaning world s (take k es)
lawful-take rows_of meaning world s zero es h = tt
lawful-take rows_of meaning world s (suc k) [] h = tt
lawful-take rows_of meaning world s (suc k) (e ∷ es) h = (h.0, lawful-take rows_of meaning world (step s e).0 k es h.1)

-- in every state between, the table has only the world's answers
pub table-true : {R T : Type 0} (rows_of : R → T) (meaning : ℕ → Asking T) (world : Name → Answer) (files workers count : ℕ) (es : List (Event R)) → AreLawful rows_of meaning world (start files workers) es → (n : Name) → IsNoOther (finmap.get (run (start files workers) (take count es)).table n) (world n)
table-true rows_of meaning world files workers count es h n = (good-run rows_of meaning world (start files workers) (take count es) (lawful-take rows_of meaning world (start files workers) count es h) (good-start rows_of meaning world files workers)).true_table n

length-step : {R : Type 0} (s : State R) (e : Event R) → length (step s e).0.results ≡ length s.results
length-step s (Claim w) = elim (nat_lt s.next (length s.results)) as (λ b. length (claimed w s b).0.results ≡ length s.results) [ true ↦ refl | false ↦ refl ]
length-step s (Look w n a) = elim (finmap.get s.table n) as (λ o. length (looked_up n a.value s o).0.results ≡ length s.results) [ None ↦ refl | Some b ↦ refl ]
length-step s (Finish w r) = elim (file_of s w) as (λ o. length (finished_with w r s o).0.results ≡ length s.results) [ None ↦ refl | Some f ↦ length-set s.results f (Some r) ]

pub length-run : {R : Type 0} (s : State R) (es : List (Event R)) → length (run s es).results ≡ length s.results
length-run s [] = refl
length-run s (e ∷ es) = length-run (step s e).0 es ∙ length-step s e

pub replicate-length : {X : Type 0} (n : ℕ) (x : X) → length (replicate n x) ≡ n
replicate-length zero x = refl
replicate-length (suc n) x = ap suc (replicate-length n x)

-- after lawful events that finish each file, each has the rows that it means over the world
pub any-order : {R T : Type 0} (rows_of : R → T) (meaning : ℕ → Asking T) (world : Name → Answer) (files workers : ℕ) (es : List (Event R)) → AreLawful rows_of meaning world (start files workers) es → IsAllFinished (run (start files workers) es)
    → (f : ℕ) → f < files → IsCold rows_of meaning world (run (start files workers) es) f
any-order rows_of meaning world files workers es lawful all f below =
    let there = all f (subst (λ k. f < k) (sym (length-run (start files workers) es ∙ replicate-length files None)) below) in
    (there.0, there.1, ((good-run rows_of meaning world (start files workers) es lawful (good-start rows_of meaning world files workers)).right f there.0 there.1).1)

-- numbers are given in order
step-number : {R : Type 0} (s : State R) (e : Event R) → (k : ℕ) × (number_in (step s e).1 ≡ count_up s.next k) × ((step s e).0.next ≡ s.next + k)
step-number s (Claim w) = elim (nat_lt s.next (length s.results)) as (λ b. (k : ℕ) × (number_in (claimed w s b).1 ≡ count_up s.next k) × ((claimed w s b).0.next ≡ s.next + k)) [
  | true ↦ (1, refl, refl)
  | false ↦ (0, refl, omega arith)
]
step-number s (Look w n a) = elim (finmap.get s.table n) as (λ o. (k : ℕ) × (number_in (looked_up n a.value s o).1 ≡ count_up s.next k) × ((looked_up n a.value s o).0.next ≡ s.next + k)) [
  | None ↦ (0, refl, omega arith)
  | Some b ↦ (0, refl, omega arith)
]
step-number s (Finish w r) = elim (file_of s w) as (λ o. (k : ℕ) × (number_in (finished_with w r s o).1 ≡ count_up s.next k) × ((finished_with w r s o).0.next ≡ s.next + k)) [
  | None ↦ (0, refl, omega arith)
  | Some f ↦ (0, refl, omega arith)
]

count-append : (a k j : ℕ) → count_up a k ++ count_up (a + k) j ≡ count_up a (k + j)
count-append a zero j = let e : a + 0 ≡ a = omega arith in let d : 0 + j ≡ j = omega arith in rw (e, d) refl
count-append a (suc k) j = let e : a + suc k ≡ (a + 1) + k = omega arith in let d : suc k + j ≡ suc (k + j) = omega arith in rw (e, d) (ap (λ l. a ∷ l) (count-append (a + 1) k j))

claims-in-order : {R : Type 0} (s : State R) (es : List (Event R)) → (k : ℕ) × (claims s es ≡ count_up s.next k) × ((run s es).next ≡ s.next + k)
claims-in-order s [] = (0, refl, omega arith)
claims-in-order s (e ∷ es) =
    let (k, is, next) = step-number s e in
    let (j, are, last) = claims-in-order (step s e).0 es in
    (k + j, (λ i. is i ++ are i) ∙ ap (λ x. count_up s.next k ++ count_up x j) next ∙ count-append s.next k j, last ∙ ap (λ x. x + j) next ∙ omega arith)

-- where the files below one are finished, they were claimed
up-to : {R T : Type 0} {rows_of : R → T} {meaning : ℕ → Asking T} {world : Name → Answer} {s : State R} (files : ℕ) → length s.results ≡ files → Good rows_of meaning world s → IsAllFinished s → files ≤ s.next
up-to zero long good all = omega arith
up-to {s = s} (suc n) long good all =
    let there = all n (let l : length s.results ≡ suc n = long in omega (arith, l)) in
    let below = (good.right n there.0 there.1).0 in omega (arith, below)

-- each file was claimed once, the first number first
pub claimed-once : {R T : Type 0} (rows_of : R → T) (meaning : ℕ → Asking T) (world : Name → Answer) (files workers : ℕ) (es : List (Event R)) → AreLawful rows_of meaning world (start files workers) es → IsAllFinished (run (start files workers) es) → claims (start files workers) es ≡ count_up 0 files
claimed-once rows_of meaning world files workers es lawful all =
    let (k, are, last) = claims-in-order (start files workers) es in
    let good = good-run rows_of meaning world (start files workers) es lawful (good-start rows_of meaning world files workers) in
    let long : length (run (start files workers) es).results ≡ files = length-run (start files workers) es ∙ replicate-length files None in
    let low : (run (start files workers) es).next ≤ files = subst (λ n. (run (start files workers) es).next ≤ n) long good.bound in
    let high : files ≤ (run (start files workers) es).next = up-to files long good all in
    let same : k ≡ files = (let l : (run (start files workers) es).next ≡ 0 + k = last in omega (arith, l, low, high)) in
    are ∙ ap (count_up 0) same

-- A recursion with visited names, depth first, comes to something where tests do, and where all items but those of finitely many names lead to nothing.
use Rattle.std.specs.Prelude.{◌≡◌, ℕ, zero, suc, ◌+◌, ◌<◌, ◌≤◌, Bool, true, false, ◌||◌, if◌then◌else◌, List, [], ◌∷◌, ◌++◌, length, map, Option, Some, None, nat_le, refl}
use Rattle.std.proofs.Common.{sym, ◌∙◌, ap, subst, arith}
use Rattle.std.proofs.lemmas.Bool.Decides.{nat_tests}
use Rattle.pj_names.specs.ClassName.{Name}
use Rattle.pj_names.specs.Asking.{Asking, Return, Unbounded, bind, has_name, hit_or}
use Rattle.pj_types.specs.DepthFirst.{in_turn, visit}
use Rattle.pj_settling.specs.Settling.{Settles, World}
use Rattle.pj_settling.proofs.Comes.{Comes, always, comes_bind, comes_deeper, comes_return, comes_settled, settled_comes, unbounded_comes}
use Rattle.pj_settling.proofs.Remaining.{Keeps, fewer, fewer_by, has-more, keeps-more, remaining}

-- A meaning comes to a list of items, and to none but under a condition.
pub record Leads {A : Type 0} (world : World) (meaning : Asking (List A)) (may : Bool) : Type 0 where
  pub list : List A
  pub comes : Comes world (always meaning) list
  pub none : may ≡ false → list ≡ []

not_full : (most count : ℕ) (b : Bool) → b ≡ false → count < most → (b || nat_le most count) ≡ false
not_full most count true new h = absurd (cc new)
not_full most count false new h = grind (arith, nat_tests, h)

module _ {A B : Type 0} (world : World) (name_of : A → Name) (test : A → Asking (Option B)) (next : A → Asking (List A)) (among : List Name)
    (tests : (x : A) → Settles world (test x)) (nexts : (x : A) → Leads world (next x) (has_name among (name_of x))) where
  abbrev Outcome : Type 0
  Outcome = Option B × List A

  abbrev on_hit : Option B → List A → Asking Outcome → Asking Outcome
  on_hit = hit_or name_of test next

  abbrev visits : List A → A → ℕ → ℕ → Asking Outcome
  visits visited x most deep = visit name_of test next most deep visited x

  abbrev turns : List A → List A → ℕ → ℕ → Asking Outcome
  turns visited xs most deep = in_turn name_of test next most (visit name_of test next most deep) visited xs

  -- what follows where an item is visited
  abbrev after_test : List A → A → Option B → ℕ → ℕ → Asking Outcome
  after_test visited x hit most deep = on_hit hit (visited ++ x ∷ []) (bind (next x) (λ more. turns (visited ++ x ∷ []) more most deep))

  abbrev visits_now : List A → A → ℕ → ℕ → Asking Outcome
  visits_now visited x most deep = bind (test x) (λ hit. after_test visited x hit most deep)

  -- an item that is left out, or visited
  abbrev stays : List A → ℕ → ℕ → Asking Outcome
  stays visited most deep = Return (None, visited)

  abbrev either : List A → A → ℕ → ℕ → Bool → Asking Outcome
  either visited x most deep is_left_out = if is_left_out then stays visited most deep else visits_now visited x most deep

  abbrev left : List A → ℕ
  left visited = remaining among (map name_of visited)

  -- It comes to an outcome, in which no name is forgotten.
  pub record Ends (visited : List A) (family : ℕ → ℕ → Asking Outcome) : Type 0 where
    pub hit : Option B
    pub seen : List A
    pub comes : Comes {A = Outcome} world family (hit, seen)
    pub keeps : Keeps (map name_of visited) (map name_of seen)

  returns : (hit : Option B) (seen : List A) → Comes {A = Outcome} world (always (Return (hit, seen))) (hit, seen)
  returns hit seen = comes_return world {A = Outcome} (hit, seen)

  -- ---- the items of a list

  after_first : (visited xs : List A) (x : A) (hit : Option B) (seen : List A) → Comes {A = Outcome} world (visits visited x) (hit, seen) → Keeps (map name_of visited) (map name_of seen) → Ends seen (turns seen xs)
      → Ends visited (turns visited (x ∷ xs))
  after_first visited xs x (Some h) seen comes keeps rest = record {
    hit = Some h;
    seen = seen;
    comes = comes_bind world (visits visited x) (λ most deep outcome. on_hit outcome.0 outcome.1 (turns outcome.1 xs most deep)) (Some h, seen) (Some h, seen) comes (returns (Some h) seen);
    keeps = keeps;
  }
  after_first visited xs x None seen comes keeps rest = record {
    hit = rest.hit;
    seen = rest.seen;
    comes = comes_bind world (visits visited x) (λ most deep outcome. on_hit outcome.0 outcome.1 (turns outcome.1 xs most deep)) (None, seen) (rest.hit, rest.seen) comes rest.comes;
    keeps = λ name was. rest.keeps name (keeps name was);
  }

  -- where each item comes to an outcome that so many names are left to at most
  turns_end : (n : ℕ) → ((visited : List A) (x : A) → left visited ≤ n → Ends visited (visits visited x)) → (xs visited : List A) → left visited ≤ n → Ends visited (turns visited xs)
  turns_end n one [] visited h = record { hit = None; seen = visited; comes = returns None visited; keeps = λ name was. was }
  turns_end n one (x ∷ xs) visited h =
      let first = one visited x h in
      let less = fewer among (map name_of visited) (map name_of first.seen) first.keeps in
      after_first visited xs x first.hit first.seen first.comes first.keeps (turns_end n one xs first.seen (omega (arith, less, h)))

  -- ---- an item

  left_out : (visited : List A) (x : A) → has_name (map name_of visited) (name_of x) ≡ true → Ends visited (visits visited x)
  left_out visited x was = record {
    hit = None;
    seen = visited;
    comes = comes_deeper world (visits visited x) (stays visited) (None, visited) 0 (λ most deep h. ap (λ b. either visited x most deep (b || nat_le most (length visited))) was) (returns None visited);
    keeps = λ name known. known;
  }

  after_hit : (visited : List A) (x : A) (hit : Option B) → Ends (visited ++ x ∷ []) (turns (visited ++ x ∷ []) (nexts x).list) → Ends (visited ++ x ∷ []) (after_test visited x hit)
  after_hit visited x (Some h) rest = record { hit = Some h; seen = visited ++ x ∷ []; comes = returns (Some h) (visited ++ x ∷ []); keeps = λ name was. was }
  after_hit visited x None rest = record {
    hit = rest.hit;
    seen = rest.seen;
    comes = comes_bind world (always (next x)) (λ most deep more. turns (visited ++ x ∷ []) more most deep) (nexts x).list (rest.hit, rest.seen) (nexts x).comes rest.comes;
    keeps = rest.keeps;
  }

  visited_now : (visited : List A) (x : A) → has_name (map name_of visited) (name_of x) ≡ false → Ends (visited ++ x ∷ []) (after_test visited x (tests x).value) → Ends visited (visits visited x)
  visited_now visited x new rest = record {
    hit = rest.hit;
    seen = rest.seen;
    comes = comes_deeper world (visits visited x) (visits_now visited x) (rest.hit, rest.seen) (suc (length visited))
        (λ most deep h. ap (either visited x most deep)
        (not_full most (length visited) (has_name (map name_of visited) (name_of x)) new (omega (arith, h))))
        (comes_bind world (always (test x)) (λ most deep hit. after_test visited x hit most deep) (tests x).value (rest.hit, rest.seen) (comes_settled world (test x) (tests x)) rest.comes);
    keeps = λ name was. rest.keeps name (keeps-more name_of visited x name was);
  }

  -- what an item leads to, where fewer names are left
  beneath : (n : ℕ) → ((xs visited : List A) → left visited < n → Ends visited (turns visited xs)) → (visited : List A) (x : A) → left visited ≤ n → has_name (map name_of visited) (name_of x) ≡ false
      → (b : Bool) → has_name among (name_of x) ≡ b → Ends (visited ++ x ∷ []) (turns (visited ++ x ∷ []) (nexts x).list)
  beneath n deeper visited x h new true there =
      let less = fewer_by among (map name_of visited) (map name_of (visited ++ x ∷ [])) (name_of x) there new (has-more name_of visited x) (keeps-more name_of visited x) in
      deeper (nexts x).list (visited ++ x ∷ []) (omega (arith, less, h))
  beneath n deeper visited x h new false other =
      subst (λ (l : List A). Ends (visited ++ x ∷ []) (turns (visited ++ x ∷ []) l)) (sym ((nexts x).none other))
      (record { hit = None; seen = visited ++ x ∷ []; comes = returns None (visited ++ x ∷ []); keeps = λ name was. was })

  item_ends : (n : ℕ) → ((xs visited : List A) → left visited < n → Ends visited (turns visited xs)) → (visited : List A) (x : A) → left visited ≤ n → Ends visited (visits visited x)
  item_ends n deeper visited x h = at (has_name (map name_of visited) (name_of x)) refl
    where
      at : (b : Bool) → has_name (map name_of visited) (name_of x) ≡ b → Ends visited (visits visited x)
      at true was = left_out visited x was
      at false new = visited_now visited x new (after_hit visited x (tests x).value (beneath n deeper visited x h new (has_name among (name_of x)) refl))

  all_end : (n : ℕ) (xs visited : List A) → left visited ≤ n → Ends visited (turns visited xs)
  all_end zero xs visited h = turns_end zero (λ v x less. item_ends zero (λ ys w fewer. absurd (omega (arith, fewer))) v x less) xs visited h
  all_end (suc n) xs visited h = turns_end (suc n) (λ v x less. item_ends (suc n) (λ ys w fewer. all_end n ys w (omega (arith, fewer))) v x less) xs visited h

  -- ---- the whole, where no number bounds it

  pub visit_ends : (x : A) → Ends [] (visits [] x)
  visit_ends x = item_ends (left []) (λ ys w fewer. all_end (left []) ys w (omega (arith, fewer))) [] x (omega arith)

  pub visit_settles : (x : A) → Settles world (Unbounded (λ most. visit name_of test next most most [] x))
  visit_settles x =
      let ends = visit_ends x in
      settled_comes world (Unbounded (λ most. visit name_of test next most most [] x)) (ends.hit, ends.seen) (unbounded_comes world (visits [] x) (ends.hit, ends.seen) ends.comes)

  -- and what follows of its outcome
  pub visit_then_settles : {C : Type 0} (k : Outcome → Asking C) → ((outcome : Outcome) → Settles world (k outcome)) → (x : A) → Settles world (Unbounded (λ most. bind (visit name_of test next most most [] x) k))
  visit_then_settles k more x =
      let ends = visit_ends x in
      let last = more (ends.hit, ends.seen) in
      settled_comes world (Unbounded (λ most. bind (visit name_of test next most most [] x) k)) last.value
      (unbounded_comes world (λ most deep. bind (visits [] x most deep) k) last.value
      (comes_bind world (visits [] x) (λ most deep outcome. k outcome) (ends.hit, ends.seen) last.value ends.comes (comes_settled world (k (ends.hit, ends.seen)) last)))

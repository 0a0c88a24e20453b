-- A recursion with visited names, depth first, that may stop at a hit.
use Rattle.std.specs.Prelude.{ℕ, zero, suc, Bool, ◌||◌, List, [], ◌∷◌, ◌++◌, length, map, Option, None, nat_le, if◌then◌else◌}
use Rattle.pj_names.specs.ClassName.{Name}
use Rattle.pj_names.specs.Asking.{Asking, Return, bind, has_name, hit_or}

-- The items have names. A test of an item gives a hit or nothing; `next` gives the items that an item leads to. What the
-- recursion comes to is a hit, if there is one, with the items visited so far. At most so many items are visited: what is
-- meant is what it comes to from some number on (`Unbounded` of `pj_names`).
module _ {A B : Type 0} (name_of : A → Name) (test : A → Asking (Option B)) (next : A → Asking (List A)) (most : ℕ) where
  -- nothing follows a hit
  abbrev pub on_hit : Option B → List A → Asking (Option B × List A) → Asking (Option B × List A)
  on_hit = hit_or name_of test next

  -- the items of a list, one after the other
  abbrev pub in_turn : (List A → A → Asking (Option B × List A)) → List A → List A → Asking (Option B × List A)
  in_turn visit visited [] = Return (None, visited)
  in_turn visit visited (x ∷ xs) = bind (visit visited x) (λ outcome. on_hit outcome.0 outcome.1 (in_turn visit outcome.1 xs))

  -- an item is left out where one of its name was visited, or where so many items were
  abbrev pub is_left_out : List A → A → Bool
  is_left_out visited x = has_name (map name_of visited) (name_of x) || nat_le most (length visited)

  -- One item, at most so deep: it is tested, and then each item that it leads to is visited in turn, each of these with all
  -- that it leads to. Each step down visits one more item, so a depth of `most` is no bound of its own: a greater one
  -- changes nothing (`proofs/DepthFirstLaws.antt`).
  abbrev pub visit : ℕ → List A → A → Asking (Option B × List A)
  visit zero visited x = Return (None, visited)
  visit (suc depth) visited x =
      if is_left_out visited x then Return (None, visited)
      else bind (test x) (λ hit. on_hit hit (visited ++ x ∷ []) (bind (next x) (λ more. in_turn (visit depth) (visited ++ x ∷ []) more)))

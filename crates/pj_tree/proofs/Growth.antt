-- What opening and closing a node keep.
use Rattle.std.proofs.Common.{ℕ, ◌≡◌, ◌≢◌, ◌+◌, ◌-◌, ◌<◌, ◌≤◌, List, [], ◌∷◌, ◌++◌, length, get_or, set, map, max, refl, ap, sym, ◌∙◌, arith, inl, inr, lit<, Option, None, Some}
use Rattle.std.specs.List.{fold}
use Rattle.std.proofs.lemmas.Bool.{cases_eq, cases_lt}
use Rattle.std.proofs.lemmas.List.{length-map, length-set, get_or-set_same, get_or-set_other, get_or_append_left, get_or_push, length_push, map_push, map-set, set-get_or, get_or-map}
use Rattle.pj_tree.specs.Tree.{ancestors, ancestors_by}
use Rattle.pj_tree.specs.Rows.{IsBuilding, IsLastBelow, LeadsBack, Unlinked, depth_in, row_parents, row_at, end_at, above, above_at, no_row, beyond}
use Rattle.pj_tree.specs.declared.node.Node.{Node}
use Rattle.pj_tree.specs.declared.row.Row.{Row}
use Rattle.pj_tree.specs.declared.row.OwnToken.{OwnToken}
use Rattle.pj_tree.proofs.Ancestors.{ancestors-push, length-ancestors}
use Rattle.pj_tree.proofs.Ends.{above_row-at}
use Rattle.pj_tree.proofs.Seen.{ended_row}

abbrev depths : List (Option Node) → ℕ
depths ps = fold max 0 (map (λ up. length up + 1) (ancestors ps))

fold_push : (a : ℕ) (xs : List ℕ) (y : ℕ) → fold max a (xs ++ y ∷ []) ≡ max (fold max a xs) y
fold_push a [] y = refl
fold_push a (x ∷ xs) y = fold_push (max a x) xs y

-- ---- before the first call

depths-nil : depths [] ≡ 0
unfolding ancestors
depths-nil = refl

pub started_is : IsBuilding [] [] None 0 0 beyond
started_is = record {
  few = lit< tt;
  few_tokens = lit< tt;
  ends = record {
    past = λ n h. absurd (omega arith);
    above_below = λ m h. absurd (omega arith);
    before_end = λ m n h. absurd (omega arith);
    inside = λ n m a h. absurd (omega arith);
    nested = λ n m a h. absurd (omega arith);
  };
  ended = λ n h. absurd (omega arith);
  current_below = omega arith;
  current_open = λ n e. absurd (omega arith);
  siblings = λ n h. absurd (omega arith);
  last_child_is = record { is = λ h. absurd (omega arith); none = λ k h. absurd (omega arith) };
  owners = λ k h. absurd (omega arith);
  unlinked = λ n h. absurd (omega arith);
  depth_is = refl;
  deepest_is = sym depths-nil;
  shallow = omega arith;
  depth_small = omega arith;
}

-- ---- a node is opened

-- how deep a child of the current node is
depth_of_child : (ps : List (Option Node)) (current : Option Node) → length (ancestors_by (ancestors ps) current) + 1 ≡ depth_in ps current + 1
depth_of_child ps None = refl
depth_of_child ps (Some n) = omega arith

depths-push : (ps : List (Option Node)) (q : Option Node) → depths (ps ++ q ∷ []) ≡ max (depths ps) (depth_in ps q + 1)
depths-push ps q =
    ap (λ (as' : List (List Node)). fold max 0 (map (λ up. length up + 1) as')) (ancestors-push ps q)
    ∙ (ap (fold max 0) (map_push (λ (up : List Node). length up + 1) (ancestors ps) (ancestors_by (ancestors ps) q))
    ∙ (fold_push 0 (map (λ up. length up + 1) (ancestors ps)) (length (ancestors_by (ancestors ps) q) + 1)
    ∙ ap (max (depths ps)) (depth_of_child ps q)))

depth_in-push : (ps : List (Option Node)) (q : Option Node) (n : ℕ) → n ≡ length ps → depth_in (ps ++ q ∷ []) (Some (record { 0 = n })) ≡ depth_in ps q + 1
depth_in-push ps q n e =
    ap (λ (as' : List (List Node)). length (get_or as' n []) + 1) (ancestors-push ps q)
    ∙ (ap (λ (up : List Node). length up + 1) (get_or_push (ancestors ps) (ancestors_by (ancestors ps) q) [] n (omega (arith, length-ancestors ps)))
    ∙ depth_of_child ps q)

-- rows behind change no last one
last_below-push : (rows : List Row) (r : Row) (parent i j : ℕ) → i ≤ length rows → IsLastBelow rows parent i j → IsLastBelow (rows ++ r ∷ []) parent i j
last_below-push rows r parent i j within s = record {
  is = λ h. old j (omega arith) ∙ s.is h;
  none = λ k h past e. s.none k h past (sym (old k (omega arith)) ∙ e);
}
  where
    old : (k : ℕ) → k < length rows → above_at (rows ++ r ∷ []) k ≡ above_at rows k
    old k h = ap (λ (x : Row). above x.parent) (get_or_append_left rows (r ∷ []) no_row k h)

pub opened_is : (rows : List Row) (tokens : List OwnToken) (current : Option Node) (depth deepest last_child : ℕ) (r : Row)
    → IsBuilding rows tokens current depth deepest last_child → length rows < 4294967294 → r.parent ≡ current → r.end ≡ beyond → r.sibling_before ≡ last_child → r.first_own ≡ beyond
    → IsBuilding (rows ++ r ∷ []) tokens (Some (record { 0 = length rows })) (depth + 1) (max deepest (depth + 1)) beyond
opened_is rows tokens current depth deepest last_child r s room parent_is end_is sibling_is first_is = record {
  few = omega (arith, len);
  few_tokens = s.few_tokens;
  ends = record {
    past = past;
    above_below = above_below;
    before_end = before_end;
    inside = inside;
    nested = nested;
  };
  ended = ended;
  current_below = omega (arith, len);
  current_open = λ n e. ap (end_at (rows ++ r ∷ [])) (omega arith) ∙ new_end;
  siblings = siblings;
  last_child_is = record {
    is = λ h. absurd (omega (arith, len));
    none = λ k h past e. absurd (omega (arith, len, above_below k h));
  };
  owners = λ k h. omega (arith, s.owners k h, len);
  unlinked = unlinked;
  depth_is = ap (λ (d : ℕ). d + 1) s.depth_is ∙ (sym (depth_in-push (row_parents rows) current (length rows) (sym (length-map rows (λ (x : Row). x.parent)))) ∙ ap (λ (ps : List (Option Node)). depth_in ps (Some (record { 0 = length rows }))) (sym parents_are));
  deepest_is = rw parents_are (sym (depths-push (row_parents rows) current ∙ omega (arith, s.depth_is, s.deepest_is)));
  shallow = omega (arith, len, s.shallow, s.depth_small);
  depth_small = omega arith;
}
  where
    len : length (rows ++ r ∷ []) ≡ length rows + 1
    len = length_push rows r

    old : (k : ℕ) → k < length rows → row_at (rows ++ r ∷ []) k ≡ row_at rows k
    old k h = get_or_append_left rows (r ∷ []) no_row k h

    new : row_at (rows ++ r ∷ []) (length rows) ≡ r
    new = get_or_push rows r no_row (length rows) refl

    new_end : end_at (rows ++ r ∷ []) (length rows) ≡ beyond
    new_end = ap (λ (x : Row). x.end) new ∙ end_is

    new_above : above_at (rows ++ r ∷ []) (length rows) ≡ above current
    new_above = ap (λ (x : Row). above x.parent) new ∙ ap above parent_is

    new_sibling : (row_at (rows ++ r ∷ []) (length rows)).sibling_before ≡ last_child
    new_sibling = ap (λ (x : Row). x.sibling_before) new ∙ sibling_is

    old_end : (k : ℕ) → k < length rows → end_at (rows ++ r ∷ []) k ≡ end_at rows k
    old_end k h = ap (λ (x : Row). x.end) (old k h)

    old_above : (k : ℕ) → k < length rows → above_at (rows ++ r ∷ []) k ≡ above_at rows k
    old_above k h = ap (λ (x : Row). above x.parent) (old k h)

    at_new : (k : ℕ) → k < length (rows ++ r ∷ []) → length rows ≤ k → k ≡ length rows
    at_new k h g = omega (arith, len)

    parents_are : row_parents (rows ++ r ∷ []) ≡ row_parents rows ++ current ∷ []
    parents_are = map_push (λ (x : Row). x.parent) rows r ∙ ap (λ (q : Option Node). row_parents rows ++ q ∷ []) parent_is

    past : (n : ℕ) → n < length (rows ++ r ∷ []) → n < end_at (rows ++ r ∷ []) n
    past n h = elim (cases_lt n (length rows)) [
      | inl below ↦ omega (arith, old_end n below, s.ends.past n below)
      | inr behind ↦ rw (at_new n h behind) (omega (arith, new_end))
    ]

    above_below : (m : ℕ) → m < length (rows ++ r ∷ []) → above_at (rows ++ r ∷ []) m ≤ m
    above_below m h = elim (cases_lt m (length rows)) [
      | inl below ↦ omega (arith, old_above m below, s.ends.above_below m below)
      | inr behind ↦ rw (at_new m h behind) (omega (arith, new_above, s.current_below))
    ]

    before_end : (m n : ℕ) → m < length (rows ++ r ∷ []) → above_at (rows ++ r ∷ []) m ≡ n + 1 → m < end_at (rows ++ r ∷ []) n
    before_end m n h up = elim (cases_lt m (length rows)) [
      | inl below ↦ (let up' : above_at rows m ≡ n + 1 = omega (arith, old_above m below) in
          omega (arith, old_end n (omega (arith, s.ends.above_below m below)), s.ends.before_end m n below up'))
      | inr behind ↦ (let e : m ≡ length rows = at_new m h behind in
          let up' : above current ≡ n + 1 = sym new_above ∙ (ap (above_at (rows ++ r ∷ [])) (sym e) ∙ up) in
          omega (arith, old_end n (omega (arith, s.current_below)), s.current_open n up'))
    ]

    inside : (n m : ℕ) → n < m → m < length (rows ++ r ∷ []) → m < end_at (rows ++ r ∷ []) n → n < above_at (rows ++ r ∷ []) m
    inside n m a h w =
        let in_old : n < length rows = omega (arith, len) in
        elim (cases_lt m (length rows)) [
          | inl below ↦ omega (arith, old_above m below, s.ends.inside n m a below (omega (arith, old_end n in_old)))
          | inr behind ↦ (let e : m ≡ length rows = at_new m h behind in
              let open' : length rows < end_at rows n = omega (arith, old_end n in_old) in
              let low : n < above current = (s.ended n in_old open').1 in
              rw e (omega (arith, new_above)))
        ]

    nested : (n m : ℕ) → n < m → m < length (rows ++ r ∷ []) → m < end_at (rows ++ r ∷ []) n → end_at (rows ++ r ∷ []) m ≤ end_at (rows ++ r ∷ []) n
    nested n m a h w =
        let in_old : n < length rows = omega (arith, len) in
        elim (cases_lt m (length rows)) [
          | inl below ↦ omega (arith, old_end m below, old_end n in_old, s.ends.nested n m a below (omega (arith, old_end n in_old)))
          | inr behind ↦ (let e : m ≡ length rows = at_new m h behind in
              let open' : length rows < end_at rows n = omega (arith, old_end n in_old) in
              rw e (omega (arith, new_end, old_end n in_old, (s.ended n in_old open').0)))
        ]

    ended : (n : ℕ) → n < length (rows ++ r ∷ []) → length (rows ++ r ∷ []) < end_at (rows ++ r ∷ []) n → (end_at (rows ++ r ∷ []) n ≡ beyond) × (n < above (Some (record { 0 = length rows })))
    ended n h w = elim (cases_lt n (length rows)) [
      | inl below ↦ (let open' : length rows < end_at rows n = omega (arith, old_end n below, len) in
          (old_end n below ∙ (s.ended n below open').0, omega arith))
      | inr behind ↦ (rw (at_new n h behind) new_end, omega (arith, len))
    ]

    siblings : LeadsBack (rows ++ r ∷ [])
    siblings n h = elim (cases_lt n (length rows)) [
      | inl below ↦ rw (old n below) (last_below-push rows r (above_at rows n) n (row_at rows n).sibling_before (omega arith) (s.siblings n below))
      | inr behind ↦ rw (at_new n h behind, new_above, new_sibling) (last_below-push rows r (above current) (length rows) last_child (omega arith) s.last_child_is)
    ]

    unlinked : Unlinked (rows ++ r ∷ [])
    unlinked n h = elim (cases_lt n (length rows)) [
      | inl below ↦ ap (λ (x : Row). x.first_own) (old n below) ∙ s.unlinked n below
      | inr behind ↦ rw (at_new n h behind) (ap (λ (x : Row). x.first_own) new ∙ first_is)
    ]

-- ---- a node is closed

depth_of_parent : (ps : List (Option Node)) (q : Option Node) (depth : ℕ) → depth ≡ length (ancestors_by (ancestors ps) q) + 1 → depth - 1 ≡ depth_in ps q
depth_of_parent ps None depth e = omega arith
depth_of_parent ps (Some p) depth e = omega arith

-- rows with the same parents have the same last ones
last_below-same : (old new : List Row) (parent i j : ℕ) → ((k : ℕ) → above_at new k ≡ above_at old k) → IsLastBelow old parent i j → IsLastBelow new parent i j
last_below-same old new parent i j same s = record {
  is = λ h. same j ∙ s.is h;
  none = λ k h past e. s.none k h past (sym (same k) ∙ e);
}

pub closed_is : (rows : List Row) (tokens : List OwnToken) (n : Node) (depth deepest last_child to : ℕ)
    → IsBuilding rows tokens (Some n) depth deepest last_child
    → IsBuilding (set rows n.0 (ended_row (row_at rows n.0) to (length rows))) tokens (row_at rows n.0).parent (depth - 1) deepest n.0
closed_is rows tokens n depth deepest last_child to s = record {
  few = omega (arith, len);
  few_tokens = s.few_tokens;
  ends = record {
    past = past;
    above_below = λ m h. omega (arith, same_above m, s.ends.above_below m (omega (arith, len)));
    before_end = before_end;
    inside = inside;
    nested = nested;
  };
  ended = ended;
  current_below = omega (arith, len, s.ends.above_below c in_rows);
  current_open = current_open;
  siblings = λ k h. rw (same_above k, same_before k) (last_below-same rows rows' (above_at rows k) k (row_at rows k).sibling_before same_above (s.siblings k (omega (arith, len))));
  last_child_is = record {
    is = λ h. same_above c;
    none = λ k h past e. absurd (omega (arith, same_above k, e, s.ends.above_below c in_rows, s.ends.inside c k (past (omega (arith, len))) (omega (arith, len)) (omega (arith, was_open, s.few, len))));
  };
  owners = λ k h. omega (arith, s.owners k h, len);
  unlinked = unlinked;
  depth_is = rw same_parents (depth_of_parent (row_parents rows) (row_at rows c).parent depth
      (s.depth_is ∙ ap (λ (up : List Node). length up + 1) (above_row-at rows c s.ends in_rows)));
  deepest_is = rw same_parents s.deepest_is;
  shallow = omega (arith, len, s.shallow);
  depth_small = omega (arith, s.depth_small);
}
  where
    c : ℕ
    c = n.0

    row : Row
    row = ended_row (row_at rows c) to (length rows)

    rows' : List Row
    rows' = set rows c row

    len : length rows' ≡ length rows
    len = length-set rows c row

    in_rows : c < length rows
    in_rows = omega (arith, s.current_below)

    here : row_at rows' c ≡ row
    here = get_or-set_same rows c row no_row in_rows

    else' : (k : ℕ) → k ≢ c → row_at rows' k ≡ row_at rows k
    else' k other = get_or-set_other rows c k row no_row other

    end_here : end_at rows' c ≡ length rows
    end_here = ap (λ (x : Row). x.end) here

    end_else : (k : ℕ) → k ≢ c → end_at rows' k ≡ end_at rows k
    end_else k other = ap (λ (x : Row). x.end) (else' k other)

    was_open : end_at rows c ≡ beyond
    was_open = s.current_open c (omega arith)

    same_above : (k : ℕ) → above_at rows' k ≡ above_at rows k
    same_above k = elim (cases_eq k c) [
      | inl at ↦ rw at (ap (λ (x : Row). above x.parent) here)
      | inr other ↦ ap (λ (x : Row). above x.parent) (else' k other)
    ]

    same_before : (k : ℕ) → (row_at rows' k).sibling_before ≡ (row_at rows k).sibling_before
    same_before k = elim (cases_eq k c) [
      | inl at ↦ rw at (ap (λ (x : Row). x.sibling_before) here)
      | inr other ↦ ap (λ (x : Row). x.sibling_before) (else' k other)
    ]

    same_parents : row_parents rows' ≡ row_parents rows
    same_parents =
        map-set (λ (x : Row). x.parent) rows c row
        ∙ (ap (λ (q : Option Node). set (row_parents rows) c q) (sym (get_or-map (λ (x : Row). x.parent) rows c no_row None in_rows))
        ∙ set-get_or (row_parents rows) c None)

    -- behind the current node all have ended
    behind : (k : ℕ) → c < k → k < length rows → end_at rows k ≤ length rows
    behind k a h = elim (cases_lt (length rows) (end_at rows k)) [
      | inl open' ↦ absurd (omega (arith, (s.ended k h open').1))
      | inr done ↦ done
    ]

    past : (k : ℕ) → k < length rows' → k < end_at rows' k
    past k h = elim (cases_eq k c) [
      | inl at ↦ rw at (omega (arith, end_here))
      | inr other ↦ omega (arith, end_else k other, s.ends.past k (omega (arith, len)))
    ]

    before_end : (m k : ℕ) → m < length rows' → above_at rows' m ≡ k + 1 → m < end_at rows' k
    before_end m k h up = elim (cases_eq k c) [
      | inl at ↦ rw at (omega (arith, end_here, len))
      | inr other ↦ omega (arith, end_else k other, s.ends.before_end m k (omega (arith, len)) (sym (same_above m) ∙ up))
    ]

    inside : (k m : ℕ) → k < m → m < length rows' → m < end_at rows' k → k < above_at rows' m
    inside k m a h w = elim (cases_eq k c) [
      | inl at ↦ omega (arith, same_above m, s.ends.inside k m a (omega (arith, len)) (rw at (omega (arith, was_open, len, s.few))))
      | inr other ↦ omega (arith, same_above m, s.ends.inside k m a (omega (arith, len)) (omega (arith, end_else k other)))
    ]

    nested : (k m : ℕ) → k < m → m < length rows' → m < end_at rows' k → end_at rows' m ≤ end_at rows' k
    nested k m a h w = elim (cases_eq k c) [
      | inl at ↦ (let other : m ≢ c = omega arith in
          rw at (omega (arith, end_here, end_else m other, behind m (omega arith) (omega (arith, len)))))
      | inr other ↦ (let wide : end_at rows m ≤ end_at rows k = s.ends.nested k m a (omega (arith, len)) (omega (arith, end_else k other)) in
          elim (cases_eq m c) [
            | inl at ↦ rw at (omega (arith, end_here, end_else k other, was_open, s.few, ap (end_at rows) at))
            | inr apart ↦ omega (arith, end_else k other, end_else m apart)
          ])
    ]

    -- what is still open stands above the node
    ended : (k : ℕ) → k < length rows' → length rows' < end_at rows' k → (end_at rows' k ≡ beyond) × (k < above (row_at rows c).parent)
    ended k h w = elim (cases_eq k c) [
      | inl at ↦ absurd (omega (arith, ap (end_at rows') at, end_here, len))
      | inr other ↦ (let open' : length rows < end_at rows k = omega (arith, end_else k other, len) in
          let was : (end_at rows k ≡ beyond) × (k < above (Some n)) = s.ended k (omega (arith, len)) open' in
          let low : k < c = omega (arith, was.1, other) in
          (end_else k other ∙ was.0, s.ends.inside k c low in_rows (omega arith)))
    ]

    current_open : (k : ℕ) → above (row_at rows c).parent ≡ k + 1 → end_at rows' k ≡ beyond
    current_open k up =
        let low : k < c = omega (arith, s.ends.above_below c in_rows) in
        let reach : c < end_at rows k = s.ends.before_end c k in_rows up in
        let wide : end_at rows c ≤ end_at rows k = s.ends.nested k c low in_rows reach in
        let was : (end_at rows k ≡ beyond) × (k < above (Some n)) = s.ended k (omega arith) (omega (arith, was_open, s.few)) in
        let other : k ≢ c = omega arith in
        end_else k other ∙ was.0

    unlinked : Unlinked rows'
    unlinked k h = elim (cases_eq k c) [
      | inl at ↦ rw at (ap (λ (x : Row). x.first_own) here ∙ s.unlinked c in_rows)
      | inr other ↦ ap (λ (x : Row). x.first_own) (else' k other) ∙ s.unlinked k (omega (arith, len))
    ]

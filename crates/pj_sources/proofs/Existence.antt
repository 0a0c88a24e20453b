-- Each list of paths has an order, and each reading an outcome.
use Rattle.std.proofs.Common.{◌≡◌, ◌∙◌, ◌+◌, ◌≤◌, true, false, List, [], ◌∷◌, ◌++◌, length, get_or, nat_lt, None, Some, Contains, ◌⊎◌, inl, inr, refl, sym, ap, subst, arith}
use Rattle.std.specs.List.{AllByRecursion}
use Rattle.std.specs.List.Sorted.{IsStrictlySortedBy}
use Rattle.std.specs.Ordering.{ordering_reverse}
use Rattle.std.specs.declared.cmp.Ordering.TheVariants.{Less, Equal, Greater}
use Rattle.std.proofs.lemmas.Cmp.{nat_list_cmp_total}
use Rattle.std.proofs.lemmas.List.{append-nil, append_assoc}
use Rattle.std.proofs.lemmas.List.Elements.{All-nil, All-push, Contains-get_or, recursion_from_All}
use Rattle.pj_outside.specs.Files.{Files, Bytes, bytes_at}
use Rattle.pj_sources.proofs.Ordered.{above, first_member, later_member, member_cases, no_member, tied_same}
use Rattle.pj_sources.proofs.ReadingLaws.{push_within}
use Rattle.pj_sources.specs.Limits.{most_file_bytes, most_all_bytes}
use Rattle.pj_sources.specs.Listing.{IsInOrder}
use Rattle.pj_sources.specs.Paths.{byte_order}
use Rattle.pj_sources.specs.Reading.{AreRead, IsRefused, IsRefusedBehind, bytes_together, missing, too_long, too_much}
use Rattle.pj_sources.specs.declared.limits.SourceLimit.TheVariants as limit
use Rattle.pj_sources.specs.declared.refused.ReadRefused.{ReadRefused}
use Rattle.pj_sources.specs.declared.refused.ReadRefused.TheVariants.{Missing, Limit}

-- ---- an order

-- a path put into a list in order
record Placed (x : Bytes) (ys : List Bytes) : Type 0 where
  placed : List Bytes
  ascending : IsStrictlySortedBy byte_order placed
  from : (q : Bytes) → Contains placed q → (x ≡ q) ⊎ Contains ys q
  itself : Contains placed x
  others : (q : Bytes) → Contains ys q → Contains placed q

lower : (x y : Bytes) (ys : List Bytes) → byte_order x y ≡ Less → AllByRecursion (λ z. byte_order y z ≡ Less) ys → AllByRecursion (λ z. byte_order x z ≡ Less) ys
lower x y [] l h = tt
lower x y (z ∷ ys) l h = (nat_list_cmp_total.trans x y z l h.0, lower x y ys l h.1)

placed_behind : (x y : Bytes) (ys : List Bytes) → byte_order y x ≡ Less → AllByRecursion (λ z. byte_order y z ≡ Less) ys → Placed x ys → Placed x (y ∷ ys)
unfolding IsStrictlySortedBy
placed_behind x y ys less all p =
    let P : Bytes → Type 0 = λ z. byte_order y z ≡ Less in
    let each : (q : Bytes) → Contains p.placed q → P q = λ q has. elim (p.from q has) [ inl same ↦ subst P same less | inr later ↦ above y ys q all later ] in
    record {
      placed = y ∷ p.placed;
      ascending = (recursion_from_All P p.placed (λ k d below. each (get_or p.placed k d) (Contains-get_or p.placed k d below)), p.ascending);
      from = λ q has. elim (member_cases y p.placed q has) [
        | inl same ↦ inr (subst (λ (z : Bytes). Contains (y ∷ ys) z) same (first_member y ys))
        | inr later ↦ elim (p.from q later) [ inl is ↦ inl is | inr among ↦ inr (later_member y ys q among) ]
      ];
      itself = later_member y p.placed x p.itself;
      others = λ q has. elim (member_cases y ys q has) [
        | inl same ↦ subst (λ (z : Bytes). Contains (y ∷ p.placed) z) same (first_member y p.placed)
        | inr later ↦ later_member y p.placed q (p.others q later)
      ];
    }

placed_before : (x y : Bytes) (ys : List Bytes) → byte_order x y ≡ Less → IsStrictlySortedBy byte_order (y ∷ ys) → Placed x (y ∷ ys)
unfolding IsStrictlySortedBy
placed_before x y ys less up = record {
  placed = x ∷ y ∷ ys;
  ascending = ((less, lower x y ys less up.0), up);
  from = λ q has. member_cases x (y ∷ ys) q has;
  itself = first_member x (y ∷ ys);
  others = λ q has. later_member x (y ∷ ys) q has;
}

placed_there : (x y : Bytes) (ys : List Bytes) → x ≡ y → IsStrictlySortedBy byte_order (y ∷ ys) → Placed x (y ∷ ys)
placed_there x y ys same up = record {
  placed = y ∷ ys;
  ascending = up;
  from = λ q has. inr has;
  itself = subst (λ (z : Bytes). Contains (y ∷ ys) z) (sym same) (first_member y ys);
  others = λ q has. has;
}

place : (x : Bytes) (ys : List Bytes) → IsStrictlySortedBy byte_order ys → Placed x ys
unfolding IsStrictlySortedBy
place x [] up = record { placed = x ∷ []; ascending = (tt, tt); from = λ q has. member_cases x [] q has; itself = first_member x []; others = λ q has. absurd (no_member q has) }
place x (y ∷ ys) up = elim (byte_order x y) as (λ r. byte_order x y ≡ r → Placed x (y ∷ ys)) [
  | Less ↦ λ e. placed_before x y ys e up
  | Equal ↦ λ e. placed_there x y ys (tied_same x y e) up
  | Greater ↦ λ e. placed_behind x y ys (nat_list_cmp_total.antisymm y x ∙ ap ordering_reverse e) up.0 (place x ys up.1)
] refl

pub some_order : (xs : List Bytes) → (ys : List Bytes) × IsInOrder xs ys
unfolding IsStrictlySortedBy
some_order [] = ([], record { ascending = tt; members = λ q. (λ has. has, λ has. has) })
some_order (x ∷ xs) =
    let rest = some_order xs in
    let p = place x rest.0 rest.1.ascending in (
      p.placed,
      record {
        ascending = p.ascending;
        members = λ q. (
          λ has. elim (p.from q has) [
            | inl same ↦ subst (λ (z : Bytes). Contains (x ∷ xs) z) same (first_member x xs)
            | inr later ↦ later_member x xs q ((rest.1.members q).0 later)
          ],
          λ has. elim (member_cases x xs q has) [
            | inl same ↦ subst (λ (z : Bytes). Contains p.placed z) same p.itself
            | inr later ↦ p.others q ((rest.1.members q).1 later)
          ],
        );
      },
    )

-- ---- an outcome

abbrev pub Outcome : Files → List Bytes → Type 0
Outcome files paths = ((read : Files) × AreRead files paths read) ⊎ ((refused : ReadRefused) × IsRefused files paths refused)

refused_behind : (files : Files) (front : List Bytes) (path : Bytes) (behind : List Bytes) (read : Files) (refused : ReadRefused) → AreRead files front read → IsRefusedBehind files (bytes_together read) path refused → Outcome files (front ++ path ∷ behind)
refused_behind files front path behind read refused are is = inr (refused, record { front = front; path = path; behind = behind; paths_are = refl; read = read; are_read = are; is_refused = is })

-- what comes of the paths that are left, behind those that were read
outcome_behind : (files : Files) (front : List Bytes) (left : List Bytes) (read : Files) → AreRead files front read → Outcome files (front ++ left)
outcome_behind files front [] read are = inl (read, subst (λ (ps : List Bytes). AreRead files ps read) (sym (append-nil front)) are)
outcome_behind files front (path ∷ left) read are =
    elim (bytes_at files path) as (λ o. bytes_at files path ≡ o → Outcome files (front ++ path ∷ left)) [
      | None ↦ λ none. refused_behind files front path left read (Missing path) are (missing none)
      | Some bytes ↦ λ there. elim (nat_lt most_file_bytes (length bytes)) as (λ t. nat_lt most_file_bytes (length bytes) ≡ t → Outcome files (front ++ path ∷ left)) [
        | true ↦ λ t. refused_behind files front path left read (Limit (limit.FileBytes path)) are (too_long bytes there (grind arith))
        | false ↦ λ t. elim (nat_lt most_all_bytes (bytes_together read + length bytes)) as (λ u. nat_lt most_all_bytes (bytes_together read + length bytes) ≡ u → Outcome files (front ++ path ∷ left)) [
          | true ↦ λ u. refused_behind files front path left read (Limit limit.AllBytes) are (too_much bytes there (grind arith) (grind arith))
          | false ↦ λ u.
              let more : AreRead files (front ++ path ∷ []) (read ++ (path, bytes) ∷ []) = record {
                within = push_within front path read bytes are.within (grind arith) (grind arith);
                bytes_are = All-push (λ (file : Bytes × Bytes). bytes_at files file.0 ≡ Some file.1) read (path, bytes) are.bytes_are there;
              } in
              subst (Outcome files) (append_assoc front (path ∷ []) left) (outcome_behind files (front ++ path ∷ []) left (read ++ (path, bytes) ∷ []) more)
        ] refl
      ] refl
    ] refl

pub some_outcome : (files : Files) (paths : List Bytes) → Outcome files paths
some_outcome files paths = outcome_behind files [] paths [] (record {
  within = record { paths_are = refl; short = All-nil (λ (file : Bytes × Bytes). length file.1 ≤ most_file_bytes); together = omega arith };
  bytes_are = All-nil (λ (file : Bytes × Bytes). bytes_at files file.0 ≡ Some file.1);
})

-- Positions in ascending order, between bounds. A position is seen as one number, twice its offset and its rank.
use Rattle.std.proofs.Common.{◌≡◌, ℕ, ◌+◌, ◌*◌, ◌<◌, ◌≤◌, inl, inr, ⊎_elim, List, [], ◌∷◌, ◌++◌, ap, subst, sym, refl, arith}
use Rattle.std.specs.Prelude.{⊤}
use Rattle.std.proofs.lemmas.Bool.{cases_lt}
use Rattle.pj_xreadings.specs.Mentions.{Mention, Variable, Call, Argument, Binds, Ends}
use Rattle.pj_xsyntax_laws.specs.Order.{Position, positions, IsBefore, IsBeforeAll, Ascend, AreBelow}

-- the position as one number
abbrev pub key : Position → ℕ
key p = 2 * p.from + p.rank

-- the positions ascend, from the lower bound on and below the upper one
abbrev pub Ordered : ℕ → ℕ → List Position → Type 0
Ordered low high [] = ⊤
Ordered low high (p ∷ ps) = (p.rank ≤ 1) × (low ≤ key p) × (key p < high) × Ordered (key p + 1) high ps

pub lower : (low low' high : ℕ) (ps : List Position) → low' ≤ low → Ordered low high ps → Ordered low' high ps
lower low low' high [] le o = tt
lower low low' high (p ∷ ps) le (r, a, b, o) = (r, omega arith, b, o)

pub higher : (low high high' : ℕ) (ps : List Position) → high ≤ high' → Ordered low high ps → Ordered low high' ps
higher low high high' [] le o = tt
higher low high high' (p ∷ ps) le (r, a, b, o) = (r, a, omega arith, higher (key p + 1) high high' ps le o)

pub widen : (low high low' high' : ℕ) (ps : List Position) → low' ≤ low → high ≤ high' → Ordered low high ps → Ordered low' high' ps
widen low high low' high' ps le ge o = lower low low' high' ps le (higher low high high' ps ge o)

pub join : (low middle middle' high : ℕ) (ps qs : List Position) → low ≤ middle' → middle ≤ middle' → middle ≤ high → Ordered low middle ps → Ordered middle' high qs →
    Ordered low high (ps ++ qs)
join low middle middle' high [] qs a b c o u = lower middle' low high qs a u
join low middle middle' high (p ∷ ps) qs a b c (r, d, e, o) u =
    (r, d, omega arith, join (key p + 1) middle middle' high ps qs (omega arith) b c o u)

pub positions_append : (ms ns : List Mention) → positions (ms ++ ns) ≡ positions ms ++ positions ns
positions_append [] ns = refl
positions_append (Argument role written from ∷ ms) ns = ap (λ l. record { from = from; rank = 0 } ∷ l) (positions_append ms ns)
positions_append (Call name count from ∷ ms) ns = ap (λ l. record { from = from; rank = 1 } ∷ l) (positions_append ms ns)
positions_append (Variable name from ∷ ms) ns = ap (λ l. record { from = from; rank = 1 } ∷ l) (positions_append ms ns)
positions_append (Binds name ∷ ms) ns = positions_append ms ns
positions_append (Ends count ∷ ms) ns = positions_append ms ns

-- ---- mentions

-- the mentions that have an offset stand in ascending order between the bounds
pub record InOrder (low high : ℕ) (ms : List Mention) : Type 0 where
  pub ordered : Ordered low high (positions ms)

pub none_in_order : (low high : ℕ) → InOrder low high []
none_in_order low high = record { ordered = tt }

pub widened : {low high : ℕ} {ms : List Mention} (low' high' : ℕ) → low' ≤ low → high ≤ high' → InOrder low high ms → InOrder low' high' ms
widened {low} {high} {ms} low' high' le ge o = record { ordered = widen low high low' high' (positions ms) le ge o.ordered }

pub joined : {low middle middle' high : ℕ} {ms ns : List Mention} → low ≤ middle' → middle ≤ middle' → middle ≤ high → InOrder low middle ms → InOrder middle' high ns →
    InOrder low high (ms ++ ns)
joined {low} {middle} {middle'} {high} {ms} {ns} a b c o u =
    record { ordered = subst (Ordered low high) (sym (positions_append ms ns)) (join low middle middle' high (positions ms) (positions ns) a b c o.ordered u.ordered) }

-- ---- what it says

before : (p q : Position) → p.rank ≤ 1 → q.rank ≤ 1 → key p < key q → IsBefore p q
before p q a b lt = ⊎_elim
    (λ (h : p.from < q.from). inl h)
    (λ (h : q.from ≤ p.from). inr (omega arith, omega arith))
    (cases_lt p.from q.from)

before_all : (p : Position) (low high : ℕ) (qs : List Position) → p.rank ≤ 1 → key p < low → Ordered low high qs → IsBeforeAll p qs
before_all p low high [] a lt o = tt
before_all p low high (q ∷ qs) a lt (r, d, e, o) = (before p q a r (omega arith), before_all p (key q + 1) high qs a (omega arith) o)

pub ascend : (low high : ℕ) (ps : List Position) → Ordered low high ps → Ascend ps
ascend low high [] o = tt
ascend low high (p ∷ ps) (r, d, e, o) = (before_all p (key p + 1) high ps r (omega arith) o, ascend (key p + 1) high ps o)

pub below : (limit low high : ℕ) (ps : List Position) → high ≤ 2 * limit → Ordered low high ps → AreBelow limit ps
below limit low high [] le o = tt
below limit low high (p ∷ ps) le (r, d, e, o) = (omega arith, below limit (key p + 1) high ps le o)

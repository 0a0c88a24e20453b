-- The own tokens of a node, one after another.
use Rattle.std.proofs.Common.{ℕ, ◌≡◌, ◌+◌, ◌<◌, ◌≤◌, List, [], ◌∷◌, length, map, ap, ◌∙◌, arith, subst}
use Rattle.std.specs.List.{filter}
use Rattle.std.proofs.lemmas.Bool.{eq-eqb, ne_eqb}
use Rattle.std.proofs.lemmas.List.{drop_all, length-map}
use Rattle.pj_tree.specs.Tree.{slice_at}
use Rattle.pj_tree.specs.Rows.{IsNextOf, LeadsOn, texts_left, spans_of, belongs, token_at, owner_at, no_token, own_spans}
use Rattle.pj_tree.specs.declared.row.OwnToken.{OwnToken}
use Rattle.pj_tree.specs.declared.node.Node.{Node}
use Rattle.pj_tree.proofs.Lists.{filter-skip, filter-first, filter-le}

-- the next token of the owner is where the owner's tokens go on
pub texts_skip : (text : List ℕ) (tokens : List OwnToken) (owner : Node) (i j : ℕ) → IsNextOf tokens owner.0 i j → texts_left text tokens owner i ≡ texts_left text tokens owner j
texts_skip text tokens owner i j s =
    ap (λ (ts : List OwnToken). map (slice_at text) (spans_of ts))
    (filter-skip (belongs owner.0) tokens no_token i j s.from (λ k a b c. ne_eqb (owner_at tokens k) owner.0 (s.none k a b c)))

pub texts_done : (text : List ℕ) (tokens : List OwnToken) (owner : Node) (i : ℕ) → length tokens ≤ i → texts_left text tokens owner i ≡ []
texts_done text tokens owner i h = ap (λ (ts : List OwnToken). map (slice_at text) (spans_of (filter (belongs owner.0) ts))) (drop_all i tokens h)

pub texts_next : (text : List ℕ) (tokens : List OwnToken) (owner : Node) (i : ℕ) → LeadsOn tokens 0 → i < length tokens → owner_at tokens i ≡ owner.0
    → texts_left text tokens owner i ≡ slice_at text (token_at tokens i).span ∷ texts_left text tokens owner (token_at tokens i).next
texts_next text tokens owner i leads h e =
    let on : IsNextOf tokens owner.0 (i + 1) (token_at tokens i).next = subst (λ (n : ℕ). IsNextOf tokens n (i + 1) (token_at tokens i).next) e (leads i (omega arith) h) in
    ap (λ (ts : List OwnToken). map (slice_at text) (spans_of ts)) (filter-first (belongs owner.0) tokens no_token i h (eq-eqb (owner_at tokens i) owner.0 e))
    ∙ ap (λ (rest : List (List ℕ)). slice_at text (token_at tokens i).span ∷ rest) (texts_skip text tokens owner (i + 1) (token_at tokens i).next on)

-- the token behind one of the owner is one of the owner
pub next_owner : (tokens : List OwnToken) (owner : Node) (i : ℕ) → LeadsOn tokens 0 → i < length tokens → owner_at tokens i ≡ owner.0
    → (token_at tokens i).next < length tokens → owner_at tokens (token_at tokens i).next ≡ owner.0
next_owner tokens owner i leads h e more = (leads i (omega arith) h).is more ∙ e

-- there are no more own tokens than tokens
pub texts_few : (text : List ℕ) (tokens : List OwnToken) (n : ℕ) → length (map (slice_at text) (own_spans tokens n)) ≤ length tokens
texts_few text tokens n = omega (arith, length-map (own_spans tokens n) (slice_at text), length-map (filter (belongs n) tokens) (λ (t : OwnToken). t.span), filter-le (belongs n) tokens)

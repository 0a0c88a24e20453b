-- Tokens of one letter each, of the texts of tests.
use Rattle.std.proofs.Common.{◌≡◌, ℕ, suc, ◌+◌, ◌<◌, ◌≤◌, List, [], ◌∷◌, ◌++◌, length, refl, sym, subst, arith}
use Rattle.std.specs.List.{All}
use Rattle.std.specs.Str.{IsAscii}
use Rattle.std.proofs.lemmas.Str.{IsCharBoundary-from_ascii}
use Rattle.std.proofs.lemmas.List.Elements.{All-nil, All-cons, All-append}
use Rattle.pj_tree.specs.Tree.{IsSpanOf}
use Rattle.pj_tree.specs.declared.node.Span.{Span}
use Rattle.pj_shape.specs.Words.{AreTokens, AreInOrder}

-- the tokens end before an offset
pub record Letters (text : List ℕ) (at : ℕ) (tokens : List Span) : Type 0 where
  pub are : AreTokens text tokens
  pub behind : All (λ s. s.to ≤ at) tokens

in_order : (ss : List Span) (s : Span) → AreInOrder ss → All (λ t. t.to ≤ s.from) ss → AreInOrder (ss ++ s ∷ [])
in_order [] s o h = (tt, tt)
in_order (t ∷ []) s o h = (h 0 t (let l : length (t ∷ []) ≡ suc 0 = refl in omega arith), (tt, tt))
in_order (t ∷ u ∷ ss) s o h = (o.0, in_order (u ∷ ss) s o.1 (λ k d lt. h (suc k) d (let l : length (t ∷ u ∷ ss) ≡ suc (length (u ∷ ss)) = refl in omega arith)))

pub none : (text : List ℕ) (at : ℕ) (tokens : List Span) → tokens ≡ [] → Letters text at tokens
none text at tokens e =
    subst (Letters text at) (sym e) (record { are = record { within = All-nil (IsSpanOf text); ordered = tt }; behind = All-nil (λ (s : Span). s.to ≤ at) })

later_all : (a b : ℕ) (ss : List Span) → a ≤ b → All (λ s. s.to ≤ a) ss → All (λ s. s.to ≤ b) ss
later_all a b ss le h = λ k d lt. let x = h k d lt in omega arith

pub skipped : (text : List ℕ) (at : ℕ) (tokens : List Span) → Letters text at tokens → Letters text (at + 1) tokens
skipped text at tokens l = record { are = l.are; behind = later_all at (at + 1) tokens (omega arith) l.behind }

pub one_more : (text : List ℕ) (at : ℕ) (tokens more : List Span) → IsAscii text → at < length text → Letters text at tokens → more ≡ tokens ++ record { from = at; to = at + 1 } ∷ [] → Letters text (at + 1) more
one_more text at tokens more ascii lt l e =
    let s : Span = record { from = at; to = at + 1 } in
    let is : IsSpanOf text s = record {
      ordered = (let z : at ≤ at + 1 = omega arith in z);
      begins = IsCharBoundary-from_ascii text at ascii (omega arith);
      ends = IsCharBoundary-from_ascii text (at + 1) ascii (omega arith);
    } in
    let z : at + 1 ≤ at + 1 = omega arith in
    subst (Letters text (at + 1)) (sym e) (record {
      are = record {
        within = All-append (IsSpanOf text) tokens (s ∷ []) l.are.within (All-cons (IsSpanOf text) s [] is (All-nil (IsSpanOf text)));
        ordered = in_order tokens s l.are.ordered l.behind;
      };
      behind = All-append (λ (t : Span). t.to ≤ at + 1) tokens (s ∷ []) (later_all at (at + 1) tokens (omega arith) l.behind) (All-cons (λ (t : Span). t.to ≤ at + 1) s [] z (All-nil (λ (t : Span). t.to ≤ at + 1)));
    })

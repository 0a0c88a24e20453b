-- Predicates that keep all.
use Rattle.std.proofs.Common.{◌≡◌, ℕ, ◌+◌, true, List, [], ◌∷◌, ◌++◌, map, length, sym, ◌∙◌, ap, append_assoc}
use Rattle.std.proofs.lemmas.List.{append-nil}
use Rattle.pj_xexpressions.specs.declared.expr.Expr.{Expr}
use Rattle.pj_xexpressions.specs.declared.expr.Expr.TheVariants as expr
use Rattle.pj_xexpressions.specs.declared.function.Function.TheVariants as f
use Rattle.pj_xvalue.specs.Items.{ItemValue, Boolean}
use Rattle.pj_xsteps.specs.Means.{Means, give, judged, ◌>>=◌, chain}
use Rattle.pj_xsteps.specs.Context.{Context, Variables, Denotation, at}
use Rattle.pj_xsteps.specs.Turns.{numbered, in_turn, with_kept, narrowed}
use Rattle.pj_xsteps.specs.Calls.{call}
use Rattle.pj_xsteps.specs.Denotes.{denotes, arguments_of}
use Rattle.pj_xsteps.proofs.Forms.{denotes_filter, denotes_call}
use Rattle.pj_xsteps.proofs.SequenceLaws.{then-give}
use Rattle.pj_xlaws.specs.Laws.{FilteredByTrue}

all_kept : (d : Denotation) (size : ℕ) (v : Variables) → ((c : Context) → d c v ≡ give (Boolean true ∷ [])) → (p : ℕ) (items found : List ItemValue)
    → chain (in_turn d size v) with_kept (numbered p items) found ≡ give (found ++ items)
all_kept d size v h p [] found = ap (λ (xs : List ItemValue). give xs) (sym (append-nil found))
all_kept d size v h p (x ∷ xs) found =
    ap (λ (m : Means (List ItemValue)). m >>= λ value. judged (with_kept (p, x) found value) >>= λ more. chain (in_turn d size v) with_kept (numbered (p + 1) xs) more) (h (at x p size))
    ∙ all_kept d size v h (p + 1) xs (found ++ x ∷ [])
    ∙ ap (λ (ys : List ItemValue). give ys) (append_assoc found (x ∷ []) xs)

pub filtered : FilteredByTrue
filtered a reply primary predicates arguments c v is none =
    denotes_filter a reply c v primary predicates
    ∙ ap (λ (es : List Expr). denotes a reply primary.value c v >>= λ items. narrowed v (map (denotes a reply) es) items) is
    ∙ (λ i. denotes a reply primary.value c v >>= λ items. (
    let t : (k : Context) → denotes a reply (expr.Call f.True arguments) k v ≡ give (Boolean true ∷ []) = λ k. denotes_call a reply k v f.True arguments ∙ ap (λ (es : List Expr). arguments_of (map (denotes a reply) es) k v >>= λ values. judged (call a f.True k values)) none in
    (ap (λ (m : Means (List ItemValue)). m >>= λ found. give found) (all_kept (denotes a reply (expr.Call f.True arguments)) (length items) v t 1 items [])) i))
    ∙ then-give (denotes a reply primary.value c v)

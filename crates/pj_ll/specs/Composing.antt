-- Derivations one behind the other, and with more symbols behind.
use Rattle.std.proofs.Common.{ℕ, List, [], ◌∷◌, ◌++◌, sym, subst, append_assoc}
use Rattle.std.proofs.lemmas.List.{append-nil}
use Rattle.pj_ll.specs.declared.grammar.Symbol.{Symbol}
use Rattle.pj_ll.specs.declared.grammar.Symbol.TheVariants.{Terminal}
use Rattle.pj_ll.specs.Grammar.{Grammar}
use Rattle.pj_ll.specs.Leads.{Leads, stay, take_terminal, close, expand, Behind, at_start, behind, start}

module _ (g : Grammar) where
  pub join : {ss after : List Symbol} {ts ps : List ℕ} (us qs : List ℕ) (end : List Symbol) →
      Leads g ss ts ps after → Leads g after us qs end → Leads g ss (ts ++ us) (ps ++ qs) end
  join us qs end stay e = e
  join us qs end (take_terminal t d) e = take_terminal t (join us qs end d e)
  join us qs end (close d) e = close (join us qs end d e)
  join us qs end (expand n p line at rule d) e = expand n p line at rule (join us qs end d e)

  pub frame : {ss after : List Symbol} {ts ps : List ℕ} (more : List Symbol) →
      Leads g ss ts ps after → Leads g (ss ++ more) ts ps (after ++ more)
  frame more stay = stay
  frame more (take_terminal t d) = take_terminal t (frame more d)
  frame more (close d) = close (frame more d)
  frame {after = after} more (expand {ss} {ts} {ps} n p line at rule d) =
      expand n p line at rule (subst (λ l. Leads g l ts ps (after ++ more)) (append_assoc line.symbols ss more) (frame more d))

  pub and_take : {ss rest : List Symbol} {ts ps : List ℕ} (t : ℕ) → Leads g ss ts ps (Terminal t ∷ rest) → Leads g ss (ts ++ t ∷ []) ps rest
  and_take {ss} {rest} {ts} {ps} t d =
      subst (λ l. Leads g ss (ts ++ t ∷ []) l rest) (append-nil ps) (join (t ∷ []) [] rest d (take_terminal t stay))

  pub and_move : {ss after end : List Symbol} {ts ps qs : List ℕ} → Leads g ss ts ps after → Leads g after [] qs end → Leads g ss ts (ps ++ qs) end
  and_move {ss} {end = end} {ts} {ps} {qs} d e = subst (λ l. Leads g ss l (ps ++ qs) end) (append-nil ts) (join [] qs end d e)

  pub behind_leads : {ts ps : List ℕ} {ss : List Symbol} → Behind g ts ps ss → Leads g start ts ps ss
  behind_leads at_start = stay
  behind_leads {ps = ps} {ss} (behind before t is d) = subst (λ l. Leads g start l ps ss) (sym is) (and_take t d)

-- A step of a walk is the question that it asks, and what follows for the answer; also over another oracle.
use Rattle.std.specs.Prelude.{◌≡◌, List, [], ◌∷◌, ◌++◌, Option, Some, None, true, false, if◌then◌else◌, refl}
use Rattle.std.proofs.Common.{sym, ◌∙◌, ap}
use Rattle.pj_names.specs.declared.answer.Answer.{Answer}
use Rattle.pj_names.specs.ClassName.{Name, is_object}
use Rattle.pj_names.specs.Asking.{Asking, Return, ask, bind}
use Rattle.pj_names.proofs.MeaningLaws.{bind-bind}
use Rattle.pj_names.specs.Expand.{expand}
use Rattle.pj_types.specs.Stepped.{after_known, stepped}
use Rattle.pj_types.specs.Supertypes.{Listed, Standing, after_last, direct, given_next, last_asked, of_known, step, still_left}

-- the answer for the first of the names, where there is one
abbrev pub known_by : (Name → Asking Answer) → List Name → Asking (Option Answer)
known_by answer_of [] = Return None
known_by answer_of (name ∷ more) = bind (answer_of name) (λ answer. Return (Some answer))

-- A step is the question that it asks, and what follows for the answer.
direct-known : (class : Listed) → direct class ≡ bind (known_by ask (if is_object class.name then [] else class.name ∷ [])) (λ known. Return (of_known class.arguments known))
unfolding direct
direct-known class =
    elim (is_object class.name) as (λ b. bind (let m : Asking (Option Answer) = (if b then Return None else bind (ask class.name) (λ answer. Return (Some answer))) in m) (λ known. Return (of_known class.arguments known))
    ≡ bind (known_by ask (if b then [] else class.name ∷ [])) (λ known. Return (of_known class.arguments known))) [ true ↦ refl | false ↦ refl ]

after_last-known : (given : List Listed) → after_last given ≡ bind (known_by ask (last_asked given)) (λ known. Return (after_known given known))
after_last-known [] = refl
after_last-known (class ∷ []) = direct-known class
after_last-known (class ∷ (second ∷ more)) = after_last-known (second ∷ more)

pub step-known : (standing : Standing) → step standing ≡ bind (known_by ask (last_asked standing.given)) (λ known. Return (stepped standing known))
unfolding step
step-known standing =
    ap (λ m. bind m (λ more. Return (given_next standing (still_left standing.given (more ++ standing.to_visit))))) (after_last-known standing.given)
    ∙ bind-bind (known_by ask (last_asked standing.given)) (λ known. Return (after_known standing.given known)) (λ more. Return (given_next standing (still_left standing.given (more ++ standing.to_visit))))

expand-known : {A : Type 0} (F : Name → Asking Answer) (names : List Name) (k : Option Answer → A)
    → expand F (bind (known_by ask names) (λ known. Return (k known))) ≡ bind (known_by F names) (λ known. Return (k known))
unfolding expand
expand-known F [] k = refl
expand-known F (name ∷ more) k = sym (bind-bind (F name) (λ answer. Return (Some answer)) (λ known. Return (k known)))

-- The same over another oracle, which answers by meanings of its own.
pub expand-step : (F : Name → Asking Answer) (standing : Standing) → expand F (step standing) ≡ bind (known_by F (last_asked standing.given)) (λ known. Return (stepped standing known))
expand-step F standing = ap (λ m. expand F m) (step-known standing) ∙ expand-known F (last_asked standing.given) (stepped standing)

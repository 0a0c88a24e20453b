-- Evaluations one after another.
use Rattle.std.proofs.Common.{◌≡◌, Result, Ok, Err, refl, ◌∙◌}
use Rattle.pj_names.specs.Asking.{Asking, Return, Ask, Unbounded, bind}
use Rattle.pj_xvalue.specs.declared.fault.XCode.{XCode}
use Rattle.pj_xsteps.specs.Means.{Means, give, after, ◌>>=◌}

-- sequences nest to the right
pub bind-assoc : {A B C : Type 0} (m : Asking A) (f : A → Asking B) (g : B → Asking C) → bind (bind m f) g ≡ bind m (λ x. bind (f x) g)
bind-assoc (Return v) f g = refl
bind-assoc (Ask n k) f g = λ i. Ask n (λ answer. bind-assoc (k answer) f g i)
bind-assoc (Unbounded r) f g = λ i. Unbounded (λ depth. bind-assoc (r depth) f g i)

after-then : {A B C : Type 0} (f : A → Means B) (g : B → Means C) (r : Result A XCode) → bind (after f r) (after g) ≡ after (λ x. bind (f x) (after g)) r
after-then f g (Ok v) = refl
after-then f g (Err code) = refl

pub then-assoc : {A B C : Type 0} (m : Means A) (f : A → Means B) (g : B → Means C) → ((m >>= f) >>= g) ≡ (m >>= λ x. (f x >>= g))
then-assoc m f g = bind-assoc m (after f) (after g) ∙ (λ i. bind m (λ r. after-then f g r i))

given_again : {A : Type 0} (r : Result A XCode) → after (λ x. give x) r ≡ Return r
given_again (Ok v) = refl
given_again (Err code) = refl

pub then-give : {A : Type 0} (m : Means A) → (m >>= λ x. give x) ≡ m
then-give (Return r) = given_again r
then-give (Ask n k) = λ i. Ask n (λ answer. then-give (k answer) i)
then-give (Unbounded r) = λ i. Unbounded (λ depth. then-give (r depth) i)

-- A whole evaluation that asks.
use Rattle.std.proofs.Common.{◌≡◌, List, Ok, Err, refl, sym, subst}
use Rattle.pj_names.specs.declared.oracle.AskFault.TheVariants.{Failed, Memory}
use Rattle.pj_names.specs.Told.{Told, Asks}
use Rattle.pj_names.proofs.AskingLaws.{ComesTo, asks-return, asks-stop, asks-refused, comes-then, comes-ends}
use Rattle.pj_xvalue.specs.declared.fault.XFault.{XFault}
use Rattle.pj_xvalue.specs.declared.fault.XFault.TheVariants.{Code, Ask}
use Rattle.pj_xvalue.specs.Items.{ItemValue}
use Rattle.pj_xvalue.specs.Replies.{outcome}
use Rattle.pj_xsteps.specs.Means.{Means, give, after, ◌>>=◌}
use Rattle.pj_xeval.specs.Whole.{ComesIf}

module _ {K : Type 0} {m : Means (List ItemValue)} {t0 t : Told K} (S : Means (List ItemValue)) (rest : ComesTo m t0 S t) where
  pub done : (items : List ItemValue) → give items ≡ S → Asks m t0 t (Ok (Ok items))
  done items is = comes-ends rest (subst (λ (n : Means (List ItemValue)). Asks n t t (Ok (Ok items))) is (asks-return refl))

  pub settled-err : {A X : Type 0} (there : A → Means (List ItemValue)) (view : X → List ItemValue) (e : XFault) → ComesIf there S (Err e) → Asks m t0 t (outcome view (Err e))
  settled-err there view (Code code) is = comes-ends rest (subst (λ (n : Means (List ItemValue)). Asks n t t (Ok (Err code))) is (asks-return refl))
  settled-err there view (Ask Memory) is = comes-ends rest (asks-stop refl)
  settled-err there view (Ask Failed) is = absurd is

  pub replied : (n : Means (List ItemValue)) (k : List ItemValue → Means (List ItemValue)) (u : Told K) (items : List ItemValue) → (n >>= k) ≡ S → Asks n t u (Ok (Ok items)) → ComesTo m t0 (k items) u
  replied n k u items is h = comes-then (after k) (subst (λ (l : Means (List ItemValue)). ComesTo m t0 l t) (sym is) rest) h

  pub replied-err : {X Y : Type 0} (n : Means (List ItemValue)) (k : List ItemValue → Means (List ItemValue)) (u : Told K) (v : X → List ItemValue) (w : Y → List ItemValue) (e : XFault) → (n >>= k) ≡ S
      → Asks n t u (outcome v (Err e)) → Asks m t0 u (outcome w (Err e))
  replied-err n k u v w (Code code) is h = comes-ends (comes-then (after k) (subst (λ (l : Means (List ItemValue)). ComesTo m t0 l t) (sym is) rest) h) (asks-return refl)
  replied-err n k u v w (Ask fault) is h = comes-ends (subst (λ (l : Means (List ItemValue)). ComesTo m t0 l t) (sym is) rest) (asks-refused (after k) h refl)

pub wants : {K X : Type 0} {m S : Means (List ItemValue)} {t0 t : Told K} (view : X → List ItemValue) → ComesTo m t0 S t → Asks m t0 t (outcome view (Err (Ask Memory)))
wants view rest = comes-ends rest (asks-stop refl)

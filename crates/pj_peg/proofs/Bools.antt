-- What holds where a Boolean is true.
use Rattle.std.proofs.Common.{◌≡◌, Bool, true, false, refl}
use Rattle.std.specs.Bool.{OnTrue}

pub on_true : (b : Bool) (P : Type 0) → (b ≡ true → P) → OnTrue b P
on_true true P h = h refl
on_true false P h = tt

pub true_on : (b : Bool) (P : Type 0) → OnTrue b P → b ≡ true → P
true_on true P h e = h
true_on false P h e = absurd (let z = e in cc)

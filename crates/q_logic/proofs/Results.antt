-- What holds of an option or a result.
use Rattle.std.proofs.Common.{◌≡◌, ◌↔◌, Bool, true, false, Option, Some, None, is_some, Result, Ok, Err, IfOk, OnOk, OnErr, IsTrue, refl}

pub none_of : {X : Type 0} (o : Option X) → is_some o ≡ false → o ≡ None
none_of None e = refl
none_of (Some x) e = cc

pub on_err : {X E P : Type 0} (r : Result X E) → P → OnErr r P
on_err (Ok x) p = tt
on_err (Err e) p = p

pub ok-iff : {E A B : Type 0} (r : Result Bool E) → A ↔ B → IfOk r (λ y. IsTrue y ↔ A) → IfOk r (λ y. IsTrue y ↔ B)
ok-iff (Ok y) e x = (λ h. e.0 (x.0 h), λ b. x.1 (e.1 b))
ok-iff (Err f) e x = tt

pub ok_then : {T E : Type 0} {P Q : T → Type 0} (r : Result T E) → IfOk r P → ((x : T) → P x → Q x) → IfOk r Q
ok_then (Ok x) p f = f x p
ok_then (Err e) p f = tt

pub on_both : {T E P Q R : Type 0} (r : Result T E) → OnOk r P → OnOk r Q → (P → Q → R) → OnOk r R
on_both (Ok x) p q f = f p q
on_both (Err e) p q f = tt

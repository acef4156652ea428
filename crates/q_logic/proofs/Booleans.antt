-- Laws of the connectives.
use Rattle.std.proofs.Common.{◌≡◌, Bool, true, false, cond, not, ◌&&◌, ◌||◌, refl, sym, arith}
use Rattle.q_logic.specs.Literals.{bool_eq}

pub not-not : (b : Bool) → not (not b) ≡ b
not-not true = refl
not-not false = refl

pub both-left : (a b : Bool) → a && b ≡ true → a ≡ true
both-left true b h = refl
both-left false b h = h

pub both-right : (a b : Bool) → a && b ≡ true → b ≡ true
both-right true b h = h
both-right false b h = grind arith

pub or-swap : (a b c : Bool) → a || (b || c) ≡ b || (a || c)
or-swap true true c = refl
or-swap true false c = refl
or-swap false b c = refl

pub cond-or : (a b : Bool) → cond a true b ≡ a || b
cond-or true b = refl
cond-or false b = refl

pub same_truth : (a b : Bool) → (a ≡ true → b ≡ true) → (b ≡ true → a ≡ true) → a ≡ b
same_truth true true f g = refl
same_truth true false f g = sym (f refl)
same_truth false true f g = g refl
same_truth false false f g = refl

pub bool_eq-sound : (a b : Bool) → bool_eq a b ≡ true → a ≡ b
bool_eq-sound true true h = refl
bool_eq-sound true false h = absurd (cc)
bool_eq-sound false true h = absurd (cc)
bool_eq-sound false false h = refl

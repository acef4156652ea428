-- The text of literals, one by one, and its length.
use Rattle.std.proofs.Common.{◌≡◌, ℕ, suc, zero, ◌+◌, ◌^◌, ◌<◌, ◌≤◌, Bool, true, false, cond, List, [], ◌∷◌, ◌++◌, length, get_or, drop, refl, ap, arith, not-suc-le-zero, le_of_suc-le-suc, add-one, ℤ, pos, negsuc, Option, Some, None, length-append}
use Rattle.std.specs.Int.Signed.{mag}
use Rattle.std.proofs.lemmas.Bool.Decides.{nat_tests}
use Rattle.std.specs.Fmt.{signed_decimal}
use Rattle.std.proofs.lemmas.Fmt.{length_signed_le}
use Rattle.std.specs.List.{AllByRecursion}
use Rattle.q_logic.specs.Prelude.{Literal, literal_eq, number_of, pack, IsBelow, Clause, ArePairs, without, ProofStep, add, delete, drop_literal, fresh, remove_variable, IsStep, IsFirst, in_front, literals_of}
use Rattle.q_logic.proofs.Common.{codes-grow, without-in_order}
use Rattle.q_text.specs.Numbers.{number_text}
pub use Rattle.q_text.proofs.LiteralLengths.{literal-short}
use Rattle.q_log.specs.Texts.{literals_text}

next : (ls : List Literal) (i : ℕ) (d : Literal) → i < length ls → literals_text (drop i ls) ≡ number_text (number_of (get_or ls i d)) ++ literals_text (drop (suc i) ls)
next [] i d h = absurd (not-suc-le-zero h)
next (k ∷ ls) zero d h = refl
next (k ∷ ls) (suc i) d h = next ls i d (le_of_suc-le-suc h)

pub text-next : (ls : List Literal) (i : ℕ) (d : Literal) → i < length ls → literals_text (drop i ls) ≡ number_text (number_of (get_or ls i d)) ++ literals_text (drop (i + 1) ls)
text-next ls i d h = rw add-one (next ls i d h)

pub text-done : (ls : List Literal) → literals_text (drop (length ls) ls) ≡ []
text-done [] = refl
text-done (k ∷ ls) = text-done ls

-- the same where one literal is left out
kept : (ls : List Literal) (l : Literal) (i : ℕ) (d : Literal) → i < length ls → literal_eq (get_or ls i d) l ≡ false → without l (drop i ls) ≡ get_or ls i d ∷ without l (drop (suc i) ls)
kept [] l i d h e = absurd (not-suc-le-zero h)
kept (k ∷ ls) l zero d h e = ap (λ b. cond b (without l ls) (k ∷ without l ls)) e
kept (k ∷ ls) l (suc i) d h e = kept ls l i d (le_of_suc-le-suc h) e

left_out : (ls : List Literal) (l : Literal) (i : ℕ) (d : Literal) → i < length ls → literal_eq (get_or ls i d) l ≡ true → without l (drop i ls) ≡ without l (drop (suc i) ls)
left_out [] l i d h e = absurd (not-suc-le-zero h)
left_out (k ∷ ls) l zero d h e = ap (λ b. cond b (without l ls) (k ∷ without l ls)) e
left_out (k ∷ ls) l (suc i) d h e = left_out ls l i d (le_of_suc-le-suc h) e

pub without-kept : (ls : List Literal) (l : Literal) (i : ℕ) (d : Literal) → i < length ls → literal_eq (get_or ls i d) l ≡ false →
    literals_text (without l (drop i ls)) ≡ number_text (number_of (get_or ls i d)) ++ literals_text (without l (drop (i + 1) ls))
without-kept ls l i d h e = rw add-one (ap literals_text (kept ls l i d h e))

pub without-left_out : (ls : List Literal) (l : Literal) (i : ℕ) (d : Literal) → i < length ls → literal_eq (get_or ls i d) l ≡ true →
    literals_text (without l (drop i ls)) ≡ literals_text (without l (drop (i + 1) ls))
without-left_out ls l i d h e = rw add-one (ap literals_text (left_out ls l i d h e))

pub without-done : (ls : List Literal) (l : Literal) → literals_text (without l (drop (length ls) ls)) ≡ []
without-done [] l = refl
without-done (k ∷ ls) l = without-done ls l

-- of literals in order, one at a later place has a greater code, so that there are few
above-all : (k : Literal) (n : ℕ) (ls : List Literal) → n ≤ pack k → AllByRecursion (IsBelow k) ls → AllByRecursion (λ m. suc n ≤ pack m) ls
above-all k n [] h a = tt
above-all k n (l ∷ ls) h (a, as_) = (let e = codes-grow k l a in omega arith, above-all k n ls h as_)

place-below : (ls : List Literal) (n i : ℕ) (d : Literal) → AllByRecursion (λ l. n ≤ pack l) ls → ArePairs IsBelow ls → i < length ls → n + i ≤ pack (get_or ls i d)
place-below [] n i d a p h = absurd (not-suc-le-zero h)
place-below (k ∷ ls) n zero d a p h = let e : n ≤ pack k = a.0 in omega arith
place-below (k ∷ ls) n (suc i) d a p h =
    let e : suc n + i ≤ pack (get_or ls i d) = place-below ls (suc n) i d (above-all k n ls a.0 p.0) p.1 (le_of_suc-le-suc h) in
    omega arith

all-above_none : (ls : List Literal) → AllByRecursion (λ l. 0 ≤ pack l) ls
all-above_none [] = tt
all-above_none (l ∷ ls) = (omega arith, all-above_none ls)

pack-small : (l : Literal) → l.var < 2 ^ 31 → pack l < 2 ^ 32
pack-small l h = grind (arith, nat_tests)

pub place-small : (ls : List Literal) (i : ℕ) (d : Literal) → ArePairs IsBelow (drop 1 ls) → i < length ls → (get_or ls i d).var < 2 ^ 31 → i ≤ 2 ^ 32
place-small [] i d p h s = absurd (not-suc-le-zero h)
place-small (k ∷ ls) zero d p h s = omega arith
place-small (k ∷ ls) (suc i) d p h s =
    let e : 0 + i ≤ pack (get_or ls i d) = place-below ls 0 i d (all-above_none ls) p (le_of_suc-le-suc h) in
    let f = pack-small (get_or ls i d) s in
    omega arith

-- behind the first literal of a step the others are in order
without-all : (R : Literal → Type 0) (l : Literal) (C : Clause) → AllByRecursion R C → AllByRecursion R (without l C)
without-all R l [] a = tt
without-all R l (k ∷ C) (a, as_) = go (literal_eq k l) (without-all R l C as_)
  where
    go : (b : Bool) → AllByRecursion R (without l C) → AllByRecursion R (cond b (without l C) (k ∷ without l C))
    go true ih = ih
    go false ih = (a, ih)

front-ordered : (p : Option Literal) (C : Clause) → ArePairs IsBelow C → IsFirst p C → ArePairs IsBelow (drop 1 (in_front p C))
front-ordered None C o f = rw f tt
front-ordered (Some l) C o f = without-in_order l C o

pub step-ordered : (s : ProofStep) → IsStep s → ArePairs IsBelow (drop 1 (literals_of s))
step-ordered (add p C) h = front-ordered p C h.0 h.1
step-ordered (delete p C) h = front-ordered p C h.0 h.1
step-ordered (drop_literal l C) h = without-in_order l C h.0
step-ordered (fresh v w) h = (tt, tt)
step-ordered (remove_variable v) h = tt

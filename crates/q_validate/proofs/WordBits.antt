-- Bits of words, and the words of inputs.
use Rattle.std.proofs.Common.{◌≡◌, ◌+◌, ◌*◌, ◌/◌, ◌%◌, ◌^◌, ◌<◌, ◌≤◌, ℕ, zero, suc, Bool, true, false, cond, ◌&&◌, ◌||◌, eqb, nat_lt, List, [], ◌∷◌, ◌++◌, length, get_or, slice_get, Option, Some, None, min, max, bit_and, bit_or, refl, sym, ap, ◌∙◌, arith, add-one}
use mir.Val.{bool_byte}
use Rattle.std.specs.Int.{bit_at}
use Rattle.std.proofs.lemmas.Nat.Bits.{bit_at_and, bit_at_or, bit_at-lt, bit_at-zero, bit_at_ones}
use Rattle.std.proofs.Math.Nat.{pow-succ'}
use Rattle.std.proofs.Math.Pow.{pow_mono}
use Rattle.std.proofs.lemmas.Option.{slice_get_past}
use Rattle.q_logic.specs.Prelude.{bool_eq}
use Rattle.q_logic.specs.Branches.{is_zero, is_one, known_both}
use Rattle.q_logic.proofs.Common.{bool_eq-sound}
use Rattle.q_validate.specs.Words.{bit, path_within, path_to, Tells}
use Rattle.q_validate.specs.declared.words.TheConstants.{ZEROS, ONES}
use Rattle.q_validate.specs.declared.words.Known.{Known}

min-bits : (a b : ℕ) → a < 2 → b < 2 → eqb (min a b) 1 ≡ eqb a 1 && eqb b 1
min-bits zero b l h = grind arith
min-bits (suc zero) zero l h = refl
min-bits (suc zero) (suc zero) l h = refl
min-bits (suc zero) (suc (suc b)) l h = absurd (omega arith)
min-bits (suc (suc a)) b l h = absurd (omega arith)

max-bits : (a b : ℕ) → a < 2 → b < 2 → eqb (max a b) 1 ≡ eqb a 1 || eqb b 1
max-bits zero zero l h = refl
max-bits zero (suc zero) l h = refl
max-bits zero (suc (suc b)) l h = absurd (omega arith)
max-bits (suc zero) zero l h = refl
max-bits (suc zero) (suc zero) l h = refl
max-bits (suc zero) (suc (suc b)) l h = absurd (omega arith)
max-bits (suc (suc a)) b l h = absurd (omega arith)

pub bit-and : (a b m : ℕ) → bit (bit_and a b) m ≡ bit a m && bit b m
bit-and a b m = ap (λ n. eqb n 1) (bit_at_and a b m) ∙ min-bits (bit_at a m) (bit_at b m) (bit_at-lt a m) (bit_at-lt b m)

pub bit-or : (a b m : ℕ) → bit (bit_or a b) m ≡ bit a m || bit b m
bit-or a b m = ap (λ n. eqb n 1) (bit_at_or a b m) ∙ max-bits (bit_at a m) (bit_at b m) (bit_at-lt a m) (bit_at-lt b m)

pub bit-zero : (m : ℕ) → bit 0 m ≡ false
bit-zero m = ap (λ n. eqb n 1) (bit_at-zero m)

pub bit-ones : (m : ℕ) → m < 64 → bit 18446744073709551615 m ≡ true
bit-ones m h = ap (λ n. eqb n 1) (bit_at_ones 64 m h)

-- a test of the first numbers
all_below : ℕ → (ℕ → Bool) → Bool
all_below zero t = true
all_below (suc n) t = t n && all_below n t

all_below-one : (n : ℕ) (t : ℕ → Bool) → all_below n t ≡ true → (m : ℕ) → m < n → t m ≡ true
unfolding all_below
all_below-one zero t h m l = absurd (omega arith)
all_below-one (suc n) t h m l = go (eqb m n) refl (all_below-one n t (parts (t n) (all_below n t) h).1 m)
  where
    parts : (x y : Bool) → x && y ≡ true → (x ≡ true) × (y ≡ true)
    parts true y h = (refl, h)
    parts false y h = absurd (cc)

    go : (b : Bool) → eqb m n ≡ b → (m < n → t m ≡ true) → t m ≡ true
    go true e f = let s : m ≡ n = grind arith in rw s (parts (t n) (all_below n t) h).0
    go false e f = f (let d : eqb m n ≡ false = e in grind arith)

-- the words of the inputs, all at once
input_test : ℕ → ℕ → Bool
input_test j m =
    bool_eq (bit (get_or ZEROS j 0) m) (is_zero (slice_get (path_to m) j))
    && bool_eq (bit (get_or ONES j 0) m) (is_one (slice_get (path_to m) j))

input_tested : all_below 5 (λ j. all_below 64 (input_test j)) ≡ true
unfolding all_below input_test path_to
input_tested = refl

pub input-told : (j : ℕ) → j < 5 → Tells (record { zero = get_or ZEROS j 0; one = get_or ONES j 0 }) (λ w. slice_get w j)
unfolding input_test
input-told j h = record {
  zeros = λ m l. bool_eq-sound _ _ (both m l).0;
  ones = λ m l. bool_eq-sound _ _ (both m l).1;
}
  where
    parts : (x y : Bool) → x && y ≡ true → (x ≡ true) × (y ≡ true)
    parts true y h = (refl, h)
    parts false y h = absurd (cc)

    both : (m : ℕ) → m < 64 →
        (bool_eq (bit (get_or ZEROS j 0) m) (is_zero (slice_get (path_to m) j)) ≡ true)
        × (bool_eq (bit (get_or ONES j 0) m) (is_one (slice_get (path_to m) j)) ≡ true)
    both m l =
        parts (bool_eq (bit (get_or ZEROS j 0) m) (is_zero (slice_get (path_to m) j)))
        (bool_eq (bit (get_or ONES j 0) m) (is_one (slice_get (path_to m) j)))
        (all_below-one 64 (input_test j) (all_below-one 5 (λ i. all_below 64 (input_test i)) input_tested j h) m l)

-- no path is longer
short_tested : all_below 64 (λ m. nat_lt (length (path_to m)) 6) ≡ true
unfolding all_below path_to
short_tested = refl

pub path-short : (m : ℕ) → m < 64 → length (path_to m) ≤ 5
path-short m h = let z : nat_lt (length (path_to m)) 6 ≡ true = all_below-one 64 (λ n. nat_lt (length (path_to n)) 6) short_tested m h in grind arith

pub input-untold : (j : ℕ) → 5 ≤ j → Tells (record { zero = 0; one = 0 }) (λ w. slice_get w j)
input-untold j h = record {
  zeros = λ m l. bit-zero m ∙ sym (ap is_zero (none m l));
  ones = λ m l. bit-zero m ∙ sym (ap is_one (none m l));
}
  where
    none : (m : ℕ) → m < 64 → slice_get (path_to m) j ≡ None
    none m l = let z : length (path_to m) ≤ 5 = path-short m l in slice_get_past (path_to m) j (omega arith)

-- what is known, taken together
pub both-told : (x y z : Known) (f g : List Bool → Option Bool) → z.zero ≡ bit_or x.zero y.zero → z.one ≡ bit_and x.one y.one →
    Tells x f → Tells y g → Tells z (λ w. known_both (f w) (g w))
both-told x y z f g d e t u = record {
  zeros = λ m l. ap (λ w. bit w m) d ∙ bit-or x.zero y.zero m ∙ both (bit x.zero m) (bit y.zero m) (f (path_to m)) (g (path_to m)) (t.zeros m l) (u.zeros m l);
  ones = λ m l. ap (λ w. bit w m) e ∙ bit-and x.one y.one m ∙ each (bit x.one m) (bit y.one m) (f (path_to m)) (g (path_to m)) (t.ones m l) (u.ones m l);
}
  where
    zero-both : (a b : Option Bool) → is_zero a || is_zero b ≡ is_zero (known_both a b)
    zero-both None None = refl
    zero-both None (Some false) = refl
    zero-both None (Some true) = refl
    zero-both (Some false) b = refl
    zero-both (Some true) b = refl

    one-both : (a b : Option Bool) → is_one a && is_one b ≡ is_one (known_both a b)
    one-both None None = refl
    one-both None (Some false) = refl
    one-both None (Some true) = refl
    one-both (Some false) b = refl
    one-both (Some true) b = refl

    both : (p q : Bool) (a b : Option Bool) → p ≡ is_zero a → q ≡ is_zero b → p || q ≡ is_zero (known_both a b)
    both p q a b h k = ap (λ r. r || q) h ∙ ap (λ r. is_zero a || r) k ∙ zero-both a b

    each : (p q : Bool) (a b : Option Bool) → p ≡ is_one a → q ≡ is_one b → p && q ≡ is_one (known_both a b)
    each p q a b h k = ap (λ r. r && q) h ∙ ap (λ r. is_one a && r) k ∙ one-both a b

pub true-told : Tells (record { zero = 0; one = 18446744073709551615 }) (λ w. Some true)
true-told = record { zeros = λ m l. bit-zero m; ones = λ m l. bit-ones m l }

pub false-told : Tells (record { zero = 18446744073709551615; one = 0 }) (λ w. Some false)
false-told = record { zeros = λ m l. bit-ones m l; ones = λ m l. bit-zero m }

-- One step down the path.
halved : (m b : ℕ) → b < 2 → ((2 * m + b) / 2 ≡ m) × ((2 * m + b) % 2 ≡ b)
halved m b h = (omega arith, omega arith)

pub deeper : (d m : ℕ) → m < 2 ^ d → path_within (suc d) m ≡ path_within d m
deeper zero m h = let z : nat_lt m 2 ≡ true = grind arith in rw z refl
deeper (suc d) m h = go (nat_lt m 2) (deeper d (m / 2) half)
  where
    half : m / 2 < 2 ^ d
    half = let p : 2 ^ suc d ≡ 2 * 2 ^ d = pow-succ' 2 d in omega arith

    go : (b : Bool) → path_within (suc d) (m / 2) ≡ path_within d (m / 2) →
        cond b [] (path_within (suc d) (m / 2) ++ eqb (m % 2) 1 ∷ []) ≡ cond b [] (path_within d (m / 2) ++ eqb (m % 2) 1 ∷ [])
    go true e = refl
    go false e = ap (λ (p : List Bool). p ++ eqb (m % 2) 1 ∷ []) e

pub path-step : (m b : ℕ) (v : Bool) → 1 ≤ m → m < 32 → b < 2 → eqb b 1 ≡ v → path_to (2 * m + b) ≡ path_to m ++ v ∷ []
unfolding path_to
path-step m b v l h k e =
    let t : nat_lt (2 * m + b) 2 ≡ false = grind arith in
    rw t (
    ap (λ n. path_within 5 n ++ eqb ((2 * m + b) % 2) 1 ∷ []) (halved m b k).0
    ∙ ap (λ n. path_within 5 m ++ eqb n 1 ∷ []) (halved m b k).1
    ∙ ap (λ (p : List Bool). p ++ eqb b 1 ∷ []) (sym (deeper 5 m h))
    ∙ ap (λ c. path_to m ++ c ∷ []) e)

-- how far the number of a node goes
pub step-small : (i n b : ℕ) → i < 5 → n < 2 ^ (i + 1) → b < 2 → (n < 32) × (2 * n + b < 2 ^ (i + 1 + 1)) × (2 * n + b < 64)
step-small i n b h l k =
    let p : 2 ^ (i + 1 + 1) ≡ 2 * 2 ^ (i + 1) = rw add-one (pow-succ' 2 (i + 1)) in
    let q : 2 ^ (i + 1) ≤ 2 ^ 5 = pow_mono (let z : i + 1 ≤ 5 = omega arith in z) in
    (omega arith, omega arith, omega arith)

pub byte-small : (v : Bool) → bool_byte v < 2
byte-small true = omega arith
byte-small false = omega arith

pub byte-bit : (v : Bool) → eqb (bool_byte v) 1 ≡ v
byte-bit true = refl
byte-bit false = refl

pub path-root : path_to 1 ≡ []
unfolding path_to
path-root = refl

pub node-small : (i n k : ℕ) → i ≤ k → k ≤ 5 → n < 2 ^ (i + 1) → n < 64
node-small i n k h l m = let q : 2 ^ (i + 1) ≤ 2 ^ 6 = pow_mono (let z : i + 1 ≤ 6 = omega arith in z) in omega arith

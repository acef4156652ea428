-- The groups of a number, and one more.
use Rattle.std.proofs.Common.{◌≡◌, ◌≤◌, ◌<◌, ℕ, zero, suc, ◌+◌, ◌*◌, ◌/◌, ◌%◌, ◌^◌, List, [], ◌∷◌, ◌++◌, length, nat_lt, true, arith, refl, sym, ap, ◌∙◌}
use Rattle.std.proofs.lemmas.Bool.Decides.{nat_tests}
use Rattle.q_binary.specs.BinaryProofs.{value}
use Rattle.q_binary.specs.Reading.{groups_of}

pub groups-length : (c n : ℕ) → length (groups_of c n) ≡ c
groups-length zero n = refl
groups-length (suc c) n = let i : length (groups_of c (n / 128)) ≡ c = groups-length c (n / 128) in omega arith

-- there is room for another one
pub room : (c n : ℕ) (ds : List ℕ) → groups_of c n ≡ ds → c < 4 → nat_lt (length ds) 4 ≡ true
room c n ds e h =
    let l : length ds ≡ c = sym (ap (λ (xs : List ℕ). length xs) e) ∙ groups-length c n in
    let b : length ds < 4 = omega arith in
    grind (arith, nat_tests)

-- the number, where another group is its last
pub value-more : (c n d : ℕ) → c ≤ 4 → n < 128 ^ c → value (groups_of c n ++ d ∷ []) ≡ n + d * 128 ^ c
value-more zero n d l h = omega arith
value-more (suc zero) n d l h = omega arith
value-more (suc (suc zero)) n d l h = omega arith
value-more (suc (suc (suc zero))) n d l h = omega arith
value-more (suc (suc (suc (suc zero)))) n d l h = omega arith
value-more (suc (suc (suc (suc (suc c))))) n d l h = absurd (omega arith)

-- one group more
pub groups-more : (c n d : ℕ) → c ≤ 4 → d < 128 → n < 128 ^ c → groups_of (c + 1) (n + d * 128 ^ c) ≡ groups_of c n ++ d ∷ []
groups-more zero n d l s h =
    let a : (n + d * 1) % 128 ≡ d = omega arith in
    rw a refl
groups-more (suc zero) n d l s h =
    let a : (n + d * 128) % 128 ≡ n % 128 = omega arith in
    let b : (n + d * 128) / 128 % 128 ≡ d = omega arith in
    rw (a, b) refl
groups-more (suc (suc zero)) n d l s h =
    let a : (n + d * 16384) % 128 ≡ n % 128 = omega arith in
    let b : (n + d * 16384) / 128 % 128 ≡ n / 128 % 128 = omega arith in
    let e : (n + d * 16384) / 128 / 128 % 128 ≡ d = omega arith in
    rw (a, b, e) refl
groups-more (suc (suc (suc zero))) n d l s h =
    let a : (n + d * 2097152) % 128 ≡ n % 128 = omega arith in
    let b : (n + d * 2097152) / 128 % 128 ≡ n / 128 % 128 = omega arith in
    let e : (n + d * 2097152) / 128 / 128 % 128 ≡ n / 128 / 128 % 128 = omega arith in
    let f : (n + d * 2097152) / 128 / 128 / 128 % 128 ≡ d = omega arith in
    rw (a, b, e, f) refl
groups-more (suc (suc (suc (suc zero)))) n d l s h =
    let a : (n + d * 268435456) % 128 ≡ n % 128 = omega arith in
    let b : (n + d * 268435456) / 128 % 128 ≡ n / 128 % 128 = omega arith in
    let e : (n + d * 268435456) / 128 / 128 % 128 ≡ n / 128 / 128 % 128 = omega arith in
    let f : (n + d * 268435456) / 128 / 128 / 128 % 128 ≡ n / 128 / 128 / 128 % 128 = omega arith in
    let g : (n + d * 268435456) / 128 / 128 / 128 / 128 % 128 ≡ d = omega arith in
    rw (a, b, e, f, g) refl
groups-more (suc (suc (suc (suc (suc c))))) n d l s h = absurd (omega arith)

-- nothing passes the words of the machine
pub more-below : (c n d : ℕ) → c < 4 → n < 128 ^ c → d < 128 → (d * 128 ^ c < 268435456) × (n + d * 128 ^ c < 128 ^ (c + 1))
more-below zero n d l h s = (omega arith, omega arith)
more-below (suc zero) n d l h s = (omega arith, omega arith)
more-below (suc (suc zero)) n d l h s = (omega arith, omega arith)
more-below (suc (suc (suc zero))) n d l h s = (omega arith, omega arith)
more-below (suc (suc (suc (suc c)))) n d l h s = absurd (omega arith)

pub last-below : (c n d : ℕ) → c ≤ 4 → n < 128 ^ c → d < 128 → (d * 128 ^ c < 34359738368) × (n < 268435456)
last-below zero n d l h s = (omega arith, omega arith)
last-below (suc zero) n d l h s = (omega arith, omega arith)
last-below (suc (suc zero)) n d l h s = (omega arith, omega arith)
last-below (suc (suc (suc zero))) n d l h s = (omega arith, omega arith)
last-below (suc (suc (suc (suc zero)))) n d l h s = (omega arith, omega arith)
last-below (suc (suc (suc (suc (suc c))))) n d l h s = absurd (omega arith)

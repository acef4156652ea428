-- The numbers of a line.
use Rattle.std.proofs.Common.{◌≡◌, ◌≤◌, ◌<◌, ◌+◌, ◌-◌, ◌*◌, ◌∙◌, ℕ, Bool, true, false, nat_le, ◌==◌, List, [], ◌∷◌, refl, sym, ap, arith, length, drop, get_or, Option, Some, None, if◌then◌else◌, suc, drop-cons}
use Rattle.q_text.specs.Words.{is_digit, digits_behind, digits}
use Rattle.q_guides.specs.MoveTexts.{up_to, number_of}

-- digits only make a number larger
digits-more : (n : ℕ) (bs : List ℕ) (m : ℕ) → digits_behind n bs ≡ Some m → n ≤ m
digits-more n [] m e = let f : n ≡ m = cc in omega arith
digits-more n (b ∷ bs) m e = go (is_digit b) e (digits-more (10 * n + (b - 48)) bs m)
  where
    go : (t : Bool) → (if t then digits_behind (10 * n + (b - 48)) bs else None) ≡ Some m → (digits_behind (10 * n + (b - 48)) bs ≡ Some m → 10 * n + (b - 48) ≤ m) → n ≤ m
    go true e ih = let i : 10 * n + (b - 48) ≤ m = ih e in omega arith
    go false e ih = cc

up_to-none : (most : ℕ) (o : Option ℕ) → ((m : ℕ) → o ≡ Some m → most < m) → up_to most o ≡ None
up_to-none most None h = refl
up_to-none most (Some m) h = let z : most < m = h m refl in let e : nat_le m most ≡ false = grind arith in rw e refl

-- behind a number that is too large no number comes that is not
pub too_large : (most n : ℕ) (bs : List ℕ) → most < n → None ≡ up_to most (digits_behind n bs)
too_large most n bs h = sym (up_to-none most (digits_behind n bs) (λ m e. let i : n ≤ m = digits-more n bs m e in omega arith))

digits-first : (text : List ℕ) → 0 < length text → digits text ≡ digits_behind 0 text
digits-first [] h = absurd (omega arith)
digits-first (b ∷ bs) h = refl

next_digit : (n b : ℕ) (bs : List ℕ) → is_digit b ≡ true → digits_behind n (b ∷ bs) ≡ digits_behind (10 * n + (b - 48)) bs
next_digit n b bs e = rw e refl

-- a further digit makes the number too large
pub overflows : (most v i : ℕ) (text : List ℕ) → i < length text → digits_behind 0 text ≡ digits_behind v (drop i text) → 48 ≤ get_or text i 0 → get_or text i 0 ≤ 57 → most < 10 * v + (get_or text i 0 - 48) → None ≡ number_of most text
overflows most v i text h e a b z =
    let d : is_digit (get_or text i 0) ≡ true = grind arith in
    let f : digits text ≡ digits_behind 0 text = digits-first text (omega arith) in
    let s : drop i text ≡ get_or text i 0 ∷ drop (suc i) text = drop-cons text i 0 h in
    let n : digits_behind v (get_or text i 0 ∷ drop (suc i) text) ≡ digits_behind (10 * v + (get_or text i 0 - 48)) (drop (suc i) text) = next_digit v (get_or text i 0) (drop (suc i) text) d in
    let all : digits text ≡ digits_behind (10 * v + (get_or text i 0 - 48)) (drop (suc i) text) = f ∙ (e ∙ (ap (digits_behind v) s ∙ n)) in
    too_large most (10 * v + (get_or text i 0 - 48)) (drop (suc i) text) z ∙ ap (up_to most) (sym all)

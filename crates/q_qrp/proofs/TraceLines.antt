-- The lines of a trace, by place: the row and the literals there.
use Rattle.std.proofs.Common.{◌≡◌, ◌<◌, ◌≤◌, ◌+◌, ℕ, zero, suc, Bool, true, false, List, [], ◌∷◌, ◌++◌, length, length-append, slice_get, slice_index_or, Option, Some, refl, ap, sym, ◌∙◌, not-suc-le-zero, le_of_suc-le-suc, arith}
use Rattle.std.specs.List.{AllByRecursion}
use Rattle.q_logic.specs.Prelude.{Literal, ArePairs}
use Rattle.q_qrp.specs.declared.trace.Row.{Row}
use Rattle.q_qrp.specs.declared.builder.Place.{Place}
use Rattle.q_qrp.specs.declared.builder.Place.TheVariants.{Lines, Literals, After}
use Rattle.q_qrp.specs.Lines.{Line, AreRising, IsBefore, lines_of, row_of, literals_of}
use Rattle.q_qrp.specs.Reading.{Gathered, IsGathered, is_open, above}

pub lines-length : (rs : List Row) (ts : List (List Literal)) → length rs ≡ length ts → length (lines_of rs ts) ≡ length ts
lines-length [] [] e = refl
lines-length [] (t ∷ ts) e = cc
lines-length (r ∷ rs) [] e = cc
lines-length (r ∷ rs) (t ∷ ts) e = ap suc (lines-length rs ts (cc))

pub row-at : (rs : List Row) (ts : List (List Literal)) (i : ℕ) → length rs ≡ length ts → row_of (slice_get (lines_of rs ts) i) ≡ slice_get rs i
row-at [] [] i e = refl
row-at [] (t ∷ ts) i e = cc
row-at (r ∷ rs) [] i e = cc
row-at (r ∷ rs) (t ∷ ts) zero e = refl
row-at (r ∷ rs) (t ∷ ts) (suc i) e = row-at rs ts i (cc)

pub literals-at : (rs : List Row) (ts : List (List Literal)) (i : ℕ) → length rs ≡ length ts → literals_of (slice_get (lines_of rs ts) i) ≡ slice_get ts i
literals-at [] [] i e = refl
literals-at [] (t ∷ ts) i e = cc
literals-at (r ∷ rs) [] i e = cc
literals-at (r ∷ rs) (t ∷ ts) zero e = refl
literals-at (r ∷ rs) (t ∷ ts) (suc i) e = literals-at rs ts i (cc)

pub get-is : {A : Type 0} (xs : List A) (i : ℕ) (x : A) → i < length xs → x ≡ slice_index_or xs i x → slice_get xs i ≡ Some x
get-is [] i x h e = absurd (not-suc-le-zero h)
get-is (y ∷ ys) zero x h e = ap Some (sym e)
get-is (y ∷ ys) (suc i) x h e = get-is ys i x (le_of_suc-le-suc h) e

-- rows with rising numbers, by place
later-above : (r : Row) (rs : List Row) (j : ℕ) (b : Row) → AllByRecursion (λ x. r.id < x.id) rs → slice_get rs j ≡ Some b → r.id < b.id
later-above r [] j b a e = cc
later-above r (x ∷ rs) zero b (h, hs) e = let f : x ≡ b = cc in rw (← f) h
later-above r (x ∷ rs) (suc j) b (h, hs) e = later-above r rs j b hs e

rows-rise : (rs : List Row) (i j : ℕ) (a b : Row) → ArePairs IsBefore rs → i < j → slice_get rs i ≡ Some a → slice_get rs j ≡ Some b → a.id < b.id
rows-rise [] i j a b p l e f = cc
rows-rise (r ∷ rs) zero zero a b p l e f = absurd (not-suc-le-zero l)
rows-rise (r ∷ rs) zero (suc j) a b p l e f = let g : r ≡ a = cc in rw (← g) (later-above r rs j b p.0 f)
rows-rise (r ∷ rs) (suc i) zero a b p l e f = absurd (not-suc-le-zero l)
rows-rise (r ∷ rs) (suc i) (suc j) a b p l e f = rows-rise rs i j a b p.1 (le_of_suc-le-suc l) e f

pub lines-rise : (rs : List Row) (ts : List (List Literal)) → length rs ≡ length ts → ArePairs IsBefore rs → AreRising (lines_of rs ts)
lines-rise rs ts e p i j a b l f g =
    rows-rise rs i j a.row b.row p l (sym (row-at rs ts i e) ∙ ap row_of f) (sym (row-at rs ts j e) ∙ ap row_of g)

-- what is below a number is below a greater one
pub below-more : (rs : List Row) (m n : ℕ) → m ≤ n → AllByRecursion (λ r. r.id < m) rs → AllByRecursion (λ r. r.id < n) rs
below-more [] m n l a = tt
below-more (r ∷ rs) m n l (h, hs) = (omega arith, below-more rs m n l hs)

below-push : (rs : List Row) (x : Row) (n : ℕ) → AllByRecursion (λ r. r.id < n) rs → x.id < n → AllByRecursion (λ r. r.id < n) (rs ++ x ∷ [])
below-push [] x n a h = (h, tt)
below-push (r ∷ rs) x n (a, more) h = (a, below-push rs x n more h)

pairs-push : (rs : List Row) (x : Row) → ArePairs IsBefore rs → AllByRecursion (λ r. r.id < x.id) rs → ArePairs IsBefore (rs ++ x ∷ [])
pairs-push [] x p a = (tt, tt)
pairs-push (r ∷ rs) x p (a, more) = (above-push r rs x p.0 a, pairs-push rs x p.1 more) where
  above-push : (r : Row) (rs : List Row) (x : Row) → AllByRecursion (λ y. r.id < y.id) rs → r.id < x.id → AllByRecursion (λ y. r.id < y.id) (rs ++ x ∷ [])
  above-push r [] x a h = (h, tt)
  above-push r (y ∷ ys) x (a, more) h = (a, above-push r ys x more h)

above-most : (t : Bool) (n : ℕ) → above t n ≤ n + 1
above-most true n = omega arith
above-most false n = omega arith

-- going on outside of lines
pub gathered-outside : (g : Gathered) (p : Place) → is_open p ≡ false → IsGathered g → IsGathered (record g { place = p })
gathered-outside g p e h = record {
  even = h.even;
  rising = h.rising;
  below = rw e (below-more g.rows (above (is_open g.place) g.row.id) (g.row.id + 1) (above-most (is_open g.place) g.row.id) h.below);
}

-- a line begins
pub gathered-begun : (g : Gathered) (r : Row) (ls : List Literal) → g.row.id < r.id → IsGathered g → IsGathered (record { place = Literals; rows = g.rows; terms = g.terms; row = r; pending = ls })
gathered-begun g r ls l h = record {
  even = h.even;
  rising = h.rising;
  below = below-more g.rows (above (is_open g.place) g.row.id) r.id (let z = above-most (is_open g.place) g.row.id in omega arith) h.below;
}

-- a line ends
pub gathered-ended : (g : Gathered) (ls : List Literal) → g.place ≡ After → IsGathered g → IsGathered (record { place = Lines; rows = g.rows ++ g.row ∷ []; terms = g.terms ++ ls ∷ []; row = g.row; pending = ls })
gathered-ended g ls e h =
    let b = rw e at h.below in
    record {
      even = rw (length-append, length-append) (ap (λ n. n + 1) h.even);
      rising = pairs-push g.rows g.row h.rising b;
      below = below-push g.rows g.row (g.row.id + 1) (below-more g.rows g.row.id (g.row.id + 1) (omega arith) b) (omega arith);
    }

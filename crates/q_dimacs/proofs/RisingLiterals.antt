-- Literals that rise from one to the next are in order.
use Rattle.std.proofs.Common.{◌≡◌, ℕ, ◌<◌, ◌≤◌, ◌+◌, List, [], ◌∷◌, ◌++◌, length, take, get_or, arith, add-one, subst, sym, ◌∙◌, ap}
use Rattle.std.proofs.lemmas.Bool.{lt-ltb}
use Rattle.std.proofs.Math.Seq.{take-suc}
use Rattle.std.specs.List.{AllByRecursion}
use Rattle.q_logic.specs.Prelude.{Literal, IsBelow, pack, ArePairs}
use Rattle.q_logic.proofs.ClauseSets.{below-pack}
use Rattle.q_dimacs.proofs.VariableMarks.{All-push, Pairs-push}

-- in order, and the last one at most
pub record IsRising (ls : List Literal) (last : ℕ) : Type 0 where
  pub ordered : ArePairs IsBelow ls
  pub most : AllByRecursion (λ k. pack k ≤ last) ls

between : (a b c : ℕ) → a ≤ b → b < c → a < c
between a b c h k = omega arith

below-le : (a b c : ℕ) → a ≤ b → b < c → a ≤ c
below-le a b c h k = omega arith

all-below : (ls : List Literal) (last : ℕ) (y : Literal) → AllByRecursion (λ k. pack k ≤ last) ls → last < pack y → AllByRecursion (λ k. IsBelow k y) ls
all-below [] last y h l = tt
all-below (x ∷ xs) last y h l = (below-pack x y (lt-ltb (pack x) (pack y) (between (pack x) last (pack y) h.0 l)), all-below xs last y h.1 l)

all-most : (ls : List Literal) (last n : ℕ) → AllByRecursion (λ k. pack k ≤ last) ls → last < n → AllByRecursion (λ k. pack k ≤ n) ls
all-most [] last n h l = tt
all-most (x ∷ xs) last n h l = (below-le (pack x) last n h.0 l, all-most xs last n h.1 l)

same : (n : ℕ) → n ≤ n
same n = omega arith

pub rising-more : (bs : List Literal) (i last : ℕ) (y : Literal) → get_or bs i y ≡ y → IsRising (take i bs) last → i < length bs → last < pack y → IsRising (take (i + 1) bs) (pack y)
rising-more bs i last y is h l k =
    let e : take (i + 1) bs ≡ take i bs ++ y ∷ [] = ap (λ n. take n bs) (add-one i) ∙ (take-suc bs i y l ∙ ap (λ (x : Literal). take i bs ++ x ∷ []) is) in
    subst (λ (x : List Literal). IsRising x (pack y)) (sym e) (record {
      ordered = Pairs-push IsBelow (take i bs) y h.ordered (all-below (take i bs) last y h.most k);
      most = All-push (λ x. pack x ≤ pack y) (take i bs) y (all-most (take i bs) last (pack y) h.most k) (same (pack y));
    })

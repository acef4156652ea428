-- Clauses of two literals.
use Rattle.std.proofs.Common.{◌≡◌, ◌≢◌, ◌⊎◌, ◌↔◌, suc, [], ◌∷◌, get_or, length, Some, None, Option, refl, sym, ◌∙◌, subst, inl, inr, arith}
use Rattle.q_logic.specs.Prelude.{Literal, IsBelow, negation, Clause, Matrix, IsIn, ArePairs, Binary}
use Rattle.q_logic.proofs.ClosureRounds.{before-self}

-- A clause of a matrix.
pub binary-in : (X : Matrix) (C : Clause) (x y : Literal) → IsIn C X → Binary (C ∷ []) x y → Binary X x y
binary-in X C x y m h = record {
  clause = h.clause;
  there = elim h.there [ inl e ↦ subst (λ (D : Clause). IsIn D X) (sym e) m | inr n ↦ absurd n ];
  two = h.two;
  first = h.first;
  second = h.second;
  only = h.only;
}

pub binary-own : (X : Matrix) (x y : Literal) → (h : Binary X x y) → Binary (h.clause ∷ []) x y
binary-own X x y h = record { clause = h.clause; there = inl refl; two = h.two; first = h.first; second = h.second; only = h.only }

apart : (C : Clause) (a b : Literal) → ArePairs IsBelow (a ∷ b ∷ C) → a ≢ b
apart C a b o e = before-self a (subst (λ y. IsBelow a y) (sym e) o.0.0)

-- Of two literals in order the one that is not the negation of x is the partner.
pub pair-first : (x a b y : Literal) → ArePairs IsBelow (a ∷ b ∷ []) → a ≡ negation x → (b ≡ y) ↔ Binary ((a ∷ b ∷ []) ∷ []) x y
pair-first x a b y o e = (there, back)
  where
    there : b ≡ y → Binary ((a ∷ b ∷ []) ∷ []) x y
    there f = record {
      clause = a ∷ b ∷ [];
      there = inl refl;
      two = λ g. apart [] a b o (e ∙ (g ∙ sym f));
      first = inl (sym e);
      second = inr (inl (sym f));
      only = λ k m. elim m [ inl g ↦ inl (g ∙ e) | inr n ↦ elim n [ inl g ↦ inr (g ∙ f) | inr z ↦ absurd z ] ];
    }

    back : Binary ((a ∷ b ∷ []) ∷ []) x y → b ≡ y
    back h = elim (in_own h.there h.second) [
      | inl f ↦ absurd (h.two (sym e ∙ sym f))
      | inr n ↦ elim n [ inl f ↦ sym f | inr z ↦ absurd z ]
    ]
      where
        in_own : IsIn h.clause ((a ∷ b ∷ []) ∷ []) → IsIn y h.clause → IsIn y (a ∷ b ∷ [])
        in_own (inl q) m = subst (λ (D : Clause). IsIn y D) q m
        in_own (inr z) m = absurd z

pub pair-second : (x a b y : Literal) → ArePairs IsBelow (a ∷ b ∷ []) → b ≡ negation x → (a ≡ y) ↔ Binary ((a ∷ b ∷ []) ∷ []) x y
pair-second x a b y o e = (there, back)
  where
    there : a ≡ y → Binary ((a ∷ b ∷ []) ∷ []) x y
    there f = record {
      clause = a ∷ b ∷ [];
      there = inl refl;
      two = λ g. apart [] a b o (f ∙ (sym g ∙ sym e));
      first = inr (inl (sym e));
      second = inl (sym f);
      only = λ k m. elim m [ inl g ↦ inr (g ∙ f) | inr n ↦ elim n [ inl g ↦ inl (g ∙ e) | inr z ↦ absurd z ] ];
    }

    back : Binary ((a ∷ b ∷ []) ∷ []) x y → a ≡ y
    back h = elim (in_own h.there h.second) [
      | inl f ↦ sym f
      | inr n ↦ elim n [ inl f ↦ absurd (h.two (sym e ∙ sym f)) | inr z ↦ absurd z ]
    ]
      where
        in_own : IsIn h.clause ((a ∷ b ∷ []) ∷ []) → IsIn y h.clause → IsIn y (a ∷ b ∷ [])
        in_own (inl q) m = subst (λ (D : Clause). IsIn y D) q m
        in_own (inr z) m = absurd z

-- Another clause leads nowhere.
pub pair-other : (C : Clause) (x y : Literal) → ArePairs IsBelow C → length C ≢ 2 → Binary (C ∷ []) x y → ⊥
pair-other C x y o n h = elim h.there [
  | inl q ↦ none C o n (subst (λ (D : Clause). IsIn (negation x) D) q h.first) (subst (λ (D : Clause). IsIn y D) q h.second) (λ k m. h.only k (subst (λ (D : Clause). IsIn k D) (sym q) m))
  | inr z ↦ absurd z
]
  where
    three : (i j k : Literal) → i ≢ j → i ≢ k → j ≢ k → (i ≡ negation x) ⊎ (i ≡ y) → (j ≡ negation x) ⊎ (j ≡ y) → (k ≡ negation x) ⊎ (k ≡ y) → ⊥
    three i j k ij ik jk (inl e) (inl f) g = ij (e ∙ sym f)
    three i j k ij ik jk (inr e) (inr f) g = ij (e ∙ sym f)
    three i j k ij ik jk (inl e) (inr f) (inl g) = ik (e ∙ sym g)
    three i j k ij ik jk (inl e) (inr f) (inr g) = jk (f ∙ sym g)
    three i j k ij ik jk (inr e) (inl f) (inl g) = jk (f ∙ sym g)
    three i j k ij ik jk (inr e) (inl f) (inr g) = ik (e ∙ sym g)

    none : (C : Clause) → ArePairs IsBelow C → length C ≢ 2 → IsIn (negation x) C → IsIn y C → ((k : Literal) → IsIn k C → (k ≡ negation x) ⊎ (k ≡ y)) → ⊥
    none [] o n a b f = a
    none (i ∷ []) o n (inl e) (inl g) f = h.two (e ∙ sym g)
    none (i ∷ []) o n (inl e) (inr z) f = z
    none (i ∷ []) o n (inr z) b f = z
    none (i ∷ j ∷ []) o n a b f = n refl
    none (i ∷ j ∷ k ∷ C) o n a b f = three i j k (apart (k ∷ C) i j o) (λ e. before-self i (subst (λ z. IsBelow i z) (sym e) o.0.1.0)) (apart C j k o.1) (f i (inl refl)) (f j (inr (inl refl))) (f k (inr (inr (inl refl))))

-- What a program finds.
some_same : (a b y : Literal) → a ≡ b → (b ≡ y) → Some a ≡ Some y
some_same a b y e f = cc

some_of : (a b y : Literal) → a ≡ b → Some a ≡ Some y → b ≡ y
some_of a b y e f = cc

pub partner-second : (C : Clause) (x a y : Literal) → ArePairs IsBelow C → length C ≡ 2 → IsIn (negation x) C → a ≡ get_or C 0 a → (a ≡ negation x → ⊥) → (Some a ≡ Some y) ↔ Binary (C ∷ []) x y
partner-second [] x a y o n m e f = absurd m
partner-second (i ∷ []) x a y o n m e f = absurd (let z : 1 ≡ 2 = n in omega arith)
partner-second (i ∷ j ∷ k ∷ C) x a y o n m e f = absurd (let z : suc (suc (suc (length C))) ≡ 2 = n in omega arith)
partner-second (i ∷ j ∷ []) x a y o n (inl g) e f = absurd (f (e ∙ sym g))
partner-second (i ∷ j ∷ []) x a y o n (inr (inl g)) e f = let p = pair-second x i j y o (sym g) in ((λ s. p.0 (some_of a i y e s)), (λ b. some_same a i y e (p.1 b)))
partner-second (i ∷ j ∷ []) x a y o n (inr (inr z)) e f = absurd z

pub partner-first : (C : Clause) (x a b y : Literal) → ArePairs IsBelow C → length C ≡ 2 → a ≡ get_or C 0 a → b ≡ get_or C 1 b → a ≡ negation x → (Some b ≡ Some y) ↔ Binary (C ∷ []) x y
partner-first [] x a b y o n e g f = absurd (let z : 0 ≡ 2 = n in omega arith)
partner-first (i ∷ []) x a b y o n e g f = absurd (let z : 1 ≡ 2 = n in omega arith)
partner-first (i ∷ j ∷ k ∷ C) x a b y o n e g f = absurd (let z : suc (suc (suc (length C))) ≡ 2 = n in omega arith)
partner-first (i ∷ j ∷ []) x a b y o n e g f = let p = pair-first x i j y o (sym e ∙ f) in ((λ s. p.0 (some_of b j y g s)), (λ h. some_same b j y g (p.1 h)))

pub partner-none : (C : Clause) (x y : Literal) → ArePairs IsBelow C → length C ≢ 2 → (let o : Option Literal = None in o ≡ Some y) ↔ Binary (C ∷ []) x y
partner-none C x y o n = ((λ s. absurd (no s)), (λ b. absurd (pair-other C x y o n b)))
  where
    no : (let o : Option Literal = None in o ≡ Some y) → ⊥
    no s = cc

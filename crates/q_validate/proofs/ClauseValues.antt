-- The values of clauses, by those of their literals, and what they say of a node.
use Rattle.std.proofs.Common.{◌≡◌, ◌+◌, ◌<◌, ◌++◌, ℕ, Bool, true, false, cond, ◌&&◌, ◌||◌, [], ◌∷◌, length, take, get_or, Option, Some, None, refl, sym, ap, ◌∙◌}
use Rattle.std.proofs.lemmas.List.{take_more}
use Rattle.q_logic.specs.declared.verdict.Verdict.TheVariants.{Lost, Won, Open}
use Rattle.q_logic.specs.Prelude.{Literal, Clause, Matrix, Prefix, Assignment, worse}
use Rattle.q_logic.specs.Branches.{Claim, known_both, is_zero, is_one, literal_value, has_one, all_zero, both_missing, clause_verdict, verdict}
use Rattle.q_validate.specs.Below.{known_either, known_literals, known_clause, known_clauses, verdict_of}

both-assoc : (x y z : Option Bool) → known_both (known_both x y) z ≡ known_both x (known_both y z)
both-assoc None None None = refl
both-assoc None None (Some false) = refl
both-assoc None None (Some true) = refl
both-assoc None (Some false) z = refl
both-assoc None (Some true) None = refl
both-assoc None (Some true) (Some false) = refl
both-assoc None (Some true) (Some true) = refl
both-assoc (Some false) y z = refl
both-assoc (Some true) y z = refl

both-true : (x : Option Bool) → known_both x (Some true) ≡ x
both-true None = refl
both-true (Some false) = refl
both-true (Some true) = refl

either-assoc : (x y z : Option Bool) → known_either (known_either x y) z ≡ known_either x (known_either y z)
either-assoc (Some true) y z = refl
either-assoc (Some false) (Some true) z = refl
either-assoc (Some false) (Some false) None = refl
either-assoc (Some false) (Some false) (Some false) = refl
either-assoc (Some false) (Some false) (Some true) = refl
either-assoc (Some false) None None = refl
either-assoc (Some false) None (Some false) = refl
either-assoc (Some false) None (Some true) = refl
either-assoc None (Some true) z = refl
either-assoc None (Some false) None = refl
either-assoc None (Some false) (Some false) = refl
either-assoc None (Some false) (Some true) = refl
either-assoc None None None = refl
either-assoc None None (Some false) = refl
either-assoc None None (Some true) = refl

either-swap : (x : Option Bool) → known_either x (Some false) ≡ known_either (Some false) x
either-swap None = refl
either-swap (Some false) = refl
either-swap (Some true) = refl

literals-push : (q : Claim) (P : Prefix) (A : Assignment) (C : Clause) (k : Literal) →
    known_literals q P A (C ++ k ∷ []) ≡ known_either (known_literals q P A C) (literal_value q P A k)
literals-push q P A [] k = either-swap (literal_value q P A k)
literals-push q P A (j ∷ C) k =
    ap (known_either (literal_value q P A j)) (literals-push q P A C k)
    ∙ sym (either-assoc (literal_value q P A j) (known_literals q P A C) (literal_value q P A k))

-- One more literal of a clause.
pub literals-more : (q : Claim) (P : Prefix) (A : Assignment) (C : Clause) (i : ℕ) (k : Literal) → i < length C → k ≡ get_or C i k →
    known_either (known_literals q P A (take i C)) (literal_value q P A k) ≡ known_literals q P A (take (i + 1) C)
literals-more q P A C i k h e =
    sym (literals-push q P A (take i C) k)
    ∙ ap (λ j. known_literals q P A (take i C ++ j ∷ [])) e
    ∙ sym (ap (known_literals q P A) (take_more C i k h))

clauses-push : (q : Claim) (P : Prefix) (A : Assignment) (X : Matrix) (C : Clause) →
    known_clauses q P A (X ++ C ∷ []) ≡ known_both (known_clauses q P A X) (known_clause q P A C)
clauses-push q P A [] C = both-true (known_clause q P A C)
clauses-push q P A (D ∷ X) C =
    ap (known_both (known_clause q P A D)) (clauses-push q P A X C)
    ∙ sym (both-assoc (known_clause q P A D) (known_clauses q P A X) (known_clause q P A C))

-- One more clause of the formula.
pub clauses-more : (q : Claim) (P : Prefix) (A : Assignment) (X : Matrix) (i : ℕ) (C : Clause) → i < length X → C ≡ get_or X i C →
    known_both (known_clauses q P A (take i X)) (known_clause q P A C) ≡ known_clauses q P A (take (i + 1) X)
clauses-more q P A X i C h e =
    sym (clauses-push q P A (take i X) C)
    ∙ ap (λ D. known_clauses q P A (take i X ++ D ∷ [])) e
    ∙ sym (ap (known_clauses q P A) (take_more X i C h))

-- A clause without and with both signs missing.
pub clause-told : (q : Claim) (P : Prefix) (A : Assignment) (C : Clause) → both_missing q C ≡ false → known_literals q P A C ≡ known_clause q P A C
clause-told q P A C h = sym (ap (λ b. cond b (Some true) (known_literals q P A C)) h)

pub clause-missing : (q : Claim) (P : Prefix) (A : Assignment) (C : Clause) → both_missing q C ≡ true → Some true ≡ known_clause q P A C
clause-missing q P A C h = sym (ap (λ b. cond b (Some true) (known_literals q P A C)) h)

one-either : (x y : Option Bool) → is_one (known_either x y) ≡ is_one x || is_one y
one-either None None = refl
one-either None (Some false) = refl
one-either None (Some true) = refl
one-either (Some false) None = refl
one-either (Some false) (Some false) = refl
one-either (Some false) (Some true) = refl
one-either (Some true) y = refl

zero-either : (x y : Option Bool) → is_zero (known_either x y) ≡ is_zero x && is_zero y
zero-either None None = refl
zero-either None (Some false) = refl
zero-either None (Some true) = refl
zero-either (Some false) None = refl
zero-either (Some false) (Some false) = refl
zero-either (Some false) (Some true) = refl
zero-either (Some true) y = refl

one-literals : (q : Claim) (P : Prefix) (A : Assignment) (C : Clause) → is_one (known_literals q P A C) ≡ has_one q P A C
one-literals q P A [] = refl
one-literals q P A (k ∷ C) =
    one-either (literal_value q P A k) (known_literals q P A C) ∙ ap (λ b. is_one (literal_value q P A k) || b) (one-literals q P A C)

zero-literals : (q : Claim) (P : Prefix) (A : Assignment) (C : Clause) → is_zero (known_literals q P A C) ≡ all_zero q P A C
zero-literals q P A [] = refl
zero-literals q P A (k ∷ C) =
    zero-either (literal_value q P A k) (known_literals q P A C) ∙ ap (λ b. is_zero (literal_value q P A k) && b) (zero-literals q P A C)

-- What a clause says.
pub clause-says : (q : Claim) (P : Prefix) (A : Assignment) (C : Clause) → verdict_of (known_clause q P A C) ≡ clause_verdict q P A C
clause-says q P A C =
    go (both_missing q C) (has_one q P A C) (all_zero q P A C) (known_literals q P A C) (one-literals q P A C) (zero-literals q P A C)
  where
    go : (m o z : Bool) (x : Option Bool) → is_one x ≡ o → is_zero x ≡ z → verdict_of (cond m (Some true) x) ≡ cond (o || m) Won (cond z Lost Open)
    go true true z x e f = refl
    go true false z x e f = refl
    go false true z (Some true) e f = refl
    go false false z (Some true) e f = absurd (cc)
    go false true z (Some false) e f = absurd (cc)
    go false false true (Some false) e f = refl
    go false false false (Some false) e f = absurd (cc)
    go false true z None e f = absurd (cc)
    go false false true None e f = absurd (cc)
    go false false false None e f = refl

both-worse : (x y : Option Bool) → verdict_of (known_both x y) ≡ worse (verdict_of x) (verdict_of y)
both-worse None None = refl
both-worse None (Some false) = refl
both-worse None (Some true) = refl
both-worse (Some false) y = refl
both-worse (Some true) y = refl

-- What the formula says.
pub formula-says : (q : Claim) (X : Matrix) (P : Prefix) (A : Assignment) → verdict_of (known_clauses q P A X) ≡ verdict q X P A
formula-says q [] P A = refl
formula-says q (C ∷ X) P A =
    both-worse (known_clause q P A C) (known_clauses q P A X)
    ∙ ap (λ v. worse v (verdict_of (known_clauses q P A X))) (clause-says q P A C)
    ∙ ap (worse (clause_verdict q P A C)) (formula-says q X P A)

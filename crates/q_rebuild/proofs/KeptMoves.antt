-- Moves of the first rounds are kept.
use Rattle.std.proofs.Common.{◌≡◌, ℕ, List, inr, refl, sym, ◌∙◌}
use Rattle.q_logic.specs.Prelude.{Prefix, PrenexFormula, IsFormula, Assignment, CertificateView, trees_of, Strategy, Lawful, SkolemOf, outcome, ProofStep, Run, UndoEntry, Undos, Back}
use Rattle.q_logic.proofs.Common.{JustifiedRun, Run-justified, rebuilt-lawful}
use Rattle.q_logic.specs.Moves.{IsFirst, Agree, CanBeCompleted, Wins}
use Rattle.q_logic.proofs.MovesBack.{run-agree}
use Rattle.q_logic.proofs.FirstMoves.{completion-back, winning-back, wins-skolem, skolem-wins}
use Rattle.q_rebuild.specs.Rebuilt.{IsRebuilt}
use Rattle.q_rebuild.specs.Moves.{KeepsMoves}
use Rattle.q_rebuild.proofs.UndoLists.{undos-alike}

-- What is made agrees with what is taken back.
made-agrees : (F G : PrenexFormula) (us : List UndoEntry) (gave made : CertificateView) →
    Lawful F.prefix (Back us (trees_of gave)) → IsRebuilt F G us gave made → (n : ℕ) (A : Assignment) →
    Agree F.prefix n (trees_of made) (Back us (trees_of gave)) A
made-agrees F G us gave made l r n A x w =
    (r.lawful.trees x ∙ sym (l.trees x), r.values x w.0 A)

Agree-trans : (P : Prefix) (n : ℕ) (c d e : Strategy) (A : Assignment) → Agree P n c d A → Agree P n d e A →
    Agree P n c e A
Agree-trans P n c d e A h k x w = ((h x w).0 ∙ (k x w).0, (h x w).1 ∙ (k x w).1)

Agree-sym : (P : Prefix) (n : ℕ) (c d : Strategy) (A : Assignment) → Agree P n c d A → Agree P n d c A
Agree-sym P n c d A h x w = (sym (h x w).0, sym (h x w).1)

pub keeps-moves : (F G : PrenexFormula) (ss : List ProofStep) (us : List UndoEntry) (gave made : CertificateView) →
    IsFormula F → IsFormula G → Run F ss G → Undos F ss us → Lawful G.prefix (trees_of gave) →
    IsRebuilt F G us gave made → KeepsMoves F G us gave made
keeps-moves F G ss us gave made f g run u l r = record {
  lawful = l;
  same = same;
  completed = completed;
  winning = winning;
}
  where
    j : JustifiedRun F ss G
    j = Run-justified F ss G run

    back : (c : CertificateView) → Lawful G.prefix (trees_of c) → Lawful F.prefix (Back us (trees_of c))
    back c k = rebuilt-lawful F ss G us (trees_of c) f j u k

    same : (ts : List ProofStep) (vs : List UndoEntry) (gave2 made2 : CertificateView) (n : ℕ) (A : Assignment) →
        Run F ts G → Undos F ts us → Undos F ts vs → Lawful G.prefix (trees_of gave2) → IsRebuilt F G vs gave2 made2 →
        Agree G.prefix n (trees_of gave) (trees_of gave2) A → Agree F.prefix n (trees_of made) (trees_of made2) A
    same ts vs gave2 made2 n A run2 u2 v2 l2 r2 h =
        let k : JustifiedRun F ts G = Run-justified F ts G run2 in
        Agree-trans F.prefix n (trees_of made) (Back us (trees_of gave)) (trees_of made2) A
        (made-agrees F G us gave made (back gave l) r n A)
        (Agree-trans F.prefix n (Back us (trees_of gave)) (Back us (trees_of gave2)) (trees_of made2) A
        (run-agree F ts G us n (trees_of gave) (trees_of gave2) A f k u2 (inr (l, l2)) h)
        (Agree-trans F.prefix n (Back us (trees_of gave2)) (Back vs (trees_of gave2)) (trees_of made2) A
        (λ x w. undos-alike F ts us vs (trees_of gave2) (trees_of gave2) A u2 v2 (λ y. (refl, refl)) x)
        (Agree-sym F.prefix n (trees_of made2) (Back vs (trees_of gave2)) A
        (made-agrees F G vs gave2 made2 (rebuilt-lawful F ts G vs (trees_of gave2) f k v2 l2) r2 n A))))

    completed : (n : ℕ) → CanBeCompleted G n (trees_of gave) → CanBeCompleted F n (trees_of made)
    completed n k = go (completion-back F ss G us n (trees_of gave) f j u (inr l) k)
      where
        go : CanBeCompleted F n (Back us (trees_of gave)) → CanBeCompleted F n (trees_of made)
        go (d, sk, h) = (
          d,
          sk,
          λ A. Agree-trans F.prefix n (trees_of made) (Back us (trees_of gave)) d A
              (made-agrees F G us gave made (back gave l) r n A) (h A),
        )

    winning : (A : Assignment) → Wins G (outcome (trees_of gave) A) → Wins F (outcome (trees_of made) A)
    winning A w =
        go (wins-skolem F (outcome (Back us (trees_of gave)) A) f
        (winning-back F ss G us (trees_of gave) A f g j u (λ x i. l.trees x ∙ i.0) w))
      where
        go : (d : Strategy) × SkolemOf F d × ((B : Assignment) (x : ℕ) → IsFirst F.prefix x →
            outcome d B x ≡ outcome (Back us (trees_of gave)) A x) → Wins F (outcome (trees_of made) A)
        go (d, sk, h) =
            skolem-wins F (outcome (trees_of made) A) d f sk (λ B x i. h B x i ∙ sym (r.values x i.0 A))

-- Notes of clauses that have nothing in common.
use Rattle.std.proofs.Common.{◌≡◌, ◌≢◌, ◌∙◌, ◌++◌, ◌∷◌, [], ℕ, List, Some, OnOk, OnErr, Result, Ok, Err, get_or, set, inl, inr, sym, ap, subst}
use Rattle.std.specs.Prelude.{◌⊎◌}
use Rattle.std.proofs.lemmas.List.{get_or-set_same, get_or-set_other}
use Rattle.q_logic.specs.Prelude.{Literal, pack, Clause, Prefix, IsIn, Slots, slot, others}
use Rattle.q_logic.specs.Blocking.{Clashes}
use Rattle.q_logic.proofs.Common.{IsIn-append, pack-same, same_or_not}
use Rattle.q_kernel.specs.Prelude.{Seen, slots}
use Rattle.q_pages.specs.Rows.{Row, item_at, IsMade, HasSameItems}
use Rattle.q_rule.proofs.IdClauses.{slot-one}
use Rattle.q_blocked.specs.declared.apart.Apart.{Apart}
use Rattle.q_blocked.specs.declared.pairs.Pair.{Pair}
use Rattle.q_blocked.specs.Walks.{CoversNothing}
use Rattle.q_blocked.specs.Notes.{IsApart, AreApart}
use Rattle.q_blocked.proofs.CoveredLiterals.{closed-parted}

-- no notes are right for any kernel
pub apart-none : (k : Seen) (a : Apart) → a.noted ≡ [] → AreApart k a
apart-none k a e l m = absurd (subst (λ (ls : Clause). IsIn l ls) e m)

-- a row that says the same of each literal
pub apart-kept : (k : Seen) (old new : Apart) → new.noted ≡ old.noted → HasSameItems old.pairs new.pairs → AreApart k old → AreApart k new
apart-kept k old new e f h l m = subst (λ (p : Pair). IsApart k.prefix (slots k) l p.first p.second) (sym (f (pack l))) (h l (subst (λ (ls : Clause). IsIn l ls) e m))

-- a pair has come to a row
abbrev pub HasPlaced : Row Pair → Row Pair → ℕ → Pair → Type 0
HasPlaced old new i p = (item_at new i ≡ p) × ((j : ℕ) → j ≢ i → item_at new j ≡ item_at old j)

pub placed : (old mid new : Row Pair) (i : ℕ) (p : Pair) → HasSameItems old mid → IsMade mid i → new.items ≡ set mid.items i p → new.none ≡ mid.none → HasPlaced old new i p
placed old mid new i p f m e n =
    let here : (j : ℕ) → item_at new j ≡ get_or (set mid.items i p) j mid.none = λ j. ap (λ (xs : List Pair). get_or xs j new.none) e ∙ ap (λ (q : Pair). get_or (set mid.items i p) j q) n in
    (here i ∙ get_or-set_same mid.items i p mid.none m.0, λ j d. here j ∙ (get_or-set_other mid.items i j p mid.none d ∙ f j))

pub same-items : (old new : Row Pair) → new.items ≡ old.items → new.none ≡ old.none → HasSameItems old new
same-items old new e n i = ap (λ (xs : List Pair). get_or xs i new.none) e ∙ ap (λ (q : Pair). get_or old.items i q) n

-- the literals after a push
pub pushed-cases : {T E : Type 0} (r : Result T E) (old new : Clause) (l : Literal) → OnOk r (new ≡ old ++ l ∷ []) → OnErr r (new ≡ old) → (j : Literal) → IsIn j new → IsIn j old ⊎ (j ≡ l)
pushed-cases (Err x) old new l f g j m = inl (subst (λ (ls : Clause). IsIn j ls) g m)
pushed-cases (Ok x) old new l f g j m = elim (IsIn-append j old (l ∷ []) (subst (λ (ls : Clause). IsIn j ls) f m)) [
  | inl a ↦ inl a
  | inr (inl e) ↦ inr e
  | inr (inr z) ↦ absurd z
]

-- so the clauses of one more literal are noted, or others of it
pub apart-noted : (k : Seen) (old new : Apart) (l : Literal) (p : Pair) → ((j : Literal) → IsIn j new.noted → IsIn j old.noted ⊎ (j ≡ l)) → HasPlaced old.pairs new.pairs (pack l) p → AreApart k old → IsApart k.prefix (slots k) l p.first p.second → AreApart k new
apart-noted k old new l p f h a b j m = elim (same_or_not j l) [
  | inl e ↦ subst (λ (x : Literal). IsApart k.prefix (slots k) x (item_at new.pairs (pack x)).first (item_at new.pairs (pack x)).second) (sym e)
      (subst (λ (q : Pair). IsApart k.prefix (slots k) l q.first q.second) (sym h.0) b)
  | inr n ↦ subst (λ (q : Pair). IsApart k.prefix (slots k) j q.first q.second) (sym (h.1 (pack j) (λ e. n (pack-same j l e))))
      (a j (elim (f j m) [ inl i ↦ i | inr e ↦ absurd (n e) ]))
]

-- the pair of a literal that is noted
pub noted-apart : (k : Seen) (a : Apart) (l : Literal) (p : Pair) (i : ℕ) → AreApart k a → IsIn l a.noted → p ≡ item_at a.pairs i → i ≡ pack l → IsApart k.prefix (slots k) l p.first p.second
noted-apart k a l p i h m e f = subst (λ (q : Pair). IsApart k.prefix (slots k) l q.first q.second) (sym (e ∙ ap (λ (n : ℕ). item_at a.pairs n) f)) (h l m)

-- where none of the clauses clashes, nothing is covered
pub apart-covers : (P : Prefix) (N : Slots) (c d e : ℕ) (l : Literal) (S : Clause) → IsApart P N l d e → d ≢ c → e ≢ c → ((C : Clause) → slot N d ≡ Some C → Clashes P l S C → ⊥) → ((D : Clause) → slot N e ≡ Some D → Clashes P l S D → ⊥) → CoversNothing P (others c N) l S
apart-covers P N c d e l S (C, D, s, t, i, j, h) n m f g = closed-parted P N c l S d e (C, (n, s), i, f C s) (D, (m, t), j, g D t)
    (λ A B a b k x z y o. h k (subst (λ (E : Clause). IsIn k E) (slot-one N d A C a s) x) z (subst (λ (E : Clause). IsIn k E) (slot-one N e B D b t) y))

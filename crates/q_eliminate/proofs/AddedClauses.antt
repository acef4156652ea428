-- Clauses that come, one after the other.
use Rattle.std.proofs.Common.{◌≡◌, ◌≤◌, ◌<◌, ◌+◌, ◌++◌, ℕ, List, [], ◌∷◌, length, drop, get_or, Option, None, Some, inl, inr, arith, refl, sym, ap, ◌∙◌, subst, length-append, append_assoc}
use Rattle.std.proofs.lemmas.List.{append-nil}
use Rattle.q_logic.specs.Prelude.{Literal, IsBelow, negation, Clause, Matrix, Prefix, IsIn, ArePairs, without, size_of, Slots, slot, live, put_first, clauses_at, IsTautology, put_unless_tautology, Within, first_of, resolvent, resolve_one, resolve_all}
use Rattle.q_logic.proofs.EliminateRun.{resolvent-implied}
use Rattle.q_logic.proofs.Common.{pairs-ordered, ordered-pairs, union-ordered, without-ordered, SameClauses, alike-refl, alike-trans, alike-append, alike-append_swap, union-IsIn, live-slot, without-IsIn, is_tautology-whole, is_tautology-none, length-set_slot, slot-below, same-sizes, slot-set_other}
use Rattle.q_kernel.specs.Prelude.{Seen, slots, formula_in, IsSound, MayAdd, IsAdded}
use Rattle.q_kernel.proofs.TextCosts.{cost-add, within-small}
use Rattle.q_kernel.proofs.KernelRuns.{led-itself, led-through}
use Rattle.q_kernel.proofs.SlotLists.{alike-added}
use Rattle.q_rule.proofs.RuleSteps.{clause-within}
use Rattle.q_eliminate.specs.Growing.{CanGrow, HasGrown}
use Rattle.q_eliminate.proofs.GainCounts.{literals-append, put-plain, put-tautology}
use Rattle.q_eliminate.specs.Sides.{clause_or_none, clause_in, IsParent, AreParents}
use Rattle.q_eliminate.proofs.IdWalks.{id-in, at-next, at-member}
use Rattle.q_eliminate.proofs.ResolventOrder.{put-apart}
use Rattle.q_logic.proofs.MeasureFalls.{size-append}
use Rattle.q_log.proofs.WritableRuns.{first-of}

-- the literals of a resolvent are bound
pub resolvent-within : (P : Prefix) (l : Literal) (C D : Clause) → Within P C → Within P D → Within P (resolvent l C D)
resolvent-within P l C D a b k m = elim (union-IsIn (without l C) (without (negation l) D) k m) [
  | inl x ↦ a k (without-IsIn l C k x)
  | inr y ↦ b k (without-IsIn (negation l) D k y)
]

pub resolvent-ordered : (l : Literal) (C D : Clause) → ArePairs IsBelow D → ArePairs IsBelow (resolvent l C D)
resolvent-ordered l C D o = ordered-pairs (resolvent l C D) (union-ordered (without l C) (without (negation l) D) (without-ordered (negation l) D (pairs-ordered D o)))

-- A resolvent may come.
pub may-come : (k : Seen) (l : Literal) (c d : ℕ) (C D : Clause) → IsSound k → slot (slots k) c ≡ Some C → slot (slots k) d ≡ Some D → ArePairs IsBelow D → IsIn (negation l) D → CanGrow k (resolvent l C D ∷ []) → MayAdd k (first_of (resolvent l C D)) (resolvent l C D)
may-come k l c d C D s e f o n g =
    let U = resolvent l C D in
    let w : Within k.prefix U = resolvent-within k.prefix l C D (clause-within k c C s e) (clause-within k d D s f) in
    let r : ArePairs IsBelow U = resolvent-ordered l C D o in
    let b = cost-add (first_of U) U r (first-of U) (within-small (formula_in k) U s.proper w) in
    let g1 = g.words in let g2 = g.ids in let g3 = g.bytes in
    record {
      ordered = r;
      first = first-of U;
      step = record {
        valid = (w, inl (resolvent-implied (live (slots k)) l C D (live-slot (slots k) c C e) (live-slot (slots k) d D f) n), g.limits);
        bytes = omega arith;
      };
      words = omega arith;
      ids = omega arith;
    }

pub has-come : (old new : Seen) (U : Clause) (id : ℕ) → ArePairs IsBelow U → IsSound old → Within old.prefix U → IsAdded old new (first_of U) U id → HasGrown old new (U ∷ [])
has-come old new U id o s w h =
    let b = cost-add (first_of U) U o (first-of U) (within-small (formula_in old) U s.proper w) in
    let n : id < length (slots old) = subst (λ (k : ℕ). id < k) (ap length h.change ∙ length-set_slot id (Some U) (slots old)) (slot-below (slots new) id U h.there) in
    let x = h.words in let y = h.ids in let z = h.logged.bytes in
    record {
      led = h.logged.led;
      prefix = h.prefix;
      kept = λ c C e. subst (λ (N : Slots). slot N c ≡ Some C) (sym h.change) (slot-set_other id c (Some U) (slots old) (λ q. none-some C (sym h.free ∙ subst (λ (x : ℕ). slot (slots old) x ≡ Some C) q e)) ∙ e);
      clauses = subst (λ (N : Slots). SameClauses (live N) (U ∷ live (slots old))) (sym h.change) (alike-added (slots old) id U h.free n);
      words = omega arith;
      ids = omega arith;
      bytes = omega arith;
    }
  where
    none-some : (C : Clause) → None ≡ Some C → ⊥
    none-some C e = cc

-- The resolvent of two ids, in the code's words.
module _ (N : Slots) (l : Literal) (c d : ℕ) (C D : Clause) (e : slot N c ≡ Some C) (f : slot N d ≡ Some D) where
  pub in-first : clause_in N c ≡ C
  in-first = ap clause_or_none e

  pub in-second : clause_in N d ≡ D
  in-second = ap clause_or_none f

  pub told-resolvent : put_unless_tautology (resolvent l (clause_in N c) (clause_in N d)) [] ≡ put_unless_tautology (resolvent l C D) []
  told-resolvent = ap (λ (X : Clause). put_unless_tautology (resolvent l X (clause_in N d)) []) in-first ∙ ap (λ (Y : Clause). put_unless_tautology (resolvent l C Y) []) in-second

  pub told-plain : (U : Clause) → U ≡ resolvent l C D → (IsTautology U → ⊥) → put_unless_tautology (resolvent l (clause_in N c) (clause_in N d)) [] ≡ resolvent l C D ∷ []
  told-plain U u n = told-resolvent ∙ put-plain (resolvent l C D) [] (is_tautology-none (resolvent l C D) (λ t. n (subst IsTautology (sym u) t)))

  pub told-tautology : (U : Clause) → U ≡ resolvent l C D → IsTautology U → put_unless_tautology (resolvent l (clause_in N c) (clause_in N d)) [] ≡ []
  told-tautology U u t = told-resolvent ∙ put-tautology (resolvent l C D) [] (is_tautology-whole (resolvent l C D) (subst IsTautology u t))

pub come-none : (k : Seen) → HasGrown k k []
come-none k = record { led = led-itself k; prefix = refl; kept = λ c C e. e; clauses = λ C. refl; words = omega arith; ids = omega arith; bytes = omega arith }

come-through : (a b c : Seen) (V W : Matrix) → HasGrown a b V → HasGrown b c W → HasGrown a c (V ++ W)
come-through a b c V W f g =
    let x = length-append V W in let y = literals-append V W in let z = size-append V W in
    let f1 = f.words in let g1 = g.words in let f2 = f.ids in let g2 = g.ids in let f3 = f.bytes in let g3 = g.bytes in
    let A = live (slots a) in
    record {
      led = led-through a b c f.led g.led;
      prefix = g.prefix ∙ f.prefix;
      kept = λ d C e. g.kept d C (f.kept d C e);
      clauses = alike-trans (live (slots c)) (W ++ live (slots b)) ((V ++ W) ++ A) g.clauses
          (alike-trans (W ++ live (slots b)) (W ++ (V ++ A)) ((V ++ W) ++ A) (alike-append W W (live (slots b)) (V ++ A) (alike-refl W) f.clauses)
          (subst (λ (X : Matrix). SameClauses X ((V ++ W) ++ A)) (append_assoc W V A) (alike-append (W ++ V) (V ++ W) A A (alike-append_swap W V) (alike-refl A))));
      words = omega arith;
      ids = omega arith;
      bytes = omega arith;
    }

pub can-part : (k : Seen) (V W : Matrix) → CanGrow k (V ++ W) → CanGrow k V
can-part k V W g =
    let A = live (slots k) in
    let x = length-append V W in let y = literals-append V W in let z = size-append V W in
    let g1 = g.words in let g2 = g.ids in let g3 = g.bytes in let g4 = g.limits.clauses in let g5 = g.limits.lits in
    let l1 = length-append (V ++ W) A in let l2 = length-append V A in
    let t1 = literals-append (V ++ W) A in let t2 = literals-append V A in
    record { words = omega arith; ids = omega arith; bytes = omega arith; limits = record { clauses = omega arith; lits = omega arith } }

can-rest : (a b : Seen) (V W : Matrix) → CanGrow a (V ++ W) → HasGrown a b V → CanGrow b W
can-rest a b V W g h =
    let A = live (slots a) in
    let B = live (slots b) in
    let x = length-append V W in let y = literals-append V W in let z = size-append V W in
    let g1 = g.words in let g2 = g.ids in let g3 = g.bytes in let g4 = g.limits.clauses in let g5 = g.limits.lits in
    let l1 = length-append (V ++ W) A in let l2 = length-append W B in let l3 = length-append V A in
    let t1 = literals-append (V ++ W) A in let t2 = literals-append W B in let t3 = literals-append V A in
    let e = same-sizes B (V ++ A) h.clauses in
    let e0 = e.0 in let e1 = e.1 in
    let h1 = h.words in let h2 = h.ids in let h3 = h.bytes in
    record { words = omega arith; ids = omega arith; bytes = omega arith; limits = record { clauses = omega arith; lits = omega arith } }

-- some clauses V are to come, of which W have not yet
pub record IsGrowing (old now : Seen) (V W : Matrix) : Type 0 where
  pub done : Matrix
  pub whole : V ≡ done ++ W
  pub grown : HasGrown old now done
  pub can : CanGrow now W

pub growing-begun : (k : Seen) (V : Matrix) → CanGrow k V → IsGrowing k k V V
growing-begun k V c = record { done = []; whole = refl; grown = come-none k; can = c }

pub growing-same : (old now : Seen) (V W X : Matrix) → W ≡ X → IsGrowing old now V W → IsGrowing old now V X
growing-same old now V W X e g = subst (λ (Y : Matrix). IsGrowing old now V Y) e g

pub growing-more : (old now next : Seen) (V P W : Matrix) → IsGrowing old now V (P ++ W) → HasGrown now next P → IsGrowing old next V W
growing-more old now next V P W g h = record {
  done = g.done ++ P;
  whole = g.whole ∙ sym (append_assoc g.done P W);
  grown = come-through old now next g.done P g.grown h;
  can = can-rest now next P W g.can h;
}

pub growing-done : (old now : Seen) (V : Matrix) → IsGrowing old now V [] → HasGrown old now V
growing-done old now V g = subst (λ (X : Matrix). HasGrown old now X) (sym (g.whole ∙ append-nil g.done)) g.grown

-- Parents stay while clauses come.
pub parent-kept : (a b : Seen) (V : Matrix) (l : Literal) (c : ℕ) → HasGrown a b V → IsParent (slots a) l c → IsParent (slots b) l c
parent-kept a b V l c h p = record { clause = p.clause; there = h.kept c p.clause p.there; held = p.held; plain = p.plain }

pub in-kept : (a b : Seen) (V : Matrix) (l : Literal) (c : ℕ) → HasGrown a b V → IsParent (slots a) l c → clause_in (slots b) c ≡ clause_in (slots a) c
in-kept a b V l c h p = ap clause_or_none (h.kept c p.clause p.there ∙ sym p.there)

pub at-kept : (a b : Seen) (V : Matrix) (l : Literal) (ids : List ℕ) → HasGrown a b V → AreParents (slots a) l ids → clauses_at (slots b) ids ≡ clauses_at (slots a) ids
at-kept a b V l [] h p = refl
at-kept a b V l (c ∷ ids) h p =
    let q = p c (inl refl) in
    let i = at-kept a b V l ids h (λ d m. p d (inr m)) in
    ap (λ (o : Option Clause). put_first o (clauses_at (slots b) ids)) (h.kept c q.clause q.there ∙ sym q.there) ∙ ap (put_first (slot (slots a) c)) i

-- The next parent of a row of ids.
module _ (N : Slots) (l m : Literal) (ids : List ℕ) (i : ℕ) (p : AreParents N m ids) (h : i < length ids) where
  here : IsParent N m (get_or ids i 0)
  here = p (get_or ids i 0) (id-in ids i h)

  next-at : clauses_at N (drop i ids) ≡ clause_in N (get_or ids i 0) ∷ clauses_at N (drop (i + 1) ids)
  next-at = at-next N ids i here.clause h here.there ∙ ap (λ (C : Clause). C ∷ clauses_at N (drop (i + 1) ids)) (sym (ap clause_or_none here.there))

  pub next-resolvent : (C : Clause) → resolve_one l C (clauses_at N (drop i ids)) ≡ put_unless_tautology (resolvent l C (clause_in N (get_or ids i 0))) [] ++ resolve_one l C (clauses_at N (drop (i + 1) ids))
  next-resolvent C = ap (resolve_one l C) next-at ∙ put-apart (resolvent l C (clause_in N (get_or ids i 0))) (resolve_one l C (clauses_at N (drop (i + 1) ids)))

  pub next-resolvents : (Y : Matrix) → resolve_all l (clauses_at N (drop i ids)) Y ≡ resolve_one l (clause_in N (get_or ids i 0)) Y ++ resolve_all l (clauses_at N (drop (i + 1) ids)) Y
  next-resolvents Y = ap (λ (X : Matrix). resolve_all l X Y) next-at

  pub short-at : length (clause_in N (get_or ids i 0)) ≤ size_of (clauses_at N ids)
  short-at =
      let z = member-short (clauses_at N ids) here.clause (at-member N ids (get_or ids i 0) here.clause (id-in ids i h) here.there) in
      let e = ap length (ap clause_or_none here.there) in omega arith
    where
      member-short : (X : Matrix) (C : Clause) → IsIn C X → length C ≤ size_of X
      member-short [] C m = absurd m
      member-short (D ∷ X) C (inl e) = let q = ap length e in omega arith
      member-short (D ∷ X) C (inr m) = let q = member-short X C m in omega arith

-- Growing a set until it ends or is closed.
use Rattle.std.proofs.Common.{◌≡◌, ◌⊎◌, ℕ, Bool, true, false, List, [], ◌∷◌, ◌++◌, ◌+◌, ◌<◌, ◌≤◌, take, length, slice_get, Some, None, inl, inr, refl, sym, ap, ◌∙◌, subst, arith, length-append}
use Rattle.std.proofs.lemmas.List.{take-append-le, append_assoc}
use Rattle.q_logic.specs.Prelude.{Literal, negation, Clause, Matrix, Prefix, IsIn, is_bound, IsSubset, IsTautology, Within, Slots, others}
use Rattle.q_logic.specs.Covering.{Covered, Grows, Ends, Covers}
use Rattle.q_logic.proofs.CoverRun.{closed-covers_none, in_or_not}
use Rattle.q_logic.proofs.Common.{IsIn-append, IsIn-append_left, IsIn-append_right, live-slot, negation-negation, taken-cases, taken-all, same_or_not, IsIn-take}
use Rattle.q_logic.proofs.CoverOrder.{covers-more}
use Rattle.q_kernel.specs.Prelude.{Seen, slots, IsSound}
use Rattle.q_blocked.specs.declared.growth.Growth.{Growth}
use Rattle.q_blocked.specs.declared.plan.Stage.{Stage}
use Rattle.q_blocked.specs.Units.{HasUnits}
use Rattle.q_blocked.specs.Walks.{IsBeside, GivesNone, GivesNoneAt, Gives}
use Rattle.q_blocked.specs.Growths.{IsGrowing, IsPushed, IsLonger, IsPassive, UnitsGiveNone, Growing, HasSpread}
use Rattle.q_rule.proofs.IdClauses.{others-find}
use Rattle.q_blocked.proofs.ListFronts.{place-get}
use Rattle.q_blocked.proofs.HiddenLiterals.{other_or}
use Rattle.q_blocked.proofs.ReachedSets.{reached-begun, reached-hidden, reached-staged, reached-covered}

-- S is closed where all its literals have been looked at
pub closed : (P : Prefix) (X : Matrix) (S : Clause) → (IsTautology S → ⊥) → UnitsGiveNone X S → ((D : Clause) → IsIn D X → (k : Literal) → IsIn k S → IsIn k D → GivesNone S D) → ((k : Literal) → IsIn k S → IsPassive P X S k) → Covers P X S → ⊥
closed P X S consistent units gives_none passive = closed-covers_none P X S no_growth no_end S (λ k m. m)
  where
    no_growth : (U : Clause) → Grows P X S U → ⊥
    no_growth U (inl h) = h.is_new (elim (other_or h.by (negation h.new)) [
      | inl (k, m, d) ↦ gives_none h.by h.there k (h.others_in k m d) m h.new h.negated h.others_in
      | inr f ↦ units h.by h.there (negation h.new, h.negated, f) h.new h.negated h.others_in
    ])
    no_growth U (inr h) = h.new.2 ((passive h.on h.there h.existential).1 h.new.0 h.new.1)

    no_end : Ends P X S → ⊥
    no_end (inl t) = consistent t
    no_end (inr (l, m, e, all)) = let o = (passive l m e).0 in o.3 (all o.0 o.1 o.2)

-- a larger set without opposite new literals
pub opposed : (S K : Clause) → (IsTautology S → ⊥) → ((k : Literal) → IsIn k K → IsIn (negation k) (S ++ K) → ⊥) → IsTautology (S ++ K) → ⊥
opposed S K n f (k, a, b) = elim (IsIn-append k S K a) [
  | inr x ↦ f k x b
  | inl x ↦ elim (IsIn-append (negation k) S K b) [
    | inl y ↦ n (k, x, y)
    | inr y ↦ f (negation k) y (subst (λ (z : Literal). IsIn z (S ++ K)) (sym (negation-negation k)) a)
  ]
]

-- Clauses that give nothing still give nothing where the set grows, and for less of it.
pub gives_none-more : (H S K D : Clause) → GivesNoneAt H S D → GivesNoneAt H (S ++ K) D
gives_none-more H S K D f new m h = IsIn-append_left new S K (f new m h)

pub gives_none-less : (H G S D : Clause) → IsSubset H G → GivesNoneAt G S D → GivesNoneAt H S D
gives_none-less H G S D w f new m h = f new m (λ j i d. w j (h j i d))

-- the clause that gave a literal gives no other
pub gives_none-given : (S D : Clause) (new : Literal) → Gives S D new → (IsIn (negation new) (S ++ new ∷ []) → ⊥) → GivesNoneAt S (S ++ new ∷ []) D
gives_none-given S D new g n k m h = elim (same_or_not k new) [
  | inl e ↦ IsIn-append_right k S (new ∷ []) (inl e)
  | inr d ↦ absurd (n (IsIn-append_left (negation new) S (new ∷ []) (h (negation new) g.negated (λ e. d (sym (negation-negation k) ∙ (ap negation (sym e) ∙ negation-negation new))))))
]

-- A hidden literal comes.
module _ (P : Prefix) (X : Matrix) (C S : Clause) (ss : List Stage) (base worked : ℕ) (g : IsGrowing P X C S ss base worked) where
  walked-more : (K : Clause) → take worked (S ++ K) ≡ take worked S
  walked-more K = take-append-le worked S K g.walked

  pub growing-hidden : (D : Clause) (new : Literal) → IsIn D X → Gives S D new → is_bound P new.var ≡ true → (IsIn (negation new) (S ++ new ∷ []) → ⊥) → IsGrowing P X C (S ++ new ∷ []) ss base worked
  growing-hidden D new m h b n = record {
    reached = reached-hidden P X C S ss base g.reached D new m h b;
    consistent = opposed S (new ∷ []) g.consistent (λ k i j. elim i [ inl e ↦ n (subst (λ (l : Literal). IsIn (negation l) (S ++ new ∷ [])) e j) | inr none ↦ absurd none ]);
    walked = let w = g.walked in let l = length-append S (new ∷ []) in omega arith;
    gives_none = λ E i k x y. subst (λ (H : Clause). GivesNoneAt H (S ++ new ∷ []) E) (sym (walked-more (new ∷ [])))
        (gives_none-more (take worked S) S (new ∷ []) E (g.gives_none E i k (subst (λ (H : Clause). IsIn k H) (walked-more (new ∷ [])) x) y));
  }

-- The clauses with the next literal give nothing more.
pub growing-worked : (P : Prefix) (X : Matrix) (C S K : Clause) (ss : List Stage) (base worked : ℕ) (k : Literal) → worked < length S → slice_get S worked ≡ Some k → ((E : Clause) → IsIn E X × IsIn k E → GivesNoneAt (take (worked + 1) S) (S ++ K) E) → IsGrowing P X C (S ++ K) ss base worked → IsGrowing P X C (S ++ K) ss base (worked + 1)
growing-worked P X C S K ss base worked k more at' f g = record {
  reached = g.reached;
  consistent = g.consistent;
  walked = let l = length-append S K in omega arith;
  gives_none = λ D i j x y. go D i j x y (in_or_not k D);
}
  where
    e : take (worked + 1) (S ++ K) ≡ take (worked + 1) S
    e = take-append-le (worked + 1) S K (omega arith)

    e0 : take worked (S ++ K) ≡ take worked S
    e0 = take-append-le worked S K (omega arith)

    before : (j : Literal) → IsIn j (take (worked + 1) (S ++ K)) → IsIn j (take worked (S ++ K)) ⊎ (j ≡ k)
    before j x = elim (taken-cases S worked k j more (place-get S worked k at') (subst (λ (H : Clause). IsIn j H) e x)) [
      | inl a ↦ inl (subst (λ (H : Clause). IsIn j H) (sym e0) a)
      | inr q ↦ inr q
    ]

    go : (D : Clause) → IsIn D X → (j : Literal) → IsIn j (take (worked + 1) (S ++ K)) → IsIn j D → IsIn k D ⊎ (IsIn k D → ⊥) → GivesNoneAt (take (worked + 1) (S ++ K)) (S ++ K) D
    go D i j x y (inl m) new o h = let r : GivesNoneAt (take (worked + 1) (S ++ K)) (S ++ K) D = subst (λ (H : Clause). GivesNoneAt H (S ++ K) D) (sym e) (f D (i, m)) in r new o h
    go D i j x y (inr n) new m h = elim (before j x) [
      | inl a ↦ g.gives_none D i j a y new m (λ l z d. elim (before l (h l z d)) [ inl b ↦ b | inr q ↦ absurd (n (subst (λ (v : Literal). IsIn v D) q z)) ])
      | inr q ↦ absurd (n (subst (λ (v : Literal). IsIn v D) q y))
    ]

-- Literals that come one after the other.
append-none : (S : Clause) → S ++ [] ≡ S
append-none [] = refl
append-none (k ∷ S) = ap (λ (T : Clause). k ∷ T) (append-none S)

pub pushed-none : (g : Growth) → IsPushed g g
pushed-none g = record { added = []; set = sym (append-none g.set); stages = refl; base = refl; worked = refl }

-- a clause that gives nothing leaves all as it is
pub spread-none : (k : Seen) (c : ℕ) (Q : Clause → Type 0) (old new : Growth) → new.set ≡ old.set → new.plan.stages.items ≡ old.plan.stages.items → new.base ≡ old.base → new.worked ≡ old.worked → Growing k c new → ((E : Clause) → Q E → GivesNone old.set E) → HasSpread k c Q old new false
spread-none k c Q old new e f g h r q = (
  r,
  record { added = []; set = e ∙ sym (append-none old.set); stages = f; base = g; worked = h },
  λ E x. subst (λ (S : Clause). GivesNoneAt old.set S E) (sym e) (q E x),
)

-- what a growth spreads from one that differs in hints alone
pub spread-hinted : (k : Seen) (c : ℕ) (Q : Clause → Type 0) (old mid new : Growth) (b : Bool) → mid.set ≡ old.set → mid.plan.stages.items ≡ old.plan.stages.items → mid.base ≡ old.base → mid.worked ≡ old.worked → HasSpread k c Q mid new b → HasSpread k c Q old new b
spread-hinted k c Q old mid new true e f g h r = r
spread-hinted k c Q old mid new false e f g h r = (
  r.0,
  record { added = r.1.added; set = r.1.set ∙ ap (λ (S : Clause). S ++ r.1.added) e; stages = r.1.stages ∙ f; base = r.1.base ∙ g; worked = r.1.worked ∙ h },
  λ E x. subst (λ (S : Clause). GivesNoneAt S new.set E) e (r.2 E x),
)

pub pushed-on : (a b c : Growth) → IsPushed a b → IsPushed b c → IsPushed a c
pushed-on a b c f g = record {
  added = f.added ++ g.added;
  set = g.set ∙ (ap (λ (S : Clause). S ++ g.added) f.set ∙ append_assoc a.set f.added g.added);
  stages = g.stages ∙ f.stages;
  base = g.base ∙ f.base;
  worked = g.worked ∙ f.worked;
}

pub longer-pushed : (a b : Growth) → IsPushed a b → IsLonger a b
longer-pushed a b p = record { added = p.added; set = p.set; worked = p.worked }

pub longer-on : (a b c : Growth) → IsLonger a b → IsLonger b c → IsLonger a c
longer-on a b c f g = record {
  added = f.added ++ g.added;
  set = g.set ∙ (ap (λ (S : Clause). S ++ g.added) f.set ∙ append_assoc a.set f.added g.added);
  worked = g.worked ∙ f.worked;
}

-- from or to a growth of the same set
pub longer-same : (a b : Growth) → b.set ≡ a.set → b.worked ≡ a.worked → IsLonger a b
longer-same a b e w = record { added = []; set = e ∙ sym (append-none a.set); worked = w }

pub pushed-gives_none : (a b c : Growth) (D : Clause) → IsPushed b c → GivesNoneAt a.set b.set D → GivesNoneAt a.set c.set D
pushed-gives_none a b c D f h = subst (λ (S : Clause). GivesNoneAt a.set S D) (sym f.set) (gives_none-more a.set b.set f.added D h)

pub pushed-less : (a b : Growth) (S D : Clause) → IsPushed a b → GivesNoneAt b.set S D → GivesNoneAt a.set S D
pushed-less a b S D f h = gives_none-less a.set b.set S D (λ k m. subst (λ (T : Clause). IsIn k T) (sym f.set) (IsIn-append_left k a.set f.added m)) h

-- where none has come the set is the same
pub pushed-same : (a b : Growth) → IsPushed a b → length b.set ≤ length a.set → b.set ≡ a.set
pushed-same a b f h = f.set ∙ go f.added (let l = length-append a.set f.added in let e = ap length f.set in omega arith)
  where
    go : (K : Clause) → length K ≤ 0 → a.set ++ K ≡ a.set
    go [] l = append-none a.set
    go (k ∷ K) l = absurd (omega arith)

pub units-gives_none : (N : Slots) (c : ℕ) (ids : List ℕ) (S : Clause) → HasUnits N ids → ((d : ℕ) → IsIn d ids → (D : Clause) → IsBeside N c d D → GivesNone S D) → UnitsGiveNone (others c N) S
units-gives_none N c ids S h f D m s = let r = others-find N c D m in f r.0 (h r.0 D r.2 s) D (r.1, r.2)

-- The clause of the set comes, or covered literals do.
module _ (P : Prefix) (X : Matrix) (C S : Clause) (ss : List Stage) (base worked : ℕ) (g : IsGrowing P X C S ss base worked) where
  pub growing-staged : IsGrowing P X C S (ss ++ record { to = length S; on = None } ∷ []) (length S) worked
  growing-staged = record { reached = reached-staged P X C S ss base g.reached; consistent = g.consistent; walked = g.walked; gives_none = g.gives_none }

  pub growing-covered : (K : Clause) (h : Covered P X S (S ++ K)) → IsIn h.on (take base S) → ((D : Clause) → IsIn D X → Within P D) → ((k : Literal) → IsIn k K → IsIn (negation k) (S ++ K) → ⊥) → IsGrowing P X C (S ++ K) (ss ++ record { to = length (S ++ K); on = Some h.on } ∷ []) (length (S ++ K)) worked
  growing-covered K h m closed n = record {
    reached = reached-covered P X C S ss base g.reached K h m closed;
    consistent = opposed S K g.consistent n;
    walked = let w = g.walked in let l = length-append S K in omega arith;
    gives_none = λ E i k x y. subst (λ (H : Clause). GivesNoneAt H (S ++ K) E) (sym (walked-more P X C S ss base worked g K))
        (gives_none-more (take worked S) S K E (g.gives_none E i k (subst (λ (H : Clause). IsIn k H) (walked-more P X C S ss base worked g K) x) y));
  }

-- The clauses beside one are bound.
pub others-within : (k : Seen) (c : ℕ) → IsSound k → (D : Clause) → IsIn D (others c (slots k)) → Within k.prefix D
others-within k c s D m = let r = others-find (slots k) c D m in λ j i. s.proper.formula.closed D (live-slot (slots k) r.0 D r.2) j i

-- Begun with the clause itself.
pub growing-begun : (P : Prefix) (X : Matrix) (C : Clause) → Within P C → (IsTautology C → ⊥) → IsGrowing P X C C [] (length C) 0
growing-begun P X C w n = record { reached = reached-begun P X C w; consistent = n; walked = omega arith; gives_none = λ D i k m. absurd m }

-- Nothing lets it grow on.
pub growing-closed : (k : Seen) (c : ℕ) (C S : Clause) (ss : List Stage) (base worked : ℕ) → IsGrowing k.prefix (others c (slots k)) C S ss base worked → length S ≤ worked → UnitsGiveNone (others c (slots k)) S → ((l : Literal) → IsIn l S → IsPassive k.prefix (others c (slots k)) S l) → Covers k.prefix (others c (slots k)) C → ⊥
growing-closed k c C S ss base worked g past units passive cov =
    closed k.prefix (others c (slots k)) S g.consistent units
    (λ D i l m x. subst (λ (H : Clause). GivesNoneAt H S D) (taken-all S worked past) (g.gives_none D i l (subst (λ (H : Clause). IsIn l H) (sym (taken-all S worked past)) m) x))
    passive (covers-more k.prefix (others c (slots k)) C cov S (within C g.reached.begins))
  where
    within : (D : Clause) → take (length D) S ≡ D → IsSubset D S
    within D e l m = IsIn-take S (length D) l (subst (λ (H : Clause). IsIn l H) (sym e) m)

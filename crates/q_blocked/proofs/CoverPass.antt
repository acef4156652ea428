-- A pass over the literals of a set, in search of covered ones.
use Rattle.std.proofs.Common.{◌≡◌, ◌+◌, ◌<◌, ◌≤◌, ℕ, Bool, true, false, List, take, length, get_or, slice_get, Some, inl, inr, refl, sym, ◌∙◌, subst, true≢false}
use Rattle.std.proofs.lemmas.Option.{same_Some}
use Rattle.q_logic.specs.Prelude.{Literal, Clause, IsIn, others}
use Rattle.q_logic.specs.Covering.{Covers}
use Rattle.q_kernel.specs.Prelude.{Seen, slots}
use Rattle.q_logic.proofs.Common.{taken-cases, taken-all}
use Rattle.q_blocked.specs.declared.growth.Growth.{Growth}
use Rattle.q_blocked.specs.declared.progress.Progress.{Progress}
use Rattle.q_blocked.specs.declared.progress.Progress.TheVariants.{Ended, Grown, Unchanged}
use Rattle.q_blocked.specs.Progress.{is_ended, is_grown}
use Rattle.q_blocked.specs.Growths.{Growing, Covered, IsLonger, IsPassive, HasCovered, HasLooked, HasReplayed, HasTurned, HasUsedUnits, HasDecided}
use Rattle.q_blocked.proofs.AskedPlaces.{asked-passive}
use Rattle.q_blocked.proofs.SetGrowth.{growing-closed, longer-on, longer-same}

-- so many of the literals that are asked about were looked at
pub record IsPassing (k : Seen) (c : ℕ) (old now : Growth) (at' : ℕ) (grew : Bool) : Type 0 where
  pub growing : Growing k c now
  pub longer : IsLonger old now
  pub same : grew ≡ false → (now.set ≡ old.set) × (now.worked ≡ old.worked) × (now.asked.items ≡ old.asked.items)
  pub passive : grew ≡ false → (i : ℕ) → IsIn i (take at' old.asked.items) → (l : Literal) → slice_get old.set i ≡ Some l → IsPassive k.prefix (others c (slots k)) old.set l

pub passing-begun : (k : Seen) (c : ℕ) (g : Growth) → Growing k c g → IsPassing k c g g 0 false
passing-begun k c g h = record { growing = h; longer = longer-same g g refl refl; same = λ e. (refl, refl, refl); passive = λ e i m. absurd m }

pub passing-more : (k : Seen) (c : ℕ) (old now next : Growth) (at' : ℕ) (grew more : Bool) (place : ℕ) (o : Progress) → at' < length now.asked.items → place ≡ get_or now.asked.items at' place → is_ended o ≡ false → (more ≡ false → (grew ≡ false) × (is_grown o ≡ false)) → HasLooked k c (λ l. slice_get now.set place ≡ Some l) now next o → IsPassing k c old now at' grew → IsPassing k c old next (at' + 1) more
passing-more k c old now next at' grew more place Ended h e x f st t = absurd (true≢false x)
passing-more k c old now next at' grew more place Grown h e x f st t = record { growing = st.0; longer = longer-on old now next t.longer st.1; same = λ q. absurd (true≢false (f q).1); passive = λ q. absurd (true≢false (f q).1) }
passing-more k c old now next at' grew more place Unchanged h e x f (g, s, w, p, a) t = record {
  growing = g;
  longer = longer-on old now next t.longer (longer-same now next s w);
  same = λ q. let z = t.same (f q).0 in (s ∙ z.0, w ∙ z.1, a ∙ z.2);
  passive = λ q i m l r. let z = t.same (f q).0 in
      elim (taken-cases old.asked.items at' place i (subst (λ (xs : List ℕ). at' < length xs) z.2 h) (subst (λ (xs : List ℕ). place ≡ get_or xs at' place) z.2 e) m) [
        | inl b ↦ t.passive (f q).0 i b l r
        | inr b ↦ subst (λ (S : Clause). IsPassive k.prefix (others c (slots k)) S l) z.0
            (p l (subst (λ (S : Clause). slice_get S place ≡ Some l) (sym z.0) (subst (λ (j : ℕ). slice_get old.set j ≡ Some l) b r)))
      ];
}

-- all that are asked about were looked at
pub passing-all : (k : Seen) (c : ℕ) (old now : Growth) (at' : ℕ) → Growing k c old → length now.asked.items ≤ at' → IsPassing k c old now at' false → HasLooked k c (λ l. IsIn l old.set) old now Unchanged
passing-all k c old now at' g past t =
    let z = t.same refl in
    let all : take at' old.asked.items ≡ old.asked.items = taken-all old.asked.items at' (subst (λ (xs : List ℕ). length xs ≤ at') z.2 past) in (
      t.growing,
      z.0,
      z.1,
      asked-passive k.prefix (others c (slots k)) old.set old.asked.items g.2.consistent g.3 (λ i m. t.passive refl i (subst (λ (xs : List ℕ). IsIn i xs) (sym all) m)),
      z.2,
    )

-- What an progress tells.
pub looked-gives_none : (k : Seen) (c : ℕ) (Q : Literal → Type 0) (old new : Growth) (o : Progress) → is_ended o ≡ false → is_grown o ≡ false → HasLooked k c Q old new o → HasLooked k c Q old new Unchanged
looked-gives_none k c Q old new Ended e f h = absurd (true≢false e)
looked-gives_none k c Q old new Grown e f h = absurd (true≢false f)
looked-gives_none k c Q old new Unchanged e f h = h

-- all lists are walked, all literals passive: what the clauses of one literal give is all that is left
pub units-turned : (k : Seen) (c : ℕ) (old now new : Growth) (o : Progress) → length old.set ≤ old.worked → HasLooked k c (λ l. IsIn l old.set) old now Unchanged → HasUsedUnits k c now new o → HasTurned k c new o
units-turned k c old now new Ended w h u = u
units-turned k c old now new Grown w h u = u.0
units-turned k c old now new Unchanged w h u =
    let p : Growing k c now × (now.set ≡ old.set) × (now.worked ≡ old.worked) × ((l : Literal) → IsIn l old.set → IsPassive k.prefix (others c (slots k)) old.set l) × (now.asked.items ≡ old.asked.items) = h in
    λ D f. subst (λ (E : Clause). Covers k.prefix (others c (slots k)) E → ⊥) (same_Some p.0.0 D (sym p.0.1 ∙ f))
    (growing-closed k c p.0.0 now.set now.plan.stages.items now.base now.worked p.0.2
    (subst (λ (n : ℕ). length now.set ≤ n) (sym p.2) (subst (λ (S : Clause). length S ≤ old.worked) (sym p.1) w))
    u.1
    (λ l m. subst (λ (S : Clause). IsPassive k.prefix (others c (slots k)) S l) (sym p.1) (p.3 l (subst (λ (S : Clause). IsIn l S) p.1 m))))

pub turned-ended : (k : Seen) (c : ℕ) (new : Growth) (o : Progress) → is_ended o ≡ true → HasTurned k c new o → Covered k c new
turned-ended k c new Ended e h = h
turned-ended k c new Grown e h = absurd (true≢false (sym e))
turned-ended k c new Unchanged e h = absurd (true≢false (sym e))

pub turned-gives_none : (k : Seen) (c : ℕ) (new : Growth) (o : Progress) → is_ended o ≡ false → is_grown o ≡ false → HasTurned k c new o → HasDecided k c new false
turned-gives_none k c new Ended e f h = absurd (true≢false e)
turned-gives_none k c new Grown e f h = absurd (true≢false f)
turned-gives_none k c new Unchanged e f h = h

-- What a look at one literal has made.
pub covered-looked : (k : Seen) (c : ℕ) (Q : Literal → Type 0) (old mid new : Growth) (o : Progress) → mid.set ≡ old.set → mid.worked ≡ old.worked → HasCovered k c mid new o → HasLooked k c Q old new o
covered-looked k c Q old mid new Ended e w h = h
covered-looked k c Q old mid new Grown e w h = (h.0, longer-on old mid new (longer-same old mid e w) h.1)
covered-looked k c Q old mid new Unchanged e w h = absurd h

pub looked-replayed : (k : Seen) (c : ℕ) (Q : Literal → Type 0) (old new : Growth) (o : Progress) → HasLooked k c Q old new o → HasReplayed k c old new (is_ended o)
looked-replayed k c Q old new Ended h = h
looked-replayed k c Q old new Grown h = (h.0, h.1.worked)
looked-replayed k c Q old new Unchanged h = (h.0, h.2)

-- How a look has ended, and how the set has grown.
pub looked-ended : (k : Seen) (c : ℕ) (Q : Literal → Type 0) (old new : Growth) (o : Progress) → is_ended o ≡ true → HasLooked k c Q old new o → Covered k c new
looked-ended k c Q old new Ended e h = h
looked-ended k c Q old new Grown e h = absurd (true≢false (sym e))
looked-ended k c Q old new Unchanged e h = absurd (true≢false (sym e))

pub looked-grown : (k : Seen) (c : ℕ) (Q : Literal → Type 0) (old new : Growth) (o : Progress) → is_grown o ≡ true → HasLooked k c Q old new o → Growing k c new × IsLonger old new
looked-grown k c Q old new Ended e h = absurd (true≢false (sym e))
looked-grown k c Q old new Grown e h = h
looked-grown k c Q old new Unchanged e h = absurd (true≢false (sym e))

pub used-longer : (k : Seen) (c : ℕ) (old mid new : Growth) (o : Progress) → mid.set ≡ old.set → mid.worked ≡ old.worked → o ≡ Grown → HasUsedUnits k c mid new o → IsLonger old new
used-longer k c old mid new Ended e w q h = absurd (cc)
used-longer k c old mid new Grown e w q h = longer-on old mid new (longer-same old mid e w) h.1
used-longer k c old mid new Unchanged e w q h = absurd (cc)

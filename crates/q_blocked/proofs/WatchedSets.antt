-- What quiet clauses give, and watches that follow a set.
use Rattle.std.proofs.Common.{◌≡◌, ◌⊎◌, ◌+◌, ◌<◌, ◌≤◌, ℕ, Bool, true, false, List, [], ◌∷◌, ◌++◌, take, length, slice_get, Some, inl, inr, refl, sym, ◌∙◌, ap, subst, arith, true≢false}
use Rattle.std.proofs.lemmas.List.{take-append-le}
use Rattle.q_logic.specs.Prelude.{Literal, negation, Clause, IsIn, IsSubset, IsTautology, others}
use Rattle.q_logic.proofs.Common.{IsIn-append_left, IsIn-take, taken-cases, same_or_not}
use Rattle.q_kernel.specs.Prelude.{Seen, slots}
use Rattle.q_rule.proofs.IdClauses.{others-find}
use Rattle.q_watch.specs.declared.entry.Pair.{Pair}
use Rattle.q_watch.specs.declared.watches.Watches.{Watches}
use Rattle.q_watch.specs.Watches.{IsPaired, AreWatchesOf, AreRightFor, IsSame, IsOpposed, IsApart, IsQuietUpTo}
use Rattle.q_watch.proofs.QuietClauses.{quiet-more}
use Rattle.q_blocked.specs.declared.growth.Growth.{Growth}
use Rattle.q_blocked.specs.declared.progress.Progress.{Progress}
use Rattle.q_blocked.specs.declared.progress.Progress.TheVariants.{Ended, Grown, Unchanged}
use Rattle.q_blocked.specs.Progress.{is_grown}
use Rattle.q_blocked.specs.Walks.{GivesNoneAt}
use Rattle.q_blocked.specs.Growths.{Covered, Growing, IsLonger, IsPushed, HasClosed, HasTurned}
use Rattle.q_blocked.specs.Following.{IsFollowed, HasClosedQuiet, HasClosedFollowed, HasTurnedFollowed}
use Rattle.q_blocked.proofs.ListFronts.{place-get}
use Rattle.q_blocked.proofs.HiddenLiterals.{gives_none-opposed, gives_none-two}
use Rattle.q_blocked.proofs.SetGrowth.{gives_none-less}

-- a clause with a literal of H, all of whose others but one are there, gives S nothing
pub quiet-gives_none : (k : Seen) (w : Watches) (c : ℕ) (S H : Clause) → AreWatchesOf k w → (IsTautology S → ⊥) → IsSubset H S → IsQuietUpTo k w c S H → (E : Clause) → IsIn E (others c (slots k)) → (l : Literal) → IsIn l H → IsIn l E → GivesNoneAt H S E
quiet-gives_none k w c S H right t sub quiet E x l m n =
    let d = others-find (slots k) c E x in
    elim (quiet d.0 E l d.1 d.2 n) [
      | inl o ↦ gives_none-less H S S E sub (gives_none-opposed S E o.0 o.1 t o.2)
      | inr a ↦
          let r : IsPaired w d.0 E = right d.0 E l d.2 n in
          let b = a r.pair r.there in
          elim (same_or_not r.pair.second r.pair.first) [
            | inl q ↦ absurd (b.0 (subst (λ (z : Literal). IsIn z H) (r.of.alone q l n) m))
            | inr q ↦ λ new y z. sub new (gives_none-two H E r.pair.first r.pair.second r.of.first_in b.0 r.of.second_in b.1 q new y z)
          ]
    ]

-- The literals before a place and the one that stands there.
pub next-taken : (S : Clause) (worked : ℕ) (k : Literal) → worked < length S → slice_get S worked ≡ Some k → IsSubset (take (worked + 1) S) (k ∷ take worked S)
next-taken S worked k more e j m = elim (taken-cases S worked k j more (place-get S worked k e) m) [ inl a ↦ inr a | inr q ↦ inl q ]

pub pushed-subset : (a b : Growth) → IsPushed a b → IsSubset a.set b.set
pushed-subset a b p j m = subst (λ (S : Clause). IsIn j S) (sym p.set) (IsIn-append_left j a.set p.added m)

-- The set has grown behind the place up to which it was worked off.
pub followed-longer : (k : Seen) (w : Watches) (c : ℕ) (old new : Growth) → old.worked ≤ length old.set → IsLonger old new → IsFollowed k w c old → IsFollowed k w c new
followed-longer k w c old new h p f r =
    let same : take new.worked new.set ≡ take old.worked old.set = ap (λ (n : ℕ). take n new.set) p.worked ∙ (ap (λ (S : Clause). take old.worked S) p.set ∙ take-append-le old.worked old.set p.added h) in
    quiet-more k w c old.set new.set (take old.worked old.set) (take new.worked new.set) (λ j m. subst (λ (S : Clause). IsIn j S) (sym p.set) (IsIn-append_left j old.set p.added m)) (λ j m. subst (λ (S : Clause). IsIn j S) same m) (f r)

-- Nothing was worked off.
pub followed-begun : (k : Seen) (w : Watches) (c : ℕ) (g : Growth) → g.worked ≡ 0 → IsFollowed k w c g
followed-begun k w c g e r d D j n s m = inr (λ p x. ((λ y. none p.first y), λ y. none p.second y))
  where
    none : (l : Literal) → IsIn l (take g.worked g.set) → ⊥
    none l y = let z : IsIn l (take 0 g.set) = subst (λ (n : ℕ). IsIn l (take n g.set)) e y in z

pub closed-followed : (k : Seen) (c : ℕ) (w : Watches) (g : Growth) (b : Bool) → HasClosedQuiet k c w g b → HasClosedFollowed k c w g b
closed-followed k c w g true h = h
closed-followed k c w g false h = (h.0, h.1, λ r. h.2)

-- without watches there is nothing to follow
pub closed-alone : (k : Seen) (c : ℕ) (w : Watches) (g : Growth) (b : Bool) → w.ready ≡ false → HasClosed k c g b → HasClosedFollowed k c w g b
closed-alone k c w g true e h = h
closed-alone k c w g false e h = (h.0, h.1, λ r. absurd (true≢false (sym r ∙ e)))

pub turned-followed : (k : Seen) (c : ℕ) (w : Watches) (old new : Growth) (o : Progress) → old.worked ≤ length old.set → IsFollowed k w c old → (o ≡ Grown → IsLonger old new) → HasTurned k c new o → HasTurnedFollowed k c w new o
turned-followed k c w old new Ended h f l t = t
turned-followed k c w old new Grown h f l t = (t, followed-longer k w c old new h (l refl) f)
turned-followed k c w old new Unchanged h f l t = t

-- what a turn tells of the growth alone
pub turned-alone : (k : Seen) (c : ℕ) (w : Watches) (new : Growth) (o : Progress) → HasTurnedFollowed k c w new o → HasTurned k c new o
turned-alone k c w new Ended t = t
turned-alone k c w new Grown t = t.0
turned-alone k c w new Unchanged t = t

pub turned-on : (k : Seen) (c : ℕ) (w : Watches) (new : Growth) (o : Progress) → is_grown o ≡ true → HasTurnedFollowed k c w new o → Growing k c new × IsFollowed k w c new
turned-on k c w new Ended e t = absurd (true≢false (sym e))
turned-on k c w new Grown e t = t
turned-on k c w new Unchanged e t = absurd (true≢false (sym e))

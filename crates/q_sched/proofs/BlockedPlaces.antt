-- Blocked and covered clauses, some places after the other.
use Rattle.std.proofs.Common.{◌≡◌, ◌≤◌, ◌<◌, ◌∙◌, ℕ, Option, Some, None, inl, inr, refl, sym, subst, arith}
use Rattle.std.proofs.lemmas.Bool.{cases_lt}
use Rattle.q_logic.specs.declared.rule_bounds.Bounds.{Bounds}
use Rattle.q_logic.specs.Prelude.{place, slot}
use Rattle.q_kernel.specs.Prelude.{Seen, slots, Applies, IsLive}
use Rattle.q_blocked.specs.declared.target.Target.{Target as TheBlock}
use Rattle.q_blocked.specs.Searches.{FindsWithin}
use Rattle.q_blocked.specs.Targets as blocked
use Rattle.q_blocked.proofs.BlockedSearch.{live-place}
use Rattle.q_sched.specs.declared.looking.Look.{Look}
use Rattle.q_sched.specs.declared.looking.Look.TheVariants as look
use Rattle.q_sched.specs.declared.moves.Group.{Group}
use Rattle.q_sched.specs.declared.moves.Group.TheVariants as group
use Rattle.q_sched.specs.declared.moves.Move.{Move}
use Rattle.q_sched.specs.declared.moves.Move.TheVariants as move
use Rattle.q_sched.specs.Looks.{LooksOf}
use Rattle.q_sched.specs.Searching.{FindsOf}
use Rattle.q_sched.proofs.GroupTargets.{none-of, of-blocked}

-- no target below a place applies
abbrev pub NoneTo : Bounds → Seen → ℕ → Type 0
NoneTo B k n = (t : TheBlock) → place (blocked.target_of t) < n → Applies B k (blocked.target_of t) → ⊥

pub none-begun : (B : Bounds) (k : Seen) → NoneTo B k 0
none-begun B k t l a = absurd (omega arith)

-- a target is at a clause
not-dead : (B : Bounds) (k : Seen) (t : TheBlock) → slot (slots k) (place (blocked.target_of t)) ≡ None → Applies B k (blocked.target_of t) → ⊥
not-dead B k t e a = go (live-place k t B a.fits)
  where
    go : IsLive (slots k) (place (blocked.target_of t)) → ⊥
    go l = let f : None ≡ Some l.there.0 = sym e ∙ l.there.1 in cc

-- there is no clause before the first place, and nothing from there up to the second
pub none-more : (B : Bounds) (k : Seen) (from first upto : ℕ) → ((c : ℕ) → from ≤ c → c < first → slot (slots k) c ≡ None) → FindsWithin B k first upto None → NoneTo B k from → NoneTo B k upto
none-more B k from first upto dead f h t l a = elim (cases_lt (place (blocked.target_of t)) from) [
  | inl low ↦ h t low a
  | inr high ↦ elim (cases_lt (place (blocked.target_of t)) first) [
    | inl before ↦ not-dead B k t (dead (place (blocked.target_of t)) high before) a
    | inr behind ↦ f.none refl t (behind, l) a
  ]
]

-- there is no further clause
pub looks-nothing : (B : Bounds) (k : Seen) (from : ℕ) → ((c : ℕ) → from ≤ c → slot (slots k) c ≡ None) → NoneTo B k from → LooksOf group.Block B k look.Nothing
looks-nothing B k from dead h t i a = none-of group.Block B k 0 none t i (omega arith) a
  where
    none : (s : TheBlock) → 0 ≤ place (blocked.target_of s) → Applies B k (blocked.target_of s) → ⊥
    none s z b = elim (cases_lt (place (blocked.target_of s)) from) [
      | inl low ↦ h s low b
      | inr high ↦ not-dead B k s (dead (place (blocked.target_of s)) high) b
    ]

pub looks-found : (B : Bounds) (k : Seen) (first upto : ℕ) (o : Option TheBlock) (t : TheBlock) → o ≡ Some t → FindsWithin B k first upto o → LooksOf group.Block B k (look.Found (move.Block t))
looks-found B k first upto o t e f = (of-blocked t, (f.some t e).1)

-- the search of a group that nothing breaks off
pub looks-whole : (g : Group) (B : Bounds) (k : Seen) (o : Option Move) (l : Look) → ((m : Move) → o ≡ Some m → l ≡ look.Found m) → (o ≡ None → l ≡ look.Nothing) → FindsOf g B k 0 o → LooksOf g B k l
looks-whole g B k None l some none f = subst (λ (x : Look). LooksOf g B k x) (sym (none refl)) (λ t i a. f.none refl t i (omega arith) a)
looks-whole g B k (Some m) l some none f = subst (λ (x : Look). LooksOf g B k x) (sym (some m refl)) (let r = f.some m refl in (r.0, r.2))

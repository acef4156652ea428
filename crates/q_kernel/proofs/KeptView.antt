-- A view that is kept over several calls.
use Rattle.std.proofs.Common.{◌≡◌, ◌≢◌, ◌≤◌, ◌<◌, ◌+◌, ℕ, Bool, true, false, cond, if◌then◌else◌, ◌==◌, [], ◌∷◌, length, refl, sym, ap, ◌∙◌, subst, inl, inr, arith, Some, None}
use Rattle.std.proofs.lemmas.Bool.Decides.{nat_tests}
use Rattle.std.proofs.lemmas.Option.{same_Some}
use Rattle.std.proofs.lemmas.Bool.{cases_eq}
use Rattle.q_logic.specs.Prelude.{Clause, Matrix, Prefix, IsProper, is_bound, removed_from, first_of, size_of, swept, has_empty, occurs, occurring, falsity, Slots, slot, set_slot, live, formula_of}
use Rattle.q_logic.proofs.Common.{length-set_slot}
use Rattle.q_logic.proofs.HintChains.{live-number}
use Rattle.q_logic.proofs.SweepRun.{has_empty-IsIn, occurring-none}
use Rattle.q_kernel.specs.Changes.{IsDeleted, IsRemoved}
use Rattle.q_kernel.specs.Invariant.{IsSweeping}
use Rattle.q_kernel.proofs.KernelRuns.{led-itself, led-through}
use Rattle.q_kernel.proofs.VariableCounts.{occurring-removed}
use Rattle.q_kernel.proofs.SweepSteps.{spare-after_delete, spare-after_remove, IsAlone, alone-first, alone-kept, alone-deleted}
use Rattle.q_arena.specs.Prelude.{Clauses, live_in, AreSameClauses}
use Rattle.q_kernel.specs.Kernels.{Seen, slots, formula_in, SameView, KeepsRoom, HasSweepBytes}
use Rattle.q_kernel.specs.Visits.{IsLive}
use Rattle.q_kernel.proofs.SlotLists.{live-same, live_in-length, slot-get}

-- the same clauses at other places
pub view-clauses : (a b : Seen) → ((c : ℕ) → slot (slots b) c ≡ slot (slots a) c) → b.prefix ≡ a.prefix → b.text ≡ a.text → SameView a b
view-clauses a b s p t = record {
  prefix = p;
  clauses = s;
  formula = ap (λ (X : Matrix). formula_of b.prefix X) (live-same (slots b) (slots a) s) ∙ ap (λ (P : _). formula_of P (live (slots a))) p;
  text = t;
}

pub same-slots : (a b : Clauses) → AreSameClauses a b → (c : ℕ) → slot b.clauses c ≡ slot a.clauses c
same-slots a b s c = slot-get b.clauses c ∙ s.clauses c ∙ sym (slot-get a.clauses c)

pub count-same : (a b : Seen) → SameView a b → live_in b.arena.clauses ≡ live_in a.arena.clauses
count-same a b s = live_in-length b.arena.clauses ∙ ap length (live-same b.arena.clauses a.arena.clauses s.clauses) ∙ sym (live_in-length a.arena.clauses)

pub room-through : (a b c : Seen) → KeepsRoom a b → KeepsRoom b c → KeepsRoom a c
room-through a b c x y = record { words = omega (arith, x.words, y.words); ids = omega (arith, x.ids, y.ids); vars = omega (arith, x.vars, y.vars); greatest = omega (arith, x.greatest, y.greatest) }

pub room-itself : (a : Seen) → KeepsRoom a a
room-itself a = record { words = omega arith; ids = omega arith; vars = omega arith; greatest = omega arith }

-- Parts of a sweep, one after the other.
pub sweeping-itself : (a : Seen) → HasSweepBytes a → IsSweeping a a
sweeping-itself a b = record { led = led-itself a; room = room-itself a; bytes = b }

pub sweeping-through : (a b c : Seen) → IsSweeping a b → IsSweeping b c → IsSweeping a c
sweeping-through a b c x y = record { led = led-through a b c x.led y.led; room = room-through a b c x.room y.room; bytes = y.bytes }

pub sweeping-deleted : (a b : Seen) (id : ℕ) → IsProper (formula_in a) → HasSweepBytes a → IsDeleted a b id first_of → IsSweeping a b
sweeping-deleted a b id p h d = record {
  led = d.logged.led;
  room = d.room;
  bytes =
      let s = spare-after_delete a id d.clause b.spare_bytes p d.was h d.logged.bytes in
      let e : size_of (live (slots b)) ≡ size_of (live (set_slot id None (slots a))) = ap (λ (N : Slots). size_of (live N)) d.change in
      let n : length b.prefix ≡ length a.prefix = ap length d.prefix in
      omega arith;
}

pub sweeping-removed : (a b : Seen) (v : ℕ) → IsProper (formula_in a) → is_bound a.prefix v ≡ true → HasSweepBytes a → IsRemoved a b v → IsSweeping a b
sweeping-removed a b v p i h d = record {
  led = d.logged.led;
  room = d.room;
  bytes =
      let s = spare-after_remove a v b.spare_bytes p i h d.logged.bytes in
      let e : size_of (live (slots b)) ≡ size_of (live (slots a)) = ap (λ (N : Slots). size_of (live N)) d.change in
      let n : length b.prefix ≡ length (removed_from v a.prefix) = ap length d.prefix in
      omega arith;
}

-- The other clauses have gone as far as a number.
pub record IsCleared (start now : Seen) (kept from : ℕ) : Type 0 where
  pub alone : IsAlone (slots now) kept from
  pub prefix : now.prefix ≡ start.prefix
  pub long : length (slots now) ≡ length (slots start)
  pub swept : IsSweeping start now

pub cleared-first : (k : Seen) (kept : ℕ) → slot (slots k) kept ≡ Some [] → HasSweepBytes k → IsCleared k k kept 0
cleared-first k kept e b = record { alone = alone-first (slots k) kept e; prefix = refl; long = refl; swept = sweeping-itself k b }

pub cleared-more : (start now new : Seen) (kept from id : ℕ) (C : Clause) → IsProper (formula_in now) → IsCleared start now kept from → ((c : ℕ) → from ≤ c → c < id → slot (slots now) c ≡ None) → slot (slots now) id ≡ Some C
    → (id ≡ kept → new ≡ now) → (id ≢ kept → IsDeleted now new id first_of) → IsCleared start new kept (id + 1)
cleared-more start now new kept from id C p k none e same gone = elim (cases_eq id kept) [
  | inl q ↦ subst (λ (n : Seen). IsCleared start n kept (id + 1)) (sym (same q)) (record { alone = alone-kept (slots now) kept from id k.alone none q; prefix = k.prefix; long = k.long; swept = k.swept })
  | inr n ↦
      let d : IsDeleted now new id first_of = gone n in
      record {
        alone = subst (λ (N : Slots). IsAlone N kept (id + 1)) (sym d.change) (alone-deleted (slots now) kept from id C k.alone none e n);
        prefix = d.prefix ∙ k.prefix;
        long = ap length d.change ∙ length-set_slot id None (slots now) ∙ k.long;
        swept = sweeping-through start now new k.swept (sweeping-deleted now new id p k.swept.bytes d);
      }
]

-- Some of the idle variables have gone.
pub record IsRidding (start now : Seen) : Type 0 where
  pub clauses : slots now ≡ slots start
  pub left : occurring now.prefix (live (slots start)) ≡ occurring start.prefix (live (slots start))
  pub swept : IsSweeping start now

pub ridding-first : (k : Seen) → HasSweepBytes k → IsRidding k k
ridding-first k b = record { clauses = refl; left = refl; swept = sweeping-itself k b }

pub ridding-more : (start now new : Seen) (v : ℕ) → IsProper (formula_in now) → IsRidding start now → is_bound now.prefix v ≡ true → occurs v (live (slots now)) ≡ false → IsRemoved now new v → IsRidding start new
ridding-more start now new v p k b o d = record {
  clauses = d.change ∙ k.clauses;
  left = ap (λ (P : Prefix). occurring P (live (slots start))) d.prefix ∙ occurring-removed v now.prefix (live (slots start)) (subst (λ (N : Slots). occurs v (live N) ≡ false) k.clauses o) ∙ k.left;
  swept = sweeping-through start now new k.swept (sweeping-removed now new v p b k.swept.bytes d);
}

pub ridding-last : (start now : Seen) → IsRidding start now → occurring now.prefix (live (slots now)) ≡ now.prefix → now.prefix ≡ occurring start.prefix (live (slots start))
ridding-last start now k e = sym e ∙ ap (λ (N : Slots). occurring now.prefix (live N)) k.clauses ∙ k.left

-- Both parts make a sweep.
pub whole-sweep : (P Q : Prefix) (X Y : Matrix) → Y ≡ (if has_empty X then ([] ∷ []) else X) → Q ≡ occurring P Y → formula_of Q Y ≡ swept (formula_of P X)
whole-sweep P Q X Y e f = go (has_empty X) refl e
  where
    go : (b : Bool) → has_empty X ≡ b → Y ≡ (if b then ([] ∷ []) else X) → formula_of Q Y ≡ cond b falsity (formula_of (occurring P X) X)
    go true h y = ap (λ (R : Prefix). formula_of R Y) f ∙ ap (λ (Z : Matrix). formula_of (occurring P Z) Z) y ∙ ap (λ (R : Prefix). formula_of R ([] ∷ [])) (occurring-none P)
    go false h y = ap (λ (R : Prefix). formula_of R Y) f ∙ ap (λ (Z : Matrix). formula_of (occurring P Z) Z) y

-- An empty clause is found.
pub record IsNotEmpty (N : Slots) (c : ℕ) : Type 0 where
  pub full : slot N c ≡ Some [] → ⊥

pub not-empty-all : (N : Slots) → ((c : ℕ) → IsLive N c → IsNotEmpty N c) → has_empty (live N) ≡ true → ⊥
not-empty-all N f h = let r : (c : ℕ) × (slot N c ≡ Some []) = live-number N [] (has_empty-IsIn (live N) h) in (f r.0 (record { there = ([], r.1) })).full r.1

pub not-empty-one : (N : Slots) (id : ℕ) (C : Clause) → slot N id ≡ Some C → length C ≢ 0 → IsNotEmpty N id
not-empty-one N id C e n = record { full = λ q. n (ap length (same_Some C [] (sym e ∙ q))) }

pub not-zero : (n : ℕ) (b : Bool) → b ≡ (n == 0) → b ≡ false → n ≢ 0
not-zero n b e f = λ q. absurd (clash n q (sym e ∙ f))
  where
    clash : (n : ℕ) → n ≡ 0 → (n == 0) ≡ false → ⊥
    clash n q f = grind (arith, nat_tests)

-- One turn: a clause is renamed. And what is left at the end.
use Rattle.std.proofs.Common.{◌≡◌, ◌≢◌, ◌≤◌, ◌+◌, ◌*◌, ◌⊎◌, ℕ, Bool, true, false, cond, [], ◌∷◌, inl, inr, arith, refl, sym, ap, ◌∙◌, subst, Some, None, length}
use Rattle.q_logic.specs.Prelude.{Literal, negation, Clause, Matrix, Prefix, IsIn, is_bound, has_variable, literals_in, Within, is_tautology, put_unless_tautology, Slots, slot, set_slot, live, others, merged, renamed, renamed_literal}
use Rattle.q_logic.proofs.Common.{live-slot, others-slot, slot-alike, insert-IsIn, put_unless-IsIn, put_unless-more, ordered-pairs, renamed-ordered, SameClauses, IsIn-alike, alike-refl, alike-sym, alike-trans, alike-cons, alike-uncons, alike-swap, live-gone, same-sizes, slot-set_other}
use Rattle.q_logic.proofs.MergeRun.{Linked, renamed_literal-cases, renamed-implied, implied-by_renamed, renamed-length, outer_or_same-is_bound}
use Rattle.q_kernel.specs.Prelude.{Seen, slots, IsSound, IsLed}
use Rattle.q_kernel.proofs.SlotLists.{length-others, literals-others, size-parts}
use Rattle.q_kernel.proofs.KernelRuns.{led-through, led-itself}
use Rattle.q_equiv.specs.declared.bridge.Bridge.{Bridge}
use Rattle.q_equiv.specs.Changing.{CanStandFor, over_clause, back_clause, total_with, one, size, HasRenamingRoom, IsBridged, IsRenamed, MayReplace, IsReplaced}
use Rattle.q_equiv.proofs.ClauseNumbers.{total-alike}
use Rattle.q_equiv.proofs.MergeLoop.{merged-same, merged-none, merged-put, renamed-without, two-apart, IsIn-left, bridge-apart, put-alike, put-swap}

-- Sizes.
pub total-slot : (w : Clause → ℕ) (v : ℕ) (N : Slots) (c : ℕ) (C : Clause) → slot N c ≡ Some C → has_variable v C ≡ true → total_with w v (live N) ≡ w C + total_with w v (others c N)
total-slot w v N c C e h = total-alike w v (live N) (C ∷ others c N) (slot-alike N c C e) ∙ rw h refl

total-put : (w : Clause → ℕ) (v : ℕ) (R : Clause) (X : Matrix) → has_variable v R ≡ false → total_with w v (put_unless_tautology R X) ≡ total_with w v X
total-put w v R X h = go (is_tautology R)
  where
    go : (b : Bool) → total_with w v (cond b X (R ∷ X)) ≡ total_with w v X
    go true = refl
    go false = rw h (omega arith)

length-put : (R : Clause) (X : Matrix) → length (put_unless_tautology R X) ≤ length X + 1
length-put R X = go (is_tautology R)
  where
    go : (b : Bool) → length (cond b X (R ∷ X)) ≤ length X + 1
    go true = omega arith
    go false = omega arith

literals-put : (R : Clause) (X : Matrix) → literals_in (put_unless_tautology R X) ≤ length R + literals_in X
literals-put R X = go (is_tautology R)
  where
    go : (b : Bool) → literals_in (cond b X (R ∷ X)) ≤ length R + literals_in X
    go true = omega arith
    go false = omega arith

bound_in : (P : Prefix) (keep gone : Literal) (C : Clause) → is_bound P keep.var ≡ true → Within P C → Within P (renamed keep gone C)
bound_in P keep gone [] b w k m = absurd m
bound_in P keep gone (j ∷ C) b w k m = elim (insert-IsIn (renamed_literal keep gone j) (renamed keep gone C) k m) [
  | inl e ↦ subst (λ (y : Literal). is_bound P y.var ≡ true) (sym e) (first (renamed_literal-cases keep gone j))
  | inr n ↦ bound_in P keep gone C b (λ i x. w i (inr x)) k n
]
  where
    first : ((j ≡ gone) × (renamed_literal keep gone j ≡ keep)) ⊎ (((j ≡ negation gone) × (renamed_literal keep gone j ≡ negation keep)) ⊎ (renamed_literal keep gone j ≡ j)) → is_bound P (renamed_literal keep gone j).var ≡ true
    first (inl a) = subst (λ (y : Literal). is_bound P y.var ≡ true) (sym a.1) b
    first (inr (inl c)) = subst (λ (y : Literal). is_bound P y.var ≡ true) (sym c.1) b
    first (inr (inr e)) = subst (λ (y : Literal). is_bound P y.var ≡ true) (sym e) (w j (inl refl))

-- all but the two clauses of the bridge
abbrev pub IsBeside : Literal → Literal → Seen → Matrix → Type 0
IsBeside keep gone k X = SameClauses (live (slots k)) (over_clause keep gone ∷ back_clause keep gone ∷ X)

-- so far
pub record IsRenaming (keep gone : Literal) (b : Bridge) (old now : Seen) : Type 0 where
  pub led : IsLed old now
  pub prefix : now.prefix ≡ old.prefix
  pub bridge : IsBridged keep gone now b
  pub clauses : (X : Matrix) → IsBeside keep gone old X → (Y : Matrix) × IsBeside keep gone now Y × SameClauses (merged keep gone Y) (merged keep gone X)
  pub room : HasRenamingRoom now gone.var

pub renaming-begun : (keep gone : Literal) (b : Bridge) (k : Seen) → IsBridged keep gone k b → HasRenamingRoom k gone.var → IsRenaming keep gone b k k
renaming-begun keep gone b k h r = record { led = led-itself k; prefix = refl; bridge = h; clauses = λ X w. (X, w, alike-refl (merged keep gone X)); room = r }

module _ (keep gone : Literal) (b : Bridge) (now : Seen) (stands : CanStandFor now.prefix keep gone) (bridge : IsBridged keep gone now b) (room : HasRenamingRoom now gone.var)
    (id : ℕ) (C : Clause) (over : id ≢ b.over) (back : id ≢ b.back) (there : slot (slots now) id ≡ Some C) (held : has_variable gone.var C ≡ true) where
  R : Clause
  R = renamed keep gone C

  free : has_variable gone.var (renamed keep gone C) ≡ false
  free = renamed-without keep gone C stands.different

  over_stays : IsIn (over_clause keep gone) (others id (slots now))
  over_stays = others-slot (slots now) b.over id (over_clause keep gone) (λ e. over (sym e)) bridge.over

  back_stays : IsIn (back_clause keep gone) (others id (slots now))
  back_stays = others-slot (slots now) b.back id (back_clause keep gone) (λ e. back (sym e)) bridge.back

  linked : Linked (live (slots now)) keep gone
  linked = record { keep_gives_gone = live-slot (slots now) b.over (over_clause keep gone) bridge.over; gone_gives_keep = live-slot (slots now) b.back (back_clause keep gone) bridge.back }

  still_linked : Linked (put_unless_tautology (renamed keep gone C) (others id (slots now))) keep gone
  still_linked = record { keep_gives_gone = put_unless-more (renamed keep gone C) (others id (slots now)) (over_clause keep gone) over_stays; gone_gives_keep = put_unless-more (renamed keep gone C) (others id (slots now)) (back_clause keep gone) back_stays }

  pub may-rename : IsSound now → MayReplace now id (renamed keep gone C)
  may-rename s =
      let m : IsIn C (live (slots now)) = live-slot (slots now) id C there in
      let w : Within now.prefix C = λ k i. s.proper.formula.closed C m k i in
      let l = renamed-length keep gone C in
      let tl = total-slot length gone.var (slots now) id C there held in
      let to = total-slot one gone.var (slots now) id C there held in
      let ts = total-slot size gone.var (slots now) id C there held in
      record {
        clause = C;
        there = there;
        ordered = ordered-pairs (renamed keep gone C) (renamed-ordered keep gone C);
        within = bound_in now.prefix keep gone C (outer_or_same-is_bound now.prefix keep.var gone.var stands.kept_outer) w;
        may_come = renamed-implied (live (slots now)) keep gone C linked m;
        may_go = implied-by_renamed (put_unless_tautology (renamed keep gone C) (others id (slots now))) keep gone C still_linked
            (elim (put_unless-IsIn (renamed keep gone C) (others id (slots now))) [ inl t ↦ inr t | inr i ↦ inl i ]);
        limits = record {
          clauses = let n = room.clauses in omega arith;
          lits = let n = room.lits in let o = literals-others (slots now) id C there in omega arith;
        };
        words = let n = room.words in omega arith;
        ids = let n = room.ids in omega arith;
        bytes = let n = room.bytes in omega arith;
      }

  module _ (new : Seen) (h : IsReplaced now new id (renamed keep gone C)) where
    same_clause : h.clause ≡ C
    same_clause = let z : Some h.clause ≡ Some C = sym h.was ∙ there in cc

    pub total-renamed : (w : Clause → ℕ) → total_with w gone.var (live (slots now)) ≡ w C + total_with w gone.var (live (slots new))
    total-renamed w = total-slot w gone.var (slots now) id C there held ∙ ap (λ (n : ℕ). w C + n)
        (sym (total-alike w gone.var (live (slots new)) (put_unless_tautology (renamed keep gone C) (others id (slots now))) h.clauses ∙ total-put w gone.var (renamed keep gone C) (others id (slots now)) free))

    bridge_stays : IsBridged keep gone new b
    bridge_stays = record { over = h.kept b.over (over_clause keep gone) (λ e. over (sym e)) bridge.over; back = h.kept b.back (back_clause keep gone) (λ e. back (sym e)) bridge.back }

    counts : (length (live (slots new)) ≤ length (live (slots now))) × (literals_in (live (slots new)) ≤ literals_in (live (slots now)))
    counts =
        let e = same-sizes (live (slots new)) (put_unless_tautology (renamed keep gone C) (others id (slots now))) h.clauses in
        let a = length-put (renamed keep gone C) (others id (slots now)) in
        let c = literals-put (renamed keep gone C) (others id (slots now)) in
        let x = length-others (slots now) id C there in
        let y = literals-others (slots now) id C there in
        let l = renamed-length keep gone C in
        (omega (arith, e.0), omega (arith, e.1))

    room_stays : HasRenamingRoom new gone.var
    room_stays =
        let l = renamed-length keep gone C in
        let n = counts in
        record {
          words = let t = total-renamed length in let a = room.words in let c = h.words in omega arith;
          ids = let t = total-renamed one in let a = room.ids in let c = h.ids in omega arith;
          bytes =
              let t = total-renamed size in
              let a = room.bytes in
              let c : now.spare_bytes ≤ new.spare_bytes + (16 * (length (renamed keep gone C) + 1) + 16 * (length C + 1)) = subst (λ (D : Clause). now.spare_bytes ≤ new.spare_bytes + (16 * (length (renamed keep gone C) + 1) + 16 * (length D + 1))) same_clause h.bytes in
              let p : length new.prefix ≡ length now.prefix = ap (λ (P : Prefix). length P) h.prefix in
              let s = size-parts (live (slots now)) in
              let u = size-parts (live (slots new)) in
              omega (arith, n.0, n.1);
          clauses = let a = room.clauses in omega (arith, n.0);
          lits = let a = room.lits in omega (arith, n.1);
        }

    -- the other clauses, before and after
    rest : Matrix
    rest = live (set_slot b.back None (set_slot b.over None (set_slot id None (slots now))))

    parted : SameClauses (others id (slots now)) (over_clause keep gone ∷ back_clause keep gone ∷ live (set_slot b.back None (set_slot b.over None (set_slot id None (slots now)))))
    parted = subst (λ (X : Matrix). SameClauses X (over_clause keep gone ∷ back_clause keep gone ∷ live (set_slot b.back None (set_slot b.over None (set_slot id None (slots now)))))) (live-gone (slots now) id)
        (two-apart (set_slot id None (slots now)) b.over b.back (over_clause keep gone) (back_clause keep gone)
        (slot-set_other id b.over None (slots now) (λ e. over (sym e)) ∙ bridge.over)
        (slot-set_other id b.back None (slots now) (λ e. back (sym e)) ∙ bridge.back)
        (bridge-apart keep gone now b stands.different bridge))

    turned : (Y : Matrix) → IsBeside keep gone now Y → (Z : Matrix) × IsBeside keep gone new Z × SameClauses (merged keep gone Z) (merged keep gone Y)
    turned Y w =
        let A = over_clause keep gone in
        let B = back_clause keep gone in
        let S : Matrix = live (set_slot b.back None (set_slot b.over None (set_slot id None (slots now)))) in
        let N = slots now in
        let front : SameClauses (A ∷ B ∷ Y) (A ∷ B ∷ C ∷ S) =
        alike-trans (A ∷ B ∷ Y) (live N) (A ∷ B ∷ C ∷ S) (alike-sym (live N) (A ∷ B ∷ Y) w)
        (alike-trans (live N) (C ∷ others id N) (A ∷ B ∷ C ∷ S) (slot-alike N id C there)
        (alike-trans (C ∷ others id N) (C ∷ A ∷ B ∷ S) (A ∷ B ∷ C ∷ S) (alike-cons C (others id N) (A ∷ B ∷ S) parted)
        (alike-trans (C ∷ A ∷ B ∷ S) (A ∷ C ∷ B ∷ S) (A ∷ B ∷ C ∷ S) (alike-swap C A (B ∷ S)) (alike-cons A (C ∷ B ∷ S) (B ∷ C ∷ S) (alike-swap C B S))))) in
        let before : SameClauses Y (C ∷ S) = alike-uncons B Y (C ∷ S) (alike-uncons A (B ∷ Y) (B ∷ C ∷ S) front) in
        let Z : Matrix = put_unless_tautology (renamed keep gone C) S in
        let after : SameClauses (live (slots new)) (A ∷ B ∷ Z) =
        alike-trans (live (slots new)) (put_unless_tautology (renamed keep gone C) (others id N)) (A ∷ B ∷ Z) h.clauses
        (alike-trans (put_unless_tautology (renamed keep gone C) (others id N)) (put_unless_tautology (renamed keep gone C) (A ∷ B ∷ S)) (A ∷ B ∷ Z) (put-alike (renamed keep gone C) (others id N) (A ∷ B ∷ S) parted)
        (alike-trans (put_unless_tautology (renamed keep gone C) (A ∷ B ∷ S)) (A ∷ put_unless_tautology (renamed keep gone C) (B ∷ S)) (A ∷ B ∷ Z) (put-swap (renamed keep gone C) A (B ∷ S)) (alike-cons A (put_unless_tautology (renamed keep gone C) (B ∷ S)) (B ∷ Z) (put-swap (renamed keep gone C) B S)))) in
        (Z, after, subst (λ (X : Matrix). SameClauses X (merged keep gone Y)) (sym (merged-put keep gone C S stands.different held)) (merged-same keep gone (C ∷ S) Y (alike-sym Y (C ∷ S) before)))

    pub renaming-more : (old : Seen) → IsRenaming keep gone b old now → IsRenaming keep gone b old new
    renaming-more old r = record {
      led = led-through old now new r.led h.led;
      prefix = h.prefix ∙ r.prefix;
      bridge = bridge_stays;
      clauses = λ X w. let y = r.clauses X w in let z = turned y.0 y.1 in (z.0, z.1, alike-trans (merged keep gone z.0) (merged keep gone y.0) (merged keep gone X) z.2 y.2);
      room = room_stays;
    }

-- At the end no other clause has the variable.
pub renaming-done : (keep gone : Literal) (b : Bridge) (old now : Seen) → CanStandFor now.prefix keep gone → ((c : ℕ) (C : Clause) → slot (slots now) c ≡ Some C → has_variable gone.var C ≡ true → (c ≡ b.over) ⊎ (c ≡ b.back)) → IsRenaming keep gone b old now → IsRenamed keep gone old now b
renaming-done keep gone b old now stands none r = record {
  led = r.led;
  prefix = r.prefix;
  bridge = r.bridge;
  clauses = λ X w. let y = r.clauses X w in done X y.0 y.1 y.2;
  bytes = let n = r.room.bytes in omega arith;
}
  where
    A : Clause
    A = over_clause keep gone

    B : Clause
    B = back_clause keep gone

    S : Matrix
    S = live (set_slot b.back None (set_slot b.over None (slots now)))

    left : SameClauses (live (slots now)) (over_clause keep gone ∷ back_clause keep gone ∷ live (set_slot b.back None (set_slot b.over None (slots now))))
    left = two-apart (slots now) b.over b.back (over_clause keep gone) (back_clause keep gone) r.bridge.over r.bridge.back (bridge-apart keep gone now b stands.different r.bridge)

    free_of : (Y : Matrix) → IsBeside keep gone now Y → (D : Clause) → IsIn D Y → has_variable gone.var D ≡ false
    free_of Y w D m = go (has_variable gone.var D) refl
      where
        same : SameClauses Y (live (set_slot b.back None (set_slot b.over None (slots now))))
        same = alike-uncons (back_clause keep gone) Y (live (set_slot b.back None (set_slot b.over None (slots now)))) (alike-uncons (over_clause keep gone) (back_clause keep gone ∷ Y) (back_clause keep gone ∷ live (set_slot b.back None (set_slot b.over None (slots now))))
            (alike-trans (over_clause keep gone ∷ back_clause keep gone ∷ Y) (live (slots now)) (over_clause keep gone ∷ back_clause keep gone ∷ live (set_slot b.back None (set_slot b.over None (slots now)))) (alike-sym (live (slots now)) (over_clause keep gone ∷ back_clause keep gone ∷ Y) w) left))

        go : (t : Bool) → has_variable gone.var D ≡ t → t ≡ false
        go false e = refl
        go true e = absurd (let q = IsIn-left (slots now) b.over b.back D (IsIn-alike Y (live (set_slot b.back None (set_slot b.over None (slots now)))) same D m) in elim (none q.0 D q.3 e) [ inl f ↦ q.1 f | inr f ↦ q.2 f ])

    done : (X Y : Matrix) → IsBeside keep gone now Y → SameClauses (merged keep gone Y) (merged keep gone X) → IsBeside keep gone now (merged keep gone X)
    done X Y w s =
        let e : merged keep gone Y ≡ Y = merged-none keep gone Y (free_of Y w) in
        let t : SameClauses Y (merged keep gone X) = subst (λ (Z : Matrix). SameClauses Z (merged keep gone X)) e s in
        alike-trans (live (slots now)) (over_clause keep gone ∷ back_clause keep gone ∷ Y) (over_clause keep gone ∷ back_clause keep gone ∷ merged keep gone X) w
        (alike-cons (over_clause keep gone) (back_clause keep gone ∷ Y) (back_clause keep gone ∷ merged keep gone X) (alike-cons (back_clause keep gone) Y (merged keep gone X) t))

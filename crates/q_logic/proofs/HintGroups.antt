-- What one more group, or one more hint, makes of the groups.
use Rattle.std.proofs.Common.{◌≡◌, ℕ, zero, suc, ◌<◌, ◌≤◌, List, [], ◌∷◌, ◌++◌, length, slice_range, refl, sym, ap, ◌∙◌, ◌≢◌, le_trans, le_of_suc-le-suc, not-suc-le-zero, arith}
use Rattle.std.proofs.lemmas.Grind.{common_steps}
use Rattle.q_logic.specs.declared.proof_part.GroupStart.{GroupStart}
use Rattle.q_logic.specs.declared.proof_part.ProofKind.{ProofKind}
use Rattle.q_logic.specs.declared.proof_part.ProofKind.TheVariants.{Nothing, Implied, Pivot, Reach}
use Rattle.q_logic.specs.Prelude.{HintGroup, ProofPart}
use Rattle.q_logic.specs.ProofParts.{end_at, start_at, groups_from, groups_of, AreStarts, with_group, hint_last, with_hint, group_at}

pub groups_of-from : (k : ProofKind) (gs : List GroupStart) (hints : List ℕ) → k ≢ Implied → groups_of k gs hints ≡ groups_from gs hints
groups_of-from Implied gs hints n = absurd (n refl)
groups_of-from Nothing gs hints n = refl
groups_of-from Pivot gs hints n = refl
groups_of-from Reach gs hints n = refl

pub length-groups : (gs : List GroupStart) (hints : List ℕ) → length (groups_from gs hints) ≡ length gs
length-groups [] hints = refl
length-groups (g ∷ gs) hints = ap suc (length-groups gs hints)

starts-end : (from : ℕ) (gs : List GroupStart) (n : ℕ) → AreStarts from gs n → from ≤ n
starts-end from [] n h = h
starts-end from (g ∷ gs) n h = le_trans h.0 (starts-end g.start gs n h.1)

pub starts-more : (from : ℕ) (gs : List GroupStart) (n m : ℕ) → n ≤ m → AreStarts from gs n → AreStarts from gs m
starts-more from [] n m l h = le_trans h l
starts-more from (g ∷ gs) n m l h = (h.0, starts-more g.start gs n m l h.1)

pub starts-push : (from : ℕ) (gs : List GroupStart) (g : GroupStart) (n : ℕ) → g.start ≡ n → AreStarts from gs n →
    AreStarts from (gs ++ g ∷ []) n
starts-push from [] g n e h = (omega arith, omega arith)
starts-push from (f ∷ gs) g n e h = (h.0, starts-push f.start gs g n e h.1)

empty-range : (hints : List ℕ) (n : ℕ) → n ≡ length hints → slice_range hints n n ≡ []
empty-range hints n e = grind (arith, common_steps)

pub groups-push : (gs : List GroupStart) (g : GroupStart) (hints : List ℕ) → g.start ≡ length hints →
    groups_from (gs ++ g ∷ []) hints ≡ groups_from gs hints ++ record { target = g.target; hints = [] } ∷ []
groups-push [] g hints e =
    let r : slice_range hints g.start (length hints) ≡ [] = rw (← e) (empty-range hints g.start e) in
    ap (λ (xs : List ℕ). record { target = g.target; hints = xs } ∷ []) r
groups-push (f ∷ []) g hints e =
    let part : ℕ → HintGroup = λ n. record { target = f.target; hints = slice_range hints f.start n } in
    ap (λ (n : ℕ). part n ∷ groups_from (g ∷ []) hints) e ∙
    ap (λ (r : List HintGroup). part (length hints) ∷ r) (groups-push [] g hints e)
groups-push (f ∷ h ∷ gs) g hints e = ap (λ (r : List HintGroup). record { target = f.target; hints = slice_range hints f.start h.start } ∷ r) (groups-push (h ∷ gs) g hints e)

range-front : (xs : List ℕ) (n a b : ℕ) → b ≤ length xs → slice_range (xs ++ n ∷ []) a b ≡ slice_range xs a b
range-front xs n a b h = grind (arith, common_steps)

range-last : (xs : List ℕ) (n a : ℕ) → a ≤ length xs → slice_range (xs ++ n ∷ []) a (length (xs ++ n ∷ [])) ≡ slice_range xs a (length xs) ++ n ∷ []
range-last xs n a h = grind (arith, common_steps)

pub groups-hint : (from : ℕ) (gs : List GroupStart) (hints : List ℕ) (n : ℕ) → AreStarts from gs (length hints) →
    groups_from gs (hints ++ n ∷ []) ≡ hint_last n (groups_from gs hints)
groups-hint from [] hints n h = refl
groups-hint from (g ∷ []) hints n h =
    ap (λ (xs : List ℕ). record { target = g.target; hints = xs } ∷ []) (range-last hints n g.start h.1)
groups-hint from (g ∷ f ∷ gs) hints n h =
    rw (range-front hints n g.start f.start (starts-end f.start gs (length hints) h.1.1), groups-hint g.start (f ∷ gs) hints n h.1) refl

-- The group at a place.
pub start-end : (from : ℕ) (gs : List GroupStart) (n at : ℕ) → AreStarts from gs n → at < length gs →
    (start_at gs at).start ≤ end_at gs n at
start-end from [] n at h l = absurd (not-suc-le-zero l)
start-end from (g ∷ []) n zero h l = h.1
start-end from (g ∷ f ∷ gs) n zero h l = h.1.0
start-end from (g ∷ gs) n (suc at) h l = start-end g.start gs n at h.1 (le_of_suc-le-suc l)

pub end-within : (from : ℕ) (gs : List GroupStart) (n at : ℕ) → AreStarts from gs n → end_at gs n at ≤ n
end-within from [] n at h = omega arith
end-within from (g ∷ []) n zero h = omega arith
end-within from (g ∷ f ∷ gs) n zero h = starts-end f.start gs n h.1.1
end-within from (g ∷ gs) n (suc at) h = end-within g.start gs n at h.1

pub end-next : (gs : List GroupStart) (n at : ℕ) → suc at < length gs → end_at gs n at ≡ (start_at gs (suc at)).start
end-next [] n at l = absurd (not-suc-le-zero l)
end-next (g ∷ []) n at l = absurd (not-suc-le-zero (le_of_suc-le-suc l))
end-next (g ∷ f ∷ gs) n zero l = refl
end-next (g ∷ f ∷ gs) n (suc at) l = end-next (f ∷ gs) n at (le_of_suc-le-suc l)

pub end-last : (gs : List GroupStart) (n at : ℕ) → length gs ≡ suc at → end_at gs n at ≡ n
end-last [] n at e = refl
end-last (g ∷ []) n zero e = refl
end-last (g ∷ f ∷ gs) n zero e = absurd (omega arith)
end-last (g ∷ gs) n (suc at) e = end-last gs n at (omega arith)

pub group-piece : (gs : List GroupStart) (hints : List ℕ) (at : ℕ) → at < length gs →
    group_at (groups_from gs hints) at ≡
    record { target = (start_at gs at).target; hints = slice_range hints (start_at gs at).start (end_at gs (length hints) at) }
group-piece [] hints at l = absurd (not-suc-le-zero l)
group-piece (g ∷ gs) hints zero l = refl
group-piece (g ∷ gs) hints (suc at) l = group-piece gs hints at (le_of_suc-le-suc l)

-- One more hint, whatever the kind.
pub groups_of-hint : (k : ProofKind) (gs : List GroupStart) (hints : List ℕ) (n : ℕ) → AreStarts 0 gs (length hints) →
    groups_of k gs (hints ++ n ∷ []) ≡ hint_last n (groups_of k gs hints)
groups_of-hint Implied gs hints n h = refl
groups_of-hint Nothing gs hints n h = groups-hint 0 gs hints n h
groups_of-hint Pivot gs hints n h = groups-hint 0 gs hints n h
groups_of-hint Reach gs hints n h = groups-hint 0 gs hints n h

groups_of-push : (k : ProofKind) (gs : List GroupStart) (g : GroupStart) (hints : List ℕ) → k ≡ Pivot → g.start ≡ length hints →
    groups_of k (gs ++ g ∷ []) hints ≡ groups_of k gs hints ++ record { target = g.target; hints = [] } ∷ []
groups_of-push Pivot gs g hints q e = groups-push gs g hints e
groups_of-push Nothing gs g hints q e = cc
groups_of-push Implied gs g hints q e = cc
groups_of-push Reach gs g hints q e = cc

-- What the code holds, as a proof part.
abbrev part : ProofKind → ℕ → List GroupStart → List ℕ → ProofPart
part k n gs hints = record { kind = k; number = n; groups = groups_of k gs hints }

module _ (k : ProofKind) (n : ℕ) (gs : List GroupStart) (hints : List ℕ) (t : ProofPart) (view : part k n gs hints ≡ t) where
  pub part-group : (g : GroupStart) → t.kind ≡ Pivot → g.start ≡ length hints → part k n (gs ++ g ∷ []) hints ≡ with_group g.target t
  part-group g q e =
      let is : k ≡ Pivot = ap (λ (u : ProofPart). u.kind) view ∙ q in
      ap (λ (r : List HintGroup). record { kind = k; number = n; groups = r }) (groups_of-push k gs g hints is e) ∙
      ap (with_group g.target) view

  pub part-hint : (h : ℕ) → AreStarts 0 gs (length hints) → part k n gs (hints ++ h ∷ []) ≡ with_hint h t
  part-hint h s =
      ap (λ (r : List HintGroup). record { kind = k; number = n; groups = r }) (groups_of-hint k gs hints h s) ∙
      ap (with_hint h) view

  part-groups : k ≢ Implied → t.groups ≡ groups_from gs hints
  part-groups other = sym (ap (λ (u : ProofPart). u.groups) view) ∙ groups_of-from k gs hints other

  pub part-length : k ≢ Implied → length t.groups ≡ length gs
  part-length other = ap (λ (r : List HintGroup). length r) (part-groups other) ∙ length-groups gs hints

  pub part-at : (at : ℕ) → k ≢ Implied → at < length gs →
      group_at t.groups at ≡
      record { target = (start_at gs at).target; hints = slice_range hints (start_at gs at).start (end_at gs (length hints) at) }
  part-at at other l = ap (λ (r : List HintGroup). group_at r at) (part-groups other) ∙ group-piece gs hints at l

-- A slot filled, and a new one in its place.
use Rattle.std.proofs.Common.{◌≡◌, ◌≢◌, ◌⊎◌, ℕ, ◌+◌, ◌<◌, ◌≤◌, Bool, true, false, cond, eqb, List, [], ◌∷◌, ◌++◌, length, get_or, set, inl, inr, arith, refl, sym, ap, ◌∙◌, subst, Option, Some, None}
use Rattle.std.proofs.lemmas.List.{length_push, length-set, get_or_append_left, get_or_push, get_or_past, get_or-set_same, get_or-set_other}
use Rattle.std.proofs.lemmas.Bool.{cases_lt, cases_eq, ne_eqb, eq-eqb}
use Rattle.std.proofs.lemmas.Option.{same_Some}
use Rattle.q_logic.specs.Prelude.{Circuit, input, Reads, replaced, Strategy, circuit_of, given, or_input, map_circuit, reread}
use Rattle.q_logic.proofs.UniversalPivot.{given-reread}
use Rattle.q_aig.specs.Prelude.{Net, IsLiteral, tree_at, IsNet, Keeps, Serves}
use Rattle.q_aig.proofs.Substitutes.{serves-same, serves-then}
use Rattle.q_certificate.specs.Prelude.{look_at, is_there, IsGrown}
use Rattle.q_certificate.proofs.InputReads.{net-inputs}
use Rattle.q_certificate.proofs.LiteralRows.{literals-kept, literals-put}
use Rattle.q_certificate.proofs.CircuitParts.{keeps-then}
use Rattle.q_certificate.proofs.NamedCertificates.{not-given}
use Rattle.q_herbrand.specs.declared.slots.Slots.{Slots}
use Rattle.q_herbrand.specs.Under.{under, twice}
use Rattle.q_herbrand.specs.Slots.{AreSlots, AreCurrent, AreOwned, IsRenewed, owner_at}
use Rattle.q_herbrand.proofs.ReplacedInputs.{replaced-under, under-same, twice-serves, replaced-unread, replaced-itself, replaced-other}
use Rattle.q_herbrand.specs.Inputs.{has_input}
use Rattle.q_herbrand.specs.Following.{tree_of_literal, standing, AreUnder, Follows, IsReady}
use Rattle.q_herbrand.proofs.SubstitutedCircuits.{serves-replaced}

-- another circuit for one slot
abbrev pub with_slot : ℕ → Circuit → (ℕ → Circuit) → ℕ → Circuit
with_slot n t r x = cond (eqb x n) t (r x)

pub with-same : (n : ℕ) (t : Circuit) (r : ℕ → Circuit) → with_slot n t r n ≡ t
with-same n t r = ap (λ (b : Bool). cond b t (r n)) (eq-eqb n n refl)

pub with-other : (n : ℕ) (t : Circuit) (r : ℕ → Circuit) (x : ℕ) → x ≢ n → with_slot n t r x ≡ r x
with-other n t r x d = ap (λ (b : Bool). cond b t (r x)) (ne_eqb x n d)

module _ (a a1 b : Net) (ins tb tb1 : List (Option ℕ)) (z z1 z2 : Slots) (v place lit to k : ℕ) (net : IsNet a)
    (ready : IsReady a ins tb z) (vl : look_at z.current.items v ≡ Some place) (new : IsRenewed a a1 tb tb1 z z1 v
    lit) (grown : IsGrown a1 b k) (lt : IsLiteral b to) (ec : z2.current.items ≡ z1.current.items) (eo :
    z2.owners.items ≡ z1.owners.items) (ed : z2.definitions.items ≡ set z1.definitions.items
    place (Some to)) where
  kept : Keeps a b
  kept = keeps-then a a1 b new.kept grown.kept

  hv : has_input ins v ≡ true
  hv = sym (ready.current.same v) ∙ ap is_there vl

  before : place < length z.definitions.items
  before = ready.current.there v place vl

  inputs : b.inputs ≡ a.inputs ++ length z.definitions.items ∷ []
  inputs = grown.inputs ∙ new.inputs

  pushed-length : length z1.definitions.items ≡ length z.definitions.items + 1
  pushed-length = ap length new.definitions ∙ length_push z.definitions.items None

  room : length z2.definitions.items ≡ length z.definitions.items + 1
  room = ap length ed ∙ length-set z1.definitions.items place (Some to) ∙ pushed-length

  owners-room : length z2.owners.items ≡ length z.definitions.items + 1
  owners-room = ap length (eo ∙ new.owners) ∙ length_push z.owners.items v
      ∙ ap (λ (n : ℕ). n + 1) ready.slots.room

  filled-is : look_at z2.definitions.items place ≡ Some to
  filled-is = ap (λ (xs : List (Option ℕ)). look_at xs place) ed
      ∙ get_or-set_same z1.definitions.items place (Some to) None
      (let p = pushed-length in let q = before in omega arith)

  new-is : look_at z2.definitions.items (length z.definitions.items) ≡ None
  new-is = ap (λ (xs : List (Option ℕ)). look_at xs (length z.definitions.items)) ed
      ∙ get_or-set_other z1.definitions.items place (length z.definitions.items) (Some to) None
      (λ e. let q = before in absurd (omega arith))
      ∙ ap (λ (xs : List (Option ℕ)). look_at xs (length z.definitions.items)) new.definitions
      ∙ get_or_push z.definitions.items None None (length z.definitions.items) refl

  other-is-kept : (s : ℕ) → s ≢ place → s < length z.definitions.items →
      look_at z2.definitions.items s ≡ look_at z.definitions.items s
  other-is-kept s n h = ap (λ (xs : List (Option ℕ)). look_at xs s) ed
      ∙ get_or-set_other z1.definitions.items place s (Some to) None n
      ∙ ap (λ (xs : List (Option ℕ)). look_at xs s) new.definitions
      ∙ get_or_append_left z.definitions.items (None ∷ []) None s h

  owner-kept : (s : ℕ) → s < length z.definitions.items → owner_at z2.owners.items s ≡ owner_at z.owners.items s
  owner-kept s h = ap (λ (xs : List ℕ). owner_at xs s) (eo ∙ new.owners)
      ∙ get_or_append_left z.owners.items (v ∷ []) 0 s (let r = ready.slots.room in omega arith)

  owner-new : owner_at z2.owners.items (length z.definitions.items) ≡ v
  owner-new = ap (λ (xs : List ℕ). owner_at xs (length z.definitions.items)) (eo ∙ new.owners)
      ∙ get_or_push z.owners.items v 0 (length z.definitions.items) ready.slots.room

  slot-new : look_at z2.current.items v ≡ Some (length z.definitions.items)
  slot-new = ap (λ (xs : List (Option ℕ)). look_at xs v) ec ∙ new.current v
      ∙ ap (λ (q : Bool). cond q (Some (length z.definitions.items)) (look_at z.current.items v)) (eq-eqb v v refl)

  slot-kept : (w : ℕ) → w ≢ v → look_at z2.current.items w ≡ look_at z.current.items w
  slot-kept w n = ap (λ (xs : List (Option ℕ)). look_at xs w) ec ∙ new.current w
      ∙ ap (λ (q : Bool). cond q (Some (length z.definitions.items)) (look_at z.current.items w)) (ne_eqb w v n)

  -- the slots of other variables are other ones
  apart : (w s : ℕ) → look_at z.current.items w ≡ Some s → w ≢ v → s ≢ place
  apart w s wl n e =
      n (sym (ready.current.owned w s wl) ∙ ap (owner_at z.owners.items) e ∙ ready.current.owned v place vl)

  -- an empty slot of v is the one that stands for it
  empty-of : (s : ℕ) → s < length z.definitions.items → look_at z.definitions.items s ≡ None →
      owner_at z.owners.items s ≡ v → s ≡ place
  empty-of s h e o =
      same_Some s place (sym (ready.current.last s h e) ∙ ap (look_at z.current.items) o ∙ vl)

  -- an empty slot was one before, or is the new one
  empty-before : (s : ℕ) → s < length z2.definitions.items → look_at z2.definitions.items s ≡ None →
      ((s < length z.definitions.items) × (s ≢ place) ×
      (look_at z.definitions.items s ≡ None)) ⊎ (s ≡ length z.definitions.items)
  empty-before s h e = elim (cases_lt s (length z.definitions.items)) [
    | inl l ↦ elim (cases_eq s place) [
      | inl q ↦ absurd (let f : None ≡ Some to = sym e ∙ ap (look_at z2.definitions.items) q ∙ filled-is in cc)
      | inr n ↦ inl (l, n, sym (other-is-kept s n l) ∙ e)
    ]
    | inr l ↦ inr (let r = room in omega arith)
  ]

  slots-next : AreSlots b z2
  slots-next = record {
    room = owners-room ∙ sym room;
    literals = λ s l e. elim (cases_eq s place) [
      | inl q ↦ subst (IsLiteral b) (same_Some to l (sym filled-is ∙ ap (look_at z2.definitions.items) (sym q) ∙ e)) lt
      | inr n ↦ elim (cases_lt s (length z.definitions.items)) [
        | inl h ↦ (kept l (ready.slots.literals s l (sym (other-is-kept s n h) ∙ e))).0
        | inr h ↦ absurd (none-past s l h e)
      ]
    ];
    names = names;
  }
    where
      none-past : (s l : ℕ) → length z.definitions.items ≤ s → look_at z2.definitions.items s ≡ Some l → ⊥
      none-past s l h e = elim (cases_eq s (length z.definitions.items)) [
        | inl q ↦ let f : None ≡ Some l = sym new-is ∙ ap (look_at z2.definitions.items) (sym q) ∙ e in cc
        | inr n ↦
            let past : look_at z2.definitions.items s ≡ None =
            get_or_past z2.definitions.items s None (let r = room in omega arith) in
            let f : None ≡ Some l = sym past ∙ e in
            cc
      ]

      names : (i : ℕ) → i < length b.inputs → get_or b.inputs i 0 < length z2.definitions.items
      names i il =
          let len = length_push a.inputs (length z.definitions.items) in
          let il2 : i < length (a.inputs ++ length z.definitions.items ∷ []) =
          subst (λ (xs : List ℕ). i < length xs) inputs il in
          let r = room in
          subst (λ (xs : List ℕ). get_or xs i 0 < length z2.definitions.items) (sym inputs)
          (elim (cases_lt i (length a.inputs)) [
            | inl h ↦
                let e = get_or_append_left a.inputs (length z.definitions.items ∷ []) 0 i h in
                let n = ready.slots.names i h in
                omega arith
            | inr h ↦
                let e = get_or_push a.inputs (length z.definitions.items) 0 i (omega arith) in
                omega arith
          ])

  -- the new slot is the one of v, and other variables keep theirs
  slot-of : (w s : ℕ) → look_at z2.current.items w ≡ Some s →
      ((w ≡ v) × (s ≡ length z.definitions.items)) ⊎ ((w ≢ v) × (look_at z.current.items w ≡ Some s))
  slot-of w s e = elim (cases_eq w v) [
    | inl q ↦ inl (
      q,
      same_Some s (length z.definitions.items) (sym e ∙ ap (look_at z2.current.items) q ∙ slot-new),
    )
    | inr n ↦ inr (n, sym (slot-kept w n) ∙ e)
  ]

  current-next : AreCurrent ins z2
  current-next = record {
    same = λ w. elim (cases_eq w v) [
      | inl q ↦ ap is_there (ap (look_at z2.current.items) q ∙ slot-new) ∙ sym (ap (has_input ins) q ∙ hv)
      | inr n ↦ ap is_there (slot-kept w n) ∙ ready.current.same w
    ];
    there = λ w s e. elim (slot-of w s e) [
      | inl q ↦ let f = q.1 in let r = room in omega arith
      | inr q ↦ let f = ready.current.there w s q.1 in let r = room in omega arith
    ];
    empty = λ w s e. elim (slot-of w s e) [
      | inl q ↦ ap (look_at z2.definitions.items) q.1 ∙ new-is
      | inr q ↦ other-is-kept s (apart w s q.1 q.0) (ready.current.there w s q.1) ∙ ready.current.empty w s q.1
    ];
    owned = λ w s e. elim (slot-of w s e) [
      | inl q ↦ ap (owner_at z2.owners.items) q.1 ∙ owner-new ∙ sym q.0
      | inr q ↦ owner-kept s (ready.current.there w s q.1) ∙ ready.current.owned w s q.1
    ];
    last = λ s h e. elim (empty-before s h e) [
      | inl p ↦
          let n : owner_at z.owners.items s ≢ v = λ w. p.1 (empty-of s p.0 p.2 w) in
          ap (look_at z2.current.items) (owner-kept s p.0) ∙ slot-kept (owner_at z.owners.items s) n
          ∙ ready.current.last s p.0 p.2
      | inr p ↦
          let o : owner_at z2.owners.items s ≡ v = ap (owner_at z2.owners.items) p ∙ owner-new in
          ap (look_at z2.current.items) o ∙ slot-new ∙ ap Some (sym p)
    ];
  }

  pub ready-next : IsReady b ins tb1 z2
  ready-next = record {
    slots = slots-next;
    current = current-next;
    owned = owned;
    literals = literals-kept a b ins kept ready.literals;
    circuits = literals-put b tb tb1 v (Some lit) new.circuits
        (λ l e. subst (IsLiteral b) (same_Some lit l e) (grown.kept lit new.there).0)
        (literals-kept a b tb kept ready.circuits);
  }
    where
      owned : AreOwned b.inputs ins z2
      owned i il =
          let len = length_push a.inputs (length z.definitions.items) in
          let il2 : i < length (a.inputs ++ length z.definitions.items ∷ []) =
          subst (λ (xs : List ℕ). i < length xs) inputs il in
          subst (λ (xs : List ℕ). has_input ins (owner_at z2.owners.items (get_or xs i 0)) ≡ true) (sym inputs)
          (elim (cases_lt i (length a.inputs)) [
            | inl h ↦
                let e = get_or_append_left a.inputs (length z.definitions.items ∷ []) 0 i h in
                ap (λ (s : ℕ). has_input ins (owner_at z2.owners.items s)) e
                ∙ ap (has_input ins) (owner-kept (get_or a.inputs i 0) (ready.slots.names i h)) ∙ ready.owned i h
            | inr h ↦
                let e = get_or_push a.inputs (length z.definitions.items) 0 i (omega arith) in
                ap (λ (s : ℕ). has_input ins (owner_at z2.owners.items s)) e ∙ ap (has_input ins) owner-new ∙ hv
          ])

  -- what a literal of the old graph reads is an old slot
  old-reads : (l x : ℕ) → IsLiteral a l → Reads (tree_at a l) x → x < length z.definitions.items
  old-reads l x h r =
      let f = net-inputs a l x net.ordered h r in
      let n = ready.slots.names f.0 f.1 in
      let e = f.2 in
      omega arith

  module _ (c : Strategy) (w : Follows a ins tb z c) (t : Circuit) (none : given (c v) ≡ false) where
    -- the circuits of the slots before, with the new slot
    abbrev now : ℕ → Circuit
    now = with_slot (length z.definitions.items) (input v) w.resolution

    abbrev next : ℕ → Circuit
    next = with_slot (length z.definitions.items) (input v)
        (λ x. replaced v (twice (under now (tree_at b to))) (w.resolution x))

    module _ (serves : Serves (under now (tree_at b to)) t) (clear : (x : ℕ) → Reads (tree_at b to) x →
        (x ≡ length z.definitions.items) ⊎ (Reads (w.resolution x) v → ⊥)) where
      next-old : (q : Circuit) → ((x : ℕ) → Reads q x → x < length z.definitions.items) →
          under next q ≡ replaced v (twice (under now (tree_at b to))) (under w.resolution q)
      next-old q h =
          under-same next (λ x. replaced v (twice (under now (tree_at b to))) (w.resolution x)) q
          (λ x r. with-other (length z.definitions.items) (input v)
          (λ x. replaced v (twice (under now (tree_at b to))) (w.resolution x)) x
          (λ e. let l = h x r in absurd (omega arith)))
          ∙ sym (replaced-under v (twice (under now (tree_at b to))) w.resolution q)

      next-to : under next (tree_at b to) ≡ under now (tree_at b to)
      next-to = under-same next now (tree_at b to) (λ x r. go x (clear x r) (cases_eq x (length z.definitions.items)))
        where
          go : (x : ℕ) → (x ≡ length z.definitions.items) ⊎ (Reads (w.resolution x) v → ⊥) →
              (x ≡ length z.definitions.items) ⊎ (x ≢ length z.definitions.items) → next x ≡ now x
          go x o (inl e) =
              ap next e ∙ with-same (length z.definitions.items) (input v)
              (λ x. replaced v (twice (under now (tree_at b to))) (w.resolution x))
              ∙ sym (ap now e ∙ with-same (length z.definitions.items) (input v) w.resolution)
          go x (inl e) (inr n) = absurd (n e)
          go x (inr m) (inr n) =
              with-other (length z.definitions.items) (input v)
              (λ x. replaced v (twice (under now (tree_at b to))) (w.resolution x)) x n
              ∙ replaced-unread v (twice (under now (tree_at b to))) (w.resolution x) m
              ∙ sym (with-other (length z.definitions.items) (input v) w.resolution x n)

      next-is : (s : ℕ) → s < length z.definitions.items →
          next s ≡ replaced v (twice (under now (tree_at b to))) (w.resolution s)
      next-is s h = with-other (length z.definitions.items) (input v)
          (λ x. replaced v (twice (under now (tree_at b to))) (w.resolution x)) s (λ e. absurd (omega arith))

      next-empty : (s : ℕ) → s < length z2.definitions.items → look_at z2.definitions.items s ≡ None →
          next s ≡ input (owner_at z2.owners.items s)
      next-empty s h e = elim (empty-before s h e) [
        | inl p ↦
            let n : owner_at z.owners.items s ≢ v = λ q. p.1 (empty-of s p.0 p.2 q) in
            next-is s p.0
            ∙ ap (replaced v (twice (under now (tree_at b to)))) (w.resolved.empty s p.0 p.2)
            ∙ replaced-other v (twice (under now (tree_at b to))) (owner_at z.owners.items s) n
            ∙ ap input (sym (owner-kept s p.0))
        | inr p ↦ ap next p ∙ with-same (length z.definitions.items) (input v)
            (λ x. replaced v (twice (under now (tree_at b to))) (w.resolution x))
            ∙ sym (ap input (ap (owner_at z2.owners.items) p ∙ owner-new))
      ]

      filled-before : (s l : ℕ) → s ≢ place → look_at z2.definitions.items s ≡ Some l →
          (s < length z.definitions.items) × (look_at z.definitions.items s ≡ Some l)
      filled-before s l n e = elim (cases_lt s (length z.definitions.items)) [
        | inl h ↦ (h, sym (other-is-kept s n h) ∙ e)
        | inr h ↦ elim (cases_eq s (length z.definitions.items)) [
          | inl q ↦ absurd (let f : None ≡ Some l = sym new-is ∙ ap (look_at z2.definitions.items) (sym q) ∙ e in cc)
          | inr m ↦
              let past : look_at z2.definitions.items s ≡ None =
              get_or_past z2.definitions.items s None (let r = room in omega arith) in
              absurd (let f : None ≡ Some l = sym past ∙ e in cc)
        ]
      ]

      next-filled : (s l : ℕ) → look_at z2.definitions.items s ≡ Some l → next s ≡ twice (under next (tree_at b l))
      next-filled s l e = elim (cases_eq s place) [
        | inl q ↦
            let tl : to ≡ l = same_Some to l (sym filled-is ∙ ap (look_at z2.definitions.items) (sym q) ∙ e) in
            ap next q ∙ next-is place before
            ∙ ap (replaced v (twice (under now (tree_at b to))))
            (w.resolved.empty place before (ready.current.empty v place vl)
            ∙ ap input (ready.current.owned v place vl))
            ∙ replaced-itself v (twice (under now (tree_at b to))) ∙ ap twice (sym next-to)
            ∙ ap (λ (m : ℕ). twice (under next (tree_at b m))) tl
        | inr n ↦
            let p = filled-before s l n e in
            let il : IsLiteral a l = ready.slots.literals s l p.1 in
            next-is s p.0
            ∙ ap (replaced v (twice (under now (tree_at b to)))) (w.resolved.filled s l p.1)
            ∙ ap twice (sym (next-old (tree_at a l) (λ x r. old-reads l x il r)))
            ∙ ap (λ (q : Circuit). twice (under next q)) (sym (kept l il).1)
      ]

      filling-serves : Serves (twice (under now (tree_at b to))) t
      filling-serves = serves-then _ _ _ (twice-serves (under now (tree_at b to))) serves

      new-circuit : standing b tb1 v ≡ Some (input (length z.definitions.items))
      new-circuit =
          let p : look_at tb1 v ≡ Some lit =
          new.circuits v ∙ ap (λ (q : Bool). cond q (Some lit) (look_at tb v)) (eq-eqb v v refl) in
          ap (tree_of_literal b) p ∙ ap Some ((grown.kept lit new.there).1 ∙ new.tree)

      old-circuit : (x : ℕ) (q : Circuit) → x ≢ v → standing a tb x ≡ Some q → (l : ℕ) × IsLiteral a l ×
          (q ≡ tree_at a l) × (standing b tb1 x ≡ Some (tree_at a l))
      old-circuit x q n e = go (look_at tb x) refl e
        where
          go : (m : Option ℕ) → look_at tb x ≡ m → tree_of_literal a m ≡ Some q → (l : ℕ) × IsLiteral a l ×
              (q ≡ tree_at a l) × (standing b tb1 x ≡ Some (tree_at a l))
          go None f g = absurd (cc)
          go (Some l) f g =
              let il : IsLiteral a l = ready.circuits x l f in
              let p : look_at tb1 x ≡ Some l = new.circuits x
              ∙ ap (λ (q : Bool). cond q (Some lit) (look_at tb x)) (ne_eqb x v n) ∙ f in
              (l, il, cc, ap (tree_of_literal b) p ∙ ap Some (kept l il).1)

      reread-circuit : (x : ℕ) → x ≢ v → circuit_of (reread v t c) x ≡ replaced v t (circuit_of c x)
      reread-circuit x n = go (c x)
        where
          go : (o : Option Circuit) → or_input x (map_circuit (replaced v t) o) ≡ replaced v t (or_input x o)
          go None = sym (replaced-other v t x n)
          go (Some q) = refl

      under-next : AreUnder next (has_input ins) (standing b tb1) (reread v t c)
      under-next x h = elim (cases_eq x v) [
        | inl e ↦ subst (λ (y : ℕ). (q : Circuit) × (standing b tb1 y ≡ Some q) × Serves (under next q)
            (circuit_of (reread v t c) y)) (sym e) (
              input (length z.definitions.items),
              new-circuit,
              serves-same _ _ (with-same (length z.definitions.items) (input v)
                  (λ x. replaced v (twice (under now (tree_at b to))) (w.resolution x))
                  ∙ sym (ap (λ (o : Option Circuit). or_input v (map_circuit (replaced v t) o))
                  (not-given (c v) none))),
            )
        | inr n ↦
            let old : (given (c x) ≡ true) ⊎ (has_input ins x ≡ true) =
            elim h [ inl p ↦ inl (sym (given-reread v t c x) ∙ p) | inr p ↦ inr p ] in
            let u = w.circuits x old in
            let o = old-circuit x u.0 n u.1 in (
              tree_at a o.0,
              o.3,
              serves-then _ _ _ (serves-same _ _ (next-old (tree_at a o.0) (λ y r. old-reads o.0 y o.1 r)))
                  (serves-then _ _ _ (serves-replaced v _ _ _ _ filling-serves
                  (serves-then _ _ _ (serves-same _ _ (ap (under w.resolution) (sym o.2))) u.2))
                  (serves-same _ _ (sym (reread-circuit x n)))),
            )
      ]

      pub follows-next : Follows b ins tb1 z2 (reread v t c)
      follows-next = record {
        resolution = next;
        resolved = record { empty = next-empty; filled = next-filled };
        circuits = under-next;
      }

-- Which numbers may come at each stage of a proof part, and which proof part they make.
use Rattle.std.proofs.Common.{◌≡◌, ◌<◌, ◌==◌, ◌^◌, ◌⊎◌, inl, inr, ℕ, zero, suc, Bool, true, false, List, [], ◌∷◌, ◌++◌, Some, None, refl, sym, ap, subst, ◌∙◌, arith, append_assoc, append-nil, if◌then◌else◌}
use Rattle.std.proofs.lemmas.Bool.Decides.{nat_tests}
use Rattle.std.specs.List.{AllByRecursion}
use Rattle.q_logic.specs.declared.proof_part.ProofKind.{ProofKind}
use Rattle.q_logic.specs.declared.proof_part.ProofKind.TheVariants.{Nothing, Implied, Pivot, Reach}
use Rattle.q_logic.specs.Prelude.{HintGroup, ProofPart, ProofStep}
use Rattle.q_logic.specs.ProofParts.{begun_part, hint_last, with_group, with_hint}
use Rattle.q_hinted.specs.declared.builder.Stage.{Stage}
use Rattle.q_hinted.specs.declared.builder.Stage.TheVariants as stage
use Rattle.q_hinted.specs.Grammar.{steps, proving, EntryMove, hands, leads, misfit, with_zero, with_number, kind_move, part_move}
use Rattle.q_hinted.specs.Parts.{IsNumber, IsGroup, AreGroups, groups_numbers, proof_numbers}

abbrev pub with_hints : List ℕ → ProofPart → ProofPart
with_hints [] t = t
with_hints (h ∷ hs) t = with_hints hs (with_hint h t)

abbrev pub with_groups : List HintGroup → ProofPart → ProofPart
with_groups [] t = t
with_groups (g ∷ gs) t = with_groups gs (with_hints g.hints (with_group g.target t))

-- hints come behind those of the last group
hint-behind : (gs : List HintGroup) (t h : ℕ) (done : List ℕ) →
    hint_last h (gs ++ record { target = t; hints = done } ∷ []) ≡ gs ++ record { target = t; hints = done ++ h ∷ [] } ∷ []
hint-behind [] t h done = refl
hint-behind (g ∷ []) t h done = refl
hint-behind (g ∷ f ∷ gs) t h done = ap (λ (xs : List HintGroup). g ∷ xs) (hint-behind (f ∷ gs) t h done)

pub hints-behind : (k : ProofKind) (m : ℕ) (gs : List HintGroup) (t : ℕ) (done hs : List ℕ) →
    with_hints hs (record { kind = k; number = m; groups = gs ++ record { target = t; hints = done } ∷ [] }) ≡
    record { kind = k; number = m; groups = gs ++ record { target = t; hints = done ++ hs } ∷ [] }
hints-behind k m gs t done [] =
    ap (λ (xs : List ℕ). let p : ProofPart = record { kind = k; number = m; groups = gs ++ record { target = t; hints = xs } ∷ [] } in p) (sym (append-nil done))
hints-behind k m gs t done (h ∷ hs) =
    ap (λ (xs : List HintGroup). let p : ProofPart = record { kind = k; number = m; groups = xs } in with_hints hs p) (hint-behind gs t h done)
    ∙ (hints-behind k m gs t (done ++ h ∷ []) hs
    ∙ ap (λ (xs : List ℕ). let p : ProofPart = record { kind = k; number = m; groups = gs ++ record { target = t; hints = xs } ∷ [] } in p) (append_assoc done (h ∷ []) hs))

pub groups-behind : (k : ProofKind) (m : ℕ) (done gs : List HintGroup) →
    with_groups gs (record { kind = k; number = m; groups = done }) ≡ record { kind = k; number = m; groups = done ++ gs }
groups-behind k m done [] = ap (λ (xs : List HintGroup). let p : ProofPart = record { kind = k; number = m; groups = xs } in p) (sym (append-nil done))
groups-behind k m done (g ∷ gs) =
    ap (with_groups gs) (hints-behind k m done g.target [] g.hints)
    ∙ (groups-behind k m (done ++ g ∷ []) gs
    ∙ ap (λ (xs : List HintGroup). let p : ProofPart = record { kind = k; number = m; groups = xs } in p) (append_assoc done (g ∷ []) gs))

-- a whole proof, its last 0 with it
pub record IsProofOf (m : ℕ) (ns : List ℕ) (t : ProofPart) : Type 0 where
  pub number : t.number ≡ m
  pub groups : AreGroups t.kind t.groups
  pub numbers : ns ≡ proof_numbers t.kind t.groups ++ 0 ∷ []

pub record FitsHints (p : ProofPart) (ns : List ℕ) (t : ProofPart) : Type 0 where
  pub hints : List ℕ
  pub numbers : ns ≡ hints ++ 0 ∷ []
  pub small : AllByRecursion IsNumber hints
  pub is : t ≡ with_hints hints p

pub record FitsTargets (p : ProofPart) (ns : List ℕ) (t : ProofPart) : Type 0 where
  pub groups : List HintGroup
  pub numbers : ns ≡ groups_numbers groups ++ 0 ∷ []
  pub small : AllByRecursion IsGroup groups
  pub is : t ≡ with_groups groups p

pub record FitsGroup (p : ProofPart) (ns : List ℕ) (t : ProofPart) : Type 0 where
  pub hints : List ℕ
  pub groups : List HintGroup
  pub numbers : ns ≡ hints ++ 0 ∷ (groups_numbers groups ++ 0 ∷ [])
  pub small_hints : AllByRecursion IsNumber hints
  pub small_groups : AllByRecursion IsGroup groups
  pub is : t ≡ with_groups groups (with_hints hints p)

pub record FitsNumber (ns : List ℕ) (t : ProofPart) : Type 0 where
  pub number : ℕ
  pub rest : List ℕ
  pub numbers : ns ≡ number ∷ rest
  pub small : IsNumber number
  pub proof : IsProofOf number rest t

pub record FitsZero (p : ProofPart) (ns : List ℕ) (t : ProofPart) : Type 0 where
  pub numbers : ns ≡ 0 ∷ []
  pub is : t ≡ p

-- at a stage, behind what is there, these numbers make this proof part
abbrev pub Fits : Stage → ProofPart → List ℕ → ProofPart → Type 0
Fits stage.Number p ns t = FitsNumber ns t
Fits stage.Kind p ns t = IsProofOf p.number ns t
Fits stage.Hints p ns t = FitsHints p ns t
Fits stage.Targets p ns t = FitsTargets p ns t
Fits stage.GroupHints p ns t = FitsGroup p ns t
Fits stage.Zero p ns t = FitsZero p ns t

-- what was read last, and what fits behind it, fit together
abbrev pub Back : ℕ → ProofStep → ProofPart → Stage → ℕ → EntryMove → Type 0
Back l s p g v (hands m r o q) = ((m ≡ l) × (r ≡ s) × (o ≡ Some p) × (q ≡ steps None)) × Fits g p (v ∷ []) p
Back l s p g v (leads q) = (h : Stage) × (f : ProofPart) × (q ≡ proving l s h f) × ((ns : List ℕ) (t : ProofPart) → Fits h f ns t → Fits g p (v ∷ ns) t)
Back l s p g v misfit = Unit {0}

zero-back : (l : ℕ) (s : ProofStep) (p : ProofPart) (g : Stage) → Back l s p g 0 (with_zero l s p g)
zero-back l s p stage.Number = tt
zero-back l s p stage.Kind = tt
zero-back l s p stage.Hints = ((refl, refl, refl, refl), record { hints = []; numbers = refl; small = tt; is = refl })
zero-back l s p stage.Targets = ((refl, refl, refl, refl), record { groups = []; numbers = refl; small = tt; is = refl })
zero-back l s p stage.GroupHints =
    (stage.Targets, p, refl, λ ns t f. record { hints = []; groups = f.groups; numbers = ap (λ xs. 0 ∷ xs) f.numbers; small_hints = tt; small_groups = f.small; is = f.is })
zero-back l s p stage.Zero = ((refl, refl, refl, refl), record { numbers = refl; is = refl })

only-group : (m : ℕ) (ns : List ℕ) (t : ProofPart) → FitsHints (begun_part Implied m) ns t → IsProofOf m (1 ∷ ns) t
only-group m ns t f =
    let e : t ≡ record { kind = Implied; number = m; groups = record { target = 0; hints = f.hints } ∷ [] } = f.is ∙ hints-behind Implied m [] 0 [] f.hints in
    subst (λ (x : ProofPart). IsProofOf m (1 ∷ ns) x) (sym e) (record { number = refl; groups = (refl, f.small); numbers = ap (λ xs. 1 ∷ xs) f.numbers })

all-groups : (m : ℕ) (ns : List ℕ) (t : ProofPart) → FitsTargets (begun_part Pivot m) ns t → IsProofOf m (2 ∷ ns) t
all-groups m ns t f =
    let e : t ≡ record { kind = Pivot; number = m; groups = f.groups } = f.is ∙ groups-behind Pivot m [] f.groups in
    subst (λ (x : ProofPart). IsProofOf m (2 ∷ ns) x) (sym e) (record { number = refl; groups = f.small; numbers = ap (λ xs. 2 ∷ xs) f.numbers })

no-groups : (m : ℕ) (ns : List ℕ) (t : ProofPart) → FitsZero (begun_part Reach m) ns t → IsProofOf m (3 ∷ ns) t
no-groups m ns t f =
    subst (λ (x : ProofPart). IsProofOf m (3 ∷ ns) x) (sym f.is) (record { number = refl; groups = refl; numbers = ap (λ xs. 3 ∷ xs) f.numbers })

kind-back : (l : ℕ) (s : ProofStep) (p : ProofPart) (v : ℕ) → Back l s p stage.Kind v (kind_move l s p v)
kind-back l s p v = go (v == 1) (v == 2) (v == 3) refl refl refl
  where
    go : (a b c : Bool) → (v == 1) ≡ a → (v == 2) ≡ b → (v == 3) ≡ c →
        Back l s p stage.Kind v
        (if a then leads (proving l s stage.Hints (begun_part Implied p.number))
        else (if b then leads (proving l s stage.Targets (begun_part Pivot p.number))
        else (if c then leads (proving l s stage.Zero (begun_part Reach p.number))
        else misfit)))
    go true b c e f h =
        let i : 1 ≡ v = grind (arith, nat_tests) in
        (stage.Hints, begun_part Implied p.number, refl, λ ns t k. subst (λ x. IsProofOf p.number (x ∷ ns) t) i (only-group p.number ns t k))
    go false true c e f h =
        let i : 2 ≡ v = grind (arith, nat_tests) in
        (stage.Targets, begun_part Pivot p.number, refl, λ ns t k. subst (λ x. IsProofOf p.number (x ∷ ns) t) i (all-groups p.number ns t k))
    go false false true e f h =
        let i : 3 ≡ v = grind (arith, nat_tests) in
        (stage.Zero, begun_part Reach p.number, refl, λ ns t k. subst (λ x. IsProofOf p.number (x ∷ ns) t) i (no-groups p.number ns t k))
    go false false false e f h = tt

number-back : (l : ℕ) (s : ProofStep) (p : ProofPart) (v : ℕ) (g : Stage) → IsNumber v → Back l s p g v (with_number l s p v g)
number-back l s p v stage.Number b =
    (stage.Kind, begun_part Nothing v, refl, λ ns t f. record { number = v; rest = ns; numbers = refl; small = b; proof = f })
number-back l s p v stage.Kind b = kind-back l s p v
number-back l s p v stage.Hints b =
    (stage.Hints, with_hint v p, refl, λ ns t f. record { hints = v ∷ f.hints; numbers = ap (λ xs. v ∷ xs) f.numbers; small = (b, f.small); is = f.is })
number-back l s p v stage.Targets b = (
  stage.GroupHints,
  with_group v p,
  refl,
  λ ns t f.
      record {
        groups = record { target = v; hints = f.hints } ∷ f.groups;
        numbers = ap (λ xs. v ∷ xs) (f.numbers ∙ sym (append_assoc f.hints (0 ∷ groups_numbers f.groups) (0 ∷ [])));
        small = ((b, f.small_hints), f.small_groups);
        is = f.is;
      },
)
number-back l s p v stage.GroupHints b = (
  stage.GroupHints,
  with_hint v p,
  refl,
  λ ns t f.
      record { hints = v ∷ f.hints; groups = f.groups; numbers = ap (λ xs. v ∷ xs) f.numbers; small_hints = (b, f.small_hints); small_groups = f.small_groups; is = f.is },
)
number-back l s p v stage.Zero b = tt

-- a number of a proof part
pub part-back : (l : ℕ) (s : ProofStep) (p : ProofPart) (g : Stage) (v : ℕ) → v < 2 ^ 62 → Back l s p g v (part_move l s p g (Some v))
part-back l s p g zero h = zero-back l s p g
part-back l s p g (suc v) h =
    let e : (suc v == 0) ≡ false = grind (arith, nat_tests) in
    let b : IsNumber (suc v) = (omega arith, h) in
    rw e (number-back l s p (suc v) g b)

-- what fits begins with a number that leads on, or ends the proof part
pub record Done (l : ℕ) (s : ProofStep) (p : ProofPart) (g : Stage) (v : ℕ) (ns : List ℕ) (t : ProofPart) : Type 0 where
  pub move : part_move l s p g (Some v) ≡ hands l s (Some t) (steps None)
  pub last : ns ≡ []

pub record Goes (l : ℕ) (s : ProofStep) (p : ProofPart) (g : Stage) (v : ℕ) (ns : List ℕ) (t : ProofPart) : Type 0 where
  pub stage : Stage
  pub part : ProofPart
  pub move : part_move l s p g (Some v) ≡ leads (proving l s stage part)
  pub fits : Fits stage part ns t

abbrev pub Onward : ℕ → ProofStep → ProofPart → Stage → ℕ → List ℕ → ProofPart → Type 0
Onward l s p g v ns t = (v < 2 ^ 62) × (Done l s p g v ns t ⊎ Goes l s p g v ns t)

not-zero : (v : ℕ) → IsNumber v → (v == 0) ≡ false
not-zero v (a, b) = grind (arith, nat_tests)

positive : (l : ℕ) (s : ProofStep) (p : ProofPart) (g : Stage) (v : ℕ) → IsNumber v → part_move l s p g (Some v) ≡ with_number l s p v g
positive l s p g v b = rw (not-zero v b) refl

hints-onward : (l : ℕ) (s : ProofStep) (p : ProofPart) (v : ℕ) (ns : List ℕ) (t : ProofPart) (hs : List ℕ) →
    v ∷ ns ≡ hs ++ 0 ∷ [] → AllByRecursion IsNumber hs → t ≡ with_hints hs p → Onward l s p stage.Hints v ns t
hints-onward l s p v ns t [] e a i =
    let z : v ≡ 0 = cc in
    let n : ns ≡ [] = cc in
    (omega arith, inl (record { move = rw (z, i) refl; last = n }))
hints-onward l s p v ns t (h ∷ hs) e (b, a) i =
    let z : v ≡ h = cc in
    let n : ns ≡ hs ++ 0 ∷ [] = cc in
    let w : IsNumber v = subst IsNumber (sym z) b in
    (w.1, inr (record { stage = stage.Hints; part = with_hint h p; move = positive l s p stage.Hints v w ∙ rw z refl; fits = record { hints = hs; numbers = n; small = a; is = i } }))

targets-onward : (l : ℕ) (s : ProofStep) (p : ProofPart) (v : ℕ) (ns : List ℕ) (t : ProofPart) (gs : List HintGroup) →
    v ∷ ns ≡ groups_numbers gs ++ 0 ∷ [] → AllByRecursion IsGroup gs → t ≡ with_groups gs p → Onward l s p stage.Targets v ns t
targets-onward l s p v ns t [] e a i =
    let z : v ≡ 0 = cc in
    let n : ns ≡ [] = cc in
    (omega arith, inl (record { move = rw (z, i) refl; last = n }))
targets-onward l s p v ns t (g ∷ gs) e (b, a) i =
    let z : v ≡ g.target = cc in
    let n : ns ≡ (g.hints ++ 0 ∷ groups_numbers gs) ++ 0 ∷ [] = cc in
    let w : IsNumber v = subst IsNumber (sym z) b.0 in (
      w.1,
      inr (record {
        stage = stage.GroupHints;
        part = with_group g.target p;
        move = positive l s p stage.Targets v w ∙ rw z refl;
        fits = record { hints = g.hints; groups = gs; numbers = n ∙ append_assoc g.hints (0 ∷ groups_numbers gs) (0 ∷ []); small_hints = b.1; small_groups = a; is = i };
      }),
    )

group-onward : (l : ℕ) (s : ProofStep) (p : ProofPart) (v : ℕ) (ns : List ℕ) (t : ProofPart) (hs : List ℕ) (gs : List HintGroup) →
    v ∷ ns ≡ hs ++ 0 ∷ (groups_numbers gs ++ 0 ∷ []) → AllByRecursion IsNumber hs → AllByRecursion IsGroup gs → t ≡ with_groups gs (with_hints hs p) →
    Onward l s p stage.GroupHints v ns t
group-onward l s p v ns t [] gs e a c i =
    let z : v ≡ 0 = cc in
    let n : ns ≡ groups_numbers gs ++ 0 ∷ [] = cc in
    (omega arith, inr (record { stage = stage.Targets; part = p; move = rw z refl; fits = record { groups = gs; numbers = n; small = c; is = i } }))
group-onward l s p v ns t (h ∷ hs) gs e (b, a) c i =
    let z : v ≡ h = cc in
    let n : ns ≡ hs ++ 0 ∷ (groups_numbers gs ++ 0 ∷ []) = cc in
    let w : IsNumber v = subst IsNumber (sym z) b in (
      w.1,
      inr (record {
        stage = stage.GroupHints;
        part = with_hint h p;
        move = positive l s p stage.GroupHints v w ∙ rw z refl;
        fits = record { hints = hs; groups = gs; numbers = n; small_hints = a; small_groups = c; is = i };
      }),
    )

-- the kind of a proof, and what is behind it
proof-onward : (l : ℕ) (s : ProofStep) (p : ProofPart) (v : ℕ) (ns : List ℕ) (k : ProofKind) (gs : List HintGroup) →
    AreGroups k gs → v ∷ ns ≡ proof_numbers k gs ++ 0 ∷ [] → Onward l s p stage.Kind v ns (record { kind = k; number = p.number; groups = gs })
proof-onward l s p v ns Nothing gs a e = absurd a
proof-onward l s p v ns Implied [] a e = absurd a
proof-onward l s p v ns Implied (g ∷ []) (z, a) e =
    let o : v ≡ 1 = cc in
    let n : ns ≡ g.hints ++ 0 ∷ [] = cc in (
      omega arith,
      inr (record {
        stage = stage.Hints;
        part = begun_part Implied p.number;
        move = rw o refl;
        fits = record {
          hints = g.hints;
          numbers = n;
          small = a;
          is = ap (λ (x : ℕ). let t : ProofPart = record { kind = Implied; number = p.number; groups = record { target = x; hints = g.hints } ∷ [] } in t) z ∙ sym (hints-behind Implied p.number [] 0 [] g.hints);
        };
      }),
    )
proof-onward l s p v ns Implied (g ∷ h ∷ gs) a e = absurd a
proof-onward l s p v ns Pivot gs a e =
    let o : v ≡ 2 = cc in
    let n : ns ≡ groups_numbers gs ++ 0 ∷ [] = cc in (
      omega arith,
      inr (record {
        stage = stage.Targets;
        part = begun_part Pivot p.number;
        move = rw o refl;
        fits = record { groups = gs; numbers = n; small = a; is = sym (groups-behind Pivot p.number [] gs) };
      }),
    )
proof-onward l s p v ns Reach gs a e =
    let o : v ≡ 3 = cc in
    let n : ns ≡ 0 ∷ [] = cc in (
      omega arith,
      inr (record {
        stage = stage.Zero;
        part = begun_part Reach p.number;
        move = rw o refl;
        fits = record { numbers = n; is = ap (λ (x : List HintGroup). let t : ProofPart = record { kind = Reach; number = p.number; groups = x } in t) a };
      }),
    )

pub part-onward : (l : ℕ) (s : ProofStep) (p : ProofPart) (g : Stage) (v : ℕ) (ns : List ℕ) (t : ProofPart) → Fits g p (v ∷ ns) t → Onward l s p g v ns t
part-onward l s p stage.Number v ns t f =
    let e = f.numbers in
    let z : v ≡ f.number = cc in
    let n : ns ≡ f.rest = cc in
    let w : IsNumber v = subst IsNumber (sym z) f.small in (
      w.1,
      inr (record {
        stage = stage.Kind;
        part = begun_part Nothing v;
        move = positive l s p stage.Number v w;
        fits = record { number = f.proof.number ∙ sym z; groups = f.proof.groups; numbers = n ∙ f.proof.numbers };
      }),
    )
part-onward l s p stage.Kind v ns t f =
    subst (λ (m : ℕ). Onward l s p stage.Kind v ns (record { kind = t.kind; number = m; groups = t.groups })) (sym f.number)
    (proof-onward l s p v ns t.kind t.groups f.groups f.numbers)
part-onward l s p stage.Hints v ns t f = hints-onward l s p v ns t f.hints f.numbers f.small f.is
part-onward l s p stage.Targets v ns t f = targets-onward l s p v ns t f.groups f.numbers f.small f.is
part-onward l s p stage.GroupHints v ns t f = group-onward l s p v ns t f.hints f.groups f.numbers f.small_hints f.small_groups f.is
part-onward l s p stage.Zero v ns t f =
    let e = f.numbers in
    let z : v ≡ 0 = cc in
    let n : ns ≡ [] = cc in
    let i = f.is in
    (omega arith, inl (record { move = rw (z, i) refl; last = n }))

no-end : (xs ys : List ℕ) → [] ≡ xs ++ 0 ∷ ys → ⊥
no-end [] ys e = cc
no-end (x ∷ xs) ys e = cc

-- no proof part is over before its last 0
pub never-over : (p : ProofPart) (g : Stage) (t : ProofPart) → Fits g p [] t → ⊥
never-over p stage.Number t f = let e = f.numbers in cc
never-over p stage.Kind t f = no-end (proof_numbers t.kind t.groups) [] f.numbers
never-over p stage.Hints t f = no-end f.hints [] f.numbers
never-over p stage.Targets t f = no-end (groups_numbers f.groups) [] f.numbers
never-over p stage.GroupHints t f = no-end f.hints (groups_numbers f.groups ++ 0 ∷ []) f.numbers
never-over p stage.Zero t f = let e = f.numbers in cc

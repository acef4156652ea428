-- The walk, one step further.
use Rattle.std.proofs.Common.{◌≡◌, ◌≢◌, ◌⊎◌, ℕ, zero, suc, ◌+◌, ◌-◌, ◌<◌, ◌≤◌, Bool, true, false, eqb, List, [], ◌∷◌, ◌++◌, length, get_or, set, refl, sym, ap, ◌∙◌, subst, inl, inr, arith, Option, Some, None}
use Rattle.std.specs.Option.{option_to_list}
use Rattle.std.proofs.lemmas.List.{get_or_default, length-set, get_or-set_same, get_or-set_other, get_or_past, length_push, get_or_append_left, get_or_push}
use Rattle.std.proofs.lemmas.Bool.{cases_lt, both_ways, cases_Bool, cases_eq}
use Rattle.q_logic.specs.Prelude.{Gate}
use Rattle.q_gates.specs.Gates.{no_gate}
use Rattle.q_gates.specs.Uses.{Parts, parts_of, part_at, Uses, DependsOn, direct, further, AreDefined, IsOrder, IsFullOrder}
use Rattle.q_gates.specs.Sorting.{is_marked, unmarked_count, IsWalk}

pub set-same : (ms : List Bool) (g : ℕ) → g < length ms → is_marked (set ms g true) g ≡ true
set-same ms g lt = get_or-set_same ms g true false lt

pub set-kept : (ms : List Bool) (g x : ℕ) → g < length ms → is_marked ms x ≡ true → is_marked (set ms g true) x ≡ true
set-kept ms g x lt e = elim (cases_eq x g) [
  | inl q ↦ subst (λ (y : ℕ). is_marked (set ms g true) y ≡ true) (sym q) (set-same ms g lt)
  | inr n ↦ get_or-set_other ms g x true false n ∙ e
]

-- up the stack
up : (ps : Parts) (stack : List ℕ) (i n : ℕ) → ((j : ℕ) → j + 1 < length stack → Uses ps (get_or stack j 0) (get_or stack (j + 1) 0)) → i + suc n < length stack → DependsOn ps (get_or stack i 0) (get_or stack (i + suc n) 0)
up ps stack i zero c lt =
    let z : i + 1 ≡ i + suc 0 = omega arith in
    subst (λ (k : ℕ). DependsOn ps (get_or stack i 0) (get_or stack k 0)) z (direct (get_or stack (i + 1) 0) (c i (omega arith)))
up ps stack i (suc n) c lt =
    let z : i + suc n + 1 ≡ i + suc (suc n) = omega arith in
    let r = up ps stack i n c (omega arith) in
    subst (λ (k : ℕ). DependsOn ps (get_or stack i 0) (get_or stack k 0)) z (further (get_or stack (i + suc n) 0) (get_or stack (i + suc n + 1) 0) r (c (i + suc n) (omega arith)))

-- an open gate that is met again depends on itself
pub walk-cycle : (ps : Parts) (opened closed : List Bool) (stack order : List ℕ) (t h : ℕ) → IsWalk ps opened closed stack order → t + 1 ≡ length stack → Uses ps (get_or stack t 0) h → is_marked opened h ≡ true → is_marked closed h ≡ false → (g : ℕ) × (g < length ps) × DependsOn ps g g
walk-cycle ps opened closed stack order t h w e u o c =
    let s = w.on_stack h o c in
    let i : ℕ = s.0 in
    let lt : s.0 < length stack = s.1 in
    let below : h < length ps = subst (λ (x : ℕ). x < length ps) s.2 (w.stacked s.0 s.1).2 in
    elim (cases_lt s.0 t) [
      | inl a ↦
          let z : s.0 + suc (t - s.0 - 1) ≡ t = omega arith in
          let d : DependsOn ps (get_or stack s.0 0) (get_or stack t 0) = subst (λ (k : ℕ). DependsOn ps (get_or stack s.0 0) (get_or stack k 0)) z (up ps stack s.0 (t - s.0 - 1) w.chain (omega arith)) in
          let d2 : DependsOn ps h (get_or stack t 0) = subst (λ (x : ℕ). DependsOn ps x (get_or stack t 0)) s.2 d in
          (h, below, further (get_or stack t 0) h d2 u)
      | inr a ↦
          let z : s.0 ≡ t = omega arith in
          let q : get_or stack t 0 ≡ h = subst (λ (k : ℕ). get_or stack k 0 ≡ h) z s.2 in
          (h, below, direct h (subst (λ (x : ℕ). Uses ps x h) q u))
    ]

-- a gate comes onto the stack
pub walk-push : (ps : Parts) (opened closed : List Bool) (stack order : List ℕ) (h : ℕ) → IsWalk ps opened closed stack order → h < length ps → is_marked opened h ≡ false → is_marked closed h ≡ false → ((t : ℕ) → t + 1 ≡ length stack → Uses ps (get_or stack t 0) h) → IsWalk ps (set opened h true) closed (stack ++ h ∷ []) order
walk-push ps opened closed stack order h w lt o c u =
    let len = length_push stack h in
    let lo = length-set opened h true in
    let ro : length opened ≡ length ps = w.opened_room in
    let lt2 : h < length opened = omega arith in
    let early : (i : ℕ) → i < length stack → get_or (stack ++ h ∷ []) i 0 ≡ get_or stack i 0 = λ i b. get_or_append_left stack (h ∷ []) 0 i b in
    let last : (i : ℕ) → length stack ≡ i → get_or (stack ++ h ∷ []) i 0 ≡ h = λ i b. get_or_push stack h 0 i b in
    let fresh : (i : ℕ) → i < length stack → get_or stack i 0 ≢ h = λ i b q. both_ways (is_marked opened h) o (subst (λ (x : ℕ). is_marked opened x ≡ true) q (w.stacked i b).0) in
    record {
      opened_room = omega arith;
      closed_room = w.closed_room;
      on_stack = λ g a b. elim (cases_eq g h) [
        | inl q ↦ (length stack, omega arith, last (length stack) refl ∙ sym q)
        | inr n ↦
            let s = w.on_stack g (sym (get_or-set_other opened h g true false n) ∙ a) b in
            let sl : s.0 < length stack = s.1 in
            (s.0, omega arith, early s.0 s.1 ∙ s.2)
      ];
      stacked = λ i b. elim (cases_lt i (length stack)) [
        | inl a ↦
            let s = w.stacked i a in
            subst (λ (x : ℕ). (is_marked (set opened h true) x ≡ true) × (is_marked closed x ≡ false) × (x < length ps)) (sym (early i a)) (set-kept opened h (get_or stack i 0) lt2 s.0, s.1, s.2)
        | inr a ↦ subst (λ (x : ℕ). (is_marked (set opened h true) x ≡ true) × (is_marked closed x ≡ false) × (x < length ps)) (sym (last i (omega arith))) (set-same opened h lt2, c, lt)
      ];
      apart = λ i j bi bj e. elim (cases_lt i (length stack)) [
        | inl a ↦ elim (cases_lt j (length stack)) [
          | inl b ↦ w.apart i j a b (sym (early i a) ∙ e ∙ early j b)
          | inr b ↦ absurd (fresh i a (sym (early i a) ∙ e ∙ last j (omega arith)))
        ]
        | inr a ↦ elim (cases_lt j (length stack)) [
          | inl b ↦ absurd (fresh j b (sym (early j b) ∙ sym e ∙ last i (omega arith)))
          | inr b ↦ omega arith
        ]
      ];
      chain = λ i b. elim (cases_lt (i + 1) (length stack)) [
        | inl a ↦ subst (λ (x : ℕ). Uses ps x (get_or (stack ++ h ∷ []) (i + 1) 0)) (sym (early i (omega arith))) (subst (Uses ps (get_or stack i 0)) (sym (early (i + 1) a)) (w.chain i a))
        | inr a ↦ subst (λ (x : ℕ). Uses ps x (get_or (stack ++ h ∷ []) (i + 1) 0)) (sym (early i (omega arith))) (subst (Uses ps (get_or stack i 0)) (sym (last (i + 1) (omega arith))) (u i (omega arith)))
      ];
      ordered = w.ordered;
      listed = w.listed;
      listed_closed = w.listed_closed;
      closed_opened = λ g e. set-kept opened h g lt2 (w.closed_opened g e);
    }

-- the last gate of the stack is closed
pub walk-pop : (ps : Parts) (opened closed : List Bool) (stack order : List ℕ) (t : ℕ) → IsWalk ps opened closed (stack ++ t ∷ []) order → ((h : ℕ) → Uses ps t h → is_marked closed h ≡ true) → IsWalk ps opened (set closed t true) stack (order ++ t ∷ [])
walk-pop ps opened closed stack order t w d =
    let len = length_push stack t in
    let lenO = length_push order t in
    let lc = length-set closed t true in
    let rc : length closed ≡ length ps = w.closed_room in
    let early : (i : ℕ) → i < length stack → get_or (stack ++ t ∷ []) i 0 ≡ get_or stack i 0 = λ i b. get_or_append_left stack (t ∷ []) 0 i b in
    let top : get_or (stack ++ t ∷ []) (length stack) 0 ≡ t = get_or_push stack t 0 (length stack) refl in
    let ts = w.stacked (length stack) (omega arith) in
    let tl : t < length ps = subst (λ (x : ℕ). x < length ps) top ts.2 in
    let tlc : t < length closed = omega arith in
    let tc : is_marked closed t ≡ false = subst (λ (x : ℕ). is_marked closed x ≡ false) top ts.1 in
    let to : is_marked opened t ≡ true = subst (λ (x : ℕ). is_marked opened x ≡ true) top ts.0 in
    let other : (i : ℕ) → i < length stack → get_or stack i 0 ≢ t = λ i b q. absurd (let e : i ≡ length stack = w.apart i (length stack) (omega arith) (omega arith) (early i b ∙ q ∙ sym top) in omega arith) in
    let oearly : (i : ℕ) → i < length order → get_or (order ++ t ∷ []) i 0 ≡ get_or order i 0 = λ i b. get_or_append_left order (t ∷ []) 0 i b in
    let olast : (i : ℕ) → length order ≡ i → get_or (order ++ t ∷ []) i 0 ≡ t = λ i b. get_or_push order t 0 i b in
    let unlisted : (i : ℕ) → i < length order → get_or order i 0 ≢ t = λ i b q. both_ways (is_marked closed t) tc (subst (λ (x : ℕ). is_marked closed x ≡ true) q (w.listed_closed i b)) in
    record {
      opened_room = w.opened_room;
      closed_room = omega arith;
      on_stack = λ g a b. elim (cases_eq g t) [
        | inl q ↦ absurd (both_ways (is_marked (set closed t true) g) b (subst (λ (x : ℕ). is_marked (set closed t true) x ≡ true) (sym q) (set-same closed t tlc)))
        | inr n ↦
            let s = w.on_stack g a (sym (get_or-set_other closed t g true false n) ∙ b) in
            let sl : s.0 < length (stack ++ t ∷ []) = s.1 in
            elim (cases_lt s.0 (length stack)) [
              | inl x ↦ (s.0, x, sym (early s.0 x) ∙ s.2)
              | inr x ↦ absurd (let e : s.0 ≡ length stack = omega arith in n (sym s.2 ∙ ap (λ (k : ℕ). get_or (stack ++ t ∷ []) k 0) e ∙ top))
            ]
      ];
      stacked = λ i b.
          let s = w.stacked i (omega arith) in
          let e = early i b in (
            subst (λ (x : ℕ). is_marked opened x ≡ true) e s.0,
            get_or-set_other closed t (get_or stack i 0) true false (other i b) ∙ subst (λ (x : ℕ). is_marked closed x ≡ false) e s.1,
            subst (λ (x : ℕ). x < length ps) e s.2,
          );
      apart = λ i j bi bj e. w.apart i j (omega arith) (omega arith) (early i bi ∙ e ∙ sym (early j bj));
      chain = λ i b. subst (λ (x : ℕ). Uses ps x (get_or stack (i + 1) 0)) (early i (omega arith)) (subst (Uses ps (get_or (stack ++ t ∷ []) i 0)) (early (i + 1) b) (w.chain i (omega arith)));
      ordered = record {
        once = λ i j bi bj e. elim (cases_lt i (length order)) [
          | inl a ↦ elim (cases_lt j (length order)) [
            | inl b ↦ w.ordered.once i j a b (sym (oearly i a) ∙ e ∙ oearly j b)
            | inr b ↦ absurd (unlisted i a (sym (oearly i a) ∙ e ∙ olast j (omega arith)))
          ]
          | inr a ↦ elim (cases_lt j (length order)) [
            | inl b ↦ absurd (unlisted j b (sym (oearly j b) ∙ sym e ∙ olast i (omega arith)))
            | inr b ↦ omega arith
          ]
        ];
        there = λ i b. elim (cases_lt i (length order)) [
          | inl a ↦ subst (λ (x : ℕ). x < length ps) (sym (oearly i a)) (w.ordered.there i a)
          | inr a ↦ subst (λ (x : ℕ). x < length ps) (sym (olast i (omega arith))) tl
        ];
        earlier = λ i h b u. elim (cases_lt i (length order)) [
          | inl a ↦
              let r = w.ordered.earlier i h a (subst (λ (x : ℕ). Uses ps x h) (oearly i a) u) in
              let rl : r.0 < i = r.1 in
              (r.0, r.1, oearly r.0 (omega arith) ∙ r.2)
          | inr a ↦
              let r = w.listed h (d h (subst (λ (x : ℕ). Uses ps x h) (olast i (omega arith)) u)) in
              let rl : r.0 < length order = r.1 in
              (r.0, omega arith, oearly r.0 r.1 ∙ r.2)
        ];
      };
      listed = λ g e. elim (cases_eq g t) [
        | inl q ↦ (length order, omega arith, olast (length order) refl ∙ sym q)
        | inr n ↦
            let r = w.listed g (sym (get_or-set_other closed t g true false n) ∙ e) in
            let rl : r.0 < length order = r.1 in
            (r.0, omega arith, oearly r.0 r.1 ∙ r.2)
      ];
      listed_closed = λ i b. elim (cases_lt i (length order)) [
        | inl a ↦ subst (λ (x : ℕ). is_marked (set closed t true) x ≡ true) (sym (oearly i a)) (set-kept closed t (get_or order i 0) tlc (w.listed_closed i a))
        | inr a ↦ subst (λ (x : ℕ). is_marked (set closed t true) x ≡ true) (sym (olast i (omega arith))) (set-same closed t tlc)
      ];
      closed_opened = λ g e. elim (cases_eq g t) [
        | inl q ↦ subst (λ (x : ℕ). is_marked opened x ≡ true) (sym q) to
        | inr n ↦ w.closed_opened g (sym (get_or-set_other closed t g true false n) ∙ e)
      ];
    }

-- where all gates are in order, none depends on itself
depends-earlier : (ps : Parts) (order : List ℕ) → IsOrder ps order → (i : ℕ) → i < length order → (g : ℕ) → g ≡ get_or order i 0 → (h : ℕ) → DependsOn ps g h → (j : ℕ) × (j < i) × (get_or order j 0 ≡ h)
depends-earlier ps order o i lt g e h (direct k u) = o.earlier i k lt (subst (λ (x : ℕ). Uses ps x k) e u)
depends-earlier ps order o i lt g e h (further m k d u) =
    let r = depends-earlier ps order o i lt g e m d in
    let rl : r.0 < i = r.1 in
    let s = o.earlier r.0 k (omega arith) (subst (λ (x : ℕ). Uses ps x k) (sym r.2) u) in
    let sl : s.0 < r.0 = s.1 in
    (s.0, omega arith, s.2)

-- what uses a gate is a gate
pub user-there : (ps : Parts) (g k : ℕ) → Uses ps g k → g < length ps
user-there ps g k u = go (cases_lt g (length ps))
  where
    none-some : (m : Option ℕ) (k : ℕ) → m ≡ None → m ≡ Some k → ⊥
    none-some m k a b = cc

    go : (g < length ps) ⊎ (length ps ≤ g) → g < length ps
    go (inl b) = b
    go (inr b) = absurd (elim u [
      | inl q ↦ let n : (part_at ps g).0 ≡ None = ap (λ (p : Gate). (parts_of p).0) (get_or_past ps g no_gate b) in none-some _ k n q
      | inr q ↦ let n : (part_at ps g).1 ≡ None = ap (λ (p : Gate). (parts_of p).1) (get_or_past ps g no_gate b) in none-some _ k n q
    ])

pub defined : (ps : Parts) (g h : ℕ) → DependsOn ps g h → g < length ps
defined ps g h (direct k u) = user-there ps g k u
defined ps g h (further m k d u) = defined ps g m d

pub sorted-acyclic : (ps : Parts) (order : List ℕ) → IsFullOrder ps order → (g : ℕ) → DependsOn ps g g → ⊥
sorted-acyclic ps order o g d =
    let r = o.all g (defined ps g g d) in
    let s = depends-earlier ps order o.sorted r.0 r.1 g (sym r.2) g d in
    let sl : s.0 < r.0 = s.1 in
    let sr : r.0 < length order = r.1 in
    let e : s.0 ≡ r.0 = o.sorted.once s.0 r.0 (omega arith) r.1 (s.2 ∙ sym r.2) in
    omega arith

pub unmarked-set : (ms : List Bool) (g : ℕ) → g < length ms → is_marked ms g ≡ false → unmarked_count (set ms g true) + 1 ≡ unmarked_count ms
unmarked-set [] g lt e = absurd (omega arith)
unmarked-set (true ∷ ms) zero lt e = absurd (both_ways true e refl)
unmarked-set (false ∷ ms) zero lt e = refl
unmarked-set (true ∷ ms) (suc g) lt e = unmarked-set ms g (omega arith) e
unmarked-set (false ∷ ms) (suc g) lt e = let h = unmarked-set ms g (omega arith) e in omega arith

pub walk-none : (ps : Parts) (opened closed : List Bool) → length opened ≡ length ps → length closed ≡ length ps → ((g : ℕ) → is_marked opened g ≡ false) → ((g : ℕ) → is_marked closed g ≡ false) → IsWalk ps opened closed [] []
walk-none ps opened closed lo lc uo uc = record {
  opened_room = lo;
  closed_room = lc;
  on_stack = λ g a b. absurd (both_ways (is_marked opened g) (uo g) a);
  stacked = λ i b. absurd (omega arith);
  apart = λ i j b c e. absurd (omega arith);
  chain = λ i b. absurd (omega arith);
  ordered = record { once = λ i j b c e. absurd (omega arith); there = λ i b. absurd (omega arith); earlier = λ i h b u. absurd (omega arith) };
  listed = λ g a. absurd (both_ways (is_marked closed g) (uc g) a);
  listed_closed = λ i b. absurd (omega arith);
  closed_opened = λ g a. absurd (both_ways (is_marked closed g) (uc g) a);
}

-- with nothing on the stack what is opened is closed
pub walk-full : (ps : Parts) (opened closed : List Bool) (order : List ℕ) → IsWalk ps opened closed [] order → ((g : ℕ) → g < length ps → is_marked opened g ≡ true) → IsFullOrder ps order
walk-full ps opened closed order w all = record {
  sorted = w.ordered;
  all = λ g lt. elim (cases_Bool (is_marked closed g)) [
    | inl e ↦ w.listed g e
    | inr e ↦ absurd (let s = w.on_stack g (all g lt) e in let sl : s.0 < 0 = s.1 in omega arith)
  ];
}

pub top-is : (stack : List ℕ) (n t : ℕ) (b : Bool) → n ≡ length stack → b ≡ eqb n 0 → b ≡ false → t ≡ get_or stack (n - 1) t → (k : ℕ) × (k + 1 ≡ length stack) × (get_or stack k 0 ≡ t)
top-is stack n t b e f g h =
    let z : eqb n 0 ≡ false = sym f ∙ g in
    let nz : 1 ≤ n = positive n z in
    (n - 1, omega arith, get_or_default stack (n - 1) 0 t (omega arith) ∙ sym h)
  where
    positive : (n : ℕ) → eqb n 0 ≡ false → 1 ≤ n
    positive zero z = absurd (both_ways true z refl)
    positive (suc n) z = omega arith

pub top-there : (ps : Parts) (opened closed : List Bool) (stack order : List ℕ) (t : ℕ) → IsWalk ps opened closed stack order → (k : ℕ) × (k + 1 ≡ length stack) × (get_or stack k 0 ≡ t) → t < length ps
top-there ps opened closed stack order t w k = let e : k.0 + 1 ≡ length stack = k.1 in subst (λ (x : ℕ). x < length ps) k.2 (w.stacked k.0 (omega arith)).2

pub push-next : (ps : Parts) (opened closed : List Bool) (stack stack2 order : List ℕ) (t h : ℕ) → AreDefined ps → IsWalk ps opened closed stack order → (k : ℕ) × (k + 1 ≡ length stack) × (get_or stack k 0 ≡ t) → Uses ps t h → is_marked opened h ≡ false → is_marked closed h ≡ false → stack2 ≡ stack ++ h ∷ [] → IsWalk ps (set opened h true) closed stack2 order
push-next ps opened closed stack stack2 order t h a w k u o c e =
    let lt = a t h (top-there ps opened closed stack order t w k) u in
    subst (λ (s : List ℕ). IsWalk ps (set opened h true) closed s order) (sym e)
    (walk-push ps opened closed stack order h w lt o c (λ j q. let ke : k.0 + 1 ≡ length stack = k.1 in let z : k.0 ≡ j = omega arith in subst (λ (x : ℕ). Uses ps x h) (sym (ap (λ (i : ℕ). get_or stack i 0) (sym z) ∙ k.2)) u))

pub cycle-met : (ps : Parts) (opened closed : List Bool) (stack order : List ℕ) (t h : ℕ) → IsWalk ps opened closed stack order → (k : ℕ) × (k + 1 ≡ length stack) × (get_or stack k 0 ≡ t) → Uses ps t h → is_marked opened h ≡ true → is_marked closed h ≡ false → (g : ℕ) × (g < length ps) × DependsOn ps g g
cycle-met ps opened closed stack order t h w k u o c = walk-cycle ps opened closed stack order k.0 h w k.1 (subst (λ (x : ℕ). Uses ps x h) (sym k.2) u) o c

pub kept-set : (opened0 opened : List Bool) (h : ℕ) → h < length opened → ((g : ℕ) → is_marked opened0 g ≡ true → is_marked opened g ≡ true) → (g : ℕ) → is_marked opened0 g ≡ true → is_marked (set opened h true) g ≡ true
kept-set opened0 opened h lt k g e = set-kept opened h g lt (k g e)

-- what is popped is the top
pub popped-same : (a : List ℕ) (r : Option ℕ) (stack : List ℕ) (k t : ℕ) → stack ≡ a ++ option_to_list r → k + 1 ≡ length stack → get_or stack k 0 ≡ t → r ≡ Some (get_or stack k 0) → stack ≡ a ++ t ∷ []
popped-same a r stack k t e l g q = e ∙ ap (λ (m : Option ℕ). a ++ option_to_list m) (q ∙ ap Some g)

pub pop-top : (ps : Parts) (opened closed : List Bool) (stack stack2 order order2 : List ℕ) (t : ℕ) (r : Option ℕ) → IsWalk ps opened closed stack order → (k : ℕ) × (k + 1 ≡ length stack) × (get_or stack k 0 ≡ t) → ((h : ℕ) → Uses ps t h → is_marked closed h ≡ true) → stack ≡ stack2 ++ option_to_list r → ((k : ℕ) → k + 1 ≡ length stack → r ≡ Some (get_or stack k 0)) → order2 ≡ order ++ t ∷ [] → IsWalk ps opened (set closed t true) stack2 order2
pop-top ps opened closed stack stack2 order order2 t r w k d e q eo =
    let s : stack ≡ stack2 ++ t ∷ [] = popped-same stack2 r stack k.0 t e k.1 k.2 (q k.0 k.1) in
    subst (IsWalk ps opened (set closed t true) stack2) (sym eo) (walk-pop ps opened closed stack2 order t (subst (λ (x : List ℕ). IsWalk ps opened closed x order) s w) d)

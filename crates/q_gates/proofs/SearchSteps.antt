-- The search, one step further.
use Rattle.std.proofs.Common.{◌≡◌, ◌⊎◌, ℕ, ◌+◌, ◌<◌, Bool, true, false, eqb, List, [], ◌∷◌, ◌++◌, length, get_or, set, refl, sym, ap, ◌∙◌, subst, inl, inr, arith, Option, Some}
use Rattle.std.proofs.lemmas.List.{length-set, get_or-set_other, length_push, get_or_append_left, get_or_push}
use Rattle.std.proofs.lemmas.Bool.{cases_lt, both_ways, cases_eq}
use Rattle.q_gates.specs.Uses.{Parts, Uses, DependsOn, direct, further, AreDefined}
use Rattle.q_gates.specs.Sorting.{is_marked}
use Rattle.q_gates.specs.Spreading.{IsSpent, IsSpread, IsStacked}
use Rattle.std.specs.Option.{option_to_list}
use Rattle.q_gates.proofs.GateWalk.{set-kept, set-same, defined, popped-same}

pub spread-mark : (ps : Parts) (k : ℕ) (marks : List Bool) (stack stack2 : List ℕ) (g h : ℕ) → IsSpread ps k marks stack g → (g ≡ k) ⊎ DependsOn ps k g → Uses ps g h → h < length ps → stack2 ≡ stack ++ h ∷ [] → IsSpread ps k (set marks h true) stack2 g
spread-mark ps k marks stack stack2 g h s from u lt e =
    let len = length_push stack h in
    let l = length-set marks h true in
    let r : length marks ≡ length ps = s.room in
    let hl : h < length marks = omega arith in
    let d : DependsOn ps k h = elim from [
      | inl q ↦ direct h (subst (λ (x : ℕ). Uses ps x h) q u)
      | inr q ↦ further g h q u
    ] in
    subst (λ (st : List ℕ). IsSpread ps k (set marks h true) st g) (sym e) (record {
      room = omega arith;
      reached = λ x m. elim (cases_eq x h) [
        | inl q ↦ subst (DependsOn ps k) (sym q) d
        | inr n ↦ s.reached x (sym (get_or-set_other marks h x true false n) ∙ m)
      ];
      stacked = λ i b. elim (cases_lt i (length stack)) [
        | inl a ↦ subst (λ (x : ℕ). is_marked (set marks h true) x ≡ true) (sym (get_or_append_left stack (h ∷ []) 0 i a)) (set-kept marks h (get_or stack i 0) hl (s.stacked i a))
        | inr a ↦ subst (λ (x : ℕ). is_marked (set marks h true) x ≡ true) (sym (get_or_push stack h 0 i (omega arith))) (set-same marks h hl)
      ];
      spent = λ x m. elim (cases_eq x h) [
        | inl q ↦ inl (length stack, omega arith, get_or_push stack h 0 (length stack) refl ∙ sym q)
        | inr n ↦ elim (s.spent x (elim m [ inl a ↦ inl a | inr b ↦ inr (sym (get_or-set_other marks h x true false n) ∙ b) ])) [
          | inl a ↦ inl (a.0, (let al : a.0 < length stack = a.1 in omega arith), get_or_append_left stack (h ∷ []) 0 a.0 a.1 ∙ a.2)
          | inr a ↦ inr (elim a [ inl y ↦ inl y | inr y ↦ inr (λ z v. set-kept marks h z hl (y z v)) ])
        ]
      ];
    })

pub spread-stacked : (ps : Parts) (k : ℕ) (marks : List Bool) (stack : List ℕ) (g : ℕ) → IsSpread ps k marks stack g → IsSpent ps marks g → IsStacked ps k marks stack
spread-stacked ps k marks stack g s d = record {
  room = s.room;
  reached = s.reached;
  stacked = s.stacked;
  spent = λ x m. elim (s.spent x m) [
    | inl a ↦ inl a
    | inr a ↦ inr (elim a [ inl q ↦ subst (IsSpent ps marks) (sym q) d | inr y ↦ y ])
  ];
}

pub spread-none : (ps : Parts) (k : ℕ) (marks : List Bool) → length marks ≡ length ps → ((g : ℕ) → is_marked marks g ≡ false) → IsSpread ps k marks [] k
spread-none ps k marks l un = record {
  room = l;
  reached = λ x m. absurd (both_ways (is_marked marks x) (un x) m);
  stacked = λ i b. absurd (omega arith);
  spent = λ x m. inr (inl (elim m [ inl q ↦ q | inr b ↦ absurd (both_ways (is_marked marks x) (un x) b) ]));
}

pub stacked-pop : (ps : Parts) (k : ℕ) (marks : List Bool) (stack stack2 : List ℕ) (t : ℕ) → IsStacked ps k marks stack → stack ≡ stack2 ++ t ∷ [] → IsSpread ps k marks stack2 t × DependsOn ps k t
stacked-pop ps k marks stack stack2 t s e =
    let s2 : IsStacked ps k marks (stack2 ++ t ∷ []) = subst (IsStacked ps k marks) e s in
    let len = length_push stack2 t in
    let top : get_or (stack2 ++ t ∷ []) (length stack2) 0 ≡ t = get_or_push stack2 t 0 (length stack2) refl in (
      record {
        room = s2.room;
        reached = s2.reached;
        stacked = λ i b. subst (λ (x : ℕ). is_marked marks x ≡ true) (get_or_append_left stack2 (t ∷ []) 0 i b) (s2.stacked i (omega arith));
        spent = λ x m. elim (s2.spent x m) [
          | inl a ↦
              let al : a.0 < length (stack2 ++ t ∷ []) = a.1 in
              elim (cases_lt a.0 (length stack2)) [
                | inl b ↦ inl (a.0, b, sym (get_or_append_left stack2 (t ∷ []) 0 a.0 b) ∙ a.2)
                | inr b ↦ inr (inl (let z : a.0 ≡ length stack2 = omega arith in sym a.2 ∙ ap (λ (i : ℕ). get_or (stack2 ++ t ∷ []) i 0) z ∙ top))
              ]
          | inr a ↦ inr (inr a)
        ];
      },
      s2.reached t (subst (λ (x : ℕ). is_marked marks x ≡ true) top (s2.stacked (length stack2) (omega arith))),
    )

-- all that k depends on was marked
pub stacked-all : (ps : Parts) (k : ℕ) (marks : List Bool) → IsStacked ps k marks [] → (h : ℕ) → DependsOn ps k h → is_marked marks h ≡ true
stacked-all ps k marks s h (direct j u) = elim (s.spent k (inl refl)) [
  | inl a ↦ absurd (let al : a.0 < 0 = a.1 in omega arith)
  | inr a ↦ a j u
]
stacked-all ps k marks s h (further m j d u) =
    let r : is_marked marks m ≡ true = stacked-all ps k marks s m d in
    elim (s.spent m (inr r)) [
      | inl a ↦ absurd (let al : a.0 < 0 = a.1 in omega arith)
      | inr a ↦ a j u
    ]

pub target-there : (ps : Parts) → AreDefined ps → (g h : ℕ) → DependsOn ps g h → h < length ps
target-there ps a g h (direct k u) = a g k (defined ps g k (direct k u)) u
target-there ps a g h (further m k d u) = a m k (target-there ps a g m d) u

pub pop-spread : (ps : Parts) (k : ℕ) (marks marks2 : List Bool) (stack stack2 : List ℕ) (t : ℕ) (r : Option ℕ) → IsStacked ps k marks stack → marks2 ≡ marks → (j : ℕ) × (j + 1 ≡ length stack) × (get_or stack j 0 ≡ t) → stack ≡ stack2 ++ option_to_list r → ((j : ℕ) → j + 1 ≡ length stack → r ≡ Some (get_or stack j 0)) → IsSpread ps k marks2 stack2 t × DependsOn ps k t
pop-spread ps k marks marks2 stack stack2 t r s em j e q =
    let st : stack ≡ stack2 ++ t ∷ [] = popped-same stack2 r stack j.0 t e j.1 j.2 (q j.0 j.1) in
    let p = stacked-pop ps k marks stack stack2 t s st in
    (subst (λ (m : List Bool). IsSpread ps k m stack2 t) (sym em) p.0, p.1)

pub top-depends : (ps : Parts) (k : ℕ) (marks : List Bool) (stack : List ℕ) (t : ℕ) → IsStacked ps k marks stack → (j : ℕ) × (j + 1 ≡ length stack) × (get_or stack j 0 ≡ t) → DependsOn ps k t
top-depends ps k marks stack t s j = let e : j.0 + 1 ≡ length stack = j.1 in s.reached t (subst (λ (x : ℕ). is_marked marks x ≡ true) j.2 (s.stacked j.0 (omega arith)))

pub nothing-left : (stack : List ℕ) (n : ℕ) (b : Bool) → n ≡ length stack → b ≡ eqb n 0 → b ≡ true → stack ≡ []
nothing-left [] n b e f g = refl
nothing-left (x ∷ stack) n b e f g = absurd (let z : eqb n 0 ≡ true = sym f ∙ g in let y : n ≡ 0 = grind arith in omega arith)

-- Lines by their numbers, and the cone of the end.
use Rattle.std.proofs.Common.{◌≡◌, ◌↔◌, ℕ, zero, suc, ◌+◌, ◌-◌, ◌<◌, ◌≤◌, ◌==◌, Bool, true, false, eqb, nat_lt, List, [], ◌∷◌, ◌++◌, ◌⊎◌, inl, inr, length, take, replicate, get_or, set, length-set, arith, refl, sym, ap, ◌∙◌, subst, slice_get, Option, Some, None, get_or-set_same, get_or-set_other}
use Rattle.std.specs.Option.{option_map}
use Rattle.std.proofs.lemmas.List.{length-map}
use Rattle.std.proofs.lemmas.Bool.{cases_eq}
use Rattle.std.proofs.lemmas.Option.{slice_get_within, slice_get-map}
use Rattle.q_logic.specs.Prelude.{Literal}
use Rattle.q_derive.specs.Traces.{Entry, none, one, two, earlier, InCone, end, further, IsEnd, IsNamed}
use Rattle.q_qrp.specs.Lines.{Line, AreRising, row_of, literals_of}
use Rattle.q_qrp.specs.declared.trace.Row.{Row}
use Rattle.q_resolve.specs.Judged.{entry_of, entries_of, sources_in, IsEndUpto, IsEndOf, AreCone, AreClear, AreMarkedBy}
use Rattle.q_resolve.proofs.Deriving.{earlier-there}

-- lines and entries
pub entry-at : (lines : List Line) (i : ℕ) (l : Line) → slice_get lines i ≡ Some l → slice_get (entries_of lines) i ≡ Some (entry_of l)
entry-at lines i l h = slice_get-map entry_of lines i ∙ ap (option_map entry_of) h

pub entry-from : (lines : List Line) (i : ℕ) (e : Entry) → slice_get (entries_of lines) i ≡ Some e →
    (l : Line) × (slice_get lines i ≡ Some l) × (e ≡ entry_of l)
entry-from lines i e h = go (slice_get lines i) refl (sym (slice_get-map entry_of lines i) ∙ h)
  where
    go : (o : Option Line) → slice_get lines i ≡ o → option_map entry_of o ≡ Some e → (l : Line) × (slice_get lines i ≡ Some l) × (e ≡ entry_of l)
    go None p q = absurd (cc)
    go (Some l) p q = (l, p, cc)

pub line-there : (lines : List Line) (i : ℕ) (r : Row) → Some r ≡ row_of (slice_get lines i) → (l : Line) × (slice_get lines i ≡ Some l) × (l.row ≡ r)
line-there lines i r h = go (slice_get lines i) refl h
  where
    go : (o : Option Line) → slice_get lines i ≡ o → Some r ≡ row_of o → (l : Line) × (slice_get lines i ≡ Some l) × (l.row ≡ r)
    go None p q = absurd (cc)
    go (Some l) p q = (l, p, cc)

pub entries-length : (lines : List Line) → length (entries_of lines) ≡ length lines
entries-length lines = length-map lines entry_of

-- halving
pub place-yes : (es : List Entry) (n i a : ℕ) (e : Entry) → i < n → slice_get es i ≡ Some e → e.number ≡ a →
    ((j : ℕ) → (x : Entry) → j < i → slice_get es j ≡ Some x → x.number ≡ a → ⊥) → earlier es n a ≡ Some i
place-yes [] n i a e l h m f = absurd (let z = slice_get_within {A = Entry} [] i e h in omega arith)
place-yes (x ∷ es) zero i a e l h m f = absurd (omega arith)
place-yes (x ∷ es) (suc n) zero a e l h m f = let z : x ≡ e = cc in let b : eqb x.number a ≡ true = subst (λ (y : Entry). eqb y.number a ≡ true) (sym z) (grind arith) in rw b refl
place-yes (x ∷ es) (suc n) (suc i) a e l h m f =
    let b : eqb x.number a ≡ false = first (eqb x.number a) refl in
    rw (b, place-yes es n i a e (omega arith) h m (λ j y k q. f (suc j) y (omega arith) q)) refl
  where
    first : (b : Bool) → eqb x.number a ≡ b → b ≡ false
    first true q = absurd (f 0 x (omega arith) refl (grind arith))
    first false q = refl

pub place-no : (es : List Entry) (n a : ℕ) → ((j : ℕ) → (x : Entry) → j < n → slice_get es j ≡ Some x → x.number ≡ a → ⊥) → earlier es n a ≡ None
place-no [] zero a f = refl
place-no [] (suc n) a f = refl
place-no (x ∷ es) zero a f = refl
place-no (x ∷ es) (suc n) a f =
    let b : eqb x.number a ≡ false = first (eqb x.number a) refl in
    rw (b, place-no es n a (λ j y k q. f (suc j) y (omega arith) q)) refl
  where
    first : (b : Bool) → eqb x.number a ≡ b → b ≡ false
    first true q = absurd (f 0 x (omega arith) refl (grind arith))
    first false q = refl

pub found-at : (lines : List Line) (n i a : ℕ) (l : Line) → i < n → slice_get lines i ≡ Some l → l.row.id ≡ a →
    ((j : ℕ) → (x : Line) → j < i → slice_get lines j ≡ Some x → x.row.id < a) → earlier (entries_of lines) n a ≡ Some i
found-at lines n i a l lt h m f =
    place-yes (entries_of lines) n i a (entry_of l) lt (entry-at lines i l h) m
    (λ j x k q e. let r = entry-from lines j x q in let z = f j r.0 k r.1 in let w : x.number ≡ r.0.row.id = ap (λ (y : Entry). y.number) r.2 in omega arith)

pub found-not : (lines : List Line) (n a : ℕ) → ((j : ℕ) → (x : Line) → j < n → slice_get lines j ≡ Some x → x.row.id ≡ a → ⊥) →
    earlier (entries_of lines) n a ≡ None
found-not lines n a f =
    place-no (entries_of lines) n a
    (λ j x k q e. let r = entry-from lines j x q in f j r.0 k r.1 (sym (ap (λ (y : Entry). y.number) r.2) ∙ e))

-- the last empty line
pub end-more : (es : List Entry) (n : ℕ) (o : Option ℕ) (e : Entry) → slice_get es n ≡ Some e → (e.literals ≡ [] → ⊥) → IsEndUpto es n o → IsEndUpto es (n + 1) o
end-more es n None e h f w = step
  where
    step : (i : ℕ) → i < n + 1 → (x : Entry) → slice_get es i ≡ Some x → x.literals ≡ [] → ⊥
    step i l x q z = go (eqb i n) refl
      where
        go : (b : Bool) → eqb i n ≡ b → ⊥
        go true y = let s : i ≡ n = grind arith in let t : x ≡ e = (let v : Some x ≡ Some e = sym q ∙ ap (slice_get es) s ∙ h in cc) in
            f (subst (λ (u : Entry). u.literals ≡ []) t z)
        go false y = w i (grind arith) x q z
end-more es n (Some m) e h f (l, x, w) = (omega arith, x, step)
  where
    step : (i : ℕ) → m < i → i < n + 1 → (x : Entry) → slice_get es i ≡ Some x → x.literals ≡ [] → ⊥
    step i a l x q z = go (eqb i n) refl
      where
        go : (b : Bool) → eqb i n ≡ b → ⊥
        go true y = let s : i ≡ n = grind arith in let t : x ≡ e = (let v : Some x ≡ Some e = sym q ∙ ap (slice_get es) s ∙ h in cc) in
            f (subst (λ (u : Entry). u.literals ≡ []) t z)
        go false y = w i a (grind arith) x q z

pub end-new : (es : List Entry) (n : ℕ) (e : Entry) → slice_get es n ≡ Some e → e.literals ≡ [] → IsEndUpto es (n + 1) (Some n)
end-new es n e h z = (omega arith, (e, h, z), λ i a b x q w. omega arith)

pub end-last : (es : List Entry) (n : ℕ) (o : Option ℕ) → length es ≤ n → IsEndUpto es n o → IsEndOf es o
end-last es n None le w = λ i e h. w i (let z = slice_get_within es i e h in omega arith) e h
end-last es n (Some m) le (l, x, w) = (
  record { empty = x; last = λ i a e h. w i a (let z = slice_get_within es i e h in omega arith) e h },
  slice_get_within es m x.0 x.1,
)

-- marks
pub record IsMarkedDown (es : List Entry) (top back : ℕ) (marks : List Bool) : Type 0 where
  pub size : length marks ≡ length es
  pub first : get_or marks top false ≡ true
  pub sound : (i : ℕ) → get_or marks i false ≡ true → InCone es i
  pub closed : (m : ℕ) → top < m + back → m ≤ top → get_or marks m false ≡ true → (e : Entry) → slice_get es m ≡ Some e →
      (a i : ℕ) → IsNamed e.sources a → earlier es m a ≡ Some i → get_or marks i false ≡ true

pub marked-one : (es : List Entry) (n a i : ℕ) (old : List Bool) → earlier es n a ≡ Some i → i < length old →
    AreMarkedBy es n (one a) old (set old i true)
marked-one es n a i old h lt = (length-set old i true, both)
  where
    both : (j : ℕ) → (get_or (set old i true) j false ≡ true) ↔ ((get_or old j false ≡ true) ⊎ ((b : ℕ) × IsNamed (one a) b × (earlier es n b ≡ Some j)))
    both j = elim (cases_eq i j) [
      | inl e ↦ (
        λ m. inr (a, refl, h ∙ ap Some e),
        λ m. subst (λ k. get_or (set old i true) k false ≡ true) e (get_or-set_same old i true false lt),
      )
      | inr f ↦
          let other = get_or-set_other old i j true false (λ e. f (sym e)) in (
            λ m. inl (sym other ∙ m),
            λ m. elim m [
              | inl k ↦ other ∙ k
              | inr (b, s, q) ↦ absurd (f (let z : earlier es n b ≡ Some i = subst (λ x. earlier es n x ≡ Some i) s h in let w : Some i ≡ Some j = sym z ∙ q in cc))
            ],
          )
    ]

pub marked-none : (es : List Entry) (n a : ℕ) (old : List Bool) → earlier es n a ≡ None → AreMarkedBy es n (one a) old old
marked-none es n a old h = (
  refl,
  λ j. (
    λ m. inl m,
    λ m. elim m [
      | inl k ↦ k
      | inr (b, s, q) ↦ absurd (let z : earlier es n b ≡ None = subst (λ x. earlier es n x ≡ None) s h in let w : None ≡ Some j = sym z ∙ q in cc)
    ],
  ),
)

pub marked-nothing : (es : List Entry) (n : ℕ) (old : List Bool) → AreMarkedBy es n none old old
marked-nothing es n old = (refl, λ j. (λ m. inl m, λ m. elim m [ inl k ↦ k | inr (b, s, q) ↦ absurd s ]))

pub marked-two : (es : List Entry) (n a b : ℕ) (old mid new : List Bool) → AreMarkedBy es n (one a) old mid → AreMarkedBy es n (one b) mid new →
    AreMarkedBy es n (two a b) old new
marked-two es n a b old mid new f g = (
  g.0 ∙ f.0,
  λ j. (
    λ m. elim ((g.1 j).0 m) [
      | inl k ↦ elim ((f.1 j).0 k) [ inl i ↦ inl i | inr (x, s, q) ↦ inr (x, inl s, q) ]
      | inr (x, s, q) ↦ inr (x, inr s, q)
    ],
    λ m. elim m [
      | inl k ↦ (g.1 j).1 (inl ((f.1 j).1 (inl k)))
      | inr (x, s, q) ↦ elim s [
        | inl t ↦ (g.1 j).1 (inl ((f.1 j).1 (inr (x, t, q))))
        | inr t ↦ (g.1 j).1 (inr (x, t, q))
      ]
    ],
  ),
)

pub marked-start : (es : List Entry) (top : ℕ) (marks : List Bool) → IsEnd es top → length marks ≡ length es → top < length marks →
    ((i : ℕ) → get_or marks i false ≡ false) → IsMarkedDown es top 0 (set marks top true)
marked-start es top marks e size lt clear = record {
  size = length-set marks top true ∙ size;
  first = get_or-set_same marks top true false lt;
  sound = λ i m. elim (cases_eq top i) [
    | inl q ↦ subst (InCone es) q (end top e)
    | inr f ↦ absurd (let z : get_or (set marks top true) i false ≡ get_or marks i false = get_or-set_other marks top i true false (λ q. f (sym q)) in let y = clear i in cc)
  ];
  closed = λ m l k. absurd (omega arith);
}

pub marked-skip : (es : List Entry) (top back n : ℕ) (marks : List Bool) → n + back ≡ top → get_or marks n false ≡ false →
    IsMarkedDown es top back marks → IsMarkedDown es top (back + 1) marks
marked-skip es top back n marks s f h = record {
  size = h.size;
  first = h.first;
  sound = h.sound;
  closed = λ m l k t e q a i d r. elim (cases_eq m n) [
    | inl z ↦ absurd (let y : get_or marks n false ≡ true = subst (λ x. get_or marks x false ≡ true) z t in cc)
    | inr z ↦ h.closed m (let w : (m ≡ n) → ⊥ = z in grind arith) k t e q a i d r
  ];
}

pub marked-down : (es : List Entry) (top back n : ℕ) (old new : List Bool) → n + back ≡ top → n < length es → get_or old n false ≡ true →
    IsMarkedDown es top back old → AreMarkedBy es n (sources_in (slice_get es n)) old new → IsMarkedDown es top (back + 1) new
marked-down es top back n old new s lt t h g = record {
  size = g.0 ∙ h.size;
  first = (g.1 top).1 (inl h.first);
  sound = λ i m. elim ((g.1 i).0 m) [
    | inl k ↦ h.sound i k
    | inr (a, d, r) ↦ named (slice_get es n) refl i a d r
  ];
  closed = λ m l k u e q a i d r. elim (cases_eq m n) [
    | inl z ↦ (g.1 i).1 (inr (a, subst (λ o. IsNamed (sources_in o) a) (sym (ap (slice_get es) (sym z) ∙ q)) d, subst (λ x. earlier es x a ≡ Some i) z r))
    | inr z ↦ (g.1 i).1 (inl (h.closed m (let w : (m ≡ n) → ⊥ = z in grind arith) k (before m u (let w : (m ≡ n) → ⊥ = z in grind arith)) e q a i d r))
  ];
}
  where
    named : (o : Option Entry) → slice_get es n ≡ o → (i a : ℕ) → IsNamed (sources_in (slice_get es n)) a → earlier es n a ≡ Some i → InCone es i
    named None q i a d r = absurd (subst (λ x. IsNamed (sources_in x) a) q d)
    named (Some e) q i a d r = further i e a (h.sound n t) q (subst (λ x. IsNamed (sources_in x) a) q d) r

    before : (m : ℕ) → get_or new m false ≡ true → n < m → get_or old m false ≡ true
    before m u l = elim ((g.1 m).0 u) [
      | inl k ↦ k
      | inr (a, d, r) ↦ absurd (let z = (earlier-there es n a m r).0 in omega arith)
    ]

same-end : (es : List Entry) (m n : ℕ) → IsEnd es m → IsEnd es n → m ≡ n
same-end es m n a b = go (eqb m n) refl
  where
    apart : (m ≡ n → ⊥) → ⊥
    apart f = elim (sides) [
      | inl l ↦ a.last n l b.empty.0 b.empty.1 b.empty.2
      | inr l ↦ b.last m l a.empty.0 a.empty.1 a.empty.2
    ]
      where
        sides : (m < n) ⊎ (n < m)
        sides = pick (nat_lt m n) refl
          where
            pick : (t : Bool) → nat_lt m n ≡ t → (m < n) ⊎ (n < m)
            pick true q = inl (grind arith)
            pick false q = inr (grind arith)

    go : (t : Bool) → eqb m n ≡ t → m ≡ n
    go true q = grind arith
    go false q = absurd (apart (λ e. grind arith))

pub marked-all : (es : List Entry) (top back : ℕ) (marks : List Bool) → IsEnd es top → top < back → IsMarkedDown es top back marks → AreCone es marks
marked-all es top back marks e le h = record {
  size = h.size;
  there = λ n. (h.sound n, λ c. (all n c).0);
}
  where
    all : (n : ℕ) → InCone es n → (get_or marks n false ≡ true) × (n ≤ top)
    all n (end m f) = let z : top ≡ n = same-end es top n e f in (subst (λ i. get_or marks i false ≡ true) z h.first, omega arith)
    all i (further m {n} x a c q d r) =
        let s = all n c in
        (h.closed n (omega arith) s.1 s.0 x q a m d r, let w = (earlier-there es n a m r).0 in let y = s.1 in omega arith)

-- literals of a line of the text
pub literals-there : (lines : List Line) (i : ℕ) (S : List Literal) → Some S ≡ literals_of (slice_get lines i) →
    (e : Entry) × (slice_get (entries_of lines) i ≡ Some e) × (e.literals ≡ S)
literals-there lines i S h = go (slice_get lines i) refl h
  where
    go : (o : Option Line) → slice_get lines i ≡ o → Some S ≡ literals_of o → (e : Entry) × (slice_get (entries_of lines) i ≡ Some e) × (e.literals ≡ S)
    go None p q = absurd (cc)
    go (Some l) p q = (entry_of l, entry-at lines i l p, cc)

pub nothing-is : (T : List Literal) → (length T == 0) ≡ true → T ≡ []
nothing-is [] h = refl
nothing-is (k ∷ T) h = absurd (let z : (length (k ∷ T) == 0) ≡ false = grind arith in cc)

pub something-is : (T : List Literal) → (length T == 0) ≡ false → T ≡ [] → ⊥
something-is [] h e = cc
something-is (k ∷ T) h e = cc

-- a row without marks
clear-replicate : (n i : ℕ) → get_or (replicate n false) i false ≡ false
clear-replicate zero zero = refl
clear-replicate zero (suc i) = refl
clear-replicate (suc n) zero = refl
clear-replicate (suc n) (suc i) = clear-replicate n i

size-replicate : (n : ℕ) → length (replicate n false) ≡ n
size-replicate zero = refl
size-replicate (suc n) = let z = size-replicate n in omega arith

no-take : (n : ℕ) → take {A = Bool} n [] ≡ []
no-take zero = refl
no-take (suc n) = refl

pub clear-is : (n m : ℕ) (old xs : List Bool) → old ≡ [] → m ≡ 0 → xs ≡ take n old ++ replicate (n - m) false → AreClear n xs
clear-is n m old xs o z e =
    let s : xs ≡ replicate n false = e ∙ ap (λ ys. take n ys ++ replicate (n - m) false) o ∙ ap (λ (ys : List Bool). ys ++ replicate (n - m) false) (no-take n) ∙ ap (λ k. replicate k false) (let y : n - m ≡ n = omega arith in y) in
    record { size = ap length s ∙ size-replicate n; clear = λ i. ap (λ ys. get_or ys i false) s ∙ clear-replicate n i }

pub found-not-at : (lines : List Line) (n a low : ℕ) (l : Line) → AreRising lines → slice_get lines low ≡ Some l → a ≤ l.row.id → (l.row.id ≡ a → ⊥) →
    ((j : ℕ) → (x : Line) → j < low → slice_get lines j ≡ Some x → x.row.id < a) → earlier (entries_of lines) n a ≡ None
found-not-at lines n a low l rise h le ne below = found-not lines n a none
  where
    none : (j : ℕ) → (x : Line) → j < n → slice_get lines j ≡ Some x → x.row.id ≡ a → ⊥
    none j x k q e = pick (nat_lt j low) refl (nat_lt low j) refl
      where
        pick : (s : Bool) → nat_lt j low ≡ s → (t : Bool) → nat_lt low j ≡ t → ⊥
        pick true p t r = let z = below j x (grind arith) q in omega arith
        pick false p true r = let z = rise low j l x (grind arith) h q in omega arith
        pick false p false r = let z : j ≡ low = grind arith in ne (ap (λ (y : Line). y.row.id) (let v : Some l ≡ Some x = sym h ∙ ap (slice_get lines) (sym z) ∙ q in let w : l ≡ x = cc in w) ∙ e)

-- Lines and words, cut at a place.
use Rattle.std.proofs.Common.{◌≡◌, ◌≢◌, ℕ, zero, suc, ◌+◌, ◌-◌, ◌*◌, ◌<◌, ◌≤◌, Bool, true, false, cond, eqb, min, List, [], ◌∷◌, ◌++◌, length, take, drop, get_or, refl, ap, sym, ◌∙◌, arith, subst, append_assoc, append-nil, add-one}
use Rattle.std.proofs.lemmas.Bool.{both_ways}
use Rattle.q_text.specs.Texts.{lines, onto_first, word_before}
use Rattle.q_aiger.specs.Lines.{is_blank, words_after, words, without_return, ended, lines_of, clipped}

lf-true : (b : ℕ) → b ≡ 10 → eqb b 10 ≡ true
lf-true b e = grind arith

lf-false : (b : ℕ) → b ≢ 10 → eqb b 10 ≡ false
lf-false b e = grind arith

pub lines-cut : (bs : List ℕ) (i : ℕ) → i < length bs → ((k : ℕ) → k < i → get_or bs k 0 ≢ 10) → get_or bs i 0 ≡ 10 → lines bs ≡ take i bs ∷ lines (drop (suc i) bs)
lines-cut [] i lt n e = absurd (omega arith)
lines-cut (b ∷ bs) zero lt n e = ap (λ t. cond t ([] ∷ lines bs) (onto_first b (lines bs))) (lf-true b e)
lines-cut (b ∷ bs) (suc i) lt n e =
    let h : lines bs ≡ take i bs ∷ lines (drop (suc i) bs) = lines-cut bs i (omega arith) (λ k l. n (suc k) (omega arith)) e in
    ap (λ t. cond t ([] ∷ lines bs) (onto_first b (lines bs))) (lf-false b (n 0 (omega arith))) ∙ ap (onto_first b) h

pub lines-whole : (bs : List ℕ) → ((k : ℕ) → k < length bs → get_or bs k 0 ≢ 10) → lines bs ≡ bs ∷ []
lines-whole [] n = refl
lines-whole (b ∷ bs) n =
    let h : lines bs ≡ bs ∷ [] = lines-whole bs (λ k l. n (suc k) (omega arith)) in
    ap (λ t. cond t ([] ∷ lines bs) (onto_first b (lines bs))) (lf-false b (n 0 (omega arith))) ∙ ap (onto_first b) h

ended-onto : (l : List ℕ) (b : ℕ) (ls : List (List ℕ)) → ended (l ∷ onto_first b ls) ≡ without_return l ∷ ended (onto_first b ls)
ended-onto l b [] = refl
ended-onto l b (m ∷ ls) = refl

pub ended-more : (l bs : List ℕ) → ended (l ∷ lines bs) ≡ without_return l ∷ ended (lines bs)
ended-more l [] = refl
ended-more l (b ∷ bs) = go (eqb b 10)
  where
    go : (t : Bool) → ended (l ∷ cond t ([] ∷ lines bs) (onto_first b (lines bs))) ≡ without_return l ∷ ended (cond t ([] ∷ lines bs) (onto_first b (lines bs)))
    go true = refl
    go false = ended-onto l b (lines bs)

-- a line that an LF ends, and the last one
pub line-ended : (bs : List ℕ) (i : ℕ) (r : List ℕ) → i < length bs → ((k : ℕ) → k < i → get_or bs k 0 ≢ 10) → get_or bs i 0 ≡ 10 → r ≡ without_return (take i bs) → lines_of bs ≡ r ∷ lines_of (drop (i + 1) bs)
line-ended bs i r lt n e f = rw (add-one i) (ap ended (lines-cut bs i lt n e) ∙ (ended-more (take i bs) (drop (suc i) bs) ∙ ap (λ x. x ∷ ended (lines (drop (suc i) bs))) (sym f)))

drop-all : (xs : List ℕ) (i : ℕ) → i ≡ length xs → drop i xs ≡ []
drop-all [] zero h = refl
drop-all [] (suc i) h = refl
drop-all (x ∷ xs) zero h = absurd (omega arith)
drop-all (x ∷ xs) (suc i) h = drop-all xs i (omega arith)

pub line-last : (bs : List ℕ) (i : ℕ) → bs ≢ [] → i ≡ length bs → ((k : ℕ) → k < i → get_or bs k 0 ≢ 10) → lines_of bs ≡ bs ∷ lines_of (drop i bs)
line-last [] i ne e n = absurd (ne refl)
line-last (b ∷ bs) i ne e n =
    ap ended (lines-whole (b ∷ bs) (λ k l. n k (omega arith))) ∙ ap (λ x. (b ∷ bs) ∷ lines_of x) (sym (drop-all (b ∷ bs) i e))

pub return-cut : (l : List ℕ) (n : ℕ) → n + 1 ≡ length l → get_or l n 0 ≡ 13 → take n l ≡ without_return l
return-cut [] n lt e = absurd (omega arith)
return-cut (b ∷ []) zero lt e = let t : eqb b 13 ≡ true = grind arith in ap (λ x. cond x [] (b ∷ [])) (sym t)
return-cut (b ∷ []) (suc n) lt e = absurd (omega arith)
return-cut (b ∷ c ∷ bs) zero lt e = absurd (omega arith)
return-cut (b ∷ c ∷ bs) (suc n) lt e = ap (λ x. b ∷ x) (return-cut (c ∷ bs) n (omega arith) e)

pub return-none : (l : List ℕ) (n : ℕ) → (0 < length l → n + 1 ≡ length l) → (0 < length l → get_or l n 0 ≢ 13) → l ≡ without_return l
return-none [] n at ne = refl
return-none (b ∷ []) zero at ne = let no : b ≢ 13 = ne (omega arith) in let t : eqb b 13 ≡ false = grind arith in ap (λ x. cond x [] (b ∷ [])) (sym t)
return-none (b ∷ []) (suc n) at ne = absurd (let e = at (omega arith) in omega arith)
return-none (b ∷ c ∷ bs) zero at ne = absurd (let e = at (omega arith) in omega arith)
return-none (b ∷ c ∷ bs) (suc n) at ne = ap (λ x. b ∷ x) (return-none (c ∷ bs) n (λ lt. let e = at (omega arith) in omega arith) (λ lt. ne (omega arith)))

-- what is left behind a place, all of it
pub take-rest : (xs : List ℕ) (n i : ℕ) → n ≡ length xs → take (n - i) (drop i xs) ≡ drop i xs
take-rest [] n zero e = all [] (n - 0) (omega arith)
  where
    all : (ys : List ℕ) (k : ℕ) → k ≡ length ys → take k ys ≡ ys
    all [] zero e = refl
    all [] (suc k) e = refl
    all (y ∷ ys) zero e = absurd (omega arith)
    all (y ∷ ys) (suc k) e = ap (λ z. y ∷ z) (all ys k (omega arith))
take-rest [] n (suc i) e = let z : n - suc i ≡ 0 = omega arith in ap (λ k. take k []) z
take-rest (x ∷ xs) n zero e = all (x ∷ xs) (n - 0) (omega arith)
  where
    all : (ys : List ℕ) (k : ℕ) → k ≡ length ys → take k ys ≡ ys
    all [] zero e = refl
    all [] (suc k) e = refl
    all (y ∷ ys) zero e = absurd (omega arith)
    all (y ∷ ys) (suc k) e = ap (λ z. y ∷ z) (all ys k (omega arith))
take-rest (x ∷ xs) n (suc i) e =
    let z : n - suc i ≡ length xs - i = omega arith in
    ap (λ k. take k (drop i xs)) z ∙ take-rest xs (length xs) i refl

words-skip : (l : List ℕ) (i : ℕ) → i ≤ length l → ((k : ℕ) → k < i → is_blank (get_or l k 0) ≡ true) → words l ≡ words (drop i l)
words-skip l zero le n = refl
words-skip [] (suc i) le n = refl
words-skip (b ∷ l) (suc i) le n =
    ap (λ t. cond t (words_after [] l) (words_after (b ∷ []) l)) (n 0 (omega arith)) ∙ words-skip l i (omega arith) (λ k lt. n (suc k) (omega arith))

words-word : (w l : List ℕ) (i : ℕ) → i ≤ length l → ((k : ℕ) → k < i → is_blank (get_or l k 0) ≡ false) → (i < length l → is_blank (get_or l i 0) ≡ true) → words_after w l ≡ word_before (w ++ take i l) (words (drop i l))
words-word w [] zero le n f = ap (λ x. word_before x []) (sym (append-nil w))
words-word w [] (suc i) le n f = absurd (omega arith)
words-word w (b ∷ l) zero le n f =
    let t : is_blank b ≡ true = f (omega arith) in
    ap (λ x. cond x (word_before w (words_after [] l)) (words_after (w ++ b ∷ []) l)) t
    ∙ (ap (λ x. word_before x (words l)) (sym (append-nil w)) ∙ ap (λ x. word_before (w ++ []) (cond x (words_after [] l) (words_after (b ∷ []) l))) (sym t))
words-word w (b ∷ l) (suc i) le n f =
    ap (λ x. cond x (word_before w (words_after [] l)) (words_after (w ++ b ∷ []) l)) (n 0 (omega arith))
    ∙ (words-word (w ++ b ∷ []) l i (omega arith) (λ k lt. n (suc k) (omega arith)) (λ lt. f (omega arith))
    ∙ ap (λ x. word_before x (words (drop i l))) (append_assoc w (b ∷ []) (take i l)))

word-first : (l : List ℕ) (i : ℕ) → 0 < i → i ≤ length l → words l ≡ word_before (take i l) (words (drop i l)) → words l ≡ take i l ∷ words (drop i l)
word-first [] i lt le e = absurd (omega arith)
word-first (b ∷ l) zero lt le e = absurd (omega arith)
word-first (b ∷ l) (suc i) lt le e = e

-- the first word behind blanks, where there is one
pub word-cut : (l m : List ℕ) (j i : ℕ) → m ≡ drop j l → j ≤ length l → ((k : ℕ) → k < j → is_blank (get_or l k 0) ≡ true) → i ≤ length m → ((k : ℕ) → k < i → is_blank (get_or m k 0) ≡ false) → (i < length m → is_blank (get_or m i 0) ≡ true) → 0 < i → words l ≡ take i m ∷ words (drop i m)
word-cut l m j i e le n lei ni fi lt =
    words-skip l j le n ∙ (ap words (sym e) ∙ word-first m i lt lei (words-word [] m i lei ni fi))

drop-at : (l : List ℕ) (j : ℕ) → get_or (drop j l) 0 0 ≡ get_or l j 0
drop-at [] zero = refl
drop-at [] (suc j) = refl
drop-at (b ∷ l) zero = refl
drop-at (b ∷ l) (suc j) = drop-at l j

drop-below : (l : List ℕ) (j : ℕ) → 0 < length (drop j l) → j < length l
drop-below [] zero lt = lt
drop-below [] (suc j) lt = absurd (omega arith)
drop-below (b ∷ l) zero lt = lt
drop-below (b ∷ l) (suc j) lt = let h = drop-below l j lt in omega arith

pub words-none : (l m : List ℕ) (j i : ℕ) → m ≡ drop j l → j ≤ length l → ((k : ℕ) → k < j → is_blank (get_or l k 0) ≡ true) → (j < length l → is_blank (get_or l j 0) ≡ false) → (i < length m → is_blank (get_or m i 0) ≡ true) → i ≡ 0 → words l ≡ []
words-none l m j i e le n a b z = words-skip l j le n ∙ (ap words (sym e) ∙ go m e (λ lt. subst (λ (k : ℕ). is_blank (get_or m k 0) ≡ true) z (b (omega arith))))
  where
    go : (m : List ℕ) → m ≡ drop j l → (0 < length m → is_blank (get_or m 0 0) ≡ true) → words m ≡ []
    go [] e b = refl
    go (c ∷ m) e b =
        let lt : 0 < length (drop j l) = subst (λ (x : List ℕ). 0 < length x) e (omega arith) in
        let f : is_blank (get_or l j 0) ≡ false = a (drop-below l j lt) in
        let at : c ≡ get_or l j 0 = ap (λ (x : List ℕ). get_or x 0 0) e ∙ drop-at l j in
        absurd (both_ways (is_blank c) (subst (λ (x : ℕ). is_blank x ≡ false) (sym at) f) (b (omega arith)))

pub positive : (n : ℕ) (b : Bool) → b ≡ eqb n 0 → b ≡ false → 0 < n
positive zero b e f = absurd (both_ways b f e)
positive (suc n) b e f = omega arith

pub clipped-more : (n d : ℕ) → min (10 * clipped n + d) 576460752303423488 ≡ clipped (10 * n + d)
clipped-more n d = omega arith

pub not-empty : (xs : List ℕ) → 0 < length xs → xs ≢ []
not-empty xs lt e = let l : length xs ≡ 0 = ap length e in omega arith

-- The options of `disprove`.
use Rattle.std.proofs.Common.{◌≡◌, ◌∙◌, ℕ, Bool, true, false, cond, List, [], ◌∷◌, refl, sym, ap, arith, length, None, String, take, codes}
use Rattle.std.specs.declared.alloc.Global.{Global}
use Rattle.std.specs.Str.{bytes_eq}
use Rattle.q_app.specs.Operands.{texts}
use Rattle.q_app.specs.PartWords.{part_of}
use Rattle.q_app.specs.DisproveWords.{options_behind, options_of, read_as}
use Rattle.q_app.proofs.PartOptions.{many_parts}

pub no-options : (ws : List (List ℕ)) → length ws ≡ 0 → read_as false (part_of ws) ≡ options_of ws
unfolding options_of
no-options [] h = refl
no-options (w ∷ ws) h = absurd (omega arith)

-- the first word is `--binary`
pub binary-first : (w : List ℕ) (ws : List (List ℕ)) → bytes_eq w (codes "--binary") ≡ true → read_as true (part_of ws) ≡ options_of (w ∷ ws)
unfolding options_of
binary-first w ws e = ap (λ (b : Bool). cond b (read_as true (part_of ws)) (options_behind w ws)) (sym e)

-- the second
pub binary-last : (w v : List ℕ) → bytes_eq w (codes "--binary") ≡ false → bytes_eq v (codes "--binary") ≡ true → read_as true (part_of (w ∷ [])) ≡ options_of (w ∷ v ∷ [])
unfolding options_of
binary-last w v e f =
    ap (λ (b : Bool). cond b (read_as true (part_of (w ∷ []))) None) (sym f)
    ∙ ap (λ (b : Bool). cond b (read_as true (part_of (v ∷ []))) (options_behind w (v ∷ []))) (sym e)

-- none
pub no-binary : (w : List ℕ) (ws : List (List ℕ)) → bytes_eq w (codes "--binary") ≡ false → ((v : List ℕ) → ws ≡ v ∷ [] → bytes_eq v (codes "--binary") ≡ false) →
    read_as false (part_of (w ∷ ws)) ≡ options_of (w ∷ ws)
unfolding options_of
no-binary w ws e h =
    behind ws h ∙ ap (λ (b : Bool). cond b (read_as true (part_of ws)) (options_behind w ws)) (sym e)
  where
    behind : (vs : List (List ℕ)) → ((v : List ℕ) → vs ≡ v ∷ [] → bytes_eq v (codes "--binary") ≡ false) → read_as false (part_of (w ∷ vs)) ≡ options_behind w vs
    behind [] k = refl
    behind (v ∷ []) k =
        ap (read_as false) (sym (many_parts (w ∷ v ∷ []) (omega arith))) ∙ ap (λ (b : Bool). cond b (read_as true (part_of (w ∷ []))) None) (sym (k v refl))
    behind (v ∷ u ∷ vs) k = ap (read_as false) (sym (many_parts (w ∷ v ∷ u ∷ vs) (omega arith)))

-- the words before the second
pub front-word : (ws : List (String Global)) (v : List ℕ) (vs : List (List ℕ)) → texts ws ≡ v ∷ vs → texts (take 1 ws) ≡ v ∷ []
front-word [] v vs e = cc
front-word (w ∷ ws) v vs e = ap (take 1) e

second : List (List ℕ) → List ℕ
second [] = []
second (a ∷ []) = []
second (a ∷ b ∷ c) = b

-- of two words
pub two-there : (ws : List (List ℕ)) (v w : List ℕ) (vs : List (List ℕ)) → ws ≡ v ∷ w ∷ vs → length ws ≡ 2 → ws ≡ v ∷ w ∷ []
two-there ws v w [] e h = e
two-there ws v w (x ∷ vs) e h = absurd (let n : length ws ≡ length (v ∷ w ∷ x ∷ vs) = ap length e in omega (arith, n, h))

pub same-second : (ws us : List (List ℕ)) (v x u : List ℕ) (vs : List (List ℕ)) → ws ≡ v ∷ us → ws ≡ v ∷ x ∷ vs → us ≡ u ∷ [] → x ≡ u
unfolding second
same-second ws us v x u vs e f g = ap second (sym f ∙ (e ∙ ap (λ (t : List (List ℕ)). v ∷ t) g))

pub two-long : (ws us : List (List ℕ)) (v u : List ℕ) → ws ≡ v ∷ us → us ≡ u ∷ [] → length ws ≡ 2
two-long ws us v u e g = ap length e ∙ ap (λ (t : List (List ℕ)). length (v ∷ t)) g

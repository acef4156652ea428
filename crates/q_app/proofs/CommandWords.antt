-- The words of the command line.
use Rattle.std.proofs.Common.{◌≡◌, ◌≢◌, ◌≤◌, ◌<◌, ℕ, zero, suc, Bool, true, false, not, ◌&&◌, List, [], ◌∷◌, refl, sym, ap, ◌∙◌, subst, arith, length, get_or, drop, Option, Some, None, codes, String, string_bytes, drop-cons, take, ◌-◌, length-drop}
use Rattle.std.proofs.lemmas.List.{length-map}
use Rattle.std.proofs.Math.Seq.{take-length}
use Rattle.std.proofs.lemmas.Slice.Eq.{bytes_eq-Decides}
use Rattle.std.specs.declared.alloc.Global.{Global}
use Rattle.std.specs.Str.{bytes_eq}
use Rattle.q_app.specs.declared.settings.Settings.{Settings}
use Rattle.q_command.specs.Names.{ThreeNames, three}
use Rattle.q_app.specs.Words.{with_word, with_words, scale_of, generate_to, generate_of, demo_by, demo_of}
use Rattle.q_app.specs.Operands.{Differ, DifferFour, are_different, flag_in, fourth, is_fourth, just_three, texts, three_names, two_names}
use Rattle.q_app.specs.Commands.{by_verb, request, settings_behind, settings_in}

pub none-stays : (ws : List (List ℕ)) → None ≡ with_words None ws
none-stays [] = refl
none-stays (w ∷ ws) = none-stays ws

-- the settings behind one more word
pub next-word : (s : Option Settings) (ws : List (String Global)) (i : ℕ) (w : String Global) → i < length ws → w ≡ get_or ws i w → with_words s (texts (drop i ws)) ≡ with_words (with_word s (string_bytes w)) (texts (drop (suc i) ws))
next-word s ws i w h e =
    let d : drop i ws ≡ get_or ws i w ∷ drop (suc i) ws = drop-cons ws i w h in
    ap (λ (vs : List (String Global)). with_words s (texts vs)) d ∙ ap (λ (v : String Global). with_words (with_word s (string_bytes v)) (texts (drop (suc i) ws))) (sym e)

-- a word at a place
word_at : (ws : List (String Global)) (i : ℕ) (w : String Global) (v : List ℕ) → i < length ws → w ≡ get_or ws i w → v ≡ string_bytes w → texts (drop i ws) ≡ v ∷ texts (drop (suc i) ws)
word_at ws i w v h e q =
    let d : drop i ws ≡ get_or ws i w ∷ drop (suc i) ws = drop-cons ws i w h in
    ap texts d ∙ (ap (λ (x : String Global). string_bytes x ∷ texts (drop (suc i) ws)) (sym e) ∙ ap (λ (x : List ℕ). x ∷ texts (drop (suc i) ws)) (sym q))

pub one_word : (ws : List (String Global)) (a : String Global) (v : List ℕ) → 1 ≤ length ws → a ≡ get_or ws 0 a → v ≡ string_bytes a → texts ws ≡ v ∷ texts (drop 1 ws)
one_word ws a v h p x = word_at ws 0 a v (omega arith) p x

pub two_words : (ws : List (String Global)) (a b : String Global) (v w : List ℕ) → 2 ≤ length ws → a ≡ get_or ws 0 a → b ≡ get_or ws 1 b → v ≡ string_bytes a → w ≡ string_bytes b → texts ws ≡ v ∷ w ∷ texts (drop 2 ws)
two_words ws a b v w h p q x y = one_word ws a v (omega arith) p x ∙ ap (λ (t : List (List ℕ)). v ∷ t) (word_at ws 1 b w (omega arith) q y)

pub three_words : (ws : List (String Global)) (a b c : String Global) (i o l : List ℕ) → 3 ≤ length ws → a ≡ get_or ws 0 a → b ≡ get_or ws 1 b → c ≡ get_or ws 2 c → i ≡ string_bytes a → o ≡ string_bytes b → l ≡ string_bytes c → texts ws ≡ i ∷ o ∷ l ∷ texts (drop 3 ws)
three_words ws a b c i o l h p q r x y z = two_words ws a b i o (omega arith) p q x y ∙ ap (λ (t : List (List ℕ)). i ∷ o ∷ t) (word_at ws 2 c l (omega arith) r z)

none_left : (vs : List (String Global)) (n : ℕ) → length vs ≡ n → drop n vs ≡ []
none_left [] zero e = refl
none_left [] (suc n) e = cc
none_left (v ∷ vs) zero e = cc
none_left (v ∷ vs) (suc n) e = none_left vs n (omega arith)

pub all_three : (ws : List (String Global)) (a b c : String Global) (i o l : List ℕ) → length ws ≡ 3 → a ≡ get_or ws 0 a → b ≡ get_or ws 1 b → c ≡ get_or ws 2 c → i ≡ string_bytes a → o ≡ string_bytes b → l ≡ string_bytes c → texts ws ≡ i ∷ o ∷ l ∷ []
all_three ws a b c i o l h p q r x y z = three_words ws a b c i o l (omega arith) p q r x y z ∙ ap (λ (t : List (String Global)). i ∷ o ∷ l ∷ texts t) (none_left ws 3 h)

pub all_five : (ws : List (String Global)) (a b c d e : String Global) (i o l s t : List ℕ) → length ws ≡ 5 → a ≡ get_or ws 0 a → b ≡ get_or ws 1 b → c ≡ get_or ws 2 c → d ≡ get_or ws 3 d → e ≡ get_or ws 4 e →
    i ≡ string_bytes a → o ≡ string_bytes b → l ≡ string_bytes c → s ≡ string_bytes d → t ≡ string_bytes e → texts ws ≡ i ∷ o ∷ l ∷ s ∷ t ∷ []
all_five ws a b c d e i o l s t h p q r u v x y z f g =
    three_words ws a b c i o l (omega arith) p q r x y z ∙ (ap (λ (k : List (List ℕ)). i ∷ o ∷ l ∷ k) (word_at ws 3 d s (omega arith) u f)
    ∙ (ap (λ (k : List (List ℕ)). i ∷ o ∷ l ∷ s ∷ k) (word_at ws 4 e t (omega arith) v g) ∙ ap (λ (k : List (String Global)). i ∷ o ∷ l ∷ s ∷ t ∷ texts k) (none_left ws 5 h)))

pub texts-length : (ws : List (String Global)) → length (texts ws) ≡ length ws
texts-length ws = length-map ws _

-- the words behind a place
pub rest_of : (ws : List (String Global)) (n : ℕ) → texts (take (length ws - n) (drop n ws)) ≡ texts (drop n ws)
rest_of ws n = ap texts (subst (λ k. take k (drop n ws) ≡ drop n ws) (length-drop n ws) (take-length (drop n ws)))

-- too few words, or too many
pub no_words : (ws : List (List ℕ)) → length ws ≡ 0 → None ≡ request ws
unfolding request
no_words [] h = refl
no_words (w ∷ ws) h = absurd (omega arith)

pub few_names : (ws : List (List ℕ)) → length ws < 3 → None ≡ three_names ws
unfolding three_names
few_names [] h = refl
few_names (a ∷ []) h = refl
few_names (a ∷ b ∷ []) h = refl
few_names (a ∷ b ∷ c ∷ ws) h = absurd (omega arith)

pub not_three : (ws : List (List ℕ)) → length ws ≢ 3 → None ≡ generate_of ws
unfolding generate_of
not_three [] h = refl
not_three (a ∷ []) h = refl
not_three (a ∷ b ∷ []) h = refl
not_three (a ∷ b ∷ c ∷ []) h = absurd (h refl)
not_three (a ∷ b ∷ c ∷ d ∷ ws) h = refl

pub few_for_demo : (ws : List (List ℕ)) → length ws < 2 → None ≡ demo_of ws
unfolding demo_of
few_for_demo [] h = refl
few_for_demo (a ∷ []) h = refl
few_for_demo (a ∷ b ∷ ws) h = absurd (omega arith)

-- what the words ask for
pub request-is : (v : List ℕ) (ws : List (List ℕ)) → by_verb v ws ≡ request (v ∷ ws)
unfolding request
request-is v ws = refl

pub same_names : (i o l : List ℕ) (ws : List (List ℕ)) → are_different i o l ≡ false → None ≡ three_names (i ∷ o ∷ l ∷ ws)
unfolding three_names
same_names i o l ws e = rw e refl

pub other_names : (i o l : List ℕ) (ws : List (List ℕ)) → are_different i o l ≡ true → Some (three i o l, ws) ≡ three_names (i ∷ o ∷ l ∷ ws)
unfolding three_names
other_names i o l ws e = rw e refl

pub generate-is : (seed size o : List ℕ) → generate_to o (scale_of seed size) ≡ generate_of (seed ∷ size ∷ o ∷ [])
unfolding generate_of
generate-is seed size o = refl

pub generate-none : (seed size : List ℕ) (ws : List (List ℕ)) → None ≡ scale_of seed size → None ≡ generate_of (seed ∷ size ∷ ws)
unfolding generate_of
generate-none seed size [] e = refl
generate-none seed size (o ∷ []) e = ap (generate_to o) e
generate-none seed size (o ∷ w ∷ ws) e = refl

pub demo-is : (seed size : List ℕ) (ws : List (List ℕ)) → demo_by (scale_of seed size) (just_three (three_names ws)) ≡ demo_of (seed ∷ size ∷ ws)
unfolding demo_of
demo-is seed size ws = refl

last_not : (a b c : Bool) → c ≡ true → not a && not b && not c ≡ true → ⊥
last_not true b c e f = cc
last_not false true c e f = cc
last_not false false true e f = cc
last_not false false false e f = cc

-- names that differ are not equal
first_not : (a b c : Bool) → a ≡ true → not a && not b && not c ≡ true → ⊥
first_not true b c e f = cc
first_not false b c e f = cc

second_not : (a b c : Bool) → b ≡ true → not a && not b && not c ≡ true → ⊥
second_not true b c e f = cc
second_not false true c e f = cc
second_not false false c e f = cc

pub differ : (i o l : List ℕ) → are_different i o l ≡ true → Differ (three i o l)
differ i o l h = record {
  input_output = λ e. first_not (bytes_eq i o) (bytes_eq i l) (bytes_eq o l) ((bytes_eq-Decides i o).1 e) h;
  input_log = λ e. second_not (bytes_eq i o) (bytes_eq i l) (bytes_eq o l) ((bytes_eq-Decides i l).1 e) h;
  output_log = λ e. last_not (bytes_eq i o) (bytes_eq i l) (bytes_eq o l) ((bytes_eq-Decides o l).1 e) h;
}

-- two names, and what stands behind them
pub few_for_two : (ws : List (List ℕ)) → length ws < 2 → None ≡ two_names ws
unfolding two_names
few_for_two [] h = refl
few_for_two (a ∷ []) h = refl
few_for_two (a ∷ b ∷ ws) h = absurd (omega arith)

pub two-same : (a b : List ℕ) (ws : List (List ℕ)) → bytes_eq a b ≡ true → None ≡ two_names (a ∷ b ∷ ws)
unfolding two_names
two-same a b ws e = rw e refl

pub two-other : (a b : List ℕ) (ws : List (List ℕ)) → bytes_eq a b ≡ false → Some (a, b, ws) ≡ two_names (a ∷ b ∷ ws)
unfolding two_names
two-other a b ws e = rw e refl

-- one word that may stand there
pub only_word : (ws : List (String Global)) (a : String Global) (v : List ℕ) → length ws ≡ 1 → a ≡ get_or ws 0 a → v ≡ string_bytes a → texts ws ≡ v ∷ []
only_word ws a v h p x = one_word ws a v (omega arith) p x ∙ ap (λ (t : List (String Global)). v ∷ texts t) (none_left ws 1 h)

pub no_flag : (flag : List ℕ) (ws : List (List ℕ)) → length ws ≡ 0 → Some false ≡ flag_in flag ws
unfolding flag_in
no_flag flag [] h = refl
no_flag flag (w ∷ ws) h = absurd (omega arith)

pub more_words : (flag : List ℕ) (ws : List (List ℕ)) → 1 < length ws → None ≡ flag_in flag ws
unfolding flag_in
more_words flag [] h = absurd (omega arith)
more_words flag (w ∷ []) h = absurd (omega arith)
more_words flag (w ∷ v ∷ ws) h = refl

pub flag-set : (flag w : List ℕ) → bytes_eq w flag ≡ true → Some true ≡ flag_in flag (w ∷ [])
unfolding flag_in
flag-set flag w e = rw e refl

pub flag-other : (flag w : List ℕ) → bytes_eq w flag ≡ false → None ≡ flag_in flag (w ∷ [])
unfolding flag_in
flag-other flag w e = rw e refl

-- a fourth name behind three
pub fourth-none : None ≡ fourth None
unfolding fourth
fourth-none = refl

pub fourth-few : (n : ThreeNames) (ws : List (List ℕ)) → length ws < 1 → None ≡ fourth (Some (n, ws))
unfolding fourth
fourth-few n [] h = refl
fourth-few n (w ∷ ws) h = absurd (omega arith)

pub fourth-same : (n : ThreeNames) (w : List ℕ) (ws : List (List ℕ)) → is_fourth n w ≡ false → None ≡ fourth (Some (n, w ∷ ws))
unfolding fourth
fourth-same n w ws e = rw e refl

pub fourth-other : (n : ThreeNames) (w : List ℕ) (ws : List (List ℕ)) → is_fourth n w ≡ true → Some (n, w, ws) ≡ fourth (Some (n, w ∷ ws))
unfolding fourth
fourth-other n w ws e = rw e refl

pub differ-four : (n : ThreeNames) (w : List ℕ) → n.output ≢ n.log → is_fourth n w ≡ true → DifferFour n w
differ-four n w h e = record {
  output_log = h;
  input_last = λ x. first_not (bytes_eq n.input w) (bytes_eq n.output w) (bytes_eq n.log w) ((bytes_eq-Decides n.input w).1 x) e;
  output_last = λ x. second_not (bytes_eq n.input w) (bytes_eq n.output w) (bytes_eq n.log w) ((bytes_eq-Decides n.output w).1 x) e;
  log_last = λ x. last_not (bytes_eq n.input w) (bytes_eq n.output w) (bytes_eq n.log w) ((bytes_eq-Decides n.log w).1 x) e;
}

-- the settings of `simplify`
pub no_settings : (ws : List (List ℕ)) → length ws ≡ 0 → None ≡ settings_in ws
unfolding settings_in
no_settings [] h = refl
no_settings (w ∷ ws) h = absurd (omega arith)

pub other_verb : (v : List ℕ) (ws : List (List ℕ)) → bytes_eq v (codes "simplify") ≡ false → None ≡ settings_in (v ∷ ws)
unfolding settings_in
other_verb v ws e = rw e refl

pub verb_simplify : (v : List ℕ) (ws : List (List ℕ)) → bytes_eq v (codes "simplify") ≡ true → settings_behind (three_names ws) ≡ settings_in (v ∷ ws)
unfolding settings_in
verb_simplify v ws e = rw e refl

-- what a test of two words says by its negation
pub unlike : (b r : Bool) → r ≡ not b → r ≡ true → b ≡ false
unlike true r e f = cc
unlike false r e f = refl

pub alike : (b r : Bool) → r ≡ not b → r ≡ false → b ≡ true
alike true r e f = refl
alike false r e f = cc

-- The option that asks for a part.
use Rattle.std.proofs.Common.{◌≡◌, ◌<◌, ◌+◌, ◌-◌, ◌∙◌, ℕ, suc, ◌==◌, List, [], ◌∷◌, refl, ap, subst, arith, length, length-drop, take, drop, Option, Some, None, option_map, position}
use Rattle.std.proofs.Math.Seq.{take-length}
use Rattle.q_command.specs.declared.part.Part.{Part}
use Rattle.q_app.specs.Words.{number_of}
use Rattle.q_app.specs.PartWords.{part_at, part_by, part_in, part_of, part_of_option}

-- what is behind a place
pub rest_behind : (text : List ℕ) (k : ℕ) → take (length text - (k + 1)) (drop (k + 1) text) ≡ drop (suc k) text
rest_behind text k =
    let z : k + 1 ≡ suc k = omega arith in
    subst (λ n. take n (drop (k + 1) text) ≡ drop (k + 1) text) (length-drop (k + 1) text) (take-length (drop (k + 1) text)) ∙ ap (λ n. drop n text) z

-- two numbers round a slash
pub part-found : (text : List ℕ) (k i n : ℕ) (r : Option Part) → Some k ≡ position (λ b. b == 47) text → Some i ≡ number_of 4294967295 (take k text) → Some n ≡ number_of 4294967295 (drop (suc k) text) → r ≡ part_by (Some i) (Some n) → r ≡ part_in text
part-found text k i n r p a b q =
    q ∙ (ap (λ (o : Option ℕ). part_by o (Some n)) a ∙ (ap (λ (o : Option ℕ). part_by (number_of 4294967295 (take k text)) o) b ∙ ap (part_at text) p))

-- one word, or none
pub no_part : (ws : List (List ℕ)) → length ws ≡ 0 → Some None ≡ part_of ws
unfolding part_of
no_part [] h = refl
no_part (w ∷ ws) h = absurd (omega arith)

pub many_parts : (ws : List (List ℕ)) → 1 < length ws → None ≡ part_of ws
unfolding part_of
many_parts [] h = absurd (omega arith)
many_parts (w ∷ []) h = absurd (omega arith)
many_parts (w ∷ v ∷ ws) h = refl

pub one_part : (w : List ℕ) → option_map Some (part_of_option w) ≡ part_of (w ∷ [])
unfolding part_of
one_part w = refl

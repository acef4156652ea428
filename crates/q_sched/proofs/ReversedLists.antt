-- The last of a list is the first of its reverse.
use Rattle.std.proofs.Common.{◌≡◌, ◌<◌, ◌+◌, ◌∙◌, sym, ap, arith, ℕ, Bool, suc, List, [], ◌∷◌, ◌++◌, length, take, drop, reverse, get_or, set, drop-cons}
use Rattle.std.proofs.lemmas.List.{take-append-drop, length-take-le, reverse-append}
use Rattle.std.proofs.Math.Seq.{set-append_seam}
use Rattle.std.proofs.Math.ListN.{drop_of_length-le}
use Rattle.q_sched.specs.declared.guide.Proposal.{Proposal}
use Rattle.q_logic.specs.Prelude.{Rose}
use Rattle.q_sched.specs.Drives.{Meaning, AsksOne}
use Rattle.q_sched.specs.Meanings.{meanings}

whole : {B : Type 0} (items : List B) (n : ℕ) (b : B) → n + 1 ≡ length items → b ≡ get_or items n b → items ≡ take n items ++ b ∷ []
whole items n b len is =
    let lt : n < length items = omega arith in
    let end : drop (suc n) items ≡ [] = drop_of_length-le items {i = suc n} (omega arith) in
    sym (take-append-drop n items) ∙ ap (λ t. take n items ++ t) (drop-cons items n b lt ∙ ap (λ x. x ∷ drop (suc n) items) (sym is) ∙ ap (λ t. b ∷ t) end)

changed : {B : Type 0} (items : List B) (n : ℕ) (b w : B) → n + 1 ≡ length items → b ≡ get_or items n b → set items n w ≡ take n items ++ w ∷ []
changed items n b w len is =
    let k : length (take n items) ≡ n = length-take-le n items (omega arith) in
    ap (λ t. set t n w) (whole items n b len is) ∙ ap (λ j. set (take n items ++ b ∷ []) j w) (sym k) ∙ set-append_seam (take n items) b [] w

pub asks_last : {B : Type 0} (asked : B → ℕ) (last : B → Proposal) (heard : B → Bool) (items : List B) (n : ℕ) (b w : B) (P : Meaning → Type 0) → n + 1 ≡ length items → b ≡ get_or items n b → Rose (asked b) (asked w) → P (record { asked = asked w; last = last w; heard = heard w }) → AsksOne (meanings asked last heard (reverse items)) (meanings asked last heard (reverse (set items n w))) P
asks_last asked last heard items n b w P len is rose p =
    let front = take n items in
    let was : reverse items ≡ b ∷ reverse front = ap reverse (whole items n b len is) ∙ reverse-append front (b ∷ []) in
    let now : reverse (set items n w) ≡ w ∷ reverse front = ap reverse (changed items n b w len is) ∙ reverse-append front (w ∷ []) in
    record {
      first = record { asked = asked b; last = last b; heard = heard b };
      then = record { asked = asked w; last = last w; heard = heard w };
      rest = meanings asked last heard (reverse front);
      was = ap (meanings asked last heard) was;
      is = ap (meanings asked last heard) now;
      rises = rose;
      holds = p;
    }

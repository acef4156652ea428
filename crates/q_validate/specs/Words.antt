-- Words with a bit for each node of a subtree.
use Rattle.std.specs.Prelude.{◌≡◌, ◌<◌, ◌/◌, ◌%◌, ℕ, zero, suc, Bool, cond, eqb, nat_lt, List, [], ◌∷◌, ◌++◌, Option}
use Rattle.std.specs.Int.{bit_at}
use Rattle.q_logic.specs.Branches.{is_zero, is_one}
use Rattle.q_validate.specs.declared.words.Known.{Known}
use Rattle.std.proofs.Common.{ap, ◌∙◌}

abbrev pub bit : ℕ → ℕ → Bool
bit word m = eqb (bit_at word m) 1

-- the values on the way from the root to a node, which is at most so deep
abbrev pub path_within : ℕ → ℕ → List Bool
path_within zero m = []
path_within (suc depth) m = cond (nat_lt m 2) [] (path_within depth (m / 2) ++ eqb (m % 2) 1 ∷ [])

unfoldable pub path_to : ℕ → List Bool
path_to m = path_within 6 m

-- the nodes of the word are those at which this holds
abbrev pub Marks : ℕ → (ℕ → Bool) → Type 0
Marks word f = (m : ℕ) → m < 64 → bit word m ≡ f m

-- what is known at each node
pub record Tells (k : Known) (f : List Bool → Option Bool) : Type 0 where
  pub zeros : Marks k.zero (λ m. is_zero (f (path_to m)))
  pub ones : Marks k.one (λ m. is_one (f (path_to m)))

pub tells_same : (k : Known) (f g : List Bool → Option Bool) → Tells k f → ((w : List Bool) → f w ≡ g w) → Tells k g
tells_same k f g t e = record {
  zeros = λ m l. t.zeros m l ∙ ap is_zero (e (path_to m));
  ones = λ m l. t.ones m l ∙ ap is_one (e (path_to m));
}

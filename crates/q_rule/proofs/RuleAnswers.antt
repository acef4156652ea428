-- What a crate of rules answers, by what its steps have made of a kernel and its search has found.
use Rattle.std.proofs.Common.{◌≡◌, ◌≤◌, ◌↔◌, ℕ, Bool, Option, Result, Ok, Err, IfOk, IsTrue, refl}
use Rattle.q_logic.specs.declared.rule_bounds.Bounds.{Bounds}
use Rattle.q_logic.specs.Prelude.{Target, place, Fits}
use Rattle.q_kernel.specs.Prelude.{Seen, SameView, slots, Applies}
use Rattle.q_kernel.specs.declared.taken.Taken.TheVariants.{Yes, No}
use Rattle.q_rule.specs.Becoming.{HasResult}
use Rattle.q_rule.specs.Searching.{Tries, Finds, IsFound}
use Rattle.q_rule.proofs.RuleResults.{taken}

yes-no : Yes ≡ No → ⊥
yes-no e = cc

pub tries-no : (B : Bounds) (k : Seen) (t : Target) → (Applies B k t → ⊥) → SameView k k → Tries B k k t No
tries-no B k t n v = record {
  applies = ((λ e. absurd (yes-no (cc))), (λ a. absurd (n a)));
  yes = λ e. absurd (yes-no (cc));
  no = λ e. v;
}

pub tries-yes : (B : Bounds) (old mid new : Seen) (t : Target) → Applies B old t → SameView old mid → HasResult mid new t → Tries B old new t Yes
tries-yes B old mid new t a v h = record {
  applies = ((λ e. a), (λ b. refl));
  yes = λ e. taken B old mid new t a v h;
  no = λ e. absurd (yes-no e);
}

-- where what fits applies
pub applies-yes : {E : Type 0} (B : Bounds) (k : Seen) (t : Target) (answer : Result Bool E) → (Fits B k.prefix (slots k) t → Applies B k t) → IfOk answer (λ b. (C : Bounds) → IsTrue b ↔ Fits C k.prefix (slots k) t) → IfOk answer (λ b. IsTrue b ↔ Applies B k t)
applies-yes B k t (Ok b) a f = ((λ y. a ((f B).0 y)), (λ h. (f B).1 h.fits))
applies-yes B k t (Err e) a f = f

pub finds : {T E : Type 0} (target_of : T → Target) (B : Bounds) (k : Seen) (from : ℕ) (answer : Result (Option T) E) → ((t : T) → ((C : Bounds) → Fits C k.prefix (slots k) (target_of t)) → Applies B k (target_of t)) → IfOk answer (IsFound target_of k (λ t. from ≤ place (target_of t))) → IfOk answer (Finds target_of B k from)
finds target_of B k from (Ok o) a f = record {
  some = λ t e. let r = f.some t e in (a t r.1, r.0);
  none = λ e t p b. f.none e t p B b.fits;
}
finds target_of B k from (Err e) a f = f

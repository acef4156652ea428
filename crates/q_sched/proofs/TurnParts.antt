-- What a turn does, by what its parts have done.
use Rattle.std.proofs.Common.{◌≡◌, ◌≢◌, ℕ, Bool, List, [], ◌∷◌, length, reverse, refl, ap, arith, Result, Ok, Err, IfOk}
use Rattle.q_logic.specs.Prelude.{measure_of}
use Rattle.q_kernel.specs.Prelude.{Seen, formula_in}
use Rattle.std.proofs.lemmas.List.{length-map, length-reverse}
use Rattle.q_sched.specs.declared.guide.Proposal.{Proposal}
use Rattle.q_sched.specs.Meanings.{meanings}
use Rattle.q_sched.specs.declared.turns.Turn.{Turn}
use Rattle.q_sched.specs.declared.turns.Turn.TheVariants as turn
use Rattle.q_sched.specs.Drives.{Driving, Turned, AsksFirst, SameFrame, Searched, Falls, Ends, Answers, IsSpent, IsFinished}

same-frame : (d : Driving) → SameFrame d d
same-frame d = record { bounds = refl; budget = refl; first_measure = refl }

searched-falls : (d : Driving) (old new : Seen) (answer : Turn) → Searched d.bounds old answer new → Falls answer d old d new
searched-falls d old new turn.Moved s = (omega arith, omega (arith, s.2.lower))
searched-falls d old new turn.Asked s = absurd s
searched-falls d old new turn.Settled s = (refl, ap (λ (k : Seen). measure_of d.bounds (formula_in k)) s.1)
searched-falls d old new turn.Spent s = absurd s
searched-falls d old new turn.GaveWay s = (refl, ap (λ (k : Seen). measure_of d.bounds (formula_in k)) s)

searched-ends : (d : Driving) (old new : Seen) (answer : Turn) → (¬ IsSpent d old) → Searched d.bounds old answer new → Ends answer d old new
searched-ends d old new turn.Moved n s = (n, s.0, s.2)
searched-ends d old new turn.Asked n s = absurd s
searched-ends d old new turn.Settled n s = s
searched-ends d old new turn.Spent n s = absurd s
searched-ends d old new turn.GaveWay n s = s

searched : (d : Driving) (old new : Seen) (answer : Turn) → (¬ IsSpent d old) → d.guides ≡ [] → Searched d.bounds old answer new → Turned d old answer d new
searched d old new answer n e s = record {
  spent = λ p. absurd (n p);
  dropped = λ _ g _. absurd (g e);
  asks = λ _ g _. absurd (g e);
  searches = λ _ _. (s, refl);
  falls = searched-falls d old new answer s;
  ends = searched-ends d old new answer n s;
  frame = same-frame d;
}

answers-ends : (d : Driving) (old new : Seen) (answer : Turn) → (¬ IsSpent d old) → Answers answer d.bounds old new → Ends answer d old new
answers-ends d old new turn.Moved n s = (n, s.0, s.1)
answers-ends d old new turn.Asked n s = (n, s)
answers-ends d old new turn.Settled n s = absurd s
answers-ends d old new turn.Spent n s = absurd s
answers-ends d old new turn.GaveWay n s = absurd s

asked : (before : Driving) (old : Seen) (answer : Turn) (after : Driving) (new : Seen) → (¬ IsSpent before old) → before.guides ≢ [] → (¬ IsFinished before) → AsksFirst before old answer after new → Turned before old answer after new
asked before old answer after new n g f a = record {
  spent = λ p. absurd (n p);
  dropped = λ _ _ h. absurd (f h);
  asks = λ _ _ _. a.asks;
  searches = λ _ e. absurd (g e);
  falls = a.falls;
  ends = answers-ends before old new answer n a.answers;
  frame = a.frame;
}

-- the same where memory may be wanting
pub turned-by_search : {E : Type 0} (d : Driving) (old new : Seen) (r : Result Turn E) → (¬ IsSpent d old) → d.guides ≡ [] → IfOk r (λ answer. Searched d.bounds old answer new) → IfOk r (λ answer. Turned d old answer d new)
turned-by_search d old new (Ok answer) n e s = searched d old new answer n e s
turned-by_search d old new (Err error) n e s = s

pub turned-by_guide : {E : Type 0} (before : Driving) (old : Seen) (after : Driving) (new : Seen) (r : Result Turn E) → (¬ IsSpent before old) → before.guides ≢ [] → (¬ IsFinished before) → IfOk r (λ answer. AsksFirst before old answer after new) → IfOk r (λ answer. Turned before old answer after new)
turned-by_guide before old after new (Ok answer) n g f a = asked before old answer after new n g f a
turned-by_guide before old after new (Err error) n g f a = a

pub no_guides : {B : Type 0} (asked : B → ℕ) (last : B → Proposal) (heard : B → Bool) (items : List B) → length items ≡ 0 → meanings asked last heard (reverse items) ≡ []
no_guides asked last heard [] e = refl
no_guides asked last heard (x ∷ items) e = absurd (omega arith)

pub some_guides : {B : Type 0} (asked : B → ℕ) (last : B → Proposal) (heard : B → Bool) (items : List B) → (length items ≡ 0 → ⊥) → meanings asked last heard (reverse items) ≢ []
some_guides asked last heard items n e =
    let m : length (meanings asked last heard (reverse items)) ≡ length (reverse items) = length-map (reverse items) _ in
    let z : length (meanings asked last heard (reverse items)) ≡ 0 = ap length e in
    n (omega (arith, length-reverse items))

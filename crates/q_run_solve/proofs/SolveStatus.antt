-- When each status of `solve` comes.
use Rattle.std.proofs.Common.{◌≡◌, ◌≢◌, ◌⊎◌, inl, inr, ◌∙◌, sym, ap, subst, ℕ, List, [], length, unwrap_or, Option, Some, None}
use Rattle.std.proofs.Math.Seq.{take-length}
use Rattle.q_logic.specs.Prelude.{PrenexFormula, standard}
use Rattle.q_io.specs.Files.{Disk, bytes_at}
use Rattle.q_dimacs.specs.Offences.{Offence}
use Rattle.q_search.specs.Budgets.{IsBelow}
use Rattle.q_command.specs.Sinks.{SinkView, IsDue}
use Rattle.q_command.specs.declared.status.Status.{Status}
use Rattle.q_command.specs.declared.status.Status.TheVariants as status
use Rattle.q_command.proofs.CheckStatus.{no_offence}
use Rattle.q_command.proofs.ToldLaws.{ToldLaws}
use Rattle.q_run_solve.specs.declared.solved.Solved.{Solved}
use Rattle.q_run_solve.specs.declared.solved.Solved.TheVariants.{True, False, Unknown, RefusedInput, ReadFault, WriteFault, NoMemory}
use Rattle.q_run_solve.specs.SolvedLines.{status_of_solved}
use Rattle.q_run_solve.specs.Solves.{SolveFiles, HoldsAnswer, IsDone, IsLeft, IsTrueAnswer, IsFalseAnswer, IsNoAnswer, Solves, IsEnded, Answers, SolvesExactly, told}
use Rattle.q_run_solve.proofs.KeptFiles.{whole-left}

ended-not_refused : (s : Status) → IsEnded s → s ≢ status.InputRefused
ended-not_refused s (inl e) f = cc
ended-not_refused s (inr (inl e)) f = cc
ended-not_refused s (inr (inr e)) f = cc

ended-not_read : (s : Status) → IsEnded s → s ≢ status.ReadFault
ended-not_read s (inl e) f = cc
ended-not_read s (inr (inl e)) f = cc
ended-not_read s (inr (inr e)) f = cc

ended-not_write : (s : Status) → IsEnded s → s ≢ status.WriteFault
ended-not_write s (inl e) f = cc
ended-not_write s (inr (inl e)) f = cc
ended-not_write s (inr (inr e)) f = cc

ended-not_memory : (s : Status) → IsEnded s → s ≢ status.NoMemory
ended-not_memory s (inl e) f = cc
ended-not_memory s (inr (inl e)) f = cc
ended-not_memory s (inr (inr e)) f = cc

pub solve-usage : (o : Solved) → status_of_solved o ≢ status.Usage
solve-usage (True g) e = cc
solve-usage False e = cc
solve-usage Unknown e = cc
solve-usage (RefusedInput k c) e = cc
solve-usage ReadFault e = cc
solve-usage WriteFault e = cc
solve-usage NoMemory e = cc

module _ (given : Status) (n : SolveFiles) (budget : Option ℕ) (before : Disk) (after : Option Disk) where
  abbrev Result : Type 0
  Result = SolvesExactly given n budget before after

  done : IsEnded given → IsDone n before after (Answers given n budget before) → Result
  done d h = record {
    ended = λ x. h;
    refused = ((λ x. absurd (ended-not_refused given d x)), (λ p. absurd (p h.from h.reduced.is_input)));
    untouched = λ x. absurd (elim x [ inl y ↦ ended-not_refused given d y | inr y ↦ ended-not_read given d y ]);
    left = λ x. absurd (elim x [ inl y ↦ ended-not_write given d y | inr y ↦ ended-not_memory given d y ]);
    any = inl d;
  }

  refused-input : (k c : ℕ) → Offence standard (bytes_at before n.input) k c → after ≡ Some before → given ≡ status.InputRefused → Result
  refused-input k c f s e = record {
    ended = λ x. absurd (ended-not_refused given x e);
    refused = ((λ x G g. no_offence (bytes_at before n.input) G k c f g), (λ p. inl e));
    untouched = λ x. s;
    left = λ x. absurd (elim x [ inl y ↦ (let w : status.InputRefused ≡ status.WriteFault = sym e ∙ y in cc) | inr y ↦ (let w : status.InputRefused ≡ status.NoMemory = sym e ∙ y in cc) ]);
    any = inr (inl e);
  }

  read-fault : after ≡ Some before → given ≡ status.ReadFault → Result
  read-fault s e = record {
    ended = λ x. absurd (ended-not_read given x e);
    refused = ((λ x. absurd (let w : status.InputRefused ≡ status.ReadFault = sym x ∙ e in cc)), (λ p. inr (inl e)));
    untouched = λ x. s;
    left = λ x. absurd (elim x [ inl y ↦ (let w : status.ReadFault ≡ status.WriteFault = sym e ∙ y in cc) | inr y ↦ (let w : status.ReadFault ≡ status.NoMemory = sym e ∙ y in cc) ]);
    any = inr (inr (inl e));
  }

  write-fault : (after ≡ Some before) ⊎ IsLeft n before after → given ≡ status.WriteFault → Result
  write-fault h e = record {
    ended = λ x. absurd (ended-not_write given x e);
    refused = ((λ x. absurd (let w : status.InputRefused ≡ status.WriteFault = sym x ∙ e in cc)), (λ p. inr (inr (inl e))));
    untouched = λ x. absurd (elim x [ inl y ↦ (let w : status.WriteFault ≡ status.InputRefused = sym e ∙ y in cc) | inr y ↦ (let w : status.WriteFault ≡ status.ReadFault = sym e ∙ y in cc) ]);
    left = λ x. h;
    any = inr (inr (inr (inl e)));
  }

  no-memory : (after ≡ Some before) ⊎ IsLeft n before after → given ≡ status.NoMemory → Result
  no-memory h e = record {
    ended = λ x. absurd (ended-not_memory given x e);
    refused = ((λ x. absurd (let w : status.InputRefused ≡ status.NoMemory = sym x ∙ e in cc)), (λ p. inr (inr (inr e))));
    untouched = λ x. absurd (elim x [ inl y ↦ (let w : status.NoMemory ≡ status.InputRefused = sym e ∙ y in cc) | inr y ↦ (let w : status.NoMemory ≡ status.ReadFault = sym e ∙ y in cc) ]);
    left = λ x. h;
    any = inr (inr (inr (inr e)));
  }

  answers-true : (g : ℕ) (F G : PrenexFormula) (disk : Disk) → given ≡ status.True → IsTrueAnswer n budget g F G disk → Answers given n budget before F G disk
  answers-true g F G disk e h = record {
    unknown = ((λ x. absurd (let w : status.True ≡ status.Unknown = sym e ∙ x in cc)), (λ b. absurd (h.0 b)));
    holds = ((λ x. (h.0, h.1)), (λ x. e));
    fails = ((λ x. absurd (let w : status.True ≡ status.False = sym e ∙ x in cc)), (λ x. absurd (x.1 h.1)));
    circuits = λ x. (g, h.2);
    kept = λ x. absurd (elim x [ inl y ↦ (let w : status.True ≡ status.False = sym e ∙ y in cc) | inr y ↦ (let w : status.True ≡ status.Unknown = sym e ∙ y in cc) ]);
  }

  answers-false : (F G : PrenexFormula) (disk : Disk) → given ≡ status.False → IsFalseAnswer n budget before F G disk → Answers given n budget before F G disk
  answers-false F G disk e h = record {
    unknown = ((λ x. absurd (let w : status.False ≡ status.Unknown = sym e ∙ x in cc)), (λ b. absurd (h.0 b)));
    holds = ((λ x. absurd (let w : status.False ≡ status.True = sym e ∙ x in cc)), (λ x. absurd (h.1 x.1)));
    fails = ((λ x. (h.0, h.1)), (λ x. e));
    circuits = λ x. absurd (let w : status.False ≡ status.True = sym e ∙ x in cc);
    kept = λ x. h.2;
  }

  answers-unknown : (F G : PrenexFormula) (disk : Disk) → given ≡ status.Unknown → IsNoAnswer n budget before F G disk → Answers given n budget before F G disk
  answers-unknown F G disk e h = record {
    unknown = ((λ x. h.0), (λ b. e));
    holds = ((λ x. absurd (let w : status.Unknown ≡ status.True = sym e ∙ x in cc)), (λ x. absurd (x.0 h.0)));
    fails = ((λ x. absurd (let w : status.Unknown ≡ status.False = sym e ∙ x in cc)), (λ x. absurd (x.0 h.0)));
    circuits = λ x. absurd (let w : status.Unknown ≡ status.True = sym e ∙ x in cc);
    kept = λ x. h.1;
  }

  stands : (due : Solved) → Solves due n budget before after → (after ≡ Some before) ⊎ IsLeft n before after
  stands (True g) h =
      let a : HoldsAnswer n.cert g h.from h.disk = h.holds.2 in
      inr (whole-left n before h.disk after h.from h.to h.told h.reduced (inr (record {
        made = a.made;
        circuits = a.circuits;
        gates = g;
        text = a.text;
        canonical = a.canonical;
        part = length a.text;
        bytes = ap (λ (o : Option (List ℕ)). unwrap_or o []) a.bytes ∙ sym (take-length a.text);
      })))
  stands False h = inr (whole-left n before h.disk after h.from h.to h.told h.reduced (inl h.holds.2))
  stands Unknown h = inr (whole-left n before h.disk after h.from h.to h.told h.reduced (inl h.holds.1))
  stands (RefusedInput k c) h = inl h.1
  stands ReadFault h = inl h
  stands WriteFault h = inr h
  stands NoMemory h = h

  due-answers : (due : Solved) → Solves due n budget before after → given ≡ status_of_solved due → Result
  due-answers (True g) h e = done (inl e) (record { disk = h.disk; told = h.told; from = h.from; to = h.to; reduced = h.reduced; holds = answers-true g h.from h.to h.disk e h.holds })
  due-answers False h e = done (inr (inl e)) (record { disk = h.disk; told = h.told; from = h.from; to = h.to; reduced = h.reduced; holds = answers-false h.from h.to h.disk e h.holds })
  due-answers Unknown h e = done (inr (inr e)) (record { disk = h.disk; told = h.told; from = h.from; to = h.to; reduced = h.reduced; holds = answers-unknown h.from h.to h.disk e h.holds })
  due-answers (RefusedInput k c) h e = refused-input k c h.0 h.1 e
  due-answers ReadFault h e = read-fault h e
  due-answers WriteFault h e = write-fault (inr h) e
  due-answers NoMemory h e = no-memory h e

  pub solve-answers : (due : Solved) (old new : SinkView) → Solves due n budget before after → IsDue (status_of_solved due) given old new → Result
  solve-answers due old new h (inl e) = due-answers due h e
  solve-answers due old new h (inr (inl e)) = write-fault (stands due h) e.0
  solve-answers due old new h (inr (inr e)) = no-memory (stands due h) e.0

-- a budget that is not given is spent nowhere
no-budget : (b : Option ℕ) (n : ℕ) → b ≡ None → IsBelow b n → ⊥
no-budget b n e h = subst (λ (o : Option ℕ). IsBelow o n) e h

pub laws : (n : SolveFiles) (budget : Option ℕ) → ToldLaws (told n budget)
laws n budget = record {
  gives = λ o given disk after old new h d. solve-answers given n budget disk after o old new h d;
  no_usage = solve-usage;
  answers = λ given disk after m g F f. (
    elim g.any [ inl e ↦ inl e | inr (inl e) ↦ absurd (g.refused.0 e F f) | inr (inr e) ↦ inr (m e) ],
    (λ e u. let d = g.ended (inr (inr u)) in no-budget budget _ e (d.holds.unknown.0 u)),
  );
}

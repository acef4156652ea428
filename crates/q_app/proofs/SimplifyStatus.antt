-- When each status of `simplify` comes.
use Rattle.std.proofs.Common.{◌≡◌, ◌≢◌, ◌⊎◌, inl, inr, ◌∙◌, refl, sym, subst, ℕ, List, Option, Some}
use Rattle.q_logic.specs.Prelude.{PrenexFormula, standard, measure_of}
use Rattle.q_io.specs.Files.{Disk, bytes_at}
use Rattle.q_dimacs.specs.Offences.{Offence}
use Rattle.q_simplify.specs.declared.options.Options.{Options}
use Rattle.q_simplify.specs.declared.report.Report.{Report}
use Rattle.q_simplify.specs.declared.report.Ending.{Ending}
use Rattle.q_simplify.specs.declared.report.Ending.TheVariants as ending
use Rattle.q_simplify.specs.Results.{EndsAs, IsEnoughFor, IsReport}
use Rattle.q_simplify.proofs.BothFiles.{leaves-whole, never-spent}
use Rattle.q_app.specs.Statuses.{status_of_ending, status_of_simplified}
use Rattle.q_command.specs.Names.{ThreeNames}
use Rattle.q_command.specs.Sinks.{SinkView, IsDue}
use Rattle.q_command.proofs.ToldLaws.{ToldLaws}
use Rattle.q_app.proofs.CommandLines.{simplify-usage}
use Rattle.q_app.specs.Simplifying.{IsWritten, IsLeft, Ends, IsEnded, SimplifiesExactly, told}
use Rattle.q_command.specs.declared.status.Status.{Status}
use Rattle.q_command.specs.declared.status.Status.TheVariants as status
use Rattle.q_app.specs.declared.simplified.Simplified.{Simplified}
use Rattle.q_app.specs.declared.simplified.Simplified.TheVariants.{Written, RefusedInput, ReadFault, WriteFault, NoMemory}
use Rattle.q_command.proofs.CheckStatus.{one_formula, no_offence}

spent_is : (x : Ending) (o : Options) (F G : PrenexFormula) → EndsAs x o F G → status.Spent ≡ status_of_ending x → x ≡ ending.Spent
spent_is ending.Settled o F G h e = cc
spent_is ending.True o F G h e = cc
spent_is ending.False o F G h e = cc
spent_is ending.Spent o F G h e = refl
spent_is ending.Stopped o F G h e = absurd h

ended_is : (x : Ending) (s : Status) → s ≡ status_of_ending x → IsEnded s
ended_is ending.Settled s e = inl e
ended_is ending.True s e = inr (inl e)
ended_is ending.False s e = inr (inr (inl e))
ended_is ending.Spent s e = inr (inr (inr e))
ended_is ending.Stopped s e = inr (inr (inr e))

pub ended-not_refused : (s : Status) → IsEnded s → s ≢ status.InputRefused
ended-not_refused s (inl e) f = cc
ended-not_refused s (inr (inl e)) f = cc
ended-not_refused s (inr (inr (inl e))) f = cc
ended-not_refused s (inr (inr (inr e))) f = cc

pub ended-not_read : (s : Status) → IsEnded s → s ≢ status.ReadFault
ended-not_read s (inl e) f = cc
ended-not_read s (inr (inl e)) f = cc
ended-not_read s (inr (inr (inl e))) f = cc
ended-not_read s (inr (inr (inr e))) f = cc

pub ended-not_write : (s : Status) → IsEnded s → s ≢ status.WriteFault
ended-not_write s (inl e) f = cc
ended-not_write s (inr (inl e)) f = cc
ended-not_write s (inr (inr (inl e))) f = cc
ended-not_write s (inr (inr (inr e))) f = cc

pub ended-not_memory : (s : Status) → IsEnded s → s ≢ status.NoMemory
ended-not_memory s (inl e) f = cc
ended-not_memory s (inr (inl e)) f = cc
ended-not_memory s (inr (inr (inl e))) f = cc
ended-not_memory s (inr (inr (inr e))) f = cc

module _ (answer : Status) (o : Options) (i on ln : List ℕ) (before : Disk) (after : Option Disk) where
  abbrev Result : Type 0
  Result = SimplifiesExactly answer o i on ln before after

  written : (r : Report) → IsWritten r o i on ln before after → answer ≡ status_of_ending r.ending → Result
  written r (F, f, s) e =
      let d : IsEnded answer = ended_is r.ending answer e in
      record {
        ended = λ x. (r, (F, f, s), e);
        enough = λ G g n z. never-spent o F s.result r s.report (spent_is r.ending o F s.result s.report.ending (sym z ∙ e)) (subst (λ (H : PrenexFormula). IsEnoughFor o.budget (measure_of o.bounds H)) (one_formula (bytes_at before i) G F g f) n);
        refused = ((λ x. absurd (ended-not_refused answer d x)), (λ n. absurd (n F f)));
        untouched = λ x. absurd (elim x [ inl y ↦ ended-not_refused answer d y | inr y ↦ ended-not_read answer d y ]);
        left = λ x. absurd (elim x [ inl y ↦ ended-not_write answer d y | inr y ↦ ended-not_memory answer d y ]);
        any = inl d;
      }

  refused-input : (n c : ℕ) → Offence standard (bytes_at before i) n c → after ≡ Some before → answer ≡ status.InputRefused → Result
  refused-input n c f k e =
      record {
        ended = λ x. absurd (ended-not_refused answer x e);
        enough = λ G g m z. let w : status.Spent ≡ status.InputRefused = sym z ∙ e in cc;
        refused = ((λ x G g. no_offence (bytes_at before i) G n c f g), (λ p. inl e));
        untouched = λ x. k;
        left = λ x. absurd (elim x [ inl y ↦ (let w : status.InputRefused ≡ status.WriteFault = sym e ∙ y in cc) | inr y ↦ (let w : status.InputRefused ≡ status.NoMemory = sym e ∙ y in cc) ]);
        any = inr (inl e);
      }

  read-fault : after ≡ Some before → answer ≡ status.ReadFault → Result
  read-fault k e =
      record {
        ended = λ x. absurd (ended-not_read answer x e);
        enough = λ G g m z. let w : status.Spent ≡ status.ReadFault = sym z ∙ e in cc;
        refused = ((λ x. absurd (let w : status.InputRefused ≡ status.ReadFault = sym x ∙ e in cc)), (λ p. inr (inl e)));
        untouched = λ x. k;
        left = λ x. absurd (elim x [ inl y ↦ (let w : status.ReadFault ≡ status.WriteFault = sym e ∙ y in cc) | inr y ↦ (let w : status.ReadFault ≡ status.NoMemory = sym e ∙ y in cc) ]);
        any = inr (inr (inl e));
      }

  write-fault : (after ≡ Some before) ⊎ IsLeft i on ln before after → answer ≡ status.WriteFault → Result
  write-fault h e =
      record {
        ended = λ x. absurd (ended-not_write answer x e);
        enough = λ G g m z. let w : status.Spent ≡ status.WriteFault = sym z ∙ e in cc;
        refused = ((λ x. absurd (let w : status.InputRefused ≡ status.WriteFault = sym x ∙ e in cc)), (λ p. inr (inr (inl e))));
        untouched = λ x. absurd (elim x [ inl y ↦ (let w : status.WriteFault ≡ status.InputRefused = sym e ∙ y in cc) | inr y ↦ (let w : status.WriteFault ≡ status.ReadFault = sym e ∙ y in cc) ]);
        left = λ x. h;
        any = inr (inr (inr (inl e)));
      }

  no-memory : (after ≡ Some before) ⊎ IsLeft i on ln before after → answer ≡ status.NoMemory → Result
  no-memory h e =
      record {
        ended = λ x. absurd (ended-not_memory answer x e);
        enough = λ G g m z. let w : status.Spent ≡ status.NoMemory = sym z ∙ e in cc;
        refused = ((λ x. absurd (let w : status.InputRefused ≡ status.NoMemory = sym x ∙ e in cc)), (λ p. inr (inr (inr e))));
        untouched = λ x. absurd (elim x [ inl y ↦ (let w : status.NoMemory ≡ status.InputRefused = sym e ∙ y in cc) | inr y ↦ (let w : status.NoMemory ≡ status.ReadFault = sym e ∙ y in cc) ]);
        left = λ x. h;
        any = inr (inr (inr (inr e)));
      }

  -- what stands where the line could not be put
  stands : (due : Simplified) → Ends due o i on ln before after → (after ≡ Some before) ⊎ IsLeft i on ln before after
  stands (Written r) (F, f, s) = inr (F, f, leaves-whole (λ (G : PrenexFormula). IsReport o F r G) F on ln before after s)
  stands (RefusedInput n c) h = inl h.1
  stands ReadFault h = inl h
  stands WriteFault h = inr h
  stands NoMemory h = h

  due-answers : (due : Simplified) → Ends due o i on ln before after → answer ≡ status_of_simplified due → Result
  due-answers (Written r) h e = written r h e
  due-answers (RefusedInput n c) h e = refused-input n c h.0 h.1 e
  due-answers ReadFault h e = read-fault h e
  due-answers WriteFault h e = write-fault (inr h) e
  due-answers NoMemory h e = no-memory h e

  pub simplify-answers : (due : Simplified) (old new : SinkView) → Ends due o i on ln before after → IsDue (status_of_simplified due) answer old new → Result
  simplify-answers due old new h (inl e) = due-answers due h e
  simplify-answers due old new h (inr (inl e)) = write-fault (stands due h) e.0
  simplify-answers due old new h (inr (inr e)) = no-memory (stands due h) e.0

pub laws : (n : ThreeNames) (o : Options) → ToldLaws (told n o)
laws n o = record {
  gives = λ due given disk after old new h d. simplify-answers given o n.input n.output n.log disk after due old new h d;
  no_usage = simplify-usage;
  answers = λ given disk after m g F f.
      (elim g.any [ inl e ↦ inl e | inr (inl e) ↦ absurd (g.refused.0 e F f) | inr (inr e) ↦ inr (m e) ], g.enough F f);
}

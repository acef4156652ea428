-- When each status of `gen` comes.
use Rattle.std.proofs.Common.{◌≡◌, ◌⊎◌, inl, inr, ◌∙◌, sym, ap, ℕ, List, [], length, unwrap_or, Option}
use Rattle.std.proofs.Math.Seq.{take-length}
use Rattle.q_io.specs.Files.{Disk}
use Rattle.q_dimacs.specs.Writing.{formula_text}
use Rattle.q_gen.specs.Generated as gen
use Rattle.q_gen.specs.Outputs.{HoldsGenerated, HoldsGeneratedPart}
use Rattle.q_app.specs.Generating.{status_of_generated, Generates, GeneratesExactly, told}
use Rattle.q_command.specs.Sinks.{SinkView, IsDue}
use Rattle.q_command.proofs.ToldLaws.{ToldLaws}
use Rattle.q_app.proofs.CommandLines.{generate-usage}
use Rattle.q_app.specs.declared.words.Scale.{Scale}
use Rattle.q_app.specs.declared.generated.Generated.{Generated}
use Rattle.q_app.specs.declared.generated.Generated.TheVariants.{Written, WriteFault, NoMemory}
use Rattle.q_command.specs.declared.status.Status.{Status}
use Rattle.q_command.specs.declared.status.Status.TheVariants as status

module _ (given : Status) (k : Scale) (name : List ℕ) (before : Disk) (after : Option Disk) where
  -- a whole text is a front of itself
  part : HoldsGenerated name k.seed k.size before after → HoldsGeneratedPart name k.seed k.size before after
  part h =
      let text : List ℕ = formula_text (gen.Generated k.seed k.size) in
      record { disk = h.disk; told = h.told; bytes = inr (length text, ap (λ b. unwrap_or b []) h.bytes ∙ sym (take-length text)); others = h.others }

  failed : (given ≡ status.WriteFault) ⊎ (given ≡ status.NoMemory) → HoldsGeneratedPart name k.seed k.size before after → GeneratesExactly given k name before after
  failed (inl e) h = record { done = λ x. absurd (let w : status.Done ≡ status.WriteFault = sym x ∙ e in cc); left = λ x. h; any = inr (inl e) }
  failed (inr e) h = record { done = λ x. absurd (let w : status.Done ≡ status.NoMemory = sym x ∙ e in cc); left = λ x. h; any = inr (inr e) }

  stands : (due : Generated) → Generates due k name before after → HoldsGeneratedPart name k.seed k.size before after
  stands (Written n) h = part h.1
  stands WriteFault h = h
  stands NoMemory h = h

  due-answers : (due : Generated) → Generates due k name before after → given ≡ status_of_generated due → GeneratesExactly given k name before after
  due-answers (Written n) h e =
      record {
        done = λ x. h.1;
        left = λ x. absurd (elim x [ inl a ↦ (let w : status.Done ≡ status.WriteFault = sym e ∙ a in cc) | inr a ↦ (let w : status.Done ≡ status.NoMemory = sym e ∙ a in cc) ]);
        any = inl e;
      }
  due-answers WriteFault h e = failed (inl e) h
  due-answers NoMemory h e = failed (inr e) h

  pub generate-answers : (due : Generated) (old new : SinkView) → Generates due k name before after → IsDue (status_of_generated due) given old new → GeneratesExactly given k name before after
  generate-answers due old new h (inl e) = due-answers due h e
  generate-answers due old new h (inr (inl e)) = failed (inl e.0) (stands due h)
  generate-answers due old new h (inr (inr e)) = failed (inr e.0) (stands due h)

pub laws : (k : Scale) (name : List ℕ) → ToldLaws (told k name)
laws k name = record {
  gives = λ o given disk after old new h d. generate-answers given k name disk after o old new h d;
  no_usage = generate-usage;
  answers = λ given disk after m g. elim g.any [ inl e ↦ inl e | inr (inl e) ↦ inr (m (inr (inl e))) | inr (inr e) ↦ inr e ];
}

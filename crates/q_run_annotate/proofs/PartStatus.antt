-- When each status of a part of `annotate` comes.
use Rattle.std.proofs.Common.{◌≡◌, ◌∙◌, inl, inr, sym, ap, subst, ℕ, ◌+◌, List, [], ◌∷◌, None}
use Rattle.std.proofs.lemmas.Option.{same_Some}
use Rattle.q_logic.specs.Prelude.{PrenexFormula, SameFormula, after, standard}
use Rattle.q_same_steps.specs.Making.{made}
use Rattle.q_shares.specs.Shares.{Share, AreMade}
use Rattle.q_io.specs.Files.{bytes_at}
use Rattle.q_log.specs.Logs as logs
use Rattle.q_command.specs.Logs.{Entry, steps_of}
use Rattle.q_command.specs.Parts.{IsFirstBadShared, share_of}
use Rattle.q_command.specs.declared.part.Part.{Part}
use Rattle.q_command.specs.declared.status.Status.TheVariants as status
use Rattle.q_command.proofs.CheckStatus.{all_or_none-some}
use Rattle.q_command.proofs.PartStatus.{right-or-wrong}
use Rattle.q_command.proofs.ToldLaws.{ToldLaws, exact}
use Rattle.q_run_annotate.specs.Annotates.{AnnotateFiles}
use Rattle.q_run_annotate.specs.AnnotatedShares.{IsShareAnnotation}
use Rattle.q_run_annotate.specs.AnnotatedParts.{EndsShared, IsRefusedPlainShared, LeadsShared, LogRefusesShared, told}
use Rattle.q_run_annotate.proofs.AnnotateStatus.{Settles, annotate-answers, annotate-usage}

not-both : (j : Share) (k : ℕ) (F : PrenexFormula) (es : List Entry) (n c : ℕ) → IsFirstBadShared j k F es None n c → AreMade j standard k F (steps_of es) → ⊥
not-both j k F [] n c b v = b
not-both j k F (e ∷ es) n c (inl (line, cause)) v = right-or-wrong (j k) standard F e.1 c v.0 cause
not-both j k F (e ∷ es) n c (inr (valid, later)) v = not-both j (k + 1) (after F e.1) es n c later v.1

line-no-share : (j : Share) (log : List ℕ) (F G : PrenexFormula) (n c : ℕ) → IsRefusedPlainShared j F log n c → LeadsShared j log F G → ⊥
line-no-share j log F G n c b (es, r) =
    let p = all_or_none-some (logs.read standard.bytes log).refused (logs.read standard.bytes log).steps es r.is_log in
    not-both j 0 F es n c (subst (λ x. IsFirstBadShared j 0 F es x n c) p.0 (subst (λ x. IsFirstBadShared j 0 F x (logs.read standard.bytes log).refused n c) p.1 b)) r.run.steps

end-no-share : (j : Share) (log : List ℕ) (F G : PrenexFormula) (c : ℕ) → EndsShared j log F G c → LeadsShared j log F G → ⊥
end-no-share j log F G c e (es, r) =
    let w = e.way in
    let same : w.entries ≡ es = same_Some w.entries es (sym w.is_log ∙ r.is_log) in
    let last : made F (steps_of es) ≡ e.last = ap (λ (xs : List Entry). made F (steps_of xs)) (sym same) ∙ sym w.last_is in
    e.apart.differ (subst (λ (L : PrenexFormula). SameFormula L G) last r.run.same)

share-settles : (j : Share) (log : List ℕ) → Settles (LeadsShared j log) (IsShareAnnotation j log) (λ w F G. LogRefusesShared j w F G log)
share-settles j log = record {
  leads = λ k F G text a. (a.entries, record { is_log = a.is_log; run = a.run });
  line = λ n c F G b. line-no-share j log F G n c b;
  end = λ c F G e. end-no-share j log F G c e;
}

pub laws : (n : AnnotateFiles) (p : Part) → ToldLaws (told n p)
laws n p = record {
  gives = λ o given disk after old new h d.
      let j = share_of p in
      let l = bytes_at disk n.log in
      annotate-answers (LeadsShared j l) (IsShareAnnotation j l) (λ w F G. LogRefusesShared j w F G l) (share-settles j l) given n disk after o old new h d;
  no_usage = annotate-usage;
  answers = λ given disk after m g. (exact given status.Done _ m g.done, exact given status.LogRefused _ m g.log_refused);
}

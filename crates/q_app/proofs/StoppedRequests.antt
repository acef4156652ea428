-- What a run under an alarm does and promises, by what its commands do.
use Rattle.std.proofs.Common.{◌≡◌, ◌≢◌, ◌∙◌, inl, inr, refl, sym, ap, subst, ℕ, Bool, List, [], ◌∷◌, Option, Some, None, unwrap_or}
use Rattle.std.proofs.lemmas.Option.{IfSome_then}
use Rattle.q_logic.specs.Prelude.{PrenexFormula}
use Rattle.q_io.specs.Files.{Disk, bytes_at}
use Rattle.q_dimacs.specs.Writing.{formula_text}
use Rattle.q_sched.specs.Alarms.{AlarmView, Rang, UnlessRung}
use Rattle.q_simplify.specs.declared.options.Options.{Options}
use Rattle.q_simplify.specs.declared.report.Report.{Report}
use Rattle.q_simplify.specs.Results.{IsStopped, SimplifiesPart}
use Rattle.q_command.specs.Checks.{IsFileOf}
use Rattle.q_command.specs.Devices.{Devices}
use Rattle.q_command.specs.Names.{ThreeNames, three_of}
use Rattle.q_command.specs.Told.{Runs}
use Rattle.q_command.specs.declared.status.Status.{Status}
use Rattle.q_command.specs.declared.status.Status.TheVariants as status
use Rattle.q_command.proofs.CheckStatus.{one_formula}
use Rattle.q_command.proofs.ToldLaws.{completes}
use Rattle.q_app.specs.Commands.{IsFit, commands_of}
use Rattle.q_app.specs.Headline.{IsCarried}
use Rattle.q_app.specs.Operands.{Differ}
use Rattle.q_app.specs.Says.{Does, InTurn}
use Rattle.q_app.specs.Simplifying.{told_stopped}
use Rattle.q_app.specs.Stopping.{AlarmKeeps, DoesUntil, IsSetAndHeard, Keeps, KeepsStopped, KeepsUntil}
use Rattle.q_app.specs.Told.{told}
use Rattle.q_app.specs.Words.{Command, Request, simplifying}
use Rattle.q_app.specs.declared.words.Command.{Command as Parsed}
use Rattle.q_app.specs.declared.words.Command.TheVariants.{Simplify}
use Rattle.q_app.proofs.CommandSequence.{in_turn-usage}
use Rattle.q_app.proofs.DemoPasses.{AreGenerated}
use Rattle.q_app.proofs.RunPromise.{answer-comes, demo-passes, differ-in, nothing-asked, simplify-ends}
use Rattle.q_app.proofs.StoppedFiles.{laws-stopped}
use Rattle.q_app.proofs.ThreeCommands.{accepted-by-check}
use Rattle.q_app.proofs.VerifiedFiles.{AreReread, verified-as}

-- any command but `simplify`
abbrev pub IsOther : Parsed → Type 0
IsOther (Simplify n p) = ⊥
IsOther other = Unit {0}

other-not : (k : Parsed) → IsOther k → (n : ThreeNames) (o : Options) → Some (commands_of k) ≢ Some (simplifying n o ∷ [])
other-not (Simplify m p) t n o e = t
other-not k t n o e = cc

-- what a run that was stopped has made of IN
carried : AreReread → (F : PrenexFormula) (r : Report) (o : Options) (input output log : List ℕ) (before : Disk) (after : Option Disk) → input ≢ output → input ≢ log → IsFileOf (bytes_at before input) F → SimplifiesPart o F r output log before after → (end : Disk) × (after ≡ Some end) × IsCarried F input output log end
carried reread F r o input output log before after m n f s =
    let t : bytes_at s.disk output ≡ formula_text s.result = ap (λ b. unwrap_or b []) s.output in (
      s.disk,
      s.told,
      record {
        to = s.result;
        is_output = subst (λ (xs : List ℕ). IsFileOf xs s.result) (sym t) s.report.readable;
        truth = s.truth;
        accepted = λ short. accepted-by-check (bytes_at s.disk input) (bytes_at s.disk output) (bytes_at s.disk log)
            (verified-as reread (λ (G : PrenexFormula). IsStopped o F r G) (λ G i. i.readable) F input output log before s.disk m n f (subst (λ (k : Option Disk). SimplifiesPart o F r output log before k) s.told s) short);
      },
    )

module _ (a b : AlarmView) (before : Devices) (given : Status) (after : Devices) where
  -- another command does what was asked for
  pub as-asked : (k j : Parsed) → k ≡ j → InTurn (commands_of j) before given after → DoesUntil a b (Some (commands_of k)) before given after
  as-asked k j e h = inl (subst (λ (i : Parsed). InTurn (commands_of i) before given after) (sym e) h)

  -- `simplify` does so, unless it is stopped
  pub simplifies-so : (k : Parsed) (n : ThreeNames) (p : Options) → commands_of k ≡ simplifying n p ∷ [] → UnlessRung a b (Runs (told (simplifying n p)) before given after) (Runs (told_stopped n p) before given after) → DoesUntil a b (Some (commands_of k)) before given after
  simplifies-so k n p e (inl r) = inl (subst (λ (cs : List Command). InTurn cs before given after) (sym e) r)
  simplifies-so k n p e (inr (z, r)) = inr (z, (n, p, ap Some e, r))

  -- it never says that the words are none
  pub until-usage : (cs : List Command) → DoesUntil a b (Some cs) before given after → given ≡ status.Usage → ⊥
  until-usage cs (inl d) e = in_turn-usage cs before after given d e
  until-usage cs (inr (z, (n, p, w, r))) e = r.no_usage e

  -- what is promised of commands that can be done
  keeps-parsed : AreReread → AreGenerated → (k : Parsed) (s : Request) → IsFit k → s ≡ Some (commands_of k) → Does s before given after → Keeps s before given after
  keeps-parsed reread made k s f e d =
      let h : InTurn (commands_of k) before given after = subst (λ (r : Request). Does r before given after) e d in
      record {
        does = d;
        simplify_ends = simplify-ends reread k s before given after f e h;
        answer_comes = answer-comes k s before given after e h;
        demo_passes = demo-passes reread made k s before given after f e h;
      }

  -- the same of a simplification that is stopped
  keeps-stopped : AreReread → (n : ThreeNames) (o : Options) → Differ n → Runs (told_stopped n o) before given after → KeepsStopped before given after n o
  keeps-stopped reread n o d r = record {
    does = r;
    simplify_stops = IfSome_then before.held r.gives (λ disk g F f.
        let w = g.written in
        let same : w.1.0 ≡ F = one_formula (bytes_at disk n.input) w.1.0 F w.1.1 f in
        carried reread F w.0 o n.input n.output n.log disk after.held d.input_output d.input_log f (subst (λ (H : PrenexFormula). SimplifiesPart o H w.0 n.output n.log disk after.held) same w.1.2));
    answer_comes = completes (told_stopped n o) (laws-stopped n o) before given after r;
  }

  pub keeps-until : AreReread → AreGenerated → (k : Parsed) (r : Request) → IsFit k → Some (commands_of k) ≡ r → DoesUntil a b (Some (commands_of k)) before given after → KeepsUntil a b r before given after
  keeps-until reread made k r f e (inl d) = inl (keeps-parsed reread made k r f (sym e) (subst (λ (x : Request). Does x before given after) e d))
  keeps-until reread made k r f e (inr (z, (n, p, w, d))) =
      let same : commands_of k ≡ simplifying n p ∷ [] = cc in
      inr (z, (n, p, sym e ∙ w, keeps-stopped reread n p (differ-in k n p f same) d))

  -- the words ask for nothing
  pub keeps-nothing : (r : Request) → None ≡ r → Does None before given after → KeepsUntil a b r before given after
  keeps-nothing r e d =
      inl (record {
        does = subst (λ (x : Request). Does x before given after) e d;
        simplify_ends = λ n o w. absurd (nothing-asked r (simplifying n o ∷ []) e w);
        answer_comes = λ c w. absurd (nothing-asked r (c ∷ []) e w);
        demo_passes = λ k n w. absurd (nothing-asked r _ e w);
      })

  -- an alarm that did not ring
  pub keeps-whole : (r : Request) → (Rang a b → ⊥) → KeepsUntil a b r before given after → Keeps r before given after
  keeps-whole r n (inl k) = k
  keeps-whole r n (inr (z, k)) = absurd (n z)

module _ (seconds : Option ℕ) (plain : Bool) (given : Status) where
  -- another command leaves the alarm as it is
  pub alarm-left : (k j : Parsed) → k ≡ j → IsOther j → (a : AlarmView) → AlarmKeeps (Some (commands_of k)) seconds plain given a a
  alarm-left k j e t a =
      subst (λ (i : Parsed). AlarmKeeps (Some (commands_of i)) seconds plain given a a) (sym e)
      (record { simplify = λ n o w. absurd (other-not j t n o w); others = λ h. refl })

  pub alarm-heard : (k : Parsed) (n : ThreeNames) (p : Options) → commands_of k ≡ simplifying n p ∷ [] → (a b : AlarmView) → IsSetAndHeard seconds plain given a b → AlarmKeeps (Some (commands_of k)) seconds plain given a b
  alarm-heard k n p e a b h = record { simplify = λ m o w. h; others = λ x. absurd (x n p (ap Some e)) }

  pub alarm-nothing : (r : Request) → None ≡ r → (a : AlarmView) → AlarmKeeps r seconds plain given a a
  alarm-nothing r e a = record { simplify = λ n o w. absurd (nothing-asked r (simplifying n o ∷ []) e w); others = λ h. refl }

-- the same over what the words ask for
pub alarm-said : (r q : Request) (s t : Option ℕ) (p o : Bool) (given : Status) (a b : AlarmView) → r ≡ q → s ≡ t → p ≡ o → AlarmKeeps r s p given a b → AlarmKeeps q t o given a b
alarm-said r q s t p o given a b e f h k =
    subst (λ (x : Request). AlarmKeeps x t o given a b) e (subst (λ (x : Option ℕ). AlarmKeeps r x o given a b) f (subst (λ (x : Bool). AlarmKeeps r s x given a b) h k))

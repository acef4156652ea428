-- What the file of the log and the kernel say together, through the changes of both.
use Rattle.std.proofs.Common.{◌≡◌, inr, ℕ, suc, ◌+◌, List, [], ◌∷◌, ◌++◌, refl, sym, ap, ◌∙◌, subst, arith, length, take, append_assoc, append-nil, Option, Some, unwrap_or, IfSome, Result, Err}
use Rattle.std.proofs.Math.Seq.{take-append_seam, take-append-add}
use Rattle.q_logic.specs.Prelude.{Prefix, PrenexFormula, blocks, SameBlocks, standard, AreAlike, SameFormula, ValidSteps}
use Rattle.q_io.specs.Files.{Disk, Later, RoseFor, bytes_at, Empties, Appends, AppendsPart}
use Rattle.q_io.specs.declared.error.DeviceError.{DeviceError}
use Rattle.q_io.specs.declared.error.DeviceError.TheVariants.{Failed}
use Rattle.q_log.specs.Texts.{steps_text}
use Rattle.q_kernel.specs.Prelude.{Seen, slots, formula_in, SameView, IsLed}
use Rattle.q_logic.proofs.Common.{SameBlocks-refl, alike_itself, alike_swapped, alike_through}
use Rattle.q_simplify.specs.Logs.{HasLog, LeavesLog, LogGoesOn}
use Rattle.q_simplify.specs.Results.{LeadsTo}
use Rattle.q_io.proofs.StoreContents.{at_some, others-through}
use Rattle.q_kernel.proofs.KernelRuns.{steps-same, steps-append, steps_text-append, logged-append}

-- alike formulas are the same for the end of a run
alike-same : (E G : PrenexFormula) → AreAlike E G → SameFormula E G
alike-same E G a = record { same_blocks = subst (λ (P : Prefix). SameBlocks (blocks E.prefix) (blocks P)) a.prefix (SameBlocks-refl (blocks E.prefix)); same_clauses = a.clauses }

pub has_log-begin : (F : PrenexFormula) (name : List ℕ) (before : Disk) (k : Seen) (after : Option Disk) → Empties name before after → formula_in k ≡ F → k.text ≡ [] → HasLog F name before k after
has_log-begin F name before k after e f t =
    record {
      disk = e.disk;
      told = e.told;
      bytes = [];
      there = e.bytes;
      steps = [];
      logged = tt;
      text = t;
      last = F;
      valid = refl;
      alike = subst (λ (G : PrenexFormula). AreAlike F G) (sym f) (alike_itself F);
      others = e.others;
    }

pub has_log-led : (F : PrenexFormula) (name : List ℕ) (before : Disk) (j k : Seen) (after : Option Disk) → HasLog F name before j after → IsLed j k → HasLog F name before k after
has_log-led F name before j k after h d =
    let i : (H : PrenexFormula) × ValidSteps standard h.last d.steps H × AreAlike d.last H = steps-same standard (formula_in j) h.last d.steps d.last (alike_swapped h.last (formula_in j) h.alike) d.valid in
    let text : h.bytes ++ k.text ≡ steps_text (h.steps ++ d.steps) =
    ap (λ t. h.bytes ++ t) d.text ∙ (sym (append_assoc h.bytes j.text (steps_text d.steps)) ∙ (ap (λ t. t ++ steps_text d.steps) h.text ∙ sym (steps_text-append h.steps d.steps))) in
    record {
      disk = h.disk;
      told = h.told;
      bytes = h.bytes;
      there = h.there;
      steps = h.steps ++ d.steps;
      logged = logged-append h.steps d.steps h.logged d.logged;
      text = text;
      last = i.0;
      valid = steps-append standard F h.steps h.last d.steps i.0 h.valid i.1;
      alike = alike_through i.0 d.last (formula_in k) (alike_swapped d.last i.0 i.2) d.alike;
      others = h.others;
    }

pub has_log-same : (F : PrenexFormula) (name : List ℕ) (before : Disk) (j k : Seen) (after : Option Disk) → HasLog F name before j after → SameView j k → HasLog F name before k after
has_log-same F name before j k after h v =
    record {
      disk = h.disk;
      told = h.told;
      bytes = h.bytes;
      there = h.there;
      steps = h.steps;
      logged = h.logged;
      text = ap (λ t. h.bytes ++ t) v.text ∙ h.text;
      last = h.last;
      valid = h.valid;
      alike = subst (λ (G : PrenexFormula). AreAlike h.last G) (sym v.formula) h.alike;
      others = h.others;
    }

pub same-formula : (j k : Seen) → k.prefix ≡ j.prefix → slots k ≡ slots j → formula_in k ≡ formula_in j
same-formula j k p s = cc

-- the pending bytes have come behind those of the file
pub has_log-written : (F : PrenexFormula) (name : List ℕ) (before : Disk) (j k : Seen) (bytes : List ℕ) (mid after : Option Disk) → HasLog F name before j mid → IfSome mid (λ disk. Appends name bytes disk after) → bytes ≡ j.text → k.text ≡ [] → k.prefix ≡ j.prefix → slots k ≡ slots j → HasLog F name before k after
has_log-written F name before j k bytes mid after h w b t p s =
    let a : Appends name j.text h.disk after = subst (λ xs. Appends name xs h.disk after) b (at_some _ mid w h.disk h.told) in
    let e : bytes_at h.disk name ≡ h.bytes = ap (λ o. unwrap_or o []) h.there in
    record {
      disk = a.disk;
      told = a.told;
      bytes = h.bytes ++ j.text;
      there = a.bytes ∙ ap (λ b. Some (b ++ j.text)) e;
      steps = h.steps;
      logged = h.logged;
      text = ap (λ x. (h.bytes ++ j.text) ++ x) t ∙ (append-nil (h.bytes ++ j.text) ∙ h.text);
      last = h.last;
      valid = h.valid;
      alike = subst (λ (G : PrenexFormula). AreAlike h.last G) (sym (same-formula j k p s)) h.alike;
      others = others-through name before h.disk a.disk h.others a.others;
    }

-- the file as it stands
pub has_log-left : (F : PrenexFormula) (name : List ℕ) (before : Disk) (k : Seen) (after : Option Disk) → HasLog F name before k after → LeavesLog F name before after
has_log-left F name before k after h =
    let e : bytes_at h.disk name ≡ h.bytes = ap (λ o. unwrap_or o []) h.there in
    record {
      disk = h.disk;
      told = h.told;
      log = inr (record { steps = h.steps; logged = h.logged; last = h.last; valid = h.valid; part = length h.bytes; bytes = e ∙ (sym (take-append_seam h.bytes k.text) ∙ ap (λ t. take (length h.bytes) t) h.text) });
      others = h.others;
    }

-- a part of the pending bytes has come
pub has_log-part : (F : PrenexFormula) (name : List ℕ) (before : Disk) (k : Seen) (bytes : List ℕ) (mid after : Option Disk) → HasLog F name before k mid → IfSome mid (λ disk. AppendsPart name bytes disk after) → bytes ≡ k.text → LeavesLog F name before after
has_log-part F name before k bytes mid after h w b =
    let a : AppendsPart name k.text h.disk after = subst (λ xs. AppendsPart name xs h.disk after) b (at_some _ mid w h.disk h.told) in
    let e : bytes_at h.disk name ≡ h.bytes = ap (λ o. unwrap_or o []) h.there in
    record {
      disk = a.disk;
      told = a.told;
      log = inr (record { steps = h.steps; logged = h.logged; last = h.last; valid = h.valid; part = length h.bytes + a.part; bytes = a.bytes ∙ (ap (λ b. b ++ take a.part k.text) e ∙ (sym (take-append-add h.bytes k.text a.part) ∙ ap (λ t. take (length h.bytes + a.part) t) h.text)) });
      others = others-through name before h.disk a.disk h.others a.others;
    }

-- nothing is pending: the file holds the whole run
pub has_log-whole : (F G : PrenexFormula) (name : List ℕ) (before : Disk) (k : Seen) (after : Option Disk) → HasLog F name before k after → k.text ≡ [] → G ≡ formula_in k → LeadsTo F G name before after
has_log-whole F G name before k after h t g =
    let text : h.bytes ≡ steps_text h.steps = sym (append-nil h.bytes) ∙ (ap (λ x. h.bytes ++ x) (sym t) ∙ h.text) in
    record {
      disk = h.disk;
      told = h.told;
      log = record {
        steps = h.steps;
        run = record { last = h.last; steps = h.valid; same = alike-same h.last G (subst (λ (K : PrenexFormula). AreAlike h.last K) (sym g) h.alike) };
        logged = h.logged;
        bytes = h.there ∙ ap (λ b. Some b) text;
      };
      others = h.others;
    }

-- a call that stopped with an error
pub stopped : {T X : Type 0} (held : X → Option Disk) (r w : X → List ℕ → ℕ) (name : List ℕ) (result : Result T DeviceError) (j k : Seen) (before after : X) (y d : DeviceError) → result ≡ Err y → y ≡ d →
    ((F : PrenexFormula) → (first : Disk) → HasLog F name first j (held before) → LeavesLog F name first (held after)) → (d ≡ Failed → RoseFor w name before after) → Later r w before after → LogGoesOn held r w name result j k before after
stopped held r w name result j k before after y d e q left cause later =
    let s : result ≡ Err d = e ∙ ap (λ (x : DeviceError). Err x) q in
    rw s (record { log = λ F first h. tt; left = left; cause = λ z. cause (cc); later = later })

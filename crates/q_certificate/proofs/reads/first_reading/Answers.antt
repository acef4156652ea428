use Rattle.std.proofs.Common.{◌≡◌, ◌<◌, ℕ, List, Some, None, length, arith, sym, subst, ap, ◌∙◌, get_or}
use Rattle.std.proofs.lemmas.Option.{slice_get_within}
use Rattle.q_logic.specs.Prelude.{CertificateView, is_exists}
use Rattle.q_aig.specs.Prelude.{Net}
use Rattle.q_certificate.specs.Refusals.{IsTooInner, input_name}
use Rattle.q_certificate.specs.Testing.{IsFirstIn}
use Rattle.q_certificate.proofs.PrefixInputs.{no_bound}
use Rattle.q_certificate.proofs.VariableTables.{allowed-forall, allowed-exists}
use Rattle.q_certificate.proofs.InputReads.{too-inner, outer-here, outer-more, outer-skip}
use Rattle.q_certificate.proofs.InputDepths.{shallow-allowed}
use Rattle.q_certificate.proofs.reads.first_reading.Goals.{in-Forall, in-Exists+in_default}
use Rattle.q_certificate.proofs.reads.first_reading.Goals as goal

pub allow-requires : goal.allow-requires
allow-requires c = record { within = λ x i e. let s = c.requires.places.sound x i e in let t : i < length c.args.given.now.inputs = s.0 in let r : length c.args.allowed.now ≡ length c.args.given.now.inputs = c.requires.room in omega arith }

pub reads_of-requires-clause-shallow : goal.reads_of-requires-clause-shallow
reads_of-requires-clause-shallow c k lt le =
    shallow-allowed c.args.prefix.now c.loop-i.i c.args.given.now.inputs c.args.depths.now.inputs.items c.loop-i.allowed c.loop-i-test.true c.requires.depths c.loop-i.invariant.allowed k
    (subst (λ (g : CertificateView). k < length g.inputs) c.loop-i.invariant.same lt) le

pub returns-in-Some-clause-found : goal.returns-in-Some-clause-found
returns-in-Some-clause-found c =
    let same : c.loop-i.given ≡ c.args.given.now = c.loop-i.invariant.same in
    let f : IsFirstIn c.args.given.now (get_or c.args.prefix.now c.loop-i.i no_bound).var c.loop-i.allowed (Some c.in-Some.place) = subst (λ (g : CertificateView). IsFirstIn g (get_or c.args.prefix.now c.loop-i.i no_bound).var c.loop-i.allowed (Some c.in-Some.place)) same c.in-Some.ensures.found in
    let names : c.inputs.result.now ≡ c.args.given.now.inputs = c.inputs.ensures.value ∙ ap (λ (n : Net). n.inputs) c.aig.ensures ∙ ap (λ (g : CertificateView). g.inputs) (c.in-Some.ensures.unchanged ∙ same) in
    let e : input_name c.args.given.now c.in-Some.place ≡ get_or c.inputs.result.now c.in-Some.place 0 = ap (λ (xs : List ℕ). get_or xs c.in-Some.place 0) (sym names) in
    subst (IsTooInner c.args.prefix.now c.args.given.now (get_or c.args.prefix.now c.loop-i.i no_bound).var) e
    (too-inner c.args.given.now c.args.prefix.now c.loop-i.i c.in-Some.place c.loop-i.allowed c.requires.distinct c.loop-i-test.true (ap is_exists c.in-Exists.is) c.loop-i.invariant.allowed f c.loop-i.invariant.outer)

pub loop-i-preserved : goal.loop-i-preserved
loop-i-preserved c = elim c.match-prefix-i.branch [
  | in-Forall w ↦ record {
    same = w.given-is ∙ c.loop-i.invariant.same;
    allowed = rw (w.allowed-is) (allowed-forall c.args.prefix.now c.loop-i.i c.args.given.now.inputs c.loop-i.allowed w.allow.new.allowed c.requires.distinct c.loop-i-test.true w.in-Forall.is c.loop-i.invariant.allowed
        (w.allow.ensures c.args.given.now.inputs c.requires.inputs c.requires.places (let r : length c.args.allowed.now ≡ length c.args.given.now.inputs = c.requires.room in omega arith)));
    outer = outer-skip c.args.given.now c.args.prefix.now c.loop-i.i (ap is_exists w.in-Forall.is) c.loop-i.invariant.outer;
  }
  | in-Exists+in_default w ↦
      let same : c.loop-i.given ≡ c.args.given.now = c.loop-i.invariant.same in
      let f : IsFirstIn c.args.given.now (get_or c.args.prefix.now c.loop-i.i no_bound).var c.loop-i.allowed None = subst (λ (g : CertificateView). IsFirstIn g (get_or c.args.prefix.now c.loop-i.i no_bound).var c.loop-i.allowed None) same w.in_default.ensures.found in
      record {
        same = w.given-is ∙ w.in_default.ensures.unchanged ∙ same;
        allowed = rw (w.allowed-is) (allowed-exists c.args.prefix.now c.loop-i.i c.args.given.now.inputs c.loop-i.allowed c.requires.distinct c.loop-i-test.true w.in-Exists.is c.loop-i.invariant.allowed);
        outer = outer-more c.args.given.now c.args.prefix.now c.loop-i.i c.loop-i-test.true (outer-here c.args.given.now c.args.prefix.now c.loop-i.i c.loop-i.allowed c.requires.distinct c.loop-i-test.true c.loop-i.invariant.allowed f) c.loop-i.invariant.outer;
      }
]

pub returns-clause-found : goal.returns-clause-found
returns-clause-found c = λ j b e q. c.loop-i.invariant.outer j b (let l = slice_get_within c.args.prefix.now j b e in omega arith) e q

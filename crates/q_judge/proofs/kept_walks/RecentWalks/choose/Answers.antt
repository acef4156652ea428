use Rattle.std.proofs.Common.{◌≡◌, ◌∷◌, [], List, sym, subst, inl, inr}
use Rattle.q_logic.proofs.Common.{IsIn-append}
use Rattle.q_judge.specs.Walks.{WalkMap, AreEnclosed}
use Rattle.q_judge.proofs.KeptWalks.{enclosed-none}
use Rattle.q_judge.proofs.kept_walks.RecentWalks.choose.Goals as goal
use Rattle.q_judge.proofs.kept_walks.RecentWalks.choose.Goals.{then-len-lt-MOST+in_ok-push, else-len-lt-MOST}

pub returns-in_err-push-clause-walks : goal.returns-in_err-push-clause-walks
returns-in_err-push-clause-walks c P X all =
    subst (λ (Rs : List WalkMap). AreEnclosed P X Rs) (sym c.in_err-push.ensures.items) (subst (λ (Rs : List WalkMap). AreEnclosed P X Rs) (sym c.self.view_is) all)

pub returns-clause-walks : goal.returns-clause-walks
returns-clause-walks c P X all =
    let was = subst (λ (Rs : List WalkMap). AreEnclosed P X Rs) (sym c.self.view_is) all in
    let kept : AreEnclosed P X c.if-len-lt-MOST.self-inside.walks.items = elim c.if-len-lt-MOST.branch [
      | then-len-lt-MOST+in_ok-push w ↦ rw (w.self-inside-is, w.in_ok-push.ensures.items) (λ R m. elim (IsIn-append R c.self.inside.walks.items (w.new.result ∷ []) m) [
        | inl a ↦ was R a
        | inr b ↦ elim b [ inl e ↦ enclosed-none P X R (subst (λ (S : WalkMap). S.known ≡ []) (sym e) w.new.ensures) | inr n ↦ absurd n ]
      ])
      | else-len-lt-MOST w ↦ rw w.self-inside-is was
    ] in
    kept

use Rattle.std.proofs.Common.{◌∙◌, ap, sym, inl, Err}
use Rattle.std.proofs.lemmas.Result.{err_from_is_err_and}
use Rattle.q_reduce.proofs.LearnedKept.{fit-same}
use Rattle.q_io.specs.declared.error.DeviceError.TheVariants.{NoMemory}
use Rattle.q_io.proofs.FaultCounts.{later_still, rose_later}
use Rattle.q_sched.specs.AlarmViews.{view_alarm}
use Rattle.q_sched.proofs.AlarmTurns.{quiet-heard, quiet-through, rung-heard, rung-through}
use Rattle.q_simplify.proofs.AskedTurns.{asked-still, heeds-quiet, heeds-rung}
use Rattle.q_simplify.proofs.LogFile.{has_log-left, stopped}
use Rattle.q_simplify.proofs.StoppedRuns.{rang-stops}
use Rattle.q_simplify.proofs.TurnEffects.{has_log-turned, moves-turned, moves-flushed, stops-settled, stops-spent, ready-flushed}
use Rattle.q_simplify.proofs.driving.take_turns.Goals as goal

pub returns-in_err-take_turn-clause-goes_on : goal.returns-in_err-take_turn-clause-goes_on
returns-in_err-take_turn-clause-goes_on g c =
    let p = err_from_is_err_and c.from_residual.result c.from_residual.ensures.1 in
    stopped _ _ _ _ _ _ _ _ _ p.0 NoMemory p.1 p.2
    (λ G first h. has_log-left G c.args.log.now first c.loop-files.kernel (g.F.Files.held c.loop-files.files) (c.loop-files.invariant.log G first h))
    (λ e. cc) c.loop-files.invariant.later

pub returns-in_err-flush-in-Moved-clause-goes_on : goal.returns-in_err-flush-in-Moved-clause-goes_on
returns-in_err-flush-in-Moved-clause-goes_on g c =
    let p = err_from_is_err_and c.from_residual-in_err-flush-in-Moved.result c.from_residual-in_err-flush-in-Moved.ensures.1 in
    stopped _ _ _ _ _ _ _ _ _ p.0 _ p.1 p.2
    (λ G first h. c.in_err-flush-in-Moved.ensures.goes_on.left G first (has_log-turned c.in_ok-take_turn.field-0 _ G c.args.log.now first c.loop-files.kernel c.take_turn.new.kernel (g.F.Files.held c.loop-files.files) c.in_ok-take_turn.ensures.turn.ends (c.loop-files.invariant.log G first h)))
    (λ e. rose_later _ _ _ (c.loop-files.invariant.later.write c.args.log.now) (c.in_err-flush-in-Moved.ensures.goes_on.cause (ap Err e)))
    (later_still _ _ _ _ _ c.loop-files.invariant.later c.in_err-flush-in-Moved.ensures.goes_on.later)

pub loop-files-preserved-in-Continue-branch-3 : goal.loop-files-preserved-in-Continue-branch-3
loop-files-preserved-in-Continue-branch-3 g c =
    record {
      frame = record {
        bounds = c.in_ok-take_turn.ensures.turn.frame.bounds ∙ c.loop-files.invariant.frame.bounds;
        budget = c.in_ok-take_turn.ensures.turn.frame.budget ∙ c.loop-files.invariant.frame.budget;
        first_measure = c.in_ok-take_turn.ensures.turn.frame.first_measure ∙ c.loop-files.invariant.frame.first_measure;
      };
      ready = ready-flushed c.take_turn.new.kernel c.flush.new.kernel c.flush.ensures.prefix c.flush.ensures.clauses c.take_turn.ensures.ready;
      moves = moves-flushed _ _ _ _ c.take_turn.new.kernel c.flush.new.kernel c.flush.ensures.prefix c.flush.ensures.clauses (moves-turned c.in_ok-take_turn.field-0 _ _ _ c.loop-files.kernel c.take_turn.new.kernel c.loop-files.invariant.frame c.in_ok-take_turn.ensures.turn.ends c.loop-files.invariant.moves);
      fit = fit-same c.take_turn.new.kernel c.flush.new.kernel _ c.flush.ensures.prefix c.flush.ensures.clauses c.take_turn.ensures.fit;
      log = λ G first h. c.in_ok-flush-in-Moved.ensures.goes_on.log G first (has_log-turned c.in_ok-take_turn.field-0 _ G c.args.log.now first c.loop-files.kernel c.take_turn.new.kernel (g.F.Files.held c.loop-files.files) c.in_ok-take_turn.ensures.turn.ends (c.loop-files.invariant.log G first h));
      quiet = quiet-through (view_alarm g.A.Alarm c.args.alarm.now) (view_alarm g.A.Alarm c.loop-files.alarm) (view_alarm g.A.Alarm c.take_turn.new.alarm) c.loop-files.invariant.quiet (heeds-quiet c.in_ok-take_turn.field-0 (view_alarm g.A.Alarm c.loop-files.alarm) (view_alarm g.A.Alarm c.take_turn.new.alarm) (λ e. let z = sym c.in-Moved.is ∙ e in cc) c.in_ok-take_turn.ensures.heeds);
      later = later_still _ _ _ _ _ c.loop-files.invariant.later c.in_ok-flush-in-Moved.ensures.goes_on.later;
    }

pub loop-files-preserved : goal.loop-files-preserved
loop-files-preserved g c =
    record {
      frame = record {
        bounds = c.in_ok-take_turn.ensures.turn.frame.bounds ∙ c.loop-files.invariant.frame.bounds;
        budget = c.in_ok-take_turn.ensures.turn.frame.budget ∙ c.loop-files.invariant.frame.budget;
        first_measure = c.in_ok-take_turn.ensures.turn.frame.first_measure ∙ c.loop-files.invariant.frame.first_measure;
      };
      ready = c.take_turn.ensures.ready;
      moves = moves-turned c.in_ok-take_turn.field-0 _ _ _ c.loop-files.kernel c.take_turn.new.kernel c.loop-files.invariant.frame c.in_ok-take_turn.ensures.turn.ends c.loop-files.invariant.moves;
      fit = c.take_turn.ensures.fit;
      log = λ G first h. has_log-turned c.in_ok-take_turn.field-0 _ G c.args.log.now first c.loop-files.kernel c.take_turn.new.kernel (g.F.Files.held c.loop-files.files) c.in_ok-take_turn.ensures.turn.ends (c.loop-files.invariant.log G first h);
      quiet = quiet-through (view_alarm g.A.Alarm c.args.alarm.now) (view_alarm g.A.Alarm c.loop-files.alarm) (view_alarm g.A.Alarm c.take_turn.new.alarm) c.loop-files.invariant.quiet (heeds-quiet c.in_ok-take_turn.field-0 (view_alarm g.A.Alarm c.loop-files.alarm) (view_alarm g.A.Alarm c.take_turn.new.alarm) (λ e. let z = sym c.in-Asked.is ∙ e in cc) c.in_ok-take_turn.ensures.heeds);
      later = c.loop-files.invariant.later;
    }

pub returns-in-Settled-clause-goes_on : goal.returns-in-Settled-clause-goes_on
returns-in-Settled-clause-goes_on g c =
    record {
      log = λ G first h. has_log-turned c.in_ok-take_turn.field-0 _ G c.args.log.now first c.loop-files.kernel c.take_turn.new.kernel (g.F.Files.held c.loop-files.files) c.in_ok-take_turn.ensures.turn.ends (c.loop-files.invariant.log G first h);
      left = λ G first h. tt;
      cause = λ e. cc;
      later = c.loop-files.invariant.later;
    }

pub returns-in-Spent-clause-goes_on : goal.returns-in-Spent-clause-goes_on
returns-in-Spent-clause-goes_on g c =
    record {
      log = λ G first h. has_log-turned c.in_ok-take_turn.field-0 _ G c.args.log.now first c.loop-files.kernel c.take_turn.new.kernel (g.F.Files.held c.loop-files.files) c.in_ok-take_turn.ensures.turn.ends (c.loop-files.invariant.log G first h);
      left = λ G first h. tt;
      cause = λ e. cc;
      later = c.loop-files.invariant.later;
    }

pub returns-in-Settled-clause-stops : goal.returns-in-Settled-clause-stops
returns-in-Settled-clause-stops g c =
    inl (stops-settled c.in_ok-take_turn.field-0 _ _ c.args.kernel.now c.loop-files.kernel c.take_turn.new.kernel c.in-Settled.is c.loop-files.invariant.frame c.in_ok-take_turn.ensures.turn.ends c.loop-files.invariant.moves)

pub returns-in-Spent-clause-stops : goal.returns-in-Spent-clause-stops
returns-in-Spent-clause-stops g c =
    inl (stops-spent c.in_ok-take_turn.field-0 _ _ c.args.kernel.now c.loop-files.kernel c.take_turn.new.kernel c.in-Spent.is c.loop-files.invariant.frame c.in_ok-take_turn.ensures.turn.ends c.loop-files.invariant.moves)

-- the alarm rang
pub returns-in-GaveWay-clause-stops : goal.returns-in-GaveWay-clause-stops
returns-in-GaveWay-clause-stops g c =
    rang-stops (view_alarm g.A.Alarm c.args.alarm.now) (view_alarm g.A.Alarm c.take_turn.new.alarm) c.close.result _ c.args.kernel.now c.take_turn.new.kernel
    (rung-through (view_alarm g.A.Alarm c.args.alarm.now) (view_alarm g.A.Alarm c.loop-files.alarm) (view_alarm g.A.Alarm c.take_turn.new.alarm) c.loop-files.invariant.quiet (heeds-rung c.in_ok-take_turn.field-0 (view_alarm g.A.Alarm c.loop-files.alarm) (view_alarm g.A.Alarm c.take_turn.new.alarm) c.in-GaveWay.is c.in_ok-take_turn.ensures.heeds)).rang
    c.requires.fell (moves-turned c.in_ok-take_turn.field-0 _ _ _ c.loop-files.kernel c.take_turn.new.kernel c.loop-files.invariant.frame c.in_ok-take_turn.ensures.turn.ends c.loop-files.invariant.moves) (c.close.ensures _)

pub returns-in-GaveWay-clause-goes_on : goal.returns-in-GaveWay-clause-goes_on
returns-in-GaveWay-clause-goes_on g c =
    record {
      log = λ G first h. has_log-turned c.in_ok-take_turn.field-0 _ G c.args.log.now first c.loop-files.kernel c.take_turn.new.kernel (g.F.Files.held c.loop-files.files) c.in_ok-take_turn.ensures.turn.ends (c.loop-files.invariant.log G first h);
      left = λ G first h. tt;
      cause = λ e. cc;
      later = c.loop-files.invariant.later;
    }

pub returns-in_err-take_turn-clause-heard : goal.returns-in_err-take_turn-clause-heard
returns-in_err-take_turn-clause-heard g c = quiet-heard (view_alarm g.A.Alarm c.args.alarm.now) (view_alarm g.A.Alarm c.take_turn.new.alarm) (quiet-through (view_alarm g.A.Alarm c.args.alarm.now) (view_alarm g.A.Alarm c.loop-files.alarm) (view_alarm g.A.Alarm c.take_turn.new.alarm) c.loop-files.invariant.quiet c.in_err-take_turn.ensures.quiet)

pub returns-in_err-take_turn-clause-asked : goal.returns-in_err-take_turn-clause-asked
returns-in_err-take_turn-clause-asked g c = asked-still (view_alarm g.A.Alarm c.args.alarm.now) (view_alarm g.A.Alarm c.loop-files.alarm) (view_alarm g.A.Alarm c.take_turn.new.alarm) c.loop-files.invariant.quiet c.take_turn.ensures.asked

pub returns-in_err-flush-in-Moved-clause-heard : goal.returns-in_err-flush-in-Moved-clause-heard
returns-in_err-flush-in-Moved-clause-heard g c = quiet-heard (view_alarm g.A.Alarm c.args.alarm.now) (view_alarm g.A.Alarm c.take_turn.new.alarm) (quiet-through (view_alarm g.A.Alarm c.args.alarm.now) (view_alarm g.A.Alarm c.loop-files.alarm) (view_alarm g.A.Alarm c.take_turn.new.alarm) c.loop-files.invariant.quiet (heeds-quiet c.in_ok-take_turn.field-0 (view_alarm g.A.Alarm c.loop-files.alarm) (view_alarm g.A.Alarm c.take_turn.new.alarm) (λ e. let z = sym c.in-Moved.is ∙ e in cc) c.in_ok-take_turn.ensures.heeds))

pub returns-in_err-flush-in-Moved-clause-asked : goal.returns-in_err-flush-in-Moved-clause-asked
returns-in_err-flush-in-Moved-clause-asked g c = asked-still (view_alarm g.A.Alarm c.args.alarm.now) (view_alarm g.A.Alarm c.loop-files.alarm) (view_alarm g.A.Alarm c.take_turn.new.alarm) c.loop-files.invariant.quiet c.take_turn.ensures.asked

pub returns-in-Settled-clause-heard : goal.returns-in-Settled-clause-heard
returns-in-Settled-clause-heard g c = quiet-heard (view_alarm g.A.Alarm c.args.alarm.now) (view_alarm g.A.Alarm c.take_turn.new.alarm) (quiet-through (view_alarm g.A.Alarm c.args.alarm.now) (view_alarm g.A.Alarm c.loop-files.alarm) (view_alarm g.A.Alarm c.take_turn.new.alarm) c.loop-files.invariant.quiet (heeds-quiet c.in_ok-take_turn.field-0 (view_alarm g.A.Alarm c.loop-files.alarm) (view_alarm g.A.Alarm c.take_turn.new.alarm) (λ e. let z = sym c.in-Settled.is ∙ e in cc) c.in_ok-take_turn.ensures.heeds))

pub returns-in-Settled-clause-asked : goal.returns-in-Settled-clause-asked
returns-in-Settled-clause-asked g c = asked-still (view_alarm g.A.Alarm c.args.alarm.now) (view_alarm g.A.Alarm c.loop-files.alarm) (view_alarm g.A.Alarm c.take_turn.new.alarm) c.loop-files.invariant.quiet c.take_turn.ensures.asked

pub returns-in-Spent-clause-heard : goal.returns-in-Spent-clause-heard
returns-in-Spent-clause-heard g c = quiet-heard (view_alarm g.A.Alarm c.args.alarm.now) (view_alarm g.A.Alarm c.take_turn.new.alarm) (quiet-through (view_alarm g.A.Alarm c.args.alarm.now) (view_alarm g.A.Alarm c.loop-files.alarm) (view_alarm g.A.Alarm c.take_turn.new.alarm) c.loop-files.invariant.quiet (heeds-quiet c.in_ok-take_turn.field-0 (view_alarm g.A.Alarm c.loop-files.alarm) (view_alarm g.A.Alarm c.take_turn.new.alarm) (λ e. let z = sym c.in-Spent.is ∙ e in cc) c.in_ok-take_turn.ensures.heeds))

pub returns-in-Spent-clause-asked : goal.returns-in-Spent-clause-asked
returns-in-Spent-clause-asked g c = asked-still (view_alarm g.A.Alarm c.args.alarm.now) (view_alarm g.A.Alarm c.loop-files.alarm) (view_alarm g.A.Alarm c.take_turn.new.alarm) c.loop-files.invariant.quiet c.take_turn.ensures.asked

pub returns-in-GaveWay-clause-heard : goal.returns-in-GaveWay-clause-heard
returns-in-GaveWay-clause-heard g c = rung-heard (view_alarm g.A.Alarm c.args.alarm.now) (view_alarm g.A.Alarm c.take_turn.new.alarm) (rung-through (view_alarm g.A.Alarm c.args.alarm.now) (view_alarm g.A.Alarm c.loop-files.alarm) (view_alarm g.A.Alarm c.take_turn.new.alarm) c.loop-files.invariant.quiet (heeds-rung c.in_ok-take_turn.field-0 (view_alarm g.A.Alarm c.loop-files.alarm) (view_alarm g.A.Alarm c.take_turn.new.alarm) c.in-GaveWay.is c.in_ok-take_turn.ensures.heeds))

pub returns-in-GaveWay-clause-asked : goal.returns-in-GaveWay-clause-asked
returns-in-GaveWay-clause-asked g c = asked-still (view_alarm g.A.Alarm c.args.alarm.now) (view_alarm g.A.Alarm c.loop-files.alarm) (view_alarm g.A.Alarm c.take_turn.new.alarm) c.loop-files.invariant.quiet c.take_turn.ensures.asked

use Rattle.std.proofs.Common.{arith}
use Rattle.q_logic.proofs.Common.{on_err}
use Rattle.q_sched.proofs.ReversedLists.{asks_last}
use Rattle.q_sched.proofs.asking.ask_last.Goals as goal

pub returns-in_err-reply-clause-err_list : goal.returns-in_err-reply-clause-err_list
returns-in_err-reply-clause-err_list g c =
    on_err _ (asks_last _ _ _ c.args.waiting.now.items _ c.index_mut.result.now c.consult.new.guide _ (omega (arith, c.len-last_place.ensures)) c.index_mut.ensures.value c.in_err-reply.ensures.rises tt)

pub returns-clause-asks : goal.returns-clause-asks
returns-clause-asks g c =
    asks_last _ _ _ c.args.waiting.now.items _ c.index_mut.result.now c.consult.new.guide _ (omega (arith, c.len-last_place.ensures)) c.index_mut.ensures.value c.in_ok-reply.ensures.rises c.in_ok-reply.ensures.reply

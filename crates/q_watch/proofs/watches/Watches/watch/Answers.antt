use Rattle.std.proofs.Common.{List, sym, subst}
use Rattle.std.proofs.lemmas.Result.{on_ok_weaker}
use Rattle.q_watch.specs.declared.entry.Entry.{Entry}
use Rattle.q_watch.specs.Rows.{HasEntry}
use Rattle.q_watch.proofs.RowLemmas.{entry-pushed, entry-end}
use Rattle.q_watch.proofs.watches.Watches.watch.Goals as goal

pub returns-clause-here : goal.returns-clause-here
returns-clause-here c = on_ok_weaker c.put_at.result (λ e D p. record {
  pair = c.args.pair.now;
  there = e;
  of = p;
  first_row = entry-pushed c.push.new.self c.push-2.new.self c.args.pair.now.second _ c.in_ok-push-2.ensures.ok c.args.pair.now.first 0 c.args.id D
      (subst (λ (r : List Entry). HasEntry r 0 c.args.id D) (sym c.in_ok-push.ensures.ok.here) (entry-end _ c.args.id c.args.pair.now.second D p.second_in));
  second_row = subst (λ (r : List Entry). HasEntry r 0 c.args.id D) (sym c.in_ok-push-2.ensures.ok.here) (entry-end _ c.args.id c.args.pair.now.first D p.first_in);
}) c.put_at.ensures.here

pub returns-clause-others : goal.returns-clause-others
returns-clause-others c = on_ok_weaker c.put_at.result (λ e d D n r. record {
  pair = r.pair;
  there = e d r.pair n r.there;
  of = r.of;
  first_row = entry-pushed c.push.new.self c.push-2.new.self c.args.pair.now.second _ c.in_ok-push-2.ensures.ok r.pair.first 0 d D
      (entry-pushed c.args.self.now.rows c.push.new.self c.args.pair.now.first _ c.in_ok-push.ensures.ok r.pair.first 0 d D r.first_row);
  second_row = entry-pushed c.push.new.self c.push-2.new.self c.args.pair.now.second _ c.in_ok-push-2.ensures.ok r.pair.second 0 d D
      (entry-pushed c.args.self.now.rows c.push.new.self c.args.pair.now.first _ c.in_ok-push.ensures.ok r.pair.second 0 d D r.second_row);
}) c.put_at.ensures.others

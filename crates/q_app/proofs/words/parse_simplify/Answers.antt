use Rattle.q_app.proofs.words.parse_simplify.Goals as goal

pub returns-in-Some-of-clause-fit : goal.returns-in-Some-of-clause-fit
returns-in-Some-of-clause-fit c = c.in-Some.ensures.apart

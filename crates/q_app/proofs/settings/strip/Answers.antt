use Rattle.std.proofs.Common.{◌∙◌, ap}
use Rattle.std.proofs.lemmas.Slice.Eq.{strip_prefix_is}
use Rattle.std.proofs.lemmas.Bool.Decides.{Decides-eqb}
use Rattle.q_app.specs.Words.{behind}
use Rattle.q_app.proofs.OptionWords.{strip-some, strip-none}
use Rattle.q_app.proofs.settings.strip.Goals as goal

pub returns-in-Some : goal.returns-in-Some
returns-in-Some c =
    strip-some c.as_bytes.result.now c.args.front.now c.strip_prefix.result c.in-Some.rest (strip_prefix_is Decides-eqb c.as_bytes.result.now c.args.front.now c.strip_prefix.result c.strip_prefix.ensures.cases) c.in-Some.is ∙ ap (behind c.args.front.now) c.as_bytes.ensures.value

pub returns-in-None : goal.returns-in-None
returns-in-None c =
    strip-none c.as_bytes.result.now c.args.front.now c.strip_prefix.result (strip_prefix_is Decides-eqb c.as_bytes.result.now c.args.front.now c.strip_prefix.result c.strip_prefix.ensures.cases) c.in-None.is ∙ ap (behind c.args.front.now) c.as_bytes.ensures.value

use Rattle.std.proofs.Common.{◌≡◌, ◌≤◌, ◌+◌, length}
use Rattle.q_guides.specs.MoveTexts.{lines, wrong_from, wrong_line}
use Rattle.q_guides.proofs.move_text.wrong_line.Given as goal

abbrev pub invariant-loop-before : goal.invariant-loop-before
invariant-loop-before l =
    record {
      few : length l.left + l.before ≤ length l.text;
      wrong : wrong_line l.text ≡ wrong_from (l.before + 1) (lines l.left);
    }

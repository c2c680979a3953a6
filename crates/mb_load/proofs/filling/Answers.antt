use Rattle.std.proofs.Common.{◌+◌, ◌++◌, ap, ◌∙◌}
use Rattle.mb_load.specs.Pair.{following, kind_of, push_line, left_script}
use Rattle.mb_load.proofs.Steps.{number_next, script_next}
use Rattle.mb_load.proofs.filling.Goals as goal

pub loop-done-preserved : goal.loop-done-preserved
loop-done-preserved c =
    let drawn = c.following-drawn.ensures ∙ ap following c.loop-done.invariant.drawn ∙ number_next c.args.start c.loop-done.done in
    record {
      drawn = drawn;
      script =
          c.in_ok-push_str-2.ensures.bytes
          ∙ ap (λ before. before ++ c.as_str.result.now) c.loop-done.invariant.script
          ∙ ap (λ line. left_script c.args.start c.loop-done.done ++ line)
          (c.as_str.ensures.value ∙ c.in_ok-line.ensures ∙ ap (λ n. push_line (kind_of n) (c.loop-done.done + 1)) drawn)
          ∙ script_next c.args.start c.loop-done.done;
    }

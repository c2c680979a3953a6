use Rattle.std.proofs.Common.{◌∙◌, ap, sym, ◌++◌}
use Rattle.std.proofs.lemmas.Iterator.{YieldsList-from_chars}
use Rattle.std.proofs.lemmas.Iterator.Consumers.{YieldsList-end}
use Rattle.std.specs.Char.Escape.{encode_utf16}
use Rattle.std.specs.List.{flat_map}
use Rattle.mb_policy.specs.Fields.{text_units}
use Rattle.mb_policy.proofs.Units.{units-push, map_same}
use Rattle.mb_policy.proofs.fields.units.Goals as goal

pub loop-ch-preserved : goal.loop-ch-preserved
loop-ch-preserved c =
    c.in_ok-add_char.ensures ∙ ap (λ t. t ++ encode_utf16 c.in-Some.ch) c.loop-ch.invariant ∙ sym (units-push c.loop-ch.yielded c.in-Some.ch)

pub returns : goal.returns
unfolding text_units
returns c =
    let t = YieldsList-end (YieldsList-from_chars c.args.text.now c.utf8.text cc) c.loop-ch.yielded _ c.loop-ch.yielded_by _ _ c.in-None.is c.next.ensures.steps in
    c.loop-ch.invariant ∙ ap (flat_map encode_utf16) (sym (map_same c.loop-ch.yielded) ∙ t.0)

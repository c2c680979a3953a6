use Rattle.std.proofs.Common.{◌≡◌, sym, subst, option_map, Option}
use Rattle.std.specs.Prelude.{IfSome, IfOk}
use Rattle.mb_desc.specs.View.{View}
use Rattle.mb_view.specs.Views.{property_of}
use Rattle.mb_world.specs.Value.{Val}
use Rattle.mb_world.specs.Key.{PropertyKey, same_key}
use Rattle.mb_world.specs.Image.{names_of, key_in, full_in}
use Rattle.mb_shadow.proofs.Listed.{seen-through}
use Rattle.mb_shadow.proofs.seeing.seen.Goals as goal

pub returns-clause-meaning : goal.returns-clause-meaning
returns-clause-meaning c =
    subst
    (λ (v : Option (View PropertyKey Val)). IfOk c.property_seen.result (λ own. IfSome v (λ view.
    option_map (full_in (names_of c.property_seen.new.w)) own ≡ property_of same_key view (key_in (names_of c.args.w.now) c.args.key))))
    (sym c.in-Some.ensures.view)
    (seen-through c.args.w.now c.property_seen.new.w c.in-Some.sight c.in-Some.ensures.sight c.args.key c.property_seen.result c.property_seen.ensures.meaning)

use Rattle.std.proofs.Common.{◌≡◌, None}
use Rattle.std.proofs.lemmas.List.Elements.{All-nil}
use Rattle.mb_base.specs.declared.value.Value.TheVariants.{Null}
use Rattle.mb_world.specs.Data.{made}
use Rattle.mb_world.specs.Contained.{IsOwn}
use Rattle.mb_maps.proofs.Objects.{can-made}
use Rattle.mb_maps.proofs.tests.object.Goals as goal

pub returns : goal.returns
returns g c =
    let e : c.make.new.self ≡ made c.args.w.now c.args.home c.object_kind-kind.result Null None = rw c.expect.ensures at c.make.ensures.made in
    rw e (can-made c.args.w.now c.args.home c.object_kind-kind.result Null None c.ids.ensures c.requires
    c.object_kind-kind.ensures.object c.object_kind-kind.ensures.own (All-nil (IsOwn c.args.w.now c.args.home)))

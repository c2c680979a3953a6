use Rattle.std.proofs.Common.{◌≡◌, ◌∙◌, refl, sym, subst, false}
use Rattle.mb_base.specs.declared.value.Value.{Value}
use Rattle.mb_base.specs.declared.value.Value.TheVariants as v
use Rattle.mb_maps.specs.Crossing.{IsForeign}
use Rattle.mb_base.specs.declared.value.Side.{Side}
use Rattle.mb_world.specs.Contained.{IsOwn}
use Rattle.mb_maps.proofs.Worlds.{crossed-same, paired-from}
use Rattle.mb_maps.proofs.Calls.{joined-own, primitive-own, no-references, crossed-itself, own-after, meaning-after, back-after}
use Rattle.mb_maps.proofs.crossing.cross.Goals as goal

pub returns-then-joined-clause-crossed : goal.returns-then-joined-clause-crossed
returns-then-joined-clause-crossed c =
    sym (crossed-itself c.args.w.now c.args.to c.args.v c.args.v (joined-own c.args.w.now c.args.to c.args.v (sym c.joined.ensures ∙ c.if-joined.true)))

pub returns-then-joined-clause-stays : goal.returns-then-joined-clause-stays
returns-then-joined-clause-stays c = crossed-same c.args.w.now

pub returns-in_ok-own-in-Object-clause-own : goal.returns-in_ok-own-in-Object-clause-own
returns-in_ok-own-in-Object-clause-own c =
    own-after c.args.w.now c.cross_object.new.w c.args.to (v.Object c.in-Object.id) (v.Object c.in_ok-own-in-Object.own) c.requires.world
    c.cross_object.ensures.stays c.in_ok-own-in-Object.ensures.value (subst (λ (x : Value). c.args.w.now.joined ≡ false → IsForeign c.args.w.now c.args.to x) c.in-Object.is c.requires.foreign)

pub returns-in_ok-own-in-Object-clause-meaning : goal.returns-in_ok-own-in-Object-clause-meaning
returns-in_ok-own-in-Object-clause-meaning c =
    meaning-after c.args.w.now c.cross_object.new.w c.args.to c.args.v (v.Object c.in_ok-own-in-Object.own) c.requires.world
    c.cross_object.ensures.stays (rw c.in-Object.is c.in_ok-own-in-Object.ensures.value) c.requires.foreign c.requires.value

pub returns-in_ok-own-in-Object-clause-back : goal.returns-in_ok-own-in-Object-clause-back
returns-in_ok-own-in-Object-clause-back c =
    back-after c.args.w.now c.cross_object.new.w c.args.to c.args.v (v.Object c.in_ok-own-in-Object.own) c.requires.world
    c.cross_object.ensures.stays (rw c.in-Object.is c.in_ok-own-in-Object.ensures.value)

pub returns-in_default : goal.returns-in_default
returns-in_default c =
    let apart : c.args.w.now.joined ≡ false = sym c.joined.ensures ∙ c.if-joined.false in
    let own = λ (side : Side). primitive-own c.args.w.now apart side c.args.v c.in_default.not-Object in
    record {
      value = own c.args.to;
      crossed = sym (crossed-itself c.args.w.now c.args.to c.args.v c.args.v (own c.args.to));
      refused = tt;
      known = λ h. refl;
      joined = λ h. (refl, refl);
      stays = crossed-same c.args.w.now;
      paired = λ h. paired-from c.args.w.now c.args.w.now (λ id x e. e) (c.requires.world h).paired;
      runs = refl;
      halts = tt;
      within = c.requires.value;
      own = λ h. no-references c.args.w.now apart (IsOwn c.args.w.now c.args.to) c.args.v c.in_default.not-Object;
      meaning = refl;
      back = λ from h. own from;
    }

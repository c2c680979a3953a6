use Rattle.std.specs.Prelude.{option_map}
use Rattle.mb_arrayapi.proofs.Needing.{Part-called, Part-uncalled, callable-held}
use Rattle.mb_arrayapi.proofs.beginning.reduce.Goals as goal
use Rattle.mb_frames.specs.Sorts.{AValue}
use Rattle.mb_model.specs.BuiltIns.ArrayMembers.{reduce_each}
use Rattle.mb_world.specs.Image.{Resolve, names_of, object_in}

pub returns-then-not-can_call-clause-part : goal.returns-then-not-can_call-clause-part
returns-then-not-can_call-clause-part c =
    let d = c.args.w.now in
    let n = names_of d in
    let s = c.args.home.0 in
    let f = c.args.fuel.now in
    Part-uncalled c.args.home c.type_error.result d c.type_error.new.w f f c.args.function
    (reduce_each s (object_in n c.args.object) (Resolve n c.args.function) c.args.length 0
    (option_map (Resolve n) c.args.first))
    c.can_call.result c.can_call.ensures c.if-not-can_call.true (c.type_error.ensures.part f)

pub returns-then-not-can_call-clause-keeps : goal.returns-then-not-can_call-clause-keeps
returns-then-not-can_call-clause-keeps c = c.type_error.ensures.keeps AValue

pub turns_from-requires : goal.turns_from-requires
turns_from-requires c =
    let a = c.requires.acts in
    let h = a.holds in
    record {
      acts = record {
        ready = a.ready;
        side = a.side;
        holds = rw c.all_of.ensures (
          h.0,
          (
            callable-held c.args.w.now c.args.home c.args.function c.can_call.result c.can_call.ensures
                c.if-not-can_call.false h.1.0,
            h.1.1,
          ),
        );
      };
    }

pub returns-clause-part : goal.returns-clause-part
returns-clause-part c =
    let d = c.args.w.now in
    let n = names_of d in
    let s = c.args.home.0 in
    Part-called c.args.home c.turns_from.result d c.turns_from.new.w c.args.fuel.now c.turns_from.new.fuel
    c.args.function
    (reduce_each s (object_in n c.args.object) (Resolve n c.args.function) c.args.length 0
    (option_map (Resolve n) c.args.first))
    c.can_call.result c.can_call.ensures c.if-not-can_call.false (rw c.all_of.ensures at c.turns_from.ensures.part)

use Rattle.std.proofs.Common.{Bool, [], refl, subst, sym, ◌∷◌}
use Rattle.mb_arrayapi.proofs.Acting.{Part-same, Part-value, gives}
use Rattle.mb_arrayapi.proofs.Arguments.{argument-held, one-is}
use Rattle.mb_arrayapi.proofs.TablePlaces.{gives-value}
use Rattle.mb_arrayapi.proofs.step.run.Goals as goal
use Rattle.mb_arrayapi.specs.machine.Membering.{argument}
use Rattle.mb_base.specs.declared.value.Value.TheVariants as v
use Rattle.mb_frames.proofs.HeldLess.{undefined-held}
use Rattle.mb_frames.specs.Held.{HeldValue, HeldValues}
use Rattle.mb_frames.specs.Ready.{KeepsBy}
use Rattle.mb_frames.specs.Resolved.{values_in}
use Rattle.mb_frames.specs.Sorts.{Sort, run_gives}
use Rattle.mb_model.specs.BuiltIns.Arguments.{arg, undefined}
use Rattle.mb_model.specs.BuiltIns.Arrays.{is_array_row}
use Rattle.mb_world.specs.Image.{Resolve, names_of}

pub is_array_row-requires : goal.is_array_row-requires
is_array_row-requires c =
    let a = c.requires.acts in
    rw c.argument.ensures
    (record {
      acts = record {
        ready = a.ready;
        side = a.side;
        holds = (argument-held c.args.w.now c.args.home c.args.arguments a.holds.1.0 0, tt);
      };
    })

pub returns-in-4-clause-row : goal.returns-in-4-clause-row
returns-in-4-clause-row c = λ f. rw c.in-4.is (c.array_row.ensures.part f)

pub returns-in-34-clause-row : goal.returns-in-34-clause-row
returns-in-34-clause-row c = λ f.
    let d = c.args.w.now in
    let n = names_of d in
    let s = c.args.home.0 in
    let vs = values_in n c.args.arguments in
    let part = rw c.argument.ensures at (c.is_array_row.ensures.part f) in
    rw c.in-34.is
    (Part-same c.args.home c.is_array_row.result d c.is_array_row.new.w f f (is_array_row s (arg vs 0))
    (is_array_row s (Resolve n (argument c.args.arguments 0))) (one-is n c.args.arguments (is_array_row s)) part)

pub returns-in-24-clause-row : goal.returns-in-24-clause-row
returns-in-24-clause-row c = λ f.
    rw (c.in-24.is, c.value.ensures) (Part-value c.args.home c.args.w.now f undefined v.Undefined tt refl)

pub returns-in-24-clause-keeps : goal.returns-in-24-clause-keeps
returns-in-24-clause-keeps c =
    let d = c.args.w.now in
    let held = HeldValue c.args.this ∷ HeldValues c.args.arguments ∷ HeldValue c.args.target ∷ [] in
    rw (c.in-24.is, c.value.ensures, gives-value c.args.target)
    (gives d c.args.home held c.requires.acts v.Undefined (undefined-held d c.args.home))

pub returns-in_default-clause-row : goal.returns-in_default-clause-row
returns-in_default-clause-row c = λ f.
    c.member.ensures.row f (Resolve (names_of c.args.w.now) c.args.target)

pub returns-in_default-clause-keeps : goal.returns-in_default-clause-keeps
returns-in_default-clause-keeps c =
    let keeps = λ (y : Sort). KeepsBy c.args.home y c.member.result c.args.w.now c.member.new.w in
    subst (λ (b : Bool). keeps (run_gives c.args.target b)) (sym c.member.ensures.calls)
    (subst keeps (sym (gives-value c.args.target)) c.member.ensures.keeps)

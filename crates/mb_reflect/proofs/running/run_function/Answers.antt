use Rattle.std.proofs.Common.{arith, ◌≡◌, Ok, ap, refl, sym, true, ◌∙◌}
use Rattle.mb_base.specs.declared.value.Value.TheVariants as v
use Rattle.mb_frames.proofs.HeldLess.{undefined-held}
use Rattle.mb_frames.proofs.Passed.{Part-by}
use Rattle.mb_frames.specs.Resolved.{values_in}
use Rattle.mb_frames.specs.Sorts.{run_gives}
use Rattle.mb_model.specs.BuiltIns.Arguments.{arg, undefined}
use Rattle.mb_model.specs.BuiltIns.ErrorsAndFunctions.{error_fn}
use Rattle.mb_model.specs.Meaning.{finished}
use Rattle.mb_model.specs.Task.{Answer}
use Rattle.mb_model.specs.Writing.{Does}
use Rattle.mb_reflect.proofs.Argued.{by-one, by-two}
use Rattle.mb_reflect.proofs.Doing.{done-value, keeps-given}
use Rattle.mb_reflect.proofs.Given.{passed-held, passed-is}
use Rattle.mb_reflect.proofs.Placed.{gives-object, gives-value, left-calls, left-row}
use Rattle.mb_reflect.proofs.running.run_function.Goals as goal
use Rattle.mb_reflect.specs.machine.Running.{function_apply_row}
use Rattle.mb_world.specs.Image.{Image, Resolve, names_of}
use Rattle.mb_world.specs.Value.{BuiltIn, Val}
use Rattle.mb_world.specs.declared.cell.ErrorKind.TheVariants as k

pub error-requires : goal.error-requires
error-requires c =
    let d = c.args.w.now in
    let n = names_of d in
    let home = c.args.home in
    let xs = c.args.arguments.now in
    let vs = values_in n xs in
    let q = c.requires.acts in
    let h = q.holds in
    record {
      acts = record {
        ready = q.ready;
        side = q.side;
        holds = (
          h.1.1.0,
          (
            rw c.argument-first.ensures
                (passed-held d home xs h.1.0 0),
            tt,
          ),
        );
      };
    }

pub returns-in-8-clause-part : goal.returns-in-8-clause-part
returns-in-8-clause-part c = λ f.
    let d = c.args.w.now in
    let n = names_of d in
    let home = c.args.home in
    let xs = c.args.arguments.now in
    let vs = values_in n xs in
    let q = c.requires.acts in
    let h = q.holds in
    let t = Resolve n c.args.target in
    rw c.in-8.is
    (by-one home c.error.result d c.error.new.w f (λ (y : Val). error_fn home.0 k.Error (BuiltIn 8) t y) (arg vs 0)
    (Resolve n c.argument-first.result) (passed-is n xs 0 ∙ ap (Resolve n) (sym c.argument-first.ensures))
    (c.error.ensures.part f))

pub returns-in-8-clause-keeps : goal.returns-in-8-clause-keeps
returns-in-8-clause-keeps c =
    let d = c.args.w.now in
    let n = names_of d in
    let home = c.args.home in
    let xs = c.args.arguments.now in
    let vs = values_in n xs in
    let q = c.requires.acts in
    let h = q.holds in
    rw c.in-8.is (c.error.ensures.keeps (run_gives c.args.target true) (gives-object c.args.target))

pub error-requires-in-9 : goal.error-requires-in-9
error-requires-in-9 c =
    let d = c.args.w.now in
    let n = names_of d in
    let home = c.args.home in
    let xs = c.args.arguments.now in
    let vs = values_in n xs in
    let q = c.requires.acts in
    let h = q.holds in
    record {
      acts = record {
        ready = q.ready;
        side = q.side;
        holds = (
          h.1.1.0,
          (
            rw c.argument-first.ensures
                (passed-held d home xs h.1.0 0),
            tt,
          ),
        );
      };
    }

pub returns-in-9-clause-part : goal.returns-in-9-clause-part
returns-in-9-clause-part c = λ f.
    let d = c.args.w.now in
    let n = names_of d in
    let home = c.args.home in
    let xs = c.args.arguments.now in
    let vs = values_in n xs in
    let q = c.requires.acts in
    let h = q.holds in
    let t = Resolve n c.args.target in
    rw c.in-9.is
    (by-one home c.error-in-9.result d c.error-in-9.new.w f (λ (y : Val). error_fn home.0 k.TypeError (BuiltIn 9) t y)
    (arg vs 0) (Resolve n c.argument-first.result) (passed-is n xs 0 ∙ ap (Resolve n) (sym c.argument-first.ensures))
    (c.error-in-9.ensures.part f))

pub returns-in-9-clause-keeps : goal.returns-in-9-clause-keeps
returns-in-9-clause-keeps c =
    let d = c.args.w.now in
    let n = names_of d in
    let home = c.args.home in
    let xs = c.args.arguments.now in
    let vs = values_in n xs in
    let q = c.requires.acts in
    let h = q.holds in
    rw c.in-9.is (c.error-in-9.ensures.keeps (run_gives c.args.target true) (gives-object c.args.target))

pub error-requires-in-10 : goal.error-requires-in-10
error-requires-in-10 c =
    let d = c.args.w.now in
    let n = names_of d in
    let home = c.args.home in
    let xs = c.args.arguments.now in
    let vs = values_in n xs in
    let q = c.requires.acts in
    let h = q.holds in
    record {
      acts = record {
        ready = q.ready;
        side = q.side;
        holds = (
          h.1.1.0,
          (
            rw c.argument-first.ensures
                (passed-held d home xs h.1.0 0),
            tt,
          ),
        );
      };
    }

pub returns-in-10-clause-part : goal.returns-in-10-clause-part
returns-in-10-clause-part c = λ f.
    let d = c.args.w.now in
    let n = names_of d in
    let home = c.args.home in
    let xs = c.args.arguments.now in
    let vs = values_in n xs in
    let q = c.requires.acts in
    let h = q.holds in
    let t = Resolve n c.args.target in
    rw c.in-10.is
    (by-one home c.error-in-10.result d c.error-in-10.new.w f (λ (y : Val). error_fn home.0 k.RangeError (BuiltIn 10)
    t y) (arg vs 0) (Resolve n c.argument-first.result) (passed-is n xs 0 ∙ ap (Resolve n) (sym
    c.argument-first.ensures)) (c.error-in-10.ensures.part f))

pub returns-in-10-clause-keeps : goal.returns-in-10-clause-keeps
returns-in-10-clause-keeps c =
    let d = c.args.w.now in
    let n = names_of d in
    let home = c.args.home in
    let xs = c.args.arguments.now in
    let vs = values_in n xs in
    let q = c.requires.acts in
    let h = q.holds in
    rw c.in-10.is (c.error-in-10.ensures.keeps (run_gives c.args.target true) (gives-object c.args.target))

pub error-requires-in-11 : goal.error-requires-in-11
error-requires-in-11 c =
    let d = c.args.w.now in
    let n = names_of d in
    let home = c.args.home in
    let xs = c.args.arguments.now in
    let vs = values_in n xs in
    let q = c.requires.acts in
    let h = q.holds in
    record {
      acts = record {
        ready = q.ready;
        side = q.side;
        holds = (
          h.1.1.0,
          (
            rw c.argument-first.ensures
                (passed-held d home xs h.1.0 0),
            tt,
          ),
        );
      };
    }

pub returns-in-11-clause-part : goal.returns-in-11-clause-part
returns-in-11-clause-part c = λ f.
    let d = c.args.w.now in
    let n = names_of d in
    let home = c.args.home in
    let xs = c.args.arguments.now in
    let vs = values_in n xs in
    let q = c.requires.acts in
    let h = q.holds in
    let t = Resolve n c.args.target in
    rw c.in-11.is
    (by-one home c.error-in-11.result d c.error-in-11.new.w f (λ (y : Val). error_fn home.0 k.ReferenceError (BuiltIn
    11) t y) (arg vs 0) (Resolve n c.argument-first.result) (passed-is n xs 0 ∙ ap (Resolve n) (sym
    c.argument-first.ensures)) (c.error-in-11.ensures.part f))

pub returns-in-11-clause-keeps : goal.returns-in-11-clause-keeps
returns-in-11-clause-keeps c =
    let d = c.args.w.now in
    let n = names_of d in
    let home = c.args.home in
    let xs = c.args.arguments.now in
    let vs = values_in n xs in
    let q = c.requires.acts in
    let h = q.holds in
    rw c.in-11.is (c.error-in-11.ensures.keeps (run_gives c.args.target true) (gives-object c.args.target))

pub function_call-requires : goal.function_call-requires
function_call-requires c =
    let d = c.args.w.now in
    let n = names_of d in
    let home = c.args.home in
    let xs = c.args.arguments.now in
    let vs = values_in n xs in
    let q = c.requires.acts in
    let h = q.holds in
    record { acts = record { ready = q.ready; side = q.side; holds = (h.0, (h.1.0, tt)) } }

pub returns-in-53-clause-part : goal.returns-in-53-clause-part
returns-in-53-clause-part c = λ f.
    let d = c.args.w.now in
    let n = names_of d in
    let home = c.args.home in
    let xs = c.args.arguments.now in
    let vs = values_in n xs in
    let q = c.requires.acts in
    let h = q.holds in
    rw c.in-53.is
    (c.function_call.ensures.part f)

pub returns-in-53-clause-keeps : goal.returns-in-53-clause-keeps
returns-in-53-clause-keeps c =
    let d = c.args.w.now in
    let n = names_of d in
    let home = c.args.home in
    let xs = c.args.arguments.now in
    let vs = values_in n xs in
    let q = c.requires.acts in
    let h = q.holds in
    rw (c.in-53.is, gives-value c.args.target) c.function_call.ensures.keeps

pub function_apply-requires : goal.function_apply-requires
function_apply-requires c =
    let d = c.args.w.now in
    let n = names_of d in
    let home = c.args.home in
    let xs = c.args.arguments.now in
    let vs = values_in n xs in
    let q = c.requires.acts in
    let h = q.holds in
    record {
      acts = record {
        ready = q.ready;
        side = q.side;
        holds = (
          h.0,
          (
            rw c.argument-first.ensures (passed-held d
                home xs h.1.0 0),
            (rw c.argument-list.ensures (passed-held d home xs h.1.0 1), tt),
          ),
        );
      };
    }

pub returns-in-54-clause-part : goal.returns-in-54-clause-part
returns-in-54-clause-part c = λ f.
    let d = c.args.w.now in
    let n = names_of d in
    let home = c.args.home in
    let xs = c.args.arguments.now in
    let vs = values_in n xs in
    let q = c.requires.acts in
    let h = q.holds in
    let o = Resolve n c.args.this in
    rw c.in-54.is
    (by-two home c.function_apply.result d c.function_apply.new.w f (λ (y z : Val). function_apply_row home.0 o y z)
    (arg vs 0) (arg vs 1) (Resolve n c.argument-first.result) (Resolve n c.argument-list.result) (passed-is n xs 0 ∙
    ap (Resolve n) (sym c.argument-first.ensures)) (passed-is n xs 1 ∙ ap (Resolve n) (sym c.argument-list.ensures))
    (c.function_apply.ensures.part f))

pub returns-in-54-clause-keeps : goal.returns-in-54-clause-keeps
returns-in-54-clause-keeps c =
    let d = c.args.w.now in
    let n = names_of d in
    let home = c.args.home in
    let xs = c.args.arguments.now in
    let vs = values_in n xs in
    let q = c.requires.acts in
    let h = q.holds in
    rw (c.in-54.is, gives-value c.args.target) c.function_apply.ensures.keeps

pub returns-in_default-clause-part : goal.returns-in_default-clause-part
returns-in_default-clause-part c = λ f.
    let d = c.args.w.now in
    let n = names_of d in
    let home = c.args.home in
    let xs = c.args.arguments.now in
    let vs = values_in n xs in
    let q = c.requires.acts in
    let h = q.holds in
    let r : Does Answer = undefined in
    let n8 : c.args.place ≡ 8 → ⊥ = λ e. omega (arith, e) in
    let n9 : c.args.place ≡ 9 → ⊥ = λ e. omega (arith, e) in
    let n10 : c.args.place ≡ 10 → ⊥ = λ e. omega (arith, e) in
    let n11 : c.args.place ≡ 11 → ⊥ = λ e. omega (arith, e) in
    let n53 : c.args.place ≡ 53 → ⊥ = λ e. omega (arith, e) in
    let n54 : c.args.place ≡ 54 → ⊥ = λ e. omega (arith, e) in
    rw c.value.ensures
    (Part-by home (Ok _) d d f f _ (r finished)
    (λ log. ap (λ (p : Does Answer). p finished (Image d log))
    (left-row c.args.place c.requires.ours c.requires.object c.requires.reflect (
      n8,
      (
        n9,
        (
          n10,
          (
            n11,
            (
              n53,
              (
                n54,
                tt,
              ),
            ),
          ),
        ),
      ),
    ) home.0
    (Resolve n c.args.this) vs (Resolve n c.args.target)))
    (done-value home d f q.ready (r finished) v.Undefined (undefined-held d home) (λ log. refl)).part)

pub returns-in_default-clause-keeps : goal.returns-in_default-clause-keeps
returns-in_default-clause-keeps c =
    let d = c.args.w.now in
    let n = names_of d in
    let home = c.args.home in
    let xs = c.args.arguments.now in
    let vs = values_in n xs in
    let q = c.requires.acts in
    let h = q.holds in
    let n8 : c.args.place ≡ 8 → ⊥ = λ e. omega (arith, e) in
    let n9 : c.args.place ≡ 9 → ⊥ = λ e. omega (arith, e) in
    let n10 : c.args.place ≡ 10 → ⊥ = λ e. omega (arith, e) in
    let n11 : c.args.place ≡ 11 → ⊥ = λ e. omega (arith, e) in
    let n53 : c.args.place ≡ 53 → ⊥ = λ e. omega (arith, e) in
    let n54 : c.args.place ≡ 54 → ⊥ = λ e. omega (arith, e) in
    rw (
      c.value.ensures,
      left-calls c.args.place c.requires.ours c.requires.object c.requires.reflect (
        n8,
        (
          n9,
          (
            n10,
            (
              n11,
              (
                n53,
                (
                  n54,
                  tt,
                ),
              ),
            ),
          ),
        ),
      ),
      gives-value c.args.target,
    )
    (keeps-given home d q.ready v.Undefined (undefined-held d home))

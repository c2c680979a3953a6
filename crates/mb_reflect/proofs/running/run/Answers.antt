use Rattle.std.proofs.Common.{arith, ◌≡◌, Ok, [], ap, false, sym, true, ◌∙◌, ◌∷◌}
use Rattle.mb_frames.proofs.Keeping.{keeps-same}
use Rattle.mb_frames.proofs.Passed.{Part-sure}
use Rattle.mb_frames.specs.Resolved.{values_in}
use Rattle.mb_frames.specs.Sorts.{AValue, run_gives}
use Rattle.mb_model.specs.BuiltIns.Arguments.{arg}
use Rattle.mb_model.specs.BuiltIns.ObjectMembers.{get_own_descriptor, get_prototype_of, has_own, is_frozen}
use Rattle.mb_model.specs.BuiltIns.ObjectMembers.{object_define_property, object_fn, object_keys}
use Rattle.mb_model.specs.BuiltIns.ObjectMembers.{object_set_prototype_of, own_symbols, settle}
use Rattle.mb_reflect.proofs.Argued.{by-one, by-three, by-two}
use Rattle.mb_reflect.proofs.Given.{passed-held, passed-is}
use Rattle.mb_reflect.proofs.Placed.{gives-object, gives-value, no-object}
use Rattle.mb_reflect.proofs.running.run.Goals as goal
use Rattle.mb_reflect.specs.machine.Asking.{create_row}
use Rattle.mb_world.specs.Image.{Resolve, names_of}
use Rattle.mb_world.specs.Value.{BuiltIn, Val}

pub object-requires : goal.object-requires
object-requires c =
    let d = c.args.w.now in
    let n = names_of d in
    let home = c.args.home in
    let xs = c.args.arguments.now in
    let vs = values_in n xs in
    let q = c.requires.acts in
    let h = q.holds in
    record {
      acts = record {
        ready = q.ready;
        side = q.side;
        holds = (
          h.1.1.0,
          (
            rw c.argument-first.ensures
                (passed-held d home xs h.1.0 0),
            tt,
          ),
        );
      };
    }

pub returns-in-3-clause-part : goal.returns-in-3-clause-part
returns-in-3-clause-part c = λ f.
    let d = c.args.w.now in
    let n = names_of d in
    let home = c.args.home in
    let xs = c.args.arguments.now in
    let vs = values_in n xs in
    let q = c.requires.acts in
    let h = q.holds in
    let t = Resolve n c.args.target in
    rw c.in-3.is
    (by-one home c.object.result d c.object.new.w f (λ (y : Val). object_fn home.0 (BuiltIn 3) t y) (arg vs 0)
    (Resolve n c.argument-first.result) (passed-is n xs 0 ∙ ap (Resolve n) (sym c.argument-first.ensures))
    (c.object.ensures.part f))

pub returns-in-3-clause-keeps : goal.returns-in-3-clause-keeps
returns-in-3-clause-keeps c =
    let d = c.args.w.now in
    let n = names_of d in
    let home = c.args.home in
    let xs = c.args.arguments.now in
    let vs = values_in n xs in
    let q = c.requires.acts in
    let h = q.holds in
    rw c.in-3.is (c.object.ensures.keeps (run_gives c.args.target true) (gives-object c.args.target))

pub ask_with_key-requires : goal.ask_with_key-requires
ask_with_key-requires c =
    let d = c.args.w.now in
    let n = names_of d in
    let home = c.args.home in
    let xs = c.args.arguments.now in
    let vs = values_in n xs in
    let q = c.requires.acts in
    let h = q.holds in
    record {
      acts = record {
        ready = q.ready;
        side = q.side;
        holds = (
          h.0,
          (
            rw c.argument-first.ensures (passed-held d
                home xs h.1.0 0),
            tt,
          ),
        );
      };
    }

pub returns-in-14-clause-part : goal.returns-in-14-clause-part
returns-in-14-clause-part c = λ f.
    let d = c.args.w.now in
    let n = names_of d in
    let home = c.args.home in
    let xs = c.args.arguments.now in
    let vs = values_in n xs in
    let q = c.requires.acts in
    let h = q.holds in
    let o = Resolve n c.args.this in
    rw c.in-14.is
    (by-one home c.ask_with_key.result d c.ask_with_key.new.w f (λ (y : Val). has_own home.0 o (y ∷ [])) (arg vs 0)
    (Resolve n c.argument-first.result) (passed-is n xs 0 ∙ ap (Resolve n) (sym c.argument-first.ensures))
    (c.ask_with_key.ensures.part f))

pub returns-in-14-clause-keeps : goal.returns-in-14-clause-keeps
returns-in-14-clause-keeps c =
    let d = c.args.w.now in
    let n = names_of d in
    let home = c.args.home in
    let xs = c.args.arguments.now in
    let vs = values_in n xs in
    let q = c.requires.acts in
    let h = q.holds in
    rw (c.in-14.is, gives-value c.args.target) c.ask_with_key.ensures.keeps

pub create-requires : goal.create-requires
create-requires c =
    let d = c.args.w.now in
    let n = names_of d in
    let home = c.args.home in
    let xs = c.args.arguments.now in
    let vs = values_in n xs in
    let q = c.requires.acts in
    let h = q.holds in
    record {
      acts = record {
        ready = q.ready;
        side = q.side;
        holds = (
          rw c.argument-first.ensures (passed-held d home
              xs h.1.0 0),
          (rw c.argument-second.ensures (passed-held d home xs h.1.0 1), tt),
        );
      };
    }

pub returns-in-15-clause-part : goal.returns-in-15-clause-part
returns-in-15-clause-part c = λ f.
    let d = c.args.w.now in
    let n = names_of d in
    let home = c.args.home in
    let xs = c.args.arguments.now in
    let vs = values_in n xs in
    let q = c.requires.acts in
    let h = q.holds in
    rw c.in-15.is
    (by-two home c.create.result d c.create.new.w f (λ (y z : Val). create_row home.0 y z) (arg vs 0) (arg vs 1)
    (Resolve n c.argument-first.result) (Resolve n c.argument-second.result) (passed-is n xs 0 ∙ ap (Resolve n) (sym
    c.argument-first.ensures)) (passed-is n xs 1 ∙ ap (Resolve n) (sym c.argument-second.ensures))
    (c.create.ensures.part f))

pub returns-in-15-clause-keeps : goal.returns-in-15-clause-keeps
returns-in-15-clause-keeps c =
    let d = c.args.w.now in
    let n = names_of d in
    let home = c.args.home in
    let xs = c.args.arguments.now in
    let vs = values_in n xs in
    let q = c.requires.acts in
    let h = q.holds in
    rw (c.in-15.is, gives-value c.args.target) c.create.ensures.keeps

pub ask-requires : goal.ask-requires
ask-requires c =
    let d = c.args.w.now in
    let n = names_of d in
    let home = c.args.home in
    let xs = c.args.arguments.now in
    let vs = values_in n xs in
    let q = c.requires.acts in
    let h = q.holds in
    record {
      acts = record {
        ready = q.ready;
        side = q.side;
        holds = (
          rw c.argument-first.ensures (passed-held d home
              xs h.1.0 0),
          tt,
        );
      };
    }

pub returns-in-16-clause-part : goal.returns-in-16-clause-part
returns-in-16-clause-part c = λ f.
    let d = c.args.w.now in
    let n = names_of d in
    let home = c.args.home in
    let xs = c.args.arguments.now in
    let vs = values_in n xs in
    let q = c.requires.acts in
    let h = q.holds in
    rw c.in-16.is
    (by-one home c.ask.result d c.ask.new.w f (λ (y : Val). object_keys home.0 y) (arg vs 0) (Resolve n
    c.argument-first.result) (passed-is n xs 0 ∙ ap (Resolve n) (sym c.argument-first.ensures)) (c.ask.ensures.part f))

pub returns-in-16-clause-keeps : goal.returns-in-16-clause-keeps
returns-in-16-clause-keeps c =
    let d = c.args.w.now in
    let n = names_of d in
    let home = c.args.home in
    let xs = c.args.arguments.now in
    let vs = values_in n xs in
    let q = c.requires.acts in
    let h = q.holds in
    rw (c.in-16.is, gives-value c.args.target) c.ask.ensures.keeps

pub returns-in-17-clause-part : goal.returns-in-17-clause-part
returns-in-17-clause-part c = λ f.
    let d = c.args.w.now in
    let n = names_of d in
    let home = c.args.home in
    let xs = c.args.arguments.now in
    let vs = values_in n xs in
    let q = c.requires.acts in
    let h = q.holds in
    rw c.in-17.is
    (by-one home (Ok c.settle.result) d d f (λ (y : Val). settle home.0 true y) (arg vs 0) (Resolve n
    c.argument-first.result) (passed-is n xs 0 ∙ ap (Resolve n) (sym c.argument-first.ensures)) (Part-sure home d f _
    c.settle.result (c.settle.ensures.sure d (record {
      ready = q.ready;
      side = q.side;
      holds = (
        rw
            c.argument-first.ensures (passed-held d home xs h.1.0 0),
        tt,
      );
    }))))

pub returns-in-17-clause-keeps : goal.returns-in-17-clause-keeps
returns-in-17-clause-keeps c =
    let d = c.args.w.now in
    let n = names_of d in
    let home = c.args.home in
    let xs = c.args.arguments.now in
    let vs = values_in n xs in
    let q = c.requires.acts in
    let h = q.holds in
    rw (c.in-17.is, gives-value c.args.target) (keeps-same home AValue (Ok c.settle.result) d q.ready
    (c.settle.ensures.leaves d (record {
      ready = q.ready;
      side = q.side;
      holds = (
        rw c.argument-first.ensures
            (passed-held d home xs h.1.0 0),
        tt,
      );
    })))

pub returns-in-18-clause-part : goal.returns-in-18-clause-part
returns-in-18-clause-part c = λ f.
    let d = c.args.w.now in
    let n = names_of d in
    let home = c.args.home in
    let xs = c.args.arguments.now in
    let vs = values_in n xs in
    let q = c.requires.acts in
    let h = q.holds in
    rw c.in-18.is
    (by-one home (Ok c.is_frozen.result) d d f (λ (y : Val). is_frozen home.0 y) (arg vs 0) (Resolve n
    c.argument-first.result) (passed-is n xs 0 ∙ ap (Resolve n) (sym c.argument-first.ensures)) (Part-sure home d f _
    c.is_frozen.result (c.is_frozen.ensures.sure d (record {
      ready = q.ready;
      side = q.side;
      holds = (
        rw
            c.argument-first.ensures (passed-held d home xs h.1.0 0),
        tt,
      );
    }))))

pub returns-in-18-clause-keeps : goal.returns-in-18-clause-keeps
returns-in-18-clause-keeps c =
    let d = c.args.w.now in
    let n = names_of d in
    let home = c.args.home in
    let xs = c.args.arguments.now in
    let vs = values_in n xs in
    let q = c.requires.acts in
    let h = q.holds in
    rw (c.in-18.is, gives-value c.args.target) (keeps-same home AValue (Ok c.is_frozen.result) d q.ready
    (c.is_frozen.ensures.leaves d (record {
      ready = q.ready;
      side = q.side;
      holds = (
        rw c.argument-first.ensures
            (passed-held d home xs h.1.0 0),
        tt,
      );
    })))

pub returns-in-19-clause-part : goal.returns-in-19-clause-part
returns-in-19-clause-part c = λ f.
    let d = c.args.w.now in
    let n = names_of d in
    let home = c.args.home in
    let xs = c.args.arguments.now in
    let vs = values_in n xs in
    let q = c.requires.acts in
    let h = q.holds in
    rw c.in-19.is
    (by-one home (Ok c.settle-in-19.result) d d f (λ (y : Val). settle home.0 false y) (arg vs 0) (Resolve n
    c.argument-first.result) (passed-is n xs 0 ∙ ap (Resolve n) (sym c.argument-first.ensures)) (Part-sure home d f _
    c.settle-in-19.result (c.settle-in-19.ensures.sure d (record {
      ready = q.ready;
      side = q.side;
      holds = (
        rw
            c.argument-first.ensures (passed-held d home xs h.1.0 0),
        tt,
      );
    }))))

pub returns-in-19-clause-keeps : goal.returns-in-19-clause-keeps
returns-in-19-clause-keeps c =
    let d = c.args.w.now in
    let n = names_of d in
    let home = c.args.home in
    let xs = c.args.arguments.now in
    let vs = values_in n xs in
    let q = c.requires.acts in
    let h = q.holds in
    rw (c.in-19.is, gives-value c.args.target) (keeps-same home AValue (Ok c.settle-in-19.result) d q.ready
    (c.settle-in-19.ensures.leaves d (record {
      ready = q.ready;
      side = q.side;
      holds = (
        rw c.argument-first.ensures
            (passed-held d home xs h.1.0 0),
        tt,
      );
    })))

pub ask-requires-in-20 : goal.ask-requires-in-20
ask-requires-in-20 c =
    let d = c.args.w.now in
    let n = names_of d in
    let home = c.args.home in
    let xs = c.args.arguments.now in
    let vs = values_in n xs in
    let q = c.requires.acts in
    let h = q.holds in
    record {
      acts = record {
        ready = q.ready;
        side = q.side;
        holds = (
          rw c.argument-first.ensures (passed-held d home
              xs h.1.0 0),
          tt,
        );
      };
    }

pub returns-in-20-clause-part : goal.returns-in-20-clause-part
returns-in-20-clause-part c = λ f.
    let d = c.args.w.now in
    let n = names_of d in
    let home = c.args.home in
    let xs = c.args.arguments.now in
    let vs = values_in n xs in
    let q = c.requires.acts in
    let h = q.holds in
    rw c.in-20.is
    (by-one home c.ask-in-20.result d c.ask-in-20.new.w f (λ (y : Val). get_prototype_of home.0 y) (arg vs 0) (Resolve
    n c.argument-first.result) (passed-is n xs 0 ∙ ap (Resolve n) (sym c.argument-first.ensures))
    (c.ask-in-20.ensures.part f))

pub returns-in-20-clause-keeps : goal.returns-in-20-clause-keeps
returns-in-20-clause-keeps c =
    let d = c.args.w.now in
    let n = names_of d in
    let home = c.args.home in
    let xs = c.args.arguments.now in
    let vs = values_in n xs in
    let q = c.requires.acts in
    let h = q.holds in
    rw (c.in-20.is, gives-value c.args.target) c.ask-in-20.ensures.keeps

pub object_set_prototype-requires : goal.object_set_prototype-requires
object_set_prototype-requires c =
    let d = c.args.w.now in
    let n = names_of d in
    let home = c.args.home in
    let xs = c.args.arguments.now in
    let vs = values_in n xs in
    let q = c.requires.acts in
    let h = q.holds in
    record {
      acts = record {
        ready = q.ready;
        side = q.side;
        holds = (
          rw c.argument-first.ensures (passed-held d home
              xs h.1.0 0),
          (rw c.argument-second.ensures (passed-held d home xs h.1.0 1), tt),
        );
      };
    }

pub returns-in-21-clause-part : goal.returns-in-21-clause-part
returns-in-21-clause-part c = λ f.
    let d = c.args.w.now in
    let n = names_of d in
    let home = c.args.home in
    let xs = c.args.arguments.now in
    let vs = values_in n xs in
    let q = c.requires.acts in
    let h = q.holds in
    rw c.in-21.is
    (by-two home c.object_set_prototype.result d c.object_set_prototype.new.w f (λ (y z : Val).
    object_set_prototype_of home.0 y z) (arg vs 0) (arg vs 1) (Resolve n c.argument-first.result) (Resolve n
    c.argument-second.result) (passed-is n xs 0 ∙ ap (Resolve n) (sym c.argument-first.ensures)) (passed-is n xs 1 ∙
    ap (Resolve n) (sym c.argument-second.ensures)) (c.object_set_prototype.ensures.part f))

pub returns-in-21-clause-keeps : goal.returns-in-21-clause-keeps
returns-in-21-clause-keeps c =
    let d = c.args.w.now in
    let n = names_of d in
    let home = c.args.home in
    let xs = c.args.arguments.now in
    let vs = values_in n xs in
    let q = c.requires.acts in
    let h = q.holds in
    rw (c.in-21.is, gives-value c.args.target) c.object_set_prototype.ensures.keeps

pub ask_with_key-requires-in-22 : goal.ask_with_key-requires-in-22
ask_with_key-requires-in-22 c =
    let d = c.args.w.now in
    let n = names_of d in
    let home = c.args.home in
    let xs = c.args.arguments.now in
    let vs = values_in n xs in
    let q = c.requires.acts in
    let h = q.holds in
    record {
      acts = record {
        ready = q.ready;
        side = q.side;
        holds = (
          rw c.argument-first.ensures (passed-held d home
              xs h.1.0 0),
          (
            rw c.argument-second.ensures (passed-held d home xs h.1.0 1),
            (
              rw c.argument-attributes.ensures
                  (passed-held d home xs h.1.0 2),
              tt,
            ),
          ),
        );
      };
    }

pub returns-in-22-clause-part : goal.returns-in-22-clause-part
returns-in-22-clause-part c = λ f.
    let d = c.args.w.now in
    let n = names_of d in
    let home = c.args.home in
    let xs = c.args.arguments.now in
    let vs = values_in n xs in
    let q = c.requires.acts in
    let h = q.holds in
    rw c.in-22.is
    (by-three home c.ask_with_key-in-22.result d c.ask_with_key-in-22.new.w f (λ (y z u : Val). object_define_property
    home.0 (y ∷ z ∷ u ∷ [])) (arg vs 0) (arg vs 1) (arg vs 2) (Resolve n c.argument-first.result) (Resolve n
    c.argument-second.result) (Resolve n c.argument-attributes.result) (passed-is n xs 0 ∙ ap (Resolve n) (sym
    c.argument-first.ensures)) (passed-is n xs 1 ∙ ap (Resolve n) (sym c.argument-second.ensures)) (passed-is n xs 2 ∙
    ap (Resolve n) (sym c.argument-attributes.ensures)) (c.ask_with_key-in-22.ensures.part f))

pub returns-in-22-clause-keeps : goal.returns-in-22-clause-keeps
returns-in-22-clause-keeps c =
    let d = c.args.w.now in
    let n = names_of d in
    let home = c.args.home in
    let xs = c.args.arguments.now in
    let vs = values_in n xs in
    let q = c.requires.acts in
    let h = q.holds in
    rw (c.in-22.is, gives-value c.args.target) c.ask_with_key-in-22.ensures.keeps

pub ask_with_key-requires-in-23 : goal.ask_with_key-requires-in-23
ask_with_key-requires-in-23 c =
    let d = c.args.w.now in
    let n = names_of d in
    let home = c.args.home in
    let xs = c.args.arguments.now in
    let vs = values_in n xs in
    let q = c.requires.acts in
    let h = q.holds in
    record {
      acts = record {
        ready = q.ready;
        side = q.side;
        holds = (
          rw c.argument-first.ensures (passed-held d home
              xs h.1.0 0),
          (rw c.argument-second.ensures (passed-held d home xs h.1.0 1), tt),
        );
      };
    }

pub returns-in-23-clause-part : goal.returns-in-23-clause-part
returns-in-23-clause-part c = λ f.
    let d = c.args.w.now in
    let n = names_of d in
    let home = c.args.home in
    let xs = c.args.arguments.now in
    let vs = values_in n xs in
    let q = c.requires.acts in
    let h = q.holds in
    rw c.in-23.is
    (by-two home c.ask_with_key-in-23.result d c.ask_with_key-in-23.new.w f (λ (y z : Val). get_own_descriptor home.0
    (y ∷ z ∷ [])) (arg vs 0) (arg vs 1) (Resolve n c.argument-first.result) (Resolve n c.argument-second.result)
    (passed-is n xs 0 ∙ ap (Resolve n) (sym c.argument-first.ensures)) (passed-is n xs 1 ∙ ap (Resolve n) (sym
    c.argument-second.ensures)) (c.ask_with_key-in-23.ensures.part f))

pub returns-in-23-clause-keeps : goal.returns-in-23-clause-keeps
returns-in-23-clause-keeps c =
    let d = c.args.w.now in
    let n = names_of d in
    let home = c.args.home in
    let xs = c.args.arguments.now in
    let vs = values_in n xs in
    let q = c.requires.acts in
    let h = q.holds in
    rw (c.in-23.is, gives-value c.args.target) c.ask_with_key-in-23.ensures.keeps

pub ask-requires-in-56 : goal.ask-requires-in-56
ask-requires-in-56 c =
    let d = c.args.w.now in
    let n = names_of d in
    let home = c.args.home in
    let xs = c.args.arguments.now in
    let vs = values_in n xs in
    let q = c.requires.acts in
    let h = q.holds in
    record {
      acts = record {
        ready = q.ready;
        side = q.side;
        holds = (
          rw c.argument-first.ensures (passed-held d home
              xs h.1.0 0),
          tt,
        );
      };
    }

pub returns-in-56-clause-part : goal.returns-in-56-clause-part
returns-in-56-clause-part c = λ f.
    let d = c.args.w.now in
    let n = names_of d in
    let home = c.args.home in
    let xs = c.args.arguments.now in
    let vs = values_in n xs in
    let q = c.requires.acts in
    let h = q.holds in
    rw c.in-56.is
    (by-one home c.ask-in-56.result d c.ask-in-56.new.w f (λ (y : Val). own_symbols home.0 y) (arg vs 0) (Resolve n
    c.argument-first.result) (passed-is n xs 0 ∙ ap (Resolve n) (sym c.argument-first.ensures))
    (c.ask-in-56.ensures.part f))

pub returns-in-56-clause-keeps : goal.returns-in-56-clause-keeps
returns-in-56-clause-keeps c =
    let d = c.args.w.now in
    let n = names_of d in
    let home = c.args.home in
    let xs = c.args.arguments.now in
    let vs = values_in n xs in
    let q = c.requires.acts in
    let h = q.holds in
    rw (c.in-56.is, gives-value c.args.target) c.ask-in-56.ensures.keeps

pub run_reflect-requires : goal.run_reflect-requires
run_reflect-requires c =
    let n3 : c.args.place ≡ 3 → ⊥ = λ e. omega (arith, e) in
    let n14 : c.args.place ≡ 14 → ⊥ = λ e. omega (arith, e) in
    let n15 : c.args.place ≡ 15 → ⊥ = λ e. omega (arith, e) in
    let n16 : c.args.place ≡ 16 → ⊥ = λ e. omega (arith, e) in
    let n17 : c.args.place ≡ 17 → ⊥ = λ e. omega (arith, e) in
    let n18 : c.args.place ≡ 18 → ⊥ = λ e. omega (arith, e) in
    let n19 : c.args.place ≡ 19 → ⊥ = λ e. omega (arith, e) in
    let n20 : c.args.place ≡ 20 → ⊥ = λ e. omega (arith, e) in
    let n21 : c.args.place ≡ 21 → ⊥ = λ e. omega (arith, e) in
    let n22 : c.args.place ≡ 22 → ⊥ = λ e. omega (arith, e) in
    let n23 : c.args.place ≡ 23 → ⊥ = λ e. omega (arith, e) in
    let n56 : c.args.place ≡ 56 → ⊥ = λ e. omega (arith, e) in
    record {
      acts = c.requires.acts;
      ours = c.requires.ours;
      object = no-object c.args.place (
        n3,
        (
          n14,
          (
            n15,
            (
              n16,
              (
                n17,
                (
                  n18,
                  (
                    n19,
                    (
                      n20,
                      (
                        n21,
                        (
                          n22,
                          (
                            n23,
                            (
                              n56,
                              tt,
                            ),
                          ),
                        ),
                      ),
                    ),
                  ),
                ),
              ),
            ),
          ),
        ),
      );
    }

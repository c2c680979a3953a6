use Rattle.std.proofs.Common.{arith, ◌≡◌, [], ap, sym, ◌∙◌, ◌∷◌}
use Rattle.mb_frames.specs.Resolved.{values_in}
use Rattle.mb_model.specs.BuiltIns.Arguments.{arg, arg_or}
use Rattle.mb_model.specs.BuiltIns.ObjectMembers.{get_own_descriptor, get_prototype_of}
use Rattle.mb_model.specs.BuiltIns.ReflectMembers.{reflect_define, reflect_delete, reflect_get, reflect_has}
use Rattle.mb_model.specs.BuiltIns.ReflectMembers.{reflect_is_extensible, reflect_own_keys, reflect_prevent}
use Rattle.mb_model.specs.BuiltIns.ReflectMembers.{reflect_set, reflect_set_prototype}
use Rattle.mb_reflect.proofs.Argued.{by-four, by-one, by-three, by-two}
use Rattle.mb_reflect.proofs.Given.{passed-held, passed-is, passed-or-held, passed-or-is}
use Rattle.mb_reflect.proofs.Placed.{gives-value, no-reflect}
use Rattle.mb_reflect.proofs.running.run_reflect.Goals as goal
use Rattle.mb_reflect.specs.machine.Running.{apply_row, construct_row}
use Rattle.mb_world.specs.Image.{Resolve, names_of}
use Rattle.mb_world.specs.Value.{Val}

pub reflect_apply-requires : goal.reflect_apply-requires
reflect_apply-requires c =
    let d = c.args.w.now in
    let n = names_of d in
    let home = c.args.home in
    let xs = c.args.arguments.now in
    let vs = values_in n xs in
    let q = c.requires.acts in
    let h = q.holds in
    record {
      acts = record {
        ready = q.ready;
        side = q.side;
        holds = (
          rw c.argument-first.ensures (passed-held d home
              xs h.1.0 0),
          (
            rw c.argument-second.ensures (passed-held d home xs h.1.0 1),
            (
              rw c.argument-third.ensures
                  (passed-held d home xs h.1.0 2),
              tt,
            ),
          ),
        );
      };
    }

pub returns-in-35-clause-part : goal.returns-in-35-clause-part
returns-in-35-clause-part c = λ f.
    let d = c.args.w.now in
    let n = names_of d in
    let home = c.args.home in
    let xs = c.args.arguments.now in
    let vs = values_in n xs in
    let q = c.requires.acts in
    let h = q.holds in
    rw c.in-35.is
    (by-three home c.reflect_apply.result d c.reflect_apply.new.w f (λ (y z u : Val). apply_row home.0 y z u) (arg vs
    0) (arg vs 1) (arg vs 2) (Resolve n c.argument-first.result) (Resolve n c.argument-second.result) (Resolve n
    c.argument-third.result) (passed-is n xs 0 ∙ ap (Resolve n) (sym c.argument-first.ensures)) (passed-is n xs 1 ∙ ap
    (Resolve n) (sym c.argument-second.ensures)) (passed-is n xs 2 ∙ ap (Resolve n) (sym c.argument-third.ensures))
    (c.reflect_apply.ensures.part f))

pub returns-in-35-clause-keeps : goal.returns-in-35-clause-keeps
returns-in-35-clause-keeps c =
    let d = c.args.w.now in
    let n = names_of d in
    let home = c.args.home in
    let xs = c.args.arguments.now in
    let vs = values_in n xs in
    let q = c.requires.acts in
    let h = q.holds in
    rw (c.in-35.is, gives-value c.args.target) c.reflect_apply.ensures.keeps

pub reflect_construct-requires : goal.reflect_construct-requires
reflect_construct-requires c =
    let d = c.args.w.now in
    let n = names_of d in
    let home = c.args.home in
    let xs = c.args.arguments.now in
    let vs = values_in n xs in
    let q = c.requires.acts in
    let h = q.holds in
    record {
      acts = record {
        ready = q.ready;
        side = q.side;
        holds = (
          rw c.argument-first.ensures (passed-held d home
              xs h.1.0 0),
          (
            rw c.argument-second.ensures (passed-held d home xs h.1.0 1),
            (
              rw c.argument_or-other.ensures
                  (passed-or-held d home xs h.1.0 2 c.argument-first.result (rw c.argument-first.ensures (passed-held
                  d home xs
                  h.1.0 0))),
              tt,
            ),
          ),
        );
      };
    }

pub returns-in-36-clause-part : goal.returns-in-36-clause-part
returns-in-36-clause-part c = λ f.
    let d = c.args.w.now in
    let n = names_of d in
    let home = c.args.home in
    let xs = c.args.arguments.now in
    let vs = values_in n xs in
    let q = c.requires.acts in
    let h = q.holds in
    rw c.in-36.is
    (by-three home c.reflect_construct.result d c.reflect_construct.new.w f (λ (y z u : Val). construct_row home.0 y z
    u) (arg vs 0) (arg vs 1) (arg_or vs 2 (arg vs 0)) (Resolve n c.argument-first.result) (Resolve n
    c.argument-second.result) (Resolve n c.argument_or-other.result) (passed-is n xs 0 ∙ ap (Resolve n) (sym
    c.argument-first.ensures)) (passed-is n xs 1 ∙ ap (Resolve n) (sym c.argument-second.ensures)) (ap (arg_or vs 2)
    (passed-is n xs 0 ∙ ap (Resolve n) (sym c.argument-first.ensures)) ∙ passed-or-is n xs 2 c.argument-first.result ∙
    ap (Resolve n) (sym c.argument_or-other.ensures)) (c.reflect_construct.ensures.part f))

pub returns-in-36-clause-keeps : goal.returns-in-36-clause-keeps
returns-in-36-clause-keeps c =
    let d = c.args.w.now in
    let n = names_of d in
    let home = c.args.home in
    let xs = c.args.arguments.now in
    let vs = values_in n xs in
    let q = c.requires.acts in
    let h = q.holds in
    rw (c.in-36.is, gives-value c.args.target) c.reflect_construct.ensures.keeps

pub ask_with_key-requires : goal.ask_with_key-requires
ask_with_key-requires c =
    let d = c.args.w.now in
    let n = names_of d in
    let home = c.args.home in
    let xs = c.args.arguments.now in
    let vs = values_in n xs in
    let q = c.requires.acts in
    let h = q.holds in
    record {
      acts = record {
        ready = q.ready;
        side = q.side;
        holds = (
          rw c.argument-first.ensures (passed-held d home
              xs h.1.0 0),
          (
            rw c.argument-second.ensures (passed-held d home xs h.1.0 1),
            (
              rw c.argument-third.ensures
                  (passed-held d home xs h.1.0 2),
              tt,
            ),
          ),
        );
      };
    }

pub returns-in-37-clause-part : goal.returns-in-37-clause-part
returns-in-37-clause-part c = λ f.
    let d = c.args.w.now in
    let n = names_of d in
    let home = c.args.home in
    let xs = c.args.arguments.now in
    let vs = values_in n xs in
    let q = c.requires.acts in
    let h = q.holds in
    rw c.in-37.is
    (by-three home c.ask_with_key.result d c.ask_with_key.new.w f (λ (y z u : Val). reflect_define home.0 (y ∷ z ∷ u ∷
    [])) (arg vs 0) (arg vs 1) (arg vs 2) (Resolve n c.argument-first.result) (Resolve n c.argument-second.result)
    (Resolve n c.argument-third.result) (passed-is n xs 0 ∙ ap (Resolve n) (sym c.argument-first.ensures)) (passed-is
    n xs 1 ∙ ap (Resolve n) (sym c.argument-second.ensures)) (passed-is n xs 2 ∙ ap (Resolve n) (sym
    c.argument-third.ensures)) (c.ask_with_key.ensures.part f))

pub returns-in-37-clause-keeps : goal.returns-in-37-clause-keeps
returns-in-37-clause-keeps c =
    let d = c.args.w.now in
    let n = names_of d in
    let home = c.args.home in
    let xs = c.args.arguments.now in
    let vs = values_in n xs in
    let q = c.requires.acts in
    let h = q.holds in
    rw (c.in-37.is, gives-value c.args.target) c.ask_with_key.ensures.keeps

pub ask_with_key-requires-in-38 : goal.ask_with_key-requires-in-38
ask_with_key-requires-in-38 c =
    let d = c.args.w.now in
    let n = names_of d in
    let home = c.args.home in
    let xs = c.args.arguments.now in
    let vs = values_in n xs in
    let q = c.requires.acts in
    let h = q.holds in
    record {
      acts = record {
        ready = q.ready;
        side = q.side;
        holds = (
          rw c.argument-first.ensures (passed-held d home
              xs h.1.0 0),
          (rw c.argument-second.ensures (passed-held d home xs h.1.0 1), tt),
        );
      };
    }

pub returns-in-38-clause-part : goal.returns-in-38-clause-part
returns-in-38-clause-part c = λ f.
    let d = c.args.w.now in
    let n = names_of d in
    let home = c.args.home in
    let xs = c.args.arguments.now in
    let vs = values_in n xs in
    let q = c.requires.acts in
    let h = q.holds in
    rw c.in-38.is
    (by-two home c.ask_with_key-in-38.result d c.ask_with_key-in-38.new.w f (λ (y z : Val). reflect_delete home.0 (y ∷
    z ∷ [])) (arg vs 0) (arg vs 1) (Resolve n c.argument-first.result) (Resolve n c.argument-second.result) (passed-is
    n xs 0 ∙ ap (Resolve n) (sym c.argument-first.ensures)) (passed-is n xs 1 ∙ ap (Resolve n) (sym
    c.argument-second.ensures)) (c.ask_with_key-in-38.ensures.part f))

pub returns-in-38-clause-keeps : goal.returns-in-38-clause-keeps
returns-in-38-clause-keeps c =
    let d = c.args.w.now in
    let n = names_of d in
    let home = c.args.home in
    let xs = c.args.arguments.now in
    let vs = values_in n xs in
    let q = c.requires.acts in
    let h = q.holds in
    rw (c.in-38.is, gives-value c.args.target) c.ask_with_key-in-38.ensures.keeps

pub ask_with_key-requires-in-39 : goal.ask_with_key-requires-in-39
ask_with_key-requires-in-39 c =
    let d = c.args.w.now in
    let n = names_of d in
    let home = c.args.home in
    let xs = c.args.arguments.now in
    let vs = values_in n xs in
    let q = c.requires.acts in
    let h = q.holds in
    record {
      acts = record {
        ready = q.ready;
        side = q.side;
        holds = (
          rw c.argument-first.ensures (passed-held d home
              xs h.1.0 0),
          (
            rw c.argument-second.ensures (passed-held d home xs h.1.0 1),
            (
              rw c.argument_or-receiver.ensures
                  (passed-or-held d home xs h.1.0 2 c.argument-first.result (rw c.argument-first.ensures (passed-held
                  d home xs
                  h.1.0 0))),
              tt,
            ),
          ),
        );
      };
    }

pub returns-in-39-clause-part : goal.returns-in-39-clause-part
returns-in-39-clause-part c = λ f.
    let d = c.args.w.now in
    let n = names_of d in
    let home = c.args.home in
    let xs = c.args.arguments.now in
    let vs = values_in n xs in
    let q = c.requires.acts in
    let h = q.holds in
    rw c.in-39.is
    (by-three home c.ask_with_key-in-39.result d c.ask_with_key-in-39.new.w f (λ (y z u : Val). reflect_get home.0 (y
    ∷ z ∷ u ∷ [])) (arg vs 0) (arg vs 1) (arg_or vs 2 (arg vs 0)) (Resolve n c.argument-first.result) (Resolve n
    c.argument-second.result) (Resolve n c.argument_or-receiver.result) (passed-is n xs 0 ∙ ap (Resolve n) (sym
    c.argument-first.ensures)) (passed-is n xs 1 ∙ ap (Resolve n) (sym c.argument-second.ensures)) (ap (arg_or vs 2)
    (passed-is n xs 0 ∙ ap (Resolve n) (sym c.argument-first.ensures)) ∙ passed-or-is n xs 2 c.argument-first.result ∙
    ap (Resolve n) (sym c.argument_or-receiver.ensures)) (c.ask_with_key-in-39.ensures.part f))

pub returns-in-39-clause-keeps : goal.returns-in-39-clause-keeps
returns-in-39-clause-keeps c =
    let d = c.args.w.now in
    let n = names_of d in
    let home = c.args.home in
    let xs = c.args.arguments.now in
    let vs = values_in n xs in
    let q = c.requires.acts in
    let h = q.holds in
    rw (c.in-39.is, gives-value c.args.target) c.ask_with_key-in-39.ensures.keeps

pub ask_with_key-requires-in-40 : goal.ask_with_key-requires-in-40
ask_with_key-requires-in-40 c =
    let d = c.args.w.now in
    let n = names_of d in
    let home = c.args.home in
    let xs = c.args.arguments.now in
    let vs = values_in n xs in
    let q = c.requires.acts in
    let h = q.holds in
    record {
      acts = record {
        ready = q.ready;
        side = q.side;
        holds = (
          rw c.argument-first.ensures (passed-held d home
              xs h.1.0 0),
          (rw c.argument-second.ensures (passed-held d home xs h.1.0 1), tt),
        );
      };
    }

pub returns-in-40-clause-part : goal.returns-in-40-clause-part
returns-in-40-clause-part c = λ f.
    let d = c.args.w.now in
    let n = names_of d in
    let home = c.args.home in
    let xs = c.args.arguments.now in
    let vs = values_in n xs in
    let q = c.requires.acts in
    let h = q.holds in
    rw c.in-40.is
    (by-two home c.ask_with_key-in-40.result d c.ask_with_key-in-40.new.w f (λ (y z : Val). get_own_descriptor home.0
    (y ∷ z ∷ [])) (arg vs 0) (arg vs 1) (Resolve n c.argument-first.result) (Resolve n c.argument-second.result)
    (passed-is n xs 0 ∙ ap (Resolve n) (sym c.argument-first.ensures)) (passed-is n xs 1 ∙ ap (Resolve n) (sym
    c.argument-second.ensures)) (c.ask_with_key-in-40.ensures.part f))

pub returns-in-40-clause-keeps : goal.returns-in-40-clause-keeps
returns-in-40-clause-keeps c =
    let d = c.args.w.now in
    let n = names_of d in
    let home = c.args.home in
    let xs = c.args.arguments.now in
    let vs = values_in n xs in
    let q = c.requires.acts in
    let h = q.holds in
    rw (c.in-40.is, gives-value c.args.target) c.ask_with_key-in-40.ensures.keeps

pub ask-requires : goal.ask-requires
ask-requires c =
    let d = c.args.w.now in
    let n = names_of d in
    let home = c.args.home in
    let xs = c.args.arguments.now in
    let vs = values_in n xs in
    let q = c.requires.acts in
    let h = q.holds in
    record {
      acts = record {
        ready = q.ready;
        side = q.side;
        holds = (
          rw c.argument-first.ensures (passed-held d home
              xs h.1.0 0),
          tt,
        );
      };
    }

pub returns-in-41-clause-part : goal.returns-in-41-clause-part
returns-in-41-clause-part c = λ f.
    let d = c.args.w.now in
    let n = names_of d in
    let home = c.args.home in
    let xs = c.args.arguments.now in
    let vs = values_in n xs in
    let q = c.requires.acts in
    let h = q.holds in
    rw c.in-41.is
    (by-one home c.ask.result d c.ask.new.w f (λ (y : Val). get_prototype_of home.0 y) (arg vs 0) (Resolve n
    c.argument-first.result) (passed-is n xs 0 ∙ ap (Resolve n) (sym c.argument-first.ensures)) (c.ask.ensures.part f))

pub returns-in-41-clause-keeps : goal.returns-in-41-clause-keeps
returns-in-41-clause-keeps c =
    let d = c.args.w.now in
    let n = names_of d in
    let home = c.args.home in
    let xs = c.args.arguments.now in
    let vs = values_in n xs in
    let q = c.requires.acts in
    let h = q.holds in
    rw (c.in-41.is, gives-value c.args.target) c.ask.ensures.keeps

pub ask_with_key-requires-in-42 : goal.ask_with_key-requires-in-42
ask_with_key-requires-in-42 c =
    let d = c.args.w.now in
    let n = names_of d in
    let home = c.args.home in
    let xs = c.args.arguments.now in
    let vs = values_in n xs in
    let q = c.requires.acts in
    let h = q.holds in
    record {
      acts = record {
        ready = q.ready;
        side = q.side;
        holds = (
          rw c.argument-first.ensures (passed-held d home
              xs h.1.0 0),
          (rw c.argument-second.ensures (passed-held d home xs h.1.0 1), tt),
        );
      };
    }

pub returns-in-42-clause-part : goal.returns-in-42-clause-part
returns-in-42-clause-part c = λ f.
    let d = c.args.w.now in
    let n = names_of d in
    let home = c.args.home in
    let xs = c.args.arguments.now in
    let vs = values_in n xs in
    let q = c.requires.acts in
    let h = q.holds in
    rw c.in-42.is
    (by-two home c.ask_with_key-in-42.result d c.ask_with_key-in-42.new.w f (λ (y z : Val). reflect_has home.0 (y ∷ z
    ∷ [])) (arg vs 0) (arg vs 1) (Resolve n c.argument-first.result) (Resolve n c.argument-second.result) (passed-is n
    xs 0 ∙ ap (Resolve n) (sym c.argument-first.ensures)) (passed-is n xs 1 ∙ ap (Resolve n) (sym
    c.argument-second.ensures)) (c.ask_with_key-in-42.ensures.part f))

pub returns-in-42-clause-keeps : goal.returns-in-42-clause-keeps
returns-in-42-clause-keeps c =
    let d = c.args.w.now in
    let n = names_of d in
    let home = c.args.home in
    let xs = c.args.arguments.now in
    let vs = values_in n xs in
    let q = c.requires.acts in
    let h = q.holds in
    rw (c.in-42.is, gives-value c.args.target) c.ask_with_key-in-42.ensures.keeps

pub ask-requires-in-43 : goal.ask-requires-in-43
ask-requires-in-43 c =
    let d = c.args.w.now in
    let n = names_of d in
    let home = c.args.home in
    let xs = c.args.arguments.now in
    let vs = values_in n xs in
    let q = c.requires.acts in
    let h = q.holds in
    record {
      acts = record {
        ready = q.ready;
        side = q.side;
        holds = (
          rw c.argument-first.ensures (passed-held d home
              xs h.1.0 0),
          tt,
        );
      };
    }

pub returns-in-43-clause-part : goal.returns-in-43-clause-part
returns-in-43-clause-part c = λ f.
    let d = c.args.w.now in
    let n = names_of d in
    let home = c.args.home in
    let xs = c.args.arguments.now in
    let vs = values_in n xs in
    let q = c.requires.acts in
    let h = q.holds in
    rw c.in-43.is
    (by-one home c.ask-in-43.result d c.ask-in-43.new.w f (λ (y : Val). reflect_is_extensible home.0 y) (arg vs 0)
    (Resolve n c.argument-first.result) (passed-is n xs 0 ∙ ap (Resolve n) (sym c.argument-first.ensures))
    (c.ask-in-43.ensures.part f))

pub returns-in-43-clause-keeps : goal.returns-in-43-clause-keeps
returns-in-43-clause-keeps c =
    let d = c.args.w.now in
    let n = names_of d in
    let home = c.args.home in
    let xs = c.args.arguments.now in
    let vs = values_in n xs in
    let q = c.requires.acts in
    let h = q.holds in
    rw (c.in-43.is, gives-value c.args.target) c.ask-in-43.ensures.keeps

pub ask-requires-in-44 : goal.ask-requires-in-44
ask-requires-in-44 c =
    let d = c.args.w.now in
    let n = names_of d in
    let home = c.args.home in
    let xs = c.args.arguments.now in
    let vs = values_in n xs in
    let q = c.requires.acts in
    let h = q.holds in
    record {
      acts = record {
        ready = q.ready;
        side = q.side;
        holds = (
          rw c.argument-first.ensures (passed-held d home
              xs h.1.0 0),
          tt,
        );
      };
    }

pub returns-in-44-clause-part : goal.returns-in-44-clause-part
returns-in-44-clause-part c = λ f.
    let d = c.args.w.now in
    let n = names_of d in
    let home = c.args.home in
    let xs = c.args.arguments.now in
    let vs = values_in n xs in
    let q = c.requires.acts in
    let h = q.holds in
    rw c.in-44.is
    (by-one home c.ask-in-44.result d c.ask-in-44.new.w f (λ (y : Val). reflect_own_keys home.0 y) (arg vs 0) (Resolve
    n c.argument-first.result) (passed-is n xs 0 ∙ ap (Resolve n) (sym c.argument-first.ensures))
    (c.ask-in-44.ensures.part f))

pub returns-in-44-clause-keeps : goal.returns-in-44-clause-keeps
returns-in-44-clause-keeps c =
    let d = c.args.w.now in
    let n = names_of d in
    let home = c.args.home in
    let xs = c.args.arguments.now in
    let vs = values_in n xs in
    let q = c.requires.acts in
    let h = q.holds in
    rw (c.in-44.is, gives-value c.args.target) c.ask-in-44.ensures.keeps

pub ask-requires-in-45 : goal.ask-requires-in-45
ask-requires-in-45 c =
    let d = c.args.w.now in
    let n = names_of d in
    let home = c.args.home in
    let xs = c.args.arguments.now in
    let vs = values_in n xs in
    let q = c.requires.acts in
    let h = q.holds in
    record {
      acts = record {
        ready = q.ready;
        side = q.side;
        holds = (
          rw c.argument-first.ensures (passed-held d home
              xs h.1.0 0),
          tt,
        );
      };
    }

pub returns-in-45-clause-part : goal.returns-in-45-clause-part
returns-in-45-clause-part c = λ f.
    let d = c.args.w.now in
    let n = names_of d in
    let home = c.args.home in
    let xs = c.args.arguments.now in
    let vs = values_in n xs in
    let q = c.requires.acts in
    let h = q.holds in
    rw c.in-45.is
    (by-one home c.ask-in-45.result d c.ask-in-45.new.w f (λ (y : Val). reflect_prevent home.0 y) (arg vs 0) (Resolve
    n c.argument-first.result) (passed-is n xs 0 ∙ ap (Resolve n) (sym c.argument-first.ensures))
    (c.ask-in-45.ensures.part f))

pub returns-in-45-clause-keeps : goal.returns-in-45-clause-keeps
returns-in-45-clause-keeps c =
    let d = c.args.w.now in
    let n = names_of d in
    let home = c.args.home in
    let xs = c.args.arguments.now in
    let vs = values_in n xs in
    let q = c.requires.acts in
    let h = q.holds in
    rw (c.in-45.is, gives-value c.args.target) c.ask-in-45.ensures.keeps

pub ask_with_key-requires-in-46 : goal.ask_with_key-requires-in-46
ask_with_key-requires-in-46 c =
    let d = c.args.w.now in
    let n = names_of d in
    let home = c.args.home in
    let xs = c.args.arguments.now in
    let vs = values_in n xs in
    let q = c.requires.acts in
    let h = q.holds in
    record {
      acts = record {
        ready = q.ready;
        side = q.side;
        holds = (
          rw c.argument-first.ensures (passed-held d home
              xs h.1.0 0),
          (
            rw c.argument-second.ensures (passed-held d home xs h.1.0 1),
            (
              rw c.argument-third.ensures
                  (passed-held d home xs h.1.0 2),
              (
                rw c.argument_or-receiver-in-46.ensures (passed-or-held d home xs h.1.0 3
                    c.argument-first.result (rw c.argument-first.ensures (passed-held d home xs h.1.0 0))),
                tt,
              ),
            ),
          ),
        );
      };
    }

pub returns-in-46-clause-part : goal.returns-in-46-clause-part
returns-in-46-clause-part c = λ f.
    let d = c.args.w.now in
    let n = names_of d in
    let home = c.args.home in
    let xs = c.args.arguments.now in
    let vs = values_in n xs in
    let q = c.requires.acts in
    let h = q.holds in
    rw c.in-46.is
    (by-four home c.ask_with_key-in-46.result d c.ask_with_key-in-46.new.w f (λ (y z u w : Val). reflect_set home.0 (y
    ∷ z ∷ u ∷ w ∷ [])) (arg vs 0) (arg vs 1) (arg vs 2) (arg_or vs 3 (arg vs 0)) (Resolve n c.argument-first.result)
    (Resolve n c.argument-second.result) (Resolve n c.argument-third.result) (Resolve n
    c.argument_or-receiver-in-46.result) (passed-is n xs 0 ∙ ap (Resolve n) (sym c.argument-first.ensures)) (passed-is
    n xs 1 ∙ ap (Resolve n) (sym c.argument-second.ensures)) (passed-is n xs 2 ∙ ap (Resolve n) (sym
    c.argument-third.ensures)) (ap (arg_or vs 3) (passed-is n xs 0 ∙ ap (Resolve n) (sym c.argument-first.ensures)) ∙
    passed-or-is n xs 3 c.argument-first.result ∙ ap (Resolve n) (sym c.argument_or-receiver-in-46.ensures))
    (c.ask_with_key-in-46.ensures.part f))

pub returns-in-46-clause-keeps : goal.returns-in-46-clause-keeps
returns-in-46-clause-keeps c =
    let d = c.args.w.now in
    let n = names_of d in
    let home = c.args.home in
    let xs = c.args.arguments.now in
    let vs = values_in n xs in
    let q = c.requires.acts in
    let h = q.holds in
    rw (c.in-46.is, gives-value c.args.target) c.ask_with_key-in-46.ensures.keeps

pub reflect_set_prototype-requires : goal.reflect_set_prototype-requires
reflect_set_prototype-requires c =
    let d = c.args.w.now in
    let n = names_of d in
    let home = c.args.home in
    let xs = c.args.arguments.now in
    let vs = values_in n xs in
    let q = c.requires.acts in
    let h = q.holds in
    record {
      acts = record {
        ready = q.ready;
        side = q.side;
        holds = (
          rw c.argument-first.ensures (passed-held d home
              xs h.1.0 0),
          (rw c.argument-second.ensures (passed-held d home xs h.1.0 1), tt),
        );
      };
    }

pub returns-in-47-clause-part : goal.returns-in-47-clause-part
returns-in-47-clause-part c = λ f.
    let d = c.args.w.now in
    let n = names_of d in
    let home = c.args.home in
    let xs = c.args.arguments.now in
    let vs = values_in n xs in
    let q = c.requires.acts in
    let h = q.holds in
    rw c.in-47.is
    (by-two home c.reflect_set_prototype.result d c.reflect_set_prototype.new.w f (λ (y z : Val).
    reflect_set_prototype home.0 y z) (arg vs 0) (arg vs 1) (Resolve n c.argument-first.result) (Resolve n
    c.argument-second.result) (passed-is n xs 0 ∙ ap (Resolve n) (sym c.argument-first.ensures)) (passed-is n xs 1 ∙
    ap (Resolve n) (sym c.argument-second.ensures)) (c.reflect_set_prototype.ensures.part f))

pub returns-in-47-clause-keeps : goal.returns-in-47-clause-keeps
returns-in-47-clause-keeps c =
    let d = c.args.w.now in
    let n = names_of d in
    let home = c.args.home in
    let xs = c.args.arguments.now in
    let vs = values_in n xs in
    let q = c.requires.acts in
    let h = q.holds in
    rw (c.in-47.is, gives-value c.args.target) c.reflect_set_prototype.ensures.keeps

pub run_function-requires : goal.run_function-requires
run_function-requires c =
    let n35 : c.args.place ≡ 35 → ⊥ = λ e. omega (arith, e) in
    let n36 : c.args.place ≡ 36 → ⊥ = λ e. omega (arith, e) in
    let n37 : c.args.place ≡ 37 → ⊥ = λ e. omega (arith, e) in
    let n38 : c.args.place ≡ 38 → ⊥ = λ e. omega (arith, e) in
    let n39 : c.args.place ≡ 39 → ⊥ = λ e. omega (arith, e) in
    let n40 : c.args.place ≡ 40 → ⊥ = λ e. omega (arith, e) in
    let n41 : c.args.place ≡ 41 → ⊥ = λ e. omega (arith, e) in
    let n42 : c.args.place ≡ 42 → ⊥ = λ e. omega (arith, e) in
    let n43 : c.args.place ≡ 43 → ⊥ = λ e. omega (arith, e) in
    let n44 : c.args.place ≡ 44 → ⊥ = λ e. omega (arith, e) in
    let n45 : c.args.place ≡ 45 → ⊥ = λ e. omega (arith, e) in
    let n46 : c.args.place ≡ 46 → ⊥ = λ e. omega (arith, e) in
    let n47 : c.args.place ≡ 47 → ⊥ = λ e. omega (arith, e) in
    record {
      acts = c.requires.acts;
      ours = c.requires.ours;
      object = c.requires.object;
      reflect = no-reflect c.args.place (
        n35,
        (
          n36,
          (
            n37,
            (
              n38,
              (
                n39,
                (
                  n40,
                  (
                    n41,
                    (
                      n42,
                      (
                        n43,
                        (
                          n44,
                          (
                            n45,
                            (
                              n46,
                              (
                                n47,
                                tt,
                              ),
                            ),
                          ),
                        ),
                      ),
                    ),
                  ),
                ),
              ),
            ),
          ),
        ),
      );
    }

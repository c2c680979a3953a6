use Rattle.std.proofs.Common.{ap, false, subst, sym, true, ◌∙◌, ◌≡◌}
use Rattle.mb_base.specs.declared.value.Side.{Side}
use Rattle.mb_frames.proofs.Changing.{there}
use Rattle.mb_frames.proofs.Passed.{Part-by}
use Rattle.mb_frames.specs.Holding.{method_held, proxy_held}
use Rattle.mb_frames.specs.Ready.{Holds}
use Rattle.mb_frames.specs.Resolved.{method_in}
use Rattle.mb_frames.specs.Sorts.{method_gives}
use Rattle.mb_frames.specs.declared.proxies.ProxyFrame.TheVariants as frame
use Rattle.mb_model.specs.Meaning.{finished, perform_row}
use Rattle.mb_model.specs.Objects.Proxies.{proxy_method}
use Rattle.mb_model.specs.Writing.{type_error}
use Rattle.mb_scriptproxy.proofs.Performed.{asker-held, cut-row, cut-side, gone, held-by, looked, method-anywhere}
use Rattle.mb_scriptproxy.proofs.Performed.{of-target, owner-home, owner-inside, owner-side, parts-held, target-builds}
use Rattle.mb_scriptproxy.proofs.performing.perform.Goals as goal
use Rattle.mb_scriptproxy.specs.machine.Acting.{is_cut_off}
use Rattle.mb_world.specs.Image.{Image, names_of, object_in}

pub returns-then-cut-clause-part : goal.returns-then-cut-clause-part
returns-then-cut-clause-part c = λ f.
    let d = c.args.w.now in
    let n = names_of d in
    let home = c.args.home in
    let o = c.args.object in
    let a = c.requires.acts in
    let k = there d o a.holds.0.within in
    let p = rw k.1 at c.requires.proxy in
    let q : is_cut_off d c.args.viewer o ≡ true = rw k.1 (sym (rw k.1 at c.cut.ensures) ∙ c.if-cut.true) in
    rw (c.requires.side ∙ cut-side d a.ready home o a.holds.0 k.0 k.1 p c.args.viewer q)
    (Part-by home c.type_error.result d c.type_error.new.w f f
    (perform_row home.0 c.args.viewer.0 (object_in n o) (method_in n c.args.method) finished)
    (type_error home.0 finished)
    (cut-row d a.ready home o a.holds.0 k.0 k.1 p c.args.viewer c.args.method q)
    (c.type_error.ensures.part f))

pub returns-then-cut-clause-keeps : goal.returns-then-cut-clause-keeps
returns-then-cut-clause-keeps c =
    let d = c.args.w.now in
    let home = c.args.home in
    let o = c.args.object in
    let a = c.requires.acts in
    let k = there d o a.holds.0.within in
    let p = rw k.1 at c.requires.proxy in
    let q : is_cut_off d c.args.viewer o ≡ true = rw k.1 (sym (rw k.1 at c.cut.ensures) ∙ c.if-cut.true) in
    rw (c.requires.side ∙ cut-side d a.ready home o a.holds.0 k.0 k.1 p c.args.viewer q)
    (c.type_error.ensures.keeps (method_gives c.args.method))

pub look_up-requires : goal.look_up-requires
look_up-requires c =
    let d = c.args.w.now in
    let home = c.args.home in
    let o = c.args.object in
    let a = c.requires.acts in
    let cell = c.cell.result.now in
    let e = c.cell.ensures.value in
    let p = rw e at c.requires.proxy in
    let q : is_cut_off d c.args.viewer o ≡ false = rw e (sym (rw e at c.cut.ensures) ∙ c.if-cut.false) in
    let s = c.requires.side ∙ owner-side d a.ready home o a.holds.0 cell e p c.args.viewer q in
    let i = sym c.proxy_parts.ensures ∙ c.in-Some.is in
    let t = c.in-Some.target in
    let g = c.in-Some.handler in
    let w = parts-held d a.ready home o a.holds.0 cell e p t g i in
    record {
      acts = record {
        ready = a.ready;
        side = rw s (owner-inside d a.ready home o a.holds.0 cell e p);
        holds = subst (λ (z : Side). Holds d z (proxy_held (frame.TrapGot home t g c.args.method))) (sym s) (
          asker-held d a.ready home o a.holds.0 cell e p a.side,
          (
            w.0,
            (
              w.1,
              of-target d cell.home o t c.args.method w.0 (target-builds d a.ready home o a.holds.0 cell e p t g i)
                  (held-by d home cell.home (method_held o c.args.method) (method-anywhere o c.args.method)
                  (owner-home d a.ready home o a.holds.0 cell e p) a.holds.1),
            ),
          ),
        );
      };
    }

pub returns-in-Some-clause-part : goal.returns-in-Some-clause-part
returns-in-Some-clause-part c = λ f.
    let d = c.args.w.now in
    let home = c.args.home in
    let o = c.args.object in
    let a = c.requires.acts in
    let cell = c.cell.result.now in
    let e = c.cell.ensures.value in
    let p = rw e at c.requires.proxy in
    let q : is_cut_off d c.args.viewer o ≡ false = rw e (sym (rw e at c.cut.ensures) ∙ c.if-cut.false) in
    let s = c.requires.side ∙ owner-side d a.ready home o a.holds.0 cell e p c.args.viewer q in
    let i = sym c.proxy_parts.ensures ∙ c.in-Some.is in
    let t = c.in-Some.target in
    let g = c.in-Some.handler in
    let n = names_of d in
    let y = method_in n c.args.method in
    Part-by c.args.side c.look_up.result d c.look_up.new.w f f
    (perform_row home.0 c.args.viewer.0 (object_in n o) y finished)
    (proxy_method home.0 c.args.side.0 (object_in n t) (object_in n g) y finished)
    (λ log. looked d a.ready home o a.holds.0 cell e p c.args.viewer c.args.method q t g i log
    ∙ ap (λ (u : Side). proxy_method home.0 u.0 (object_in n t) (object_in n g) y finished (Image d log)) (sym s))
    (c.look_up.ensures.part f)

pub type_error-requires-in-None-clause-side : goal.type_error-requires-in-None-clause-side
type_error-requires-in-None-clause-side c =
    let d = c.args.w.now in
    let home = c.args.home in
    let o = c.args.object in
    let a = c.requires.acts in
    let cell = c.cell.result.now in
    let e = c.cell.ensures.value in
    let p = rw e at c.requires.proxy in
    let q : is_cut_off d c.args.viewer o ≡ false = rw e (sym (rw e at c.cut.ensures) ∙ c.if-cut.false) in
    let s = c.requires.side ∙ owner-side d a.ready home o a.holds.0 cell e p c.args.viewer q in
    rw s (owner-inside d a.ready home o a.holds.0 cell e p)

pub returns-in-None-clause-part : goal.returns-in-None-clause-part
returns-in-None-clause-part c = λ f.
    let d = c.args.w.now in
    let home = c.args.home in
    let o = c.args.object in
    let a = c.requires.acts in
    let cell = c.cell.result.now in
    let e = c.cell.ensures.value in
    let p = rw e at c.requires.proxy in
    let q : is_cut_off d c.args.viewer o ≡ false = rw e (sym (rw e at c.cut.ensures) ∙ c.if-cut.false) in
    let s = c.requires.side ∙ owner-side d a.ready home o a.holds.0 cell e p c.args.viewer q in
    let n = names_of d in
    let y = method_in n c.args.method in
    let i = sym c.proxy_parts.ensures ∙ c.in-None.is in
    Part-by c.args.side c.type_error-in-None.result d c.type_error-in-None.new.w f f
    (perform_row home.0 c.args.viewer.0 (object_in n o) y finished) (type_error c.args.side.0 finished)
    (λ log. gone d a.ready home o a.holds.0 cell e p c.args.viewer c.args.method q i log
    ∙ ap (λ (u : Side). type_error u.0 finished (Image d log)) (sym s))
    (c.type_error-in-None.ensures.part f)

pub returns-in-None-clause-keeps : goal.returns-in-None-clause-keeps
returns-in-None-clause-keeps c = c.type_error-in-None.ensures.keeps (method_gives c.args.method)

use Rattle.std.proofs.Common.{None, false, subst, sym, ℕ}
use Rattle.mb_eval_expr.proofs.Keeping.{stays}
use Rattle.mb_eval_expr.proofs.Spelling.{keyed-made, too-long}
use Rattle.mb_parts.proofs.Texting.{texts-changed}
use Rattle.mb_frames.proofs.Forms.{ready-runs}
use Rattle.mb_frames.proofs.HeldLess.{text-if-held, text-held}
use Rattle.mb_frames.proofs.Keeping.{inside-still}
use Rattle.mb_frames.proofs.Readying.{changed-then}
use Rattle.mb_frames.specs.Making.{code_held}
use Rattle.mb_frames.specs.Ready.{Holds}
use Rattle.mb_world.specs.Image.{code_in, key_in, names_of, object_in, text_in}
use Rattle.mb_frames.specs.Going.{WentOn}
use Rattle.mb_model.specs.Operations.Makings.{make_function}
use Rattle.mb_world.specs.Value.{Val}
use Rattle.mb_parts.proofs.Acting.{ready-acts}
use Rattle.mb_parts.proofs.Fresh.{Acts-prototypes}
use Rattle.mb_world.specs.declared.cell.Code.{Code}
use Rattle.mb_eval_expr.proofs.functions.keyed_function.Goals as goal

pub make_function-requires-clause-built_ins : goal.make_function-requires-clause-built_ins
make_function-requires-clause-built_ins c =
    let d = c.args.w.now in
    let d1 = c.full_name.new.w in
    let home = c.args.home in
    let r = c.requires.ready in
    let g = texts-changed home d d1 c.full_name.ensures.grew r in
    Acts-prototypes d1 home (ready-acts d1 home g.ready (inside-still home d d1 g c.requires.inside))

pub make_function-requires-clause-world : goal.make_function-requires-clause-world
make_function-requires-clause-world c =
    let d = c.args.w.now in
    let d1 = c.full_name.new.w in
    let home = c.args.home in
    let r = c.requires.ready in
    let g = texts-changed home d d1 c.full_name.ensures.grew r in
    ready-runs d1 home g.ready (inside-still home d d1 g c.requires.inside)

pub make_function-requires-clause-scope : goal.make_function-requires-clause-scope
make_function-requires-clause-scope c = rw c.full_name.ensures.grew.texts c.requires.at.0

pub returns-in_err-name-clause-changed : goal.returns-in_err-name-clause-changed
returns-in_err-name-clause-changed c = texts-changed c.args.home c.args.w.now c.full_name.new.w
    c.full_name.ensures.grew c.requires.ready

pub returns-then-params-gt-MOST_PARAMS-clause-changed : goal.returns-then-params-gt-MOST_PARAMS-clause-changed
returns-then-params-gt-MOST_PARAMS-clause-changed c = texts-changed c.args.home c.args.w.now c.full_name.new.w
    c.full_name.ensures.grew c.requires.ready

pub returns-in_err-function-in-Some-clause-changed : goal.returns-in_err-function-in-Some-clause-changed
returns-in_err-function-in-Some-clause-changed c =
    let d = c.args.w.now in
    let d1 = c.full_name.new.w in
    let home = c.args.home in
    let r = c.requires.ready in
    let g = texts-changed home d d1 c.full_name.ensures.grew r in
    let i = inside-still home d d1 g c.requires.inside in
    let n = rw c.in-Some.is at c.in_ok-name.ensures.name in
    let code : Code = record {
      side = home;
      node = c.args.node;
      scope = c.args.at.scope;
      constructs = false;
      bound_this = None;
    } in
    let held : Holds d1 home (code_held code None c.in-Some.name)
    = (
      stays home d d1 g r c.requires.holds.1.0,
      (
        stays home d d1 g r c.requires.holds.0,
        (
          text-if-held d1 home None tt,
          (text-held d1 home c.in-Some.name n.0, tt),
        ),
      ),
    ) in
    changed-then home d d1 c.make_function.new.w g (c.in_err-function-in-Some.ensures.keeps g.ready i held).changed

pub returns-in_ok-function-in-Some-clause-makes : goal.returns-in_ok-function-in-Some-clause-makes
returns-in_ok-function-in-Some-clause-makes c = λ parts e.
    let d = c.args.w.now in
    let d1 = c.full_name.new.w in
    let n = rw c.in-Some.is at c.in_ok-name.ensures.name in
    let short = rw c.in-Some.is at c.in_ok-name.ensures.short in
    let code : Code = record {
      side = c.args.home;
      node = c.args.node;
      scope = c.args.at.scope;
      constructs = false;
      bound_this = None;
    } in
    keyed-made c.args.home d d1 c.make_function.new.w c.args.at c.args.node parts c.args.prefix.now
    (key_in (names_of d) c.args.key) c.full_name.ensures.grew c.in-Some.name c.in_ok-function-in-Some.function n short
    (subst (λ (m : ℕ). WentOn Val d1 c.make_function.new.w 0 0
    (make_function (code_in (names_of d1) code) None m (text_in (names_of d1) c.in-Some.name))
    (object_in (names_of c.make_function.new.w) c.in_ok-function-in-Some.function))
    (sym e) c.in_ok-function-in-Some.ensures.makes)

pub returns-in_ok-function-in-Some-clause-changed : goal.returns-in_ok-function-in-Some-clause-changed
returns-in_ok-function-in-Some-clause-changed c =
    let d = c.args.w.now in
    let d1 = c.full_name.new.w in
    let home = c.args.home in
    let r = c.requires.ready in
    let g = texts-changed home d d1 c.full_name.ensures.grew r in
    let i = inside-still home d d1 g c.requires.inside in
    let n = rw c.in-Some.is at c.in_ok-name.ensures.name in
    let code : Code = record {
      side = home;
      node = c.args.node;
      scope = c.args.at.scope;
      constructs = false;
      bound_this = None;
    } in
    let held : Holds d1 home (code_held code None c.in-Some.name)
    = (
      stays home d d1 g r c.requires.holds.1.0,
      (
        stays home d d1 g r c.requires.holds.0,
        (
          text-if-held d1 home None tt,
          (text-held d1 home c.in-Some.name n.0, tt),
        ),
      ),
    ) in
    changed-then home d d1 c.make_function.new.w g (c.in_ok-function-in-Some.ensures.keeps g.ready i held).changed

pub returns-in_ok-function-in-Some-clause-holds : goal.returns-in_ok-function-in-Some-clause-holds
returns-in_ok-function-in-Some-clause-holds c =
    let d = c.args.w.now in
    let d1 = c.full_name.new.w in
    let home = c.args.home in
    let r = c.requires.ready in
    let g = texts-changed home d d1 c.full_name.ensures.grew r in
    let i = inside-still home d d1 g c.requires.inside in
    let n = rw c.in-Some.is at c.in_ok-name.ensures.name in
    let code : Code = record {
      side = home;
      node = c.args.node;
      scope = c.args.at.scope;
      constructs = false;
      bound_this = None;
    } in
    let held : Holds d1 home (code_held code None c.in-Some.name)
    = (
      stays home d d1 g r c.requires.holds.1.0,
      (
        stays home d d1 g r c.requires.holds.0,
        (
          text-if-held d1 home None tt,
          (text-held d1 home c.in-Some.name n.0, tt),
        ),
      ),
    ) in
    (c.in_ok-function-in-Some.ensures.keeps g.ready i held).holds

pub returns-in-None-clause-makes : goal.returns-in-None-clause-makes
returns-in-None-clause-makes c = λ parts e.
    let d = c.args.w.now in
    too-long c.args.home d c.full_name.new.w c.full_name.new.w c.args.at c.args.node parts c.args.prefix.now
    (key_in (names_of d) c.args.key) c.full_name.ensures.grew (rw c.in-None.is at c.in_ok-name.ensures.name)

pub returns-in-None-clause-changed : goal.returns-in-None-clause-changed
returns-in-None-clause-changed c = texts-changed c.args.home c.args.w.now c.full_name.new.w c.full_name.ensures.grew
    c.requires.ready

use Rattle.std.proofs.Common.{◌∙◌, arith, length, sym, ap, drop, slice_get, List, ℕ, Err, [], refl, subst, ◌++◌, ◌∷◌, Option}
use Rattle.std.proofs.lemmas.Result.{err_from_is_err_and}
use Rattle.mb_frames.proofs.Steps.{Grew-then}
use Rattle.mb_frames.specs.Resolved.{context_in}
use Rattle.mb_frames.specs.Rest.Parts.{parts_at}
use Rattle.mb_frames.specs.Standing.{forms_at}
use Rattle.mb_model.specs.Meaning.{finished}
use Rattle.mb_model.specs.Nodes.Statements.{give_each}
use Rattle.mb_world.specs.Image.{Resolve, names_of}
use Rattle.mb_frames.proofs.Forms.{CanRun-grows}
use Rattle.mb_eval_stmt.proofs.Giving.{Step-all, Step-undeclared, Step-waits, given-more, given-of, parts-grow, waits-of}
use Rattle.mb_parts.proofs.Places.{not-past}
use Rattle.mb_base.specs.declared.value.NodeId.{NodeId}
use Rattle.mb_base.specs.declared.value.StrId.{StrId}
use Rattle.mb_frames.proofs.Leaving.{holds-still}
use Rattle.mb_frames.proofs.Readying.{changed-same, changed-then}
use Rattle.mb_frames.proofs.Steps.{Grew-same}
use Rattle.mb_frames.specs.Held.{HeldNode}
use Rattle.mb_frames.specs.Kinds.{is_declaring_form}
use Rattle.mb_frames.specs.Ready.{Holds}
use Rattle.mb_frames.specs.declared.statements.StmtFrame.TheVariants as y
use Rattle.mb_eval_stmt.specs.machine.Keeping.{context_held, declared_held}
use Rattle.mb_frames.specs.Keeping.{scope_held}
use Rattle.mb_eval_stmt.proofs.Keeping.{keeps-same, keeps-then}
use Rattle.mb_parts.proofs.Answering.{keeps-halts}
use Rattle.mb_frames.proofs.Keeping.{inside-still}
use Rattle.mb_eval_stmt.proofs.Leaving.{ends-nothing, waits-value}
use Rattle.mb_frames.specs.Sorts.{ACompletion}
use Rattle.mb_eval_stmt.proofs.declarations.give_each.Goals as goal

pub part_at-requires : goal.part_at-requires
part_at-requires c =
    CanRun-grows c.args.w.now c.loop-place.w c.args.home c.loop-place.invariant.grew c.loop-place.invariant.ids
    c.requires.world

pub returns-in_err-name-in-Some-clause-row : goal.returns-in_err-name-in-Some-clause-row
returns-in_err-name-in-Some-clause-row c = λ begun f l.
    let d = c.args.w.now in
    let x = context_in (names_of d) c.args.home.0 c.args.at in
    let p = err_from_is_err_and c.from_residual.result c.from_residual.ensures.1 in
    rw (p.1, p.2)
    (Step-undeclared c.args.home begun c.in_err-name-in-Some.field-0.0 d c.loop-place.w c.give_one.new.w f l
    (slice_get (forms_at c.loop-place.w c.args.home) c.in-Some.decl.0) x
    (give_each x (drop c.args.next (parts_at (forms_at d c.args.home) c.args.node.0)) finished)
    (c.in_err-name-in-Some.ensures.gives (Resolve (names_of d) c.args.at.this)))

pub returns-in-Some-2-clause-row : goal.returns-in-Some-2-clause-row
returns-in-Some-2-clause-row c = λ begun f l.
    let d = c.args.w.now in
    let i = c.loop-place.invariant in
    let x = context_in (names_of d) c.args.home.0 c.args.at in
    Step-waits c.args.home d c.loop-place.w c.args.at c.args.node c.args.next c.loop-place.place c.requires.world.ids
    c.requires.context c.requires.world.takes_part i.grew i.trace i.same begun c.give_one.new.w f l c.in-Some-2.value
    c.in-Some-2.name c.in-Some.decl.0 c.in_ok-next-in-Some-2.next (sym c.in-Some.ensures.part)
    (waits-of c.in_ok-name-in-Some.field-0 (c.in-Some-2.name, c.in-Some-2.value) c.loop-place.w c.give_one.new.w
    (slice_get (forms_at c.loop-place.w c.args.home) c.in-Some.decl.0) x c.in-Some-2.is
    (c.in_ok-name-in-Some.ensures.gives (Resolve (names_of d) c.args.at.this)))
    c.in_ok-next-in-Some-2.ensures

pub unreachable-requires : goal.unreachable-requires
unreachable-requires c =
    let ps : List ℕ = parts_at (forms_at c.loop-place.w c.args.home) c.args.node.0 in
    let e = ap (λ (ns : List ℕ). length ns)
    (parts-grow c.args.w.now c.loop-place.w c.args.home c.args.node c.requires.world.ids c.loop-place.invariant.grew) in
    not-past ps c.loop-place.place c.in-None.ensures.part
    (omega (arith, e, c.loop-place-test.true, c.count_of-place-end.ensures))

pub loop-place-preserved : goal.loop-place-preserved
loop-place-preserved c =
    let d = c.args.w.now in
    let i = c.loop-place.invariant in
    let x = context_in (names_of d) c.args.home.0 c.args.at in
    let q = given-of c.in_ok-name-in-Some.field-0 c.loop-place.w c.give_one.new.w
    (slice_get (forms_at c.loop-place.w c.args.home) c.in-Some.decl.0) x c.in-None-2.is
    (c.in_ok-name-in-Some.ensures.gives (Resolve (names_of d) c.args.at.this)) in
    record {
      same = λ log.
          given-more c.args.home d c.loop-place.w c.args.at c.args.node c.args.next c.loop-place.place
          c.requires.world.ids c.requires.context c.requires.world.takes_part i.grew i.trace i.same c.give_one.new.w
          c.in-Some.decl.0 log (sym c.in-Some.ensures.part) q;
      grew = Grew-then d c.loop-place.w c.give_one.new.w i.grew q.grew;
      trace = q.trace ∙ i.trace;
      ids = c.give_one.ensures.ids;
      kept = λ r n h.
          let k = i.kept r n h in
          let s = holds-still c.args.home d c.loop-place.w r k (scope_held c.args.at.scope) h in
          let u = c.in_ok-name-in-Some.ensures.keeps k.ready (inside-still c.args.home d c.loop-place.w k n) s in
          changed-then c.args.home d c.loop-place.w c.give_one.new.w k u.changed;
    }

pub returns-clause-row : goal.returns-clause-row
returns-clause-row c = λ begun f l.
    let d = c.args.w.now in
    let i = c.loop-place.invariant in
    Step-all c.args.home d c.loop-place.w c.args.at c.args.node c.args.next c.loop-place.place c.requires.world.ids
    c.requires.context c.requires.world.takes_part i.grew i.trace i.same begun f l
    (omega (arith, c.loop-place-test.false, c.count_of-place-end.ensures))

pub loop-place-init : goal.loop-place-init
loop-place-init c = record {
  same = λ log. refl;
  grew = Grew-same c.args.w.now;
  trace = refl;
  ids = c.requires.world.ids;
  kept = λ r i h. changed-same c.args.home c.args.w.now r;
}

pub returns-in_err-name-in-Some-clause-keeps : goal.returns-in_err-name-in-Some-clause-keeps
returns-in_err-name-in-Some-clause-keeps c = λ r i h.
    let d = c.args.w.now in
    let home = c.args.home in
    let k = c.loop-place.invariant.kept r i (h.0, tt) in
    let s = holds-still home d c.loop-place.w r k (scope_held c.args.at.scope) (h.0, tt) in
    let p = err_from_is_err_and c.from_residual.result c.from_residual.ensures.1 in
    rw (p.1, p.2)
    (keeps-then home (Err c.in_err-name-in-Some.field-0.0) d c.loop-place.w c.give_one.new.w k
    (keeps-halts declared_held home ACompletion c.in_err-name-in-Some.field-0.0 c.loop-place.w c.give_one.new.w
    (c.in_err-name-in-Some.ensures.keeps k.ready (inside-still home d c.loop-place.w k i) s)))

pub returns-in_err-next-in-Some-2-clause-keeps : goal.returns-in_err-next-in-Some-2-clause-keeps
returns-in_err-next-in-Some-2-clause-keeps c = λ r i h.
    let d = c.args.w.now in
    let home = c.args.home in
    let k = c.loop-place.invariant.kept r i (h.0, tt) in
    let s = holds-still home d c.loop-place.w r k (scope_held c.args.at.scope) (h.0, tt) in
    let u = c.in_ok-name-in-Some.ensures.keeps k.ready (inside-still home d c.loop-place.w k i) s in
    let p = err_from_is_err_and c.from_residual-in_err-next-in-Some-2.result
    c.from_residual-in_err-next-in-Some-2.ensures.1 in
    rw p.1 (record { changed = changed-then home d c.loop-place.w c.give_one.new.w k u.changed; leaves = tt })

pub returns-in-Some-2-clause-keeps : goal.returns-in-Some-2-clause-keeps
returns-in-Some-2-clause-keeps c = λ r i h.
    let d = c.args.w.now in
    let home = c.args.home in
    let w1 = c.loop-place.w in
    let w2 = c.give_one.new.w in
    let name = c.in-Some-2.name in
    let value = c.in-Some-2.value in
    let held = context_held c.args.at ++ HeldNode is_declaring_form c.args.node.0 ∷ [] in
    let k = c.loop-place.invariant.kept r i (h.0, tt) in
    let s = holds-still home d w1 r k held h in
    let u = c.in_ok-name-in-Some.ensures.keeps k.ready (inside-still home d w1 k i) (s.0, tt) in
    let t = holds-still home w1 w2 k.ready u.changed held s in
    let v = subst (λ (x : Option (StrId × NodeId)). Holds w2 home (declared_held x)) c.in-Some-2.is u.holds in
    keeps-then home _ d w1 w2 k
    (keeps-then home _ w1 w2 w2 u.changed
    (keeps-same home w2 _ u.changed.ready
    (waits-value w2 home (y.Declared c.args.at c.args.node name c.in_ok-next-in-Some-2.next) value c.args.at refl
    (t.0, (t.1.0, (t.1.1.0, (v.0, tt)))) (t.0, (t.1.0, tt)) v.1.0.sound)))

pub returns-clause-keeps : goal.returns-clause-keeps
returns-clause-keeps c = λ r i h.
    let d = c.args.w.now in
    let home = c.args.home in
    let k = c.loop-place.invariant.kept r i (h.0, tt) in
    keeps-then home _ d c.loop-place.w c.loop-place.w k
    (keeps-same home c.loop-place.w _ k.ready (ends-nothing c.loop-place.w home))

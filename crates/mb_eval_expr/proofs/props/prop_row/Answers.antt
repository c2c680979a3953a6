use Rattle.std.proofs.Common.{SFits, rules, of_z, to_z, w64, ℤ, ap, refl, slice_get, sym, ◌≡◌, ◌∙◌}
use Rattle.std.proofs.lemmas.Int.{to_z-of_z}
use Rattle.mb_eval_expr.proofs.Keeping.{waits-node}
use Rattle.mb_eval_expr.proofs.PropsInOrder.{definition-grows, keyed-row}
use Rattle.mb_eval_expr.proofs.Propping.{Defines-by, Defines-texts, Sure-computed, no-prop, prop-form, prop-is}
use Rattle.mb_eval_expr.proofs.Propping.{rest-grow}
use Rattle.mb_parts.proofs.Texting.{texts-changed}
use Rattle.mb_parts.proofs.Writing.{Grew-texts}
use Rattle.mb_eval_expr.specs.machine.Literals.{literal_held, rest_of}
use Rattle.mb_frames.proofs.Going.{WentOn-none}
use Rattle.mb_frames.proofs.Keeping.{expression-held, inside-still, node-held}
use Rattle.mb_frames.proofs.Leaving.{holds-still}
use Rattle.mb_frames.proofs.Passed.{Part-sure}
use Rattle.mb_frames.proofs.Steps.{Grew-same}
use Rattle.mb_frames.proofs.Readying.{changed-same, changed-then}
use Rattle.mb_frames.specs.Kinds.{is_prop_form}
use Rattle.mb_frames.specs.Resolved.{context_in}
use Rattle.mb_frames.specs.Rest.Expressions.{prop_keyed_at}
use Rattle.mb_frames.specs.Standing.{forms_at}
use Rattle.mb_frames.specs.declared.expressions.ExprFrame.TheVariants as e
use Rattle.mb_frames.specs.declared.frame.Frame.TheVariants as x
use Rattle.mb_frames.specs.declared.frame.Move.TheVariants as move
use Rattle.mb_frames.specs.declared.task.Task.TheVariants as t
use Rattle.mb_model.specs.Meaning.{finished}
use Rattle.mb_model.specs.Nodes.Literals.{prop_of}
use Rattle.mb_model.specs.Task.{Answer, Nothing}
use Rattle.mb_model.specs.Writing.{◌>>=◌, Does, give}
use Rattle.mb_world.specs.Image.{Image, key_in, names_of, object_in, text_in}
use Rattle.mb_world.specs.Key.{Named}
use Rattle.mb_world.specs.Value.{whole_text}
use Rattle.mb_eval_expr.proofs.props.prop_row.Goals as goal

pub returns-in-Computed-clause-row : goal.returns-in-Computed-clause-row
returns-in-Computed-clause-row c = λ f.
    let d = c.args.w.now in
    let home = c.args.home in
    let l = c.args.literal in
    let o = slice_get (forms_at d home) c.args.property.0 in
    let i = rw c.in-Computed.is at c.in-Some.ensures.prop in
    Part-sure home d f
    ((prop_of (context_in (names_of d) home.0 l.at) (object_in (names_of d) l.object) c.args.property.0 o >>=
    (λ a. rest_of d home l)) finished)
    (move.Wait (x.Expr (e.PropKey l.at l.node l.object c.args.property l.place)) (t.Evaluate c.in-Computed.key l.at))
    (Sure-computed d home l c.args.property c.requires.holds o c.in-Computed.key c.in-Some.definition refl i)

pub returns-in-Computed-clause-changed : goal.returns-in-Computed-clause-changed
returns-in-Computed-clause-changed c = changed-same c.args.home c.args.w.now c.requires.ready

pub returns-in-Computed-clause-leaves : goal.returns-in-Computed-clause-leaves
returns-in-Computed-clause-leaves c =
    let d = c.args.w.now in
    let home = c.args.home in
    let l = c.args.literal in
    let h = c.requires.holds in
    let o = slice_get (forms_at d home) c.args.property.0 in
    let k = rw c.in-Computed.is at c.in-Some.ensures.nodes in
    waits-node d home (e.PropKey l.at l.node l.object c.args.property l.place) c.in-Computed.key l.at refl (
      h.0,
      (
        h.1.0,
        (
          h.1.1.0,
          (
            h.1.1.1.0,
            (
              node-held d home is_prop_form c.args.property.0 (prop-form d o c.in-Some.name c.in-Some.definition
                  c.in-Some.ensures.prop),
              tt,
            ),
          ),
        ),
      ),
    )
    (h.0, (h.1.0, tt)) (expression-held d home c.in-Computed.key k.0)

pub returns-in-Written-clause-row : goal.returns-in-Written-clause-row
returns-in-Written-clause-row c =
    let d = c.args.w.now in
    let l = c.args.literal in
    let home = c.args.home in
    let r = c.prop_keyed.result in
    let e = keyed-row d d home l c.args.property c.in-Some.name (text_in (names_of d) c.in-Written.name)
    c.in-Some.definition
    c.requires.ready.ids (Grew-same d) c.requires.holds c.in-Some.ensures.prop (rw c.in-Written.is refl) in
    let k : Named (text_in (names_of d) c.in-Written.name) ≡ key_in (names_of d) c.key-key.result =
    sym (rw c.key-key.ensures refl) in
    Defines-by home l r d c.prop_keyed.new.w _ _
    (e ∙ ap (prop_keyed_at (forms_at d home) (context_in (names_of d) home.0 l.at) (object_in (names_of d) l.object)
    c.args.property.0) k)
    c.prop_keyed.ensures.row

pub prop_keyed-requires-in-Whole-clause-ready : goal.prop_keyed-requires-in-Whole-clause-ready
prop_keyed-requires-in-Whole-clause-ready c =
    (texts-changed c.args.home c.args.w.now c.digits.new.w c.in_ok-text-in-Whole.ensures.grew c.requires.ready).ready

pub prop_keyed-requires-in-Whole-clause-inside : goal.prop_keyed-requires-in-Whole-clause-inside
prop_keyed-requires-in-Whole-clause-inside c =
    let g = texts-changed c.args.home c.args.w.now c.digits.new.w c.in_ok-text-in-Whole.ensures.grew c.requires.ready in
    inside-still c.args.home c.args.w.now c.digits.new.w g c.requires.inside

pub prop_keyed-requires-in-Whole-clause-holds : goal.prop_keyed-requires-in-Whole-clause-holds
prop_keyed-requires-in-Whole-clause-holds c =
    let d = c.args.w.now in
    let d1 = c.digits.new.w in
    let g = texts-changed c.args.home d d1 c.in_ok-text-in-Whole.ensures.grew c.requires.ready in
    holds-still c.args.home d d1 c.requires.ready g (literal_held c.args.literal) c.requires.holds

pub prop_keyed-requires-in-Whole-clause-definition : goal.prop_keyed-requires-in-Whole-clause-definition
prop_keyed-requires-in-Whole-clause-definition c =
    let d = c.args.w.now in
    let d1 = c.digits.new.w in
    let home = c.args.home in
    let o = slice_get (forms_at d home) c.args.property.0 in
    definition-grows d d1 home c.args.property c.in-Some.definition c.requires.ready.ids
    (Grew-texts d d1 c.in_ok-text-in-Whole.ensures.grew)
    (prop-is d o c.in-Some.name c.in-Some.definition c.in-Some.ensures.prop, c.in-Some.ensures.nodes.1)

pub returns-in_err-text-in-Whole-clause-changed : goal.returns-in_err-text-in-Whole-clause-changed
returns-in_err-text-in-Whole-clause-changed c =
    rw c.in_err-text-in-Whole.ensures.kept (changed-same c.args.home c.args.w.now c.requires.ready)

pub returns-in_ok-text-in-Whole-clause-row : goal.returns-in_ok-text-in-Whole-clause-row
returns-in_ok-text-in-Whole-clause-row c =
    let d = c.args.w.now in
    let d1 = c.digits.new.w in
    let l = c.args.literal in
    let home = c.args.home in
    let r = c.prop_keyed-in-Whole.result in
    let text = c.in_ok-text-in-Whole.text in
    let t = c.in_ok-text-in-Whole.ensures.grew in
    let q = Grew-texts d d1 t in
    let e = keyed-row d d1 home l c.args.property c.in-Some.name (whole_text c.in-Whole.n) c.in-Some.definition
    c.requires.ready.ids q c.requires.holds c.in-Some.ensures.prop (rw c.in-Whole.is refl) in
    let fits : SFits w64 c.in-Whole.n = search rules in
    let z : to_z w64 (of_z w64 c.in-Whole.n) ≡ c.in-Whole.n = to_z-of_z w64 c.in-Whole.n fits in
    let k : Named (whole_text c.in-Whole.n) ≡ key_in (names_of d1) c.key-key-in-Whole.result
    = ap (λ (m : ℤ). Named (whole_text m)) (sym z) ∙ ap Named (sym c.in_ok-text-in-Whole.ensures.text) ∙ sym
    (rw c.key-key-in-Whole.ensures refl) in
    Defines-texts home l r d d1 c.prop_keyed-in-Whole.new.w _ _ t
    (e ∙ ap (prop_keyed_at (forms_at d1 home) (context_in (names_of d1) home.0 l.at)
    (object_in (names_of d1) l.object) c.args.property.0) k)
    (sym (rest-grow d d1 home l c.requires.ready.ids q c.requires.holds))
    c.prop_keyed-in-Whole.ensures.row

pub returns-in_ok-text-in-Whole-clause-changed : goal.returns-in_ok-text-in-Whole-clause-changed
returns-in_ok-text-in-Whole-clause-changed c =
    let d = c.args.w.now in
    let d1 = c.digits.new.w in
    let g = texts-changed c.args.home d d1 c.in_ok-text-in-Whole.ensures.grew c.requires.ready in
    changed-then c.args.home d d1 c.prop_keyed-in-Whole.new.w g c.prop_keyed-in-Whole.ensures.changed

pub returns-in-None-clause-row : goal.returns-in-None-clause-row
returns-in-None-clause-row c =
    let d = c.args.w.now in
    let l = c.args.literal in
    let o = slice_get (forms_at d c.args.home) c.args.property.0 in
    let p = prop_of (context_in (names_of d) c.args.home.0 l.at) (object_in (names_of d) l.object) c.args.property.0
    o in
    let e : p ≡ give Nothing
    = no-prop (context_in (names_of d) c.args.home.0 l.at) (object_in (names_of d) l.object) c.args.property.0 o
    (c.in-None.ensures.none refl) in
    (Nothing, WentOn-none Answer d 0 p Nothing (λ k log. ap (λ (q : Does Answer). q k (Image d log)) e))

pub returns-in-None-clause-changed : goal.returns-in-None-clause-changed
returns-in-None-clause-changed c = changed-same c.args.home c.args.w.now c.requires.ready

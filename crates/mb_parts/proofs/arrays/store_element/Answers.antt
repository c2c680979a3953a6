use Rattle.std.proofs.Common.{◌∙◌, ◌≡◌, ◌∷◌, List, Some, [], arith, to_z, w64, ℕ, ap, refl, sym, subst}
use Rattle.std.specs.Prelude.{pos}
use Rattle.std.proofs.lemmas.Int.{to_z_pos}
use Rattle.std.proofs.lemmas.List.Elements.{All-cons, All-nil}
use Rattle.mb_frames.proofs.Leaving.{held-stays}
use Rattle.mb_parts.proofs.Lengthened.{element-changed}
use Rattle.mb_parts.proofs.Storing.{Acts-stored, element-went, entries-stay, then-stored}
use Rattle.mb_parts.proofs.Texting.{texts-changed}
use Rattle.mb_parts.proofs.Writing.{Acts-texts}
use Rattle.mb_frames.proofs.HeldLess.{array-object}
use Rattle.std.specs.List.{IsDistinct}
use Rattle.std.specs.Map.{keys_of}
use Rattle.mb_frames.proofs.Readying.{changed-then}
use Rattle.mb_props.specs.Table.{same_key}
use Rattle.mb_world.specs.Ids.{KeyIn}
use Rattle.mb_world.specs.declared.cell.Cell.{Cell}
use Rattle.mb_frames.proofs.Halting.{halted-changed, halted-same}
use Rattle.mb_frames.specs.Keeping.{none_held}
use Rattle.mb_frames.specs.Held.{HeldArray, HeldValue}
use Rattle.mb_frames.specs.Ready.{MayHold}
use Rattle.mb_world.specs.Data.{Data}
use Rattle.mb_base.specs.declared.value.Key.{Key}
use Rattle.mb_base.specs.declared.value.Key.TheVariants as k
use Rattle.mb_text.specs.Index.{index_of}
use Rattle.mb_text.specs.Texts.{text_at}
use Rattle.mb_world.specs.Arrays.{index_key}
use Rattle.mb_world.specs.Image.{key_in, names_of}
use Rattle.mb_world.specs.Value.{whole_text}
use Rattle.mb_world.specs.Key.{Named, index_of_key}
use Rattle.mb_world.specs.declared.cell.CellKind.TheVariants as kind
use Rattle.mb_parts.proofs.ArrayLength.{array-length}
use Rattle.mb_parts.proofs.ObjectChanged.{held-cell}
use Rattle.mb_parts.proofs.ElementKeys.{index-is, index-key}
use Rattle.mb_parts.proofs.HeldEach.{tells-apart}
use Rattle.mb_parts.proofs.arrays.store_element.Goals as goal

pub define_any-requires-clause-length : goal.define_any-requires-clause-length
define_any-requires-clause-length c = λ x there array.
    let d' : Data = c.digits.new.w in
    let g = texts-changed c.args.home c.args.w.now d' c.in_ok-text.ensures.grew c.requires.ready in
    array-length d' c.texts.ensures.distinct g.ready c.args.array x there array

pub define_any-requires-clause-apart : goal.define_any-requires-clause-apart
define_any-requires-clause-apart c =
    let d = c.args.w.now in
    let d' : Data = c.digits.new.w in
    let home = c.args.home in
    let r = c.requires.ready in
    let g = texts-changed home d d' c.in_ok-text.ensures.grew r in
    let h = c.requires.holds in
    tells-apart d' g.ready home c.args.array c.key-key.result c.open_desc.result
    (array-object d' home c.args.array (held-stays home d d' r g (HeldArray c.args.array) h.0))
    (rw c.open_desc.ensures (All-cons (λ x. MayHold d' home (HeldValue x)) c.args.x []
    (held-stays home d d' r g (HeldValue c.args.x) h.1.0) (All-nil (λ x. MayHold d' home (HeldValue x)))))

pub returns-clause-stored : goal.returns-clause-stored
returns-clause-stored c =
    let d = c.args.w.now in
    let d1 : Data = c.digits.new.w in
    let d2 : Data = c.define_any.new.w in
    let home = c.args.home in
    let r = c.requires.ready in
    let g = texts-changed home d d1 c.in_ok-text.ensures.grew r in
    let h = c.requires.holds in
    let q = held-cell d1 home kind.Array c.args.array (held-stays home d d1 r g (HeldArray c.args.array) h.0).sound in
    let text = c.in_ok-text.text in
    let e : c.key-key.result ≡ k.Text text (index_of (text_at d1.texts text)) = c.key-key.ensures ∙ ap
    (λ (ts : List (List ℕ)). k.Text text (index_of (text_at ts text))) c.texts.ensures.value in
    let small : whole_text (to_z w64 c.args.place) ≡ whole_text (pos c.args.place)
    = ap whole_text (to_z_pos w64 c.args.place (omega (arith, c.requires.place))) in
    let spelled : key_in (names_of d1) c.key-key.result ≡ index_key c.args.place = ap (key_in (names_of d1)) e
    ∙ ap Named (c.in_ok-text.ensures.text ∙ small) in
    let index : index_of_key (key_in (names_of d1) c.key-key.result) ≡ Some c.args.place
    = ap (λ (y : Key). index_of_key (key_in (names_of d1) y)) e
    ∙ index-key d1 text c.args.place (c.in_ok-text.ensures.within, refl) c.requires.place
    (c.in_ok-text.ensures.text ∙ small) in
    let ensures = rw c.open_desc.ensures at c.in_ok-define_any.ensures in (
      _,
      then-stored d d1 d2 home.0 c.args.array c.args.place c.args.x _ c.in_ok-text.ensures.grew h.0.within h.1.0.within
          (element-went d1 c.args.array q.0 q.1 q.3 c.key-key.result c.args.place c.args.x spelled index d2 ensures.cell
          ensures.rest ensures.unchanged home.0 g.ready.ids
          (entries-stay d1 d2 c.args.array q.0 q.1 (rw q.3 refl) ensures.rest)),
    )

pub returns-clause-acts : goal.returns-clause-acts
returns-clause-acts c =
    let d = c.args.w.now in
    let d1 : Data = c.digits.new.w in
    let home = c.args.home in
    let r = c.requires.ready in
    let g = texts-changed home d d1 c.in_ok-text.ensures.grew r in
    let o = held-stays home d d1 r g (HeldArray c.args.array) c.requires.holds.0 in
    let q = held-cell d1 home kind.Array c.args.array o.sound in
    Acts-stored d1 c.define_any.new.w c.args.array q.0 q.1 (rw q.3 refl) c.in_ok-define_any.ensures.rest home
    c.texts-texts.ensures.ids (Acts-texts d d1 home c.in_ok-text.ensures.grew c.requires.acts)

pub returns-in_err-text-clause-keeps : goal.returns-in_err-text-clause-keeps
returns-in_err-text-clause-keeps c =
    halted-same c.args.home (HeldArray c.args.array ∷ HeldValue c.args.x ∷ []) none_held c.from_residual.result
    c.from_residual.ensures.0 c.args.w.now c.digits.new.w c.in_err-text.ensures.kept

pub returns-in_err-define_any-clause-keeps : goal.returns-in_err-define_any-clause-keeps
returns-in_err-define_any-clause-keeps c =
    let q = c.from_residual-in_err-define_any in
    halted-changed c.args.home (HeldArray c.args.array ∷ HeldValue c.args.x ∷ []) none_held q.result q.ensures.0
    c.args.w.now
    c.define_any.new.w
    (λ r i h. rw c.in_err-define_any.ensures.kept (texts-changed c.args.home c.args.w.now c.digits.new.w
    c.in_ok-text.ensures.grew r))

pub returns-clause-keeps : goal.returns-clause-keeps
returns-clause-keeps c = λ r i h.
    let d = c.args.w.now in
    let d1 : Data = c.digits.new.w in
    let d2 : Data = c.define_any.new.w in
    let home = c.args.home in
    let g = texts-changed home d d1 c.in_ok-text.ensures.grew r in
    let o = held-stays home d d1 r g (HeldArray c.args.array) h.0 in
    let x = held-stays home d d1 r g (HeldValue c.args.x) h.1.0 in
    let q = held-cell d1 home kind.Array c.args.array o.sound in
    let text = c.in_ok-text.text in
    let place = c.args.place in
    let small : whole_text (to_z w64 place) ≡ whole_text (pos place) = ap whole_text
    (to_z_pos w64 place (omega (arith, c.requires.place))) in
    let is : text_at d1.texts text ≡ whole_text (pos place) = c.in_ok-text.ensures.text ∙ small in
    let e : c.key-key.result ≡ k.Text text (index_of (text_at d1.texts text))
    = c.key-key.ensures ∙ ap (λ (ts : List (List ℕ)). k.Text text (index_of (text_at ts text))) c.texts.ensures.value in
    let ii : index_of (text_at d1.texts text) ≡ place = index-is d1 text place c.requires.place is in
    let key : c.key-key.result ≡ k.Text text place = e ∙ ap (k.Text text) ii in
    let kin : KeyIn d1 (k.Text text place) = (c.in_ok-text.ensures.within, sym ii) in
    let cell : c.cell.result.now ≡ q.0 = (let z = c.cell.ensures.value in let y = q.1 in cc) in
    let distinct = subst (λ (y : Cell). IsDistinct same_key (keys_of y.props)) cell c.get-there.ensures.distinct in
    let index : index_of_key (key_in (names_of d1) (k.Text text place)) ≡ Some place
    = ap (λ (n : ℕ). index_of_key (key_in (names_of d1) (k.Text text n))) (sym ii)
    ∙ index-key d1 text place (c.in_ok-text.ensures.within, refl) c.requires.place is in
    let ensures = rw (c.open_desc.ensures, key) at c.in_ok-define_any.ensures in
    let u = element-changed d1 g.ready home c.args.array q.0 c.texts.ensures.distinct q.1 q.3 q.2 distinct text place
    c.args.x kin o x
    (ap Named is) c.requires.place index d2 ensures.cell ensures.rest ensures.unchanged ensures.objects
    c.texts-texts.ensures.ids in
    record { changed = changed-then home d d1 d2 g u; holds = tt }

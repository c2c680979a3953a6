-- A property of a plain object is defined, and what stands in a descriptor.
use Rattle.std.proofs.Common.{◌≡◌, ◌∙◌, Bool, List, None, Ok, Option, Some, [], ap, arith, false, refl, true}
use Rattle.std.specs.Prelude.{is_some, option_map}
use Rattle.std.proofs.lemmas.List.Elements.{All-append, All-nil}
use Rattle.mb_base.specs.declared.value.Key.{Key}
use Rattle.mb_base.specs.declared.value.ObjId.{ObjId}
use Rattle.mb_base.specs.declared.value.Side.{Side}
use Rattle.mb_base.specs.declared.value.Value.{Value}
use Rattle.mb_base.specs.declared.value.Value.TheVariants as v
use Rattle.mb_desc.specs.declared.descriptor.Desc.{Desc}
use Rattle.mb_desc.specs.declared.descriptor.Full.{Full}
use Rattle.mb_eval_expr.specs.declared.definitions.Definition.{Definition}
use Rattle.mb_eval_expr.specs.declared.definitions.Definition.TheVariants as def
use Rattle.mb_eval_expr.specs.machine.Literals.{described_by}
use Rattle.mb_parts.proofs.Opened.{opened-held}
use Rattle.mb_parts.specs.Storing.{Stores}
use Rattle.mb_frames.proofs.Entries.{entries-grow}
use Rattle.mb_frames.proofs.Steps.{Grew-same}
use Rattle.mb_frames.specs.Held.{HeldCallable, HeldDesc, HeldValue}
use Rattle.mb_frames.specs.Ready.{MayHold}
use Rattle.mb_model.specs.Nodes.Literals.{define_on, prop_defined}
use Rattle.mb_model.specs.Objects.Methods.{settled}
use Rattle.mb_model.specs.Task.{Answer, Flag}
use Rattle.mb_model.specs.Writing.{Row}
use Rattle.mb_ordinary.proofs.Cells.{changed-object}
use Rattle.mb_ordinary.specs.Definitions.{IsDefined, as_defined, with_accepted}
use Rattle.mb_world.proofs.AfterCalls.{of-cell}
use Rattle.mb_world.specs.Contained.{IsOwn, in_value}
use Rattle.mb_world.specs.Data.{Data, cell_at, change_cell, is_object_cell, put_in}
use Rattle.mb_world.specs.Formed.{IsCallableOrNot}
use Rattle.mb_world.specs.Graph.{Graph, Item, Thing}
use Rattle.mb_world.specs.Ids.{HasItsIds}
use Rattle.mb_world.specs.Image.{Image, Names, Resolve, desc_in, key_in, names_of, object_at, object_in, object_of}
use Rattle.mb_world.specs.Image.{owner_by, thing_in}
use Rattle.mb_world.specs.Key.{PropertyKey}
use Rattle.mb_world.specs.Ordinary.{Becomes as BecomesThing, Defined, Refused, ordinary_defined}
use Rattle.mb_world.specs.Value.{Val}
use Rattle.mb_world.specs.declared.cell.Cell.{Cell}
use Rattle.mb_world.specs.declared.cell.CellKind.{CellKind}
use Rattle.mb_world.specs.declared.cell.CellKind.TheVariants as kind
use Rattle.mb_parts.proofs.ObjectChanged.{Grew-changed, changed-is, settled-is}

-- ---- a property is defined

owned : (n : Names) (c : Cell) → c.kind ≡ kind.Plain → object_of n c ≡ thing_in n c
owned n c e = ap (λ (y : CellKind). let t : Thing = record (thing_in n c) { owner = owner_by y c.home } in t) e

module _ (d d' : Data) (home : Side) (id : ObjId) (c : Cell) (there : cell_at d id ≡ Some c)
    (plain : c.kind ≡ kind.Plain)
    (key : Key) (desc : Desc Value) (i : HasItsIds d) where
  abbrev n : Names
  n = names_of d

  abbrev k : PropertyKey
  k = key_in n key

  abbrev y : Desc Val
  y = desc_in (Resolve n) desc

  abbrev o : Val
  o = object_in n id

  counted : is_object_cell c ≡ true
  counted = rw plain refl

  was : object_at d id ≡ Some (thing_in n c)
  was = ap (option_map (object_of n)) there ∙ ap Some (owned n c plain)

  meant : (b : Bool) → IsDefined d d' id key desc b → ordinary_defined (thing_in n c) k y ≡ as_defined b
      (object_at d' id)
  meant b h = rw was at h

  started : (m : Defined) (q : Answer → Graph → Row) (log : List Item) → ordinary_defined (thing_in n c) k y ≡ m
      → prop_defined home.0 o k y q (Image d log) ≡ settled home.0 o m q (Image d log)
  started m q log e =
      ap (λ (z : Option Thing). define_on home.0 o k y z q (Image d log)) (of-cell d id c log there counted)
      ∙ ap (λ (z : Defined). settled home.0 o z q (Image d log)) e

  pub becomes-it : (full : Full Value) → d' ≡ with_accepted d id key (Some full) → IsDefined d d' id key desc true
      → ordinary_defined (thing_in (names_of d) c) (key_in (names_of d) key) (desc_in (Resolve (names_of d)) desc)
      ≡ BecomesThing (thing_in (names_of d) (put_in key full c)) true
  becomes-it full e h =
      let F : Cell → Cell = put_in key full in
      meant true h ∙ ap (as_defined true) (ap (λ (a : Data). object_at a id) e ∙ changed-object d id c F there refl
      ∙ ap Some (owned n (F c) plain))

  pub by-accepted : (m : Option (Full Value)) → d' ≡ with_accepted d id key m → IsDefined d d' id key desc (is_some m)
      → Stores (Ok tt) d d' (prop_defined home.0 (object_in (names_of d) id) (key_in (names_of d) key)
      (desc_in (Resolve (names_of d)) desc))
  by-accepted None e h = (
    Flag false,
    rw e (record {
      units = 0;
      paid = omega arith;
      same = λ q log. started Refused q log (meant false h);
      trace = refl;
      grew = Grew-same d;
    }),
  )
  by-accepted (Some full) e h =
      let F : Cell → Cell = put_in key full in
      let z : ordinary_defined (thing_in n c) k y ≡ BecomesThing (thing_in n (F c)) true = becomes-it full e h in
      let w = Grew-changed d id c F there refl counted in (
        Flag true,
        rw e (record {
          units = 0;
          paid = omega arith;
          same = λ q log.
              started (BecomesThing (thing_in n (F c)) true) q log z
              ∙ settled-is home.0 o (BecomesThing (thing_in n (F c)) true) (Image d log)
              (Image (change_cell d id F) log)
              (changed-is d id c F there refl counted (thing_in n (F c)) refl log) q;
          trace = entries-grow d (change_cell d id F) w.grows i (rw there refl);
          grew = w;
        }),
      )

-- ---- what stands in a descriptor

module _ (d : Data) (home : Side) where
  callable-or : (id : ObjId) → MayHold d home (HeldCallable (v.Object id)) → IsCallableOrNot d (v.Object id)
  callable-or id h = h.sound

  pub function-desc : (y : Definition) (id : ObjId) → MayHold d home (HeldValue (v.Object id)) → MayHold d home
      (HeldCallable (v.Object id))
      → MayHold d home (HeldDesc (described_by y (v.Object id)))
  function-desc (def.Value node) id h k = opened-held d home (v.Object id) h
  function-desc (def.Method n) id h k = opened-held d home (v.Object id) h
  function-desc (def.Getter n) id h k = record {
    within = record { value_in = tt; get_in = h.within; set_in = tt };
    sound = (refl, record { get = k.sound; set = tt; wholes = (h.sound, tt) });
    own = λ u. All-append (IsOwn d home) (in_value (v.Object id)) [] (h.own u) (All-nil (IsOwn d home));
  }
  function-desc (def.Setter n) id h k = record {
    within = record { value_in = tt; get_in = tt; set_in = h.within };
    sound = (refl, record { get = tt; set = k.sound; wholes = (h.sound, tt) });
    own = λ u. All-append (IsOwn d home) (in_value (v.Object id)) [] (h.own u) (All-nil (IsOwn d home));
  }

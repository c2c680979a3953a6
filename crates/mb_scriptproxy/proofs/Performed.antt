-- A method of a script-made Proxy: who performs it, and what its owner may hold.
use Rattle.std.proofs.Common.{◌<◌, ◌≡◌, ◌∙◌, Bool, List, None, Option, Some, [], ap, false, not, refl, sym}
use Rattle.std.proofs.Common.{true, true≢false, ℕ}
use Rattle.std.proofs.lemmas.List.Elements.{All-nil}
use Rattle.std.specs.List.{AllByRecursion}
use Rattle.std.specs.Prelude.{IsSomeAnd, if◌then◌else◌}
use Rattle.mb_base.specs.declared.value.ObjId.{ObjId}
use Rattle.mb_base.specs.declared.value.Side.{Side}
use Rattle.mb_base.specs.declared.value.Value.TheVariants as v
use Rattle.mb_call.proofs.Things.{cell-thing}
use Rattle.mb_frames.proofs.HeldCells.{cell-held, reads-home}
use Rattle.mb_frames.proofs.HeldLess.{all-anywhere, constructs, is_of_no_home, object-value}
use Rattle.mb_frames.specs.Found.{HoldsKind}
use Rattle.mb_frames.specs.Held.{Held, HeldObject, HeldSide}
use Rattle.mb_frames.specs.Holding.{method_held}
use Rattle.mb_frames.specs.Ready.{Holds, IsReady, MayHold}
use Rattle.mb_frames.specs.Resolved.{method_in}
use Rattle.mb_frames.specs.Wholeness.{IsConstructor}
use Rattle.mb_frames.specs.declared.task.Method.{Method}
use Rattle.mb_frames.specs.declared.task.Method.TheVariants as m
use Rattle.mb_model.specs.Meaning.{finished, perform_kind, perform_row, perform_thing}
use Rattle.mb_model.specs.Objects.Proxies.{proxy_method}
use Rattle.mb_model.specs.Task as task
use Rattle.mb_model.specs.Task.{Answer}
use Rattle.mb_model.specs.Writing.{Does, Row, type_error, unless_type_error}
use Rattle.mb_scriptproxy.specs.machine.Acting.{home_or, is_cut_off, performing_side}
use Rattle.mb_scriptproxy.specs.machine.Trapping.{proxy_parts}
use Rattle.mb_world.proofs.Grow.{All-at}
use Rattle.mb_world.specs.Contained.{IsOwn}
use Rattle.mb_world.specs.Data.{Data, cell_at}
use Rattle.mb_world.specs.Formed.{FormedCell, HasItsKind, IsProxyKind, is_of_membrane, thing_of}
use Rattle.mb_world.specs.Graph as graph
use Rattle.mb_world.specs.Graph.{Graph, Item, Thing}
use Rattle.mb_world.specs.Image.{Image, Names, kind_in, names_of, object_in, object_of, owner_by}
use Rattle.mb_world.specs.Objects.{is_proxy_kind, kind_calls, kind_constructs, shape_constructs}
use Rattle.mb_world.specs.Objects.{shape_of_kind, thing_at, thing_is}
use Rattle.mb_world.specs.Value.{Val}
use Rattle.mb_world.specs.View.{is_cut, owner_or}
use Rattle.mb_world.specs.declared.cell.Cell.{Cell}
use Rattle.mb_world.specs.declared.cell.CellKind.{CellKind}
use Rattle.mb_world.specs.declared.cell.CellKind.TheVariants as kind
use Rattle.mb_world.specs.declared.cell.Shape.{Shape}
use Rattle.mb_world.specs.declared.cell.Shape.TheVariants as shape

-- ---- its kind

pub proxy-no-part : (k : CellKind) → IsProxyKind k → is_of_membrane k ≡ false
proxy-no-part (kind.Proxy target handler s) h = refl
proxy-no-part _ h = absurd h

proxy-owner : (k : CellKind) (home : Side) → IsProxyKind k → owner_by k home ≡ Some home.0
proxy-owner (kind.Proxy target handler s) home h = refl
proxy-owner _ home h = absurd h

-- its method is that of a Proxy with these parts, or it is revoked
parts-row : (n : Names) (c : Cell) (s v : ℕ) (o : Val) (t : Thing) (y : task.Method) (k : CellKind)
    (target handler : ObjId) → proxy_parts k ≡ Some (target, handler)
    → perform_kind s v o t y (kind_in n c.slots k)
    ≡ proxy_method s (owner_or s t.owner) (object_in n target) (object_in n handler) y
parts-row n c s v o t y (kind.Proxy (Some a) (Some b) s') target handler e =
    let p : (a, b) ≡ (target, handler) = cc in
    let q : a ≡ target = ap (λ (z : ObjId × ObjId). z.0) p in
    let r : b ≡ handler = ap (λ (z : ObjId × ObjId). z.1) p in
    rw (q, r) refl
parts-row n c s v o t y (kind.Proxy (Some a) None s') target handler e = cc
parts-row n c s v o t y (kind.Proxy None b s') target handler e = cc
parts-row n c s v o t y _ target handler e = cc

gone-row : (n : Names) (c : Cell) (s v : ℕ) (o : Val) (t : Thing) (y : task.Method) (k : CellKind) → IsProxyKind k
    → proxy_parts k ≡ None → perform_kind s v o t y (kind_in n c.slots k) ≡ type_error (owner_or s t.owner)
gone-row n c s v o t y (kind.Proxy (Some a) (Some b) s') h e = cc
gone-row n c s v o t y (kind.Proxy (Some a) None s') h e = refl
gone-row n c s v o t y (kind.Proxy None b s') h e = refl
gone-row n c s v o t y _ h e = absurd h

-- ---- what constructs

builds-only : (b x : Bool) → (let s : Shape = if b then shape.Constructs else if x then shape.Calls else shape.Plain in
    shape_constructs s) ≡ true → b ≡ true
builds-only true x h = refl
builds-only false true h = absurd (true≢false (sym h))
builds-only false false h = absurd (true≢false (sym h))

shape-builds : (k : graph.Kind) → is_proxy_kind k ≡ false → shape_constructs (shape_of_kind k) ≡ true
    → kind_constructs k ≡ true
shape-builds graph.Array p h = absurd (true≢false (sym h))
shape-builds (graph.Proxy t x s) p h = absurd (true≢false p)
shape-builds (graph.Gone s) p h = absurd (true≢false p)
shape-builds k p h = builds-only (kind_constructs k) (kind_calls k) h

module _ (d : Data) (r : IsReady d) (home : Side) (object : ObjId) (h : MayHold d home (HeldObject object)) (c : Cell)
    (e : cell_at d object ≡ Some c) (k : IsProxyKind c.kind) where
  abbrev n : Names
  n = names_of d

  abbrev t : Thing
  t = object_of (names_of d) c

  pub proxy-thing : (log : List Item)
      → thing_at (Image d log) (object_in (names_of d) object) ≡ Some (object_of (names_of d) c)
  proxy-thing log = cell-thing d r object c e (proxy-no-part c.kind k) log

  -- ---- who acts

  pub cut-side : (viewer : Side) → is_cut_off d viewer object ≡ true → performing_side d home viewer object ≡ home
  cut-side viewer q = ap (λ (b : Bool). if b then home else home_or home (cell_at d object)) q

  pub owner-side : (viewer : Side) → is_cut_off d viewer object ≡ false → performing_side d home viewer object ≡ c.home
  owner-side viewer q =
      ap (λ (b : Bool). if b then home else home_or home (cell_at d object)) q ∙ ap (home_or home) e

  pub owner-home : d.joined ≡ false → c.home ≡ home
  owner-home u = reads-home d home object c h e u

  -- the side that asked stands in a frame of the owner
  pub asker-held : home.0 < d.sides → MayHold d c.home (HeldSide home)
  asker-held i = record { within = tt; sound = (i, λ u. sym (owner-home u)); own = λ u. All-nil (IsOwn d c.home) }

  its-form : FormedCell d c
  its-form = All-at (FormedCell d) d.cells object.0 c e r.formed.cells

  pub owner-inside : c.home.0 < d.sides
  owner-inside = its-form.home

  -- ---- rows

  module _ (viewer : Side) (y : Method) where
    abbrev from : Bool → Graph → Row
    from b = unless_type_error home.0 (not b)
        (λ a. perform_kind home.0 viewer.0 (object_in (names_of d) object) t (method_in (names_of d) y) t.kind finished)

    thing-row : (log : List Item)
        → perform_row home.0 viewer.0 (object_in (names_of d) object) (method_in (names_of d) y) finished (Image d log)
        ≡ from (is_cut (Image d log) viewer.0 t) (Image d log)
    thing-row log =
        ap (λ (z : Option Thing).
        perform_thing home.0 viewer.0 (object_in n object) (method_in n y) z finished (Image d log)) (proxy-thing log)

    pub cut-row : is_cut_off d viewer object ≡ true → (log : List Item)
        → perform_row home.0 viewer.0 (object_in (names_of d) object) (method_in (names_of d) y) finished (Image d log)
        ≡ type_error home.0 finished (Image d log)
    cut-row q log = thing-row log ∙ ap (λ (b : Bool). from b (Image d log)) (rw e at q)

    kind-row : is_cut_off d viewer object ≡ false → (log : List Item)
        → perform_row home.0 viewer.0 (object_in (names_of d) object) (method_in (names_of d) y) finished (Image d log)
        ≡ perform_kind home.0 viewer.0 (object_in (names_of d) object) t (method_in (names_of d) y) t.kind finished
        (Image d log)
    kind-row q log = thing-row log ∙ ap (λ (b : Bool). from b (Image d log)) (rw e at q)

    owned : owner_or home.0 t.owner ≡ c.home.0
    owned = ap (owner_or home.0) (proxy-owner c.kind c.home k)

    pub gone : is_cut_off d viewer object ≡ false → proxy_parts c.kind ≡ None → (log : List Item)
        → perform_row home.0 viewer.0 (object_in (names_of d) object) (method_in (names_of d) y) finished (Image d log)
        ≡ type_error c.home.0 finished (Image d log)
    gone q p log =
        kind-row q log
        ∙ ap (λ (z : Does Answer). z finished (Image d log))
        (gone-row n c home.0 viewer.0 (object_in n object) t (method_in n y) c.kind k p)
        ∙ ap (λ (s : ℕ). type_error s finished (Image d log)) owned

    pub looked : is_cut_off d viewer object ≡ false → (target handler : ObjId)
        → proxy_parts c.kind ≡ Some (target, handler) → (log : List Item)
        → perform_row home.0 viewer.0 (object_in (names_of d) object) (method_in (names_of d) y) finished (Image d log)
        ≡ proxy_method home.0 c.home.0 (object_in (names_of d) target) (object_in (names_of d) handler)
        (method_in (names_of d) y) finished (Image d log)
    looked q target handler p log =
        kind-row q log
        ∙ ap (λ (z : Does Answer). z finished (Image d log))
        (parts-row n c home.0 viewer.0 (object_in n object) t (method_in n y) c.kind target handler p)
        ∙ ap (λ (s : ℕ). proxy_method home.0 s (object_in n target) (object_in n handler) (method_in n y) finished
        (Image d log)) owned

  -- ---- what the owner may hold

  module _ (target handler : ObjId) (p : proxy_parts c.kind ≡ Some (target, handler)) where
    its-parts : HoldsKind d c.home c.kind → MayHold d c.home (HeldObject target) × MayHold d c.home (HeldObject handler)
    its-parts q = by c.kind p q
      where
        by : (z : CellKind) → proxy_parts z ≡ Some (target, handler) → HoldsKind d c.home z
            → MayHold d c.home (HeldObject target) × MayHold d c.home (HeldObject handler)
        by (kind.Proxy (Some a) (Some b) s) i w =
            let j : (a, b) ≡ (target, handler) = cc in
            let x : a ≡ target = ap (λ (z : ObjId × ObjId). z.0) j in
            let y : b ≡ handler = ap (λ (z : ObjId × ObjId). z.1) j in
            (rw x at w.0, rw y at w.1)
        by (kind.Proxy (Some a) None s) i w = cc
        by (kind.Proxy None b s) i w = cc
        by _ i w = cc

    pub parts-held : MayHold d c.home (HeldObject target) × MayHold d c.home (HeldObject handler)
    parts-held = its-parts (cell-held d r object c e c.home (λ u. refl)).kind

    -- what constructs has a target that does
    pub target-builds : IsConstructor d (v.Object object) → IsConstructor d (v.Object target)
    target-builds q = by c.kind refl p its-form.kind
      where
        built : (o : Option Thing) (s : Shape)
            → IsSomeAnd o (λ z. (is_proxy_kind z.kind ≡ false) × (shape_of_kind z.kind ≡ s))
            → shape_constructs s ≡ true → thing_is kind_constructs o ≡ true
        built None s w b = absurd w
        built (Some z) s w b = shape-builds z.kind w.0 (ap shape_constructs w.1 ∙ b)

        by : (z : CellKind) → c.kind ≡ z → proxy_parts z ≡ Some (target, handler) → HasItsKind d c.home z
            → IsConstructor d (v.Object target)
        by (kind.Proxy (Some a) (Some b) s) i j w =
            let x : (a, b) ≡ (target, handler) = cc in
            let y : a ≡ target = ap (λ (u : ObjId × ObjId). u.0) x in
            let own : shape_constructs s ≡ true
            = ap (λ (u : CellKind). kind_constructs (kind_in n c.slots u)) (sym i)
            ∙ ap (thing_is kind_constructs) (sym (proxy-thing [])) ∙ q in
            rw (← y) (built (thing_of d a) s w own)
        by (kind.Proxy (Some a) None s) i j w = cc
        by (kind.Proxy None b s) i j w = cc
        by _ i j w = cc

-- ---- what stands in a method

abbrev pub AreOfNoHome : List Held → Type 0
AreOfNoHome ys = AllByRecursion (λ y. is_of_no_home y ≡ true) ys

pub method-anywhere : (id : ObjId) (y : Method) → AreOfNoHome (method_held id y)
method-anywhere id m.GetPrototypeOf = tt
method-anywhere id (m.SetPrototypeOf given) = (refl, tt)
method-anywhere id m.IsExtensible = tt
method-anywhere id m.PreventExtensions = tt
method-anywhere id (m.GetOwnProperty key) = (refl, tt)
method-anywhere id (m.DefineOwnProperty key given) = (refl, (refl, tt))
method-anywhere id (m.HasProperty key) = (refl, tt)
method-anywhere id (m.Get key receiver) = (refl, (refl, tt))
method-anywhere id (m.Set key value receiver) = (refl, (refl, (refl, tt)))
method-anywhere id (m.Delete key) = (refl, tt)
method-anywhere id m.OwnPropertyKeys = tt
method-anywhere id (m.Call this arguments) = (refl, (refl, tt))
method-anywhere id (m.Construct arguments target) = (refl, (refl, (refl, tt)))

-- in a joined world another side may hold what says nothing of a home
pub held-by : (d : Data) (one other : Side) (ys : List Held) → AreOfNoHome ys → (d.joined ≡ false → other ≡ one)
    → Holds d one ys → Holds d other ys
held-by d one other ys e s h = by d.joined refl
  where
    by : (b : Bool) → d.joined ≡ b → Holds d other ys
    by true u = all-anywhere d one other u ys e h
    by false u = rw (s u) h

-- a method of the target is one of the Proxy
pub of-target : (d : Data) (side : Side) (object target : ObjId) (y : Method) → MayHold d side (HeldObject target)
    → (IsConstructor d (v.Object object) → IsConstructor d (v.Object target)) → Holds d side (method_held object y)
    → Holds d side (method_held target y)
of-target d side object target (m.Construct arguments to) o q h =
    (h.0, (h.1.0, (constructs d side (v.Object target) (object-value d side target o) (q h.1.1.0.sound), tt)))
of-target d side object target y o q h = h

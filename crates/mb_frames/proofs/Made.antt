-- An object is made, and then its properties are put: it stays the last one.
use Rattle.std.proofs.Common.{◌++◌, ◌<◌, ◌-◌, ◌^◌, ◌≡◌, ◌∙◌, ◌∷◌, Bool, Err, List, None, Option, Some, [], ap, arith, cond, false, length, length-append, nat_eq, nat_lt, refl, slice_get, subst, suc, sym, true, true≢false, zero, ℕ}
use Rattle.std.specs.Prelude.{codes, is_some, option_map, pos, position}
use Rattle.std.specs.List.{position_or_len}
use Rattle.std.proofs.Math.Seq.{set-append_seam}
use Rattle.std.proofs.lemmas.Bool.Decides.{nat_tests}
use Rattle.std.proofs.lemmas.List.Elements.{All-nil}
use Rattle.std.proofs.lemmas.List.Folds.{position_or_len_push}
use Rattle.std.proofs.lemmas.Option.{slice_get_within}
use Rattle.mb_base.specs.declared.value.ObjId.{ObjId}
use Rattle.mb_base.specs.declared.value.Side.{Side}
use Rattle.mb_base.specs.declared.value.StrId.{StrId}
use Rattle.mb_base.specs.declared.value.Value.{Value}
use Rattle.mb_base.specs.declared.value.Value.TheVariants as v
use Rattle.mb_desc.specs.declared.descriptor.Full.{Full}
use Rattle.mb_desc.specs.declared.descriptor.Full.TheVariants.{Datum}
use Rattle.mb_frames.proofs.Entries.{entries-grow}
use Rattle.mb_frames.proofs.Putting.{PutDone, put-done, put_on}
use Rattle.mb_frames.specs.Making.{HasPrototypes}
use Rattle.mb_frames.specs.Making.{IsOpen, Put}
use Rattle.mb_frames.proofs.Going.{WentOn-then}
use Rattle.mb_frames.specs.Going.{Makes, WentOn}
use Rattle.mb_frames.specs.machine.Making.{MakesOf}
use Rattle.mb_frames.specs.declared.machine.Halt.{Halt}
use Rattle.mb_frames.specs.declared.machine.Halt.TheVariants.{NoMemory, Spent as SpentHalt}
use Rattle.mb_frames.proofs.Steps.{Grew-then}
use Rattle.mb_frames.specs.Resolved.{label_in}
use Rattle.mb_frames.specs.Stepping.{Grew}
use Rattle.mb_model.specs.Operations.Makings.{altered, function_thing, make_constructor}
use Rattle.mb_model.specs.Writing.{◌>>=◌, Does, make, with_object}
use Rattle.mb_text.specs.Index.{index_of}
use Rattle.mb_world.proofs.AfterCalls.{of-made}
use Rattle.mb_world.proofs.Images.{thing-grows}
use Rattle.mb_world.specs.Data.{Data, built_in_of, cell_at, is_array, is_counted, is_object_cell, kind_stand, made, new_cell, obj_id, put_in, serves}
use Rattle.mb_world.specs.Graph.{Function, Graph, Item, Plain, Thing}
use Rattle.mb_world.specs.Ids.{CellIn, FullIn, HasItsIds, KindIn, Maybe, ObjIn, PairIn, PropertyIn, TextIn, ValueIn}
use Rattle.mb_world.specs.Image.{Image, Resolve, code_in, entries_in, full_in, kind_in, names_of, object_in, text_in, thing_in}
use Rattle.mb_world.specs.Intrinsics.{FunctionPrototype, ObjectPrototype, place_of}
use Rattle.mb_world.specs.Key.{Named}
use Rattle.mb_world.specs.Laws.{OfObject}
use Rattle.mb_world.specs.Objects.{new_thing, with_property}
use Rattle.mb_world.specs.Standard.{function_prototype, object_prototype}
use Rattle.mb_world.specs.Value.{Object, Text, Val, Whole}
use Rattle.mb_world.specs.declared.cell.Cell.{Cell}
use Rattle.mb_world.specs.declared.cell.CellKind.{CellKind}
use Rattle.mb_world.specs.declared.cell.Code.{Code}

-- ---- lists that take one more

last-there : {A : Type 0} (xs : List A) (x : A) → slice_get (xs ++ (x ∷ [])) (length xs) ≡ Some x
last-there [] x = refl
last-there (y ∷ ys) x = last-there ys x

some-if : (b : Bool) (n : ℕ) → is_some (cond b (Some n) None) ≡ true → b ≡ true
some-if true n h = refl
some-if false n h = absurd (true≢false (sym h))

some-mapped : (o : Option ℕ) → is_some (option_map obj_id o) ≡ is_some o
some-mapped None = refl
some-mapped (Some n) = refl

position-more : {A : Type 0} (p : A → Bool) (xs : List A) (x : A) → is_some (position p xs) ≡ true
    → is_some (position p (xs ++ (x ∷ []))) ≡ true
position-more p xs x h =
    let b : nat_lt (position_or_len p xs) (length xs) ≡ true = some-if _ (position_or_len p xs) h in
    let l : position_or_len p xs < length xs = grind (arith, nat_tests) in
    let n : nat_eq (position_or_len p xs) (length xs) ≡ false = grind (arith, nat_tests) in
    let e : position_or_len p (xs ++ (x ∷ [])) ≡ position_or_len p xs = position_or_len_push p xs x ∙ rw n refl in
    let m : nat_lt (position_or_len p xs) (length (xs ++ (x ∷ []))) ≡ true
    = (let z = length-append xs (x ∷ []) in grind (arith, nat_tests)) in
    rw (e, m) refl

-- ---- the prototypes stay

prototypes-by : (d d' : Data) (side : Side) → d'.joined ≡ d.joined
    → ((place : ℕ) → is_some (position (serves d.joined side place) d.cells) ≡ true → is_some (position (serves d.joined side place) d'.cells) ≡ true)
    → HasPrototypes d side → HasPrototypes d' side
prototypes-by d d' side j f h = record {
  function = rw j (there (place_of FunctionPrototype) h.function);
  object = rw j (there (place_of ObjectPrototype) h.object);
}
  where
    there : (place : ℕ) → is_some (built_in_of d.joined d.cells side place) ≡ true
        → is_some (built_in_of d.joined d'.cells side place) ≡ true
    there place e =
        some-mapped (position (serves d.joined side place) d'.cells)
        ∙ f place (sym (some-mapped (position (serves d.joined side place) d.cells)) ∙ e)

pub prototypes-made : (d : Data) (home : Side) (kind : CellKind) (proto : Value) (label : Option StrId) (side : Side)
    → HasPrototypes d side → HasPrototypes (made d home kind proto label) side
prototypes-made d home kind proto label side h =
    prototypes-by d (made d home kind proto label) side refl
    (λ place e. position-more (serves d.joined side place) d.cells (new_cell d.texts home kind proto label) e) h

pub prototypes-put : (d d' : Data) (id : ObjId) (c : Cell) (units : List ℕ) (full : Full Value) (side : Side)
    → PutDone d d' id c units full → HasPrototypes d side → HasPrototypes d' side
prototypes-put d d' id c units full side q h =
    prototypes-by d d' side q.grew.joined (λ place e. ap is_some (q.serve d.joined side place) ∙ e) h

-- ---- an object that is the last

pub record IsLast (d d' : Data) (id : ObjId) (t : Thing) : Type 0 where
  pub grew : Grew d d'
  pub trace : entries_in d' ≡ entries_in d
  pub image : (log : List Item) → Image d' log ≡ with_object t (Image d log)
  pub number : (log : List Item) → object_in (names_of d') id ≡ Object (length (Image d log).objects)
  pub cell : Cell
  pub there : cell_at d' id ≡ Some cell
  pub counted : is_object_cell cell ≡ true
  pub prototypes : (side : Side) → HasPrototypes d side → HasPrototypes d' side

put-on-last : (g : Graph) (t : Thing) (units : List ℕ) (x : Full Val)
    → put_on (Object (length g.objects)) units x (with_object t g) ≡ with_object (with_property (Named units) x t) g
put-on-last g t units x =
    let change : Thing → Thing = with_property (Named units) x in
    ap (λ (o : Option Thing). altered (Object (length g.objects)) change o (with_object t g)) (last-there g.objects t)
    ∙ ap (λ (ts : List Thing). let r : Graph = record g { objects = ts } in r) (set-append_seam g.objects t [] (change t))

-- the world in which an object was made
module _ (d d' : Data) (home : Side) (kind : CellKind) (proto : Value) (label : Option StrId) (id : ObjId)
    (i : HasItsIds d) (counted : is_counted (kind_stand kind) ≡ true) (plain : is_array kind ≡ false)
    (same : d' ≡ made d home kind proto label) (number : id.0 ≡ length d.cells) where
  new-in : home.0 < 8 → KindIn d kind → ValueIn d proto → Maybe (TextIn d) label
      → CellIn d (new_cell d.texts home kind proto label)
  new-in h k p l = rw plain (record {
    home_in = h;
    kind_in = k;
    proto_in = p;
    props_in = All-nil (PropertyIn d);
    label_in = l;
    slots_in = All-nil (Maybe (PairIn d));
  })

  pub made-last : home.0 < 8 → KindIn d kind → ValueIn d proto → Maybe (TextIn d) label
      → IsLast d d' id (new_thing home.0 (label_in (names_of d) label) (kind_in (names_of d) [] kind) (Resolve (names_of d) proto))
  made-last h k p l =
      let c : Cell = new_cell d.texts home kind proto label in
      let a : OfObject d home kind proto label = of-made d home kind proto label i counted in
      let u : id ≡ obj_id (length d.cells) = ap obj_id number in
      let thing : Thing = new_thing home.0 (label_in (names_of d) label) (kind_in (names_of d) [] kind) (Resolve (names_of d) proto) in
      let first : thing_in (names_of d) c ≡ thing = rw plain refl in
      rw (same, u) (record {
        grew = record { grows = a.becomes.grows; programs = refl; sides = refl; joined = refl };
        trace = entries-grow d (made d home kind proto label) a.becomes.grows i refl;
        image = λ log.
            a.becomes.image log
            ∙ ap (λ (t : Thing). with_object t (Image d log)) (thing-grows d (made d home kind proto label) a.becomes.grows c (new-in h k p l) ∙ first);
        number = λ log. a.number log;
        cell = c;
        there = last-there d.cells c;
        counted = counted;
        prototypes = λ side u. prototypes-made d home kind proto label side u;
      })

-- a property of it is put
pub put-last : (d d' e : Data) (id : ObjId) (t : Thing) (units : List ℕ) (full : Full Value) → HasItsIds d'
    → FullIn d' full → index_of units ≡ 2 ^ 32 - 1 → IsLast d d' id t → Put d' e id units full
    → IsLast d e id (with_property (Named units) (full_in (names_of d') full) t)
put-last d d' e id t units full i f index q p =
    let r : PutDone d' e id q.cell units full = put-done d' e id q.cell units full i f index q.there q.counted p in
    let x : Full Val = full_in (names_of d') full in
    record {
      grew = Grew-then d d' e q.grew r.grew;
      trace = r.trace ∙ q.trace;
      image = λ log.
          r.image log
          ∙ ap (put_on (object_in (names_of d') id) units x) (q.image log)
          ∙ ap (λ (v : Val). put_on v units x (with_object t (Image d log))) (q.number log)
          ∙ put-on-last (Image d log) t units x;
      number = λ log.
          r.grew.grows.same_object id (slice_get_within d'.cells id.0 q.cell q.there) ∙ q.number log;
      cell = put_in r.key full q.cell;
      there = r.cell;
      counted = q.counted;
      prototypes = λ side u. prototypes-put d' e id q.cell units full side r (q.prototypes side u);
    }

pub last-went : (d d' : Data) (id : ObjId) (t : Thing) → IsLast d d' id t
    → WentOn Val d d' 0 0 (make t) (object_in (names_of d') id)
last-went d d' id t q = record {
  units = 0;
  paid = omega arith;
  same = λ k log.
      ap (λ (v : Val). k v (with_object t (Image d log))) (sym (q.number log))
      ∙ ap (k (object_in (names_of d') id)) (sym (q.image log));
  trace = q.trace;
  grew = q.grew;
}

-- ---- an object that a function constructs has its prototype

pub first-there : {A : Type 0} (xs : List A) (x y : A) (n : ℕ) → slice_get xs n ≡ Some y
    → slice_get (xs ++ (x ∷ [])) n ≡ Some y
first-there [] x y n e = cc
first-there (z ∷ xs) x y zero e = e
first-there (z ∷ xs) x y (suc n) e = first-there xs x y n e

-- the object was made as the last of d1; the function has it then, and it has the function
module _ (d d1 d2 d3 : Data) (home : Side) (function prototype : ObjId) (o : IsOpen d home function)
    (there : cell_at d1 function ≡ Some o.cell) (apart : function.0 ≡ prototype.0 → ⊥)
    (i1 : HasItsIds d1) (i2 : HasItsIds d2)
    (q : IsLast d d1 prototype (new_thing home.0 None Plain object_prototype))
    (p : Put d1 d2 function (codes "prototype") (Datum (v.Object prototype) true false false))
    (r : Put d2 d3 prototype (codes "constructor") (Datum (v.Object function) true false true))
    (no-prototype : index_of (codes "prototype") ≡ 2 ^ 32 - 1) (no-constructor : index_of (codes "constructor") ≡ 2 ^ 32 - 1)
  where
    first : PutDone d1 d2 function o.cell (codes "prototype") (Datum (v.Object prototype) true false false)
    first = put-done d1 d2 function o.cell (codes "prototype") (Datum (v.Object prototype) true false false) i1
        (slice_get_within d1.cells prototype.0 q.cell q.there) no-prototype there o.counted p

    within1 : ObjIn d1 function
    within1 = slice_get_within d1.cells function.0 o.cell there

    pub prototype2 : cell_at d2 prototype ≡ cell_at d1 prototype
    prototype2 = first.others prototype apart

    prototype3 : cell_at d2 prototype ≡ Some q.cell
    prototype3 = prototype2 ∙ q.there

    within2 : ObjIn d2 prototype
    within2 = slice_get_within d2.cells prototype.0 q.cell prototype3

    function2 : ObjIn d2 function
    function2 = slice_get_within d2.cells function.0 (put_in first.key (Datum (v.Object prototype) true false false) o.cell) first.cell

    second : PutDone d2 d3 prototype q.cell (codes "constructor") (Datum (v.Object function) true false true)
    second = put-done d2 d3 prototype q.cell (codes "constructor") (Datum (v.Object function) true false true) i2
        function2 no-constructor prototype3 q.counted r

    value1 : object_in (names_of d1) function ≡ object_in (names_of d) function
    value1 = q.grew.grows.same_object function (slice_get_within d.cells function.0 o.cell o.there)

    value2 : object_in (names_of d2) function ≡ object_in (names_of d) function
    value2 = first.grew.grows.same_object function within1 ∙ value1

    value3 : object_in (names_of d3) function ≡ object_in (names_of d) function
    value3 = second.grew.grows.same_object function function2 ∙ value2

    number2 : (log : List Item) → object_in (names_of d2) prototype ≡ Object (length (Image d log).objects)
    number2 log = first.grew.grows.same_object prototype (slice_get_within d1.cells prototype.0 q.cell q.there) ∙ q.number log

    abbrev started : List Item → Graph
    started log = with_object (new_thing home.0 None Plain object_prototype) (Image d log)

    abbrev has-it : List Item → Graph
    has-it log =
        put_on (object_in (names_of d) function) (codes "prototype") (Datum (Object (length (Image d log).objects)) true false false)
        (started log)

    image2 : (log : List Item) → Image d2 log ≡ has-it log
    image2 log =
        first.image log
        ∙ ap (put_on (object_in (names_of d1) function) (codes "prototype") (Datum (object_in (names_of d1) prototype) true false false)) (q.image log)
        ∙ ap (λ (x : Val). put_on (object_in (names_of d1) function) (codes "prototype") (Datum x true false false) (started log)) (q.number log)
        ∙ ap (λ (f : Val). put_on f (codes "prototype") (Datum (Object (length (Image d log).objects)) true false false) (started log)) value1

    image3 : (log : List Item) → Image d3 log
        ≡ put_on (Object (length (Image d log).objects)) (codes "constructor") (Datum (object_in (names_of d) function) true false true)
        (has-it log)
    image3 log =
        second.image log
        ∙ ap (put_on (object_in (names_of d2) prototype) (codes "constructor") (Datum (object_in (names_of d2) function) true false true)) (image2 log)
        ∙ ap (λ (x : Val). put_on x (codes "constructor") (Datum (object_in (names_of d2) function) true false true) (has-it log)) (number2 log)
        ∙ ap (λ (f : Val). put_on (Object (length (Image d log).objects)) (codes "constructor") (Datum f true false true) (has-it log)) value2

    pub constructor-went : WentOn Val d d3 0 0 (make_constructor home.0 true (object_in (names_of d) function)) (object_in (names_of d3) function)
    constructor-went = record {
      units = 0;
      paid = omega arith;
      same = λ k log.
          ap (k (object_in (names_of d) function)) (sym (image3 log))
          ∙ ap (λ (f : Val). k f (Image d3 log)) (sym value3);
      trace = second.trace ∙ first.trace ∙ q.trace;
      grew = Grew-then d d2 d3 (Grew-then d d1 d2 q.grew first.grew) second.grew;
    }

    pub constructor-prototypes : (side : Side) → HasPrototypes d side → HasPrototypes d3 side
    constructor-prototypes side h =
        prototypes-put d2 d3 prototype q.cell (codes "constructor") (Datum (v.Object function) true false true) side second
        (prototypes-put d1 d2 function o.cell (codes "prototype") (Datum (v.Object prototype) true false false) side first (q.prototypes side h))

    pub constructor-within : ObjIn d3 function
    constructor-within = omega (arith, function2, second.grew.grows.cells_in)

-- ---- a function with its `length` and `name`

pub bare-made : (d d1 d2 d3 : Data) (code : Code) (label : Option StrId) (params : ℕ) (name : StrId) (proto : Value)
    (id : ObjId) → HasItsIds d1 → HasItsIds d2 → TextIn d name → Resolve (names_of d) proto ≡ function_prototype
    → IsLast d d1 id (new_thing code.side.0 (label_in (names_of d) label) (Function (code_in (names_of d) code)) (Resolve (names_of d) proto))
    → Put d1 d2 id (codes "length") (Datum (v.Whole (pos params)) false false true)
    → Put d2 d3 id (codes "name") (Datum (v.Text name) false false true)
    → index_of (codes "length") ≡ 2 ^ 32 - 1 → index_of (codes "name") ≡ 2 ^ 32 - 1
    → IsLast d d3 id (function_thing code.side.0 (label_in (names_of d) label) (code_in (names_of d) code) params (text_in (names_of d) name))
bare-made d d1 d2 d3 code label params name proto id i1 i2 h e q p r no-length no-name =
    let n = names_of d in
    let t1 : Thing = new_thing code.side.0 (label_in n label) (Function (code_in n code)) (Resolve n proto) in
    let length-full : Full Value = Datum (v.Whole (pos params)) false false true in
    let t2 : Thing = with_property (Named (codes "length")) (Datum (Whole (pos params)) false false true) t1 in
    let q2 : IsLast d d2 id t2 = put-last d d1 d2 id t1 (codes "length") length-full i1 tt no-length q p in
    let h2 : TextIn d2 name = omega (arith, h, q2.grew.grows.texts_in) in
    let q3 = put-last d d2 d3 id t2 (codes "name") (Datum (v.Text name) false false true) i2 h2 no-name q2 r in
    subst (λ (us : List ℕ). IsLast d d3 id (function_thing code.side.0 (label_in n label) (code_in n code) params us))
    (q2.grew.grows.same_text name h)
    (subst (λ (x : Val). IsLast d d3 id (with_property (Named (codes "name")) (Datum (Text (text_in (names_of d2) name)) false false true) (with_property (Named (codes "length")) (Datum (Whole (pos params)) false false true) (new_thing code.side.0 (label_in n label) (Function (code_in n code)) x)))) e q3)

-- a function is made, and then its prototype
pub constructed : (d d1 d2 : Data) (side : ℕ) (p : Does Val) (id : ObjId) → WentOn Val d d1 0 0 p (object_in (names_of d1) id)
    → WentOn Val d1 d2 0 0 (make_constructor side true (object_in (names_of d1) id)) (object_in (names_of d2) id)
    → WentOn Val d d2 0 0 (p >>= (λ f. make_constructor side true f)) (object_in (names_of d2) id)
constructed d d1 d2 side p id q h =
    WentOn-then Val Val d d1 d2 0 0 p (object_in (names_of d1) id) (λ f. make_constructor side true f)
    (object_in (names_of d2) id) q h

pub unconstructed : (halt : Halt) (d d1 d2 : Data) (id : ObjId) (p q : Does Val) → MakesOf (Err halt) d1 d2 id p
    → Makes (Err halt) d d2 q
unconstructed SpentHalt d d1 d2 id p q h = absurd h
unconstructed NoMemory d d1 d2 id p q h = tt

use Rattle.std.specs.Prelude.{List, map, take, Bool, true, not, ◌≡◌, Option, Some, None}
use Rattle.std.specs.List.{list_all, list_any}
use Rattle.mb_desc.specs.Descriptors.{Complete}
use Rattle.mb_view.specs.Entries as deed
use Rattle.mb_view.specs.Entries.{Deed, contradicts, Told}
use Rattle.mb_world.specs.declared.entry.Op.{Op}
use Rattle.mb_world.specs.declared.entry.Op.TheVariants.{GetPrototypeOf, SetPrototypeOf, IsExtensible, PreventExtensions, GetOwnPropertyDescriptor, DefineProperty, Has, Get, Set, DeleteProperty, OwnKeys}
use Rattle.mb_world.specs.Value.{Val, Undefined, same_value}
use Rattle.mb_world.specs.Key.{PropertyKey, same_key}
use Rattle.mb_world.specs.Graph.{Said, SaidFlag, SaidValue, SaidAbsent, SaidProperty, SaidKeys, Entry}

-- what the entries of a trace promise, and that none contradicts a promise made before it began: the laws of answers
-- (mb_view) over the entries of a run

-- what an entry did, as far as it can tell or contradict anything: a throw, a call, a construction and an access of a
-- collection can't; a property that is answered has all four fields of its kind
abbrev pub deed_by : Op → Option PropertyKey → (given answer : Said) → Deed PropertyKey Val
deed_by GetPrototypeOf key given (SaidValue prototype) = deed.GetPrototypeOf prototype
deed_by SetPrototypeOf key (SaidValue prototype) (SaidFlag answer) = deed.SetPrototypeOf prototype answer
deed_by IsExtensible key given (SaidFlag answer) = deed.IsExtensible answer
deed_by PreventExtensions key given (SaidFlag answer) = deed.PreventExtensions answer
deed_by GetOwnPropertyDescriptor (Some key) given SaidAbsent = deed.GetOwnProperty key None
deed_by GetOwnPropertyDescriptor (Some key) given (SaidProperty desc) =
    deed.GetOwnProperty key (Some (Complete Undefined desc))
deed_by DefineProperty (Some key) (SaidProperty desc) (SaidFlag answer) = deed.DefineOwnProperty key desc answer
deed_by Has (Some key) given (SaidFlag answer) = deed.HasProperty key answer
deed_by Get (Some key) given (SaidValue value) = deed.Get key value
deed_by Set (Some key) (SaidValue value) (SaidFlag answer) = deed.Set key value answer
deed_by DeleteProperty (Some key) given (SaidFlag answer) = deed.Delete key answer
deed_by OwnKeys key given (SaidKeys keys) = deed.OwnPropertyKeys keys
deed_by _ key given answer = deed.Silent

abbrev pub deed_of : Entry → deed.Entry PropertyKey Val
deed_of e = record {
  began = e.began;
  side = e.side;
  object = e.object;
  deed = deed_by e.op e.key e.given e.answer;
}

-- no entry contradicts what was told before it began
abbrev pub Lawful : List Entry → Type 0
Lawful es = deed.Lawful same_key same_value Undefined (map deed_of es)

-- the test of it
abbrev pub is_consistent : List (deed.Entry PropertyKey Val) → deed.Entry PropertyKey Val → Bool
is_consistent es e = not (list_any (λ fact. contradicts same_key same_value Undefined fact e.deed)
    (Told (take e.began es) e.side e.object))

abbrev pub is_lawful : List Entry → Bool
is_lawful es = list_all (is_consistent (map deed_of es)) (map deed_of es)

-- what passes the test is lawful
abbrev pub TestTellsLawful : Type 0
TestTellsLawful = (es : List Entry) → is_lawful es ≡ true → Lawful es

-- The line of an entry of the trace.
use Rattle.std.specs.Prelude.{ℕ, zero, suc, ◌+◌, List, [], ◌∷◌, ◌++◌, length, fold, Bool, true, false, nat_lt, Option, Some, None, option_map, unwrap_or, if◌then◌else◌, codes}
use Rattle.std.specs.List.{filter, flat_map, join_by, join_with_byte, position_or_len}
use Rattle.std.specs.Str.{bytes_eq as same_text}
use Rattle.indexmap.specs.IndexSet.{insert_key}
use Rattle.mb_desc.specs.declared.descriptor.Desc.{Desc}
use Rattle.mb_text.specs.Spelling.{spelled}
use Rattle.mb_world.specs.declared.entry.Op.{Op}
use Rattle.mb_world.specs.declared.entry.Op.TheVariants.{GetPrototypeOf, SetPrototypeOf, IsExtensible, PreventExtensions, GetOwnPropertyDescriptor, DefineProperty, Has, Get, Set, DeleteProperty, OwnKeys, Apply, Construct, Collect}
use Rattle.mb_world.specs.Value.{Val, Undefined, Null, Truth, Whole, Text, Symbol, Object, BuiltIn, truth_text, decimal, whole_text}
use Rattle.mb_world.specs.Key.{PropertyKey, Named, SymbolKey}
use Rattle.mb_world.specs.Graph.{Said, SaidNothing, SaidFlag, SaidValue, SaidAbsent, SaidProperty, SaidKeys, SaidThrow, SaidPair, Entry}
use Rattle.mb_world.specs.Intrinsics.{intrinsic, name_of}

-- ---- the texts that are told by number

abbrev pub texts_of_value : Val → List (List ℕ)
texts_of_value (Text t) = t ∷ []
texts_of_value _ = []

abbrev pub texts_of_key : PropertyKey → List (List ℕ)
texts_of_key (Named t) = t ∷ []
texts_of_key (SymbolKey n) = []

-- of what may be absent
abbrev pub texts_where : {A : Type 0} → (A → List (List ℕ)) → Option A → List (List ℕ)
texts_where f None = []
texts_where f (Some a) = f a

abbrev pub texts_of_desc : Desc Val → List (List ℕ)
texts_of_desc d =
    texts_where texts_of_value d.value ++ texts_where texts_of_value d.get ++ texts_where texts_of_value d.set

abbrev pub texts_of_said : Said → List (List ℕ)
texts_of_said (SaidValue v) = texts_of_value v
texts_of_said (SaidProperty d) = texts_of_desc d
texts_of_said (SaidKeys ks) = flat_map texts_of_key ks
texts_of_said (SaidThrow v) = texts_of_value v
texts_of_said (SaidPair k v) = texts_of_value k ++ texts_of_value v
texts_of_said _ = []

-- in the order in which the line has them
abbrev pub texts_of_entry : Entry → List (List ℕ)
texts_of_entry e = texts_where texts_of_key e.key ++ texts_of_said e.given ++ texts_of_said e.answer

-- a text of more than 64 units
abbrev pub is_long_text : List ℕ → Bool
is_long_text t = nat_lt 64 (length t)

-- the long texts of a trace, each where it comes first
abbrev pub numbered_texts : List Entry → List (List ℕ)
numbered_texts es = fold (insert_key same_text) [] (filter is_long_text (flat_map texts_of_entry es))

-- its number among them, from 1
abbrev pub number_of_text : List (List ℕ) → List ℕ → ℕ
number_of_text numbered t = position_or_len (same_text t) numbered + 1

-- ---- how the parts of an entry are spelled, with these texts told by number

abbrev pub intrinsic_name : ℕ → List ℕ
intrinsic_name p = unwrap_or (option_map name_of (intrinsic p)) []

-- the name of a method is that of its trap (ECMA-262 10.5, 28.1); an access of a collection is named by the built-in
abbrev pub op_name : Op → List ℕ
op_name GetPrototypeOf = codes "getPrototypeOf"
op_name SetPrototypeOf = codes "setPrototypeOf"
op_name IsExtensible = codes "isExtensible"
op_name PreventExtensions = codes "preventExtensions"
op_name GetOwnPropertyDescriptor = codes "getOwnPropertyDescriptor"
op_name DefineProperty = codes "defineProperty"
op_name Has = codes "has"
op_name Get = codes "get"
op_name Set = codes "set"
op_name DeleteProperty = codes "deleteProperty"
op_name OwnKeys = codes "ownKeys"
op_name Apply = codes "apply"
op_name Construct = codes "construct"
op_name (Collect p) = 64 ∷ intrinsic_name p

-- a long text as `~` and its number, any other in quotes
abbrev pub seen_text : List (List ℕ) → List ℕ → List ℕ
seen_text numbered t =
    if is_long_text t then 126 ∷ decimal (number_of_text numbered t) else 34 ∷ spelled true t ++ (34 ∷ [])

abbrev pub seen_symbol : ℕ → List ℕ
seen_symbol n = 64 ∷ 64 ∷ decimal n

-- an object is `#` and its number, a built-in `@` and its name
abbrev pub seen : List (List ℕ) → Val → List ℕ
seen numbered Undefined = codes "undefined"
seen numbered Null = codes "null"
seen numbered (Truth b) = truth_text b
seen numbered (Whole z) = whole_text z
seen numbered (Text t) = seen_text numbered t
seen numbered (Symbol n) = seen_symbol n
seen numbered (Object n) = 35 ∷ decimal n
seen numbered (BuiltIn p) = 64 ∷ intrinsic_name p

abbrev pub seen_key : List (List ℕ) → PropertyKey → List ℕ
seen_key numbered (Named t) = seen_text numbered t
seen_key numbered (SymbolKey n) = seen_symbol n

-- a field that is there, as its name, `=` and what it holds, before other fields
abbrev pub with_field : {A : Type 0} → List ℕ → (A → List ℕ) → Option A → List (List ℕ) → List (List ℕ)
with_field name f None fs = fs
with_field name f (Some a) fs = (name ++ (61 ∷ f a)) ∷ fs

-- in the order of FromPropertyDescriptor (ECMA-262 6.2.6.4)
abbrev pub fields_seen : List (List ℕ) → Desc Val → List (List ℕ)
fields_seen numbered d =
    with_field (codes "value") (seen numbered) d.value
    (with_field (codes "writable") truth_text d.writable
    (with_field (codes "get") (seen numbered) d.get
    (with_field (codes "set") (seen numbered) d.set
    (with_field (codes "enumerable") truth_text d.enumerable
    (with_field (codes "configurable") truth_text d.configurable [])))))

abbrev pub seen_desc : List (List ℕ) → Desc Val → List ℕ
seen_desc numbered d = 123 ∷ join_with_byte 44 (fields_seen numbered d) ++ (125 ∷ [])

abbrev pub seen_keys : List (List ℕ) → List PropertyKey → List ℕ
seen_keys numbered ks = 91 ∷ join_by (seen_key numbered) (44 ∷ []) ks ++ (93 ∷ [])

abbrev pub seen_said : List (List ℕ) → Said → List ℕ
seen_said numbered SaidNothing = 45 ∷ []
seen_said numbered (SaidFlag b) = truth_text b
seen_said numbered (SaidValue v) = seen numbered v
seen_said numbered SaidAbsent = codes "none"
seen_said numbered (SaidProperty d) = seen_desc numbered d
seen_said numbered (SaidKeys ks) = seen_keys numbered ks
seen_said numbered (SaidThrow v) = codes "throw " ++ seen numbered v
seen_said numbered (SaidPair k v) = seen numbered k ++ (61 ∷ 62 ∷ seen numbered v)

abbrev pub seen_key_if : List (List ℕ) → Option PropertyKey → List ℕ
seen_key_if numbered None = 45 ∷ []
seen_key_if numbered (Some k) = seen_key numbered k

-- the letter of a side: A to H where the sides are lettered, else L and R
abbrev pub side_letter : Bool → ℕ → ℕ
side_letter true s = 65 + s
side_letter false zero = 76
side_letter false (suc s) = 82

-- ---- the line

-- eight parts, with a blank between two of them
abbrev pub entry_line : Bool → List (List ℕ) → Entry → List ℕ
entry_line lettered numbered e = join_with_byte 32 (codes "T" ∷ decimal e.began ∷
    (side_letter lettered e.side ∷ []) ∷ (35 ∷ decimal e.object) ∷ op_name e.op ∷ seen_key_if numbered e.key ∷
    seen_said numbered e.given ∷ seen_said numbered e.answer ∷ [])

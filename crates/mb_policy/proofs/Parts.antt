-- What a value of a file is, by what its accessors give.
use Rattle.std.proofs.Common.{◌≡◌, ◌∙◌, ℕ, ◌<◌, ◌≤◌, List, length, Bool, true, false, Option, Some, None, option_map, refl, ap, sym, le-leb, if◌then◌else◌}
use Rattle.std.proofs.lemmas.Bool.{lt-leb}
use Rattle.mb_world.specs.Value.{Text}
use Rattle.std.specs.Prelude.{option_and_then}
use Rattle.toml.specs.Data.{Data, string, integer, float, boolean, datetime, array, table, as_str}
use Rattle.mb_base.specs.declared.value.Value.{Value}
use Rattle.mb_base.specs.declared.value.Side.{Side}
use Rattle.mb_world.specs.Ids.{Maybe}
use Rattle.mb_world.specs.Formed.{is_whole}
use Rattle.mb_world.specs.Image.{side_in}
use Rattle.mb_policy.specs.Fields.{text_units, text_constant, constant_of, side_in_field, side_of}
use Rattle.mb_policy.specs.Rules.{constant_by, IsConstant}
use Rattle.mb_policy.specs.machine.Names.{plain_constant_of}

-- the constant that a text is
pub constant-text : (d : Data) (s : List ℕ) → as_str d ≡ Some s → constant_of d ≡ text_constant (text_units s)
constant-text (string t) s h = let P : Option (List ℕ) → Option _ = λ o. option_and_then (λ x. text_constant (text_units x)) o in ap P h
constant-text (integer z) s h = cc
constant-text (float x) s h = cc
constant-text (boolean b) s h = cc
constant-text (datetime t) s h = cc
constant-text (array ds) s h = cc
constant-text (table ms) s h = cc

whole : (texts : List (List ℕ)) (b : Bool) (v : Value) → option_map (constant_by texts) (if b then Some v else None) ≡ (if b then Some (constant_by texts v) else None)
whole texts true v = refl
whole texts false v = refl

-- the constant that another value is
pub constant-plain : (texts : List (List ℕ)) (d : Data) → as_str d ≡ None → option_map (constant_by texts) (plain_constant_of d) ≡ constant_of d
constant-plain texts (string t) h = cc
constant-plain texts (integer z) h = whole texts (is_whole z) _
constant-plain texts (float x) h = refl
constant-plain texts (boolean b) h = refl
constant-plain texts (datetime t) h = refl
constant-plain texts (array ds) h = refl
constant-plain texts (table ms) h = refl

whole_in : (texts : List (List ℕ)) (b : Bool) (v : Value) → (b ≡ true → IsConstant texts v) → Maybe (IsConstant texts) (if b then Some v else None)
whole_in texts true v h = h refl
whole_in texts false v h = tt

pub constant-plain-in : (texts : List (List ℕ)) (d : Data) → Maybe (IsConstant texts) (plain_constant_of d)
constant-plain-in texts (string t) = tt
constant-plain-in texts (integer z) = whole_in texts (is_whole z) _ (λ h. h)
constant-plain-in texts (float x) = tt
constant-plain-in texts (boolean b) = tt
constant-plain-in texts (datetime t) = tt
constant-plain-in texts (array ds) = tt
constant-plain-in texts (table ms) = tt

-- a text constant is refused where it is too long
pub constant-long : (units : List ℕ) → 1048576 < length units → text_constant units ≡ None
constant-long units h = ap (λ b. if b then Some (Text units) else None) (lt-leb (length units) 1048576 h)

pub constant-short : (units : List ℕ) → length units ≤ 1048576 → text_constant units ≡ Some (Text units)
constant-short units h = ap (λ b. if b then Some (Text units) else None) (le-leb (length units) 1048576 h)

-- the side that a field names
pub side-given : (d : Data) (text : List ℕ) (side : Option Side) → as_str d ≡ Some text → side_in side ≡ side_of text → option_map side_in (option_map Some side) ≡ side_in_field (Some d)
side-given d text None h e = ap (option_map Some) (e ∙ sym (ap (option_and_then side_of) h))
side-given d text (Some s) h e = ap (option_map Some) (e ∙ sym (ap (option_and_then side_of) h))

pub side-none : (d : Data) → as_str d ≡ None → None ≡ side_in_field (Some d)
side-none d h = ap (option_map Some) (sym (ap (option_and_then side_of) h))

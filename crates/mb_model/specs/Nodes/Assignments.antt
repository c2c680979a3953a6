use Rattle.std.specs.Prelude.{ℕ, Bool, true, false, if◌then◌else◌, ℤ, pos, ◌+ℤ◌, ◌-ℤ◌}
use Rattle.mb_tree.specs.declared.kind.Sign.{Sign}
use Rattle.mb_world.specs.Value.{Val, whole_of}
use Rattle.mb_model.specs.Task.{Answer}
use Rattle.mb_model.specs.Writing.{Does, ◌>>=◌, value_in, or_type_error}
use Rattle.mb_model.specs.Operations.Conversions.{whole}
use Rattle.mb_model.specs.Nodes.Evaluation.{Context, eval}
use Rattle.mb_model.specs.Nodes.References.{Reference, refer, get_value, put_and_give}
use Rattle.mb_model.specs.Nodes.BinaryOperators.{operate}

-- assignments (ECMA-262 13.15, 13.4)

abbrev pub assigned : Context → Reference → Val → Does Answer
assigned c r v = put_and_give c r v v

abbrev pub assign_to : Context → ℕ → Reference → Does Answer
assign_to c n r = do
  v ← eval c n
  assigned c r v

abbrev pub assign_row : Context → ℕ → ℕ → Does Answer
assign_row c target n = do
  r ← refer c target
  assign_to c n r

abbrev pub compound_got : Context → Sign → Reference → Val → Val → Does Answer
compound_got c sign r old v = do
  a ← operate c.side sign old v
  put_and_give c r (value_in a) (value_in a)

abbrev pub compound_old : Context → Sign → ℕ → Reference → Val → Does Answer
compound_old c sign n r old = do
  v ← eval c n
  compound_got c sign r old v

abbrev pub compound_to : Context → Sign → ℕ → Reference → Does Answer
compound_to c sign n r = do
  old ← get_value c r
  compound_old c sign n r old

abbrev pub compound_row : Context → Sign → ℕ → ℕ → Does Answer
compound_row c sign target n = do
  r ← refer c target
  compound_to c sign n r

abbrev pub stepped : Bool → ℤ → ℤ
stepped true z = z +ℤ pos 1
stepped false z = z -ℤ pos 1

abbrev pub update_old : Context → Bool → Bool → Reference → Val → Does Answer
update_old c plus prefix r old = do
  z ← or_type_error c.side (whole_of old)
  new ← whole c.side (stepped plus z)
  put_and_give c r new (if prefix then new else old)

abbrev pub update_to : Context → Bool → Bool → Reference → Does Answer
update_to c plus prefix r = do
  old ← get_value c r
  update_old c plus prefix r old

abbrev pub update_row : Context → Bool → Bool → ℕ → Does Answer
update_row c plus prefix target = do
  r ← refer c target
  update_to c plus prefix r

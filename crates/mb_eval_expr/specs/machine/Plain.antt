-- Expressions that begin with one part, or with none, and change nothing.
use Rattle.std.specs.Prelude.{Bool, false, true}
use Rattle.mb_tree.specs.Form as t

abbrev pub is_plain : t.Form → Bool
is_plain t.ThisForm = true
is_plain (t.NumberForm whole) = true
is_plain (t.TextForm text) = true
is_plain (t.LiteralForm fixed) = true
is_plain (t.GroupForm inner) = true
is_plain (t.CondForm test main other) = true
is_plain (t.OrForm left right) = true
is_plain (t.AndForm left right) = true
is_plain (t.BinaryForm sign left right) = true
is_plain (t.MemberForm base name) = true
is_plain (t.IndexForm base key) = true
is_plain (t.NewForm callee arguments) = true
is_plain form = false

-- What operands are inside their Groups.
use Rattle.std.specs.Prelude.{List, Option, Some, length, ℕ, ◌≡◌}
use Rattle.mb_base.specs.declared.value.Side.{Side}
use Rattle.mb_eval_expr.specs.declared.targets.Target.{Target}
use Rattle.mb_eval_expr.specs.declared.targets.Target.TheVariants as t
use Rattle.mb_frames.specs.Standing.{forms_at}
use Rattle.mb_model.specs.Nodes.References.{layers_from}
use Rattle.mb_world.specs.Data.{Data}
use Rattle.mb_world.specs.Form.{Form, IndexForm, MemberForm, NameForm}
use Rattle.mb_world.specs.Ids.{TextIn}
use Rattle.mb_world.specs.Image.{names_of, text_in}

-- the nodes from one down through its Groups, in a world
abbrev pub layers_at : Data → Side → ℕ → List Form
layers_at d home n = layers_from (length (forms_at d home)) (forms_at d home) n

-- neither a name nor a place
abbrev pub IsOther : Option Form → Type 0
IsOther (Some (NameForm x)) = ⊥
IsOther (Some (MemberForm b x)) = ⊥
IsOther (Some (IndexForm b k)) = ⊥
IsOther form = Unit {0}

abbrev pub targeted : Data → Target → Option Form → Type 0
targeted d (t.Name name) form = form ≡ Some (NameForm (text_in (names_of d) name))
targeted d (t.Member base name) form = form ≡ Some (MemberForm base.0 (text_in (names_of d) name))
targeted d (t.Index base key) form = form ≡ Some (IndexForm base.0 key.0)
targeted d t.Other form = IsOther form

abbrev pub TargetIn : Data → Target → Type 0
TargetIn d (t.Name name) = TextIn d name
TargetIn d (t.Member base name) = TextIn d name
TargetIn d target = Unit {0}

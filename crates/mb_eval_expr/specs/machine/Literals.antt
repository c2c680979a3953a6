-- Literals of objects.
use Rattle.std.specs.Prelude.{◌+◌, ◌∷◌, ◌≡◌, Err, List, None, Ok, Option, Result, Some, [], codes, drop, length}
use Rattle.std.specs.Prelude.{slice_get, true, ℕ}
use Rattle.mb_base.specs.declared.value.NodeId.{NodeId}
use Rattle.mb_base.specs.declared.value.Side.{Side}
use Rattle.mb_base.specs.declared.value.Value.{Value}
use Rattle.mb_desc.specs.declared.descriptor.Desc.{Desc}
use Rattle.mb_eval_expr.specs.declared.definitions.Definition.{Definition}
use Rattle.mb_eval_expr.specs.declared.definitions.Definition.TheVariants as def
use Rattle.mb_eval_expr.specs.declared.props.Literal.{Literal}
use Rattle.mb_parts.specs.Storing.{opened}
use Rattle.mb_frames.specs.Going.{WentOn}
use Rattle.mb_frames.specs.Held.{Held, HeldNode, HeldPlain, HeldScope, HeldValue}
use Rattle.mb_frames.specs.Kinds.{Expression, is_object_form}
use Rattle.mb_frames.specs.Passing.{Part}
use Rattle.mb_frames.specs.Resolved.{context_in}
use Rattle.mb_frames.specs.Rest.Parts.{parts_at}
use Rattle.mb_frames.specs.Standing.{forms_at}
use Rattle.mb_frames.specs.Told.{IsNodeOf, key_told}
use Rattle.mb_frames.specs.declared.frame.Move.{Move}
use Rattle.mb_frames.specs.declared.machine.Halt.{Halt}
use Rattle.mb_frames.specs.declared.machine.Halt.TheVariants.{NoMemory, Spent as SpentHalt}
use Rattle.mb_model.specs.Meaning.{finished}
use Rattle.mb_model.specs.Nodes.Literals.{name_of_prop, props}
use Rattle.mb_model.specs.Task.{Answer}
use Rattle.mb_model.specs.Writing.{Does, ◌>>=◌}
use Rattle.mb_tree.specs.Seen.{seen_name}
use Rattle.mb_tree.specs.declared.form.PropName.{PropName}
use Rattle.mb_tree.specs.declared.form.PropName.TheVariants as p
use Rattle.mb_world.specs.Data.{Data}
use Rattle.mb_world.specs.Form.{Form, GetterForm, MethodForm, SetterForm, ValueForm}
use Rattle.mb_world.specs.Image.{names_of, object_in}

-- what stands in a literal
abbrev pub literal_held : Literal → List Held
literal_held l =
    HeldScope l.at.scope ∷ HeldValue l.at.this ∷ HeldNode is_object_form l.node.0 ∷ HeldPlain l.object ∷ []

-- the properties behind the one at hand
abbrev pub rest_of : Data → Side → Literal → Does Answer
rest_of d home l =
    props (context_in (names_of d) home.0 l.at) (object_in (names_of d) l.object)
    (drop (l.place + 1) (parts_at (forms_at d home) l.node.0))

-- a property was defined, or a step is made: its row waits or throws
abbrev pub Defines : Side → Literal → Result (Option Move) Halt → Data → Data → Does Answer → Type 0
Defines home l (Ok None) d d' p = (a : Answer) × WentOn Answer d d' 0 0 p a
Defines home l (Ok (Some m)) d d' p = (f : ℕ) → Part home (Ok m) d d' f f ((p >>= (λ a. rest_of d home l)) finished)
Defines home l (Err SpentHalt) d d' p = ⊥
Defines home l (Err NoMemory) d d' p = Unit {0}

-- ---- what a property has

abbrev pub IsDefinition : Form → Definition → Type 0
IsDefinition (ValueForm name e) (def.Value node) = e ≡ node.0
IsDefinition (MethodForm name parts) (def.Method n) = length parts.params ≡ n
IsDefinition (GetterForm name parts) (def.Getter n) = length parts.params ≡ n
IsDefinition (SetterForm name parts) (def.Setter n) = length parts.params ≡ n
IsDefinition form definition = ⊥

abbrev pub IsProp : Data → Option Form → PropName → Definition → Type 0
IsProp d None name definition = ⊥
IsProp d (Some form) name definition =
    (name_of_prop form ≡ key_told d.texts (seen_name name)) × IsDefinition form definition

abbrev pub HasNameNode : Data → Side → PropName → Type 0
HasNameNode d home (p.Computed key) = IsNodeOf d home Expression key
HasNameNode d home name = Unit {0}

abbrev pub HasValueNode : Data → Side → Definition → Type 0
HasValueNode d home (def.Value node) = IsNodeOf d home Expression node
HasValueNode d home definition = Unit {0}

-- a computed name and a value are expressions
abbrev pub HasItsNodes : Data → Side → PropName → Definition → Type 0
HasItsNodes d home name definition = HasNameNode d home name × HasValueNode d home definition

abbrev pub IsOf : Option Form → Definition → Type 0
IsOf None definition = ⊥
IsOf (Some form) definition = IsDefinition form definition

abbrev pub IsDefinitionAt : Data → Side → NodeId → Definition → Type 0
IsDefinitionAt d home property definition =
    IsOf (slice_get (forms_at d home) property.0) definition × HasValueNode d home definition

-- the prefix of the name of a method, getter or setter, and the number of its Params
abbrev pub IsMethodOf : Definition → List ℕ → ℕ → Type 0
IsMethodOf (def.Value node) prefix n = ⊥
IsMethodOf (def.Method m) prefix n = (prefix ≡ []) × (m ≡ n)
IsMethodOf (def.Getter m) prefix n = (prefix ≡ codes "get ") × (m ≡ n)
IsMethodOf (def.Setter m) prefix n = (prefix ≡ codes "set ") × (m ≡ n)

-- the descriptor of a method, getter or setter
abbrev pub described_by : Definition → Value → Desc Value
described_by (def.Getter n) f = record {
  value = None;
  writable = None;
  get = Some f;
  set = None;
  enumerable = Some true;
  configurable = Some true;
}
described_by (def.Setter n) f = record {
  value = None;
  writable = None;
  get = None;
  set = Some f;
  enumerable = Some true;
  configurable = Some true;
}
described_by definition f = opened f

-- What becomes of one declaration.
use Rattle.std.specs.Prelude.{Err, None, Ok, Option, Result, Some, ◌≡◌}
use Rattle.mb_base.specs.declared.value.NodeId.{NodeId}
use Rattle.mb_base.specs.declared.value.StrId.{StrId}
use Rattle.mb_frames.specs.Going.{WentOn}
use Rattle.mb_frames.specs.declared.machine.Halt.TheVariants.{NoMemory, Spent as SpentHalt}
use Rattle.mb_frames.specs.declared.machine.Halt.{Halt}
use Rattle.mb_model.specs.Nodes.Evaluation.{Context}
use Rattle.mb_model.specs.Nodes.Statements.{decl_of}
use Rattle.mb_model.specs.Task.{Answer, Nothing}
use Rattle.mb_world.specs.Data.{Data}
use Rattle.mb_world.specs.Form.{DeclForm, Form}
use Rattle.mb_world.specs.Ids.{TextIn}
use Rattle.mb_world.specs.Image.{names_of, text_in}

-- the declaration has a value, which is still to come
pub record Waits (d d' : Data) (form : Option Form) (name : StrId) (value : NodeId) : Type 0 where
  pub there : form ≡ Some (DeclForm (text_in (names_of d) name) (Some value.0))
  pub text : TextIn d name
  pub world : d' ≡ d

abbrev pub Declares : Result (Option (StrId × NodeId)) Halt → Data → Data → Option Form → Context → Type 0
Declares (Ok None) d d' form c = WentOn Answer d d' 0 0 (decl_of c form) Nothing
Declares (Ok (Some p)) d d' form c = Waits d d' form p.0 p.1
Declares (Err SpentHalt) d d' form c = ⊥
Declares (Err NoMemory) d d' form c = Unit {0}

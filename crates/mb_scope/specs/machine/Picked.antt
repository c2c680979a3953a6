-- The parts that rules look at, by the forms that the code gets.
use Rattle.std.specs.Prelude.{Option, Some, None}
use Rattle.mb_base.specs.declared.value.NodeId.{NodeId}
use Rattle.mb_tree.specs.declared.form.Form.{Form}
use Rattle.mb_tree.specs.declared.form.Form.TheVariants as f

abbrev pub inner_of : Option Form → Option NodeId
inner_of (Some (f.Group inner)) = Some inner
inner_of _ = None

abbrev pub changed_by : Option Form → Option NodeId
changed_by (Some (f.Assign target value)) = Some target
changed_by (Some (f.Compound sign target value)) = Some target
changed_by (Some (f.Update plus prefix target)) = Some target
changed_by (Some (f.Unary sign operand)) = Some operand
changed_by _ = None

abbrev pub named_handler : Option Form → Option NodeId
named_handler (Some (f.Try block (Some caught) handler ending)) = handler
named_handler _ = None

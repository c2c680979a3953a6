use Rattle.std.proofs.Common.{◌∙◌, sym}
use Rattle.std.proofs.lemmas.List.{length-map}
use Rattle.mb_base.specs.declared.value.NodeId.{NodeId}
use Rattle.mb_world.specs.Data.{program_of}
use Rattle.mb_world.specs.Image.{nodes_in}
use Rattle.mb_parts.proofs.Declaring.{names-counted}
use Rattle.mb_frames.specs.Told.{numbers_of, parts_told, shapes_of}
use Rattle.mb_tree.specs.Seen.{seen_parts}
use Rattle.mb_parts.proofs.functions.declared_function.Goals as goal

pub returns-in-Some-FunctionDecl-clause-function : goal.returns-in-Some-FunctionDecl-clause-function
returns-in-Some-FunctionDecl-clause-function c =
    let d = c.args.w.now in
    let ns = nodes_in d.texts (shapes_of (program_of d c.args.home)) in
    let given = seen_parts c.in-Some-FunctionDecl.parts in
    record {
      parts = parts_told ns given;
      there = sym (rw c.in-Some-FunctionDecl.field-0-is at c.in-Some-FunctionDecl.ensures.form);
      count = names-counted ns (numbers_of given.params) ∙ length-map given.params (λ (id : NodeId). id.0);
      text = rw c.in-Some-FunctionDecl.field-0-is at c.in-Some-FunctionDecl.ensures.texts;
    }

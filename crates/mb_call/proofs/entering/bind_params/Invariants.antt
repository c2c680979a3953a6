use Rattle.std.proofs.Common.{◌≡◌, List, drop}
use Rattle.mb_call.proofs.entering.bind_params.Given as goal
use Rattle.mb_call.specs.machine.Functions.{params_at}
use Rattle.mb_frames.specs.Ready.{Changed}
use Rattle.mb_frames.specs.Resolved.{values_in}
use Rattle.mb_frames.specs.Standing.{forms_at}
use Rattle.mb_model.specs.Nodes.Functions.{bind_params}
use Rattle.mb_model.specs.Task.{Answer}
use Rattle.mb_model.specs.Writing.{Row}
use Rattle.mb_world.specs.Graph.{Graph, Item}
use Rattle.mb_world.specs.Image.{Image, entries_in, names_of}

abbrev pub invariant-loop-place : goal.invariant-loop-place
invariant-loop-place l =
    let xs = params_at (forms_at l.fn.w l.home) l.node.0 in
    let vs = values_in (names_of l.fn.w) l.arguments in
    record {
      same : (k : Answer → Graph → Row) (log : List Item) → bind_params l.scope.0 xs vs k (Image l.fn.w log)
          ≡ bind_params l.scope.0 (drop l.place xs) (drop l.place vs) k (Image l.w log);
      trace : entries_in l.w ≡ entries_in l.fn.w;
      kept : Changed l.home l.fn.w l.w;
    }

use Rattle.std.proofs.Common.{◌≡◌, List, drop}
use Rattle.mb_call.proofs.entering.declare.Given as goal
use Rattle.mb_frames.specs.Ready.{Changed}
use Rattle.mb_frames.specs.Rest.Parts.{body_at}
use Rattle.mb_frames.specs.Standing.{forms_at}
use Rattle.mb_model.specs.Nodes.Scopes.{declare}
use Rattle.mb_model.specs.Task.{Answer}
use Rattle.mb_model.specs.Writing.{Row}
use Rattle.mb_world.specs.Graph.{Graph, Item}
use Rattle.mb_world.specs.Image.{Image, entries_in}

abbrev pub invariant-loop-place : goal.invariant-loop-place
invariant-loop-place l =
    let ps = body_at (forms_at l.fn.w l.home) l.node.0 in
    record {
      same : (k : Answer → Graph → Row) (log : List Item) → declare l.home.0 l.scope.0 ps k (Image l.fn.w log)
          ≡ declare l.home.0 l.scope.0 (drop l.place ps) k (Image l.w log);
      trace : entries_in l.w ≡ entries_in l.fn.w;
      kept : Changed l.home l.fn.w l.w;
    }

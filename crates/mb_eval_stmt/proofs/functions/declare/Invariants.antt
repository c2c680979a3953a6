use Rattle.std.proofs.Common.{◌<◌, ◌≡◌, List, drop}
use Rattle.mb_frames.specs.Rest.Parts.{parts_at}
use Rattle.mb_frames.specs.Standing.{forms_at}
use Rattle.mb_frames.specs.Stepping.{Grew}
use Rattle.mb_model.specs.Nodes.Scopes.{declare}
use Rattle.mb_model.specs.Task.{Answer}
use Rattle.mb_model.specs.Writing.{Row}
use Rattle.mb_world.specs.Graph.{Graph, Item}
use Rattle.mb_world.specs.Ids.{HasItsIds}
use Rattle.mb_world.specs.Image.{Image, entries_in}
use Rattle.mb_frames.specs.Making.{HasPrototypes}
use Rattle.mb_frames.specs.Ready.{Changed, Holds, IsReady}
use Rattle.mb_frames.specs.Keeping.{scope_held}
use Rattle.mb_eval_stmt.proofs.functions.declare.Given as goal

abbrev pub invariant-loop-place : goal.invariant-loop-place
invariant-loop-place l =
    let ps = parts_at (forms_at l.fn.w l.home) l.node.0 in
    record {
      same : (k : Answer → Graph → Row) (log : List Item) → declare l.home.0 l.scope.0 ps k (Image l.fn.w log)
          ≡ declare l.home.0 l.scope.0 (drop l.place ps) k (Image l.w log);
      grew : Grew l.fn.w l.w;
      trace : entries_in l.w ≡ entries_in l.fn.w;
      ids : HasItsIds l.w;
      prototypes : HasPrototypes l.w l.home;
      kept : IsReady l.fn.w → l.home.0 < l.fn.w.sides → Holds l.fn.w l.home (scope_held l.scope) → Changed l.home
          l.fn.w l.w;
    }

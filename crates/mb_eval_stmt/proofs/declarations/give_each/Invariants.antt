use Rattle.std.proofs.Common.{◌<◌, ◌≡◌, List, drop}
use Rattle.mb_frames.specs.Resolved.{context_in}
use Rattle.mb_frames.specs.Rest.Parts.{parts_at}
use Rattle.mb_frames.specs.Standing.{forms_at}
use Rattle.mb_frames.specs.Stepping.{Grew}
use Rattle.mb_model.specs.Meaning.{finished}
use Rattle.mb_model.specs.Nodes.Statements.{give_each}
use Rattle.mb_world.specs.Graph.{Item}
use Rattle.mb_world.specs.Ids.{HasItsIds}
use Rattle.mb_world.specs.Image.{Image, entries_in, names_of}
use Rattle.mb_frames.specs.Ready.{Changed, Holds, IsReady}
use Rattle.mb_frames.specs.Keeping.{scope_held}
use Rattle.mb_eval_stmt.proofs.declarations.give_each.Given as goal

abbrev pub invariant-loop-place : goal.invariant-loop-place
invariant-loop-place l =
    let c = context_in (names_of l.fn.w) l.home.0 l.at in
    let ps = parts_at (forms_at l.fn.w l.home) l.node.0 in
    record {
      same : (log : List Item) → give_each c (drop l.next ps) finished (Image l.fn.w log) ≡ give_each c
          (drop l.place ps) finished (Image l.w log);
      grew : Grew l.fn.w l.w;
      trace : entries_in l.w ≡ entries_in l.fn.w;
      ids : HasItsIds l.w;
      kept : IsReady l.fn.w → l.home.0 < l.fn.w.sides → Holds l.fn.w l.home (scope_held l.at.scope) → Changed l.home
          l.fn.w l.w;
    }

use Rattle.std.proofs.Common.{◌≡◌, List, length, ◌-◌}
use Rattle.mb_model.specs.Nodes.Scopes.{find_name, resolve}
use Rattle.mb_base.specs.declared.value.Side.{Side}
use Rattle.mb_frames.specs.Ready.{IsReady}
use Rattle.mb_world.specs.Contained.{scope_home}
use Rattle.mb_world.specs.Graph.{Item}
use Rattle.mb_world.specs.Ids.{ScopeIn}
use Rattle.mb_world.specs.Image.{Image, names_of, text_in}
use Rattle.mb_eval_expr.proofs.names.find.Given as goal

abbrev pub invariant-loop-step : goal.invariant-loop-step
invariant-loop-step l = record {
  scope : ScopeIn l.w l.at;
  same : (log : List Item) → resolve (Image l.w log) l.fn.scope.0 (text_in (names_of l.w) l.name)
      ≡ find_name (l.step-end - l.step) (Image l.w log).scopes l.at.0 (text_in (names_of l.w) l.name);
  homes : (home : Side) → IsReady l.w → scope_home l.w l.fn.scope home → scope_home l.w l.at home;
  all : l.step-end ≡ length l.w.scopes;
}

use Rattle.std.proofs.Common.{◌≡◌, ◌≤◌, ◌<◌, length, get_or, sym, ap, ◌∙◌, arith}
use Rattle.std.specs.Prelude.{All}
use Rattle.mb_tree.specs.Names.{node_of}
use Rattle.mb_tree.specs.machine.Starts.{before}
use Rattle.mb_tree.proofs.Starts.{before-all}
use Rattle.mb_tree.proofs.program.Scopes.start.Goals as goal

pub returns-in-None : goal.returns-in-None
returns-in-None c =
    let names = c.self.inside.names.items in
    let starts = c.self.inside.starts.items in
    let far : length c.deref.result.now ≤ c.args.place = c.in-None.ensures.lookup.3 in
    let size : length c.deref.result.now ≡ length starts = ap length c.deref.ensures.value in
    let all : All (λ b. node_of b < c.args.place) names =
    λ k d l. let r : node_of (get_or names k d) < length starts = c.self.invariant.are.reach k d l in omega arith in
    ap length c.names.ensures ∙ ap length (sym c.self.view_is) ∙ sym (before-all c.args.place names all) ∙ ap (before c.args.place) c.self.view_is

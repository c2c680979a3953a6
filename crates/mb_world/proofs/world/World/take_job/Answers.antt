use Rattle.std.proofs.Common.{◌≡◌, refl, ◌<◌, length, ◌∙◌, ap, arith, drop, ◌++◌}
use Rattle.std.specs.Option.{option_to_list}
use Rattle.std.specs.Prelude.{All}
use Rattle.std.proofs.lemmas.List.{length-map}
use Rattle.std.proofs.lemmas.List.Elements.{All-drop}
use Rattle.mb_world.specs.Data.{queue_of}
use Rattle.mb_world.specs.Ids.{JobIn}
use Rattle.mb_world.specs.machine.Inside.{data_of}
use Rattle.mb_world.proofs.Worlds.{Index-queue, queue-in, head-is, head-in}
use Rattle.mb_world.proofs.Queues.{queue-is, written}
use Rattle.mb_world.proofs.world.World.take_job.Goals as goal

pub invariant_of-self : goal.invariant_of-self
invariant_of-self c =
    let l : c.args.side.0 < length c.self.inside.queues.items = omega (arith, c.requires, c.self.invariant.sized.eight_queues, length-map c.self.inside.queues.items (λ q. q.items)) in
    rw (written (λ q. q.items) c.self.inside.queues.items c.args.side.0 c.index_mut-queue.result.now c.pop_front.new.self l c.index_mut-queue.ensures.value (drop 1) c.pop_front.ensures.rest)
    (Index-queue (data_of c.self.inside) _ _ _ _ c.self.invariant c.args.side (drop 1 (queue_of (data_of c.self.inside) c.args.side)) (All-drop (JobIn (data_of c.self.inside)) 1 (queue_of (data_of c.self.inside) c.args.side) (queue-in (data_of c.self.inside) c.args.side c.self.invariant.ids (omega (arith, c.requires, c.self.invariant.sized.eight_queues)))))

pub returns-clause-taken : goal.returns-clause-taken
returns-clause-taken c =
    let l : c.args.side.0 < length c.self.inside.queues.items = omega (arith, c.requires, c.self.invariant.sized.eight_queues, length-map c.self.inside.queues.items (λ q. q.items)) in
    rw (written (λ q. q.items) c.self.inside.queues.items c.args.side.0 c.index_mut-queue.result.now c.pop_front.new.self l c.index_mut-queue.ensures.value (drop 1) c.pop_front.ensures.rest, ← c.self.view_is) refl

pub returns-clause-within : goal.returns-clause-within
returns-clause-within c =
    let l : c.args.side.0 < length c.self.inside.queues.items = omega (arith, c.requires, c.self.invariant.sized.eight_queues, length-map c.self.inside.queues.items (λ q. q.items)) in
    let q : queue_of (data_of c.self.inside) c.args.side ≡ c.index_mut-queue.result.now.items = queue-is (λ q. q.items) c.self.inside.queues.items c.args.side.0 c.index_mut-queue.result.now c.index_mut-queue.result.now l c.index_mut-queue.ensures.value in
    let a : All (JobIn (data_of c.self.inside)) c.index_mut-queue.result.now.items = rw q at (queue-in (data_of c.self.inside) c.args.side c.self.invariant.ids (omega (arith, c.requires, c.self.invariant.sized.eight_queues))) in
    rw (← c.self.view_is) (head-in (JobIn (data_of c.self.inside)) c.pop_front.result c.index_mut-queue.result.now.items (head-is c.pop_front.result c.index_mut-queue.result.now.items (c.pop_front.ensures.items ∙ ap (λ xs. option_to_list c.pop_front.result ++ xs) c.pop_front.ensures.rest)) a)

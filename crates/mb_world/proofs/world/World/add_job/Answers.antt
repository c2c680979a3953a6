use Rattle.std.proofs.Common.{refl, [], ◌∷◌, ◌++◌, ◌<◌, length, arith}
use Rattle.std.proofs.lemmas.List.{length-map}
use Rattle.std.proofs.lemmas.List.Elements.{All-push}
use Rattle.mb_world.specs.Data.{queue_of}
use Rattle.mb_world.specs.Ids.{JobIn}
use Rattle.mb_world.specs.machine.Inside.{data_of}
use Rattle.mb_world.proofs.Worlds.{Index-queue, queue-in}
use Rattle.mb_world.proofs.Queues.{written, kept, OnErr-of}
use Rattle.mb_world.proofs.world.World.add_job.Goals as goal

pub invariant_of-self : goal.invariant_of-self
invariant_of-self c =
    let l : c.args.side.0 < length c.self.inside.queues.items = omega (arith, c.requires.side, c.self.invariant.sized.eight_queues, length-map c.self.inside.queues.items (λ q. q.items)) in
    rw (kept (λ q. q.items) c.self.inside.queues.items c.args.side.0 c.index_mut-queue.result.now c.push_back.new.self l c.index_mut-queue.ensures.value c.in_err-push_back.ensures.items) c.self.invariant

pub returns-in_err-push_back-clause-kept : goal.returns-in_err-push_back-clause-kept
returns-in_err-push_back-clause-kept c =
    let l : c.args.side.0 < length c.self.inside.queues.items = omega (arith, c.requires.side, c.self.invariant.sized.eight_queues, length-map c.self.inside.queues.items (λ q. q.items)) in
    OnErr-of _ c.from_residual.result (rw (kept (λ q. q.items) c.self.inside.queues.items c.args.side.0 c.index_mut-queue.result.now c.push_back.new.self l c.index_mut-queue.ensures.value c.in_err-push_back.ensures.items) c.self.view_is)

pub invariant_of-self-2 : goal.invariant_of-self-2
invariant_of-self-2 c =
    let l : c.args.side.0 < length c.self.inside.queues.items = omega (arith, c.requires.side, c.self.invariant.sized.eight_queues, length-map c.self.inside.queues.items (λ q. q.items)) in
    let h : JobIn (data_of c.self.inside) c.args.job = rw (← c.self.view_is) at c.requires.job in
    rw (written (λ q. q.items) c.self.inside.queues.items c.args.side.0 c.index_mut-queue.result.now c.push_back.new.self l c.index_mut-queue.ensures.value (λ q. q ++ c.args.job ∷ []) c.in_ok-push_back.ensures.items)
    (Index-queue (data_of c.self.inside) _ _ _ _ c.self.invariant c.args.side (queue_of (data_of c.self.inside) c.args.side ++ c.args.job ∷ []) (All-push (JobIn (data_of c.self.inside)) (queue_of (data_of c.self.inside) c.args.side) c.args.job (queue-in (data_of c.self.inside) c.args.side c.self.invariant.ids (omega (arith, c.requires.side, c.self.invariant.sized.eight_queues))) h))

pub returns-clause-added : goal.returns-clause-added
returns-clause-added c =
    let l : c.args.side.0 < length c.self.inside.queues.items = omega (arith, c.requires.side, c.self.invariant.sized.eight_queues, length-map c.self.inside.queues.items (λ q. q.items)) in
    rw (written (λ q. q.items) c.self.inside.queues.items c.args.side.0 c.index_mut-queue.result.now c.push_back.new.self l c.index_mut-queue.ensures.value (λ q. q ++ c.args.job ∷ []) c.in_ok-push_back.ensures.items, ← c.self.view_is) refl

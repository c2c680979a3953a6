use Rattle.mb_reflect.proofs.objects.object_from.Goals as goal

pub prototype_or-prototype-requires-clause-place : goal.prototype_or-prototype-requires-clause-place
prototype_or-prototype-requires-clause-place c = λ e. cc

pub plain_from-requires : goal.plain_from-requires
plain_from-requires c =
    let a = c.requires.acts in
    record { acts = record { ready = a.ready; side = a.side; holds = c.prototype_or-prototype.ensures.held } }

pub returns-clause-part : goal.returns-clause-part
returns-clause-part c = λ f. rw (← c.prototype_or-prototype.ensures.value) (c.plain_from.ensures.part f)

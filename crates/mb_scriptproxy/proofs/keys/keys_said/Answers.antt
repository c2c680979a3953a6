use Rattle.mb_scriptproxy.proofs.keys.keys_said.Goals as goal

pub list_of-requires : goal.list_of-requires
list_of-requires c =
    let a = c.requires.acts in
    record { ready = a.ready; side = a.side; held = (a.holds.1.0, (a.holds.0, tt)) }

pub returns-clause-part : goal.returns-clause-part
returns-clause-part c = λ f. c.list_of.ensures.part f

pub returns-clause-keeps : goal.returns-clause-keeps
returns-clause-keeps c = c.list_of.ensures.keeps

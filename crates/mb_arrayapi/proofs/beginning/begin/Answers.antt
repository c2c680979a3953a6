use Rattle.mb_arrayapi.proofs.beginning.begin.Goals as goal

pub returns-in-ForEach-clause-part : goal.returns-in-ForEach-clause-part
returns-in-ForEach-clause-part c = rw c.in-ForEach.is c.for_each.ensures.part

pub returns-in-Map-clause-part : goal.returns-in-Map-clause-part
returns-in-Map-clause-part c = rw c.in-Map.is c.map.ensures.part

pub returns-in-Filter-clause-part : goal.returns-in-Filter-clause-part
returns-in-Filter-clause-part c = rw c.in-Filter.is c.filter.ensures.part

pub returns-in-Reduce-clause-part : goal.returns-in-Reduce-clause-part
returns-in-Reduce-clause-part c = rw c.in-Reduce.is c.reduce.ensures.part

use Rattle.mb_call.proofs.FieldsDone.{Sure-object, Sure-own, Sure-reflect, leaves-object, leaves-own, leaves-reflect}
use Rattle.mb_call.proofs.descriptors.after_desc.Goals as goal

pub returns-in-ObjectDefine : goal.returns-in-ObjectDefine
returns-in-ObjectDefine c = record {
  sure = λ d a. rw (c.in-ObjectDefine.is, c.define.ensures)
      (Sure-object c.args.home d c.in-ObjectDefine.object c.in-ObjectDefine.key c.args.desc
      (rw c.in-ObjectDefine.is at a.holds));
  leaves = λ d a. rw (c.in-ObjectDefine.is, c.define.ensures)
      (leaves-object c.args.home d c.in-ObjectDefine.object c.in-ObjectDefine.key c.args.desc
      (rw c.in-ObjectDefine.is at a.holds));
}

pub returns-in-ReflectDefine : goal.returns-in-ReflectDefine
returns-in-ReflectDefine c = record {
  sure = λ d a. rw (c.in-ReflectDefine.is, c.define-in-ReflectDefine.ensures)
      (Sure-reflect c.args.home d c.in-ReflectDefine.object c.in-ReflectDefine.key c.args.desc
      (rw c.in-ReflectDefine.is at a.holds));
  leaves = λ d a. rw (c.in-ReflectDefine.is, c.define-in-ReflectDefine.ensures)
      (leaves-reflect c.args.home d c.in-ReflectDefine.object c.in-ReflectDefine.key c.args.desc
      (rw c.in-ReflectDefine.is at a.holds));
}

pub returns-in-Own : goal.returns-in-Own
returns-in-Own c = record {
  sure = λ d a. rw (c.in-Own.is, c.asks.ensures)
      (Sure-own c.args.home d c.in-Own.target c.in-Own.key c.args.desc (rw c.in-Own.is at a.holds)
      c.complete-said.result c.complete-said.ensures);
  leaves = λ d a. rw (c.in-Own.is, c.asks.ensures)
      (leaves-own c.args.home d c.in-Own.target c.in-Own.key c.args.desc (rw c.in-Own.is at a.holds)
      c.complete-said.result c.complete-said.ensures);
}

use Rattle.std.proofs.Common.{refl}
use Rattle.mb_frames.specs.Sorts.{AValue}
use Rattle.mb_frames.specs.declared.reflecting.ReflectFrame.TheVariants as r
use Rattle.mb_frames.specs.declared.task.Method.TheVariants as m
use Rattle.mb_reflect.proofs.Doing.{done-asked, done-passed-on, keeps-asked, keeps-passed-on}
use Rattle.mb_reflect.proofs.keyed.asks_with_key.Goals as goal

pub returns-in-HasOwn-clause-part : goal.returns-in-HasOwn-clause-part
returns-in-HasOwn-clause-part c = λ f.
    let a = rw c.in-HasOwn.is at c.requires.acts in
    rw (c.in-HasOwn.is, c.waits.ensures)
    (done-asked c.args.home c.args.w.now f a.ready _ r.HasOwn (m.GetOwnProperty c.args.key) c.args.object AValue tt
    (a.holds.0, (a.holds.1.0, tt)) refl refl (λ log. refl)).part

pub returns-in-HasOwn-clause-keeps : goal.returns-in-HasOwn-clause-keeps
returns-in-HasOwn-clause-keeps c =
    let a = rw c.in-HasOwn.is at c.requires.acts in
    rw c.waits.ensures
    (keeps-asked c.args.home c.args.w.now a.ready r.HasOwn (m.GetOwnProperty c.args.key) c.args.object AValue tt
    (a.holds.0, (a.holds.1.0, tt)) refl refl)

pub returns-in-Describe-clause-part : goal.returns-in-Describe-clause-part
returns-in-Describe-clause-part c = λ f.
    let a = rw c.in-Describe.is at c.requires.acts in
    rw (c.in-Describe.is, c.waits-in-Describe.ensures)
    (done-asked c.args.home c.args.w.now f a.ready _ r.Described (m.GetOwnProperty c.args.key) c.args.object AValue tt
    (a.holds.0, (a.holds.1.0, tt)) refl refl (λ log. refl)).part

pub returns-in-Describe-clause-keeps : goal.returns-in-Describe-clause-keeps
returns-in-Describe-clause-keeps c =
    let a = rw c.in-Describe.is at c.requires.acts in
    rw c.waits-in-Describe.ensures
    (keeps-asked c.args.home c.args.w.now a.ready r.Described (m.GetOwnProperty c.args.key) c.args.object AValue tt
    (a.holds.0, (a.holds.1.0, tt)) refl refl)

pub returns-in-Delete-clause-part : goal.returns-in-Delete-clause-part
returns-in-Delete-clause-part c = λ f.
    let a = rw c.in-Delete.is at c.requires.acts in
    rw (c.in-Delete.is, c.waits-in-Delete.ensures)
    (done-asked c.args.home c.args.w.now f a.ready _ r.Truth (m.Delete c.args.key) c.args.object AValue tt
    (a.holds.0, (a.holds.1.0, tt)) refl refl (λ log. refl)).part

pub returns-in-Delete-clause-keeps : goal.returns-in-Delete-clause-keeps
returns-in-Delete-clause-keeps c =
    let a = rw c.in-Delete.is at c.requires.acts in
    rw c.waits-in-Delete.ensures
    (keeps-asked c.args.home c.args.w.now a.ready r.Truth (m.Delete c.args.key) c.args.object AValue tt (
      a.holds.0,
      (a.holds.1.0, tt),
    ) refl refl)

pub returns-in-Has-clause-part : goal.returns-in-Has-clause-part
returns-in-Has-clause-part c = λ f.
    let a = rw c.in-Has.is at c.requires.acts in
    rw (c.in-Has.is, c.waits-in-Has.ensures)
    (done-asked c.args.home c.args.w.now f a.ready _ r.Truth (m.HasProperty c.args.key) c.args.object AValue tt
    (a.holds.0, (a.holds.1.0, tt)) refl refl (λ log. refl)).part

pub returns-in-Has-clause-keeps : goal.returns-in-Has-clause-keeps
returns-in-Has-clause-keeps c =
    let a = rw c.in-Has.is at c.requires.acts in
    rw c.waits-in-Has.ensures
    (keeps-asked c.args.home c.args.w.now a.ready r.Truth (m.HasProperty c.args.key) c.args.object AValue tt
    (a.holds.0, (a.holds.1.0, tt)) refl refl)

pub returns-in-Get-clause-part : goal.returns-in-Get-clause-part
returns-in-Get-clause-part c = λ f.
    let a = rw c.in-Get.is at c.requires.acts in
    rw (c.in-Get.is, c.performs.ensures)
    (done-passed-on c.args.home c.args.w.now f a.ready _ (m.Get c.args.key c.in-Get.receiver) c.args.object AValue
    a.holds refl (λ log. refl)).part

pub returns-in-Get-clause-keeps : goal.returns-in-Get-clause-keeps
returns-in-Get-clause-keeps c =
    let a = rw c.in-Get.is at c.requires.acts in
    rw c.performs.ensures
    (keeps-passed-on c.args.home c.args.w.now a.ready (m.Get c.args.key c.in-Get.receiver) c.args.object AValue
    a.holds refl)

pub returns-in-Set-clause-part : goal.returns-in-Set-clause-part
returns-in-Set-clause-part c = λ f.
    let a = rw c.in-Set.is at c.requires.acts in
    rw (c.in-Set.is, c.waits-in-Set.ensures)
    (done-asked c.args.home c.args.w.now f a.ready _ r.Truth (m.Set c.args.key c.in-Set.value c.in-Set.receiver)
    c.args.object AValue tt
    a.holds refl refl (λ log. refl)).part

pub returns-in-Set-clause-keeps : goal.returns-in-Set-clause-keeps
returns-in-Set-clause-keeps c =
    let a = rw c.in-Set.is at c.requires.acts in
    rw c.waits-in-Set.ensures
    (keeps-asked c.args.home c.args.w.now a.ready r.Truth (m.Set c.args.key c.in-Set.value c.in-Set.receiver)
    c.args.object AValue tt a.holds refl refl)

pub todesc-requires-clause-held : goal.todesc-requires-clause-held
todesc-requires-clause-held c =
    let a = rw c.in-ObjectDefine.is at c.requires.acts in
    (a.holds.1.1.0, (a.holds.0, (a.holds.1.0, tt)))

pub returns-in-ObjectDefine-clause-part : goal.returns-in-ObjectDefine-clause-part
returns-in-ObjectDefine-clause-part c = λ f. rw c.in-ObjectDefine.is (c.todesc.ensures.part f)

pub returns-in-ObjectDefine-clause-keeps : goal.returns-in-ObjectDefine-clause-keeps
returns-in-ObjectDefine-clause-keeps c = c.todesc.ensures.keeps

pub todesc-requires-in-ReflectDefine-clause-held : goal.todesc-requires-in-ReflectDefine-clause-held
todesc-requires-in-ReflectDefine-clause-held c =
    let a = rw c.in-ReflectDefine.is at c.requires.acts in
    (a.holds.1.1.0, (a.holds.0, (a.holds.1.0, tt)))

pub returns-in-ReflectDefine-clause-part : goal.returns-in-ReflectDefine-clause-part
returns-in-ReflectDefine-clause-part c = λ f. rw c.in-ReflectDefine.is (c.todesc-in-ReflectDefine.ensures.part f)

pub returns-in-ReflectDefine-clause-keeps : goal.returns-in-ReflectDefine-clause-keeps
returns-in-ReflectDefine-clause-keeps c = c.todesc-in-ReflectDefine.ensures.keeps

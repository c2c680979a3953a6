use Rattle.std.proofs.Common.{Bool, Some, ap, sym}
use Rattle.mb_call.proofs.Fielding.{getter-more, setter-more, value-more}
use Rattle.mb_call.proofs.descriptors.with_field.Goals as goal
use Rattle.mb_frames.specs.Held.{HeldValue}
use Rattle.mb_frames.specs.Ready.{MayHold}
use Rattle.mb_model.specs.Writing.{unless_type_error}
use Rattle.mb_world.specs.Image.{Image, Resolve, desc_in, names_of}

pub returns-in_err-get-in-Get-clause-field : goal.returns-in_err-get-in-Get-clause-field
returns-in_err-get-in-Get-clause-field c = λ log k.
    let n = names_of c.args.w.now in
    rw (c.in-Get.is, c.from_residual.ensures)
    (ap (λ (b : Bool). unless_type_error c.args.home.0 b
    (λ a. k (record (desc_in (Resolve n) c.args.desc) { get = Some (Resolve n c.args.x) })) (Image c.args.w.now log))
    (sym (c.in_err-get-in-Get.ensures.part log)))

pub returns-in_err-set-in-Set-clause-field : goal.returns-in_err-set-in-Set-clause-field
returns-in_err-set-in-Set-clause-field c = λ log k.
    let n = names_of c.args.w.now in
    rw (c.in-Set.is, c.from_residual-in_err-set-in-Set.ensures)
    (ap (λ (b : Bool). unless_type_error c.args.home.0 b
    (λ a. k (record (desc_in (Resolve n) c.args.desc) { set = Some (Resolve n c.args.x) })) (Image c.args.w.now log))
    (sym (c.in_err-set-in-Set.ensures.part log)))

pub returns-in-Value-clause-held : goal.returns-in-Value-clause-held
returns-in-Value-clause-held c =
    let h = c.requires.acts.holds in
    (value-more c.args.w.now c.args.home c.args.desc h.1.0 c.args.x h.0, tt)

pub returns-in_ok-get-in-Get-clause-held : goal.returns-in_ok-get-in-Get-clause-held
returns-in_ok-get-in-Get-clause-held c =
    let h = c.requires.acts.holds in
    let q = c.in_ok-get-in-Get.ensures in
    let k : MayHold c.args.w.now c.args.home (HeldValue c.in_ok-get-in-Get.get) = rw q.same h.0 in
    (getter-more c.args.w.now c.args.home c.args.desc h.1.0 c.in_ok-get-in-Get.get k q.callable, tt)

pub returns-in_ok-set-in-Set-clause-held : goal.returns-in_ok-set-in-Set-clause-held
returns-in_ok-set-in-Set-clause-held c =
    let h = c.requires.acts.holds in
    let q = c.in_ok-set-in-Set.ensures in
    let k : MayHold c.args.w.now c.args.home (HeldValue c.in_ok-set-in-Set.set) = rw q.same h.0 in
    (setter-more c.args.w.now c.args.home c.args.desc h.1.0 c.in_ok-set-in-Set.set k q.callable, tt)

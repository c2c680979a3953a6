use Rattle.std.proofs.Common.{ap, ◌∙◌, refl}
use Rattle.mb_world.specs.Data.{with_proto}
use Rattle.mb_world.specs.Image.{names_of, Resolve}
use Rattle.mb_world.specs.Ordinary.{with_prototype}
use Rattle.mb_ordinary.specs.Objects.{object_at}
use Rattle.mb_ordinary.proofs.Cells.{mapped}
use Rattle.mb_ordinary.proofs.Visiting.{ordinary-in, set-meant}
use Rattle.mb_ordinary.proofs.prototypes.set_proto.Goals as goal

pub returns-in_err-answer-in-None-clause-meant : goal.returns-in_err-answer-in-None-clause-meant
returns-in_err-answer-in-None-clause-meant c = set-meant c.args.w.now c.args.o c.args.p c.args.fuel.now c.proto_answer.result c.proto_answer.ensures.answer c.proto_answer.ensures.meant

pub set_proto-requires-clause-object : goal.set_proto-requires-clause-object
set_proto-requires-clause-object c = ordinary-in c.args.w.now c.args.o c.requires.object

pub returns-then-answer-clause-meant : goal.returns-then-answer-clause-meant
returns-then-answer-clause-meant c = set-meant c.args.w.now c.args.o c.args.p c.args.fuel.now c.proto_answer.result c.proto_answer.ensures.answer c.proto_answer.ensures.meant

pub returns-then-answer-clause-object : goal.returns-then-answer-clause-object
returns-then-answer-clause-object c h =
    ap (λ d. object_at d c.args.o) c.set_proto.ensures
    ∙ mapped c.args.w.now c.args.o (with_proto c.args.p) (with_prototype (Resolve (names_of c.args.w.now) c.args.p)) (λ x. refl) (λ x. refl) c.requires.object

pub returns-else-answer-clause-meant : goal.returns-else-answer-clause-meant
returns-else-answer-clause-meant c = set-meant c.args.w.now c.args.o c.args.p c.args.fuel.now c.proto_answer.result c.proto_answer.ensures.answer c.proto_answer.ensures.meant

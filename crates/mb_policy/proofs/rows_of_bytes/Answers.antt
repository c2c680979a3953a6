use Rattle.std.proofs.Common.{◌∙◌, ap, sym, subst, true≢false, Option}
use Rattle.toml.specs.Data.{Members}
use Rattle.toml.specs.View.{table_view}
use Rattle.mb_policy.specs.Policy.{by_document}
use Rattle.mb_policy.specs.machine.Answers.{AnswersRows}
use Rattle.mb_policy.proofs.Files.{accepted, refused}
use Rattle.mb_policy.proofs.rows_of_bytes.Goals as goal

pub returns-in-Err-clause-answers : goal.returns-in-Err-clause-answers
returns-in-Err-clause-answers c =
    ap by_document (refused c.args.bytes.now
    (c.in-Err.ensures.refused (λ m. absurd (true≢false (sym (c.is_memory.ensures.1 m) ∙ c.if-is_memory.false)))))

pub returns-clause-answers : goal.returns-clause-answers
returns-clause-answers c =
    let P : Option Members → Type 0 = λ o. AnswersRows c.read_file.new.texts c.read_file.result (by_document o) in
    subst P (sym (accepted c.args.bytes.now (table_view c.in-Ok.file) c.in-Ok.ensures.ok.0 c.in-Ok.ensures.ok.1)) c.read_file.ensures.answers

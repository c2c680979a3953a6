use Rattle.std.proofs.Common.{sym, subst, Global}
use Rattle.std.specs.Str.{IsValidUpTo}
use Rattle.mb_lexer.specs.declared.fault.LexFault.TheVariants.{Utf8}
use Rattle.mb_lexer.proofs.Lexed.{lexed_fault, lexed_memory}
use Rattle.mb_lexer.proofs.without_memory.Goals as goal

pub returns-in-Ok : goal.returns-in-Ok
returns-in-Ok c = record { answer = λ texts. lexed_memory Global texts c.args.bytes.now c.in-Ok.ensures.cases.1 }

pub returns-in-Err : goal.returns-in-Err
returns-in-Err c = record {
  answer = λ texts. lexed_fault Global texts c.args.bytes.now (Utf8 c.valid_up_to.result)
      (subst (λ n. IsValidUpTo c.args.bytes.now n) (sym c.valid_up_to.ensures) c.in-Err.ensures.cases.1);
}

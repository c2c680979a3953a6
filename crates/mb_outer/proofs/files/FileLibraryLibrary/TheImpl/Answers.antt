use Rattle.std.proofs.Common.{true≢false, rules, refl, sym, None, ℕ, List}
use Rattle.mb_outer.specs.Causes.{Starts}
use Rattle.mb_outer.specs.declared.library.Start.{Start}
use Rattle.mb_outer.specs.declared.library.Start.TheVariants as start
use Rattle.mb_outer.proofs.files.FileLibraryLibrary.TheImpl.Goals as goal

-- nothing is told of a start
untold : (name : List ℕ) (answer : Start) → Starts None name None answer
untold name start.Started = tt
untold name start.Failed = refl

pub start-tells : goal.start-tells
start-tells g c = record {
  same = refl;
  sound = λ h. h;
  cause = search rules;
  rest = untold c.args.name.now c.result;
  never = λ shelf sound. absurd (true≢false (sym sound));
}

pub read-tells : goal.read-tells
read-tells g c = record {
  same = refl;
  sound = λ h. h;
  cause = search rules;
  bound = search rules;
  bytes = tt;
  never = λ sound. absurd (true≢false (sym sound));
  idle = λ told. absurd (true≢false (sym told));
}

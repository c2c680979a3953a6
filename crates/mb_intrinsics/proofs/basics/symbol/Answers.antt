use Rattle.std.proofs.Common.{ap}
use Rattle.mb_frames.proofs.Passed.{Part-by}
use Rattle.mb_intrinsics.proofs.Symbols.{symbol-value}
use Rattle.mb_model.specs.BuiltIns.Basics.{symbol, symbol_described}
use Rattle.mb_model.specs.Meaning.{finished}
use Rattle.mb_model.specs.Task.{Answer}
use Rattle.mb_model.specs.Writing.{Does}
use Rattle.mb_world.specs.Image.{Image, Resolve, names_of}
use Rattle.mb_intrinsics.proofs.basics.symbol.Goals as goal

pub returns-in_default-clause-row : goal.returns-in_default-clause-row
returns-in_default-clause-row c = λ f.
    let d = c.args.w.now in
    let home = c.args.home in
    let x = Resolve (names_of d) c.args.description in
    Part-by home c.symbol_described.result d c.symbol_described.new.w f f (symbol home.0 x finished)
    (symbol_described home.0 x finished)
    (λ log. ap (λ (y : Does Answer). y finished (Image d log))
    (symbol-value (names_of d) home.0 c.args.description c.in_default.not-Undefined))
    (c.symbol_described.ensures.row f)

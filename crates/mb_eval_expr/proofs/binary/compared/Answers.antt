use Rattle.std.proofs.Common.{sym}
use Rattle.mb_eval_expr.proofs.Comparing.{Computes-ordering}
use Rattle.mb_world.specs.Image.{Resolve, names_of}
use Rattle.mb_eval_expr.proofs.binary.compared.Goals as goal

pub returns-in-Some-clause-row : goal.returns-in-Some-clause-row
returns-in-Some-clause-row c = λ home f.
    let d = c.args.w.now in
    let h = Computes-ordering home d f c.args.sign (Resolve (names_of d) c.args.a) (Resolve (names_of d) c.args.b)
    c.requires.sign in
    rw c.holds.ensures (rw (sym c.in-Some.ensures) at h)

pub returns-in-None-clause-row : goal.returns-in-None-clause-row
returns-in-None-clause-row c = λ home f.
    let d = c.args.w.now in
    let h = Computes-ordering home d f c.args.sign (Resolve (names_of d) c.args.a) (Resolve (names_of d) c.args.b)
    c.requires.sign in
    rw (sym c.in-None.ensures) at h

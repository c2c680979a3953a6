use Rattle.std.proofs.Common.{List, [], subst, ℕ, ◌++◌, ◌∙◌, ◌∷◌, ◌≡◌}
use Rattle.mb_story.proofs.Putting.{took-part}
use Rattle.mb_story.specs.declared.ending.RunFault.TheVariants.{Write}
use Rattle.mb_story.specs.machine.Telling.{Sunk, TookPart, sunk}
use Rattle.mb_story.proofs.puts.put_line.Goals as goal

pub returns-clause-takes : goal.returns-clause-takes
returns-clause-takes g c = λ start before h.
    let now : Sunk = sunk (g.K.Sink.taken c.args.sink.now) (g.K.Sink.room c.args.sink.now) in
    let new : Sunk = sunk (g.K.Sink.taken c.put.new.self) (g.K.Sink.room c.put.new.self) in
    let bytes : c.as_slice.result.now ≡ c.args.line.items ++ 10 ∷ [] =
    c.as_slice.ensures.value ∙ c.in_ok-push.ensures.items in
    subst (λ (b : List ℕ). TookPart start new Write (before ++ b)) bytes
    (took-part start now new before c.as_slice.result.now h c.in-Failed.ensures.puts c.in-Failed.ensures.fits)

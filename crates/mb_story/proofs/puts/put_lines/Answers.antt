use Rattle.std.proofs.Common.{List, [], ap, append_assoc, arith, length, subst, sym, ℕ, ◌++◌, ◌∙◌, ◌∷◌, ◌≡◌}
use Rattle.std.proofs.lemmas.Result.{err_from_is_err_and}
use Rattle.std.specs.Prelude.{Vec}
use Rattle.std.specs.Vec.Iter.{into_iter_items}
use Rattle.std.specs.declared.alloc.Global.{Global}
use Rattle.mb_model.specs.Text.{with_feeds}
use Rattle.mb_story.proofs.Lines.{feeds-line, feeds-rest}
use Rattle.mb_story.proofs.Putting.{part-of}
use Rattle.mb_story.specs.machine.Telling.{Sunk, Took, TookPart, contents_of, sunk}
use Rattle.mb_story.proofs.puts.put_lines.Goals as goal

pub loop-line-preserved : goal.loop-line-preserved
loop-line-preserved g c =
    let at = c.loop-line in
    let x = c.in-Some.line in
    let steps : into_iter_items at.line-iterator ≡ x ∷ into_iter_items c.next.new.self = c.in-Some.ensures.steps.0 in
    let new : Sunk = sunk (g.K.Sink.taken c.put_line.new.sink) (g.K.Sink.room c.put_line.new.sink) in
    record {
      items = append_assoc at.yielded (x ∷ []) _ ∙ rw (← steps) at.invariant.items;
      count =
          let was = at.invariant.count in
          let gone = c.in-Some.ensures.steps.1 in
          let short = ap length steps in
          omega arith;
      faults = c.in_ok-put_line.ensures.faults ∙ at.invariant.faults;
      took = λ start before h.
          let so : List ℕ = before ++ with_feeds (contents_of at.yielded) in
          subst (Took start new) (feeds-line before at.yielded x)
          (c.in_ok-put_line.ensures.takes start so (at.invariant.took start before h));
    }

pub returns-in_err-put_line-clause-takes : goal.returns-in_err-put_line-clause-takes
returns-in_err-put_line-clause-takes g c = λ start before h.
    let at = c.loop-line in
    let x = c.in-Some.line in
    let rest : List (Vec ℕ Global) = into_iter_items c.next.new.self in
    let steps : into_iter_items at.line-iterator ≡ x ∷ rest = c.in-Some.ensures.steps.0 in
    let p = err_from_is_err_and c.from_residual.result c.from_residual.ensures.1 in
    let new : Sunk = sunk (g.K.Sink.taken c.put_line.new.sink) (g.K.Sink.room c.put_line.new.sink) in
    let so : List ℕ = before ++ with_feeds (contents_of at.yielded) in
    let front : List ℕ = before ++ with_feeds (contents_of (at.yielded ++ x ∷ [])) in
    let all : at.yielded ++ x ∷ rest ≡ c.args.lines.items =
    ap (λ (l : List (Vec ℕ Global)). at.yielded ++ l) (sym steps) ∙ at.invariant.items
    ∙ c.into_iter-line-iterator.ensures.into_iter_gives.0 in
    let whole : before ++ with_feeds (contents_of c.args.lines.items) ≡ front ++ with_feeds (contents_of rest) =
    ap (λ (ls : List (Vec ℕ Global)). before ++ with_feeds (contents_of ls)) (sym all)
    ∙ feeds-rest before at.yielded x rest in
    let part : TookPart start new c.in_err-put_line.field-0.0 front =
    subst (TookPart start new c.in_err-put_line.field-0.0) (feeds-line before at.yielded x)
    (c.in_err-put_line.ensures.takes start so (at.invariant.took start before h)) in
    rw (p.1, p.2) (part-of start new c.in_err-put_line.field-0.0 front
    (before ++ with_feeds (contents_of c.args.lines.items)) (with_feeds (contents_of rest), whole) part)

use Rattle.std.proofs.Common.{◌≡◌, ◌<◌, ap, ◌∙◌, arith, length, false}
use Rattle.std.proofs.lemmas.Grind.{common_steps}
use Rattle.mb_text.specs.Texts.{has_text, texts_of}
use Rattle.mb_text.proofs.Tables.{distinct-push, index-push, slice_get-push}
use Rattle.mb_text.proofs.texts.Texts.append.Goals.{in-Ok, in-Err}
use Rattle.mb_text.proofs.texts.Texts.append.Goals as goal

pub invariant_of-self-in-Ok : goal.invariant_of-self-in-Ok
invariant_of-self-in-Ok c =
    let new : has_text (texts_of c.self.inside.list.items) c.args.text.items ≡ false = ap (λ ts. has_text ts c.args.text.items) c.self.view_is ∙ c.requires in
    let room : length c.self.inside.list.items < 4294967296 = omega arith in
    let last : c.len-2.result ≡ length c.self.inside.list.items = omega arith in
    let same = c.in_ok-key.ensures ∙ c.deref.ensures.value in
    rw (c.in_ok-push.ensures.items, c.in-Ok.ensures.entries) (
      grind (arith, common_steps),
      distinct-push c.self.inside.list.items c.args.text c.self.invariant.1 new,
      index-push c.self.inside.ids.entries c.self.inside.list.items c.in_ok-key.key c.args.text (record { 0 = c.len-2.result }) same c.self.invariant.2 new last,
    )

pub returns-clause-text : goal.returns-clause-text
returns-clause-text c = elim c.match-insert.branch [
  | in-Ok w ↦
      let last : c.len-2.result ≡ length c.self.inside.list.items = omega arith in
      rw (w.result-is, w.self-is, c.in_ok-push.ensures.items) (slice_get-push c.self.inside.list.items c.args.text c.len-2.result last)
  | in-Err w ↦ rw w.result-is tt
]

pub returns-clause-distinct : goal.returns-clause-distinct
returns-clause-distinct c = elim c.match-insert.branch [
  | in-Ok w ↦
      let new : has_text (texts_of c.self.inside.list.items) c.args.text.items ≡ false = ap (λ ts. has_text ts c.args.text.items) c.self.view_is ∙ c.requires in
      rw (w.self-is, c.in_ok-push.ensures.items) (distinct-push c.self.inside.list.items c.args.text c.self.invariant.1 new)
  | in-Err w ↦
      let kept : texts_of w.pop.new.self.items ≡ texts_of c.self.inside.list.items = grind (arith, common_steps) in
      rw (w.self-is, kept) c.self.invariant.1
]

use Rattle.std.proofs.Common.{◌≡◌, ℕ, ◌<◌, List, ◌++◌, length, sym, ap, subst, ◌∙◌, append_assoc, arith}
use Rattle.std.proofs.lemmas.Result.{on_ok_weaker}
use Rattle.mb_lexer.specs.Feeding.{Fed}
use Rattle.mb_lexer.proofs.Fed.{fed_back, fed_cleared}
use Rattle.mb_lexer.proofs.lexer.Lexer.feed.Goals as goal

pub returns-clause-fed : goal.returns-clause-fed
returns-clause-fed c =
    let ok = c.self.inside.pending.ok.0 in
    let p : 0 < length c.self.inside.pending.items = grind (arith, ok, c.is_empty.ensures, c.if-is_empty.false) in
    let all : c.deref-2.result.now ≡ c.self.inside.pending.items ++ c.args.piece.now =
    c.deref-2.ensures.value ∙ c.in_ok-extend_from_slice.ensures.items ∙ ap (λ (xs : List ℕ). xs ++ c.args.piece.now) (c.in_ok-bytes.ensures.items ∙ c.deref.ensures.value) in
    on_ok_weaker c.read-2.result
    (λ e bytes h.
    let b = fed_back _ c.args.texts.now bytes p (subst (λ k. Fed k c.args.texts.now bytes) (sym c.self.view_is) h) in
    subst (λ xs. Fed c.read-2.new.self c.read-2.new.texts xs)
    (ap (λ xs. b.0 ++ xs) all ∙ sym (append_assoc b.0 c.self.inside.pending.items c.args.piece.now) ∙ ap (λ xs. xs ++ c.args.piece.now) (sym b.1))
    (e b.0 (fed_cleared _ c.args.texts.now b.0 _ _ c.clear.ensures.items (c.len.ensures ∙ ok) b.2)))
    c.read-2.ensures.fed

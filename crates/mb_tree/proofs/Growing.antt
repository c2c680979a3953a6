-- Nodes that stand first.
use Rattle.std.proofs.Common.{◌≡◌, List, [], ◌∷◌, ◌++◌, sym, ap, ◌∙◌, append-nil, append_assoc}
use Rattle.mb_tree.specs.Roses.{Shape, Extends}

pub extends_same : {old new : List Shape} → new ≡ old → Extends old new
extends_same {old = old} e = record { added = []; is = e ∙ sym (append-nil old) }

pub extends_on : {old new newer : List Shape} (s : Shape) → Extends old new → newer ≡ new ++ s ∷ [] → Extends old newer
extends_on {old = old} s h e = record { added = h.added ++ s ∷ []; is = e ∙ ap (λ x. x ++ s ∷ []) h.is ∙ append_assoc old h.added (s ∷ []) }

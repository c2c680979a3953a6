-- Tables that get further texts.
use Rattle.std.proofs.Common.{ℕ, List, [], ◌++◌, sym, ap, ◌∙◌, append_assoc}
use Rattle.std.proofs.lemmas.List.{append-nil}
use Rattle.mb_text.specs.Texts.{KeepsIds}

pub keeps_ids_none : (texts : List (List ℕ)) → KeepsIds texts texts
keeps_ids_none texts = ([], sym (append-nil texts))

pub keeps_ids_more : (a b c : List (List ℕ)) → KeepsIds a b → KeepsIds b c → KeepsIds a c
keeps_ids_more a b c e f = (e.0 ++ f.0, f.1 ∙ ap (λ xs. xs ++ f.0) e.1 ∙ append_assoc a e.0 f.0)
